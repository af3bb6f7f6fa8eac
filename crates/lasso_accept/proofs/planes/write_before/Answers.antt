use Rattle.std.proofs.Common.{◌≡◌, ℕ, ◌-◌, ◌+◌, ◌<◌, List, ◌∷◌, ◌++◌, take, drop, get_or, length, sym, ap, ◌∙◌, subst, rules, append_assoc, arith}
use Rattle.std.proofs.lemmas.List.{drop_all, drop_more, take-append-drop}
use Rattle.lasso_accept.specs.Plane.{ArePlanes}
use Rattle.lasso_accept.proofs.PlaneLemmas.{planes_end}
use Rattle.lasso_accept.proofs.planes.write_before.Goals as goal

pub loop-at-init : goal.loop-at-init
loop-at-init c = λ w planes.
    let word = c.args.word.now in
    let P : List ℕ → Type 0 = λ x. ArePlanes c.args.automaton.now (x ++ w) c.args.width c.args.any.now c.args.flagged.now in
    subst P (sym (drop_all (length word) word (omega arith))) planes

pub loop-at-preserved : goal.loop-at-preserved
loop-at-preserved c = λ w before.
    let A = c.args.automaton.now in
    let word = c.args.word.now in
    let at : ℕ = c.loop-at.at - 1 in
    let next : at + 1 ≡ c.loop-at.at = search rules in
    let at_in : at < length word = search rules in
    let is : drop at word ≡ get_or word at 0 ∷ drop c.loop-at.at word = drop_more word at 0 at_in ∙ ap (λ k. get_or word at 0 ∷ drop k word) next in
    let P : List ℕ → Type 0 = λ x. ArePlanes A (x ++ w) c.args.width c.copy_from_slice.new.self c.copy_from_slice-in-loop-at.new.self in
    let whole : List ℕ = get_or word at 0 ∷ (drop c.loop-at.at word ++ w) in
    let Q : List ℕ → Type 0 = λ x. ArePlanes A whole c.args.width x c.prepend.new.new_flagged in
    let R : List ℕ → Type 0 = λ x. ArePlanes A whole c.args.width c.copy_from_slice.new.self x in
    let planes : ArePlanes A whole c.args.width c.prepend.new.new_any c.prepend.new.new_flagged = c.prepend.ensures (drop c.loop-at.at word ++ w) (c.loop-at.invariant w before) in
    subst P (sym is)
    (subst R (sym c.copy_from_slice-in-loop-at.ensures.after) (subst Q (sym c.copy_from_slice.ensures.after) planes))

pub returns-then-is_clear : goal.returns-then-is_clear
returns-then-is_clear c = λ w before.
    let word = c.args.word.now in
    let front = take c.loop-at.at word in
    let end = drop c.loop-at.at word in
    let P : List ℕ → Type 0 = λ x. ArePlanes c.args.automaton.now x c.args.width c.loop-at.any c.loop-at.flagged in
    subst P (sym (append_assoc front end w) ∙ ap (λ x. x ++ w) (take-append-drop c.loop-at.at word))
    (planes_end c.args.automaton.now c.requires.valid front (end ++ w) c.args.width c.loop-at.any c.loop-at.flagged (c.loop-at.invariant w before) (search rules))

pub returns : goal.returns
returns c = λ w before.
    let over : c.loop-at.at ≡ 0 = search rules in
    let P : ℕ → Type 0 = λ k. ArePlanes c.args.automaton.now (drop k c.args.word.now ++ w) c.args.width c.loop-at.any c.loop-at.flagged in
    subst P over (c.loop-at.invariant w before)
