use Rattle.std.proofs.Common.{◌≡◌, ℕ, suc, ◌+◌, List, [], ◌∷◌, drop, slice_index_or, sym, ap, ◌∙◌, subst, arith}
use Rattle.std.proofs.Math.Seq.{drop-cons}
use Rattle.std.proofs.lemmas.List.{drop_all}
use Rattle.auto_core.specs.Automaton.{Automaton}
use Rattle.set_rows.specs.Sets.{IsRow}
use Rattle.set_rows.proofs.ReachLemmas.{IsUnderWay, goes_on, ends}
use Rattle.set_rows.proofs.reaching.write_reached.Goals as goal

pub loop-at-preserved : goal.loop-at-preserved
loop-at-preserved c =
    let A : Automaton = c.args.automaton.now in
    let word : List ℕ = c.args.word.now in
    let at : ℕ = c.loop-at.at in
    let next : List ℕ = c.write_after.new.out in
    let same : next ≡ c.copy_from_slice.new.self = sym c.copy_from_slice.ensures.after in
    let rest : drop at word ≡ slice_index_or word at 0 ∷ drop (at + 1) word =
    drop-cons word at 0 c.loop-at-test.true ∙ (let e : suc at ≡ at + 1 = omega arith in ap (λ n. slice_index_or word at 0 ∷ drop n word) e) in
    let before : IsUnderWay A word c.loop-at.row (slice_index_or word at 0 ∷ drop (at + 1) word) = subst (IsUnderWay A word c.loop-at.row) rest c.loop-at.invariant.under_way in
    let after : IsUnderWay A word next (drop (at + 1) word) = goes_on A word c.loop-at.row next (slice_index_or word at 0) (drop (at + 1) word) c.write_after.ensures.members before in
    record {
      row = subst (IsRow A.states) same c.write_after.ensures.row;
      len = c.write_after.ensures.row.len;
      under_way = subst (λ l. IsUnderWay A word l (drop (at + 1) word)) same after;
    }

pub returns-clause-members : goal.returns-clause-members
returns-clause-members c =
    let A : Automaton = c.args.automaton.now in
    let word : List ℕ = c.args.word.now in
    let past = c.loop-at-test.false in
    let none : drop c.loop-at.at word ≡ [] = drop_all c.loop-at.at word (omega arith) in
    ends A word c.loop-at.row (subst (IsUnderWay A word c.loop-at.row) none c.loop-at.invariant.under_way)
