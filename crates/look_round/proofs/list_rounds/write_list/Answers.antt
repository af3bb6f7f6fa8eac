use Rattle.std.proofs.Common.{◌≡◌, ℕ, ◌+◌, ◌<◌, ◌⊎◌, List, [], ◌∷◌, ◌++◌, length, set, Contains, take, slice_index_or, sym, subst, arith}
use Rattle.std.proofs.lemmas.List.{take_more}
use Rattle.look_round.specs.Listed.{Lists}
use Rattle.look_round.proofs.ListedLemmas.{lists_one, lists_same, lists_then, one_more_member}
use Rattle.look_round.proofs.list_rounds.write_list.Goals as goal
use Rattle.look_round.proofs.list_rounds.write_list.Goals.{then-end-listed, else-end-listed}

pub loop-i-preserved : goal.loop-i-preserved
loop-i-preserved c =
    let list = c.args.list.now in
    let old = c.args.listed.now in
    let now = c.loop-i.listed in
    let from = c.args.from in
    let end = c.loop-i.end in
    let n = c.args.n in
    let i = c.loop-i.i in
    let x : ℕ = slice_index_or list i 0 in
    let more : take (i + 1) list ≡ take i list ++ x ∷ [] = take_more list i 0 c.loop-i-test.true in
    let P : ℕ → Type 0 = Contains (take i list) in
    let Q : List ℕ → ℕ → Type 0 = λ l. Contains l in
    let T : List ℕ → ℕ → Type 0 = λ l e. Lists old l from e n (Q (take (i + 1) list)) in
    let h = c.loop-i.invariant in
    elim c.if-end-listed.branch [
      | then-end-listed w ↦
          let inside : end < length now = w.if-end-listed.true in
          let wrote = lists_then old now (set now end x) from end (end + 1) n P (λ r. x ≡ r) h (lists_one now end x n inside (c.requires.below i 0 c.loop-i-test.true)) in
          let made : T (set now end x) (end + 1) =
          subst (λ l. Lists old (set now end x) from (end + 1) n (Q l)) (sym more) (lists_same old (set now end x) from (end + 1) n (λ r. P r ⊎ (x ≡ r)) (Q (take i list ++ x ∷ [])) wrote (λ room r. one_more_member (take i list) x r)) in
          subst (λ e. T c.if-end-listed.listed e) (sym w.end-is) (subst (λ l. T l (end + 1)) (sym w.listed-is) made)
      | else-end-listed w ↦
          let inside = h.inside in
          let made : T now end = lists_same old now from end n P (Q (take (i + 1) list)) h (λ room r. absurd (omega (arith, w.if-end-listed.false, room))) in
          subst (λ e. T c.if-end-listed.listed e) (sym w.end-is) (subst (λ l. T l end) (sym w.listed-is) made)
    ]
