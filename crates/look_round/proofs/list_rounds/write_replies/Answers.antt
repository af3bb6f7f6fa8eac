use Rattle.std.proofs.Common.{◌≡◌, ℕ, ◌+◌, ◌<◌, ◌≤◌, ◌⊎◌, List, [], ◌∷◌, ◌++◌, length, set, Contains, take, sym, ap, ◌∙◌, subst, arith, take_all}
use Rattle.std.proofs.lemmas.Bool.{iff_false}
use Rattle.std.proofs.lemmas.List.{take_more}
use Rattle.look_round.specs.Sides.{move}
use Rattle.look_round.specs.declared.moves.Move.{Move}
use Rattle.look_round.specs.Replies.{IsReply}
use Rattle.look_round.specs.Listed.{Lists}
use Rattle.look_round.proofs.ListedLemmas.{lists_one, lists_same, lists_then, one_more_reply, no_more_reply}
use Rattle.look_round.proofs.list_rounds.write_replies.Goals as goal
use Rattle.look_round.proofs.list_rounds.write_replies.Goals.{then-end-listed+then-is_reply, else-end-listed, else-end-listed-via-then-end-listed+else-is_reply, else-end-listed-via-else-end-listed}

pub loop-at-preserved : goal.loop-at-preserved
loop-at-preserved g c =
    let moves = g.S.Side.list c.args.side.now c.args.automaton.now c.args.q in
    let ok = g.S.Side.matches c.args.side.now c.args.automaton.now in
    let n = c.args.automaton.now.states in
    let a = c.args.step.label in
    let p = c.args.step.to in
    let old = c.args.listed.now in
    let now = c.loop-at.listed in
    let from = c.args.from in
    let end = c.loop-at.end in
    let k = c.loop-at.at in
    let m = c.nth-reply.result in
    let h = c.loop-at.invariant in
    let at_in : k < length moves = omega (arith, c.loop-at-test.true, c.moves-at-end.ensures) in
    let more : take (k + 1) moves ≡ take k moves ++ m ∷ [] = take_more moves k (move 0 0) at_in ∙ ap (λ x. take k moves ++ x ∷ []) (sym c.nth-reply.ensures.item) in
    let Q : List Move → ℕ → Type 0 = λ l r. Contains l (move a r) × ok p r in
    let T : List ℕ → ℕ → Type 0 = λ l e. Lists old l from e n (Q (take (k + 1) moves)) in
    elim c.if-end-listed.branch [
      | then-end-listed+then-is_reply w ↦
          let is = w.is_reply.ensures.0 w.if-is_reply.true in
          let new = set now end m.to in
          let inside : end < length now = w.if-end-listed.true in
          let wrote = lists_then old now new from end (end + 1) n (Q (take k moves)) (λ r. m.to ≡ r) h (lists_one now end m.to n inside c.nth-reply.ensures.in_range) in
          let made : T new (end + 1) =
          subst (λ l. Lists old new from (end + 1) n (Q l)) (sym more)
          (lists_same old new from (end + 1) n (λ r. Q (take k moves) r ⊎ (m.to ≡ r)) (Q (take k moves ++ m ∷ [])) wrote (λ room r. one_more_reply ok a p (take k moves) m r is.0 is.1)) in
          subst (λ e. T c.if-end-listed.listed e) (sym w.end-is) (subst (λ l. T l (end + 1)) (sym w.listed-is) made)
      | else-end-listed w ↦
          let none : end < length now → (m.label ≡ a) × ok p m.to → ⊥ = λ room reply. elim w.else-end-listed.branch [
            | else-end-listed-via-then-end-listed+else-is_reply v ↦ iff_false v.is_reply.ensures v.if-is_reply.false reply
            | else-end-listed-via-else-end-listed v ↦ absurd (omega (arith, v.if-end-listed.false, room))
          ] in
          let made : T now end =
          subst (λ l. Lists old now from end n (Q l)) (sym more) (lists_same old now from end n (Q (take k moves)) (Q (take k moves ++ m ∷ [])) h (λ room r. no_more_reply ok a p (take k moves) m r (none room))) in
          subst (λ e. T c.if-end-listed.listed e) (sym w.end-is) (subst (λ l. T l end) (sym w.listed-is) made)
    ]

pub returns : goal.returns
returns g c =
    let A = c.args.automaton.now in
    let s = c.args.side.now in
    let M = g.S.Side.goes s A in
    let ok = g.S.Side.matches s A in
    let moves = g.S.Side.list s A c.args.q in
    let a = c.args.step.label in
    let p = c.args.step.to in
    let Q : List Move → ℕ → Type 0 = λ l r. Contains l (move a r) × ok p r in
    let over : length moves ≤ c.loop-at.at = omega (arith, c.loop-at-test.false, c.moves-at-end.ensures) in
    let all = subst (λ l. Lists c.args.listed.now c.loop-at.listed c.args.from c.loop-at.end A.states (Q l)) (take_all c.loop-at.at moves over) c.loop-at.invariant in
    let lists = g.met.S.Side.lists s A c.args.q in
    lists_same c.args.listed.now c.loop-at.listed c.args.from c.loop-at.end A.states (Q moves) (IsReply M ok a p c.args.q) all (λ room r. (λ found. ((lists a r).0 found.0, found.1), λ reply. ((lists a r).1 reply.0, reply.1)))
