use Rattle.std.proofs.Common.{◌≡◌, ℕ, ◌+◌, ◌≤◌, ◌⊎◌, true, List, get_or, refl, sym, subst, arith, rules}
use Rattle.auto_core.specs.Automaton.{IsAccepting, Moves, trans, trans_at}
use Rattle.auto_core.specs.declared.parts.Trans.{Trans}
use Rattle.graph_rows.specs.Added.{HasAdded}
use Rattle.graph_rows.proofs.AddedLemmas.{TargetOf, added_then, added_as, target_more, target_moves}
use Rattle.graph_rows.proofs.letters.add_moves.Goals as goal

pub loop-t-preserved : goal.loop-t-preserved
loop-t-preserved c =
    let A = c.args.automaton.now in
    let t : ℕ = c.loop-t.t in
    let begin : ℕ = c.successors-span.result.begin in
    let w : ℕ = c.args.width in
    let row : ℕ = c.args.row in
    let from : begin ≤ t = search rules in
    let flagged : ℕ → Type 0 = λ q. (c.args.flagged ≡ true) ⊎ IsAccepting A q in
    let any : ℕ → Type 0 = λ q. q ≡ q in
    let one : ℕ → Type 0 = λ q. q ≡ (trans_at A t).target in
    let two : ℕ → Type 0 = λ q. (q ≡ (trans_at A t).target) × flagged (trans_at A t).target in
    let T : List Trans → Type 0 = λ ts. HasAdded w row (λ q. q ≡ (get_or ts t (trans 0 0 0)).target) c.loop-t.joined c.add_arc.new.joined in
    let U : List Trans → Type 0 = λ ts. HasAdded w row (λ q. (q ≡ (get_or ts t (trans 0 0 0)).target) × flagged (get_or ts t (trans 0 0 0)).target) c.loop-t.past c.add_arc.new.past in (
      added_then w row (TargetOf A begin t any) one (TargetOf A begin (t + 1) any) c.args.joined.now c.loop-t.joined c.add_arc.new.joined
          (λ q q_in. target_more A begin t any one from (λ r. (λ e. (e, refl), λ e. e.0)) q)
          c.loop-t.invariant.0 (subst T c.transitions-transitions.ensures.list c.add_arc.ensures.joined),
      added_then w row (TargetOf A begin t flagged) two (TargetOf A begin (t + 1) flagged) c.args.past.now c.loop-t.past c.add_arc.new.past
          (λ q q_in. target_more A begin t flagged two from (λ r. (λ (e, f). (e, subst flagged (sym e) f), λ (e, f). (e, subst flagged e f))) q)
          c.loop-t.invariant.1 (subst U c.transitions-transitions.ensures.list c.add_arc.ensures.past),
    )

pub returns-clause-joined : goal.returns-clause-joined
returns-clause-joined c =
    let A = c.args.automaton.now in
    let s = c.successors-span.ensures.range in
    let ordered = s.is_range in
    let any : ℕ → Type 0 = λ q. q ≡ q in
    let begin : ℕ = c.successors-span.result.begin in
    let end : ℕ = c.successors-span.result.end in
    let over : c.loop-t.t ≡ end = omega arith in
    let P : ℕ → Type 0 = λ k. HasAdded c.args.width c.args.row (TargetOf A begin k any) c.args.joined.now c.loop-t.joined in
    added_as c.args.width c.args.row (TargetOf A begin end any) (λ q. Moves A c.args.from c.args.label q) c.args.joined.now c.loop-t.joined
    (λ q q_in. let is = target_moves A c.args.from c.args.label begin end any s q in (λ h. (is.0 h).0, λ m. is.1 (m, refl)))
    (subst P over c.loop-t.invariant.0)

pub returns-clause-past : goal.returns-clause-past
returns-clause-past c =
    let A = c.args.automaton.now in
    let s = c.successors-span.ensures.range in
    let ordered = s.is_range in
    let flagged : ℕ → Type 0 = λ q. (c.args.flagged ≡ true) ⊎ IsAccepting A q in
    let begin : ℕ = c.successors-span.result.begin in
    let end : ℕ = c.successors-span.result.end in
    let over : c.loop-t.t ≡ end = omega arith in
    let P : ℕ → Type 0 = λ k. HasAdded c.args.width c.args.row (TargetOf A begin k flagged) c.args.past.now c.loop-t.past in
    added_as c.args.width c.args.row (TargetOf A begin end flagged) (λ q. Moves A c.args.from c.args.label q × flagged q) c.args.past.now c.loop-t.past
    (λ q q_in. target_moves A c.args.from c.args.label begin end flagged s q)
    (subst P over c.loop-t.invariant.1)
