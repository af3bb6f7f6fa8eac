use Rattle.std.proofs.Common.{◌≡◌, ℕ, Bool, true, false, cond, List, [], ◌∷◌, ◌++◌, length, vec_len, map, slice_index_or, sym, ap, ◌∙◌, subst, inl, inr, arith, append-nil}
use Rattle.std.specs.Prelude.{filter}
use Rattle.std.specs.List.{range_with_len}
use Rattle.std.proofs.lemmas.List.{get_or_default, map-append}
use Rattle.auto_core.specs.Automaton.{Automaton}
use Rattle.auto_core.specs.Outcome.{At, Entry}
use Rattle.auto_core.specs.PairOutcome.{pair_rules}
use Rattle.cert_value.specs.declared.types.StepLine.{StepLine}
use Rattle.auto_laws.proofs.PlaceLemmas.{at_cases, at_within}
use Rattle.antichain.specs.declared.family.Family.{Family}
use Rattle.antichain.specs.declared.sets.Sets.{Sets}
use Rattle.antichain.specs.Kept.{entries_held}
use Rattle.antichain.specs.Made.{AreMade}
use Rattle.evidence.specs.Evidence.{IsStepOf}
use Rattle.evidence.proofs.RangeLemmas.{filter_range_more}
use Rattle.antichain.proofs.closing.steps.Goals as goal
use Rattle.antichain.proofs.closing.steps.Goals.{then-index+in_ok-step_line+in_ok-push, else-index}

pub loop-element-init : goal.loop-element-init
loop-element-init c =
    record {
      sets = c.in_ok-sets.ensures c.args.second.now c.args.order.now.pairs;
      lines = ap (map (λ (s : StepLine). s.element)) c.new-steps.ensures;
      each = λ k l is. let within = at_within [] k l (subst (λ z. At z k l) c.new-steps.ensures is) in absurd (omega arith);
    }

pub loop-element-preserved : goal.loop-element-preserved
loop-element-preserved c =
    let A : Automaton = c.args.first.now in
    let B : Automaton = c.args.second.now in
    let S : List (ℕ × ℕ) = c.args.order.now.pairs in
    let f : Family = c.args.family.now in
    let es : List Entry = entries_held A f in
    let e : ℕ = c.loop-element.element in
    let live : ℕ → Bool = λ k. slice_index_or f.live.items k false in
    let count = c.len-element-end.ensures in
    let items : vec_len f.held ≡ length f.held.items = f.held.ok.0 in
    let test = c.loop-element-test.true in
    let size : length f.live.items ≡ length f.held.items = c.requires.whole.live_size ∙ sym c.requires.whole.size in
    let flag : live e ≡ c.index.result.now = get_or_default f.live.items e false c.index.result.now (omega arith) ∙ sym c.index.ensures in
    let before : map (λ (s : StepLine). s.element) c.loop-element.steps ≡ filter live (range_with_len 0 e) = c.loop-element.invariant.lines in
    elim c.if-index.branch [
      | then-index+in_ok-step_line+in_ok-push w ↦
          let line : StepLine = w.in_ok-step_line.field-0 in
          let pushed : c.if-index.steps ≡ c.loop-element.steps ++ line ∷ [] = w.steps-is ∙ w.in_ok-push.ensures.ok in
          let on : live e ≡ true = flag ∙ w.if-index.true in
          record {
            sets = subst (λ (m : Sets). AreMade B S m.made.items) (sym w.sets-is) w.in_ok-step_line.ensures.sets;
            lines = ap (map (λ (s : StepLine). s.element)) pushed
                ∙ map-append (λ (s : StepLine). s.element) c.loop-element.steps (line ∷ [])
                ∙ ap (λ l. l ++ line.element ∷ []) before
                ∙ ap (λ k. filter live (range_with_len 0 e) ++ k ∷ []) w.in_ok-step_line.ensures.element
                ∙ ap (λ b. filter live (range_with_len 0 e) ++ cond b (e ∷ []) []) (sym on)
                ∙ sym (filter_range_more live e);
            each = λ k l is. elim (at_cases c.loop-element.steps line k l (subst (λ z. At z k l) pushed is)) [
              | inl old ↦ c.loop-element.invariant.each k l old
              | inr new ↦ subst (IsStepOf (pair_rules A B S) es) (sym new.1) w.in_ok-step_line.ensures.step
            ];
          }
      | else-index w ↦
          let same : c.if-index.steps ≡ c.loop-element.steps = w.steps-is in
          let off : live e ≡ false = flag ∙ w.if-index.false in
          record {
            sets = subst (λ (m : Sets). AreMade B S m.made.items) (sym w.sets-is) c.loop-element.invariant.sets;
            lines = ap (map (λ (s : StepLine). s.element)) same
                ∙ before
                ∙ sym (append-nil (filter live (range_with_len 0 e)))
                ∙ ap (λ b. filter live (range_with_len 0 e) ++ cond b (e ∷ []) []) (sym off)
                ∙ sym (filter_range_more live e);
            each = λ k l is. c.loop-element.invariant.each k l (subst (λ z. At z k l) same is);
          }
    ]
