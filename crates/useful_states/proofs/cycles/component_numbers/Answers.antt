use Rattle.std.proofs.Common.{ℕ, Vec, Global, sym, subst, arith}
use Rattle.std.proofs.lemmas.Result.{IfOk-weaker}
use Rattle.strong_components.specs.Graph.{IsGraph, AreComponents}
use Rattle.useful_states.specs.Cycles.{AreSpans, AreTargets, AreComponentNumbers}
use Rattle.useful_states.proofs.CycleLemmas.{is_graph, are_numbers}
use Rattle.useful_states.proofs.cycles.component_numbers.Goals as goal

pub components_of-requires : goal.components_of-requires
components_of-requires c =
    let A = c.args.automaton.now in
    let spans = subst (AreSpans A) (sym c.deref.ensures.value) c.in_ok-starts.ensures in
    let ends = subst (AreTargets A) (sym c.deref-2.ensures.value) c.in_ok-targets.ensures in
    let P : ℕ → Type 0 = λ n. IsGraph c.deref.result.now c.deref-2.result.now n in
    let valid = c.states-states.ensures.valid in
    let fits = valid.states_fit in
    subst P (sym c.states-states.ensures.count) (is_graph A valid c.deref.result.now c.deref-2.result.now spans ends (omega (arith, c.if-states.false, c.states-states.ensures.count)))

pub returns : goal.returns
returns c =
    let A = c.args.automaton.now in
    let starts = c.deref.result.now in
    let targets = c.deref-2.result.now in
    let spans = subst (AreSpans A) (sym c.deref.ensures.value) c.in_ok-starts.ensures in
    let ends = subst (AreTargets A) (sym c.deref-2.ensures.value) c.in_ok-targets.ensures in
    let P : ℕ → Vec ℕ Global → Type 0 = λ n numbers. AreComponents starts targets n numbers.items in
    IfOk-weaker c.components_of.result (P c.states-states.result) (λ numbers. AreComponentNumbers A numbers.items)
    (λ numbers are. let Q : ℕ → Type 0 = λ n. P n numbers in are_numbers A c.states-states.ensures.valid starts targets spans ends numbers.items (subst Q c.states-states.ensures.count are))
    c.components_of.ensures
