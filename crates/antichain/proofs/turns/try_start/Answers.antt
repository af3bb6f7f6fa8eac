use Rattle.std.proofs.Common.{ℕ, List, [], ◌∷◌, subst}
use Rattle.std.proofs.lemmas.Result.{IfOk-weaker}
use Rattle.auto_core.specs.Automaton.{Automaton}
use Rattle.auto_core.specs.Outcome.{Entry}
use Rattle.auto_core.specs.PairOutcome.{pair_rules}
use Rattle.antichain.specs.declared.parts.Fate.{Fate}
use Rattle.antichain.specs.declared.family.Family.{Family}
use Rattle.evidence.specs.Entries.{entry_of}
use Rattle.antichain.specs.Kept.{HasCome, entries_held}
use Rattle.antichain.proofs.TurnLemmas.{start_is_candidate}
use Rattle.antichain.proofs.turns.try_start.Goals as goal

pub consider-requires-clause-candidate : goal.consider-requires-clause-candidate
consider-requires-clause-candidate c =
    (start_is_candidate c.args.first.now c.args.second.now c.args.order.now.pairs (entries_held c.args.first.now c.args.family.now) c.in_ok-new.new c.in_ok-new.ensures).0

pub returns : goal.returns
returns c =
    let A : Automaton = c.args.first.now in
    let B : Automaton = c.args.second.now in
    let S : List (ℕ × ℕ) = c.args.order.now.pairs in
    let old : Family = c.args.family.now in
    let now : Family = c.consider.new.family in
    let es : List Entry = entries_held A old in
    let one : Entry = entry_of A es c.in_ok-new.new.origin in
    let same = (start_is_candidate A B S es c.in_ok-new.new c.in_ok-new.ensures).1 in
    IfOk-weaker c.consider.result (λ (fate : Fate). (cs : List Entry) (turn : ℕ) → HasCome A B S c.args.limit old now fate (one ∷ cs) cs turn turn)
    (λ (fate : Fate). HasCome A B S c.args.limit old now fate (pair_rules A B S).starts [] 0 0)
    (λ fate come. subst (λ x. HasCome A B S c.args.limit old now fate (x ∷ []) [] 0 0) same (come [] 0)) c.consider.ensures
