use Rattle.std.proofs.Common.{◌≡◌, ◌∙◌, arith}
use Rattle.std.proofs.lemmas.Result.{IfOk-weaker}
use Rattle.auto_core.specs.Build.{IsBuilt}
use Rattle.auto_core.specs.Useful.{count_below, stays, new_number, IsKeptPart}
use Rattle.useful_states.specs.KeptParts.{kept_transitions, kept_accepting}
use Rattle.useful_states.proofs.PartLemmas.{number_read, parts_kept, kept_from_built}
use Rattle.useful_states.proofs.keeping.keep.Goals as goal

pub of_parts-requires : goal.of_parts-requires
of_parts-requires c =
    let A = c.args.automaton.now in
    let kept = c.args.kept.now.members in
    let valid = c.states.ensures.valid in
    let numbers = c.in_ok-numbers.numbers.items in
    let count : c.index.result.now ≡ count_below (stays A kept) A.states = number_read A kept numbers c.in_ok-numbers.ensures c.states.result A.states c.index.result.now c.states.ensures.count (omega arith) c.index.ensures in
    let start : c.index-2.result.now ≡ new_number A kept A.initial = number_read A kept numbers c.in_ok-numbers.ensures c.initial.result A.initial c.index-2.result.now c.initial.ensures.state (omega (arith, valid.initial_is_state)) c.index-2.ensures in
    let transitions : c.deref-3.result.now ≡ kept_transitions A kept = c.deref-3.ensures.value ∙ c.in_ok-transitions.ensures in
    let accepting : c.deref-4.result.now ≡ kept_accepting A kept = c.deref-4.ensures.value ∙ c.in_ok-accepting.ensures in
    rw (count, c.labels.ensures.count, start, transitions, accepting) (parts_kept A kept valid)

pub returns : goal.returns
returns c =
    let A = c.args.automaton.now in
    let kept = c.args.kept.now.members in
    let valid = c.states.ensures.valid in
    let numbers = c.in_ok-numbers.numbers.items in
    let count : c.index.result.now ≡ count_below (stays A kept) A.states = number_read A kept numbers c.in_ok-numbers.ensures c.states.result A.states c.index.result.now c.states.ensures.count (omega arith) c.index.ensures in
    let start : c.index-2.result.now ≡ new_number A kept A.initial = number_read A kept numbers c.in_ok-numbers.ensures c.initial.result A.initial c.index-2.result.now c.initial.ensures.state (omega (arith, valid.initial_is_state)) c.index-2.ensures in
    let transitions : c.deref-3.result.now ≡ kept_transitions A kept = c.deref-3.ensures.value ∙ c.in_ok-transitions.ensures in
    let accepting : c.deref-4.result.now ≡ kept_accepting A kept = c.deref-4.ensures.value ∙ c.in_ok-accepting.ensures in
    IfOk-weaker c.of_parts.result (IsBuilt (count_below (stays A kept) A.states) A.labels (new_number A kept A.initial) (kept_transitions A kept) (kept_accepting A kept)) (IsKeptPart A kept)
    (λ B built. kept_from_built A kept valid B built)
    (rw (count, c.labels.ensures.count, start, transitions, accepting) at c.of_parts.ensures)
