use Rattle.std.proofs.Common.{◌≡◌, ◌<◌, ◌^◌, ◌↔◌, ℕ, List, length, filter, Contains, ap, ◌∙◌, subst, arith}
use Rattle.std.specs.List.{range_with_len}
use Rattle.std.proofs.lemmas.List.{length-map}
use Rattle.std.proofs.lemmas.Result.{IfOk-weaker}
use Rattle.auto_core.specs.Automaton.{is_accepting}
use Rattle.auto_core.specs.Build.{IsBuilt}
use Rattle.auto_core.specs.declared.parts.Trans.{Trans}
use Rattle.letter_classes.specs.Columns.{lettered}
use Rattle.map_laws.specs.Maps.{IsRenamed}
use Rattle.letter_classes.proofs.RenamingLemmas.{renamed_parts, renamed_built}
use Rattle.letter_classes.proofs.renaming.renamed.Goals as goal

pub overflow_cast-count : goal.overflow_cast-count
overflow_cast-count c =
    let few = c.count-count.ensures.few in
    let fits = c.states-states.ensures.valid.labels_fit in
    omega (arith, c.requires)

pub of_parts-requires : goal.of_parts-requires
of_parts-requires c =
    let A = c.args.automaton.now in
    let classes = c.args.classes.now in
    let valid = c.states-states.ensures.valid in
    let n : ℕ = c.count-count.result in
    let ts : List Trans = c.in_ok-transitions.transitions.items in
    let few : length ts < 2 ^ 32 = omega (arith, c.in_ok-transitions.ensures.few, ap length c.in_ok-lettered.ensures, length-map A.transitions (lettered classes), valid.few) in
    let T : List Trans → Type 0 = λ l. (t : Trans) → Contains ts t ↔ Contains l t in
    let accepting : c.deref-2.result.now ≡ filter (is_accepting A) (range_with_len 0 A.states) = c.deref-2.ensures.value ∙ c.in_ok-accepting.ensures in
    rw (c.states-states.ensures.count, c.initial.ensures.state, c.deref.ensures.value, accepting)
    (renamed_parts A classes n valid c.requires c.count-count.ensures ts (subst T c.in_ok-lettered.ensures c.in_ok-transitions.ensures.same) few c.in_ok-transitions.ensures.once)

pub returns : goal.returns
returns c =
    let A = c.args.automaton.now in
    let classes = c.args.classes.now in
    let valid = c.states-states.ensures.valid in
    let n : ℕ = c.count-count.result in
    let ts : List Trans = c.in_ok-transitions.transitions.items in
    let T : List Trans → Type 0 = λ l. (t : Trans) → Contains ts t ↔ Contains l t in
    let accepting : c.deref-2.result.now ≡ filter (is_accepting A) (range_with_len 0 A.states) = c.deref-2.ensures.value ∙ c.in_ok-accepting.ensures in
    IfOk-weaker c.of_parts.result (IsBuilt A.states n A.initial ts (filter (is_accepting A) (range_with_len 0 A.states))) (IsRenamed A classes)
    (λ C b. renamed_built A classes n valid c.requires c.count-count.ensures ts (subst T c.in_ok-lettered.ensures c.in_ok-transitions.ensures.same) C b)
    (rw (c.states-states.ensures.count, c.initial.ensures.state, c.deref.ensures.value, accepting) at c.of_parts.ensures)
