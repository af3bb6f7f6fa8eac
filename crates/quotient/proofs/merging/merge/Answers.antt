use Rattle.std.proofs.Common.{◌≡◌, ◌<◌, ◌^◌, ◌↔◌, ℕ, List, length, Contains, ap, ◌∙◌, subst, arith}
use Rattle.std.proofs.lemmas.List.{length-map}
use Rattle.std.proofs.lemmas.Result.{IfOk-weaker}
use Rattle.auto_core.specs.Build.{IsBuilt}
use Rattle.auto_core.specs.declared.parts.Trans.{Trans}
use Rattle.auto_core.specs.Quotient.{class_of, IsQuotient}
use Rattle.quotient.specs.Images.{image}
use Rattle.quotient.proofs.MergedLemmas.{merged_parts, merged_built}
use Rattle.quotient.proofs.merging.merge.Goals as goal

pub of_parts-requires : goal.of_parts-requires
of_parts-requires c =
    let A = c.args.automaton.now in
    let classes = c.args.classes.now in
    let valid = c.labels-labels.ensures.valid in
    let ts : List Trans = c.in_ok-transitions.transitions.items in
    let qs : List ℕ = c.in_ok-accepting.accepting.items in
    let start : c.class-initial.result ≡ class_of classes A.initial = c.class-initial.ensures.class ∙ ap (class_of classes) c.initial.ensures.state in
    let few : length ts < 2 ^ 32 = omega (arith, c.in_ok-transitions.ensures.few, ap length c.in_ok-images.ensures, length-map A.transitions (image classes), valid.few) in
    let T : List Trans → Type 0 = λ l. (t : Trans) → Contains ts t ↔ Contains l t in
    let Q : List ℕ → Type 0 = λ l. (q : ℕ) → Contains qs q ↔ Contains l q in
    rw (c.labels-labels.ensures.count, start, c.deref.ensures.value, c.deref-2.ensures.value)
    (merged_parts A classes c.count-count.result valid c.requires c.count-count.ensures.counted ts qs (subst T c.in_ok-images.ensures c.in_ok-transitions.ensures.same)
    (subst Q c.in_ok-accepting_classes.ensures c.in_ok-accepting.ensures.same) few c.in_ok-transitions.ensures.once c.in_ok-accepting.ensures.once)

pub returns : goal.returns
returns c =
    let A = c.args.automaton.now in
    let classes = c.args.classes.now in
    let valid = c.labels-labels.ensures.valid in
    let n : ℕ = c.count-count.result in
    let ts : List Trans = c.in_ok-transitions.transitions.items in
    let qs : List ℕ = c.in_ok-accepting.accepting.items in
    let start : c.class-initial.result ≡ class_of classes A.initial = c.class-initial.ensures.class ∙ ap (class_of classes) c.initial.ensures.state in
    let T : List Trans → Type 0 = λ l. (t : Trans) → Contains ts t ↔ Contains l t in
    let Q : List ℕ → Type 0 = λ l. (q : ℕ) → Contains qs q ↔ Contains l q in
    IfOk-weaker c.of_parts.result (IsBuilt n A.labels (class_of classes A.initial) ts qs) (IsQuotient A classes)
    (λ B b. merged_built A classes n valid c.requires c.count-count.ensures.counted ts qs (subst T c.in_ok-images.ensures c.in_ok-transitions.ensures.same)
    (subst Q c.in_ok-accepting_classes.ensures c.in_ok-accepting.ensures.same) B b)
    (rw (c.labels-labels.ensures.count, start, c.deref.ensures.value, c.deref-2.ensures.value) at c.of_parts.ensures)
