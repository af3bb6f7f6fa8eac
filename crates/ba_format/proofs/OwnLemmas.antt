-- A read automaton that is joined to one without other labels stays as it is.
use Rattle.std.proofs.Common.{◌≡◌, ℕ, List, [], length, map, sym, ◌∙◌, ap, subst, arith, append-nil}
use Rattle.auto_core.specs.Automaton.{Automaton}
use Rattle.ba_format.specs.declared.parts.Limits.{Limits}
use Rattle.ba_format.specs.declared.parts.Named.{Named}
use Rattle.ba_format.specs.Joining.{relabelled, IsRelabelled}
use Rattle.ba_format.specs.Reading.{Reads}
use Rattle.ba_format.proofs.LabelLemmas.{labels_fit}
use Rattle.ba_format.proofs.LawLemmas.{built_once}
use Rattle.ba_format.proofs.WithLemmas.{with_labels, built_with}

-- an automaton has as many labels as its file has texts of labels
pub labels_count : (bytes : List ℕ) (limits : Limits) (named : Named) → Reads bytes limits named → named.auto.labels ≡ length named.labels
labels_count bytes limits named reads = reads.reading.auto.labels_given ∙ ap length (sym reads.reading.labels)

module _ (bytes : List ℕ) (limits : Limits) (named : Named) (reads : Reads bytes limits named) where
  over_itself : with_labels named.auto (length named.labels) ≡ named.auto
  over_itself =
      let A = named.auto in
      let same = sym (labels_count bytes limits named reads) in
      λ i. record { states = A.states; labels = same i; initial = A.initial; transitions = A.transitions; accepting = A.accepting }

  pub built_itself : IsRelabelled named.auto named.labels named.labels named.auto
  built_itself =
      let count = labels_count bytes limits named reads in
      let valid = reads.reading.auto.valid in
      let with_nil = built_with named.auto named.labels [] valid (omega (arith, count)) (labels_fit bytes limits named reads).1 (length named.labels) (ap length (sym (append-nil named.labels))) (omega (arith, count)) (omega (arith, count, valid.labels_fit)) in
      subst (λ A. IsRelabelled named.auto named.labels named.labels A) over_itself
      (subst (λ l. IsRelabelled named.auto named.labels l (with_labels named.auto (length named.labels))) (append-nil named.labels) with_nil)

  pub stays_itself : (labels : List (List ℕ)) (A : Automaton) → labels ≡ named.labels → IsRelabelled named.auto named.labels labels A → A ≡ named.auto
  stays_itself labels A same is =
      built_once named.auto.states (length named.labels) named.auto.initial (map (relabelled named.labels named.labels) named.auto.transitions) named.auto.accepting A named.auto
      (subst (λ l. IsRelabelled named.auto named.labels l A) same is) built_itself
