-- What a printed text reads as accepts what the printed automaton does; of a reduced automaton, what the read one does.
use Rattle.std.proofs.Common.{◌≡◌, ℕ, ◌+◌, ◌^◌, ◌<◌, ◌≤◌, not, List, ◌∷◌, ◌++◌, length, map, filter, Contains, sym, ◌∙◌, ap, subst, arith}
use Rattle.std.specs.List.{list_any}
use Rattle.std.proofs.lemmas.List.{length-append}
use Rattle.auto_core.specs.Automaton.{Automaton}
use Rattle.auto_core.specs.Accept.{Same}
use Rattle.auto_core.specs.declared.parts.Mode.{Mode}
use Rattle.auto_core.specs.declared.parts.Mode.TheVariants.{Buchi, Finite}
use Rattle.ba_format.specs.declared.parts.Limits.{Limits}
use Rattle.ba_format.specs.declared.parts.Named.{Named}
use Rattle.ba_format.specs.declared.parts.Joined.{Joined}
use Rattle.ba_format.specs.Joining.{relabelled, IsRelabelled, IsJoined}
use Rattle.ba_format.specs.Laws.{IsWritable}
use Rattle.ba_format.specs.Reading.{Reads}
use Rattle.ba_format.specs.Sight.{same_text}
use Rattle.ba_format.specs.Writing.{written}
use Rattle.ba_format.proofs.CountLemmas.{written_is_read}
use Rattle.ba_format.proofs.FaultlessLemmas.{faultless_reads, read_is_within}
use Rattle.ba_format.proofs.LabelLemmas.{labels_fit}
use Rattle.ba_format.proofs.LawLemmas.{built_once, contains_first}
use Rattle.ba_format.proofs.WithLemmas.{with_labels, same_with, built_with, includes_then, written_same}
use Rattle.reduce_loop.specs.declared.steps.Kind.TheVariants.{Trim, Forward, Backward, Delayed}
use Rattle.reduce_loop.specs.Kinds.{kinds_of, prunings}
use Rattle.reduce_loop.specs.declared.steps.Foresight.{Foresight}
use Rattle.reduce_loop.specs.Passes.{IsReduced}
use Rattle.reduce_loop.specs.Settled.{IsSettled}
use Rattle.reduce_loop.proofs.PassLemmas.{reduced_no_larger}
use Rattle.rabit_frame.specs.declared.files.TheConstants.{FIRST_LIMITS}
use Rattle.rabit_cli.specs.Reduce.{printed_limits, ReadsBackSame}
use Rattle.rabit_cli.proofs.LabelLemmas.{reduced_labels}

-- it reads within limits that leave room for one state more
pub reads_with_room : (C : Automaton) (labels : List (List ℕ)) → IsWritable C labels → C.states ≤ 2048 → C.labels ≤ 256 → length C.transitions ≤ 65536 → (again : Named) × Reads (written C labels) printed_limits again
reads_with_room C labels writable states few transitions =
    let one_more : C.states + 1 ≤ printed_limits.states = omega (arith, states) in
    faultless_reads (written C labels) printed_limits (omega arith) (omega arith) (omega arith) (written_is_read C labels printed_limits writable one_more few transitions)

-- ---- the text of the reduced automaton

trim_comes : (m : Mode) → Contains (kinds_of m) Trim
trim_comes Buchi = contains_first Trim (Forward ∷ Backward ∷ Delayed ∷ prunings)
trim_comes Finite = contains_first Trim (Forward ∷ Backward ∷ prunings)

module _ (file_limits : Limits) (bytes : List ℕ) (named : Named) (B : Automaton) (m : Mode) (sight : Foresight) (reads : Reads bytes file_limits named) (reduced : IsReduced named.auto m sight B)
    (same : Same named.auto B m) (settled : IsSettled B m sight)
  where
    named_count : named.auto.labels ≡ length named.labels
    named_count = reads.reading.auto.labels_given ∙ ap length (sym reads.reading.labels)

    labels_stay : B.labels ≡ named.auto.labels
    labels_stay = reduced_labels m sight named.auto B reduced

    fit : IsWritable B named.labels
    fit =
        let labels = labels_fit bytes file_limits named reads in
        let trimmed = settled Trim (trim_comes m) in
        record { valid = trimmed.2.valid; all_named = omega (arith, labels_stay, named_count); different = labels.1; fit = labels.0 }

    module _ (limits : Limits) (again : Named) (joined : Joined) (back : Reads (written B named.labels) limits again) (j : IsJoined named again joined) where
      abbrev more : List (List ℕ)
      more = filter (λ label. not (list_any (same_text label) named.labels)) again.labels

      joined_count : length joined.labels ≡ length (named.labels ++ more)
      joined_count = ap length j.labels

      few : length joined.labels < 2 ^ 32
      few = omega (arith, j.first.valid.labels_fit, j.first.labels_given)

      own_within : named.auto.labels ≤ length joined.labels
      own_within = omega (arith, named_count, joined_count, length-append named.labels more)

      first_is : joined.first ≡ with_labels named.auto (length joined.labels)
      first_is =
          built_once named.auto.states (length (named.labels ++ more)) named.auto.initial (map (relabelled named.labels (named.labels ++ more)) named.auto.transitions) named.auto.accepting
          joined.first (with_labels named.auto (length joined.labels)) (subst (λ l. IsRelabelled named.auto named.labels l joined.first) j.labels j.first)
          (built_with named.auto named.labels more reads.reading.auto.valid (omega (arith, named_count)) fit.different (length joined.labels) joined_count own_within few)

      last : Same B joined.second m
      last = written_same named.labels B m fit limits again joined back j.labels few j.second

      joined_same : Same joined.first joined.second m
      joined_same =
          let n = length joined.labels in
          let own = same_with named.auto n m in
          subst (λ A. Same A joined.second m) (sym first_is) (
            includes_then m (with_labels named.auto n) named.auto joined.second own.1 (includes_then m named.auto B joined.second same.0 last.0),
            includes_then m joined.second B (with_labels named.auto n) last.1 (includes_then m B named.auto (with_labels named.auto n) same.1 own.0),
          )

-- the text reads within limits of one state more than those of the file
module _ (bytes : List ℕ) (named : Named) (B : Automaton) (m : Mode) (sight : Foresight) (from : 1 ≤ sight.look) (reads : Reads bytes FIRST_LIMITS named) (reduced : IsReduced named.auto m sight B)
    (same : Same named.auto B m) (settled : IsSettled B m sight)
  where
    reads_again : (again : Named) × Reads (written B named.labels) printed_limits again
    reads_again =
        let within = read_is_within bytes FIRST_LIMITS named reads in
        let small = reduced_no_larger named.auto B m sight reads.reading.auto.valid from reduced in
        reads_with_room B named.labels (fit FIRST_LIMITS bytes named B m sight reads reduced same settled)
        (omega (arith, within.states, small.states)) (omega (arith, within.labels, small.labels)) (omega (arith, within.transitions, small.transitions))

    pub reads_back_same : ReadsBackSame named m (written B named.labels)
    reads_back_same = record {
      reads = reads_again;
      same = joined_same FIRST_LIMITS bytes named B m sight reads reduced same settled;
    }
