-- A written automaton has a join with what its text reads as, and accepts the same.
use Rattle.std.proofs.Common.{◌≡◌, ℕ, ◌^◌, ◌<◌, true, not, cond, List, [], ◌∷◌, ◌++◌, length, map, filter, get_or, All, refl, sym, ap, subst, ◌∙◌, arith}
use Rattle.std.specs.List.{list_any, flat_map}
use Rattle.std.proofs.lemmas.List.{append-nil}
use Rattle.std.proofs.lemmas.List.Elements.{All-nil, All-cons, All-head, All-tail, All-append}
use Rattle.std.proofs.lemmas.List.Folds.{list_any_at}
use Rattle.std.proofs.lemmas.Grind.{flat_map-append}
use Rattle.auto_core.specs.declared.parts.Trans.{Trans}
use Rattle.auto_core.specs.Automaton.{Automaton}
use Rattle.ba_format.specs.Sight.{same_text}
use Rattle.ba_format.specs.Grammar.{StateLine}
use Rattle.ba_format.specs.Faults.{labels_in, labels_of}
use Rattle.ba_format.specs.Joining.{joined_labels}
use Rattle.ba_format.specs.Writing.{name_text, accepting_written, written}
use Rattle.ba_format.specs.Laws.{IsWritable}
use Rattle.ba_format.proofs.JoinLemmas.{first_found, second_found}
use Rattle.ba_format.proofs.SightLemmas.{same_text-refl}
use Rattle.ba_format.proofs.NamedLemmas.{All-seen}
use Rattle.ba_format.proofs.LabelLemmas.{labels_fit}
use Rattle.ba_format.proofs.WrittenLemmas.{transition_entry_of, written_entries, contents_of-written, written_reads}
use Rattle.ba_format.proofs.BackLemmas.{written_reads_back}
use Rattle.ba_format.proofs.FaultlessLemmas.{faultless_reads}
use Rattle.ba_format.specs.Joins.{WrittenJoins, WrittenIsThere}
use Rattle.ba_format.proofs.JoinedReadLemmas.{relabelled_from, read_labels}

-- ---- the labels that are read are among those that were written

-- The text is one of the labels.
abbrev IsAmong : List (List ℕ) → List ℕ → Type 0
IsAmong labels text = list_any (same_text text) labels ≡ true

transition_labels : (labels : List (List ℕ)) (ts : List Trans) → All (λ t. t.label < length labels) ts → All (IsAmong labels) (flat_map labels_in (map (transition_entry_of labels) ts))
transition_labels labels [] h = All-nil (IsAmong labels)
transition_labels labels (t ∷ ts) h =
    let text = get_or labels t.label [] in
    All-cons (IsAmong labels) text (flat_map labels_in (map (transition_entry_of labels) ts))
    (list_any_at (same_text text) labels t.label [] (All-head (λ t. t.label < length labels) t ts h) (same_text-refl text))
    (transition_labels labels ts (All-tail (λ t. t.label < length labels) t ts h))

state_labels : (P : List ℕ → Type 0) (qs : List ℕ) → All P (flat_map labels_in (map (λ q. StateLine (name_text q)) qs))
state_labels P [] = All-nil P
state_labels P (q ∷ qs) = state_labels P qs

labels_among : (A : Automaton) (labels : List (List ℕ)) → IsWritable A labels → All (IsAmong labels) (labels_of (written_entries A labels))
labels_among A labels w =
    let steps = map (transition_entry_of labels) A.transitions in
    let ends = map (λ q. StateLine (name_text q)) (accepting_written A) in
    All-seen same_text (IsAmong labels) [] (flat_map labels_in (written_entries A labels)) (All-nil (IsAmong labels))
    (subst (All (IsAmong labels)) (sym (flat_map-append labels_in steps ends))
    (All-append (IsAmong labels) (flat_map labels_in steps) (flat_map labels_in ends)
    (transition_labels labels A.transitions (λ k d lt. let r = w.valid.in_range k d lt in omega (arith, r.2, w.all_named)))
    (state_labels (IsAmong labels) (accepting_written A))))

-- Where all texts are among the labels, the joined labels are those.
none_new : (labels texts : List (List ℕ)) → All (IsAmong labels) texts → filter (λ text. not (list_any (same_text text) labels)) texts ≡ []
none_new labels [] h = refl
none_new labels (t ∷ ts) h =
    ap (λ b. cond (not b) (t ∷ filter (λ text. not (list_any (same_text text) labels)) ts) (filter (λ text. not (list_any (same_text text) labels)) ts)) (All-head (IsAmong labels) t ts h)
    ∙ none_new labels ts (All-tail (IsAmong labels) t ts h)

same_labels : (labels texts : List (List ℕ)) → All (IsAmong labels) texts → joined_labels labels texts ≡ labels
same_labels labels texts h = ap (λ l. labels ++ l) (none_new labels texts h) ∙ append-nil labels

-- ---- the join

pub written_joins : WrittenJoins
written_joins A labels names limits read w few r =
    let among : All (IsAmong labels) read.labels =
    subst (All (IsAmong labels)) (sym (r.reading.labels ∙ ap labels_of (contents_of-written A labels w))) (labels_among A labels w) in
    let same = same_labels labels read.labels among in
    let joined = joined_labels labels read.labels in
    let fits : length joined < 2 ^ 32 = omega (arith, ap length same) in
    let own = relabelled_from A labels joined w.valid w.all_named few w.different (first_found labels read.labels) fits in
    let named = read_labels (written A labels) limits read r in
    let other = relabelled_from read.auto read.labels joined r.reading.auto.valid (omega (arith, named)) (omega (arith, named, r.reading.auto.valid.labels_fit)) (labels_fit (written A labels) limits read r).1
    (second_found labels read.labels) fits in
    (record { first = own.0; second = other.0; labels = joined }, record { labels = refl; first = own.1; second = other.1 }, same)

pub written_is_there : WrittenIsThere
written_is_there A labels names limits states letters transitions w few counts =
    let read = faultless_reads (written A labels) limits states letters transitions (written_reads A labels limits w counts) in
    let join = written_joins A labels names limits read.0 w few read.1 in
    record {
      read = read.0;
      joined = join.0;
      reads = read.1;
      joins = join.1;
      same_labels = join.2;
      same = λ mode. written_reads_back A labels names limits read.0 join.0 mode w read.1 join.1;
    }
