-- `union` and `intersect`: one reply, and what it shows.
use Rattle.std.proofs.Common.{◌≡◌, ◌⊎◌, ℕ, ◌^◌, ◌<◌, Bool, true, false, not, List, [], ◌++◌, length, filter, All, inl, inr, refl, sym, ◌∙◌, ap, subst, arith}
use Rattle.std.specs.List.{list_any}
use Rattle.std.specs.Io.KnownBytes.{append_known}
use Rattle.std.proofs.lemmas.List.Elements.{All-append, All-filter}
use Rattle.shelf_io.specs.Shelf.{FileMap}
use Rattle.shelf_io.specs.Seen.{Call}
use Rattle.auto_core.specs.Automaton.{Automaton, IsAutomaton}
use Rattle.auto_core.specs.Accept.{Same}
use Rattle.auto_core.specs.declared.parts.Mode.{Mode}
use Rattle.auto_core.specs.declared.parts.Mode.TheVariants.{Buchi, Finite}
use Rattle.auto_core.proofs.MemberLemmas.{filter_from, rises_from_pairs}
use Rattle.auto_ops.specs.Limits.{IsSmallResult}
use Rattle.auto_ops.specs.Union.{IsUnionTooLarge}
use Rattle.auto_ops.specs.Intersection.{IsIntersectionTooLarge}
use Rattle.auto_ops.proofs.CountLemmas.{rises_at}
use Rattle.auto_ops.proofs.IntersectionLaws.{intersection_lassos, intersection_words}
use Rattle.auto_ops.proofs.OneLaws.{union_one, union_limits, intersection_one, intersection_limits}
use Rattle.auto_ops.proofs.SightLemmas.{Differ, apart_append, apart_filter}
use Rattle.auto_ops.proofs.UnionLaws.{union_lassos, union_words}
use Rattle.ba_format.specs.declared.parts.Named.{Named}
use Rattle.ba_format.specs.declared.parts.Joined.{Joined}
use Rattle.ba_format.specs.Joining.{IsJoined}
use Rattle.ba_format.specs.Laws.{IsLabelText, IsWritable}
use Rattle.ba_format.specs.Sight.{same_text, AreDifferent}
use Rattle.ba_format.specs.Writing.{written}
use Rattle.ba_format.proofs.JoinLemmas.{absent}
use Rattle.ba_format.proofs.LabelLemmas.{labels_fit}
use Rattle.ba_format.proofs.LawLemmas.{joins_as_one}
use Rattle.rabit_frame.specs.declared.parts.Value.{Value}
use Rattle.rabit_frame.specs.declared.parts.Status.TheVariants as status
use Rattle.rabit_frame.specs.declared.parts.Reply.{Reply}
use Rattle.rabit_frame.specs.Statuses.{status_number}
use Rattle.rabit_frame.specs.Ending.{Sends}
use Rattle.rabit_frame.specs.Reading.{only_said, ReadInTurn}
use Rattle.rabit_frame.specs.declared.files.TheConstants.{SECOND_LIMITS, FIRST_LIMITS}
use Rattle.rabit_frame.specs.FileKinds.{pair_inputs}
use Rattle.rabit_cli.specs.Combine.{MeansCombined, IsCombinedReply, ShowsCombined}
use Rattle.rabit_cli.specs.Union.{IsUnionOf, IsUnionReply, IsUnionStatus, MeansUnion, AcceptsWhatEitherDoes, ShowsUnion}
use Rattle.rabit_cli.specs.Intersect.{IsIntersectionOf, IsIntersectionReply, IsIntersectionStatus, MeansIntersect, AcceptsWhatBothDo, ShowsIntersect}
use Rattle.ba_format.proofs.WithLemmas.{written_same}
use Rattle.rabit_cli.proofs.BackLemmas.{reads_with_room}

-- ---- joined labels can be written

not_true : (b : Bool) → not b ≡ true → b ≡ false
not_true true e = absurd (let f = e in cc)
not_true false e = refl

joined_fit : (one two : Named) (pair : Joined) → IsJoined one two pair → All IsLabelText one.labels × AreDifferent one.labels → All IsLabelText two.labels × AreDifferent two.labels →
    All IsLabelText pair.labels × AreDifferent pair.labels
joined_fit one two pair joined first second =
    let new : List ℕ → Bool = λ label. not (list_any (same_text label) one.labels) in
    let further : List (List ℕ) = filter new two.labels in
    let fit = All-append IsLabelText one.labels further first.0 (All-filter new IsLabelText two.labels second.0) in
    let rises = apart_append one.labels further (rises_from_pairs Differ one.labels first.1) (apart_filter new two.labels (rises_from_pairs Differ two.labels second.1))
    (λ text here there. absent one.labels text (not_true (list_any (same_text text) one.labels) (filter_from new two.labels text there).1) here) in
    (subst (All IsLabelText) (sym joined.labels) fit, subst AreDifferent (sym joined.labels) (rises_at Differ (one.labels ++ further) rises))

-- ---- one reply

module _ (is_result : Automaton → Type 0) (is_too_large : Type 0) (labels : List (List ℕ)) where
  one_reply : ((C D : Automaton) → is_result C → is_result D → C ≡ D) → ((C : Automaton) → is_result C → is_too_large → IsSmallResult C → ⊥) → (r s : Reply) →
      IsCombinedReply is_result is_too_large labels r → IsCombinedReply is_result is_too_large labels s → r ≡ s
  one_reply one never r s (inl (large, e)) (inl (large', e')) = e ∙ sym e'
  one_reply one never r s (inl (large, e)) (inr (D, is, within, e')) = absurd (never D is large within)
  one_reply one never r s (inr (C, is, within, e)) (inl (large, e')) = absurd (never C is large within)
  one_reply one never r s (inr (C, is, within, e)) (inr (D, is', within', e')) = e ∙ ap (λ X. only_said status.Done (written X labels)) (one C D is is') ∙ sym e'

  reply_puts : (r : Reply) → IsCombinedReply is_result is_too_large labels r → r.puts ≡ []
  reply_puts r (inl (large, e)) = ap (λ z. z.puts) e
  reply_puts r (inr (C, is, within, e)) = ap (λ z. z.puts) e

  reply_number : (r : Reply) → IsCombinedReply is_result is_too_large labels r → (status_number r.status ≡ 0) ⊎ (status_number r.status ≡ 12)
  reply_number r (inl (large, e)) = inr (ap (λ z. status_number z.status) e)
  reply_number r (inr (C, is, within, e)) = inl (ap (λ z. status_number z.status) e)

  reply_status : ((C : Automaton) → is_result C → is_too_large → IsSmallResult C → ⊥) → (r : Reply) → IsCombinedReply is_result is_too_large labels r → (n : ℕ) → n ≡ status_number r.status →
      (is_too_large × (n ≡ 12)) ⊎ (¬ is_too_large × (n ≡ 0))
  reply_status never r (inl (large, e)) n same = inl (large, same ∙ ap (λ z. status_number z.status) e)
  reply_status never r (inr (C, is, within, e)) n same = inr (λ large. never C is large within, same ∙ ap (λ z. status_number z.status) e)

one_combined : (replies : Joined → Reply → Type 0) → ((pair : Joined) (r s : Reply) → replies pair r → replies pair s → r ≡ s) → (values : List Value) (r s : Reply) → MeansCombined replies values r → MeansCombined replies values s → r ≡ s
one_combined replies one values r s (first, second, is, (pair, joined, here)) (first', second', is', (pair', joined', there)) =
    let all = sym is ∙ is' in
    let same_first : first ≡ first' = cc in
    let same_second : second ≡ second' = cc in
    let P : Named → Type 0 = λ z. IsJoined z second pair in
    let Q : Named → Type 0 = λ z. IsJoined first' z pair in
    let same : pair ≡ pair' = joins_as_one first' second' pair pair' (subst Q same_second (subst P same_first joined)) joined' in
    let R : Joined → Type 0 = λ z. replies z r in
    one pair' r s (subst R same here) there

pub one_union : (m : Mode) (values : List Value) (r s : Reply) → MeansUnion m values r → MeansUnion m values s → r ≡ s
one_union m = one_combined (IsUnionReply m) (λ pair. one_reply (IsUnionOf m pair) (IsUnionTooLarge pair.first pair.second) pair.labels
    (union_one m pair.first pair.second) (union_limits m pair.first pair.second))

pub union_puts : (m : Mode) (values : List Value) (r : Reply) → MeansUnion m values r → r.puts ≡ []
union_puts m values r (one, two, is, (pair, joined, here)) = reply_puts (IsUnionOf m pair) (IsUnionTooLarge pair.first pair.second) pair.labels r here

pub union_number : (m : Mode) (values : List Value) (r : Reply) → MeansUnion m values r → (status_number r.status ≡ 0) ⊎ (status_number r.status ≡ 12)
union_number m values r (one, two, is, (pair, joined, here)) = reply_number (IsUnionOf m pair) (IsUnionTooLarge pair.first pair.second) pair.labels r here

pub union_status : (m : Mode) (files : FileMap) (a b : List ℕ) (values : List Value) (r : Reply) → ReadInTurn files (pair_inputs a b) values → MeansUnion m values r → (n : ℕ) → n ≡ status_number r.status → IsUnionStatus files a b n
union_status m files a b values r reads (one, two, is, (pair, joined, here)) n same =
    let (first, (second, end)) = subst (ReadInTurn files (pair_inputs a b)) is reads in
    (pair, (one, two, first, second, joined), reply_status (IsUnionOf m pair) (IsUnionTooLarge pair.first pair.second) pair.labels (union_limits m pair.first pair.second) r here n same)

pub one_intersection : (m : Mode) (values : List Value) (r s : Reply) → MeansIntersect m values r → MeansIntersect m values s → r ≡ s
one_intersection m = one_combined (IsIntersectionReply m) (λ pair. one_reply (IsIntersectionOf m pair) (IsIntersectionTooLarge m pair.first pair.second) pair.labels
    (intersection_one m pair.first pair.second) (intersection_limits m pair.first pair.second))

pub intersection_puts : (m : Mode) (values : List Value) (r : Reply) → MeansIntersect m values r → r.puts ≡ []
intersection_puts m values r (one, two, is, (pair, joined, here)) = reply_puts (IsIntersectionOf m pair) (IsIntersectionTooLarge m pair.first pair.second) pair.labels r here

pub intersection_number : (m : Mode) (values : List Value) (r : Reply) → MeansIntersect m values r → (status_number r.status ≡ 0) ⊎ (status_number r.status ≡ 12)
intersection_number m values r (one, two, is, (pair, joined, here)) = reply_number (IsIntersectionOf m pair) (IsIntersectionTooLarge m pair.first pair.second) pair.labels r here

pub intersection_status : (m : Mode) (files : FileMap) (a b : List ℕ) (values : List Value) (r : Reply) → ReadInTurn files (pair_inputs a b) values → MeansIntersect m values r → (n : ℕ) → n ≡ status_number r.status → IsIntersectionStatus m files a b n
intersection_status m files a b values r reads (one, two, is, (pair, joined, here)) n same =
    let (first, (second, end)) = subst (ReadInTurn files (pair_inputs a b)) is reads in
    (pair, (one, two, first, second, joined), reply_status (IsIntersectionOf m pair) (IsIntersectionTooLarge m pair.first pair.second) pair.labels (intersection_limits m pair.first pair.second) r here n same)

-- ---- what it shows

module _ (mode : Mode) (is_result accepts : Joined → Automaton → Type 0) (is_too_large : Joined → Type 0)
    (valid : (pair : Joined) (C : Automaton) → is_result pair C → IsAutomaton C)
    (over : (pair : Joined) (C : Automaton) → is_result pair C → C.labels ≡ pair.first.labels)
    (right : (pair : Joined) (C : Automaton) → IsAutomaton pair.first → IsAutomaton pair.second → is_result pair C → accepts pair C)
    (same : (pair : Joined) (C D : Automaton) → Same C D mode → accepts pair C → accepts pair D)
    (files : FileMap) (a b : List ℕ) (call : Call) (r : Reply) (number : status_number r.status ≡ call.status) (sends : Sends r.text call.before.sink call.after.sink)
  where
    shows_combined : (values : List Value) → ReadInTurn files (pair_inputs a b) values → MeansCombined (λ pair. IsCombinedReply (is_result pair) (is_too_large pair) pair.labels) values r →
        ShowsCombined a b is_result accepts call files
    shows_combined values reads (one, two, is, (pair, joined, inl (large, e))) =
        let twelve : call.status ≡ 12 = sym number ∙ ap (λ z. status_number z.status) e in
        record { shown = λ f. absurd (omega arith); no_other = (λ f. omega arith, λ f. omega arith) }
    shows_combined values reads (one, two, is, (pair, joined, inr (C, made, within, e))) =
        let ((bytes, has, few, first), ((bytes', has', few', second), end)) = subst (ReadInTurn files (pair_inputs a b)) is reads in
        let zero : call.status ≡ 0 = sym number ∙ ap (λ z. status_number z.status) e in
        let labels = joined_fit one two pair joined (labels_fit bytes FIRST_LIMITS one first) (labels_fit bytes' SECOND_LIMITS two second) in
        let writable : IsWritable C pair.labels = record { valid = valid pair C made; all_named = omega (arith, over pair C made, joined.first.labels_given); different = labels.1; fit = labels.0 } in
        let so = right pair C joined.first.valid joined.second.valid made in
        record {
          shown = λ f. record {
            pair = pair;
            combined = C;
            read = (one, two, (bytes, has, few, first), (bytes', has', few', second), joined);
            is_result_of = made;
            within = within;
            accepts_so = so;
            reads_back = record {
              reads = reads_with_room C pair.labels writable within.states within.labels within.transitions;
              joined = λ limits again other back j.
                  let small : length other.labels < 2 ^ 32 = omega (arith, j.first.valid.labels_fit, j.first.labels_given) in
                  same pair C other.second (written_same pair.labels C mode writable limits again other back j.labels small j.second) so;
            };
            printed = sends ∙ ap (λ z. append_known call.before.sink.sent z.text) e;
          };
          no_other = (λ f. omega arith, λ f. omega arith);
        }

-- automata that accept the same accept what one of two does, or what both do, alike
one_does : (m : Mode) (A B C D : Automaton) → Same C D m → AcceptsWhatEitherDoes m A B C → AcceptsWhatEitherDoes m A B D
one_does Buchi A B C D same h = λ u v. (λ d. (h u v).0 (same.1 u v d), λ x. same.0 u v ((h u v).1 x))
one_does Finite A B C D same h = λ w. (λ d. (h w).0 (same.1 w d), λ x. same.0 w ((h w).1 x))

both_do : (m : Mode) (A B C D : Automaton) → Same C D m → AcceptsWhatBothDo m A B C → AcceptsWhatBothDo m A B D
both_do Buchi A B C D same h = λ u v. (λ d. (h u v).0 (same.1 u v d), λ x. same.0 u v ((h u v).1 x))
both_do Finite A B C D same h = λ w. (λ d. (h w).0 (same.1 w d), λ x. same.0 w ((h w).1 x))

union_right : (m : Mode) (pair : Joined) (C : Automaton) → IsAutomaton pair.first → IsAutomaton pair.second → IsUnionOf m pair C → AcceptsWhatEitherDoes m pair.first pair.second C
union_right Buchi pair C first second is = union_lassos pair.first pair.second C first second is
union_right Finite pair C first second is = union_words pair.first pair.second C first second is

intersection_right : (m : Mode) (pair : Joined) (C : Automaton) → IsAutomaton pair.first → IsAutomaton pair.second → IsIntersectionOf m pair C → AcceptsWhatBothDo m pair.first pair.second C
intersection_right Buchi pair C first second is = intersection_lassos pair.first pair.second C is
intersection_right Finite pair C first second is = intersection_words pair.first pair.second C is

module _ (files : FileMap) (a b : List ℕ) (m : Mode) (call : Call) (r : Reply) (number : status_number r.status ≡ call.status) (sends : Sends r.text call.before.sink call.after.sink) where
  pub shows_union : (values : List Value) → ReadInTurn files (pair_inputs a b) values → MeansUnion m values r → ShowsUnion a b m call files
  shows_union =
      shows_combined m (IsUnionOf m) (λ pair. AcceptsWhatEitherDoes m pair.first pair.second) (λ pair. IsUnionTooLarge pair.first pair.second)
      (λ pair C is. is.valid) (λ pair C is. is.labels) (union_right m) (λ pair. one_does m pair.first pair.second) files a b call r number sends

  pub shows_intersection : (values : List Value) → ReadInTurn files (pair_inputs a b) values → MeansIntersect m values r → ShowsIntersect a b m call files
  shows_intersection =
      shows_combined m (IsIntersectionOf m) (λ pair. AcceptsWhatBothDo m pair.first pair.second) (λ pair. IsIntersectionTooLarge m pair.first pair.second)
      (λ pair C is. is.valid) (λ pair C is. is.labels) (intersection_right m) (λ pair. both_do m pair.first pair.second) files a b call r number sends
