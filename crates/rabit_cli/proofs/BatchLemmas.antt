-- Questions carried out one after the other.
use Rattle.std.proofs.Common.{◌≡◌, ◌⊎◌, ℕ, suc, ◌+◌, ◌-◌, ◌^◌, ◌≤◌, ◌<◌, ◌==◌, min, List, [], ◌∷◌, ◌++◌, length, take, All, Option, Some, None, IfSome, Bool, true, false, if◌then◌else◌, cond, inl, inr, refl, sym, ◌∙◌, ap, subst, arith, append_assoc, append-nil as append_nil}
use Rattle.std.proofs.Math.Nat.{min-le_left, min-le_right, min-eq_left, min-eq_right}
use Rattle.std.proofs.lemmas.Bool.{cases_lt, eqb-true, eq-eqb, ltb-true, and_parts, false≢true}
use Rattle.std.proofs.lemmas.List.Elements.{All-nil, All-cons, All-head, All-tail}
use Rattle.std.proofs.lemmas.Str.{IsUtf8-from_ascii}
use Rattle.std.proofs.lemmas.Str.Ascii.{IsAscii-from_all}
use Rattle.std.proofs.lemmas.Cmp.{nat_list_cmp_total}
use Rattle.std.specs.FinMap as map
use Rattle.std.specs.FinMap.{get-insert}
use Rattle.std.specs.Prelude.{is_some, nat_lt, IsUtf8, map as map_list}
use Rattle.std.specs.List.{list_all}
use Rattle.std.specs.Io.KnownBytes.{append_known}
use Rattle.shelf_io.specs.Counts.{Rose, counted}
use Rattle.shelf_io.specs.Shelf.{FileMap, CountsMissing}
use Rattle.shelf_io.specs.Seen.{ShelfSeen, SinkSeen, Call, OnlyRead, call as call_of}
use Rattle.auto_core.specs.declared.parts.Mode.TheVariants.{Buchi}
use Rattle.ba_format.specs.declared.parts.Limits.{Limits}
use Rattle.cert_value.specs.WellFormed.{has_some}
use Rattle.equal_batch.specs.declared.questions.TheConstants.{MOST_LINES}
use Rattle.equal_batch.specs.declared.questions.Question.{Question}
use Rattle.equal_batch.specs.Questions.{is_character, is_word, is_question, line_of}
use Rattle.rabit_frame.specs.declared.parts.FileKind.TheVariants as kind
use Rattle.rabit_frame.specs.declared.parts.Value.{Value}
use Rattle.rabit_frame.specs.declared.parts.Value.TheVariants as value
use Rattle.rabit_frame.specs.declared.parts.Reply.{Reply}
use Rattle.rabit_frame.specs.declared.parts.Ending.{Ending}
use Rattle.rabit_frame.specs.declared.parts.Ending.TheVariants as ending
use Rattle.rabit_frame.specs.Files.{Input, Output}
use Rattle.rabit_frame.specs.Request.{Request, only_reading}
use Rattle.rabit_frame.specs.Statuses.{status_number}
use Rattle.rabit_frame.specs.Reading.{FileReads, IsOfKind, MayStopAt, MissedInTurn}
use Rattle.rabit_frame.specs.Ending.{BeforeAndAfter, IsCutShort, PutEach, Leaves, MayEnd, Sends, filed, status_of, status_unsent, WasSaid}
use Rattle.rabit_frame.specs.Carrying.{EndsSo, IsCarriedOut, SaysEach, FaultsHaveCauses, PutsByStatus, BegunByStatus}
use Rattle.rabit_frame.proofs.EndLemmas.{own_number, may_plain, stop_plain, both_map, left_same, says_each, carried_out, tells_faults, begun_by_status}
use Rattle.rabit_frame.proofs.TurnLemmas.{counts_here}
use Rattle.rabit_cli.specs.Include.{usual_terms, LeavesDecided, ShowsInclude}
use Rattle.rabit_cli.specs.Batch.{AreQuestions, AnswersQuestion, ShowsQuestion, question_inputs, question_request, IsQuestionStatus, unsaid, ShelfFaults, IsAskedOf, AutomataAreThere, LeavesQuestion, question_line, question_lines, GivenEach, times, RoseBy, IsCarriedEach, list_file, batch_inputs, IsStatusOfNoneAsked, NoneAsked, AreAsked, after_reading, EndsBatch, IsBatch}
use Rattle.rabit_cli.specs.Laws.{QuestionsShowInTurn}
use Rattle.rabit_cli.proofs.IncludeLemmas.{usual_bounded, one_include, include_low, leaves_include, shows_include}

min_cases : (a b c : ℕ) → min a b ≤ c → (a ≤ c) ⊎ (b ≤ c)
min_cases a b c low = elim (cases_lt b a) [
  | inl less ↦ inr (subst (λ m. m ≤ c) (min-eq_right (omega (arith, less))) low)
  | inr upto ↦ inl (subst (λ m. m ≤ c) (min-eq_left upto) low)
]

-- ---- the end of one question

-- a file that is not read has status 4
stops_four : (n : ℕ) (limits : Limits) (r : Reply) → MayStopAt (kind.Automaton n limits) r → status_number r.status ≡ 4
stops_four n limits r p = elim p [ inl long ↦ ap (λ z. status_number z.status) long | inr (bytes, (fault, is, e)) ↦ ap (λ z. status_number z.status) e ]

pub question_status : (q : Question) (e : Ending) → MayEnd (question_request q) e → IsQuestionStatus (status_of e)
question_status q (ending.Reached r) may = elim may [
  | inl stop ↦ elim stop [
    | inl first ↦ inr (inl (stops_four _ _ r first))
    | inr later ↦ elim later [ inl second ↦ inr (inl (stops_four _ _ r second)) | inr none ↦ absurd none ]
  ]
  | inr (values, kinds, means) ↦ inl (include_low q.cert (usual_terms Buchi) values r means)
]
question_status q (ending.ReadFault) may = inr (inr (inl refl))
question_status q (ending.WriteFault) may = inr (inr (inr (inl refl)))
question_status q (ending.OutOfMemory) may = inr (inr (inr (inr refl)))

pub ends_unread : (e : Ending) → status_of e ≡ 6 → e ≡ ending.ReadFault
ends_unread (ending.Reached r) is = absurd ((own_number r.status).0 is)
ends_unread (ending.ReadFault) is = refl
ends_unread (ending.WriteFault) is = absurd (omega arith)
ends_unread (ending.OutOfMemory) is = absurd (omega arith)

pub ends_at_write_fault : (e : Ending) → status_of e ≡ 7 → e ≡ ending.WriteFault
ends_at_write_fault (ending.Reached r) is = absurd ((own_number r.status).1 is)
ends_at_write_fault (ending.ReadFault) is = absurd (omega arith)
ends_at_write_fault (ending.WriteFault) is = refl
ends_at_write_fault (ending.OutOfMemory) is = absurd (omega arith)

pub ends_refused : (e : Ending) → status_of e ≡ 8 → e ≡ ending.OutOfMemory
ends_refused (ending.Reached r) is = absurd ((own_number r.status).2 is)
ends_refused (ending.ReadFault) is = absurd (omega arith)
ends_refused (ending.WriteFault) is = absurd (omega arith)
ends_refused (ending.OutOfMemory) is = refl

module _ (q : Question) (old new : ShelfSeen) (e : Ending) (ends : EndsSo (question_request q) e old new) where
  pub answers_question : IfSome old.files (AnswersQuestion q (status_of e) old new)
  answers_question = go old.files (says_each (question_request q) (unsaid (status_of e) old new) e ends (inl (refl, refl, refl))
      (λ vs r s kinds p p'. one_include q.cert (usual_terms Buchi) (usual_bounded Buchi).look_from vs r s p p'))
    where
      go : (h : Option FileMap) → IfSome h (λ files. SaysEach (question_request q) (unsaid (status_of e) old new) files) → IfSome h (AnswersQuestion q (status_of e) old new)
      go None says = tt
      go (Some files) says = λ r right. elim (says r right) [
        | inl (given, left) ↦ elim given [
          | inl whole ↦ inl (whole.0, left)
          | inr front ↦ absurd (elim (min_cases (0 + 1) (2 ^ 64 - 1) 0 front.1) [ inl one ↦ omega arith | inr most ↦ omega arith ])
        ]
        | inr fault ↦ inr fault
      ]

  pub leaves_question : BeforeAndAfter old.files new.files (LeavesDecided q.first q.second q.cert (usual_terms Buchi) (unsaid (status_of e) old new))
  leaves_question = leaves_include (unsaid (status_of e) old new) q.first q.second q.cert (usual_terms Buchi) (usual_bounded Buchi) e ends (inl (refl, refl, refl))

  pub shelf_faults : ShelfFaults (status_of e) old new
  shelf_faults = record {
    read_fault = λ six. ends.read_fault (ends_unread e six);
    no_read_fault = λ other. ends.no_read_fault (λ is. other (ap status_of is));
    write_fault = λ seven. ends.write_fault (ends_at_write_fault e seven);
    no_write_fault = λ other. ends.no_write_fault (λ is. other (ap status_of is));
    memory = λ eight. left_same old.files new.files (subst (λ z. BeforeAndAfter old.files new.files (λ files files'. Leaves (question_request q) z files files')) (ends_refused e eight) ends.leaves);
  }

-- what a question's status up to 2 shows
shows_low : (q : Question) (status : ℕ) (old new : ShelfSeen) (files files' : FileMap) → status ≤ 2 → LeavesQuestion q status files files' → ShowsInclude q.first q.second q.cert (usual_terms Buchi) (unsaid status old new) files files'
shows_low q status old new files files' low (ending.Reached r, (right, left), is) = elim right [
  | inl stop ↦ (let four = (stop_plain files (question_inputs q) r stop).0 in absurd (omega arith))
  | inr (values, reads, means) ↦ shows_include files q.first q.second q.cert (usual_terms Buchi) (usual_bounded Buchi) (unsaid status old new) files' r is left refl values reads means
]
shows_low q status old new files files' low (ending.ReadFault, left, is) = absurd (omega arith)
shows_low q status old new files files' low (ending.WriteFault, left, is) = absurd (omega arith)
shows_low q status old new files files' low (ending.OutOfMemory, left, is) = absurd (omega arith)

module _ (q : Question) (status : ℕ) (old new : ShelfSeen) (e : Ending) (ends : EndsSo (question_request q) e old new) (is : status_of e ≡ status) where
  left_by : BeforeAndAfter old.files new.files (LeavesQuestion q status)
  left_by = both_map old.files new.files (λ files files'. Leaves (question_request q) e files files') (LeavesQuestion q status) (λ files files' left. (e, left, is)) ends.leaves

  pub shows_question : ShowsQuestion q status old new
  shows_question low = both_map old.files new.files (LeavesQuestion q status) (ShowsInclude q.first q.second q.cert (usual_terms Buchi) (unsaid status old new)) (λ files files' left. shows_low q status old new files files' low left) left_by

-- and what each of some in turn shows
pub questions_show : QuestionsShowInTurn
questions_show questions [] old new same = same
questions_show [] (status ∷ statuses) old new none = none
questions_show (q ∷ questions) (status ∷ statuses) old new (between, asked, later) = (
  between,
  left_by q status old between asked.end asked.ends asked.has,
  shows_question q status old between asked.end asked.ends asked.has,
  questions_show questions statuses between new later,
)

-- ---- what is there stays there

insert_keeps : (files : FileMap) (k v n : List ℕ) → map.contains_key files n ≡ true → map.contains_key (map.insert files k v) n ≡ true
insert_keeps files k v n there = ap is_some (get-insert nat_list_cmp_total files k v n) ∙ go _
  where
    go : (b : Bool) → is_some (cond b (Some v) (map.get files n)) ≡ true
    go true = refl
    go false = there

filed_keeps : (puts : List Output) (files : FileMap) (n : List ℕ) → map.contains_key files n ≡ true → map.contains_key (filed files puts) n ≡ true
filed_keeps [] files n there = there
filed_keeps (p ∷ ps) files n there = filed_keeps ps (map.insert files p.name p.bytes) n (insert_keeps files p.name p.bytes n there)

cut_keeps : (puts : List Output) (files files' : FileMap) (n : List ℕ) → IsCutShort files puts files' → map.contains_key files n ≡ true → map.contains_key files' n ≡ true
cut_keeps [] files files' n cut there = absurd cut
cut_keeps (p ∷ ps) files files' n cut there = elim cut [
  | inl same ↦ ap (λ (m : FileMap). map.contains_key m n) same ∙ there
  | inr rest ↦ elim rest [
    | inl (k, front) ↦ ap (λ (m : FileMap). map.contains_key m n) front ∙ insert_keeps files p.name (take k p.bytes) n there
    | inr later ↦ cut_keeps ps (map.insert files p.name p.bytes) files' n later (insert_keeps files p.name p.bytes n there)
  ]
]

module _ (request : Request) (files files' : FileMap) where
  leaves_keep : (e : Ending) (n : List ℕ) → Leaves request e files files' → map.contains_key files n ≡ true → map.contains_key files' n ≡ true
  leaves_keep (ending.Reached r) n left there = ap (λ (m : FileMap). map.contains_key m n) left.1 ∙ filed_keeps r.puts files n there
  leaves_keep (ending.WriteFault) n (r, right, cut) there = cut_keeps r.puts files files' n cut there
  leaves_keep (ending.ReadFault) n left there = ap (λ (m : FileMap). map.contains_key m n) left ∙ there
  leaves_keep (ending.OutOfMemory) n left there = ap (λ (m : FileMap). map.contains_key m n) left ∙ there

  all_keep : (e : Ending) (questions : List Question) → Leaves request e files files' → All (AutomataAreThere files) questions → All (AutomataAreThere files') questions
  all_keep e [] left there = All-nil (AutomataAreThere files')
  all_keep e (q ∷ qs) left there =
      let here = All-head (AutomataAreThere files) q qs there in
      All-cons (AutomataAreThere files') q qs (leaves_keep e q.first left here.0, leaves_keep e q.second left here.1) (all_keep e qs left (All-tail (AutomataAreThere files) q qs there))

-- no name that is there is missed
counts_none : (q : Question) (files : FileMap) (before now : ℕ) → MissedInTurn files (question_inputs q) before now → AutomataAreThere files q → now ≡ before
counts_none q files before now counts there = elim counts [
  | inl same ↦ same
  | inr missing ↦ elim missing [
    | inl first ↦ absurd (false≢true (sym first ∙ there.0))
    | inr (v, reads, later) ↦ elim later [ inl second ↦ absurd (false≢true (sym second ∙ there.1)) | inr (w, reads', none) ↦ absurd none ]
  ]
]

-- ---- counts

rose_more : (most n a b c : ℕ) → min (a + 1) most ≤ b → min (b + n) most ≤ c → min (a + (1 + n)) most ≤ c
rose_more most n a b c one more = elim (min_cases (b + n) most c more) [
  | inr high ↦ (let upto = min-le_right (a + (1 + n)) most in omega arith)
  | inl low ↦ elim (min_cases (a + 1) most b one) [
    | inr high ↦ (let upto = min-le_right (a + (1 + n)) most in omega arith)
    | inl rose ↦ (let upto = min-le_left (a + (1 + n)) most in omega arith)
  ]
]

pub rose_none : (n : ℕ) → RoseBy 0 n n
rose_none n = (let upto = min-le_left (n + 0) (2 ^ 64 - 1) in omega arith)

rose_by : (status one : ℕ) (more : List ℕ) (a b c : ℕ) → (one ≡ status → Rose a b) → ((one ≡ status → ⊥) → b ≡ a) → RoseBy (times status more) b c → RoseBy (times status (one ∷ more)) a c
rose_by status one more a b c rises stays rest = go (one == status) refl
  where
    go : (t : Bool) → (one == status) ≡ t → RoseBy (if t then 1 + times status more else times status more) a c
    go true e = rose_more (2 ^ 64 - 1) (times status more) a b c (rises (eqb-true one status e)) rest
    go false e = subst (λ z. RoseBy (times status more) z c) (stays (λ is. false≢true (sym e ∙ eq-eqb one status is))) rest

-- a count that the question left, and those after it, did not change
stay_by : (status one : ℕ) (more : List ℕ) (a b c : ℕ) → ((one ≡ status → ⊥) → b ≡ a) → (times status more ≡ 0 → c ≡ b) → times status (one ∷ more) ≡ 0 → c ≡ a
stay_by status one more a b c stays rest = go (one == status) refl
  where
    go : (t : Bool) → (one == status) ≡ t → (if t then 1 + times status more else times status more) ≡ 0 → c ≡ a
    go true e none = absurd (omega (arith, none))
    go false e none = rest none ∙ stays (λ is. false≢true (sym e ∙ eq-eqb one status is))

-- ---- texts

known_append : (sent : Option (List ℕ)) (a b : List ℕ) → append_known (append_known sent a) b ≡ append_known sent (a ++ b)
known_append None a b = refl
known_append (Some x) a b = ap Some (append_assoc x a b)

-- ---- one question more

pub each_none : (number : ℕ) (shelf : ShelfSeen) (sink : SinkSeen) → IsCarriedEach number [] (call_of shelf shelf sink sink 0)
each_none number shelf sink = record {
  statuses = [];
  within = omega arith;
  known = All-nil IsQuestionStatus;
  said = inl (refl, refl, known_nil sink.sent, refl);
  given_each = refl;
  in_turn = refl;
  read_faults_rose = rose_none shelf.read_faults;
  put_faults_rose = rose_none shelf.put_faults;
  read_faults_stay = λ zero. refl;
  put_faults_stay = λ zero. refl;
  missed_stays = none shelf.files;
}
  where
    known_nil : (s : Option (List ℕ)) → s ≡ append_known s []
    known_nil None = refl
    known_nil (Some x) = ap Some (sym (append_nil x))

    none : (h : Option FileMap) → IfSome h (λ files. All (AutomataAreThere files) [] → shelf.missed ≡ shelf.missed)
    none None = tt
    none (Some files) = λ there. refl

module _ (q : Question) (status number : ℕ) (old between : ShelfSeen) (asked : IsAskedOf q status old between) where
  known_status : IsQuestionStatus status
  known_status = subst IsQuestionStatus asked.has (question_status q asked.end asked.ends.may)

  missed_more : (questions : List Question) (missed' : ℕ) → IfSome between.files (λ files. All (AutomataAreThere files) questions → missed' ≡ between.missed) → IfSome old.files (λ files. All (AutomataAreThere files) (q ∷ questions) → missed' ≡ old.missed)
  missed_more questions missed' rest = go old.files asked.ends.leaves asked.calls.missing
    where
      go : (h : Option FileMap) → BeforeAndAfter h between.files (λ files files'. Leaves (question_request q) asked.end files files') → IfSome h (λ files. MissedInTurn files (question_inputs q) old.missed between.missed) → IfSome h (λ files. All (AutomataAreThere files) (q ∷ questions) → missed' ≡ old.missed)
      go None none c = tt
      go (Some files) (mid, is, left) c = λ there.
          let later = subst (λ (m : Option FileMap). IfSome m (λ files. All (AutomataAreThere files) questions → missed' ≡ between.missed)) is rest in
          later (all_keep (question_request q) files mid asked.end questions left (All-tail (AutomataAreThere files) q questions there))
          ∙ counts_none q files old.missed between.missed c (All-head (AutomataAreThere files) q questions there)

  pub each_more : (questions : List Question) (ended : ℕ) (new : ShelfSeen) (sink sink1 sink' : SinkSeen)
      → Sends (question_line number status) sink sink1 → sink1.give_faults ≡ sink.give_faults → sink1.gives ≡ counted sink.gives
      → IsCarriedEach (number + 1) questions (call_of between new sink1 sink' ended)
      → IsCarriedEach number (q ∷ questions) (call_of old new sink sink' ended)
  each_more questions ended new sink sink1 sink' sends stays given rest = record {
    statuses = status ∷ rest.statuses;
    within = (let few = rest.within in omega arith);
    known = All-cons IsQuestionStatus status rest.statuses known_status rest.known;
    said = elim rest.said [
      | inl (zero, all, sends', stays') ↦ inl (zero, ap suc all, sends' ∙ ap (λ s. append_known s (question_lines (number + 1) rest.statuses)) sends ∙ known_append sink.sent _ _, stays' ∙ stays)
      | inr (seven, rose, (before, last, is, (n, sends'))) ↦
          inr (seven, subst (λ g. Rose g sink'.give_faults) stays rose, (status ∷ before, last, ap (λ ss. status ∷ ss) is, (n, front before last n sends')))
    ];
    given_each = subst (λ n. GivenEach rest.statuses n sink'.gives) given rest.given_each;
    in_turn = (between, asked, rest.in_turn);
    read_faults_rose = rose_by 6 status rest.statuses old.read_faults between.read_faults new.read_faults asked.faults.read_fault asked.faults.no_read_fault rest.read_faults_rose;
    put_faults_rose = rose_by 7 status rest.statuses old.put_faults between.put_faults new.put_faults asked.faults.write_fault asked.faults.no_write_fault rest.put_faults_rose;
    read_faults_stay = stay_by 6 status rest.statuses old.read_faults between.read_faults new.read_faults asked.faults.no_read_fault rest.read_faults_stay;
    put_faults_stay = stay_by 7 status rest.statuses old.put_faults between.put_faults new.put_faults asked.faults.no_write_fault rest.put_faults_stay;
    missed_stays = missed_more questions new.missed rest.missed_stays;
  }
    where
      front : (before : List ℕ) (last n : ℕ) → sink'.sent ≡ append_known sink1.sent (question_lines (number + 1) before ++ take n (question_line (number + 1 + length before) last))
          → sink'.sent ≡ append_known sink.sent (question_lines number (status ∷ before) ++ take n (question_line (number + length (status ∷ before)) last))
      front before last n sends' =
          let place : number + 1 + length before ≡ number + length (status ∷ before) = omega arith in
          sends' ∙ ap (λ s. append_known s (question_lines (number + 1) before ++ take n (question_line (number + 1 + length before) last))) sends
          ∙ known_append sink.sent (question_line number status) (question_lines (number + 1) before ++ take n (question_line (number + 1 + length before) last))
          ∙ ap (append_known sink.sent) (sym (append_assoc (question_line number status) (question_lines (number + 1) before) (take n (question_line (number + 1 + length before) last))))
          ∙ ap (λ m. append_known sink.sent (question_lines number (status ∷ before) ++ take n (question_line m last))) place

  pub each_refused : (questions : List Question) (sink sink' : SinkSeen) (n : ℕ) → Sends (take n (question_line number status)) sink sink' → Rose sink.give_faults sink'.give_faults → sink'.gives ≡ counted sink.gives
      → IsCarriedEach number (q ∷ questions) (call_of old between sink sink' 7)
  each_refused questions sink sink' n sends rose given = record {
    statuses = status ∷ [];
    within = omega arith;
    known = All-cons IsQuestionStatus status [] known_status (All-nil IsQuestionStatus);
    said = inr (refl, rose, ([], status, refl, (n, sends ∙ ap (λ m. append_known sink.sent (take n (question_line m status))) place)));
    given_each = given;
    in_turn = (between, asked, refl);
    read_faults_rose = rose_by 6 status [] old.read_faults between.read_faults between.read_faults asked.faults.read_fault asked.faults.no_read_fault (rose_none between.read_faults);
    put_faults_rose = rose_by 7 status [] old.put_faults between.put_faults between.put_faults asked.faults.write_fault asked.faults.no_write_fault (rose_none between.put_faults);
    read_faults_stay = stay_by 6 status [] old.read_faults between.read_faults between.read_faults asked.faults.no_read_fault (λ zero. refl);
    put_faults_stay = stay_by 7 status [] old.put_faults between.put_faults between.put_faults asked.faults.no_write_fault (λ zero. refl);
    missed_stays = missed_more questions between.missed (none between.files);
  }
    where
      none_more : List ℕ
      none_more = []

      place : number ≡ number + length none_more
      place = omega arith

      none : (h : Option FileMap) → IfSome h (λ files. All (AutomataAreThere files) questions → between.missed ≡ between.missed)
      none None = tt
      none (Some files) = λ there. refl

-- ---- the list

-- a list that is not read has status 11
stops_eleven : (r : Reply) → MayStopAt (kind.Questions) r → (status_number r.status ≡ 11) × (status_unsent (ending.Reached r) ≡ 11)
stops_eleven r p = elim p [
  | inl long ↦ (ap (λ z. status_number z.status) long, ap (λ z. status_unsent (ending.Reached z)) long)
  | inr (bytes, (line, is, e)) ↦ (ap (λ z. status_number z.status) e, ap (λ z. status_unsent (ending.Reached z)) e)
]

module _ (list : List ℕ) (call : Call) where
  pub unread_status : IsCarriedOut (only_reading (batch_inputs list)) call → IsStatusOfNoneAsked call.status
  unread_status c = go c.end c.ends.may c.said
    where
      reached : (r : Reply) → MayStopAt (kind.Questions) r → WasSaid (ending.Reached r) call.status call.before.sink call.after.sink → IsStatusOfNoneAsked call.status
      reached r may said = elim said [ inl whole ↦ inr (inr (whole.0 ∙ (stops_eleven r may).0)) | inr front ↦ inr (inr (front.0 ∙ (stops_eleven r may).1)) ]

      go : (e : Ending) → MayEnd (only_reading (batch_inputs list)) e → WasSaid e call.status call.before.sink call.after.sink → IsStatusOfNoneAsked call.status
      go (ending.Reached r) may said = elim may [
        | inl stop ↦ elim stop [ inl here ↦ reached r here said | inr none ↦ absurd none ]
        | inr (values, kinds, none) ↦ absurd none
      ]
      go (ending.ReadFault) may said = inl (elim said [ inl whole ↦ whole.0 | inr front ↦ front.0 ])
      go (ending.OutOfMemory) may said = inr (inl (elim said [ inl whole ↦ whole.0 | inr front ↦ front.0 ]))
      go (ending.WriteFault) (r, may, some) said = elim may [
        | inl stop ↦ (let none = ap length (may_plain (batch_inputs list) r stop).1 in absurd (omega arith))
        | inr (values, kinds, none) ↦ absurd none
      ]

  -- and nothing is put
  pub puts_none : IsStatusOfNoneAsked call.status → PutsByStatus (only_reading (batch_inputs list)) call.status call.before.shelf call.after.shelf → call.after.shelf.puts ≡ call.before.shelf.puts
  puts_none known puts = elim known [
    | inl six ↦ puts.read_fault six
    | inr more ↦ elim more [
      | inl eight ↦ puts.memory eight
      | inr eleven ↦
          let (r, (may, right), is, each) = puts.own (λ z. omega arith, λ z. omega arith, λ z. omega arith) in
          elim may [
            | inl stop ↦ subst (λ ps. PutEach ps call.before.shelf.puts call.after.shelf.puts) (may_plain (batch_inputs list) r stop).1 each
            | inr (values, kinds, none) ↦ absurd none
          ]
    ]
  ]

  -- ---- what the status of a batch says

  all_said : call.status ≡ 0 → FaultsHaveCauses call
  all_said zero = record { read_fault = λ six. absurd (omega arith); read_line = λ six. absurd (omega arith); write_fault = λ seven. absurd (omega arith); memory = λ eight. absurd (omega arith) }

  last_refused : call.status ≡ 7 → Rose call.before.sink.give_faults call.after.sink.give_faults → FaultsHaveCauses call
  last_refused seven rose = record { read_fault = λ six. absurd (omega arith); read_line = λ six. absurd (omega arith); write_fault = λ again. inl rose; memory = λ eight. absurd (omega arith) }

  unread_cause : NoneAsked list call → FaultsHaveCauses call
  unread_cause u = (tells_faults (only_reading (batch_inputs list)) call u.carried.end u.carried.ends u.carried.said).cause

  unread_ends : NoneAsked list call → EndsBatch call
  unread_ends u = elim u.known [
    | inl six ↦ inr (inr (inr (inl (six, (unread_cause u).read_fault six))))
    | inr more ↦ elim more [ inl eight ↦ inr (inr (inl eight)) | inr eleven ↦ inr (inl eleven) ]
  ]

  -- unless no question was asked it is 0 or 7
  pub is_batch : NoneAsked list call ⊎ AreAsked list call → IsBatch list call
  is_batch how = elim how [
    | inl u ↦ record { how = inl u; cause = unread_cause u; ends = unread_ends u }
    | inr asked ↦ elim asked.each.said [
      | inl said ↦ record { how = inr asked; cause = all_said said.0; ends = inl said.0 }
      | inr last ↦ record { how = inr asked; cause = last_refused last.0 last.1; ends = inr (inr (inr (inr last.1))) }
    ]
  ]

  pub no_usage : IsBatch list call → call.status ≡ 3 → ⊥
  no_usage is three = elim is.how [
    | inl u ↦ elim u.known [ inl six ↦ omega arith | inr more ↦ elim more [ inl eight ↦ omega arith | inr eleven ↦ omega arith ] ]
    | inr asked ↦ elim asked.each.said [ inl said ↦ (let zero : call.status ≡ 0 = said.0 in omega arith) | inr last ↦ (let seven : call.status ≡ 7 = last.0 in omega arith) ]
  ]

-- ---- names

small : (bytes : List ℕ) → list_all is_character bytes ≡ true → All (λ b. b < 128) bytes
small [] is = All-nil (λ b. b < 128)
small (b ∷ bs) is =
    let parts = and_parts (is_character b) (list_all is_character bs) is in
    let low = ltb-true b 127 (and_parts (nat_lt 32 b) (nat_lt b 127) parts.0).1 in
    All-cons (λ b. b < 128) b bs (omega (arith, low)) (small bs parts.1)

-- the bytes of a word are text
pub word_is_text : (bytes : List ℕ) → is_word bytes ≡ true → IsUtf8 bytes
word_is_text bytes is = IsUtf8-from_ascii bytes (IsAscii-from_all bytes (small bytes (and_parts (has_some bytes) (list_all is_character bytes) is).1))

-- the three names of a question are words
pub words_of : (q : Question) → is_question (line_of q) ≡ true → (is_word q.first ≡ true) × (is_word q.second ≡ true) × (is_word q.cert ≡ true)
words_of q is =
    let all = (and_parts (length (line_of q) == 3) (list_all is_word (line_of q)) is).1 in
    let one = and_parts (is_word q.first) (list_all is_word (q.second ∷ q.cert ∷ [])) all in
    let two = and_parts (is_word q.second) (list_all is_word (q.cert ∷ [])) one.1 in
    let three = and_parts (is_word q.cert) (list_all is_word []) two.1 in
    (one.0, two.0, three.0)

-- so are those of the first, and those of the others
pub first_is_question : (q : Question) (questions : List Question) → AreQuestions (q ∷ questions) → (is_question (line_of q) ≡ true) × AreQuestions questions
first_is_question q questions are = and_parts (is_question (line_of q)) (list_all is_question (map_list line_of questions)) are

-- a read list has questions, and at most 1,000
pub list_is_of_questions : (questions : List Question) → IsOfKind kind.Questions (value.Questions questions) → AreQuestions questions × (length questions ≤ MOST_LINES)
list_is_of_questions questions (bytes, is) = (is.words, is.few)

-- ---- the whole batch

-- the list is not read
pub batch_unread : (list : List ℕ) (slot : Input) (old new : ShelfSeen) (sink sink' : SinkSeen) (status : ℕ) (e : Ending)
    → slot ≡ list_file list → EndsSo (only_reading (slot ∷ [])) e old new → WasSaid e status sink sink' → sink'.gives ≡ counted sink.gives → CountsMissing old.files slot.name old.missed new.missed → new.puts ≡ old.puts
    → BegunByStatus (slot ∷ []) (status_of e) old new
    → IsBatch list (call_of old new sink sink' status)
batch_unread list slot old new sink sink' status e is ends said given counts puts_stay begun =
    let whole : Call = call_of old new sink sink' status in
    let carried : IsCarriedOut (only_reading (batch_inputs list)) whole =
    carried_out (only_reading (batch_inputs list)) whole e (subst (λ (i : Input). EndsSo (only_reading (i ∷ [])) e old new) is ends) said (λ values r s kinds p p'. absurd p) in
    is_batch list whole (inl (record {
      carried = carried;
      known = unread_status list whole carried;
      given_once = given;
      missing = counts_here old.files (list_file list) [] old.missed new.missed (subst (λ (i : Input). CountsMissing old.files i.name old.missed new.missed) is counts);
      begun = begun_by_status (batch_inputs list) old new e status (subst (λ (i : Input). BegunByStatus (i ∷ []) (status_of e) old new) is begun) (elim said [ inl sent ↦ inl sent.0 | inr front ↦ inr front.0 ]);
      puts_stay = puts_stay;
    }))

-- the list was read, so its name was not missed
read_is_held : (files : FileMap) (i : Input) (v : Value) (before now : ℕ) → FileReads files i v → CountsMissing (Some files) i.name before now → now ≡ before
read_is_held files i v before now (bytes, has, few, reads) counts = counts ∙ go (map.contains_key files i.name) (ap is_some has)
  where
    go : (found : Bool) → found ≡ true → (if found then before else counted before) ≡ before
    go true is = refl
    go false is = absurd (false≢true is)

-- the list is read, and its questions are carried out
pub batch_asked : (list : List ℕ) (slot : Input) (old mid new : ShelfSeen) (sink sink' : SinkSeen) (status : ℕ) (questions : List Question)
    → slot ≡ list_file list → IsOfKind slot.kind (value.Questions questions) → IfSome old.files (λ files. FileReads files slot (value.Questions questions)) → CountsMissing old.files slot.name old.missed mid.missed
    → OnlyRead (counted old.begins) old mid → mid.read_faults ≡ old.read_faults
    → IsCarriedEach 1 questions (call_of mid new sink sink' status)
    → IsBatch list (call_of old new sink sink' status)
batch_asked list slot old mid new sink sink' status questions is kind reads counts only_read read_stays each =
    let of = list_is_of_questions questions (subst (λ (i : Input). IsOfKind i.kind (value.Questions questions)) is kind) in
    let same : mid ≡ after_reading old mid.blamed =
    only_read ∙ ap (λ (n : ℕ). with_both n mid.missed) read_stays ∙ ap (λ (n : ℕ). with_both old.read_faults n) (stays old.files reads counts) in
    is_batch list (call_of old new sink sink' status) (inr (record {
      questions = questions;
      words = of.0;
      few = of.1;
      read = subst (λ (i : Input). IfSome old.files (λ files. FileReads files i (value.Questions questions))) is reads;
      blamed = mid.blamed;
      each = subst (λ (s : ShelfSeen). IsCarriedEach 1 questions (call_of s new sink sink' status)) same each;
    }))
  where
    with_both : ℕ → ℕ → ShelfSeen
    with_both faults missed = record old { begins = counted old.begins; read_faults = faults; blamed = mid.blamed; missed = missed }

    stays : (h : Option FileMap) → IfSome h (λ files. FileReads files slot (value.Questions questions)) → CountsMissing h slot.name old.missed mid.missed → mid.missed ≡ old.missed
    stays None reads counts = counts
    stays (Some files) reads counts = read_is_held files slot (value.Questions questions) old.missed mid.missed reads counts
