-- A question whose automata read is answered.
use Rattle.std.proofs.Common.{◌≡◌, ◌⊎◌, ℕ, List, [], ◌∷◌, Option, Some, None, IfSome, inl, inr, refl, ◌∙◌, ap, arith}
use Rattle.shelf_io.specs.Shelf.{FileMap}
use Rattle.shelf_io.specs.Seen.{Call}
use Rattle.rabit_frame.specs.declared.parts.Value.{Value}
use Rattle.rabit_frame.specs.declared.parts.Reply.{Reply}
use Rattle.rabit_frame.specs.declared.parts.Ending.{Ending}
use Rattle.rabit_frame.specs.declared.parts.Ending.TheVariants as ending
use Rattle.rabit_frame.specs.Files.{Input}
use Rattle.rabit_frame.specs.Statuses.{status_number}
use Rattle.rabit_frame.specs.Reading.{ReadInTurn, StopInTurn, FileStops}
use Rattle.rabit_frame.specs.Ending.{IsReplyFor, Leaves, BeforeAndAfter, WasSaid}
use Rattle.rabit_frame.specs.Carrying.{EndsSo, IsCarriedOut}
use Rattle.rabit_frame.proofs.OneLemmas.{stop_or_read_in_turn}
use Rattle.rabit_words.specs.Question.{Question, Include, Check, Reduce, Drill, Upgrade, Cross, CrossCheck, Equal, Batch, Union, Intersect, Shrink, Empty, Universal}
use Rattle.rabit_frame.specs.declared.files.TheConstants.{SECOND_LIMITS, FIRST_LIMITS}
use Rattle.rabit_frame.specs.FileKinds.{automaton_file, certificate_file, pair_inputs}
use Rattle.rabit_cli.specs.Include.{terms_by}
use Rattle.rabit_cli.specs.Reduce.{reduce_inputs}
use Rattle.rabit_cli.specs.Cross.{cross_file}
use Rattle.rabit_cli.proofs.CrossLemmas.{cross_status, cross_check_status}
use Rattle.rabit_cli.specs.Property.{property_inputs}
use Rattle.rabit_cli.specs.Empty.{emptiness}
use Rattle.rabit_cli.specs.Universal.{universality}
use Rattle.rabit_cli.specs.Commands.{IsSingle, request_of}
use Rattle.rabit_cli.specs.Complete.{automata_of, MayAnswer, AnyRose, AnswersWhatReads}
use Rattle.rabit_cli.proofs.CheckLemmas.{check_answers}
use Rattle.rabit_cli.proofs.IncludeLemmas.{include_low}
use Rattle.rabit_cli.proofs.CombineLemmas.{union_status, intersection_status}
use Rattle.rabit_cli.proofs.ShrinkLemmas.{shrink_status}
use Rattle.rabit_cli.proofs.UpgradeLemmas.{upgrade_status}
use Rattle.rabit_cli.specs.Equal.{equal_inputs}
use Rattle.rabit_cli.proofs.EqualLemmas.{equal_low}
use Rattle.rabit_cli.proofs.PropertyLemmas.{decided_low}
use Rattle.rabit_cli.proofs.EmptyLemmas.{emptiness_decidable}
use Rattle.rabit_cli.proofs.UniversalLemmas.{universality_decidable}

-- a certificate that is not read is refused
certificate_stops : (files : FileMap) (c : List ℕ) (r : Reply) → FileStops files (certificate_file c) r → status_number r.status ≡ 5
certificate_stops files c r (bytes, has, why) = elim why [
  | inl long ↦ ap (λ z. status_number z.status) long.1
  | inr (few, (fault, first, e)) ↦ ap (λ z. status_number z.status) e
]

-- so is a cross relation
cross_stops : (files : FileMap) (f : List ℕ) (r : Reply) → FileStops files (cross_file f) r → status_number r.status ≡ 5
cross_stops files f r (bytes, has, why) = elim why [
  | inl long ↦ ap (λ z. status_number z.status) long.1
  | inr (few, (fault, first, e)) ↦ ap (λ z. status_number z.status) e
]

-- where both automata read, only the third file stops the reading
third_stops : (files : FileMap) (first second third : Input) (values : List Value) → ReadInTurn files (first ∷ second ∷ []) values → (r : Reply) → ((s : Reply) → FileStops files third s → status_number s.status ≡ 5) → StopInTurn files (first ∷ second ∷ third ∷ []) r → status_number r.status ≡ 5
third_stops files i j k [] reads r refused stop = absurd reads
third_stops files i j k (v ∷ []) reads r refused stop = absurd reads.1
third_stops files i j k (v ∷ w ∷ []) reads r refused stop = elim stop [
  | inl first ↦ absurd (stop_or_read_in_turn files (i ∷ []) r (v ∷ []) (inl first) (reads.0, tt))
  | inr (v', read, later) ↦ elim later [
    | inl second ↦ absurd (stop_or_read_in_turn files (j ∷ []) r (w ∷ []) (inl second) (reads.1.0, tt))
    | inr (w', read', last) ↦ elim last [ inl third ↦ refused r third | inr (x, read'', none) ↦ absurd none ]
  ]
]
third_stops files i j k (v ∷ w ∷ x ∷ more) reads r refused stop = absurd reads.1.1

answers : (q : Question) → IsSingle (Some q) → (files : FileMap) (values : List Value) → ReadInTurn files (automata_of q) values → (r : Reply) → IsReplyFor (request_of (Some q)) files r →
    (n : ℕ) → n ≡ status_number r.status → MayAnswer q files n
answers (Check a b c) single files values reads r right n is = elim right [
  | inl stop ↦ inr (inl (is ∙ third_stops files (automaton_file 1 FIRST_LIMITS a) (automaton_file 2 SECOND_LIMITS b) (certificate_file c) values reads r (certificate_stops files c) stop))
  | inr (vs, in_turn, means) ↦ elim (check_answers vs r means) [ inl low ↦ inl (omega arith) | inr five ↦ inr (inl (is ∙ five)) ]
]
answers (Include a b c m look limit letters) single files values reads r right n is = elim right [
  | inl stop ↦ absurd (stop_or_read_in_turn files (pair_inputs a b) r values stop reads)
  | inr (vs, in_turn, means) ↦ (let low = include_low c (terms_by m look limit letters) vs r means in inl (omega arith))
]
answers (Reduce a m look letters) single files values reads r right n is = elim right [
  | inl stop ↦ absurd (stop_or_read_in_turn files (reduce_inputs a) r values stop reads)
  | inr (vs, in_turn, (named, are, (t, made, e))) ↦ inl (is ∙ ap (λ z. status_number z.status) e)
]
answers (Drill seed states labels) single files values reads r right n is = elim right [
  | inl stop ↦ absurd stop
  | inr (vs, in_turn, (pair, forth, back, decided, e)) ↦ inl (is ∙ ap (λ z. status_number z.status) e)
]
answers (Upgrade c out) single files values reads r right n is = inl (upgrade_status files c out r (λ stop. elim stop [ inl first ↦ certificate_stops files c r first | inr (v, read, none) ↦ absurd none ]) right n is)
answers (Cross a b out look) single files values reads r right n is = elim right [
  | inl stop ↦ absurd (stop_or_read_in_turn files (pair_inputs a b) r values stop reads)
  | inr (vs, in_turn, means) ↦ inl (cross_status files a b out look r vs in_turn means n is)
]
answers (CrossCheck a b f) single files values reads r right n is =
    inl (cross_check_status files a b f r (λ stop. third_stops files (automaton_file 1 FIRST_LIMITS a) (automaton_file 2 SECOND_LIMITS b) (cross_file f) values reads r (cross_stops files f) stop) right n is)
answers (Equal a b c d) single files values reads r right n is = elim right [
  | inl stop ↦ absurd (stop_or_read_in_turn files (equal_inputs a b) r values stop reads)
  | inr (vs, in_turn, means) ↦ (let low = equal_low c d vs r means in inl (omega arith))
]
answers (Batch l) single files values reads r right n is = absurd single
answers (Union a b m) single files values reads r right n is = elim right [
  | inl stop ↦ absurd (stop_or_read_in_turn files (pair_inputs a b) r values stop reads)
  | inr (vs, in_turn, means) ↦ inl (union_status m files a b vs r in_turn means n is)
]
answers (Intersect a b m) single files values reads r right n is = elim right [
  | inl stop ↦ absurd (stop_or_read_in_turn files (pair_inputs a b) r values stop reads)
  | inr (vs, in_turn, means) ↦ inl (intersection_status m files a b vs r in_turn means n is)
]
answers (Shrink a b c out) single files values reads r right n is =
    inl (shrink_status files a b c out r (λ stop. third_stops files (automaton_file 1 FIRST_LIMITS a) (automaton_file 2 SECOND_LIMITS b) (certificate_file c) values reads r (certificate_stops files c) stop) right n is)
answers (Empty a e c m) single files values reads r right n is = elim right [
  | inl stop ↦ absurd (stop_or_read_in_turn files (property_inputs emptiness a) r values stop reads)
  | inr (vs, in_turn, means) ↦ (let low = decided_low emptiness emptiness_decidable e c m vs r means in inl (omega arith))
]
answers (Universal a u c m) single files values reads r right n is = elim right [
  | inl stop ↦ absurd (stop_or_read_in_turn files (property_inputs universality a) r values stop reads)
  | inr (vs, in_turn, means) ↦ (let low = decided_low universality universality_decidable u c m vs r means in inl (omega arith))
]

-- want of memory
wants : (q : Question) → IsSingle (Some q) → (files : FileMap) (n : ℕ) → n ≡ 8 → MayAnswer q files n
wants (Check a b c) single files n e = inr (inr e)
wants (Include a b c m look limit letters) single files n e = inr e
wants (Reduce a m look letters) single files n e = inr e
wants (Drill seed states labels) single files n e = inr e
wants (Upgrade c out) single files n e = inr e
wants (Cross a b out look) single files n e = inr e
wants (CrossCheck a b f) single files n e = inr e
wants (Equal a b c d) single files n e = inr e
wants (Batch l) single files n e = absurd single
wants (Union a b m) single files n e = inr e
wants (Intersect a b m) single files n e = inr e
wants (Shrink a b c out) single files n e = inr e
wants (Empty a e' c m) single files n e = inr e
wants (Universal a u c m) single files n e = inr e

module _ (call : Call) where
  abbrev Answered : Question → Option FileMap → Type 0
  Answered q held = IfSome held (λ files. (values : List Value) → ReadInTurn files (automata_of q) values → MayAnswer q files call.status ⊎ AnyRose call)

  answers_on : (q : Question) → IsSingle (Some q) → (h : Option FileMap) (e : Ending) → BeforeAndAfter h call.after.shelf.files (λ files files'. Leaves (request_of (Some q)) e files files')
      → EndsSo (request_of (Some q)) e call.before.shelf call.after.shelf → WasSaid e call.status call.before.sink call.after.sink → Answered q h
  answers_on q single None e leaves ends said = tt
  answers_on q single (Some files) (ending.Reached s) (files', is, (right, left)) ends said = λ values reads.
      elim said [ inl whole ↦ inl (answers q single files values reads s right call.status whole.0) | inr front ↦ inr (inr (inl front.1)) ]
  answers_on q single (Some files) (ending.ReadFault) leaves ends said = λ values reads. inr (inl (ends.read_fault refl))
  answers_on q single (Some files) (ending.WriteFault) leaves ends said = λ values reads. inr (inr (inr (ends.write_fault refl)))
  answers_on q single (Some files) (ending.OutOfMemory) leaves ends said = λ values reads. inl (wants q single files call.status (elim said [ inl whole ↦ whole.0 | inr front ↦ front.0 ]))

  by_end : (q : Question) → IsSingle (Some q) → IsCarriedOut (request_of (Some q)) call → Answered q call.before.shelf.files
  by_end q single c = answers_on q single call.before.shelf.files c.end c.ends.leaves c.ends c.said

  pub answers_what_reads : (q : Option Question) → IsCarriedOut (request_of q) call → AnswersWhatReads q call
  answers_what_reads None carried = tt
  answers_what_reads (Some (Batch l)) carried = tt
  answers_what_reads (Some (Check a b c)) carried = by_end (Check a b c) tt carried
  answers_what_reads (Some (Include a b c m look limit letters)) carried = by_end (Include a b c m look limit letters) tt carried
  answers_what_reads (Some (Reduce a m look letters)) carried = by_end (Reduce a m look letters) tt carried
  answers_what_reads (Some (Drill seed states labels)) carried = by_end (Drill seed states labels) tt carried
  answers_what_reads (Some (Upgrade c out)) carried = by_end (Upgrade c out) tt carried
  answers_what_reads (Some (Cross a b out look)) carried = by_end (Cross a b out look) tt carried
  answers_what_reads (Some (CrossCheck a b f)) carried = by_end (CrossCheck a b f) tt carried
  answers_what_reads (Some (Equal a b c d)) carried = by_end (Equal a b c d) tt carried
  answers_what_reads (Some (Union a b m)) carried = by_end (Union a b m) tt carried
  answers_what_reads (Some (Intersect a b m)) carried = by_end (Intersect a b m) tt carried
  answers_what_reads (Some (Shrink a b c out)) carried = by_end (Shrink a b c out) tt carried
  answers_what_reads (Some (Empty a e c m)) carried = by_end (Empty a e c m) tt carried
  answers_what_reads (Some (Universal a u c m)) carried = by_end (Universal a u c m) tt carried
