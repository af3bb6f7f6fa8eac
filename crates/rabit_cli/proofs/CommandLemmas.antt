-- The questions: one reply to each, what it shows and what it leaves.
use Rattle.std.proofs.Common.{◌≡◌, ◌⊎◌, ℕ, ◌≤◌, List, [], length, Option, Some, None, IfSome, inl, inr, refl, sym, ◌∙◌, ap, subst, arith, Result, Ok, Err, IfOk}
use Rattle.shelf_io.specs.Shelf.{FileMap}
use Rattle.shelf_io.specs.Seen.{Call}
use Rattle.rabit_frame.specs.declared.parts.Value.{Value}
use Rattle.rabit_frame.specs.declared.parts.Reply.{Reply}
use Rattle.rabit_frame.specs.declared.parts.Ending.{Ending}
use Rattle.rabit_frame.specs.declared.parts.Ending.TheVariants as ending
use Rattle.rabit_frame.specs.Lines.{memory_line}
use Rattle.rabit_frame.specs.Request.{Request, HasOneReply}
use Rattle.rabit_frame.specs.Statuses.{status_number}
use Rattle.rabit_frame.specs.Ending.{WasSaid, SaysOnly}
use Rattle.rabit_frame.specs.Carrying.{EndsSo, IsCarriedOut, ShowsResult, MakesCalls, IfResult, SaysUsage, StaysUnwritten}
use Rattle.rabit_frame.proofs.EndLemmas.{both_map, may_plain, same_status, own_status, no_puts, no_puts_stay}
use Rattle.std.specs.Prelude.{option_map}
use Rattle.rabit_words.specs.declared.parts.Question.{Question as Held}
use Rattle.rabit_words.specs.Question.{Question, Include, Check, Reduce, Drill, Upgrade, Cross, CrossCheck, Equal, Batch, Union, Intersect, Shrink, Empty, Universal, IsProper, told, question_of}
use Rattle.drawing.specs.Drawn.{IsInBounds}
use Rattle.rabit_frame.specs.Printed.{usage_text}
use Rattle.rabit_frame.specs.Replies.{usage_reply}
use Rattle.rabit_cli.specs.Batch.{IsBatch}
use Rattle.rabit_cli.specs.Commands.{inputs_of, outputs_of, drill_of, Means, request_of, IfSingle, IfBatch, Shows, LeavesFiles}
use Rattle.auto_core.specs.declared.parts.Mode.{Mode}
use Rattle.decide.specs.Terms.{AreBounded}
use Rattle.rabit_cli.specs.Check.{ShowsCheck}
use Rattle.rabit_cli.specs.Include.{terms_by, ShowsInclude}
use Rattle.rabit_cli.specs.Reduce.{sight_by, ShowsReduce}
use Rattle.rabit_cli.specs.Upgrade.{ShowsUpgrade}
use Rattle.rabit_cli.specs.Cross.{ShowsCross, ShowsCrossCheck}
use Rattle.rabit_cli.specs.Equal.{ShowsEqual}
use Rattle.rabit_cli.specs.Union.{ShowsUnion}
use Rattle.rabit_cli.specs.Intersect.{ShowsIntersect}
use Rattle.rabit_cli.specs.Shrink.{ShowsShrink}
use Rattle.rabit_cli.specs.Property.{ShowsProperty}
use Rattle.rabit_cli.proofs.CrossLemmas.{one_cross, cross_number, shows_cross, leaves_cross, one_cross_check, cross_check_puts, cross_check_number, shows_cross_check}
use Rattle.rabit_cli.proofs.BatchLemmas.{unread_status, puts_none, is_batch, no_usage}
use Rattle.rabit_cli.proofs.CheckLemmas.{one_check, check_puts, check_asked, shows_check}
use Rattle.rabit_cli.proofs.IncludeLemmas.{one_include, include_asked, shows_include, leaves_include}
use Rattle.rabit_cli.proofs.ReduceLemmas.{one_reduce, reduce_puts, reduce_asked, shows_reduce}
use Rattle.rabit_cli.proofs.DrillLemmas.{one_drill, drill_puts, drill_asked, says_drill}
use Rattle.rabit_cli.proofs.CombineLemmas.{one_union, union_puts, union_number, shows_union, one_intersection, intersection_puts, intersection_number, shows_intersection}
use Rattle.rabit_cli.specs.Empty.{emptiness}
use Rattle.rabit_cli.specs.Universal.{universality}
use Rattle.rabit_cli.proofs.ShrinkLemmas.{one_shrink, shrink_asked, shows_shrink, leaves_shrink}
use Rattle.rabit_cli.proofs.UpgradeLemmas.{one_upgrade, upgrade_number, shows_upgrade, leaves_upgrade}
use Rattle.rabit_cli.proofs.EqualLemmas.{one_equal, equal_asked, shows_equal, leaves_equal}
use Rattle.rabit_cli.proofs.PropertyLemmas.{one_decided, decided_asked, shows_property, leaves_property}
use Rattle.rabit_cli.proofs.EmptyLemmas.{emptiness_decidable}
use Rattle.rabit_cli.proofs.UniversalLemmas.{universality_decidable}

in_bounds : (seed states labels : ℕ) → IsProper (Drill seed states labels) → IsInBounds (drill_of seed states labels)
in_bounds seed states labels (few, from, upto, some, most) = record { states_from = from; states_upto = upto; labels_from = some; labels_upto = most }

-- what is asked of a decision is bounded
asked_bounded : (m : Mode) (look limit : ℕ) (letters : Option ℕ) → (1 ≤ look) × (look ≤ 6) × (1 ≤ limit) × (limit ≤ 100000) × IfSome letters (λ n. (1 ≤ n) × (n ≤ 4)) → AreBounded (terms_by m look limit letters)
asked_bounded m look limit None (from, upto, some, few, named) = record { look_from = from; look_upto = upto; letters_from = omega arith; letters_upto = omega arith; versioned = inl (refl, refl); few = few }
asked_bounded m look limit (Some n) (from, upto, some, few, named) = record { look_from = from; look_upto = upto; letters_from = named.0; letters_upto = named.1; versioned = inr refl; few = few }

-- a batch was found in the words
batch_found : {E : Type 0} (r : Result (Option Held) E) (question : Held) (list : List ℕ) (words : List (List ℕ)) → r ≡ Ok (Some question) → told question ≡ Batch list → IfOk r (λ asked. option_map told asked ≡ question_of words)
    → question_of words ≡ Some (Batch list)
batch_found (Ok asked) question list words is batch found =
    let same : asked ≡ Some question = cc in
    sym found ∙ ap (option_map told) same ∙ ap Some batch
batch_found (Err e) question list words is batch found = absurd (let f = is in cc)

-- so what holds of it holds of them
pub of_batch : {E : Type 0} (r : Result (Option Held) E) (words : List (List ℕ)) (list : List ℕ) → ((question : Held) × (r ≡ Ok (Some question)) × (told question ≡ Batch list)) → IfOk r (λ asked. option_map told asked ≡ question_of words)
    → (P : Option Question → Type 0) → P (Some (Batch list)) → P (question_of words)
of_batch r words list (question, is, batch) found P holds = subst P (sym (batch_found r question list words is batch found)) holds

-- one row a question
pub one_meaning : (q : Option Question) → IfSome q IsProper → HasOneReply (request_of q)
one_meaning None range values r s kinds p q = p ∙ sym q
one_meaning (Some (Check a b c)) range values r s kinds p q = one_check values r s p q
one_meaning (Some (Include a b c m look limit letters)) range values r s kinds p q = one_include c (terms_by m look limit letters) (asked_bounded m look limit letters range).look_from values r s p q
one_meaning (Some (Reduce a m look letters)) range values r s kinds p q = one_reduce a m (sight_by look letters) range.0 values r s kinds p q
one_meaning (Some (Drill seed states labels)) range values r s kinds p q = one_drill (drill_of seed states labels) values r s p q
one_meaning (Some (Upgrade c out)) range values r s kinds p q = one_upgrade out values r s p q
one_meaning (Some (Cross a b out look)) range values r s kinds p q = one_cross out look values r s p q
one_meaning (Some (CrossCheck a b f)) range values r s kinds p q = one_cross_check values r s p q
one_meaning (Some (Equal a b c d)) range values r s kinds p q = one_equal c d values r s p q
one_meaning (Some (Batch l)) range values r s kinds p q = absurd p
one_meaning (Some (Union a b m)) range values r s kinds p q = one_union m values r s p q
one_meaning (Some (Intersect a b m)) range values r s kinds p q = one_intersection m values r s p q
one_meaning (Some (Shrink a b c out)) range values r s kinds p q = one_shrink out values r s p q
one_meaning (Some (Empty a e c m)) range values r s kinds p q = one_decided emptiness emptiness_decidable e c m values r s p q
one_meaning (Some (Universal a u c m)) range values r s kinds p q = one_decided universality universality_decidable u c m values r s p q

pub no_outputs : (q : Option Question) → outputs_of q ≡ [] → (values : List Value) (r : Reply) → Means q values r → r.puts ≡ []
no_outputs None none values r p = ap (λ z. z.puts) p
no_outputs (Some (Check a b c)) none values r p = check_puts values r p
no_outputs (Some (Include a b c m look limit letters)) none values r p = absurd (let f = none in cc)
no_outputs (Some (Reduce a m look letters)) none values r p = reduce_puts m (sight_by look letters) values r p
no_outputs (Some (Drill seed states labels)) none values r p = drill_puts (drill_of seed states labels) values r p
no_outputs (Some (Upgrade c out)) none values r p = absurd (let f = none in cc)
no_outputs (Some (Cross a b out look)) none values r p = absurd (let f = none in cc)
no_outputs (Some (CrossCheck a b f)) none values r p = cross_check_puts values r p
no_outputs (Some (Equal a b c d)) none values r p = absurd (let f = none in cc)
no_outputs (Some (Batch l)) none values r p = absurd p
no_outputs (Some (Union a b m)) none values r p = union_puts m values r p
no_outputs (Some (Intersect a b m)) none values r p = intersection_puts m values r p
no_outputs (Some (Shrink a b c out)) none values r p = absurd (let f = none in cc)
no_outputs (Some (Empty a e c m)) none values r p = absurd (let f = none in cc)
no_outputs (Some (Universal a u c m)) none values r p = absurd (let f = none in cc)

usage_alone : (q : Option Question) (values : List Value) (r : Reply) → Means q values r → status_number r.status ≡ 3 → q ≡ None
usage_alone None values r p three = refl
usage_alone (Some (Check a b c)) values r p three = absurd (check_asked values r p three)
usage_alone (Some (Include a b c m look limit letters)) values r p three = absurd (include_asked c (terms_by m look limit letters) values r p three)
usage_alone (Some (Reduce a m look letters)) values r p three = absurd (reduce_asked m (sight_by look letters) values r p three)
usage_alone (Some (Drill seed states labels)) values r p three = absurd (drill_asked (drill_of seed states labels) values r p three)
usage_alone (Some (Upgrade c out)) values r p three = absurd (let zero = upgrade_number out values r p in omega arith)
usage_alone (Some (Cross a b out look)) values r p three = absurd (elim (cross_number out look values r p) [ inl zero ↦ omega arith | inr ten ↦ omega arith ])
usage_alone (Some (CrossCheck a b f)) values r p three = absurd (elim (cross_check_number values r p) [ inl zero ↦ omega arith | inr five ↦ omega arith ])
usage_alone (Some (Equal a b c d)) values r p three = absurd (equal_asked c d values r p three)
usage_alone (Some (Batch l)) values r p three = absurd p
usage_alone (Some (Union a b m)) values r p three = absurd (elim (union_number m values r p) [ inl zero ↦ omega arith | inr twelve ↦ omega arith ])
usage_alone (Some (Intersect a b m)) values r p three = absurd (elim (intersection_number m values r p) [ inl zero ↦ omega arith | inr twelve ↦ omega arith ])
usage_alone (Some (Shrink a b c out)) values r p three = absurd (shrink_asked out values r p three)
usage_alone (Some (Empty a e c m)) values r p three = absurd (decided_asked emptiness emptiness_decidable e c m values r p three)
usage_alone (Some (Universal a u c m)) values r p three = absurd (decided_asked universality universality_decidable u c m values r p three)

module _ (call : Call) where
  abbrev pub Carried : Option Question → Type 0
  Carried q = IsCarriedOut (request_of q) call

  -- ---- what it shows

  by_result : (q : Option Question) (P : FileMap → FileMap → Type 0) → Carried q → (call.status ≤ 2 → (files files' : FileMap) → ShowsResult (request_of q) call files files' → P files files') → IfResult call P
  by_result q P c shown low = both_map call.before.shelf.files call.after.shelf.files (λ files files'. ShowsResult (request_of q) call files files') P (shown low) (c.result low)

  pub shows : (q : Option Question) → IfSome q IsProper → Carried q → Shows q call
  shows None range c = by_result None (λ files files'. ⊥) c (λ low files files' (r, values, reads, p, number, left, sends). let e : status_number r.status ≡ 3 = ap (λ z. status_number z.status) p in absurd (omega arith))
  shows (Some (Check a b d)) range c = by_result (Some (Check a b d)) (λ files files'. ShowsCheck a b d call files) c (λ low files files' (r, values, reads, p, number, left, sends). shows_check files a b d call r number sends values reads p)
  shows (Some (Include a b d m look limit letters)) range c = by_result (Some (Include a b d m look limit letters)) (ShowsInclude a b d (terms_by m look limit letters) call) c (λ low files files' (r, values, reads, p, number, left, sends). shows_include files a b d (terms_by m look limit letters) (asked_bounded m look limit letters range) call files' r number left sends values reads p)
  shows (Some (Reduce a m look letters)) range c = by_result (Some (Reduce a m look letters)) (λ files files'. ShowsReduce a m (sight_by look letters) call files) c (λ low files files' (r, values, reads, p, number, left, sends). shows_reduce files a m (sight_by look letters) call r range.0 number sends values reads p)
  shows (Some (Drill seed states labels)) range c = says_drill call (drill_of seed states labels) (in_bounds seed states labels range) c.end c.ends c.said
  shows (Some (Upgrade d out)) range c = by_result (Some (Upgrade d out)) (ShowsUpgrade d out call) c (λ low files files' (r, values, reads, p, number, left, sends). shows_upgrade files d out call files' r number left sends values reads p)
  shows (Some (Cross a b out look)) range c = by_result (Some (Cross a b out look)) (ShowsCross a b out look call) c (λ low files files' (r, values, reads, p, number, left, sends). shows_cross files a b out look call files' r range.0 range.1 number left sends values reads p)
  shows (Some (CrossCheck a b f)) range c = by_result (Some (CrossCheck a b f)) (λ files files'. ShowsCrossCheck a b f call files) c (λ low files files' (r, values, reads, p, number, left, sends). shows_cross_check files a b f call r number sends values reads p)
  shows (Some (Equal a b d out)) range c = by_result (Some (Equal a b d out)) (ShowsEqual a b d out call) c (λ low files files' (r, values, reads, p, number, left, sends). shows_equal files a b d out call files' r number left sends values reads p)
  shows (Some (Batch l)) range c = tt
  shows (Some (Union a b m)) range c = by_result (Some (Union a b m)) (λ files files'. ShowsUnion a b m call files) c (λ low files files' (r, values, reads, p, number, left, sends). shows_union files a b m call r number sends values reads p)
  shows (Some (Intersect a b m)) range c = by_result (Some (Intersect a b m)) (λ files files'. ShowsIntersect a b m call files) c (λ low files files' (r, values, reads, p, number, left, sends). shows_intersection files a b m call r number sends values reads p)
  shows (Some (Shrink a b d out)) range c = by_result (Some (Shrink a b d out)) (ShowsShrink a b d out call) c (λ low files files' (r, values, reads, p, number, left, sends). shows_shrink files a b d out call files' r number low left sends values reads p)
  shows (Some (Empty a e d m)) range c = by_result (Some (Empty a e d m)) (ShowsProperty emptiness a e d m call) c (λ low files files' (r, values, reads, p, number, left, sends). shows_property emptiness emptiness_decidable e d m files a call files' r number left sends values reads p)
  shows (Some (Universal a u d m)) range c = by_result (Some (Universal a u d m)) (ShowsProperty universality a u d m call) c (λ low files files' (r, values, reads, p, number, left, sends). shows_property universality universality_decidable u d m files a call files' r number left sends values reads p)

  -- ---- how the program is used

  -- status 3 comes of words that ask nothing
  asked_at : (q : Option Question) (e : Ending) → EndsSo (request_of q) e call.before.shelf call.after.shelf → WasSaid e call.status call.before.sink call.after.sink → call.status ≡ 3 → q ≡ None
  asked_at q (ending.Reached r) ends said three =
      let number = own_status (request_of q) call r said (λ e. omega arith, λ e. omega arith, λ e. omega arith) in
      elim ends.may [
        | inl stop ↦ (let high = (may_plain (inputs_of q) r stop).0 in absurd (omega arith))
        | inr (values, kinds, m) ↦ usage_alone q values r m (number ∙ three)
      ]
  asked_at q (ending.ReadFault) ends said three = (let e = same_status (request_of q) call 6 ending.ReadFault refl refl said in absurd (omega arith))
  asked_at q (ending.WriteFault) ends said three = (let e = same_status (request_of q) call 7 ending.WriteFault refl refl said in absurd (omega arith))
  asked_at q (ending.OutOfMemory) ends said three = (let e = same_status (request_of q) call 8 ending.OutOfMemory refl refl said in absurd (omega arith))

  -- and then that is said
  usage_at : (e : Ending) → EndsSo (request_of None) e call.before.shelf call.after.shelf → WasSaid e call.status call.before.sink call.after.sink
      → ((call.status ≡ 3) × SaysOnly usage_text call.status call.before.sink call.after.sink) ⊎ ((call.status ≡ 8) × SaysOnly memory_line call.status call.before.sink call.after.sink)
  usage_at (ending.Reached r) ends said =
      elim ends.may [
        | inl stop ↦ absurd stop
        | inr (values, kinds, is) ↦
            let said' : WasSaid (ending.Reached usage_reply) call.status call.before.sink call.after.sink = subst (λ z. WasSaid (ending.Reached z) call.status call.before.sink call.after.sink) is said in
            elim said' [ inl whole ↦ inl (whole.0, inl (refl, whole.1, whole.2)) | inr front ↦ inl (front.0, inr (refl, front.1, front.2)) ]
      ]
  usage_at (ending.ReadFault) ends said = (let some = ends.may in absurd (omega arith))
  usage_at (ending.WriteFault) ends said =
      let (r, may, some) = ends.may in
      elim may [ inl stop ↦ absurd stop | inr (values, kinds, is) ↦ (let none = ap (λ z. length z.puts) is in absurd (omega arith)) ]
  usage_at (ending.OutOfMemory) ends said = elim said [ inl whole ↦ inr (whole.0, inl (refl, whole.1, whole.2)) | inr front ↦ inr (front.0, inr (refl, front.1, front.2)) ]

  pub usage : (q : Option Question) → Carried q → SaysUsage usage_text q call
  usage q c =
      let P : Option Question → Type 0 = λ z. EndsSo (request_of z) c.end call.before.shelf call.after.shelf in
      record { only = asked_at q c.end c.ends c.said; said = λ none. usage_at c.end (subst P none c.ends) c.said }

  -- a batch says nothing of it
  pub usage_of_batch : (l : List ℕ) → IsBatch l call → SaysUsage usage_text (Some (Batch l)) call
  usage_of_batch l is = record { only = λ three. absurd (no_usage l call is three); said = λ none. absurd (let f = none in cc) }

  -- ---- what it leaves

  stays_with : (q : Option Question) → Carried q → outputs_of q ≡ [] → StaysUnwritten call
  stays_with q c none = (no_puts_stay (request_of q) call c.end c.ends (no_outputs q none), no_puts (request_of q) call c.end c.ends (no_outputs q none))

  pub leaves : (q : Option Question) → IfSome q IsProper → Carried q → LeavesFiles q call
  leaves None range c = stays_with None c refl
  leaves (Some (Check a b d)) range c = stays_with (Some (Check a b d)) c refl
  leaves (Some (Include a b d m look limit letters)) range c = leaves_include call a b d (terms_by m look limit letters) (asked_bounded m look limit letters range) c.end c.ends c.said
  leaves (Some (Reduce a m look letters)) range c = stays_with (Some (Reduce a m look letters)) c refl
  leaves (Some (Drill seed states labels)) range c = stays_with (Some (Drill seed states labels)) c refl
  leaves (Some (Upgrade d out)) range c = leaves_upgrade call d out c.end c.ends c.said
  leaves (Some (Cross a b out look)) range c = leaves_cross call a b out look c.end c.ends c.said
  leaves (Some (CrossCheck a b f)) range c = stays_with (Some (CrossCheck a b f)) c refl
  leaves (Some (Equal a b d out)) range c = leaves_equal call a b d out c.end c.ends c.said
  leaves (Some (Batch l)) range c = tt
  leaves (Some (Union a b m)) range c = stays_with (Some (Union a b m)) c refl
  leaves (Some (Intersect a b m)) range c = stays_with (Some (Intersect a b m)) c refl
  leaves (Some (Shrink a b d out)) range c = leaves_shrink call a b d out c.end c.ends c.said
  leaves (Some (Empty a e d m)) range c = leaves_property emptiness emptiness_decidable e d m call a c.end c.ends c.said
  leaves (Some (Universal a u d m)) range c = leaves_property universality universality_decidable u d m call a c.end c.ends c.said

  -- ---- a batch

  -- that was carried out as if it had a reply of its own has no question asked
  pub batches : (q : Option Question) → Carried q → MakesCalls (request_of q) call → IfBatch q (λ list. IsBatch list call)
  batches (Some (Batch l)) c made =
      let known = unread_status l call c in
      is_batch l call (inl (record {
        carried = c;
        known = known;
        given_once = made.given_once;
        missing = made.shelf.missing;
        begun = made.shelf.begun;
        puts_stay = puts_none l call known made.shelf.put_once;
      }))
  batches None c made = tt
  batches (Some (Check a b d)) c made = tt
  batches (Some (Include a b d m look limit letters)) c made = tt
  batches (Some (Reduce a m look letters)) c made = tt
  batches (Some (Drill seed states labels)) c made = tt
  batches (Some (Upgrade d out)) c made = tt
  batches (Some (Cross a b out look)) c made = tt
  batches (Some (CrossCheck a b f)) c made = tt
  batches (Some (Equal a b d out)) c made = tt
  batches (Some (Union a b m)) c made = tt
  batches (Some (Intersect a b m)) c made = tt
  batches (Some (Shrink a b d out)) c made = tt
  batches (Some (Empty a e d m)) c made = tt
  batches (Some (Universal a u d m)) c made = tt

-- what holds of the request holds of it unless it is a batch's
pub if_single : (q : Option Question) (P : Request → Type 0) → P (request_of q) → IfSingle q P
if_single (Some (Batch l)) P holds = tt
if_single None P holds = holds
if_single (Some (Check a b d)) P holds = holds
if_single (Some (Include a b d m look limit letters)) P holds = holds
if_single (Some (Reduce a m look letters)) P holds = holds
if_single (Some (Drill seed states labels)) P holds = holds
if_single (Some (Upgrade d out)) P holds = holds
if_single (Some (Cross a b out look)) P holds = holds
if_single (Some (CrossCheck a b f)) P holds = holds
if_single (Some (Equal a b d out)) P holds = holds
if_single (Some (Union a b m)) P holds = holds
if_single (Some (Intersect a b m)) P holds = holds
if_single (Some (Shrink a b d out)) P holds = holds
if_single (Some (Empty a e d m)) P holds = holds
if_single (Some (Universal a u d m)) P holds = holds
