-- `equal`: one reply, what it shows, and what it leaves.
use Rattle.std.proofs.Common.{◌≡◌, ◌⊎◌, ℕ, ◌≤◌, List, [], inl, inr, refl, sym, ◌∙◌, ap, subst, arith}
use Rattle.std.specs.Io.KnownBytes.{append_known}
use Rattle.shelf_io.specs.Shelf.{FileMap}
use Rattle.shelf_io.specs.Seen.{Call}
use Rattle.auto_core.specs.Accept.{Includes, Same}
use Rattle.auto_core.specs.declared.parts.Mode.TheVariants.{Buchi}
use Rattle.ba_format.specs.declared.parts.Named.{Named}
use Rattle.ba_format.specs.declared.parts.Joined.{Joined}
use Rattle.ba_format.specs.Joining.{IsJoined}
use Rattle.ba_format.proofs.LawLemmas.{joins_as_one}
use Rattle.cert_value.specs.declared.types.Cert.{Cert}
use Rattle.cert_value.specs.declared.types.Body.{Body}
use Rattle.cert_value.specs.declared.types.Body.TheVariants.{Yes, NoLasso, NoWord, Listing}
use Rattle.cert_value.specs.declared.types.Form.TheVariants as form
use Rattle.cert_value.specs.Text.{form_of}
use Rattle.decide.specs.Answer.{IsAnswer}
use Rattle.decide.specs.Laws.{AnswerIsTrue}
use Rattle.decide.proofs.UniqueLemmas.{one_answer}
use Rattle.equal_batch.specs.declared.outcome.Both.{Both}
use Rattle.equal_batch.specs.declared.outcome.Both.TheVariants as both
use Rattle.equal_batch.specs.Equality.{said_by_both}
use Rattle.ba_format.proofs.TurnedLemmas.{join_order_does_not_matter}
use Rattle.rabit_frame.specs.declared.parts.Value.{Value}
use Rattle.rabit_frame.specs.declared.parts.Value.TheVariants as value
use Rattle.rabit_frame.specs.declared.parts.Reply.{Reply}
use Rattle.rabit_frame.specs.declared.parts.Ending.{Ending}
use Rattle.rabit_frame.specs.Files.{Output}
use Rattle.rabit_frame.specs.Request.{request_with}
use Rattle.rabit_frame.specs.Statuses.{status_number}
use Rattle.rabit_frame.specs.Reading.{ReadInTurn, FileReads}
use Rattle.rabit_frame.specs.Ending.{BeforeAndAfter, IsCutShort, WasSaid, filed, Sends}
use Rattle.rabit_frame.specs.Carrying.{EndsSo}
use Rattle.rabit_frame.proofs.EndLemmas.{leaves_by_status}
use Rattle.rabit_frame.specs.declared.files.TheConstants.{SECOND_LIMITS}
use Rattle.rabit_frame.specs.FileKinds.{automaton_file}
use Rattle.rabit_cli.specs.Include.{usual_terms, IsCertForWithin}
use Rattle.rabit_frame.specs.Replies.{IsNo}
use Rattle.rabit_cli.specs.Equal.{equal_inputs, first_apart_reply, both_reply, both_puts, IsEqualReply, MeansEqual, AreCertsBothWays, AreEqualPuts, HoldsEqual, HoldsEqualPart, LeavesEqual, Separates, IsListBody, ShowsEqual}
use Rattle.rabit_cli.proofs.IncludeLemmas.{usual_bounded, cert_for_within}
use Rattle.rabit_cli.proofs.PairLemmas.{within_first}

-- ---- the reply by what both answers say

puts_of_both : (said : Both) (labels : List (List ℕ)) (body : Body) (puts : List Output) → (both_reply said labels body puts).puts ≡ puts
puts_of_both (both.Equal) labels body puts = refl
puts_of_both (both.FirstApart) labels body puts = refl
puts_of_both (both.SecondApart) labels body puts = refl
puts_of_both (both.Limit) labels body puts = refl

low_of_both : (said : Both) (labels : List (List ℕ)) (body : Body) (puts : List Output) → status_number (both_reply said labels body puts).status ≤ 2
low_of_both (both.Equal) labels body puts = omega arith
low_of_both (both.FirstApart) labels body puts = omega arith
low_of_both (both.SecondApart) labels body puts = omega arith
low_of_both (both.Limit) labels body puts = omega arith

-- ---- one reply

one_joined : (one two : Named) (pair pair' : Joined) (cert cert' : Cert) → IsJoined one two pair → IsJoined one two pair' → IsAnswer pair (usual_terms Buchi) cert → IsAnswer pair' (usual_terms Buchi) cert' → (pair ≡ pair') × (cert ≡ cert')
one_joined one two pair pair' cert cert' joined joined' answer answer' =
    let same : pair ≡ pair' = joins_as_one one two pair pair' joined joined' in
    let A : Joined → Type 0 = λ z. IsAnswer z (usual_terms Buchi) cert in
    (same, one_answer pair' (usual_terms Buchi) cert cert' joined'.first.valid joined'.second.valid (usual_bounded Buchi).look_from (subst A same answer) answer')

one_equal_reply : (c d : List ℕ) (one two : Named) (pair pair' : Joined) (r s : Reply) → IsJoined one two pair → IsJoined one two pair' → IsEqualReply c d one two pair r → IsEqualReply c d one two pair' s → r ≡ s
one_equal_reply c d one two pair pair' r s joined joined' (cert, answer, says) (cert', answer', says') =
    let (same, same_cert) = one_joined one two pair pair' cert cert' joined joined' answer answer' in
    let no : IsNo cert.body → IsNo cert'.body = λ h. subst (λ z. IsNo z.body) same_cert h in
    let no' : IsNo cert'.body → IsNo cert.body = λ h. subst (λ z. IsNo z.body) (sym same_cert) h in
    elim says [
      | inl (is, e) ↦ elim says' [
        | inl (is', e') ↦ e ∙ ap (λ z. first_apart_reply c z cert) same ∙ ap (first_apart_reply c pair') same_cert ∙ sym e'
        | inr (not, more) ↦ absurd (not (no is))
      ]
      | inr (not, (exchanged, converse, turned, second, e)) ↦ elim says' [
        | inl (is', e') ↦ absurd (not (no' is'))
        | inr (not', (exchanged', converse', turned', second', e')) ↦
            let (same_pair, same_converse) = one_joined two one exchanged exchanged' converse converse' turned turned' second second' in
            let R : Cert → Joined → Cert → Reply = λ x p y. both_reply (said_by_both (form_of x.body) (form_of y.body)) p.labels y.body (both_puts c d x y) in
            e ∙ ap (λ x. R x exchanged converse) same_cert ∙ ap (λ p. R cert' p converse) same_pair ∙ ap (R cert' exchanged') same_converse ∙ sym e'
      ]
    ]

pub one_equal : (c d : List ℕ) (values : List Value) (r s : Reply) → MeansEqual c d values r → MeansEqual c d values s → r ≡ s
one_equal c d values r s (one, two, is, (pair, joined, here)) (one', two', is', (pair', joined', there)) =
    let all = sym is ∙ is' in
    let first : one ≡ one' = cc in
    let second : two ≡ two' = cc in
    let P : Named → Type 0 = λ z. IsJoined z two pair × IsEqualReply c d z two pair r in
    let Q : Named → Type 0 = λ z. IsJoined one' z pair × IsEqualReply c d one' z pair r in
    let known = subst Q second (subst P first (joined, here)) in
    one_equal_reply c d one' two' pair pair' r s known.0 joined' known.1 there

-- it is a result
equal_low_of : (c d : List ℕ) (one two : Named) (pair : Joined) (r : Reply) → IsEqualReply c d one two pair r → status_number r.status ≤ 2
equal_low_of c d one two pair r (cert, answer, says) = elim says [
  | inl (is, e) ↦ subst (λ z. status_number z.status ≤ 2) (sym e) (omega arith)
  | inr (not, (exchanged, converse, turned, second, e)) ↦ subst (λ z. status_number z.status ≤ 2) (sym e) (low_of_both (said_by_both (form_of cert.body) (form_of converse.body)) exchanged.labels converse.body (both_puts c d cert converse))
]

pub equal_low : (c d : List ℕ) (values : List Value) (r : Reply) → MeansEqual c d values r → status_number r.status ≤ 2
equal_low c d values r (one, two, is, (pair, joined, here)) = equal_low_of c d one two pair r here

pub equal_asked : (c d : List ℕ) (values : List Value) (r : Reply) → MeansEqual c d values r → status_number r.status ≡ 3 → ⊥
equal_asked c d values r means three = (let low = equal_low c d values r means in omega arith)

equal_writes : (c d : List ℕ) (values : List Value) (r : Reply) → MeansEqual c d values r → 3 ≤ status_number r.status → r.puts ≡ []
equal_writes c d values r means high = absurd (let low = equal_low c d values r means in omega arith)

-- ---- what it shows

-- what the answer says of a no
separated : (pair : Joined) (body : Body) → IsNo body → AnswerIsTrue pair (usual_terms Buchi) body → Separates pair body
separated pair (Yes evidence) is truth = absurd is
separated pair (NoLasso lasso) is truth = truth
separated pair (NoWord word) is truth = truth
separated pair (Listing list) is truth = absurd is

module _ (files : FileMap) (a b c d : List ℕ) where
  -- a file reads as the same, whatever its number
  numbered : (name : List ℕ) (number other : ℕ) (named : Named) → FileReads files (automaton_file number SECOND_LIMITS name) (value.Automaton named) → FileReads files (automaton_file other SECOND_LIMITS name) (value.Automaton named)
  numbered name number other named (bytes, has, few, reads) = (bytes, has, few, reads)

  module _ (one two : Named) (pair : Joined) (first : FileReads files (automaton_file 1 SECOND_LIMITS a) (value.Automaton one)) (second : FileReads files (automaton_file 2 SECOND_LIMITS b) (value.Automaton two)) (joined : IsJoined one two pair) where
    first_for : (cert : Cert) → IsAnswer pair (usual_terms Buchi) cert → IsCertForWithin SECOND_LIMITS files a b (usual_terms Buchi) pair cert
    first_for cert answer = cert_for_within SECOND_LIMITS within_first files a b (usual_terms Buchi) (usual_bounded Buchi) pair cert (one, two, first, second, joined) answer

    second_for : (exchanged : Joined) (converse : Cert) → IsJoined two one exchanged → IsAnswer exchanged (usual_terms Buchi) converse → IsCertForWithin SECOND_LIMITS files b a (usual_terms Buchi) exchanged converse
    second_for exchanged converse turned answer = cert_for_within SECOND_LIMITS within_first files b a (usual_terms Buchi) (usual_bounded Buchi) exchanged converse (two, one, numbered b 2 1 two second, numbered a 1 2 one first, turned) answer

    -- two inclusions are equality
    same_by : (exchanged : Joined) → IsJoined two one exchanged → Includes pair.first pair.second Buchi → Includes exchanged.first exchanged.second Buchi → Same pair.first pair.second Buchi
    same_by exchanged turned forth back =
        let (bytes, has, few, reads) = first in
        let (bytes', has', few', reads') = second in
        (forth, join_order_does_not_matter bytes' bytes SECOND_LIMITS SECOND_LIMITS two one exchanged pair Buchi reads' reads turned joined back)

    written_by : (r : Reply) → IsEqualReply c d one two pair r → AreEqualPuts files a b c d r.puts
    written_by r (cert, answer, says) = elim says [
      | inl (is, e) ↦ inl (pair, cert, first_for cert answer, is, ap (λ z. z.puts) e)
      | inr (not, (exchanged, converse, turned, answer', e)) ↦
          inr (
            pair,
            exchanged,
            cert,
            converse,
            record { first = first_for cert answer; second = second_for exchanged converse turned answer' },
            not,
            ap (λ z. z.puts) e ∙ puts_of_both (said_by_both (form_of cert.body) (form_of converse.body)) exchanged.labels converse.body (both_puts c d cert converse),
          )
    ]

    module _ (call : Call) (files' : FileMap) (r : Reply) (number : status_number r.status ≡ call.status) (left : files' ≡ filed files r.puts) (sends : Sends r.text call.before.sink call.after.sink) where
      shows_first : (cert : Cert) → IsAnswer pair (usual_terms Buchi) cert → IsNo cert.body → r ≡ first_apart_reply c pair cert → ShowsEqual a b c d call files files'
      shows_first cert answer is e =
          let is_one : call.status ≡ 1 = sym number ∙ ap (λ z. status_number z.status) e in
          let for = first_for cert answer in
          record {
            equal = λ f. absurd (omega arith);
            apart = λ f. inl (record {
              pair = pair;
              cert = cert;
              first = for;
              apart = separated pair cert.body is for.truth;
              held = left ∙ ap (λ z. filed files z.puts) e;
              printed = sends ∙ ap (λ z. append_known call.before.sink.sent z.text) e;
            });
            listed = λ f. absurd (omega arith);
          }

      module _ (cert : Cert) (answer : IsAnswer pair (usual_terms Buchi) cert) (not : ¬ IsNo cert.body) (exchanged : Joined) (converse : Cert) (turned : IsJoined two one exchanged) (answer' : IsAnswer exchanged (usual_terms Buchi) converse) where
        certs : AreCertsBothWays files a b pair exchanged cert converse
        certs = record { first = first_for cert answer; second = second_for exchanged converse turned answer' }

        abbrev reply_by : Both → Reply
        reply_by said = both_reply said exchanged.labels converse.body (both_puts c d cert converse)

        held_by : (said : Both) → r ≡ reply_by said → files' ≡ filed files (both_puts c d cert converse)
        held_by said e = left ∙ ap (λ z. filed files z.puts) e ∙ ap (filed files) (puts_of_both said exchanged.labels converse.body (both_puts c d cert converse))

        shows_equal_now : r ≡ reply_by both.Equal → form_of cert.body ≡ form.Yes → form_of converse.body ≡ form.Yes → Includes pair.first pair.second Buchi → Includes exchanged.first exchanged.second Buchi → ShowsEqual a b c d call files files'
        shows_equal_now e accepts converse_accepts forth back =
            let zero : call.status ≡ 0 = sym number ∙ ap (λ z. status_number z.status) e in
            record {
              equal = λ f. record {
                pair = pair;
                exchanged = exchanged;
                cert = cert;
                converse = converse;
                certs = certs;
                says_yes = accepts;
                converse_says_yes = converse_accepts;
                same = same_by exchanged turned forth back;
                held = held_by both.Equal e;
                printed = sends ∙ ap (λ z. append_known call.before.sink.sent z.text) e;
              };
              apart = λ f. absurd (omega arith);
              listed = λ f. absurd (omega arith);
            }

        shows_second : r ≡ reply_by both.SecondApart → IsNo converse.body → ShowsEqual a b c d call files files'
        shows_second e is =
            let is_one : call.status ≡ 1 = sym number ∙ ap (λ z. status_number z.status) e in
            record {
              equal = λ f. absurd (omega arith);
              apart = λ f. inr (record {
                pair = pair;
                exchanged = exchanged;
                cert = cert;
                converse = converse;
                certs = certs;
                not_first = not;
                apart = separated exchanged converse.body is certs.second.truth;
                held = held_by both.SecondApart e;
                printed = sends ∙ ap (λ z. append_known call.before.sink.sent z.text) e;
              });
              listed = λ f. absurd (omega arith);
            }

        shows_limit : r ≡ reply_by both.Limit → ¬ IsNo converse.body → IsListBody cert.body ⊎ IsListBody converse.body → ShowsEqual a b c d call files files'
        shows_limit e not' lists =
            let two : call.status ≡ 2 = sym number ∙ ap (λ z. status_number z.status) e in
            record {
              equal = λ f. absurd (omega arith);
              apart = λ f. absurd (omega arith);
              listed = λ f. record {
                pair = pair;
                exchanged = exchanged;
                cert = cert;
                converse = converse;
                certs = certs;
                not_first = not;
                not_second = not';
                lists = lists;
                held = held_by both.Limit e;
                printed = sends ∙ ap (λ z. append_known call.before.sink.sent z.text) e;
              };
            }

        by_bodies : (x y : Body) → cert.body ≡ x → converse.body ≡ y → r ≡ reply_by (said_by_both (form_of x) (form_of y)) → ShowsEqual a b c d call files files'
        by_bodies (NoLasso l) y is_x is_y e = absurd (not (subst IsNo (sym is_x) tt))
        by_bodies (NoWord w) y is_x is_y e = absurd (not (subst IsNo (sym is_x) tt))
        by_bodies (Yes p) (Yes q) is_x is_y e =
            shows_equal_now e (ap form_of is_x) (ap form_of is_y) (subst (AnswerIsTrue pair (usual_terms Buchi)) is_x certs.first.truth).0 (subst (AnswerIsTrue exchanged (usual_terms Buchi)) is_y certs.second.truth).0
        by_bodies (Yes p) (NoLasso l) is_x is_y e = shows_second e (subst IsNo (sym is_y) tt)
        by_bodies (Yes p) (NoWord w) is_x is_y e = shows_second e (subst IsNo (sym is_y) tt)
        by_bodies (Yes p) (Listing l) is_x is_y e = shows_limit e (λ h. subst IsNo is_y h) (inr (subst IsListBody (sym is_y) tt))
        by_bodies (Listing l) (NoLasso m) is_x is_y e = shows_second e (subst IsNo (sym is_y) tt)
        by_bodies (Listing l) (NoWord w) is_x is_y e = shows_second e (subst IsNo (sym is_y) tt)
        by_bodies (Listing l) (Yes q) is_x is_y e = shows_limit e (λ h. subst IsNo is_y h) (inl (subst IsListBody (sym is_x) tt))
        by_bodies (Listing l) (Listing m) is_x is_y e = shows_limit e (λ h. subst IsNo is_y h) (inl (subst IsListBody (sym is_x) tt))

      shows_of : IsEqualReply c d one two pair r → ShowsEqual a b c d call files files'
      shows_of (cert, answer, says) = elim says [
        | inl (is, e) ↦ shows_first cert answer is e
        | inr (not, (exchanged, converse, turned, answer', e)) ↦ by_bodies cert answer not exchanged converse turned answer' cert.body converse.body refl refl e
      ]

  pub shows_equal : (call : Call) (files' : FileMap) (r : Reply) → status_number r.status ≡ call.status → files' ≡ filed files r.puts → Sends r.text call.before.sink call.after.sink → (values : List Value) →
      ReadInTurn files (equal_inputs a b) values → MeansEqual c d values r → ShowsEqual a b c d call files files'
  shows_equal call files' r number left sends values reads (one, two, is, (pair, joined, says)) =
      let (first, (second, end)) = subst (ReadInTurn files (equal_inputs a b)) is reads in
      shows_of one two pair first second joined call files' r number left sends says

  puts_of : (values : List Value) (r : Reply) → ReadInTurn files (equal_inputs a b) values → MeansEqual c d values r → AreEqualPuts files a b c d r.puts
  puts_of values r reads (one, two, is, (pair, joined, says)) =
      let (first, (second, end)) = subst (ReadInTurn files (equal_inputs a b)) is reads in
      written_by one two pair first second joined r says

  pub holds_equal : (files' : FileMap) (values : List Value) (r : Reply) → ReadInTurn files (equal_inputs a b) values → MeansEqual c d values r → files' ≡ filed files r.puts → HoldsEqual files a b c d files'
  holds_equal files' values r reads means left = (r.puts, puts_of values r reads means, left)

  pub holds_equal_part : (files' : FileMap) (values : List Value) (r : Reply) → ReadInTurn files (equal_inputs a b) values → MeansEqual c d values r → IsCutShort files r.puts files' → HoldsEqualPart files a b c d files'
  holds_equal_part files' values r reads means cut = (r.puts, puts_of values r reads means, cut)

module _ (call : Call) (a b c d : List ℕ) where
  pub leaves_equal : (e : Ending) → EndsSo (request_with (equal_inputs a b) (MeansEqual c d)) e call.before.shelf call.after.shelf → WasSaid e call.status call.before.sink call.after.sink → BeforeAndAfter call.before.shelf.files call.after.shelf.files (LeavesEqual a b c d call)
  leaves_equal e ends said =
      leaves_by_status (request_with (equal_inputs a b) (MeansEqual c d)) call (λ before. HoldsEqual before a b c d) (λ before. HoldsEqualPart before a b c d) (equal_writes c d)
      (λ files files' values r reads means low left. holds_equal files a b c d files' values r reads means left)
      (λ files files' values r reads means cut. holds_equal_part files a b c d files' values r reads means cut) e ends said
