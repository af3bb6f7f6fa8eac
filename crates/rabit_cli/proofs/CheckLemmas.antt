-- `check`: one reply, and what it shows.
use Rattle.std.proofs.Common.{◌≡◌, ℕ, ◌≤◌, ◌⊎◌, List, [], inl, inr, refl, sym, ◌∙◌, ap, subst, arith}
use Rattle.std.specs.Io.KnownBytes.{append_known}
use Rattle.shelf_io.specs.Shelf.{FileMap}
use Rattle.shelf_io.specs.Seen.{Call}
use Rattle.ba_format.specs.declared.parts.Named.{Named}
use Rattle.ba_format.specs.declared.parts.Joined.{Joined}
use Rattle.ba_format.specs.Joining.{IsJoined}
use Rattle.ba_format.proofs.LawLemmas.{joins_as_one}
use Rattle.cert_value.specs.declared.types.Cert.{Cert}
use Rattle.cert_value.specs.declared.types.Body.{Body}
use Rattle.cert_value.specs.declared.types.Body.TheVariants.{Yes, NoLasso, NoWord, Listing}
use Rattle.cert_check.specs.Rules.{KeepsRules, BodyHolds}
use Rattle.cert_check.proofs.ClosedLemmas.{valid_yes_includes}
use Rattle.cert_check.proofs.ListingLemmas.{kept_list_shows}
use Rattle.cert_check.proofs.RuleLemmas.{one_rule, none_kept}
use Rattle.rabit_frame.specs.declared.parts.Value.{Value}
use Rattle.rabit_frame.specs.declared.parts.Status.TheVariants as status
use Rattle.rabit_frame.specs.declared.parts.Reply.{Reply}
use Rattle.rabit_frame.specs.Statuses.{status_number}
use Rattle.rabit_frame.specs.Ending.{Sends}
use Rattle.rabit_frame.specs.Reading.{only_said, ReadInTurn}
use Rattle.rabit_frame.specs.Printed.{refused_text}
use Rattle.rabit_frame.specs.FileKinds.{ReadsPair, ReadsCertificate}
use Rattle.rabit_frame.specs.Replies.{IsVerdictReply, SaysApart}
use Rattle.rabit_cli.specs.Check.{check_inputs, Concludes, MeansCheck, ShowsCheck}
use Rattle.rabit_frame.proofs.VerdictLemmas.{one_verdict, puts_of_verdict, low_verdict}

one_conclusion : (pair : Joined) (cert : Cert) (r s : Reply) → Concludes pair cert r → Concludes pair cert s → r ≡ s
one_conclusion pair cert r s (inl (refusal, breaks, is)) (inl (other, breaks', is')) =
    is ∙ ap (λ z. only_said status.BadCertificate (refused_text z)) (one_rule pair cert refusal other breaks breaks') ∙ sym is'
one_conclusion pair cert r s (inl (refusal, breaks, is)) (inr (keeps, says)) = absurd (none_kept pair cert refusal breaks keeps)
one_conclusion pair cert r s (inr (keeps, says)) (inl (refusal, breaks, is)) = absurd (none_kept pair cert refusal breaks keeps)
one_conclusion pair cert r s (inr (keeps, says)) (inr (keeps', says')) = one_verdict cert.mode pair cert.body [] r s says says'

pub one_check : (values : List Value) (r s : Reply) → MeansCheck values r → MeansCheck values s → r ≡ s
one_check values r s (one, two, cert, is, (pair, joined, concludes)) (one', two', cert', is', (pair', joined', concludes')) =
    let all = sym is ∙ is' in
    let first : one ≡ one' = cc in
    let second : two ≡ two' = cc in
    let third : cert ≡ cert' = cc in
    let P : Named → Type 0 = λ z. IsJoined z two pair in
    let Q : Named → Type 0 = λ z. IsJoined one' z pair in
    let same : pair ≡ pair' = joins_as_one one' two' pair pair' (subst Q second (subst P first joined)) joined' in
    let C : Joined → Type 0 = λ z. Concludes z cert r in
    let D : Cert → Type 0 = λ z. Concludes pair' z r in
    one_conclusion pair' cert' r s (subst D third (subst C same concludes)) concludes'

-- a check writes nothing
pub check_puts : (values : List Value) (r : Reply) → MeansCheck values r → r.puts ≡ []
check_puts values r (one, two, cert, is, (pair, joined, concludes)) =
    elim concludes [ inl broken ↦ ap (λ z. z.puts) broken.2 | inr valid ↦ puts_of_verdict cert.mode pair cert.body [] r valid.1 ]

-- it has a verdict, or refuses the certificate
pub check_answers : (values : List Value) (r : Reply) → MeansCheck values r → (status_number r.status ≤ 2) ⊎ (status_number r.status ≡ 5)
check_answers values r (one, two, cert, is, (pair, joined, concludes)) =
    elim concludes [ inl broken ↦ inr (ap (λ z. status_number z.status) broken.2) | inr valid ↦ inl (low_verdict cert.mode pair cert.body [] r valid.1) ]

-- its status is none of the words'
pub check_asked : (values : List Value) (r : Reply) → MeansCheck values r → status_number r.status ≡ 3 → ⊥
check_asked values r (one, two, cert, is, (pair, joined, concludes)) three =
    elim concludes [ inl broken ↦ (let e = ap (λ z. status_number z.status) broken.2 in omega arith) | inr valid ↦ go cert.body valid.1 ]
  where
    go : (body : Body) → IsVerdictReply cert.mode pair body [] r → ⊥
    go (Yes b) e = (let f = ap (λ z. status_number z.status) e in omega arith)
    go (NoLasso l) e = (let f = ap (λ z. status_number z.status) e in omega arith)
    go (NoWord w) e = (let f = ap (λ z. status_number z.status) e in omega arith)
    go (Listing l) e = (let f = ap (λ z. status_number z.status) e in omega arith)

module _ (files : FileMap) (a b c : List ℕ) (call : Call) (r : Reply) where
  shows_high : 3 ≤ call.status → ShowsCheck a b c call files
  shows_high high = record { included = λ e. absurd (omega arith); not_included = λ e. absurd (omega arith); listed = λ e. absurd (omega arith) }

  module _ (number : status_number r.status ≡ call.status) (sends : Sends r.text call.before.sink call.after.sink) where
    shows_valid : (pair : Joined) (cert : Cert) → ReadsPair files a b pair → ReadsCertificate files c cert → KeepsRules pair cert → (body : Body) → cert.body ≡ body → IsVerdictReply cert.mode pair body [] r → ShowsCheck a b c call files
    shows_valid pair cert read certificate keeps (Yes evidence) is says =
        let zero : call.status ≡ 0 = sym number ∙ ap (λ z. status_number z.status) says in
        record {
          included = λ e. record {
            pair = pair;
            cert = cert;
            evidence = evidence;
            read = read;
            certificate = certificate;
            says_yes = is;
            valid = record { formed = certificate.3.0; keeps = keeps };
            includes = valid_yes_includes pair cert evidence is certificate.3.0 read.4.first.valid read.4.second.valid keeps;
            printed = sends ∙ ap (λ z. append_known call.before.sink.sent z.text) says;
          };
          not_included = λ e. absurd (omega arith);
          listed = λ e. absurd (omega arith);
        }
    shows_valid pair cert read certificate keeps (NoLasso lasso) is says =
        let one : call.status ≡ 1 = sym number ∙ ap (λ z. status_number z.status) says in
        let all = subst (λ z. BodyHolds cert.mode pair z) is keeps.1 in
        record {
          included = λ e. absurd (omega arith);
          not_included = λ e. record {
            pair = pair;
            cert = cert;
            read = read;
            certificate = certificate;
            valid = record { formed = certificate.3.0; keeps = keeps };
            apart = subst (λ z. SaysApart pair z call.before.sink call.after.sink) (sym is) ((all.1.1.0, all.1.1.1.0), sends ∙ ap (λ z. append_known call.before.sink.sent z.text) says);
          };
          listed = λ e. absurd (omega arith);
        }
    shows_valid pair cert read certificate keeps (NoWord word) is says =
        let one : call.status ≡ 1 = sym number ∙ ap (λ z. status_number z.status) says in
        let all = subst (λ z. BodyHolds cert.mode pair z) is keeps.1 in
        record {
          included = λ e. absurd (omega arith);
          not_included = λ e. record {
            pair = pair;
            cert = cert;
            read = read;
            certificate = certificate;
            valid = record { formed = certificate.3.0; keeps = keeps };
            apart = subst (λ z. SaysApart pair z call.before.sink call.after.sink) (sym is) ((all.1.0, all.1.1.0), sends ∙ ap (λ z. append_known call.before.sink.sent z.text) says);
          };
          listed = λ e. absurd (omega arith);
        }
    shows_valid pair cert read certificate keeps (Listing l) is says =
        let two : call.status ≡ 2 = sym number ∙ ap (λ z. status_number z.status) says in
        record {
          included = λ e. absurd (omega arith);
          not_included = λ e. absurd (omega arith);
          listed = λ e. record {
            pair = pair;
            cert = cert;
            list = l;
            read = read;
            certificate = certificate;
            lists = is;
            valid = record { formed = certificate.3.0; keeps = keeps };
            different = kept_list_shows pair cert l is certificate.3.0 keeps;
            printed = sends ∙ ap (λ z. append_known call.before.sink.sent z.text) says;
          };
        }

    pub shows_check : (values : List Value) → ReadInTurn files (check_inputs a b c) values → MeansCheck values r → ShowsCheck a b c call files
    shows_check values reads (one, two, cert, is, (pair, joined, concludes)) =
        let (first, (second, (third, end))) = subst (ReadInTurn files (check_inputs a b c)) is reads in
        elim concludes [
          | inl broken ↦ (let e = ap (λ z. status_number z.status) broken.2 in shows_high (omega arith))
          | inr valid ↦ shows_valid pair cert (one, two, first, second, joined) third valid.0 cert.body refl valid.1
        ]
