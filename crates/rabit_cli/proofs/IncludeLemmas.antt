-- `include`: one reply, what it shows, and what it leaves.
use Rattle.std.proofs.Common.{◌≡◌, ℕ, ◌≤◌, List, [], ◌∷◌, inl, refl, sym, ◌∙◌, ap, subst, arith}
use Rattle.std.specs.FinMap as map
use Rattle.std.specs.Io.KnownBytes.{append_known}
use Rattle.shelf_io.specs.Shelf.{FileMap}
use Rattle.shelf_io.specs.Seen.{Call}
use Rattle.auto_core.specs.declared.parts.Mode.{Mode}
use Rattle.auto_core.specs.Outcome.{Entry, Outcome}
use Rattle.auto_core.specs.Outcome as end
use Rattle.ba_format.specs.declared.parts.Limits.{Limits}
use Rattle.ba_format.specs.declared.parts.Named.{Named}
use Rattle.ba_format.specs.declared.parts.Joined.{Joined}
use Rattle.ba_format.specs.Reading.{IsWithinLimits}
use Rattle.ba_format.specs.Joining.{IsJoined}
use Rattle.ba_format.proofs.LawLemmas.{joins_as_one}
use Rattle.ba_format.proofs.FaultlessLemmas.{read_is_within}
use Rattle.cert_value.specs.declared.types.Cert.{Cert}
use Rattle.cert_value.specs.declared.types.Body.{Body}
use Rattle.cert_value.specs.declared.types.Body.TheVariants.{Yes, NoLasso, NoWord, Listing}
use Rattle.cert_value.specs.declared.types.ListBody.{ListBody}
use Rattle.cert_value.specs.Text.{text}
use Rattle.decide.specs.Answer.{Reductions, IsAnswer, IsBodyOf}
use Rattle.decide.specs.declared.terms.Terms.{Terms}
use Rattle.decide.specs.Terms.{AreBounded}
use Rattle.decide.specs.Laws.{AnswerIsTrue}
use Rattle.decide.proofs.AnswerLemmas.{answers_are_formed, answers_are_true, answers_are_valid}
use Rattle.decide.proofs.UniqueLemmas.{one_answer}
use Rattle.rabit_frame.specs.declared.parts.Value.{Value}
use Rattle.rabit_frame.specs.declared.parts.Reply.{Reply}
use Rattle.rabit_frame.specs.declared.parts.Ending.{Ending}
use Rattle.rabit_frame.specs.Files.{Output}
use Rattle.rabit_frame.specs.Request.{request_with}
use Rattle.rabit_frame.specs.Statuses.{status_number}
use Rattle.rabit_frame.specs.Reading.{ReadInTurn}
use Rattle.rabit_frame.specs.Ending.{BeforeAndAfter, IsCutShort, WasSaid, filed, Sends}
use Rattle.rabit_frame.specs.Carrying.{EndsSo}
use Rattle.rabit_frame.proofs.EndLemmas.{leaves_by_status}
use Rattle.rabit_frame.specs.Printed.{limit_text}
use Rattle.rabit_frame.specs.declared.files.TheConstants.{FIRST_LIMITS, SECOND_LIMITS}
use Rattle.rabit_frame.specs.FileKinds.{ReadsPairWithin, ReadsPair, pair_inputs, certificate_put}
use Rattle.rabit_frame.specs.Replies.{IsVerdictReply, SaysApart}
use Rattle.rabit_cli.specs.Include.{usual_terms, MeansInclude, IsCertForWithin, IsCertFor, HoldsAnswer, HoldsAnswerFront, LeavesDecided, ShowsInclude}
use Rattle.rabit_cli.proofs.PairLemmas.{can_decide}
use Rattle.rabit_frame.proofs.VerdictLemmas.{one_verdict, puts_of_verdict, low_verdict}

-- the usual terms are bounded
pub usual_bounded : (m : Mode) → AreBounded (usual_terms m)
usual_bounded m = record { look_from = omega arith; look_upto = omega arith; letters_from = omega arith; letters_upto = omega arith; versioned = inl (refl, refl); few = omega arith }

pub one_include : (name : List ℕ) (terms : Terms) → 1 ≤ terms.look → (values : List Value) (r s : Reply) → MeansInclude name terms values r → MeansInclude name terms values s → r ≡ s
one_include name terms from values r s (one, two, is, (pair, joined, (cert, answer, says))) (one', two', is', (pair', joined', (cert', answer', says'))) =
    let all = sym is ∙ is' in
    let first : one ≡ one' = cc in
    let second : two ≡ two' = cc in
    let P : Named → Type 0 = λ z. IsJoined z two pair in
    let Q : Named → Type 0 = λ z. IsJoined one' z pair in
    let same : pair ≡ pair' = joins_as_one one' two' pair pair' (subst Q second (subst P first joined)) joined' in
    let A : Joined → Type 0 = λ z. IsAnswer z terms cert in
    let same_cert : cert ≡ cert' = one_answer pair' terms cert cert' joined'.first.valid joined'.second.valid from (subst A same answer) answer' in
    let C : Joined → Type 0 = λ z. IsVerdictReply terms.mode z cert.body (certificate_put name cert ∷ []) r in
    let D : Cert → Type 0 = λ z. IsVerdictReply terms.mode pair' z.body (certificate_put name z ∷ []) r in
    one_verdict terms.mode pair' cert'.body (certificate_put name cert' ∷ []) r s (subst D same_cert (subst C same says)) says'

-- it is a result: so its status is none of the words', and only results write
pub include_low : (name : List ℕ) (terms : Terms) (values : List Value) (r : Reply) → MeansInclude name terms values r → status_number r.status ≤ 2
include_low name terms values r (one, two, is, (pair, joined, (cert, answer, says))) = low_verdict terms.mode pair cert.body (certificate_put name cert ∷ []) r says

pub include_asked : (name : List ℕ) (terms : Terms) (values : List Value) (r : Reply) → MeansInclude name terms values r → status_number r.status ≡ 3 → ⊥
include_asked name terms values r means three = (let low = include_low name terms values r means in omega arith)

include_writes : (name : List ℕ) (terms : Terms) (values : List Value) (r : Reply) → MeansInclude name terms values r → 3 ≤ status_number r.status → r.puts ≡ []
include_writes name terms values r means high = absurd (let low = include_low name terms values r means in omega arith)

-- the limit in the list is that of the search
limit_of : (at : Reductions) (terms : Terms) (S : List (ℕ × ℕ)) (o : Outcome Entry) (l : ListBody) → IsBodyOf at terms S o (Listing l) → l.limit ≡ terms.limit
limit_of at terms S (end.Closed es) l is = absurd is
limit_of at terms S (end.Apart x y) l is = absurd is
limit_of at terms S (end.Limit es) l is = is.limit_is

pub limit_in : (pair : Joined) (terms : Terms) (cert : Cert) → IsAnswer pair terms cert → (l : ListBody) → cert.body ≡ Listing l → l.limit ≡ terms.limit
limit_in pair terms cert (at, ends, answer) l body = limit_of at terms answer.pairs answer.outcome l (subst (IsBodyOf at terms answer.pairs answer.outcome) body answer.body)

-- what is written is right for two files, whatever the limits of the first
pub cert_for_within : (limits : Limits) → ((named : Named) → IsWithinLimits limits named → IsWithinLimits FIRST_LIMITS named) → (files : FileMap) (a b : List ℕ) (terms : Terms) → AreBounded terms →
    (pair : Joined) (cert : Cert) → ReadsPairWithin limits files a b pair → IsAnswer pair terms cert → IsCertForWithin limits files a b terms pair cert
cert_for_within limits inside files a b terms bounds pair cert read answer =
    let (first, second, (bytes, has, few, reads), (bytes', has', few', reads'), joined) = read in
    let can = can_decide first second pair (inside first (read_is_within bytes limits first reads)) (read_is_within bytes' SECOND_LIMITS second reads') joined in
    record {
      read = read;
      answer = answer;
      formed = answers_are_formed pair terms cert can bounds answer;
      valid = answers_are_valid pair terms cert can bounds answer;
      truth = answers_are_true pair terms cert can bounds answer;
    }

module _ (files : FileMap) (a b c : List ℕ) (terms : Terms) (bounds : AreBounded terms) where
  pub cert_for : (pair : Joined) (cert : Cert) → ReadsPair files a b pair → IsAnswer pair terms cert → IsCertFor files a b terms pair cert
  cert_for pair cert read answer = cert_for_within FIRST_LIMITS (λ named within. within) files a b terms bounds pair cert read answer

  pub reads_cert : (values : List Value) (r : Reply) → ReadInTurn files (pair_inputs a b) values → MeansInclude c terms values r →
      (pair : Joined) × (cert : Cert) × IsCertFor files a b terms pair cert × IsVerdictReply terms.mode pair cert.body (certificate_put c cert ∷ []) r
  reads_cert values r reads (one, two, is, (pair, joined, (cert, answer, says))) =
      let (first, (second, end)) = subst (ReadInTurn files (pair_inputs a b)) is reads in
      (pair, cert, cert_for pair cert (one, two, first, second, joined) answer, says)

  module _ (call : Call) (files' : FileMap) (r : Reply) (number : status_number r.status ≡ call.status) (left : files' ≡ filed files r.puts) (sends : Sends r.text call.before.sink call.after.sink) where
    shows_body : (pair : Joined) (cert : Cert) → IsCertFor files a b terms pair cert → files' ≡ map.insert files c (text cert) → (puts : List Output) → (body : Body) → cert.body ≡ body → IsVerdictReply terms.mode pair body puts r → ShowsInclude a b c terms call files files'
    shows_body pair cert is held puts (Yes evidence) body says =
        let zero : call.status ≡ 0 = sym number ∙ ap (λ z. status_number z.status) says in
        record {
          included = λ e. record {
            pair = pair;
            cert = cert;
            evidence = evidence;
            read = is.read;
            answer = is.answer;
            says_yes = body;
            valid = is.valid;
            includes = (subst (AnswerIsTrue pair terms) body is.truth).0;
            apart_live = (subst (AnswerIsTrue pair terms) body is.truth).1;
            held = held;
            printed = sends ∙ ap (λ z. append_known call.before.sink.sent z.text) says;
          };
          not_included = λ e. absurd (omega arith);
          limit_met = λ e. absurd (omega arith);
        }
    shows_body pair cert is held puts (NoLasso lasso) body says =
        let one : call.status ≡ 1 = sym number ∙ ap (λ z. status_number z.status) says in
        record {
          included = λ e. absurd (omega arith);
          not_included = λ e. record {
            pair = pair;
            cert = cert;
            read = is.read;
            answer = is.answer;
            valid = is.valid;
            apart = subst (λ b. SaysApart pair b call.before.sink call.after.sink) (sym body) (subst (AnswerIsTrue pair terms) body is.truth, sends ∙ ap (λ z. append_known call.before.sink.sent z.text) says);
            held = held;
          };
          limit_met = λ e. absurd (omega arith);
        }
    shows_body pair cert is held puts (NoWord word) body says =
        let one : call.status ≡ 1 = sym number ∙ ap (λ z. status_number z.status) says in
        record {
          included = λ e. absurd (omega arith);
          not_included = λ e. record {
            pair = pair;
            cert = cert;
            read = is.read;
            answer = is.answer;
            valid = is.valid;
            apart = subst (λ b. SaysApart pair b call.before.sink call.after.sink) (sym body) (subst (AnswerIsTrue pair terms) body is.truth, sends ∙ ap (λ z. append_known call.before.sink.sent z.text) says);
            held = held;
          };
          limit_met = λ e. absurd (omega arith);
        }
    shows_body pair cert is held puts (Listing list) body says =
        let two : call.status ≡ 2 = sym number ∙ ap (λ z. status_number z.status) says in
        record {
          included = λ e. absurd (omega arith);
          not_included = λ e. absurd (omega arith);
          limit_met = λ e. record {
            pair = pair;
            cert = cert;
            list = list;
            read = is.read;
            answer = is.answer;
            lists = body;
            valid = is.valid;
            listed = subst (AnswerIsTrue pair terms) body is.truth;
            held = held;
            printed = sends ∙ ap (λ z. append_known call.before.sink.sent z.text) says ∙ ap (λ n. append_known call.before.sink.sent (limit_text n)) (limit_in pair terms cert is.answer list body);
          };
        }

    pub shows_include : (values : List Value) → ReadInTurn files (pair_inputs a b) values → MeansInclude c terms values r → ShowsInclude a b c terms call files files'
    shows_include values reads means =
        let (pair, cert, is, says) = reads_cert values r reads means in
        let puts = puts_of_verdict terms.mode pair cert.body (certificate_put c cert ∷ []) r says in
        shows_body pair cert is (left ∙ ap (filed files) puts) (certificate_put c cert ∷ []) cert.body refl says

  -- what its reply leaves once it is written, and where that was refused
  pub holds_answer : (files' : FileMap) (values : List Value) (r : Reply) → ReadInTurn files (pair_inputs a b) values → MeansInclude c terms values r → files' ≡ filed files r.puts → HoldsAnswer files a b c terms files'
  holds_answer files' values r reads means left =
      let (pair, cert, is, says) = reads_cert values r reads means in
      (pair, cert, is, left ∙ ap (filed files) (puts_of_verdict terms.mode pair cert.body (certificate_put c cert ∷ []) r says))

  pub holds_front : (files' : FileMap) (values : List Value) (r : Reply) → ReadInTurn files (pair_inputs a b) values → MeansInclude c terms values r → IsCutShort files r.puts files' → HoldsAnswerFront files a b c terms files'
  holds_front files' values r reads means cut =
      let (pair, cert, is, says) = reads_cert values r reads means in
      let cut' = subst (λ ps. IsCutShort files ps files') (puts_of_verdict terms.mode pair cert.body (certificate_put c cert ∷ []) r says) cut in
      (pair, cert, is, cut')

-- what it leaves
module _ (call : Call) (a b c : List ℕ) (terms : Terms) (bounds : AreBounded terms) where
  pub leaves_include : (e : Ending) → EndsSo (request_with (pair_inputs a b) (MeansInclude c terms)) e call.before.shelf call.after.shelf → WasSaid e call.status call.before.sink call.after.sink → BeforeAndAfter call.before.shelf.files call.after.shelf.files (LeavesDecided a b c terms call)
  leaves_include e ends said =
      leaves_by_status (request_with (pair_inputs a b) (MeansInclude c terms)) call (λ before. HoldsAnswer before a b c terms) (λ before. HoldsAnswerFront before a b c terms) (include_writes c terms)
      (λ files files' values r reads means low left. holds_answer files a b c terms bounds files' values r reads means left)
      (λ files files' values r reads means cut. holds_front files a b c terms bounds files' values r reads means cut) e ends said
