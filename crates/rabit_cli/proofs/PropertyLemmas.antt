-- `empty` and `universal`: one reply, what it shows, and what it leaves.
use Rattle.std.proofs.Common.{◌≡◌, ℕ, ◌≤◌, List, [], refl, sym, ◌∙◌, ap, subst, arith}
use Rattle.std.specs.Io.KnownBytes.{append_known}
use Rattle.shelf_io.specs.Shelf.{FileMap}
use Rattle.shelf_io.specs.Seen.{Call}
use Rattle.auto_core.specs.Automaton.{IsAutomaton}
use Rattle.auto_core.specs.Accept.{Includes, SeparatesLasso, SeparatesWord}
use Rattle.auto_core.specs.declared.parts.Mode.{Mode}
use Rattle.auto_core.specs.declared.parts.Lasso.{Lasso}
use Rattle.ba_format.specs.declared.parts.Named.{Named}
use Rattle.ba_format.specs.declared.parts.Joined.{Joined}
use Rattle.ba_format.specs.Reading.{Reads, IsWithinLimits}
use Rattle.ba_format.proofs.FaultlessLemmas.{read_is_within}
use Rattle.ba_format.proofs.LawLemmas.{reads_as_one}
use Rattle.cert_value.specs.declared.types.Cert.{Cert}
use Rattle.cert_value.specs.declared.types.Body.{Body}
use Rattle.cert_value.specs.declared.types.Body.TheVariants.{Yes, NoLasso, NoWord, Listing}
use Rattle.decide.specs.Answer.{IsAnswer}
use Rattle.decide.specs.Laws.{CanDecide, AnswerIsTrue}
use Rattle.decide.proofs.AnswerLemmas.{answers_are_true, answers_are_valid}
use Rattle.decide.proofs.UniqueLemmas.{one_answer}
use Rattle.rabit_frame.specs.declared.parts.Value.{Value}
use Rattle.rabit_frame.specs.declared.parts.Reply.{Reply}
use Rattle.rabit_frame.specs.declared.parts.Ending.{Ending}
use Rattle.rabit_frame.specs.Files.{Output}
use Rattle.rabit_frame.specs.Request.{request_with}
use Rattle.rabit_frame.specs.Statuses.{status_number}
use Rattle.rabit_frame.specs.Reading.{ReadInTurn}
use Rattle.rabit_frame.specs.Ending.{BeforeAndAfter, IsCutShort, WasSaid, filed, Sends}
use Rattle.rabit_frame.specs.Carrying.{EndsSo}
use Rattle.rabit_frame.proofs.EndLemmas.{leaves_by_status}
use Rattle.rabit_frame.specs.Printed.{lasso_against_text, word_against_text, limit_text}
use Rattle.rabit_frame.specs.declared.files.TheConstants.{SECOND_LIMITS}
use Rattle.rabit_cli.specs.Include.{usual_terms}
use Rattle.rabit_cli.specs.Property.{property_inputs, Property, property_puts, IsPropertyReply, MeansProperty, IsPropertyCertFor, HoldsProperty, HoldsPropertyPart, LeavesProperty, IsRefuted, ShowsProperty}
use Rattle.rabit_cli.proofs.IncludeLemmas.{usual_bounded, limit_in}

-- ---- the reply by the answer's body

one_reply_of : (name : List ℕ) (pair : Joined) (body : Body) (puts : List Output) (r s : Reply) → IsPropertyReply name pair body puts r → IsPropertyReply name pair body puts s → r ≡ s
one_reply_of name pair (Yes b) puts r s p q = p ∙ sym q
one_reply_of name pair (NoLasso l) puts r s p q = p ∙ sym q
one_reply_of name pair (NoWord w) puts r s p q = p ∙ sym q
one_reply_of name pair (Listing l) puts r s p q = p ∙ sym q

puts_of_reply : (name : List ℕ) (pair : Joined) (body : Body) (puts : List Output) (r : Reply) → IsPropertyReply name pair body puts r → r.puts ≡ puts
puts_of_reply name pair (Yes b) puts r p = ap (λ z. z.puts) p
puts_of_reply name pair (NoLasso l) puts r p = ap (λ z. z.puts) p
puts_of_reply name pair (NoWord w) puts r p = ap (λ z. z.puts) p
puts_of_reply name pair (Listing l) puts r p = ap (λ z. z.puts) p

low_reply : (name : List ℕ) (pair : Joined) (body : Body) (puts : List Output) (r : Reply) → IsPropertyReply name pair body puts r → status_number r.status ≤ 2
low_reply name pair (Yes b) puts r p = subst (λ z. status_number z.status ≤ 2) (sym p) (omega arith)
low_reply name pair (NoLasso l) puts r p = subst (λ z. status_number z.status ≤ 2) (sym p) (omega arith)
low_reply name pair (NoWord w) puts r p = subst (λ z. status_number z.status ≤ 2) (sym p) (omega arith)
low_reply name pair (Listing l) puts r p = subst (λ z. status_number z.status ≤ 2) (sym p) (omega arith)

-- ---- what is to be known of a property

-- What is to be known of it: the pair is one and can be decided; it has the read automaton's labels, and its inclusion and what separates it say the
-- right thing of that automaton.
pub record IsDecidable (p : Property) : Type 0 where
  pub one_pair : (one other : Named) (x y : Joined) → p.joins one other x → p.joins one other y → x ≡ y
  pub valid : (one other : Named) (pair : Joined) → p.joins one other pair → IsAutomaton pair.first × IsAutomaton pair.second
  pub can : (one other : Named) (pair : Joined) → IsWithinLimits p.limits one → IsWithinLimits SECOND_LIMITS other → p.joins one other pair → CanDecide pair
  pub labels : (bytes : List ℕ) (one other : Named) (pair : Joined) → Reads bytes p.limits one → Reads (p.made one) SECOND_LIMITS other → p.joins one other pair → pair.labels ≡ one.labels
  pub holds : (bytes : List ℕ) (one other : Named) (pair : Joined) → Reads bytes p.limits one → Reads (p.made one) SECOND_LIMITS other → p.joins one other pair → (m : Mode) → Includes pair.first pair.second m → p.holds m one.auto
  pub lasso :
      (bytes : List ℕ) (one other : Named) (pair : Joined) → Reads bytes p.limits one → Reads (p.made one) SECOND_LIMITS other → p.joins one other pair → (l : Lasso) → SeparatesLasso pair.first pair.second l.prefix l.turn → p.lasso_against one.auto l
  pub word :
      (bytes : List ℕ) (one other : Named) (pair : Joined) → Reads bytes p.limits one → Reads (p.made one) SECOND_LIMITS other → p.joins one other pair → (w : List ℕ) → SeparatesWord pair.first pair.second w → p.word_against one.auto w

module _ (p : Property) (known : IsDecidable p) (m c : List ℕ) (mode : Mode) where
  pub one_decided : (values : List Value) (r s : Reply) → MeansProperty p m c mode values r → MeansProperty p m c mode values s → r ≡ s
  one_decided values r s (one, is, (other, made, (pair, joined, (cert, answer, says)))) (one', is', (other', made', (pair', joined', (cert', answer', says')))) =
      let all = sym is ∙ is' in
      let first : one ≡ one' = cc in
      let M : Named → Type 0 = λ z. Reads (p.made z) SECOND_LIMITS other in
      let second : other ≡ other' = reads_as_one (p.made one') SECOND_LIMITS other other' (subst M first made) made' in
      let P : Named → Type 0 = λ z. p.joins z other pair in
      let Q : Named → Type 0 = λ z. p.joins one' z pair in
      let same : pair ≡ pair' = known.one_pair one' other' pair pair' (subst Q second (subst P first joined)) joined' in
      let valid = known.valid one' other' pair' joined' in
      let A : Joined → Type 0 = λ z. IsAnswer z (usual_terms mode) cert in
      let same_cert : cert ≡ cert' = one_answer pair' (usual_terms mode) cert cert' valid.0 valid.1 (usual_bounded mode).look_from (subst A same answer) answer' in
      let C : Joined → Type 0 = λ z. IsPropertyReply p.name z cert.body (property_puts m (p.made one) c cert) r in
      let D : Cert → Type 0 = λ z. IsPropertyReply p.name pair' z.body (property_puts m (p.made one) c z) r in
      let E : Named → Type 0 = λ z. IsPropertyReply p.name pair' cert'.body (property_puts m (p.made z) c cert') r in
      one_reply_of p.name pair' cert'.body (property_puts m (p.made one') c cert') r s (subst E first (subst D same_cert (subst C same says))) says'

  -- it is a result
  pub decided_low : (values : List Value) (r : Reply) → MeansProperty p m c mode values r → status_number r.status ≤ 2
  decided_low values r (one, is, (other, made, (pair, joined, (cert, answer, says)))) = low_reply p.name pair cert.body (property_puts m (p.made one) c cert) r says

  pub decided_asked : (values : List Value) (r : Reply) → MeansProperty p m c mode values r → status_number r.status ≡ 3 → ⊥
  decided_asked values r means three = (let low = decided_low values r means in omega arith)

  decided_writes : (values : List Value) (r : Reply) → MeansProperty p m c mode values r → 3 ≤ status_number r.status → r.puts ≡ []
  decided_writes values r means high = absurd (let low = decided_low values r means in omega arith)

  -- ---- what it shows

  module _ (files : FileMap) (a : List ℕ) where
    -- what the reply is by: the automata, the answer, and what that says
    record Decided (r : Reply) : Type 0 where
      one : Named
      other : Named
      pair : Joined
      cert : Cert
      is_for : IsPropertyCertFor p mode files a one other pair cert
      says : IsPropertyReply p.name pair cert.body (property_puts m (p.made one) c cert) r

    decided_reads : (values : List Value) (r : Reply) → ReadInTurn files (property_inputs p a) values → MeansProperty p m c mode values r → Decided r
    decided_reads values r reads (one, is, (other, made, (pair, joined, (cert, answer, says)))) =
        let (first, end) = subst (ReadInTurn files (property_inputs p a)) is reads in
        let (bytes, has, few, read) = first in
        let can = known.can one other pair (read_is_within bytes p.limits one read) (read_is_within (p.made one) SECOND_LIMITS other made) joined in
        record {
          one = one;
          other = other;
          pair = pair;
          cert = cert;
          is_for = record {
            read = first;
            other_reads = made;
            joined = joined;
            answer = answer;
            valid = answers_are_valid pair (usual_terms mode) cert can (usual_bounded mode) answer;
            truth = answers_are_true pair (usual_terms mode) cert can (usual_bounded mode) answer;
          };
          says = says;
        }

    module _ (call : Call) (files' : FileMap) (r : Reply) (number : status_number r.status ≡ call.status) (left : files' ≡ filed files r.puts) (sends : Sends r.text call.before.sink call.after.sink) where
      abbrev written_by : (f : Decided r) → files' ≡ filed files (property_puts m (p.made f.one) c f.cert) → HoldsProperty p files a m c mode files'
      written_by f held = record { one = f.one; other = f.other; pair = f.pair; cert = f.cert; is_for = f.is_for; held = held }

      shows_body : (f : Decided r) → files' ≡ filed files (property_puts m (p.made f.one) c f.cert) → (puts : List Output) → (body : Body) → f.cert.body ≡ body → IsPropertyReply p.name f.pair body puts r → ShowsProperty p a m c mode call files files'
      shows_body f held puts (Yes evidence) body says =
          let zero : call.status ≡ 0 = sym number ∙ ap (λ z. status_number z.status) says in
          let (bytes, has, few, read) = f.is_for.read in
          record {
            holds = λ e. record {
              written = written_by f held;
              evidence = evidence;
              says_yes = body;
              holds = known.holds bytes f.one f.other f.pair read f.is_for.other_reads f.is_for.joined mode (subst (AnswerIsTrue f.pair (usual_terms mode)) body f.is_for.truth).0;
              printed = sends ∙ ap (λ z. append_known call.before.sink.sent z.text) says;
            };
            fails = λ e. absurd (omega arith);
            listed = λ e. absurd (omega arith);
          }
      shows_body f held puts (NoLasso lasso) body says =
          let one : call.status ≡ 1 = sym number ∙ ap (λ z. status_number z.status) says in
          let (bytes, has, few, read) = f.is_for.read in
          let labels = known.labels bytes f.one f.other f.pair read f.is_for.other_reads f.is_for.joined in
          record {
            holds = λ e. absurd (omega arith);
            fails = λ e. record {
              written = written_by f held;
              refuted = subst (λ b. IsRefuted p f.one b call.before.sink call.after.sink) (sym body) (
                known.lasso bytes f.one f.other f.pair read f.is_for.other_reads f.is_for.joined lasso (subst (AnswerIsTrue f.pair (usual_terms mode)) body f.is_for.truth),
                sends ∙ ap (λ z. append_known call.before.sink.sent z.text) says ∙ ap (λ ls. append_known call.before.sink.sent (lasso_against_text p.name ls lasso)) labels,
              );
            };
            listed = λ e. absurd (omega arith);
          }
      shows_body f held puts (NoWord word) body says =
          let one : call.status ≡ 1 = sym number ∙ ap (λ z. status_number z.status) says in
          let (bytes, has, few, read) = f.is_for.read in
          let labels = known.labels bytes f.one f.other f.pair read f.is_for.other_reads f.is_for.joined in
          record {
            holds = λ e. absurd (omega arith);
            fails = λ e. record {
              written = written_by f held;
              refuted = subst (λ b. IsRefuted p f.one b call.before.sink call.after.sink) (sym body) (
                known.word bytes f.one f.other f.pair read f.is_for.other_reads f.is_for.joined word (subst (AnswerIsTrue f.pair (usual_terms mode)) body f.is_for.truth),
                sends ∙ ap (λ z. append_known call.before.sink.sent z.text) says ∙ ap (λ ls. append_known call.before.sink.sent (word_against_text p.name ls word)) labels,
              );
            };
            listed = λ e. absurd (omega arith);
          }
      shows_body f held puts (Listing list) body says =
          let two : call.status ≡ 2 = sym number ∙ ap (λ z. status_number z.status) says in
          record {
            holds = λ e. absurd (omega arith);
            fails = λ e. absurd (omega arith);
            listed = λ e. record {
              written = written_by f held;
              list = list;
              lists = body;
              listed = subst (AnswerIsTrue f.pair (usual_terms mode)) body f.is_for.truth;
              printed = sends ∙ ap (λ z. append_known call.before.sink.sent z.text) says ∙ ap (λ n. append_known call.before.sink.sent (limit_text n)) (limit_in f.pair (usual_terms mode) f.cert f.is_for.answer list body);
            };
          }

      pub shows_property : (values : List Value) → ReadInTurn files (property_inputs p a) values → MeansProperty p m c mode values r → ShowsProperty p a m c mode call files files'
      shows_property values reads means =
          let f = decided_reads values r reads means in
          let puts = puts_of_reply p.name f.pair f.cert.body (property_puts m (p.made f.one) c f.cert) r f.says in
          shows_body f (left ∙ ap (filed files) puts) (property_puts m (p.made f.one) c f.cert) f.cert.body refl f.says

    -- ---- what it leaves

    holds_both : (files' : FileMap) (values : List Value) (r : Reply) → ReadInTurn files (property_inputs p a) values → MeansProperty p m c mode values r → files' ≡ filed files r.puts → HoldsProperty p files a m c mode files'
    holds_both files' values r reads means left =
        let f = decided_reads values r reads means in
        record {
          one = f.one;
          other = f.other;
          pair = f.pair;
          cert = f.cert;
          is_for = f.is_for;
          held = left ∙ ap (filed files) (puts_of_reply p.name f.pair f.cert.body (property_puts m (p.made f.one) c f.cert) r f.says);
        }

    holds_part : (files' : FileMap) (values : List Value) (r : Reply) → ReadInTurn files (property_inputs p a) values → MeansProperty p m c mode values r → IsCutShort files r.puts files' → HoldsPropertyPart p files a m c mode files'
    holds_part files' values r reads means cut =
        let f = decided_reads values r reads means in
        let cut' = subst (λ ps. IsCutShort files ps files') (puts_of_reply p.name f.pair f.cert.body (property_puts m (p.made f.one) c f.cert) r f.says) cut in
        (f.one, f.other, f.pair, f.cert, f.is_for, cut')

  module _ (call : Call) (a : List ℕ) where
    pub leaves_property : (e : Ending) → EndsSo (request_with (property_inputs p a) (MeansProperty p m c mode)) e call.before.shelf call.after.shelf → WasSaid e call.status call.before.sink call.after.sink → BeforeAndAfter call.before.shelf.files call.after.shelf.files (LeavesProperty p a m c mode call)
    leaves_property e ends said =
        leaves_by_status (request_with (property_inputs p a) (MeansProperty p m c mode)) call (λ before. HoldsProperty p before a m c mode) (λ before. HoldsPropertyPart p before a m c mode) decided_writes
        (λ files files' values r reads means low left. holds_both files a files' values r reads means left)
        (λ files files' values r reads means cut. holds_part files a files' values r reads means cut) e ends said
