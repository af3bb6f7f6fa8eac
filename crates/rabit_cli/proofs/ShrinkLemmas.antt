-- `shrink`: one reply, what it shows, and what it leaves.
use Rattle.std.proofs.Common.{◌≡◌, ◌⊎◌, ℕ, ◌<◌, ◌≤◌, ◌&&◌, true, List, [], ◌∷◌, length, get_or, All, Contains, inl, inr, refl, sym, ◌∙◌, ap, subst, arith}
use Rattle.std.specs.Io.KnownBytes.{append_known}
use Rattle.std.proofs.lemmas.Bool.{and_parts, and_from, ltb-true, false≢true}
use Rattle.std.proofs.lemmas.List.Elements.{All-contains, All-contains_itself}
use Rattle.shelf_io.specs.Shelf.{FileMap}
use Rattle.shelf_io.specs.Seen.{Call, SinkSeen}
use Rattle.auto_core.specs.Accept.{SeparatesWord}
use Rattle.auto_core.specs.declared.parts.Lasso.{Lasso}
use Rattle.auto_core.specs.declared.parts.Mode.{Mode}
use Rattle.auto_core.specs.declared.parts.Mode.TheVariants.{Buchi, Finite}
use Rattle.ba_format.specs.declared.parts.Named.{Named}
use Rattle.ba_format.specs.declared.parts.Joined.{Joined}
use Rattle.ba_format.specs.Joining.{IsJoined}
use Rattle.ba_format.proofs.LawLemmas.{joins_as_one}
use Rattle.cert_value.specs.declared.types.Cert.{Cert}
use Rattle.cert_value.specs.declared.types.Body.{Body}
use Rattle.cert_value.specs.declared.types.Body.TheVariants.{Yes, NoLasso, NoWord, Listing}
use Rattle.cert_value.specs.WellFormed.{WellFormed, is_version, is_short, are_short, has_some, is_body}
use Rattle.cert_check.specs.Rules.{KeepsRules, BodyHolds}
use Rattle.cert_check.specs.Laws.{IsValid}
use Rattle.cert_check.proofs.RuleLemmas.{one_rule, none_kept}
use Rattle.log_check.proofs.RowLemmas.{all_short}
use Rattle.lasso_shrink.specs.Shrinking.{word_without, letters_of, lasso_without, IsShrunkLasso, IsShrunkWord}
use Rattle.lasso_shrink.specs.Shrinking as shrinking
use Rattle.lasso_shrink.proofs.LawLemmas.{shrunk_lasso_is_one, shrunk_word_is_one, shrinking_a_lasso_adds_no_letter, shrinking_a_word_adds_no_letter}
use Rattle.lasso_shrink.proofs.LeavingLemmas.{shrunk_keeps}
use Rattle.rabit_frame.specs.declared.parts.Value.{Value}
use Rattle.rabit_frame.specs.declared.parts.Value.TheVariants as value
use Rattle.rabit_frame.specs.declared.parts.Status.TheVariants as status
use Rattle.rabit_frame.specs.declared.parts.Reply.{Reply}
use Rattle.rabit_frame.specs.declared.parts.Ending.{Ending}
use Rattle.rabit_frame.specs.Files.{Output}
use Rattle.rabit_frame.specs.Request.{request_with}
use Rattle.rabit_frame.specs.Statuses.{status_number}
use Rattle.rabit_frame.specs.Reading.{only_said, ReadInTurn, StopInTurn}
use Rattle.rabit_frame.specs.Ending.{IsReplyFor, BeforeAndAfter, IsCutShort, WasSaid, filed, Sends}
use Rattle.rabit_frame.specs.Carrying.{EndsSo}
use Rattle.rabit_frame.proofs.EndLemmas.{leaves_by_status}
use Rattle.rabit_frame.proofs.OneLemmas.{one_read_in_turn, stop_or_read_in_turn}
use Rattle.rabit_frame.specs.Printed.{refused_text}
use Rattle.rabit_frame.specs.Replies.{IsVerdictReply, SaysApart, IsNo}
use Rattle.rabit_frame.specs.FileKinds.{certificate_put}
use Rattle.rabit_cli.specs.Check.{check_inputs}
use Rattle.rabit_cli.specs.Shrink.{IsShrunkBody, shrunk_no, IsShrinkReply, MeansShrink, IsShrunkFor, HoldsShrunk, HoldsShrunkFront, LeavesShrunk, ShowsShrink, IsShrinkStatus}
use Rattle.rabit_frame.proofs.VerdictLemmas.{HaveTexts, one_verdict, puts_of_verdict, loop_has_letters}

-- ---- what is left

all_in : (P : ℕ → Type 0) (w : List ℕ) → ((a : ℕ) → Contains w a → P a) → All P w
all_in P w h = λ k d lt. h (get_or w k d) (All-contains_itself w k d lt)

all_left : (n : ℕ) (w left : List ℕ) → ((a : ℕ) → Contains left a → Contains w a) → All (λ a. a < n) w → All (λ a. a < n) left
all_left n w left from all = all_in (λ a. a < n) left (λ a has. All-contains (λ a. a < n) w a all (from a has))

short_letters : (n : ℕ) (w : List ℕ) → n < 1000000000 → All (λ a. a < n) w → are_short w ≡ true
short_letters n w few all = all_short w (λ a has. let lt = All-contains (λ a. a < n) w a all has in omega arith)

module _ (pair : Joined) where
  lasso_apart : (lasso left : Lasso) → IsShrunkLasso pair.first pair.second lasso left → shrinking.LassoSeparates pair.first pair.second lasso → shrinking.LassoSeparates pair.first pair.second left
  lasso_apart lasso left is apart =
      shrunk_keeps (shrinking.LassoSeparates pair.first pair.second) letters_of lasso_without (shrinking.LassoSeparates pair.first pair.second) (λ x y one p. one.keeps) lasso left is apart

  word_apart : (word left : List ℕ) → IsShrunkWord pair.first pair.second word left → SeparatesWord pair.first pair.second word → SeparatesWord pair.first pair.second left
  word_apart word left is apart =
      shrunk_keeps (SeparatesWord pair.first pair.second) length word_without (SeparatesWord pair.first pair.second) (λ x y one p. one.keeps) word left is apart

  abbrev made : ℕ → Mode → ℕ → ℕ → ℕ → Body → Cert
  made v m first second labels body = record { version = v; mode = m; first_states = first; second_states = second; labels = labels; body = body }

  -- with what is left the certificate is valid
  valid_by : (v : ℕ) (m : Mode) (first second labels : ℕ) (body left : Body) → WellFormed (made v m first second labels body) → KeepsRules pair (made v m first second labels body) → IsShrunkBody pair body left → IsValid pair (made 1 m first second labels left)
  valid_by v m first second labels (Yes evidence) left formed keeps shrunk = absurd shrunk
  valid_by v m first second labels (Listing list) left formed keeps shrunk = absurd shrunk
  valid_by v m first second labels (NoLasso lasso) left formed keeps (l, is, e) =
      let (prefix, (turn, (accepts, (rejects, none)))) = keeps.1 in
      let zero = and_parts (is_version v) (is_short first && (is_short second && (is_short labels && is_body v m (NoLasso lasso)))) formed in
      let one = and_parts (is_short first) (is_short second && (is_short labels && is_body v m (NoLasso lasso))) zero.1 in
      let two = and_parts (is_short second) (is_short labels && is_body v m (NoLasso lasso)) one.1 in
      let three = and_parts (is_short labels) (is_body v m (NoLasso lasso)) two.1 in
      let labels_are = keeps.0.2 in
      let few = ltb-true labels 1000000000 three.0 in
      let apart = lasso_apart lasso l is (accepts, rejects) in
      let has : (a : ℕ) → _ = λ a. shrinking_a_lasso_adds_no_letter pair.first pair.second lasso l a is in
      let prefix_left = all_left (length pair.labels) lasso.prefix l.prefix (λ a. (has a).0) prefix in
      let turn_left = all_left (length pair.labels) lasso.turn l.turn (λ a. (has a).1) turn in
      let some = loop_has_letters pair.first l.prefix l.turn apart.0 in
      let good = and_from (are_short l.prefix) (are_short l.turn && has_some l.turn) (short_letters (length pair.labels) l.prefix (omega arith) prefix_left)
      (and_from (are_short l.turn) (has_some l.turn) (short_letters (length pair.labels) l.turn (omega arith) turn_left) some) in
      subst (λ b. IsValid pair (made 1 m first second labels b)) (sym e) (record {
        formed =
            and_from (is_version 1) (is_short first && (is_short second && (is_short labels && is_body 1 m (NoLasso l)))) refl
            (and_from (is_short first) (is_short second && (is_short labels && is_body 1 m (NoLasso l))) one.0
            (and_from (is_short second) (is_short labels && is_body 1 m (NoLasso l)) two.0 (and_from (is_short labels) (is_body 1 m (NoLasso l)) three.0 (of_mode l m three.1 good))));
        keeps = (keeps.0, (prefix_left, (turn_left, (apart.0, (apart.1, tt)))));
      })
    where
      of_mode : (l : Lasso) (m : Mode) → is_body v m (NoLasso lasso) ≡ true → are_short l.prefix && (are_short l.turn && has_some l.turn) ≡ true → is_body 1 m (NoLasso l) ≡ true
      of_mode l Buchi is good = good
      of_mode l Finite is good = absurd (false≢true is)
  valid_by v m first second labels (NoWord word) left formed keeps (w, is, e) =
      let (letters, (accepts, (rejects, none))) = keeps.1 in
      let zero = and_parts (is_version v) (is_short first && (is_short second && (is_short labels && is_body v m (NoWord word)))) formed in
      let one = and_parts (is_short first) (is_short second && (is_short labels && is_body v m (NoWord word))) zero.1 in
      let two = and_parts (is_short second) (is_short labels && is_body v m (NoWord word)) one.1 in
      let three = and_parts (is_short labels) (is_body v m (NoWord word)) two.1 in
      let labels_are = keeps.0.2 in
      let few = ltb-true labels 1000000000 three.0 in
      let apart = word_apart word w is (accepts, rejects) in
      let letters_left = all_left (length pair.labels) word w (λ a. shrinking_a_word_adds_no_letter pair.first pair.second word w a is) letters in
      subst (λ b. IsValid pair (made 1 m first second labels b)) (sym e) (record {
        formed =
            and_from (is_version 1) (is_short first && (is_short second && (is_short labels && is_body 1 m (NoWord w)))) refl
            (and_from (is_short first) (is_short second && (is_short labels && is_body 1 m (NoWord w))) one.0
            (and_from (is_short second) (is_short labels && is_body 1 m (NoWord w)) two.0
            (and_from (is_short labels) (is_body 1 m (NoWord w)) three.0 (of_mode w m three.1 (short_letters (length pair.labels) w (omega arith) letters_left)))));
        keeps = (keeps.0, (letters_left, (apart.0, (apart.1, tt))));
      })
    where
      of_mode : (w : List ℕ) (m : Mode) → is_body v m (NoWord word) ≡ true → are_short w ≡ true → is_body 1 m (NoWord w) ≡ true
      of_mode w Buchi is good = absurd (false≢true is)
      of_mode w Finite is good = good

  pub left_is_valid : (cert : Cert) (left : Body) → WellFormed cert → KeepsRules pair cert → IsShrunkBody pair cert.body left → IsValid pair (shrunk_no cert left)
  left_is_valid cert left formed keeps shrunk = valid_by cert.version cert.mode cert.first_states cert.second_states cert.labels cert.body left formed keeps shrunk

  -- its letters are labels of the pair
  letters_in : (m : Mode) (body left : Body) → BodyHolds m pair body → IsShrunkBody pair body left → (lasso : Lasso) → left ≡ NoLasso lasso → HaveTexts pair lasso
  letters_in m (Yes evidence) left holds shrunk lasso same = absurd shrunk
  letters_in m (Listing list) left holds shrunk lasso same = absurd shrunk
  letters_in m (NoLasso given) left holds (l, is, e) lasso same =
      let (prefix, (turn, rest)) = holds in
      let body_same : NoLasso l ≡ NoLasso lasso = sym e ∙ same in
      let one : l ≡ lasso = cc in
      let has : (a : ℕ) → _ = λ a. shrinking_a_lasso_adds_no_letter pair.first pair.second given l a is in
      subst (HaveTexts pair) one (all_left (length pair.labels) given.prefix l.prefix (λ a. (has a).0) prefix, all_left (length pair.labels) given.turn l.turn (λ a. (has a).1) turn)
  letters_in m (NoWord word) left holds (w, is, e) lasso same = absurd (let body_same : NoWord w ≡ NoLasso lasso = sym e ∙ same in cc)

  letters_in_word : (m : Mode) (body left : Body) → BodyHolds m pair body → IsShrunkBody pair body left → (word : List ℕ) → left ≡ NoWord word → All (λ a. a < length pair.labels) word
  letters_in_word m (Yes evidence) left holds shrunk word same = absurd shrunk
  letters_in_word m (Listing list) left holds shrunk word same = absurd shrunk
  letters_in_word m (NoLasso lasso) left holds (l, is, e) word same = absurd (let body_same : NoLasso l ≡ NoWord word = sym e ∙ same in cc)
  letters_in_word m (NoWord given) left holds (w, is, e) word same =
      let body_same : NoWord w ≡ NoWord word = sym e ∙ same in
      let one : w ≡ word = cc in
      subst (All (λ a. a < length pair.labels)) one (all_left (length pair.labels) given w (λ a. shrinking_a_word_adds_no_letter pair.first pair.second given w a is) holds.0)

  pub letters_of_left : (cert : Cert) (left : Body) → KeepsRules pair cert → IsShrunkBody pair cert.body left → (lasso : Lasso) → left ≡ NoLasso lasso → HaveTexts pair lasso
  letters_of_left cert left keeps shrunk = letters_in cert.mode cert.body left keeps.1 shrunk

  pub letters_of_left_word : (cert : Cert) (left : Body) → KeepsRules pair cert → IsShrunkBody pair cert.body left → (word : List ℕ) → left ≡ NoWord word → All (λ a. a < length pair.labels) word
  letters_of_left_word cert left keeps shrunk = letters_in_word cert.mode cert.body left keeps.1 shrunk

  -- it is one, and only of a no
  one_left : (body x y : Body) → IsShrunkBody pair body x → IsShrunkBody pair body y → x ≡ y
  one_left (Yes evidence) x y p q = absurd p
  one_left (Listing list) x y p q = absurd p
  one_left (NoLasso lasso) x y (l, is, e) (l', is', e') = e ∙ ap NoLasso (shrunk_lasso_is_one pair.first pair.second lasso l l' is is') ∙ sym e'
  one_left (NoWord word) x y (w, is, e) (w', is', e') = e ∙ ap NoWord (shrunk_word_is_one pair.first pair.second word w w' is is') ∙ sym e'

  left_of_no : (body left : Body) → IsShrunkBody pair body left → IsNo body
  left_of_no (Yes evidence) left p = absurd p
  left_of_no (Listing list) left p = absurd p
  left_of_no (NoLasso lasso) left p = tt
  left_of_no (NoWord word) left p = tt

  -- what is said of it
  left_number : (m : Mode) (body left : Body) (puts : List Output) (r : Reply) → IsShrunkBody pair body left → IsVerdictReply m pair left puts r → status_number r.status ≡ 1
  left_number m (Yes evidence) left puts r p says = absurd p
  left_number m (Listing list) left puts r p says = absurd p
  left_number m (NoLasso lasso) left puts r (l, is, e) says = ap (λ z. status_number z.status) (subst (λ b. IsVerdictReply m pair b puts r) e says)
  left_number m (NoWord word) left puts r (w, is, e) says = ap (λ z. status_number z.status) (subst (λ b. IsVerdictReply m pair b puts r) e says)

  left_apart : (cert : Cert) (body left : Body) (puts : List Output) (r : Reply) (old new : SinkSeen) → IsShrunkBody pair body left → IsValid pair (shrunk_no cert left) → IsVerdictReply cert.mode pair left puts r →
      Sends r.text old new → SaysApart pair left old new
  left_apart cert (Yes evidence) left puts r old new p valid says sends = absurd p
  left_apart cert (Listing list) left puts r old new p valid says sends = absurd p
  left_apart cert (NoLasso lasso) left puts r old new (l, is, e) valid says sends =
      let says' = subst (λ b. IsVerdictReply cert.mode pair b puts r) e says in
      let valid' = subst (λ b. IsValid pair (shrunk_no cert b)) e valid in
      let all = valid'.keeps.1 in
      subst (λ b. SaysApart pair b old new) (sym e) ((all.1.1.0, all.1.1.1.0), sends ∙ ap (λ z. append_known old.sent z.text) says')
  left_apart cert (NoWord word) left puts r old new (w, is, e) valid says sends =
      let says' = subst (λ b. IsVerdictReply cert.mode pair b puts r) e says in
      let valid' = subst (λ b. IsValid pair (shrunk_no cert b)) e valid in
      let all = valid'.keeps.1 in
      subst (λ b. SaysApart pair b old new) (sym e) ((all.1.0, all.1.1.0), sends ∙ ap (λ z. append_known old.sent z.text) says')

  -- ---- one reply

  one_shrunk : (name : List ℕ) (cert : Cert) (r s : Reply) → IsShrinkReply name pair cert r → IsShrinkReply name pair cert s → r ≡ s
  one_shrunk name cert r s (inl (refusal, breaks, is)) (inl (other, breaks', is')) =
      is ∙ ap (λ z. only_said status.BadCertificate (refused_text z)) (one_rule pair cert refusal other breaks breaks') ∙ sym is'
  one_shrunk name cert r s (inl (refusal, breaks, is)) (inr (inl (keeps, not, is'))) = absurd (none_kept pair cert refusal breaks keeps)
  one_shrunk name cert r s (inl (refusal, breaks, is)) (inr (inr (keeps, left))) = absurd (none_kept pair cert refusal breaks keeps)
  one_shrunk name cert r s (inr (inl (keeps, not, is))) (inl (other, breaks, is')) = absurd (none_kept pair cert other breaks keeps)
  one_shrunk name cert r s (inr (inl (keeps, not, is))) (inr (inl (keeps', not', is'))) = is ∙ sym is'
  one_shrunk name cert r s (inr (inl (keeps, not, is))) (inr (inr (keeps', (left, shrunk, says)))) = absurd (not (left_of_no cert.body left shrunk))
  one_shrunk name cert r s (inr (inr (keeps, left))) (inl (other, breaks, is')) = absurd (none_kept pair cert other breaks keeps)
  one_shrunk name cert r s (inr (inr (keeps, (left, shrunk, says)))) (inr (inl (keeps', not, is'))) = absurd (not (left_of_no cert.body left shrunk))
  one_shrunk name cert r s (inr (inr (keeps, (left, shrunk, says)))) (inr (inr (keeps', (left', shrunk', says')))) =
      let same : left ≡ left' = one_left cert.body left left' shrunk shrunk' in
      let P : Body → Type 0 = λ b. IsVerdictReply cert.mode pair b (certificate_put name (shrunk_no cert b) ∷ []) r in
      one_verdict cert.mode pair left' (certificate_put name (shrunk_no cert left') ∷ []) r s (subst P same says) says'

  -- only what is left writes
  shrunk_writes : (name : List ℕ) (cert : Cert) (r : Reply) → IsShrinkReply name pair cert r → 3 ≤ status_number r.status → r.puts ≡ []
  shrunk_writes name cert r (inl (refusal, breaks, is)) high = ap (λ z. z.puts) is
  shrunk_writes name cert r (inr (inl (keeps, not, is))) high = ap (λ z. z.puts) is
  shrunk_writes name cert r (inr (inr (keeps, (left, shrunk, says)))) high = absurd (let one = left_number cert.mode cert.body left (certificate_put name (shrunk_no cert left) ∷ []) r shrunk says in omega arith)

  shrunk_number : (name : List ℕ) (cert : Cert) (r : Reply) → IsShrinkReply name pair cert r → (status_number r.status ≡ 1) ⊎ (status_number r.status ≡ 13) ⊎ (status_number r.status ≡ 5)
  shrunk_number name cert r (inl (refusal, breaks, is)) = inr (inr (ap (λ z. status_number z.status) is))
  shrunk_number name cert r (inr (inl (keeps, not, is))) = inr (inl (ap (λ z. status_number z.status) is))
  shrunk_number name cert r (inr (inr (keeps, (left, shrunk, says)))) = inl (left_number cert.mode cert.body left (certificate_put name (shrunk_no cert left) ∷ []) r shrunk says)

pub one_shrink : (name : List ℕ) (values : List Value) (r s : Reply) → MeansShrink name values r → MeansShrink name values s → r ≡ s
one_shrink name values r s (one, two, cert, is, (pair, joined, here)) (one', two', cert', is', (pair', joined', there)) =
    let all = sym is ∙ is' in
    let first : one ≡ one' = cc in
    let second : two ≡ two' = cc in
    let third : cert ≡ cert' = cc in
    let P : Named → Type 0 = λ z. IsJoined z two pair in
    let Q : Named → Type 0 = λ z. IsJoined one' z pair in
    let same : pair ≡ pair' = joins_as_one one' two' pair pair' (subst Q second (subst P first joined)) joined' in
    let C : Joined → Type 0 = λ z. IsShrinkReply name z cert r in
    let D : Cert → Type 0 = λ z. IsShrinkReply name pair' z r in
    one_shrunk pair' name cert' r s (subst D third (subst C same here)) there

pub shrink_writes : (name : List ℕ) (values : List Value) (r : Reply) → MeansShrink name values r → 3 ≤ status_number r.status → r.puts ≡ []
shrink_writes name values r (one, two, cert, is, (pair, joined, here)) high = shrunk_writes pair name cert r here high

pub shrink_asked : (name : List ℕ) (values : List Value) (r : Reply) → MeansShrink name values r → status_number r.status ≡ 3 → ⊥
shrink_asked name values r (one, two, cert, is, (pair, joined, here)) three = elim (shrunk_number pair name cert r here) [
  | inl e ↦ omega arith
  | inr more ↦ elim more [ inl e ↦ omega arith | inr e ↦ omega arith ]
]

-- ---- what it shows, and what it leaves

module _ (files : FileMap) (a b c out : List ℕ) where
  -- a reply that writes is that of what is left
  abbrev IsOfLeft : Reply → Type 0
  IsOfLeft r = (pair : Joined) × (cert : Cert) × (left : Body) × IsShrunkFor files a b c pair cert left × IsVerdictReply cert.mode pair left (certificate_put out (shrunk_no cert left) ∷ []) r

  shrink_cases : (values : List Value) (r : Reply) → ReadInTurn files (check_inputs a b c) values → MeansShrink out values r → IsOfLeft r ⊎ ((3 ≤ status_number r.status) × (r.puts ≡ []))
  shrink_cases values r reads (one, two, cert, is, (pair, joined, inl (refusal, breaks, e))) =
      let five = ap (λ z. status_number z.status) e in
      inr (omega arith, ap (λ z. z.puts) e)
  shrink_cases values r reads (one, two, cert, is, (pair, joined, inr (inl (keeps, not, e)))) =
      let thirteen = ap (λ z. status_number z.status) e in
      inr (omega arith, ap (λ z. z.puts) e)
  shrink_cases values r reads (one, two, cert, is, (pair, joined, inr (inr (keeps, (left, shrunk, says))))) =
      let (first, (second, (third, end))) = subst (ReadInTurn files (check_inputs a b c)) is reads in
      let formed = third.3.0 in
      inl (
        pair,
        cert,
        left,
        record {
          read = (one, two, first, second, joined);
          certificate = third;
          valid = record { formed = formed; keeps = keeps };
          shrunk = shrunk;
          left_valid = left_is_valid pair cert left formed keeps shrunk;
        },
        says,
      )

  module _ (call : Call) (files' : FileMap) (r : Reply) (number : status_number r.status ≡ call.status) (low : call.status ≤ 2) (left : files' ≡ filed files r.puts) (sends : Sends r.text call.before.sink call.after.sink) where
    pub shows_shrink : (values : List Value) → ReadInTurn files (check_inputs a b c) values → MeansShrink out values r → ShowsShrink a b c out call files files'
    shows_shrink values reads means = elim (shrink_cases values r reads means) [
      | inl of ↦
          let (pair, cert, body, is, says) = of in
          let put : Output = certificate_put out (shrunk_no cert body) in
          let one : call.status ≡ 1 = sym number ∙ left_number pair cert.mode cert.body body (put ∷ []) r is.shrunk says in
          record {
            shrunk = λ e. record {
              pair = pair;
              cert = cert;
              left = body;
              is_left = is;
              apart = left_apart pair cert cert.body body (put ∷ []) r call.before.sink call.after.sink is.shrunk is.left_valid says sends;
              held = left ∙ ap (filed files) (puts_of_verdict cert.mode pair body (put ∷ []) r says);
            };
            no_other = (λ e. omega arith, λ e. omega arith);
          }
      | inr other ↦ (let high = other.0 in absurd (omega arith))
    ]

  pub holds_shrunk : (files' : FileMap) (values : List Value) (r : Reply) → ReadInTurn files (check_inputs a b c) values → MeansShrink out values r → status_number r.status ≤ 2 → files' ≡ filed files r.puts → HoldsShrunk files a b c out files'
  holds_shrunk files' values r reads means low left = elim (shrink_cases values r reads means) [
    | inl of ↦
        let (pair, cert, body, is, says) = of in
        (pair, cert, body, is, left ∙ ap (filed files) (puts_of_verdict cert.mode pair body (certificate_put out (shrunk_no cert body) ∷ []) r says))
    | inr other ↦ (let high = other.0 in absurd (omega arith))
  ]

  pub holds_shrunk_front : (files' : FileMap) (values : List Value) (r : Reply) → ReadInTurn files (check_inputs a b c) values → MeansShrink out values r → IsCutShort files r.puts files' → HoldsShrunkFront files a b c out files'
  holds_shrunk_front files' values r reads means cut = elim (shrink_cases values r reads means) [
    | inl of ↦
        let (pair, cert, body, is, says) = of in
        let cut' = subst (λ ps. IsCutShort files ps files') (puts_of_verdict cert.mode pair body (certificate_put out (shrunk_no cert body) ∷ []) r says) cut in
        (pair, cert, body, is, cut')
    | inr other ↦ absurd (subst (λ ps. IsCutShort files ps files') other.1 cut)
  ]

  -- its status, for what the files hold
  status_reads : (values : List Value) (r : Reply) → ReadInTurn files (check_inputs a b c) values → MeansShrink out values r → (n : ℕ) → n ≡ status_number r.status → IsShrinkStatus files a b c n
  status_reads values r reads (one, two, cert, is, (pair, joined, inl (refusal, breaks, e))) n same =
      let reads' = subst (ReadInTurn files (check_inputs a b c)) is reads in
      inr (inr (
        λ (pair', cert', (one', two', first', second', joined'), certificate', valid', any).
            (let all = one_read_in_turn files (check_inputs a b c) (value.Automaton one ∷ value.Automaton two ∷ value.Certificate cert ∷ []) (value.Automaton one' ∷ value.Automaton two' ∷ value.Certificate cert' ∷ []) reads' (first', (second', (certificate', tt))) in
            let first : one' ≡ one = cc in
            let second : two' ≡ two = cc in
            let third : cert' ≡ cert = cc in
            let P : Named → Type 0 = λ z. IsJoined z two' pair' in
            let Q : Named → Type 0 = λ z. IsJoined one z pair' in
            let one_pair : pair' ≡ pair = joins_as_one one two pair' pair (subst Q second (subst P first joined')) joined in
            let K : Joined → Type 0 = λ z. KeepsRules z cert' in
            none_kept pair cert refusal breaks (subst (KeepsRules pair) third (subst K one_pair valid'.keeps))),
        same ∙ ap (λ z. status_number z.status) e,
      ))
  status_reads values r reads (one, two, cert, is, (pair, joined, inr (inl (keeps, not, e)))) n same =
      let (first, (second, (third, end))) = subst (ReadInTurn files (check_inputs a b c)) is reads in
      inr (inl ((pair, cert, (one, two, first, second, joined), third, record { formed = third.3.0; keeps = keeps }, not), same ∙ ap (λ z. status_number z.status) e))
  status_reads values r reads (one, two, cert, is, (pair, joined, inr (inr (keeps, (left, shrunk, says))))) n same =
      let (first, (second, (third, end))) = subst (ReadInTurn files (check_inputs a b c)) is reads in
      inl (
        (pair, cert, (one, two, first, second, joined), third, record { formed = third.3.0; keeps = keeps }, left_of_no pair cert.body left shrunk),
        same ∙ left_number pair cert.mode cert.body left (certificate_put out (shrunk_no cert left) ∷ []) r shrunk says,
      )

  pub shrink_status : (r : Reply) → (StopInTurn files (check_inputs a b c) r → status_number r.status ≡ 5) → IsReplyFor (request_with (check_inputs a b c) (MeansShrink out)) files r → (n : ℕ) → n ≡ status_number r.status → IsShrinkStatus files a b c n
  shrink_status r five right n same = elim right [
    | inl stop ↦
        inr (inr (
          λ (pair, cert, (one, two, first, second, joined), certificate, valid, any).
              stop_or_read_in_turn files (check_inputs a b c) r (value.Automaton one ∷ value.Automaton two ∷ value.Certificate cert ∷ []) stop (first, (second, (certificate, tt))),
          same ∙ five stop,
        ))
    | inr read ↦ (let (values, reads, means) = read in status_reads values r reads means n same)
  ]

module _ (call : Call) (a b c out : List ℕ) where
  pub leaves_shrink : (e : Ending) → EndsSo (request_with (check_inputs a b c) (MeansShrink out)) e call.before.shelf call.after.shelf → WasSaid e call.status call.before.sink call.after.sink → BeforeAndAfter call.before.shelf.files call.after.shelf.files (LeavesShrunk a b c out call)
  leaves_shrink e ends said =
      leaves_by_status (request_with (check_inputs a b c) (MeansShrink out)) call (λ before. HoldsShrunk before a b c out) (λ before. HoldsShrunkFront before a b c out) (shrink_writes out)
      (λ files files' values r reads means low left. holds_shrunk files a b c out files' values r reads means low left)
      (λ files files' values r reads means cut. holds_shrunk_front files a b c out files' values r reads means cut) e ends said
