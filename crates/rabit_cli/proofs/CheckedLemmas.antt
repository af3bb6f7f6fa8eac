-- What `empty` and `universal` leave is right for a check, what `upgrade` leaves for that of the certificate, and what `cross` leaves for `cross-check`.
use Rattle.std.proofs.Common.{◌≡◌, ◌↔◌, ℕ, ◌^◌, ◌≤◌, List, [], ◌∷◌, length, inl, inr, refl, sym, ◌∙◌, ap, subst, arith}
use Rattle.std.specs.Prelude.{All}
use Rattle.std.specs.FinMap as map
use Rattle.shelf_io.specs.Shelf.{FileMap}
use Rattle.auto_core.specs.declared.parts.Mode.{Mode}
use Rattle.ba_format.specs.declared.parts.Limits.{Limits}
use Rattle.ba_format.specs.declared.parts.Named.{Named}
use Rattle.ba_format.specs.declared.parts.Joined.{Joined}
use Rattle.ba_format.specs.Joining.{IsJoined}
use Rattle.ba_format.specs.Reading.{Reads}
use Rattle.ba_format.specs.Writing.{written}
use Rattle.ba_format.proofs.FaultlessLemmas.{read_is_within}
use Rattle.ba_format.proofs.LabelLemmas.{labels_fit}
use Rattle.cert_value.specs.declared.types.Cert.{Cert}
use Rattle.cert_value.specs.declared.types.Body.{Body}
use Rattle.cert_value.specs.declared.types.Body.TheVariants.{Yes, NoLasso, NoWord, Listing}
use Rattle.cert_value.specs.Text.{text}
use Rattle.cert_value.specs.WellFormed.{upgraded}
use Rattle.cert_value.proofs.UpgradeLemmas.{text_up}
use Rattle.cert_check.specs.Laws.{IsValid}
use Rattle.cert_check.proofs.RuleLemmas.{upgrade_alike}
use Rattle.cert_text.specs.CrossText.{cross_text}
use Rattle.cross_sim.proofs.WrittenLemmas.{greatest_cross_keeps_rules}
use Rattle.rabit_frame.specs.declared.parts.Value.TheVariants as value
use Rattle.rabit_frame.specs.declared.parts.Status.TheVariants as status
use Rattle.rabit_frame.specs.declared.parts.Reply.{Reply}
use Rattle.rabit_frame.specs.Files.{Output}
use Rattle.rabit_frame.specs.Request.{request_with}
use Rattle.rabit_frame.specs.Reading.{FileReads, ReadInTurn, only_said}
use Rattle.rabit_frame.specs.Statuses.{status_number}
use Rattle.rabit_frame.specs.Ending.{IsReplyFor, filed}
use Rattle.rabit_frame.proofs.EndLemmas.{stop_plain}
use Rattle.rabit_frame.proofs.OneLemmas.{one_read_in_turn, stop_or_read_in_turn}
use Rattle.rabit_words.specs.Question.{NamesDiffer}
use Rattle.rabit_frame.specs.Printed.{included_text, not_included_text, word_not_included_text, limit_text}
use Rattle.rabit_frame.specs.declared.files.TheConstants.{FIRST_LIMITS, SECOND_LIMITS}
use Rattle.rabit_frame.specs.FileKinds.{automaton_file, certificate_file, ReadsCertificate, pair_inputs, certificate_put}
use Rattle.rabit_frame.specs.Replies.{IsVerdictReply}
use Rattle.rabit_cli.specs.Property.{IsPropertyReply, property_puts}
use Rattle.rabit_cli.specs.Empty.{empty_text, emptiness}
use Rattle.rabit_cli.specs.Universal.{all_loops, universality}
use Rattle.rabit_cli.specs.Check.{check_inputs, Concludes, MeansCheck}
use Rattle.rabit_cli.specs.Upgrade.{upgrade_inputs}
use Rattle.rabit_cli.specs.Cross.{cross_put, cross_check_inputs, MeansCrossCheck}
use Rattle.rabit_cli.specs.Laws.{IsCheckReply, CheckAgreesOnUpgrade, UpgradeIsChecked, CrossIsChecked, CrossRelationsAreAccepted, EmptyIsChecked, UniversalIsChecked}
use Rattle.rabit_cli.proofs.EmptyLemmas.{empty_is_short}
use Rattle.rabit_cli.proofs.UniversalLemmas.{universal_is_short, universal_has_no_fault}
use Rattle.rabit_cli.proofs.LawLemmas.{written as put_there, other as put_elsewhere, reads_alike, stops_alike, reads_still}

-- ---- the verdict of a check, beside what was found

pub record Agrees (m : Mode) (pair : Joined) (body : Body) (r : Reply) : Type 0 where
  pub checked : Reply
  pub says : IsVerdictReply m pair body [] checked
  pub same : checked.status ≡ r.status

agrees : (m : Mode) (name : List ℕ) (pair : Joined) (body : Body) (puts : List Output) (r : Reply) → IsPropertyReply name pair body puts r → Agrees m pair body r
agrees m name pair (Yes b) puts r e = record { checked = only_said status.Done (included_text m); says = refl; same = sym (ap (λ z. z.status) e) }
agrees m name pair (NoLasso l) puts r e = record { checked = only_said status.Refuted (not_included_text pair.labels l); says = refl; same = sym (ap (λ z. z.status) e) }
agrees m name pair (NoWord w) puts r e = record { checked = only_said status.Refuted (word_not_included_text pair.labels w); says = refl; same = sym (ap (λ z. z.status) e) }
agrees m name pair (Listing l) puts r e = record { checked = only_said status.Limit (limit_text l.limit); says = refl; same = sym (ap (λ z. z.status) e) }

-- ---- the files that are left

module _ (files : FileMap) (a m c made : List ℕ) (cert : Cert) (apart : NamesDiffer a m c) where
  abbrev left : FileMap
  left = map.insert (map.insert files m made) c (text cert)

  read_one : (limits : Limits) (one : Named) (number : ℕ) → FileReads files (automaton_file 1 limits a) (value.Automaton one) → FileReads left (automaton_file number limits a) (value.Automaton one)
  read_one limits one number read =
      let (bytes, has, few, reads) =
      reads_still (map.insert files m made) c (text cert) (automaton_file 1 limits a) (value.Automaton one) (λ e. apart.1 (sym e))
      (reads_still files m made (automaton_file 1 limits a) (value.Automaton one) (λ e. apart.0 (sym e)) read) in
      (bytes, has, few, reads)

  read_made : (limits : Limits) (other : Named) (number : ℕ) → length made ≤ 2 ^ 24 → Reads made limits other → FileReads left (automaton_file number limits m) (value.Automaton other)
  read_made limits other number short reads = (made, put_elsewhere (map.insert files m made) c (text cert) m (λ e. apart.2 (sym e)) ∙ put_there files m made, short, reads)

  read_cert : (pair : Joined) → IsValid pair cert → length (text cert) ≤ 2 ^ 30 → ReadsCertificate left c cert
  read_cert pair valid short = (text cert, put_there (map.insert files m made) c (text cert), short, (valid.formed, refl))

pub empty_checked : EmptyIsChecked
empty_checked files a e c mode one other pair cert r apart is short says =
    let answer = agrees cert.mode emptiness.name pair cert.body (property_puts e empty_text c cert) r says in (
      answer.checked,
      inr (
        value.Automaton one ∷ value.Automaton other ∷ value.Certificate cert ∷ [],
        (read_one files a e c empty_text cert apart FIRST_LIMITS one 1 is.read, (read_made files a e c empty_text cert apart SECOND_LIMITS other 2 empty_is_short is.other_reads, (read_cert files a e c empty_text cert apart pair is.valid short, tt))),
        (one, other, cert, refl, (pair, is.joined, inr (is.valid.keeps, answer.says))),
      ),
      answer.same,
    )

pub universal_checked : UniversalIsChecked
universal_checked files a u c mode one other pair cert r apart is short says =
    let made = written (all_loops (length one.labels)) one.labels in
    let (bytes, has, few, read) = is.read in
    let within = read_is_within bytes SECOND_LIMITS one read in
    let fit = labels_fit bytes SECOND_LIMITS one read in
    let few_labels : length one.labels ≤ 256 = omega (arith, within.labels, within.labels_named) in
    let made_short = universal_is_short one.labels few_labels fit.0 in
    let made_reads : Reads made FIRST_LIMITS other = record { no_fault = universal_has_no_fault one.labels few_labels fit FIRST_LIMITS (omega arith) (omega arith) (omega arith); reading = is.other_reads.reading } in
    let answer = agrees cert.mode universality.name pair cert.body (property_puts u made c cert) r says in (
      answer.checked,
      inr (
        value.Automaton other ∷ value.Automaton one ∷ value.Certificate cert ∷ [],
        (read_made files a u c made cert apart FIRST_LIMITS other 1 made_short made_reads, (read_one files a u c made cert apart SECOND_LIMITS one 2 is.read, (read_cert files a u c made cert apart pair is.valid short, tt))),
        (other, one, cert, refl, (pair, is.joined, inr (is.valid.keeps, answer.says))),
      ),
      answer.same,
    )

-- ---- an upgrade

-- ---- a check of a certificate and of its upgrade

concludes_alike : (pair : Joined) (cert : Cert) (r : Reply) → Concludes pair cert r ↔ Concludes pair (upgraded cert) r
concludes_alike pair cert r =
    let alike = upgrade_alike pair cert in (
      λ says. elim says [
        | inl broken ↦ (let (refusal, breaks, e) = broken in inl (refusal, (alike.broken refusal).0 breaks, e))
        | inr valid ↦ inr (alike.kept.0 valid.0, valid.1)
      ],
      λ says. elim says [
        | inl broken ↦ (let (refusal, breaks, e) = broken in inl (refusal, (alike.broken refusal).1 breaks, e))
        | inr valid ↦ inr (alike.kept.1 valid.0, valid.1)
      ],
    )

-- the reply to a check of three values says that they are these
check_of : (one two : Named) (cert : Cert) (r : Reply) → MeansCheck (value.Automaton one ∷ value.Automaton two ∷ value.Certificate cert ∷ []) r → (pair : Joined) × IsJoined one two pair × Concludes pair cert r
check_of one two cert r (x, y, c, is, (pair, joined, says)) =
    let first : x ≡ one = let e = is in cc in
    let second : y ≡ two = let e = is in cc in
    let third : c ≡ cert = let e = is in cc in
    let P : Named → Type 0 = λ z. IsJoined z y pair in
    let Q : Named → Type 0 = λ z. IsJoined one z pair in
    let C : Cert → Type 0 = λ z. Concludes pair z r in
    (pair, subst Q second (subst P first joined), subst C third says)

pub agrees_on_upgrade : CheckAgreesOnUpgrade
agrees_on_upgrade one two cert r = (
  λ means. let (pair, joined, says) = check_of one two cert r means in (one, two, upgraded cert, refl, (pair, joined, (concludes_alike pair cert r).0 says)),
  λ means. let (pair, joined, says) = check_of one two (upgraded cert) r means in (one, two, cert, refl, (pair, joined, (concludes_alike pair cert r).1 says)),
)

-- where the automata's files hold the same, and the two certificates are checked alike, a check says the same
check_over : (files files' : FileMap) (a b c c' : List ℕ) (cert cert' : Cert) → map.get files' a ≡ map.get files a → map.get files' b ≡ map.get files b → ReadsCertificate files c cert → ReadsCertificate files' c' cert'
    → ((one two : Named) (s : Reply) → MeansCheck (value.Automaton one ∷ value.Automaton two ∷ value.Certificate cert ∷ []) s → MeansCheck (value.Automaton one ∷ value.Automaton two ∷ value.Certificate cert' ∷ []) s)
    → (s : Reply) → IsCheckReply files a b c s → IsCheckReply files' a b c' s
check_over files files' a b c c' cert cert' same_a same_b reads reads' alike s right = elim right [
  | inl stop ↦ elim stop [
    | inl first ↦ inl (inl (stops_alike files files' (automaton_file 1 FIRST_LIMITS a) s same_a first))
    | inr (v, read, later) ↦ elim later [
      | inl second ↦ inl (inr (v, reads_alike files files' (automaton_file 1 FIRST_LIMITS a) v same_a read, inl (stops_alike files files' (automaton_file 2 SECOND_LIMITS b) s same_b second)))
      | inr (w, read', last) ↦ absurd (stop_or_read_in_turn files (certificate_file c ∷ []) s (value.Certificate cert ∷ []) last (reads, tt))
    ]
  ]
  | inr (values, in_turn, (one, two, found, is, (pair, joined, says))) ↦
      let (first, (second, (third, end))) = subst (ReadInTurn files (check_inputs a b c)) is in_turn in
      let all = one_read_in_turn files (certificate_file c ∷ []) (value.Certificate found ∷ []) (value.Certificate cert ∷ []) (third, tt) (reads, tt) in
      let same : found ≡ cert = cc in
      inr (
        value.Automaton one ∷ value.Automaton two ∷ value.Certificate cert' ∷ [],
        (reads_alike files files' (automaton_file 1 FIRST_LIMITS a) (value.Automaton one) same_a first, (reads_alike files files' (automaton_file 2 SECOND_LIMITS b) (value.Automaton two) same_b second, (reads', tt))),
        alike one two s (one, two, cert, refl, (pair, joined, subst (λ z. Concludes pair z s) same says)),
      )
]

pub upgrade_checked : UpgradeIsChecked
upgrade_checked files a b c out r s not_a not_b right zero short = elim right [
  | inl stop ↦ let high = (stop_plain files (upgrade_inputs c) r stop).0 in absurd (omega (arith, high, zero))
  | inr (values, in_turn, (cert, is, e)) ↦
      let (reads, end) = subst (ReadInTurn files (upgrade_inputs c)) is in_turn in
      let puts : r.puts ≡ certificate_put out (upgraded cert) ∷ [] = ap (λ z. z.puts) e in
      let few : length (text (upgraded cert)) ≤ 2 ^ 30 = subst (All (λ (put : Output). length put.bytes ≤ 2 ^ 30)) puts short 0 (certificate_put out (upgraded cert)) (omega arith) in
      let after : FileMap = map.insert files out (text (upgraded cert)) in
      let same_a = put_elsewhere files out (text (upgraded cert)) a not_a in
      let same_b = put_elsewhere files out (text (upgraded cert)) b not_b in
      let reads' : ReadsCertificate after out (upgraded cert) = (text (upgraded cert), put_there files out (text (upgraded cert)), few, (text_up cert reads.3.0, refl)) in
      subst (λ ps. IsCheckReply files a b c s ↔ IsCheckReply (filed files ps) a b out s) (sym puts) (
        check_over files after a b c out cert (upgraded cert) same_a same_b reads reads' (λ one two t. (agrees_on_upgrade one two cert t).0) s,
        check_over after files a b out c (upgraded cert) cert (sym same_a) (sym same_b) reads' reads (λ one two t. (agrees_on_upgrade one two cert t).1) s,
      )
]

-- ---- a cross relation

pub cross_checked : CrossIsChecked
cross_checked files a b out look r not_a not_b from upto right zero short = elim right [
  | inl stop ↦ let high = (stop_plain files (pair_inputs a b) r stop).0 in absurd (omega (arith, high, zero))
  | inr (values, in_turn, (one, two, is, (pair, joined, (cross, of, says)))) ↦ elim says [
    | inr (lacks, e) ↦ absurd (let ten = ap (λ z. status_number z.status) e in omega arith)
    | inl (has, e) ↦
        let (first, (second, end)) = subst (ReadInTurn files (pair_inputs a b)) is in_turn in
        let few : length (cross_text cross) ≤ 2 ^ 30 = subst (All (λ (put : Output). length put.bytes ≤ 2 ^ 30)) (ap (λ z. z.puts) e) short 0 (cross_put out cross) (omega arith) in
        subst (λ z. IsReplyFor (request_with (cross_check_inputs a b out) MeansCrossCheck) (filed files z.puts) (only_said z.status z.text)) (sym e)
        (inr (
          value.Automaton one ∷ value.Automaton two ∷ value.Cross cross ∷ [],
          (
            reads_still files out (cross_text cross) (automaton_file 1 FIRST_LIMITS a) (value.Automaton one) not_a first,
            (
              reads_still files out (cross_text cross) (automaton_file 2 SECOND_LIMITS b) (value.Automaton two) not_b second,
              ((cross_text cross, put_there files out (cross_text cross), few, (of.formed, refl)), tt),
            ),
          ),
          (one, two, cross, refl, (pair, joined, inr (greatest_cross_keeps_rules pair look cross from upto of has, refl))),
        ))
  ]
]

pub cross_relations_accepted : CrossRelationsAreAccepted
cross_relations_accepted files a b f look pair cross from upto (read, of, has) held =
    let (one, two, first, second, joined) = read in
    inr (
      value.Automaton one ∷ value.Automaton two ∷ value.Cross cross ∷ [],
      (first, (second, (held, tt))),
      (one, two, cross, refl, (pair, joined, inr (greatest_cross_keeps_rules pair look cross from upto of has, refl))),
    )
