-- What a check says of what a decision wrote.
use Rattle.std.proofs.Common.{◌≡◌, ◌≤◌, ◌^◌, ℕ, List, [], ◌∷◌, length, arith, cond, Some, inl, inr, refl, sym, ◌∙◌, ap, subst}
use Rattle.std.specs.Prelude.{All}
use Rattle.std.proofs.lemmas.Bool.{false_from_ne_true}
use Rattle.std.proofs.lemmas.Cmp.{nat_list_cmp_total}
use Rattle.std.proofs.lemmas.Map.Text.{is_eq-slice_cmp}
use Rattle.std.proofs.lemmas.Slice.Eq.{bytes_eq-Decides}
use Rattle.std.specs.FinMap as map
use Rattle.std.specs.FinMap.{get-insert}
use Rattle.std.specs.Str.{bytes_eq}
use Rattle.shelf_io.specs.Shelf.{FileMap}
use Rattle.ba_format.specs.declared.parts.Named.{Named}
use Rattle.ba_format.specs.declared.parts.Joined.{Joined}
use Rattle.ba_format.specs.Joining.{IsJoined}
use Rattle.ba_format.proofs.LawLemmas.{joins_as_one}
use Rattle.cert_value.specs.declared.types.Cert.{Cert}
use Rattle.cert_value.specs.declared.types.Body.{Body}
use Rattle.cert_value.specs.declared.types.Body.TheVariants.{Yes, NoLasso, NoWord, Listing}
use Rattle.cert_value.specs.Text.{text}
use Rattle.auto_core.specs.declared.parts.Mode.{Mode}
use Rattle.decide.specs.declared.terms.Terms.{Terms}
use Rattle.decide.specs.Answer.{IsAnswer}
use Rattle.decide.proofs.UniqueLemmas.{one_answer}
use Rattle.rabit_frame.specs.declared.parts.Value.{Value}
use Rattle.rabit_frame.specs.declared.parts.Value.TheVariants as value
use Rattle.rabit_frame.specs.declared.parts.Reply.{Reply}
use Rattle.rabit_frame.specs.Files.{Input, Output}
use Rattle.rabit_frame.specs.Reading.{only_said, FileReads, FileStops}
use Rattle.rabit_frame.specs.declared.files.TheConstants.{FIRST_LIMITS, SECOND_LIMITS}
use Rattle.rabit_frame.specs.FileKinds.{automaton_file, pair_inputs, certificate_put}
use Rattle.rabit_frame.proofs.OneLemmas.{one_read_in_turn, stop_or_read_in_turn}
use Rattle.rabit_frame.specs.Replies.{IsVerdictReply}
use Rattle.rabit_cli.specs.Laws.{IsCheckReply, CheckAgrees, IncludeIsChecked, AnswersAreAccepted}
use Rattle.rabit_cli.proofs.IncludeLemmas.{cert_for, reads_cert}
use Rattle.rabit_frame.proofs.VerdictLemmas.{puts_of_verdict}
use Rattle.rabit_frame.specs.Ending.{filed}
use Rattle.rabit_frame.proofs.EndLemmas.{stop_plain}

-- what a file is read as goes by its bytes
pub reads_alike : (files files' : FileMap) (input : Input) (v : Value) → map.get files' input.name ≡ map.get files input.name → FileReads files input v → FileReads files' input v
reads_alike files files' input v same (b, has, few, reads) = (b, same ∙ has, few, reads)

pub stops_alike : (files files' : FileMap) (input : Input) (r : Reply) → map.get files' input.name ≡ map.get files input.name → FileStops files input r → FileStops files' input r
stops_alike files files' input r same (b, has, why) = (b, same ∙ has, why)

-- what the written name holds, and what the others do
module _ (files : FileMap) (c bytes : List ℕ) where
  found : (name : List ℕ) → map.get (map.insert files c bytes) name ≡ cond (bytes_eq name c) (Some bytes) (map.get files name)
  found name = get-insert nat_list_cmp_total files c bytes name ∙ ap (λ b. cond b (Some bytes) (map.get files name)) (is_eq-slice_cmp name c)

  pub written : map.get (map.insert files c bytes) c ≡ Some bytes
  written = found c ∙ ap (λ b. cond b (Some bytes) (map.get files c)) ((bytes_eq-Decides c c).1 refl)

  pub other : (name : List ℕ) → (c ≡ name → ⊥) → map.get (map.insert files c bytes) name ≡ map.get files name
  other name differ =
      found name
      ∙ ap (λ b. cond b (Some bytes) (map.get files name)) (false_from_ne_true (bytes_eq name c) (λ t. differ (sym ((bytes_eq-Decides name c).0 t))))

  pub reads_still : (input : Input) (v : Value) → (c ≡ input.name → ⊥) → FileReads files input v → FileReads (map.insert files c bytes) input v
  reads_still input v differ = reads_alike files (map.insert files c bytes) input v (other input.name differ)

-- the verdict without the files that are written
said_alone : (m : Mode) (pair : Joined) (body : Body) (puts : List Output) (r : Reply) → IsVerdictReply m pair body puts r → IsVerdictReply m pair body [] (only_said r.status r.text)
said_alone m pair (Yes y) puts r e = ap (λ z. only_said z.status z.text) e
said_alone m pair (NoLasso l) puts r e = ap (λ z. only_said z.status z.text) e
said_alone m pair (NoWord w) puts r e = ap (λ z. only_said z.status z.text) e
said_alone m pair (Listing l) puts r e = ap (λ z. only_said z.status z.text) e

-- an answer has the mode of the terms
mode_of : {pair : Joined} {terms : Terms} {cert : Cert} → IsAnswer pair terms cert → cert.mode ≡ terms.mode
mode_of (at, ends, answer) = answer.mode

pub check_agrees : CheckAgrees
check_agrees files a b c terms pair cert r not_a not_b bounds read answer few right =
    let is = cert_for files a b c terms bounds pair cert read answer in
    let (one, two, first, second, joined) = read in
    let values : List Value = value.Automaton one ∷ value.Automaton two ∷ [] in
    let says : IsVerdictReply terms.mode pair cert.body (certificate_put c cert ∷ []) r =
    elim right [
      | inl stop ↦ absurd (stop_or_read_in_turn files (pair_inputs a b) r values stop (first, (second, tt)))
      | inr (values', reads', (one', two', is', (pair', joined', (cert', answer', says')))) ↦
          let all = one_read_in_turn files (pair_inputs a b) values values' (first, (second, tt)) reads' ∙ is' in
          let same_one : one ≡ one' = cc in
          let same_two : two ≡ two' = cc in
          let P : Named → Type 0 = λ z. IsJoined z two pair in
          let Q : Named → Type 0 = λ z. IsJoined one' z pair in
          let same : pair' ≡ pair = sym (joins_as_one one' two' pair pair' (subst Q same_two (subst P same_one joined)) joined') in
          let A : Joined → Type 0 = λ z. IsAnswer z terms cert' in
          let same_cert : cert' ≡ cert = one_answer pair terms cert' cert joined.first.valid joined.second.valid bounds.look_from (subst A same answer') is.answer in
          let C : Joined → Type 0 = λ z. IsVerdictReply terms.mode z cert'.body (certificate_put c cert' ∷ []) r in
          let D : Cert → Type 0 = λ z. IsVerdictReply terms.mode pair z.body (certificate_put c z ∷ []) r in
          subst D same_cert (subst C same says')
    ] in
    inr (
      value.Automaton one ∷ value.Automaton two ∷ value.Certificate cert ∷ [],
      (reads_still files c (text cert) (automaton_file 1 FIRST_LIMITS a) (value.Automaton one) not_a first, (reads_still files c (text cert) (automaton_file 2 SECOND_LIMITS b) (value.Automaton two) not_b second, ((text cert, written files c (text cert), few, (is.formed, refl)), tt))),
      (one, two, cert, refl, (pair, joined, inr (is.valid.keeps, said_alone cert.mode pair cert.body (certificate_put c cert ∷ []) r (subst (λ m. IsVerdictReply m pair cert.body (certificate_put c cert ∷ []) r) (sym (mode_of is.answer)) says)))),
    )

pub include_checked : IncludeIsChecked
include_checked files a b c terms r not_a not_b bounds right low short =
    elim right [
      | inl stop ↦ let high = (stop_plain files (pair_inputs a b) r stop).0 in absurd (omega (arith, high, low))
      | inr (values, reads, means) ↦
          let (pair, cert, is, says) = reads_cert files a b c terms bounds values r reads means in
          let puts : r.puts ≡ certificate_put c cert ∷ [] = puts_of_verdict terms.mode pair cert.body (certificate_put c cert ∷ []) r says in
          let S : List Output → Type 0 = All (λ (put : Output). length put.bytes ≤ 2 ^ 30) in
          let few : length (text cert) ≤ 2 ^ 30 = subst S puts short 0 (certificate_put c cert) (omega arith) in
          let C : List Output → Type 0 = λ ps. IsCheckReply (filed files ps) a b c (only_said r.status r.text) in
          subst C (sym puts) (check_agrees files a b c terms pair cert r not_a not_b bounds is.read is.answer few (inr (values, reads, means)))
    ]

pub answers_accepted : AnswersAreAccepted
answers_accepted files a b c terms pair cert r bounds read answer held says =
    let is = cert_for files a b c terms bounds pair cert read answer in
    let (one, two, first, second, joined) = read in
    inr (
      value.Automaton one ∷ value.Automaton two ∷ value.Certificate cert ∷ [],
      (first, (second, (held, tt))),
      (one, two, cert, refl, (pair, joined, inr (is.valid.keeps, says))),
    )
