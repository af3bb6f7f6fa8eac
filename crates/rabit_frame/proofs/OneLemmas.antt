-- Bytes read as one value, or have one fault.
use Rattle.std.proofs.Common.{◌≡◌, ℕ, List, [], ◌∷◌, length, Option, Some, None, Result, Ok, Err, inl, inr, sym, ◌∙◌, ap, ap₂, subst, arith, refl}
use Rattle.shelf_io.specs.Shelf.{FileMap}
use Rattle.ba_format.proofs.LawLemmas.{reads_as_one}
use Rattle.ba_format.proofs.FaultlessLemmas.{read_is_within}
use Rattle.ba_format.proofs.LabelLemmas.{labels_fit}
use Rattle.ba_format.specs.KindNames.{kind_name}
use Rattle.cert_line.specs.KindNames.{text_kind_name}
use Rattle.cert_text.specs.Grammar.{reading}
use Rattle.cert_text.proofs.Theorem.{reading_text}
use Rattle.cert_text.specs.CrossGrammar.{cross_reading}
use Rattle.cert_text.proofs.CrossTextLemmas.{reading_text as reading_cross}
use Rattle.equal_batch.proofs.ListLemmas.{list_is_one, list_has_no_bad_line}
use Rattle.rabit_frame.specs.declared.parts.FileKind.{FileKind}
use Rattle.rabit_frame.specs.declared.parts.FileKind.TheVariants as kind
use Rattle.rabit_frame.specs.declared.parts.Value.{Value}
use Rattle.rabit_frame.specs.declared.parts.Value.TheVariants as value
use Rattle.rabit_frame.specs.declared.parts.Status.TheVariants as status
use Rattle.rabit_frame.specs.declared.parts.Reply.{Reply}
use Rattle.rabit_frame.specs.Files.{Input}
use Rattle.rabit_frame.specs.Request.{Request, HasOneReply}
use Rattle.rabit_frame.specs.Ending.{IsReplyFor}
use Rattle.rabit_frame.specs.Lines.{file_line, certificate_line, list_line}
use Rattle.rabit_frame.specs.Reading.{only_said, FileReads, FileStops, ReadsAs, HasFault, IsOfKind, ReadInTurn, AreOfKinds, StopInTurn}

same_some : {X : Type 0} (a b : X) (o : Option X) → o ≡ Some a → o ≡ Some b → a ≡ b
same_some a b o p q = cc

none_some : {X : Type 0} (a : X) (o : Option X) → o ≡ None → o ≡ Some a → ⊥
none_some a o p q = cc

same_ok : {X E : Type 0} (a b : X) (r : Result X E) → r ≡ Ok a → r ≡ Ok b → a ≡ b
same_ok a b r p q = cc

same_error : {X E : Type 0} (a b : E) (r : Result X E) → r ≡ Err a → r ≡ Err b → a ≡ b
same_error a b r p q = cc

ok_error : {X E : Type 0} (a : X) (b : E) (r : Result X E) → r ≡ Ok a → r ≡ Err b → ⊥
ok_error a b r p q = cc

-- one row a kind of file
one_value : (k : FileKind) (bytes : List ℕ) (v w : Value) → ReadsAs k bytes v → ReadsAs k bytes w → v ≡ w
one_value (kind.Automaton n l) bytes (value.Automaton x) (value.Automaton y) p q = ap (λ z. value.Automaton z) (reads_as_one bytes l x y p q)
one_value (kind.Automaton n l) bytes (value.Automaton x) (value.Certificate d) p q = absurd q
one_value (kind.Automaton n l) bytes (value.Automaton x) (value.Questions e) p q = absurd q
one_value (kind.Automaton n l) bytes (value.Automaton x) (value.Cross e) p q = absurd q
one_value (kind.Automaton n l) bytes (value.Certificate c) w p q = absurd p
one_value (kind.Automaton n l) bytes (value.Questions e) w p q = absurd p
one_value (kind.Automaton n l) bytes (value.Cross e) w p q = absurd p
one_value (kind.Certificate) bytes (value.Certificate c) (value.Certificate d) p q =
    ap (λ z. value.Certificate z) (same_ok c d (reading bytes) (ap reading p.1 ∙ reading_text c p.0) (ap reading q.1 ∙ reading_text d q.0))
one_value (kind.Certificate) bytes (value.Certificate c) (value.Automaton y) p q = absurd q
one_value (kind.Certificate) bytes (value.Certificate c) (value.Questions e) p q = absurd q
one_value (kind.Certificate) bytes (value.Certificate c) (value.Cross e) p q = absurd q
one_value (kind.Certificate) bytes (value.Automaton x) w p q = absurd p
one_value (kind.Certificate) bytes (value.Questions e) w p q = absurd p
one_value (kind.Certificate) bytes (value.Cross e) w p q = absurd p
one_value (kind.Cross) bytes (value.Cross c) (value.Cross d) p q =
    ap (λ z. value.Cross z) (same_ok c d (cross_reading bytes) (ap cross_reading p.1 ∙ reading_cross c p.0) (ap cross_reading q.1 ∙ reading_cross d q.0))
one_value (kind.Cross) bytes (value.Cross c) (value.Automaton y) p q = absurd q
one_value (kind.Cross) bytes (value.Cross c) (value.Certificate d) p q = absurd q
one_value (kind.Cross) bytes (value.Cross c) (value.Questions e) p q = absurd q
one_value (kind.Cross) bytes (value.Automaton x) w p q = absurd p
one_value (kind.Cross) bytes (value.Certificate c) w p q = absurd p
one_value (kind.Cross) bytes (value.Questions e) w p q = absurd p
one_value (kind.Questions) bytes (value.Questions e) (value.Questions f) p q = ap (λ z. value.Questions z) (list_is_one e f bytes p q)
one_value (kind.Questions) bytes (value.Questions e) (value.Automaton y) p q = absurd q
one_value (kind.Questions) bytes (value.Questions e) (value.Certificate d) p q = absurd q
one_value (kind.Questions) bytes (value.Questions e) (value.Cross c) p q = absurd q
one_value (kind.Questions) bytes (value.Automaton x) w p q = absurd p
one_value (kind.Questions) bytes (value.Certificate c) w p q = absurd p
one_value (kind.Questions) bytes (value.Cross c) w p q = absurd p

one_fault : (k : FileKind) (bytes : List ℕ) (r s : Reply) → HasFault k bytes r → HasFault k bytes s → r ≡ s
one_fault (kind.Automaton n l) bytes r s (f, is, e) (g, is', e') =
    e ∙ ap (λ z. only_said status.BadFile (file_line n z.line (kind_name z.kind))) (same_some f g _ is is') ∙ sym e'
one_fault (kind.Certificate) bytes r s (f, is, e) (g, is', e') =
    e ∙ ap (λ z. only_said status.BadCertificate (certificate_line z.line (text_kind_name z.kind))) (same_error f g _ is is') ∙ sym e'
one_fault (kind.Cross) bytes r s (f, is, e) (g, is', e') =
    e ∙ ap (λ z. only_said status.BadCertificate (certificate_line z.line (text_kind_name z.kind))) (same_error f g _ is is') ∙ sym e'
one_fault (kind.Questions) bytes r s (l, is, e) (m, is', e') = e ∙ ap (λ z. only_said status.BadList (list_line z)) (same_some l m _ is is') ∙ sym e'

fault_or_value : (k : FileKind) (bytes : List ℕ) (r : Reply) (v : Value) → HasFault k bytes r → ReadsAs k bytes v → ⊥
fault_or_value (kind.Automaton n l) bytes r (value.Automaton x) (f, is, e) q = none_some f _ q.no_fault is
fault_or_value (kind.Automaton n l) bytes r (value.Certificate c) p q = q
fault_or_value (kind.Automaton n l) bytes r (value.Questions e) p q = q
fault_or_value (kind.Automaton n l) bytes r (value.Cross e) p q = q
fault_or_value (kind.Certificate) bytes r (value.Certificate c) (f, is, e) q = ok_error c f _ (ap reading q.1 ∙ reading_text c q.0) is
fault_or_value (kind.Certificate) bytes r (value.Automaton x) p q = q
fault_or_value (kind.Certificate) bytes r (value.Questions e) p q = q
fault_or_value (kind.Certificate) bytes r (value.Cross e) p q = q
fault_or_value (kind.Cross) bytes r (value.Cross c) (f, is, e) q = ok_error c f _ (ap cross_reading q.1 ∙ reading_cross c q.0) is
fault_or_value (kind.Cross) bytes r (value.Automaton x) p q = q
fault_or_value (kind.Cross) bytes r (value.Certificate c) p q = q
fault_or_value (kind.Cross) bytes r (value.Questions e) p q = q
fault_or_value (kind.Questions) bytes r (value.Questions e) (l, is, said) q = none_some l _ (list_has_no_bad_line e bytes q) is
fault_or_value (kind.Questions) bytes r (value.Automaton x) p q = q
fault_or_value (kind.Questions) bytes r (value.Certificate c) p q = q
fault_or_value (kind.Questions) bytes r (value.Cross c) p q = q

pub kind_of_read : (k : FileKind) (bytes : List ℕ) (v : Value) → ReadsAs k bytes v → IsOfKind k v
kind_of_read (kind.Automaton n l) bytes (value.Automaton x) p = (read_is_within bytes l x p, p.reading.auto.valid, labels_fit bytes l x p)
kind_of_read (kind.Automaton n l) bytes (value.Certificate c) p = absurd p
kind_of_read (kind.Automaton n l) bytes (value.Questions e) p = absurd p
kind_of_read (kind.Automaton n l) bytes (value.Cross e) p = absurd p
kind_of_read (kind.Certificate) bytes (value.Certificate c) p = p.0
kind_of_read (kind.Certificate) bytes (value.Automaton x) p = absurd p
kind_of_read (kind.Certificate) bytes (value.Questions e) p = absurd p
kind_of_read (kind.Certificate) bytes (value.Cross e) p = absurd p
kind_of_read (kind.Cross) bytes (value.Cross c) p = p.0
kind_of_read (kind.Cross) bytes (value.Automaton x) p = absurd p
kind_of_read (kind.Cross) bytes (value.Certificate c) p = absurd p
kind_of_read (kind.Cross) bytes (value.Questions e) p = absurd p
kind_of_read (kind.Questions) bytes (value.Questions e) p = (bytes, p)
kind_of_read (kind.Questions) bytes (value.Automaton x) p = absurd p
kind_of_read (kind.Questions) bytes (value.Certificate c) p = absurd p
kind_of_read (kind.Questions) bytes (value.Cross c) p = absurd p

module _ (files : FileMap) where
  one_read : (i : Input) (v w : Value) → FileReads files i v → FileReads files i w → v ≡ w
  one_read i v w (a, held, few, reads) (b, held', few', reads') =
      let P : List ℕ → Type 0 = λ t. ReadsAs i.kind t v in
      one_value i.kind b v w (subst P (same_some a b _ held held') reads) reads'

  one_stop : (i : Input) (r s : Reply) → FileStops files i r → FileStops files i s → r ≡ s
  one_stop i r s (a, held, why) (b, held', why') =
      let e = same_some a b _ held held' in
      let len : length a ≡ length b = ap length e in
      elim why [
        | inl long ↦ elim why' [ inl long' ↦ long.1 ∙ sym long'.1 | inr bad ↦ (let p = long.0 in let q = bad.0 in absurd (omega arith)) ]
        | inr bad ↦
            elim why' [
              | inl long ↦ (let p = long.0 in let q = bad.0 in absurd (omega arith))
              | inr bad' ↦
                  let P : List ℕ → Type 0 = λ t. HasFault i.kind t r in
                  one_fault i.kind b r s (subst P e bad.1) bad'.1
            ]
      ]

  stop_or_read : (i : Input) (r : Reply) (v : Value) → FileStops files i r → FileReads files i v → ⊥
  stop_or_read i r v (a, held, why) (b, held', few, reads) =
      let e = same_some a b _ held held' in
      let len : length a ≡ length b = ap length e in
      elim why [
        | inl long ↦ (let p = long.0 in omega arith)
        | inr bad ↦ (let P : List ℕ → Type 0 = λ t. HasFault i.kind t r in fault_or_value i.kind b r v (subst P e bad.1) reads)
      ]

  pub one_read_in_turn : (is : List Input) (vs ws : List Value) → ReadInTurn files is vs → ReadInTurn files is ws → vs ≡ ws
  one_read_in_turn [] [] [] p q = refl
  one_read_in_turn [] [] (w ∷ ws) p q = absurd q
  one_read_in_turn [] (v ∷ vs) ws p q = absurd p
  one_read_in_turn (i ∷ is) [] ws p q = absurd p
  one_read_in_turn (i ∷ is) (v ∷ vs) [] p q = absurd q
  one_read_in_turn (i ∷ is) (v ∷ vs) (w ∷ ws) p q = ap₂ (λ x xs. x ∷ xs) (one_read i v w p.0 q.0) (one_read_in_turn is vs ws p.1 q.1)

  one_stop_in_turn : (is : List Input) (r s : Reply) → StopInTurn files is r → StopInTurn files is s → r ≡ s
  one_stop_in_turn [] r s p q = absurd p
  one_stop_in_turn (i ∷ is) r s p q =
      elim p [
        | inl here ↦ elim q [ inl here' ↦ one_stop i r s here here' | inr (v, reads, later) ↦ absurd (stop_or_read i r v here reads) ]
        | inr (v, reads, later) ↦
            elim q [ inl here ↦ absurd (stop_or_read i s v here reads) | inr (w, reads', later') ↦ one_stop_in_turn is r s later later' ]
      ]

  pub stop_or_read_in_turn : (is : List Input) (r : Reply) (vs : List Value) → StopInTurn files is r → ReadInTurn files is vs → ⊥
  stop_or_read_in_turn [] r vs p q = p
  stop_or_read_in_turn (i ∷ is) r [] p q = q
  stop_or_read_in_turn (i ∷ is) r (v ∷ vs) p q =
      elim p [ inl here ↦ stop_or_read i r v here q.0 | inr (w, reads, later) ↦ stop_or_read_in_turn is r vs later q.1 ]

  pub kinds_of_read : (is : List Input) (vs : List Value) → ReadInTurn files is vs → AreOfKinds is vs
  kinds_of_read [] [] p = tt
  kinds_of_read [] (v ∷ vs) p = absurd p
  kinds_of_read (i ∷ is) [] p = absurd p
  kinds_of_read (i ∷ is) (v ∷ vs) p = (kind_of_read i.kind p.0.0 v p.0.3, kinds_of_read is vs p.1)

  -- one reply is right, where one is to each list of values
  pub one_reply : (q : Request) → HasOneReply q → (r s : Reply) → IsReplyFor q files r → IsReplyFor q files s → r ≡ s
  one_reply q one r s p p' =
      let is = q.inputs in
      elim p [
        | inl stop ↦ elim p' [ inl stop' ↦ one_stop_in_turn is r s stop stop' | inr (ws, reads, m) ↦ absurd (stop_or_read_in_turn is r ws stop reads) ]
        | inr (vs, reads, m) ↦
            elim p' [
              | inl stop ↦ absurd (stop_or_read_in_turn is s vs stop reads)
              | inr (ws, reads', m') ↦
                  let P : List Value → Type 0 = λ z. q.means z r in
                  one ws r s (kinds_of_read is ws reads') (subst P (one_read_in_turn is vs ws reads reads') m) m'
            ]
      ]
