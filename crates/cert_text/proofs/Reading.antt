-- What a reader of texts tells, whatever the texts are of.
use Rattle.std.proofs.Common.{◌≡◌, ℕ, ◌+◌, ◌-◌, List, length, Result, Ok, Err, refl, ap, ◌∙◌, subst, inl, inr, ◌⊎◌, IfOk, arith}
use Rattle.cert_text.specs.declared.faults.CertReadFault.{CertReadFault}
use Rattle.cert_text.specs.declared.faults.CertReadFault.TheVariants.{Text, Memory}
use Rattle.cert_line.specs.declared.faults.TextKind.{TextKind}
use Rattle.cert_text.specs.declared.faults.TextFault.{TextFault}
use Rattle.cert_value.specs.Text.{Line}
use Rattle.cert_text.specs.Told.{Told}
use Rattle.cert_text.specs.Grammar.{LinesOutcome, Read, Stopped, lines_of, reading_by, told_at, line_left}

-- A reader that stops so tells this fault.
pub stopped_by : {C : Type 0} (read : List Line → LinesOutcome C) (bytes : List ℕ) (fault : TextKind) (here : List Line) (n : ℕ)
    → read (lines_of bytes) ≡ Stopped fault here
    → n + length here ≡ length (lines_of bytes) + 1
    → reading_by read bytes ≡ Err (record { line = n; kind = fault })
stopped_by {C = C} read bytes fault here n e k =
    let L = lines_of bytes in
    let f : LinesOutcome C → Result C TextFault = λ o. told_at (line_left L o) o in
    let g : ℕ → Result C TextFault = λ m. Err (record { line = m; kind = fault }) in
    let m : (length L + 1) - length here ≡ n = omega arith in
    ap f e ∙ ap g m

-- A reader that reads to the end tells what it read.
pub read_by : {C : Type 0} (read : List Line → LinesOutcome C) (bytes : List ℕ) (c : C) → read (lines_of bytes) ≡ Read c → reading_by read bytes ≡ Ok c
read_by {C = C} read bytes c e =
    let L = lines_of bytes in
    let f : LinesOutcome C → Result C TextFault = λ o. told_at (line_left L o) o in
    ap f e

pub told_inv : {C : Type 0} (n : ℕ) (o : LinesOutcome C) (c : C) → told_at n o ≡ Ok c → o ≡ Read c
told_inv n (Read d) c e = let same : d ≡ c = cc in ap Read same
told_inv n (Stopped fault rest) c e = absurd (cc)

-- The clauses of a reader that tells what bytes are, where bytes are so told just if they are a formed value's text.
module _ {C : Type 0} (Formed : C → Type 0) (text : C → List ℕ) (reading : List ℕ → Result C TextFault)
    (back : (bytes : List ℕ) (c : C) → reading bytes ≡ Ok c → Formed c × (bytes ≡ text c)) (there : (c : C) → Formed c → reading (text c) ≡ Ok c) where
  pub found_by : (bytes : List ℕ) (r : Result C CertReadFault) → Told (reading bytes) r → IfOk r (λ c. Formed c × (bytes ≡ text c))
  found_by bytes (Ok c) t = back bytes c t
  found_by bytes (Err e) t = tt

  pub only_by : (bytes : List ℕ) (r : Result C CertReadFault) (c : C) → Told (reading bytes) r → Formed c → bytes ≡ text c
      → (r ≡ Ok c) ⊎ (r ≡ Err Memory)
  only_by bytes (Ok d) c t w e =
      let own : reading bytes ≡ Ok c = ap reading e ∙ there c w in
      let same : d ≡ c = cc in
      let f : C → Result C CertReadFault = λ x. Ok x in
      inl (ap f same)
  only_by bytes (Err Memory) c t w e = inr refl
  only_by bytes (Err (Text f)) c t w e =
      let own : reading bytes ≡ Ok c = ap reading e ∙ there c w in
      absurd (cc)

pub fault_by : {C : Type 0} (told : Result C TextFault) (r : Result C CertReadFault) (f : TextFault) → Told told r → r ≡ Err (Text f) → told ≡ Err f
fault_by {C = C} told r f t e =
    let P : Result C CertReadFault → Type 0 = λ r. Told told r in
    subst P e t

pub first_by : {C : Type 0} (told : Result C TextFault) (r : Result C CertReadFault) (f : TextFault) → Told told r → told ≡ Err f
    → (r ≡ Err (Text f)) ⊎ (r ≡ Err Memory)
first_by told (Ok d) f t e = absurd (cc)
first_by told (Err Memory) f t e = inr refl
first_by {C = C} told (Err (Text g)) f t e =
    let same : g ≡ f = cc in
    let k : TextFault → Result C CertReadFault = λ x. Err (Text x) in
    inl (ap k same)
