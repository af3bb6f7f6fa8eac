use Rattle.std.proofs.Common.{◌≡◌, ℕ, suc, ◌<◌, ◌+◌, ◌-◌, ◌==◌, List, [], ◌∷◌, length, map, take, drop, Bool, true, false, cond, Option, Some, None, Ok, Err, position, refl, sym, ap, ◌∙◌, subst, arith}
use Rattle.std.specs.List.{slice_split, onto_first}
use Rattle.std.proofs.lemmas.List.Splits.{length-slice_split}
use Rattle.cert_line.specs.declared.faults.LineFault.{LineFault}
use Rattle.cert_line.specs.declared.faults.LineFault.TheVariants.{Text, Memory}
use Rattle.cert_line.specs.declared.faults.TextKind.{TextKind}
use Rattle.cert_line.specs.declared.faults.TextKind.TheVariants.{Truncated, Trailing}
use Rattle.cert_value.specs.declared.types.Cert.{Cert}
use Rattle.cert_text.specs.declared.machine.State.{State}
use Rattle.cert_value.specs.Text.{Line}
use Rattle.cert_value.specs.Tokens.{tokens_of}
use Rattle.cert_line.specs.Agrees.{Agrees}
use Rattle.cert_text.specs.Told.{Told, located}
use Rattle.cert_text.specs.Grammar.{Read, Stopped, after, lines_of, read_lines, reading, told_at, is_bare}
use Rattle.cert_text.specs.Machine.{step, ended, at_end}
use Rattle.cert_text.proofs.ResumeState.{resume, state_law, state_last}
use Rattle.cert_text.proofs.Reading.{stopped_by, read_by}
use Rattle.cert_value.proofs.SplitLemmas.{split_none, split_some, rest_all}

pub split_cons : (p : ℕ → Bool) (bs : List ℕ) → (part : List ℕ) × (parts : List (List ℕ)) × (slice_split p bs ≡ part ∷ parts)
split_cons p bs = has_first (slice_split p bs) (omega (arith, length-slice_split p bs)) where
  has_first : (xs : List (List ℕ)) → 0 < length xs → (part : List ℕ) × (parts : List (List ℕ)) × (xs ≡ part ∷ parts)
  has_first [] h = absurd (omega arith)
  has_first (x ∷ xs) h = (x, xs, refl)

bare_of : (b : Bool) (x : ℕ) (ts : Line) → 0 < length ts → is_bare (cond b ([] ∷ ts) (onto_first x ts)) ≡ false
bare_of b x [] h = absurd (omega arith)
bare_of true x (t ∷ ts) h = refl
bare_of false x (t ∷ ts) h = refl

-- a piece with a byte is not bare
pub bare_false : (bs : List ℕ) → (length bs == 0) ≡ false → is_bare (tokens_of bs) ≡ false
bare_false [] h = absurd (cc)
bare_false (x ∷ xs) h =
    bare_of (x == 32) x (tokens_of xs) (omega (arith, length-slice_split (λ b. b == 32) xs))

-- a line is cut off
pub line_off : (bs : List ℕ) (at : ℕ) → position (λ b. b == 10) bs ≡ Some at
    → lines_of bs ≡ tokens_of (take at bs) ∷ lines_of (take (length bs - (at + 1)) (drop (at + 1) bs))
line_off bs at e =
    ap (λ parts. map tokens_of parts) (split_some (λ b. b == 10) bs at e)
    ∙ ap (λ xs. tokens_of (take at bs) ∷ lines_of xs) (sym (rest_all bs (at + 1)))

pub last_off : (bs : List ℕ) → position (λ b. b == 10) bs ≡ None → lines_of bs ≡ tokens_of bs ∷ []
last_off bs e = ap (λ parts. map tokens_of parts) (split_none (λ b. b == 10) bs e)

pub told_stopped : (bytes : List ℕ) (fault : TextKind) (here : List Line) (n : ℕ)
    → read_lines (lines_of bytes) ≡ Stopped fault here
    → n + length here ≡ length (lines_of bytes) + 1
    → reading bytes ≡ Err (record { line = n; kind = fault })
told_stopped = stopped_by read_lines

pub told_read : (bytes : List ℕ) (c : Cert) → read_lines (lines_of bytes) ≡ Read c → reading bytes ≡ Ok c
told_read = read_by read_lines

-- the reader stops at a line
pub stops : (bytes : List ℕ) (s : State) (t : Line) (rest : List ℕ) (n : ℕ) (fault : LineFault)
    → resume s (t ∷ lines_of rest) ≡ read_lines (lines_of bytes)
    → n + suc (length (lines_of rest)) ≡ length (lines_of bytes) + 1
    → Agrees (step s t) (Err fault)
    → Told (reading bytes) (Err (located n fault))
stops bytes s t rest n Memory same k a = tt
stops bytes s t rest n (Text fault) same k a =
    let parts = split_cons (λ b. b == 10) rest in
    let ls : lines_of rest ≡ tokens_of parts.0 ∷ map tokens_of parts.1 = ap (λ ps. map tokens_of ps) parts.2 in
    let P : List Line → Type 0 = λ xs. resume s (t ∷ xs) ≡ Stopped fault (t ∷ xs) in
    let stop : P (lines_of rest) = subst P (sym ls)
    (state_law s t (tokens_of parts.0) (map tokens_of parts.1)
    ∙ ap (λ r. after r resume (t ∷ tokens_of parts.0 ∷ map tokens_of parts.1) (tokens_of parts.0 ∷ map tokens_of parts.1)) a) in
    told_stopped bytes fault (t ∷ lines_of rest) n (sym same ∙ stop) k

-- the reader goes on
pub goes_on : (s new : State) (t : Line) (rest : List ℕ) → step s t ≡ Ok new
    → resume s (t ∷ lines_of rest) ≡ resume new (lines_of rest)
goes_on s new t rest a =
    let parts = split_cons (λ b. b == 10) rest in
    let ls : lines_of rest ≡ tokens_of parts.0 ∷ map tokens_of parts.1 = ap (λ ps. map tokens_of ps) parts.2 in
    let P : List Line → Type 0 = λ xs. resume s (t ∷ xs) ≡ resume new xs in
    subst P (sym ls)
    (state_law s t (tokens_of parts.0) (map tokens_of parts.1)
    ∙ ap (λ r. after r resume (t ∷ tokens_of parts.0 ∷ map tokens_of parts.1) (tokens_of parts.0 ∷ map tokens_of parts.1)) a)

end_of_some : (bytes : List ℕ) (b : Bool) (c : Cert) (piece : Line) (n : ℕ)
    → read_lines (lines_of bytes) ≡ cond b (Read c) (Stopped Trailing (piece ∷ []))
    → n + 1 ≡ length (lines_of bytes) + 1
    → reading bytes ≡ told_at n (cond b (Read c) (Stopped Trailing (piece ∷ [])))
end_of_some bytes true c piece n e k = told_read bytes c e
end_of_some bytes false c piece n e k = told_stopped bytes Trailing (piece ∷ []) n e k

end_of : (bytes : List ℕ) (d : Option Cert) (piece : Line) (n : ℕ)
    → read_lines (lines_of bytes) ≡ ended d piece
    → n + 1 ≡ length (lines_of bytes) + 1
    → reading bytes ≡ told_at n (ended d piece)
end_of bytes (Some c) piece n e k = end_of_some bytes (is_bare piece) c piece n e k
end_of bytes None piece n e k = told_stopped bytes Truncated (piece ∷ []) n e k

-- the bytes are over
pub is_over : (bytes : List ℕ) (s : State) (rest : List ℕ) (n : ℕ) → lines_of rest ≡ tokens_of rest ∷ []
    → resume s (lines_of rest) ≡ read_lines (lines_of bytes)
    → n + length (lines_of rest) ≡ length (lines_of bytes) + 1
    → reading bytes ≡ told_at n (at_end s (tokens_of rest))
is_over bytes s rest n l same k =
    let two : length (lines_of rest) ≡ 1 = ap length l in
    end_of bytes _ (tokens_of rest) n
    (sym same ∙ ap (λ xs. resume s xs) l ∙ state_last s (tokens_of rest)) (omega arith)
