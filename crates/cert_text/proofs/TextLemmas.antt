-- Texts and bytes with a first fault, whatever the texts are of.
use Rattle.std.proofs.Common.{◌≡◌, ℕ, true, List, [], ◌++◌, Result, Ok, Err, refl, sym, ap, ◌∙◌, append-nil, inl, inr, ◌⊎◌, ◌↔◌}
use Rattle.cert_text.specs.declared.faults.TextFault.{TextFault}
use Rattle.cert_value.specs.Text.{Line, text_of}
use Rattle.cert_text.specs.Grammar.{LinesOutcome, Read, lines_of, finish, reading_by}
use Rattle.cert_text.proofs.BytesLines.{PlainLines, lines_text}
use Rattle.cert_text.proofs.Reading.{read_by}
use Rattle.cert_text.proofs.ReaderLemmas.{Reader}

-- Lines are read as a formed value just where they are its own ones.
pub record ReadsTexts {C : Type 0} (Formed : C → Type 0) (own : C → List Line) (read : List Line → LinesOutcome C) : Type 0 where
  pub plain : (c : C) → PlainLines (own c)
  pub onward : (c : C) (more : List ℕ) → Formed c → read (lines_of (text_of (own c) ++ more)) ≡ finish c (lines_of more)
  pub back : (bytes : List ℕ) (c : C) → reading_by read bytes ≡ Ok c → Formed c × (bytes ≡ text_of (own c))
  pub reader : Reader true read

module _ {C : Type 0} {Formed : C → Type 0} {own : C → List Line} {read : List Line → LinesOutcome C} (known : ReadsTexts Formed own read) where
  pub lines_then : (c : C) (more : List ℕ) → lines_of (text_of (own c) ++ more) ≡ own c ++ lines_of more
  lines_then c more = lines_text (own c) more (known.plain c)

  pub lines_alone : (c : C) → lines_of (text_of (own c)) ≡ own c ++ lines_of []
  lines_alone c = ap lines_of (sym (append-nil (text_of (own c)))) ∙ lines_then c []

  -- the lines of a text are read to the end
  pub read_whole : (c : C) → Formed c → read (lines_of (text_of (own c))) ≡ Read c
  read_whole c w = ap (λ b. read (lines_of b)) (sym (append-nil (text_of (own c)))) ∙ known.onward c [] w

  there : (c : C) → Formed c → reading_by read (text_of (own c)) ≡ Ok c
  there c w = read_by read (text_of (own c)) c (read_whole c w)

  pub is_read : (bytes : List ℕ) (c : C) → (reading_by read bytes ≡ Ok c) ↔ (Formed c × (bytes ≡ text_of (own c)))
  is_read bytes c = (λ e. known.back bytes c e, λ (w, same). ap (reading_by read) same ∙ there c w)

  pub has_no_fault : (c : C) (fault : TextFault) → Formed c → reading_by read (text_of (own c)) ≡ Err fault → ⊥
  has_no_fault c fault w e = let ok = there c w in absurd (cc)

  text_or : (bytes : List ℕ) (told : Result C TextFault) → reading_by read bytes ≡ told
      → ((c : C) × Formed c × (bytes ≡ text_of (own c))) ⊎ ((fault : TextFault) × (reading_by read bytes ≡ Err fault))
  text_or bytes (Ok c) e = let (w, same) = known.back bytes c e in inl (c, w, same)
  text_or bytes (Err fault) e = inr (fault, e)

  pub is_text_or_has_fault : (bytes : List ℕ) → ((c : C) × Formed c × (bytes ≡ text_of (own c))) ⊎ ((fault : TextFault) × (reading_by read bytes ≡ Err fault))
  is_text_or_has_fault bytes = text_or bytes (reading_by read bytes) refl

pub one_fault : {C : Type 0} (told : Result C TextFault) (fault other : TextFault) → told ≡ Err fault → told ≡ Err other → fault ≡ other
one_fault told fault other e f = cc
