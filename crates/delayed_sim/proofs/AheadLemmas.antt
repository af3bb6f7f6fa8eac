-- Words before and after a move.
use Rattle.std.proofs.Common.{◌≡◌, ℕ, suc, ◌+◌, ◌<◌, List, [], ◌∷◌, ◌++◌, length, get_or, take, drop, set, refl, sym, ap, ◌∙◌, subst, arith, length-append}
use Rattle.std.proofs.lemmas.List.{take_more, take_more_set, length-drop, get_or-drop}
use Rattle.std.proofs.lemmas.List.Elements.{All-push, All-drop}
use Rattle.auto_core.specs.Delayed.{IsTripleWord, Announces}

pub first_of : (b : List ℕ) (more : ℕ) → 0 < length b → get_or (b ++ more ∷ []) 0 0 ≡ get_or b 0 0
first_of [] more some = absurd (omega arith)
first_of (x ∷ b) more some = refl

-- the letter of a move, and the word after it
pub announced_parts : (b : List ℕ) (more a : ℕ) (c : List ℕ) → Announces b more a c → (get_or (b ++ more ∷ []) 0 0 ≡ a) × (drop 1 (b ++ more ∷ []) ≡ c)
announced_parts b more a c e = (ap (λ l. get_or l 0 0) e, ap (λ l. drop 1 l) e)

pub parts_announced : (b : List ℕ) (more a : ℕ) → get_or (b ++ more ∷ []) 0 0 ≡ a → Announces b more a (drop 1 (b ++ more ∷ []))
parts_announced [] more a e = ap (λ x. x ∷ []) e
parts_announced (x ∷ b) more a e = ap (λ y. y ∷ (b ++ more ∷ [])) e

pub length_announced : (b : List ℕ) (more : ℕ) → length (drop 1 (b ++ more ∷ [])) ≡ length b
length_announced b more = omega (arith, length-drop 1 (b ++ more ∷ []), length-append b (more ∷ []))

pub next_word : (labels n : ℕ) (b : List ℕ) (more : ℕ) → IsTripleWord labels n b → more < labels → IsTripleWord labels n (drop 1 (b ++ more ∷ []))
next_word labels n b more h lt = (
  ap (λ k. suc k) (length_announced b more) ∙ h.0,
  All-drop (λ a. a < labels) 1 (b ++ more ∷ []) (All-push (λ a. a < labels) b more h.1 lt),
)

pub word_after : (labels n : ℕ) (b : List ℕ) (more a : ℕ) (c : List ℕ) → IsTripleWord labels n b → more < labels → Announces b more a c → IsTripleWord labels n c
word_after labels n b more a c h lt e = subst (IsTripleWord labels n) (announced_parts b more a c e).1 (next_word labels n b more h lt)

-- one more of the letters of the word after a move
pub next_more :
    (next b : List ℕ) (more at letter : ℕ)
    → at < length b
    → at < length next
    → letter ≡ get_or (b ++ more ∷ []) (at + 1) 0
    → take at next ≡ take at (drop 1 (b ++ more ∷ []))
    → take (at + 1) (set next at letter) ≡ take (at + 1) (drop 1 (b ++ more ∷ []))
next_more next b more at letter b_in next_in is so_far =
    let rest = drop 1 (b ++ more ∷ []) in
    let rest_in : at < length rest = omega (arith, length_announced b more) in
    let one : 1 + at ≡ at + 1 = omega arith in
    let same : letter ≡ get_or rest at 0 = is ∙ ap (λ k. get_or (b ++ more ∷ []) k 0) (sym one) ∙ sym (get_or-drop 1 (b ++ more ∷ []) at 0) in
    take_more_set next at letter next_in ∙ ap (λ l. l ++ letter ∷ []) so_far ∙ ap (λ x. take at rest ++ x ∷ []) same ∙ sym (take_more rest at 0 rest_in)
