-- Lemmas on things numbered in the order of first sight.
use Rattle.std.proofs.Common.{◌≡◌, ℕ, ◌+◌, ◌^◌, ◌<◌, Bool, true, false, cond, not, ◌||◌, List, [], ◌∷◌, ◌++◌, length, map, position, Option, None, Some, is_some, MatchOption, Contains, refl, sym, ap, subst, ◌∙◌, true≢false, arith, ◌-◌, if◌then◌else◌, Vec, Global}
use Rattle.std.specs.Cmp.Lexicographic.{bytes_decides}
use Rattle.std.specs.List.{list_any, position_or_len}
use Rattle.std.proofs.lemmas.List.{map-append, length-append}
use Rattle.std.proofs.lemmas.List.Elements.{Contains-get_or}
use Rattle.std.proofs.lemmas.List.Quantifiers.{all_pairs_push}
use Rattle.indexmap.proofs.CallerLemmas.{Contains-list_any}
use Rattle.indexmap.specs.IndexSet.{insert_key}
use Rattle.ba_format.specs.Sight.{same_text, noted, place_in, AreTexts}

-- the test on things that are seen through f
module _ {K X : Type 0} (f : K → X) (same : X → X → Bool) where
  pub list_any-through : (x : X) (ks : List K) → list_any (λ k. same x (f k)) ks ≡ list_any (same x) (map f ks)
  list_any-through x [] = refl
  list_any-through x (k ∷ ks) = ap (λ b. same x (f k) || b) (list_any-through x ks)

  pub position-through : (x : X) (ks : List K) → position_or_len (λ k. same x (f k)) ks ≡ position_or_len (same x) (map f ks)
  position-through x [] = refl
  position-through x (k ∷ ks) = ap (λ n. cond (not (same x (f k))) (1 + n) 0) (position-through x ks)

  -- a key put into a set is its view noted
  pub map-insert_key : (ks : List K) (k : K) → map f (insert_key (λ a b. same (f a) (f b)) ks k) ≡ noted same (map f ks) (f k)
  map-insert_key ks k = by _ _ (list_any-through (f k) ks)
    where
      by : (b d : Bool) → b ≡ d → map f (if b then ks else ks ++ k ∷ []) ≡ (if d then map f ks else map f ks ++ f k ∷ [])
      by true true e = refl
      by true false e = absurd (true≢false e)
      by false true e = absurd (true≢false (sym e))
      by false false e = map-append f ks (k ∷ [])

module _ {X : Type 0} (same : X → X → Bool) where
  pub noted-new : (seen : List X) (x : X) → list_any (same x) seen ≡ false → noted same seen x ≡ seen ++ x ∷ []
  noted-new seen x e = ap (λ b. if b then seen else seen ++ x ∷ []) e

  pub noted-old : (seen : List X) (x : X) → list_any (same x) seen ≡ true → noted same seen x ≡ seen
  noted-old seen x e = ap (λ b. if b then seen else seen ++ x ∷ []) e

-- the same bytes are the same text
pub same_text-equal : (a b : List ℕ) → same_text a b ≡ true → a ≡ b
same_text-equal a b = (bytes_decides a b).0

pub same_text-refl : (a : List ℕ) → same_text a a ≡ true
same_text-refl a = (bytes_decides a a).1 refl

pub same_text-not : (a b : List ℕ) → same_text a b ≡ false → a ≡ b → ⊥
same_text-not a b e h = true≢false (sym ((bytes_decides a b).1 h) ∙ e)

-- a text that isn't among them is not found
pub not_found : (texts : List (List ℕ)) (text : List ℕ) → (Contains texts text → ⊥) → list_any (same_text text) texts ≡ false
not_found texts text h = by (list_any (same_text text) texts) refl
  where
    by : (b : Bool) → list_any (same_text text) texts ≡ b → b ≡ false
    by true e = absurd (h (Contains-list_any same_text same_text-equal texts text e))
    by false e = refl

-- a new text at the end of different ones
pub AreTexts-push : (texts : List (List ℕ)) (text : List ℕ) → AreTexts texts → (Contains texts text → ⊥) → length texts < 2 ^ 32 - 1 → AreTexts (texts ++ text ∷ [])
AreTexts-push texts text h new room =
    record {
      different = all_pairs_push (λ a b. a ≡ b → ⊥) texts text h.different (λ k d l e. new (subst (Contains texts) e (Contains-get_or texts k d l)));
      few = omega (arith, length-append texts (text ∷ []));
    }

-- a set of texts with a new one
pub texts-insert : (keys : List (Vec ℕ Global)) (v : Vec ℕ Global) (text : List ℕ) → v.items ≡ text → (Contains (map (λ t. t.items) keys) text → ⊥)
    → map (λ t. t.items) (insert_key (λ a b. same_text a.items b.items) keys v) ≡ map (λ t. t.items) keys ++ text ∷ []
texts-insert keys v text e new =
    map-insert_key (λ t. t.items) same_text keys v
    ∙ ap (noted same_text (map (λ t. t.items) keys)) e
    ∙ noted-new same_text (map (λ t. t.items) keys) text (not_found _ text new)

-- the place of a text among those of a set
pub place_through : (keys : List (Vec ℕ Global)) (text : List ℕ) (r : Option ℕ) → r ≡ position (λ t. same_text text t.items) keys → is_some r ≡ list_any (λ t. same_text text t.items) keys
    → MatchOption r (list_any (same_text text) (map (λ t. t.items) keys) ≡ false) (λ at. (list_any (same_text text) (map (λ t. t.items) keys) ≡ true) × (at ≡ place_in same_text (map (λ t. t.items) keys) text))
place_through keys text None e found = sym (list_any-through (λ t. t.items) same_text text keys) ∙ sym found
place_through keys text (Some at) e found =
    (sym (list_any-through (λ t. t.items) same_text text keys) ∙ sym found, at_place _ _ at e ∙ position-through (λ t. t.items) same_text text keys)
  where
    at_place : (b : Bool) (m at : ℕ) → Some at ≡ cond b (Some m) None → at ≡ m
    at_place true m at e = cc
    at_place false m at e = cc
