-- The numbers at the places of a table, as the table is made and changed.
use Rattle.std.proofs.Common.{◌≡◌, ℕ, zero, suc, ◌<◌, List, [], ◌∷◌, ◌++◌, length, map, slice_index_or, slice_set, Vec, refl, sym, ap, ◌∙◌, subst}
use Rattle.std.specs.declared.alloc.Global.{Global}
use Rattle.std.proofs.lemmas.List.{map-set, length-map, get_or-set_other, get_or-set_same}
use Rattle.auto_laws.proofs.ListLemmas.{read_map}
use Rattle.evidence.specs.Tables.{numbers_at}
use Rattle.auto_laws.proofs.PlaceLemmas.{read_at}

pub numbers_is : (ends : List (Vec ℕ Global)) (k : ℕ) (v : Vec ℕ Global) → k < length ends → v ≡ slice_index_or ends k v → numbers_at ends k ≡ v.items
numbers_is ends k v lt is = read_map (λ (x : Vec ℕ Global). x.items) ends k v [] (read_at ends k v v lt is)

pub numbers_set : (ends : List (Vec ℕ Global)) (k : ℕ) (v : Vec ℕ Global) → k < length ends → numbers_at (slice_set ends k v) k ≡ v.items
numbers_set ends k v lt =
    ap (λ l. slice_index_or l k []) (map-set (λ (x : Vec ℕ Global). x.items) ends k v)
    ∙ get_or-set_same (map (λ (x : Vec ℕ Global). x.items) ends) k v.items [] (subst (λ n. k < n) (sym (length-map ends (λ (x : Vec ℕ Global). x.items))) lt)

pub numbers_stay : (ends : List (Vec ℕ Global)) (k i : ℕ) (v : Vec ℕ Global) → (i ≡ k → ⊥) → numbers_at (slice_set ends k v) i ≡ numbers_at ends i
numbers_stay ends k i v other =
    ap (λ l. slice_index_or l i []) (map-set (λ (x : Vec ℕ Global). x.items) ends k v)
    ∙ get_or-set_other (map (λ (x : Vec ℕ Global). x.items) ends) k i v.items [] other

-- All lists are empty.
abbrev pub AreEmpty : List (Vec ℕ Global) → Type 0
AreEmpty ends = (k : ℕ) → numbers_at ends k ≡ []

pub none_empty : AreEmpty []
none_empty zero = refl
none_empty (suc k) = refl

pub empty_more : (ends : List (Vec ℕ Global)) (v : Vec ℕ Global) → v.items ≡ [] → AreEmpty ends → AreEmpty (ends ++ v ∷ [])
empty_more [] v is all zero = is
empty_more [] v is all (suc k) = refl
empty_more (x ∷ ends) v is all zero = all zero
empty_more (x ∷ ends) v is all (suc k) = empty_more ends v is (λ i. all (suc i)) k
