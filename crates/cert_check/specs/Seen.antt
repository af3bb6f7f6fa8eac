-- Which elements were seen, by their keys.
use Rattle.std.specs.Prelude.{◌≡◌, ℕ, ◌+◌, ◌/◌, ◌%◌, ◌^◌, ◌<◌, ◌⊎◌, length, slice_index_or}
use Rattle.cert_check.specs.declared.seen.Seen.{Seen}
use Rattle.cert_check.specs.Firsts.{mixed_words}
use Rattle.cert_check.specs.Supers.{Key, HasKey}

-- The place of a key among so many: the remainder of the upper half of its mixed number, divided by
-- how many there are.
abbrev pub key_place : ℕ → Key → ℕ
key_place count key = (mixed_words 0 key / 2 ^ 32) % count

-- What stands at the key's place: 0, or the number of an element and one more.
abbrev pub at_place : Seen → Key → ℕ
at_place seen key = slice_index_or seen.places.items (key_place (length seen.places.items) key) 0

-- An element with the key stands at its place, or the key is among the others.
abbrev pub IsSeen : (ℕ → Key) → Seen → Key → Type 0
IsSeen keys seen key =
    ((d : ℕ) × (at_place seen key ≡ d + 1) × (keys d ≡ key)) ⊎ HasKey seen.others key

-- Of so many places p is that of the element d, and of no element before d.
abbrev pub IsFirstAt : (ℕ → Key) → ℕ → ℕ → ℕ → Type 0
IsFirstAt keys count p d =
    (key_place count (keys d) ≡ p) × ((c : ℕ) → c < d → key_place count (keys c) ≡ p → ⊥)

-- Of each element before e the key, which `keys` has, is at its place or among the others; at
-- places and among the others are only elements before e and their keys, at a place the first
-- element whose it is; the place of a key among the others is taken; and there is at least one
-- place.
pub record HaveSeen (keys : ℕ → Key) (e : ℕ) (seen : Seen) : Type 0 where
  pub not_empty : 0 < length seen.places.items
  pub each : (d : ℕ) → d < e → IsSeen keys seen (keys d)
  pub earlier : (p d : ℕ) → slice_index_or seen.places.items p 0 ≡ d + 1 → d < e
  pub first : (p d : ℕ) → slice_index_or seen.places.items p 0 ≡ d + 1
      → IsFirstAt keys (length seen.places.items) p d
  pub others : (key : Key) → HasKey seen.others key → (d : ℕ) × (d < e) × (key ≡ keys d)
  pub taken : (key : Key) → HasKey seen.others key → 0 < at_place seen key

-- No element before e has its key.
abbrev pub IsUnlikeEarlier : (ℕ → Key) → ℕ → Type 0
IsUnlikeEarlier keys e = (d : ℕ) → d < e → keys d ≡ keys e → ⊥
