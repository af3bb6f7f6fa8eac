-- Rounds of splitting.
use Rattle.std.specs.Prelude.{◌≡◌, ℕ, ◌+◌, ◌^◌, ◌<◌, ◌≤◌, ◌⊎◌, ◌↔◌, List, [], ◌∷◌, ◌++◌, length, All, Contains, slice_index, Vec}
use Rattle.std.specs.declared.alloc.Global.{Global}
use Rattle.auto_core.specs.Automaton.{Automaton, IsAccepting}
use Rattle.auto_core.specs.Quotient.{class_of}
use Rattle.evidence.specs.Tables.{numbers_at}
use Rattle.bisimulation.specs.Coarsest.{IsCoarser}
use Rattle.bisimulation.specs.Signatures.{packed, IsSignedBy, AreDifferent}
use Rattle.bisimulation.specs.declared.partition.Partition.{Partition}

-- Each member of the list is less than n.
abbrev pub AreBelow : ℕ → List ℕ → Type 0
AreBelow n list = All (λ p. p < n) list

-- The parts of the partition fit n states, and each state is on the list of its class.
pub record IsLaidOut (n : ℕ) (s : Partition) : Type 0 where
  pub of : length s.of.items ≡ n
  pub signs : length s.signs.items ≡ n
  pub members : length s.members.items ≡ length s.kept.items
  pub dues : length s.dues.items ≡ length s.kept.items
  pub few : length s.kept.items ≤ 2 ^ 32
  pub classes : (p : ℕ) → p < n → class_of s.of.items p < length s.kept.items
  pub listed : (p : ℕ) → p < n → Contains (numbers_at s.members.items (class_of s.of.items p)) p
  pub below : (c : ℕ) → AreBelow n (numbers_at s.members.items c)

-- The state has the sign that keeps its class.
abbrev pub HasKeptSign : Partition → ℕ → Type 0
HasKeptSign s p =
    slice_index s.kept.items (class_of s.of.items p) ≡ slice_index s.signs.items p

-- Each state is on the list, or has the sign that keeps its class.
abbrev pub AreListed : ℕ → Partition → List ℕ → Type 0
AreListed n s listed = (p : ℕ) → p < n → Contains listed p ⊎ HasKeptSign s p

-- Only lists have changed, and each state is still on that of its class.
pub record IsRelisted (n : ℕ) (old new : Partition) : Type 0 where
  pub of : new.of.items ≡ old.of.items
  pub signs : new.signs.items ≡ old.signs.items
  pub kept : new.kept.items ≡ old.kept.items
  pub laid : IsLaidOut n new

-- Each state of the class is on the list, which has only states.
abbrev pub HasAllOf : ℕ → Partition → ℕ → List ℕ → Type 0
HasAllOf n s c list =
    AreBelow n list × ((p : ℕ) → p < n → class_of s.of.items p ≡ c → Contains list p)

-- Only what keeps classes has changed, and only for classes all of whose members are on the list.
pub record IsRegarded (n : ℕ) (old new : Partition) (before after : List ℕ) : Type 0 where
  pub of : new.of.items ≡ old.of.items
  pub signs : new.signs.items ≡ old.signs.items
  pub laid : IsLaidOut n new
  pub more : (p : ℕ) → Contains before p → Contains after p
  pub below : AreBelow n after
  pub count : length new.kept.items ≡ length old.kept.items
  pub kept : (p : ℕ) → p < n → Contains after p
      ⊎ (slice_index new.kept.items (class_of old.of.items p)
      ≡ slice_index old.kept.items (class_of old.of.items p))

-- The state is in the class that was made for its sign and its old class.
pub record IsMoved (old new : Partition) (parts : List ℕ) (p : ℕ) : Type 0 where
  pub part : ℕ
  pub within : part < length parts
  pub is : slice_index parts part
      ≡ packed (class_of old.of.items p) (slice_index old.signs.items p)
  pub class : class_of new.of.items p ≡ length old.kept.items + part
  pub apart : HasKeptSign old p → ⊥

-- The classes are being split by the signs: each part has a class of its own.
pub record IsSplitting (n : ℕ) (old new : Partition) (parts moved : List ℕ) : Type 0 where
  pub laid : IsLaidOut n new
  pub signs : new.signs.items ≡ old.signs.items
  pub count : length new.kept.items ≡ length old.kept.items + length parts
  pub different : (i j : ℕ) → i < length parts → j < length parts
      → slice_index parts i ≡ slice_index parts j → i ≡ j
  pub same : (c : ℕ) → c < length old.kept.items
      → slice_index new.kept.items c ≡ slice_index old.kept.items c
  pub made : (i c sign : ℕ) → i < length parts → sign < 2 ^ 32
      → slice_index parts i ≡ packed c sign
      → slice_index new.kept.items (length old.kept.items + i) ≡ sign
  pub below : AreBelow n moved
  pub classes : (p : ℕ) → p < n → class_of old.of.items p < length old.kept.items
  pub states : (p : ℕ) → p < n → (class_of new.of.items p ≡ class_of old.of.items p)
      ⊎ (Contains moved p × IsMoved old new parts p)

-- The state is in place: it has the sign that keeps its class, and so has each that had it before.
pub record IsPutInPlace (n : ℕ) (first old new : Partition) (parts moved : List ℕ) (state : ℕ)
    : Type 0 where
  pub splitting : IsSplitting n first new parts moved
  pub kept : HasKeptSign new state
  pub others : (p : ℕ) → p < n → HasKeptSign old p → HasKeptSign new p

-- A class without members has been added, for a part that was not there.
pub record IsAdded (old new : Partition) (before after : List ℕ) (part sign : ℕ) : Type 0 where
  pub parts : after ≡ before ++ part ∷ []
  pub absent : Contains before part → ⊥
  pub of : new.of.items ≡ old.of.items
  pub signs : new.signs.items ≡ old.signs.items
  pub kept : new.kept.items ≡ old.kept.items ++ sign ∷ []
  pub dues : length new.dues.items ≡ length old.dues.items + 1
  pub members : length new.members.items ≡ length old.members.items + 1
  pub lists : (c : ℕ) → numbers_at new.members.items c ≡ numbers_at old.members.items c

-- The part has its class among the new ones: the parts before are there, and no other has been
-- added but this one.
pub record HasClassFor (old new : Partition) (before after : List ℕ)
    (class sign result : ℕ) : Type 0 where
  pub part : ℕ
  pub within : part < length after
  pub is : slice_index after part ≡ packed class sign
  pub place : result + length after ≡ length new.kept.items + part
  pub added : ((after ≡ before) × (new ≡ old))
      ⊎ IsAdded old new before after (packed class sign) sign

-- The new classes join two states just where the old ones do and the signs are one; the moved
-- states are listed.
pub record IsSplit (n : ℕ) (old new : Partition) (moved : List ℕ) : Type 0 where
  pub laid : IsLaidOut n new
  pub signs : new.signs.items ≡ old.signs.items
  pub joins : (p q : ℕ) → p < n → q < n
      → (class_of new.of.items p ≡ class_of new.of.items q)
      ↔ ((class_of old.of.items p ≡ class_of old.of.items q)
      × (slice_index old.signs.items p ≡ slice_index old.signs.items q))
  pub kept : (p : ℕ) → p < n → HasKeptSign new p
  pub below : AreBelow n moved
  pub told : (p : ℕ) → p < n
      → Contains moved p ⊎ (class_of new.of.items p ≡ class_of old.of.items p)

-- The state is signed, and has the sign that keeps its class.
abbrev pub IsSettled : Automaton → List (Vec ℕ Global) → Partition → ℕ → Type 0
IsSettled A table s p =
    IsSignedBy A s.of.items table p (slice_index s.signs.items p) × HasKeptSign s p

-- The classes between two rounds: each state that is not due is settled.
pub record IsBetweenRounds (A : Automaton) (table : List (Vec ℕ Global)) (due : List ℕ)
    (s : Partition) : Type 0 where
  pub laid : IsLaidOut A.states s
  pub different : AreDifferent table
  pub below : AreBelow A.states due
  pub settled : (p : ℕ) → p < A.states → Contains due p ⊎ IsSettled A table s p
  pub accept : (p q : ℕ) → p < A.states → q < A.states
      → class_of s.of.items p ≡ class_of s.of.items q → IsAccepting A p → IsAccepting A q
  pub coarser : IsCoarser A s.of.items
