-- The slots for words, and what it says that each of them is filled.
use mathlib.Core.Bool.{true, false}
use mathlib.Core.Path.{◌≡◌, sym, ◌∙◌, subst}
use Prim.Native.Nat.{ℕ, ◌<◌}
use native.Mathlib.Omega.{arith}
use lib.ListN.{length, get_or}
use denote.Builtin.{u64}
use denote.RattleType.{RattleType}
use Rattle.core.specs.contracts.slots.Slots as S
use Rattle.core.specs.Mem.Slots.{slots_counts, slots_items, slots_filled, IsFull}

abbrev pub WordSlots : RattleType
WordSlots = S.the_row u64

pub as_long : (r : WordSlots.Denot) → length (slots_filled r) ≡ length (slots_items r)
as_long r = sym (slots_counts r).1 ∙ (slots_counts r).0

pub all_filled : (r : WordSlots.Denot) → IsFull r → (k : ℕ) → k < length (slots_filled r) → get_or (slots_filled r) k false ≡ true
all_filled r full k low = full k (omega arith) (subst (λ (n : ℕ). k < n) (sym (slots_counts r).1) low)
