-- A `&` to the segments is made where one to each of their words is. Assumes `Logic`.
use Prim.Native.Nat.{ℕ, ◌+◌}
use Rattle.std.specs.Prelude.{List, [], ◌∷◌}
use mathlib.Core.Path.{refl}
use seplogic.Ra.Ura.{Ura}
use base.Fraction.{full_share}
use base.Fml.{Lft, Incl, ftrue, ffalse}
use types.Logic.{Logic}
use types.SemTy.{cells}
use denote.Builtin.{u64}
use denote.Memory.{mem, part_at, shared_of}
use denote.Param.Laws.{Laws, of_field}
use denote.Param.Shared.{copy_shared}
use denote.RawPtr.{Ptr, block_ptr, null_ptr}
use denote.Shares.{Shares-less}
use denote.Sharing.{ShrLaws, said}
use denote.SharingLaws.{beside_shr_laws, nothing_shr_laws, said_shr_laws}
use denote.Slice.{elements_shared, elements_shr_laws}
use denote.Struct.Field.{u64-field}
use denote.Struct.Laws.{u64-laws, u64-copy}
use denote.Struct.Lending.{Lends, Lends-both, Lends-nothing, Lends-said, Lends-false}
use Rattle.graph_pool.specs.Segments.{Segment}
use Rattle.graph_pool.specs.Ownership.{few, words_own, words_lent, segments_own, segments_lent}

-- What is known of the type of a word.
pub word_laws : Laws u64
word_laws = of_field u64-field u64-laws refl (copy_shared u64-field u64-copy)

lent_laws : (p : Ptr) (ws : List ℕ) → ShrLaws (words_lent p ws)
lent_laws (block_ptr b o) ws = beside_shr_laws _ _ (said_shr_laws (few ws) tt) (elements_shr_laws u64 word_laws.shr_laws ws b o)
lent_laws null_ptr ws = said_shr_laws ffalse tt

pub all_lent_laws : (ss : List Segment) → ShrLaws (segments_lent ss)
all_lent_laws [] = nothing_shr_laws
all_lent_laws (s ∷ ss) = beside_shr_laws _ _ (lent_laws s.0 s.1) (all_lent_laws ss)

module _ {M : Type 1} {𝓤 : Ura M} (𝓛 : Logic 𝓤) (l : Lft) (inc : Incl l u64.lives) where
  run_lends : (ws : List ℕ) (b o : ℕ) → Lends 𝓛 (cells (mem u64) ws b o) (elements_shared u64 ws b o) l
  run_lends [] b o = Lends-nothing 𝓛 ftrue l
  run_lends (w ∷ ws) b o =
      let one : Lends 𝓛 (part_at u64 full_share w b o) (shared_of u64 w b o) l = λ κ ts. Shares-less 𝓛 u64 u64.lives l inc (word_laws.shares 𝓛) w κ ts b o in
      Lends-both 𝓛 (part_at u64 full_share w b o) (cells (mem u64) ws b (o + 8)) (shared_of u64 w b o) (elements_shared u64 ws b (o + 8)) l one (run_lends ws b (o + 8))

  pub words_lend : (p : Ptr) (ws : List ℕ) → Lends 𝓛 (words_own p ws) (words_lent p ws) l
  words_lend (block_ptr b o) ws = Lends-both 𝓛 (few ws) (cells (mem u64) ws b o) (said (few ws)) (elements_shared u64 ws b o) l (Lends-said 𝓛 (few ws) tt l) (run_lends ws b o)
  words_lend null_ptr ws = Lends-false 𝓛 (said ffalse) l

  pub segments_lend : (ss : List Segment) → Lends 𝓛 (segments_own ss) (segments_lent ss) l
  segments_lend [] = Lends-nothing 𝓛 ftrue l
  segments_lend (s ∷ ss) = Lends-both 𝓛 (words_own s.0 s.1) (segments_own ss) (words_lent s.0 s.1) (segments_lent ss) l (words_lend s.0 s.1) (segments_lend ss)
