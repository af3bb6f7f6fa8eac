-- What the segments own, and what a `&` to them holds.
use Rattle.std.specs.Prelude.{ℕ, ◌*◌, ◌^◌, List, [], ◌∷◌, length}
use Rattle.std.specs.Borrow.{u64}
use base.Fml.{Lft, Fml, ftrue, ffalse, fsep, flt}
use denote.Memory.{mem}
use denote.RawPtr.{Ptr, block_ptr, null_ptr}
use denote.Sharing.{nothing, said, beside}
use denote.Slice.{elements_shared}
use types.SemTy.{cells}
use Rattle.graph_pool.specs.Segments.{Segment}

-- The words take fewer than 2 ^ 63 bytes.
abbrev pub few : List ℕ → Fml
few ws = flt (length ws * 8) (2 ^ 63)

-- The words side by side, from p on.
abbrev pub words_own : Ptr → List ℕ → Fml
words_own (block_ptr b o) ws = fsep (few ws) (cells (mem u64) ws b o)
words_own null_ptr ws = ffalse

-- A `&` to each of them.
abbrev pub words_lent : Ptr → List ℕ → Lft → Fml
words_lent (block_ptr b o) ws = beside (said (few ws)) (elements_shared u64 ws b o)
words_lent null_ptr ws = said ffalse

-- One segment with its words.
abbrev pub segment_own : Segment → Fml
segment_own s = words_own s.0 s.1

-- All segments.
abbrev pub segments_own : List Segment → Fml
segments_own [] = ftrue
segments_own (s ∷ ss) = fsep (segment_own s) (segments_own ss)

-- A `&` to each word of each.
abbrev pub segments_lent : List Segment → Lft → Fml
segments_lent [] = nothing
segments_lent (s ∷ ss) = beside (words_lent s.0 s.1) (segments_lent ss)
