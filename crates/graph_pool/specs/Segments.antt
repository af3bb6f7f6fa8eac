-- Segments of memory that hold words.
use Rattle.std.specs.Prelude.{ℕ, ◌≡◌, ◌+◌, ◌*◌, ◌-◌, ◌<◌, ◌≤◌, List, [], ◌∷◌, length, get_or, slice_set, take, drop, zero, suc}
use Rattle.std.specs.List.{refill}
use denote.RawPtr.{Ptr, block_ptr, null_ptr}

-- Where a segment begins, and its words.
abbrev pub Segment : Type 0
Segment = Ptr × List ℕ

-- The i-th segment.
abbrev pub segment_at : List Segment → ℕ → Segment
segment_at ss i = get_or ss i (null_ptr, [])

-- The i-th segment begins at p and has n words.
abbrev pub IsSegment : List Segment → ℕ → Ptr → ℕ → Type 0
IsSegment ss i p n = (i < length ss) × (p ≡ (segment_at ss i).0) × (length (segment_at ss i).1 ≡ n)

-- The segments with the words of the i-th replaced.
abbrev pub rewritten : List Segment → ℕ → List ℕ → List Segment
rewritten ss i ws =
    slice_set ss i ((segment_at ss i).0, refill (length (segment_at ss i).1) (segment_at ss i).1 ws)

-- k bytes further on.
abbrev pub moved : Ptr → ℕ → Ptr
moved (block_ptr b o) k = block_ptr b (k + o)
moved null_ptr k = null_ptr

-- Segments side by side, the first at p, each of so many bytes.
abbrev pub segments_from : Ptr → ℕ → List (List ℕ) → List Segment
segments_from p bytes [] = []
segments_from p bytes (ws ∷ wss) = (p, ws) ∷ segments_from (moved p bytes) bytes wss

-- Words cut into so many parts of one size.
abbrev pub even_parts : ℕ → ℕ → List ℕ → List (List ℕ)
even_parts size zero ws = []
even_parts size (suc n) ws = take size ws ∷ even_parts size n (drop size ws)

-- The last segments lie side by side from p on, so many, of so many words each.
abbrev pub EndsAt : List Segment → Ptr → ℕ → ℕ → Type 0
EndsAt ss p size count =
    (wss : List (List ℕ)) × (length wss ≡ count)
    × ((i : ℕ) → i < length wss → length (get_or wss i []) ≡ size) × (count ≤ length ss)
    × (drop (length ss - count) ss ≡ segments_from p (size * 8) wss)
