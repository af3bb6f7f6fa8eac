-- The blocks of the chunks, as segments: where each begins, and what growing and freeing leave.
use Rattle.std.proofs.Common.{arith, refl, zero, suc, ◌≡◌, ◌<◌, ◌≤◌, ◌+◌, ◌-◌, ◌*◌, ◌/◌, ◌%◌, ◌^◌, ◌∷◌, ◌++◌, ℕ, List, [], length, get_or, slice_set, map, take, drop, replicate, Some, ap, sym, subst, ◌∙◌, inl, inr}
use Rattle.std.specs.List.{refill, length_refill, All}
use Rattle.std.proofs.lemmas.Bool.{cases_eq, cases_lt}
use Rattle.std.proofs.lemmas.List.{append-nil, nil_from_length, length-set, length-map, length-append, length-take, length-drop, length-replicate, get_or-map, get_or-set_same, get_or-set_other, get_or_append_left, map-set, map-append}
use lib.Seq.{get_or-append_seam, get_or-append_right, get_or-take, take-append_seam, drop-append_seam}
use lib.ListN.{replicate-append-replicate}
use native.Mathlib.Nat.{mul_assoc, suc-mul, zero-mul}
use Rattle.core.proofs.ptr.Rows.{times_below}
use Rattle.std.proofs.lemmas.List.Elements.{All-get_or, All-push, All-pop}
use denote.RawPtr.{Ptr, block_ptr, null_ptr}
use Rattle.graph_pool.specs.BlockList.{BlockList, with_block}
use Rattle.graph_pool.specs.Segments.{Segment, segment_at, moved, rewritten, segments_from, even_parts, IsSegment, EndsAt}
use Rattle.graph_pool.specs.Chunks.{IsChunk, IsLaid, starts}
use Rattle.graph_pool.specs.declared.store.Chunk.{Chunk}
use Rattle.graph_pool.specs.declared.store.TheConstants.{CHUNK}
use Rattle.std.specs.declared.alloc.Global.{Global}

abbrev pub words_of : List Segment → List (List ℕ)
words_of rs = map (λ (r : Segment). r.1) rs

-- The words of the i-th segment.
pub words_at : (rs : List Segment) (i : ℕ) → i < length rs → (segment_at rs i).1 ≡ get_or (words_of rs) i []
words_at rs i low = sym (get_or-map (λ (r : Segment). r.1) rs i (null_ptr, []) [] low)

-- The offset of a block within its chunk.
pub offset_small : (i size : ℕ) → CHUNK * size * 8 < 2 ^ 63 → i % CHUNK * size * 8 < 2 ^ 63
offset_small i size small =
    let low : i % CHUNK ≤ CHUNK = omega arith in
    let words : CHUNK * size < 2 ^ 60 = omega arith in
    omega (arith, times_below (i % CHUNK) CHUNK size (2 ^ 60) low words)

-- The i-th segment begins where the block does.
pub laid_at : (alloc : Global) (size : ℕ) (cs : List Chunk) (rs : List Segment) (i : ℕ) (c d : Chunk) → IsLaid alloc size cs rs → i < length rs → c ≡ get_or cs (i / CHUNK) d
    → IsSegment rs i (moved c.start.ptr (i % CHUNK * size * 8)) size × (i % CHUNK * size * 8 < 2 ^ 63)
laid_at alloc size cs rs i c d laid low is =
    let many = laid.many in
    let here : i / CHUNK < length cs = omega arith in
    let block = laid.blocks i low in
    let same : get_or (starts cs) (i / CHUNK) null_ptr ≡ c.start.ptr = get_or-map (λ (x : Chunk). x.start.ptr) cs (i / CHUNK) d null_ptr here ∙ ap (λ (x : Chunk). x.start.ptr) (sym is) in
    let chunk = All-get_or (IsChunk alloc size) cs (i / CHUNK) d here laid.chunks in
    ((low, ap (λ (k : ℕ). moved c.start.ptr k) (mul_assoc (i % CHUNK) size 8) ∙ ap (λ (p : Ptr). moved p (i % CHUNK * (size * 8))) (sym same) ∙ sym block.0, block.1), offset_small i size chunk.4)

pub chunk_there : (alloc : Global) (size : ℕ) (cs : List Chunk) (rs : List Segment) (i : ℕ) → IsLaid alloc size cs rs → i < length rs → i / CHUNK < length cs
chunk_there alloc size cs rs i laid low = let many = laid.many in omega arith

pub offset_fits : (alloc : Global) (size : ℕ) (cs : List Chunk) (rs : List Segment) (i : ℕ) (d : Chunk) → IsLaid alloc size cs rs → i < length rs → i % CHUNK * size < 2 ^ 64
offset_fits alloc size cs rs i d laid low =
    let chunk = All-get_or (IsChunk alloc size) cs (i / CHUNK) d (chunk_there alloc size cs rs i laid low) laid.chunks in
    omega (arith, offset_small i size chunk.4)

-- A segment is lent, and written.
pub lent_store : (alloc : Global) (size : ℕ) (cs : List Chunk) (rs : List Segment) (c : BlockList) (i : ℕ) (ws : List ℕ) → IsLaid alloc size cs rs → i < length rs → ◌≡◌ {A = BlockList} (record { size = size; blocks = words_of rs }) c
    → ◌≡◌ {A = BlockList} (record { size = size; blocks = words_of (rewritten rs i ws) }) (with_block c i ws)
lent_store alloc size cs rs c i ws laid low e =
    ap (λ (l : List (List ℕ)). record { size = size; blocks = l })
    (map-set (λ (r : Segment). r.1) rs i ((segment_at rs i).0, refill (length (segment_at rs i).1) (segment_at rs i).1 ws)
    ∙ ap (λ (n : ℕ). slice_set (words_of rs) i (refill n (segment_at rs i).1 ws)) (laid.blocks i low).1
    ∙ ap (λ (y : List ℕ). slice_set (words_of rs) i (refill size y ws)) (words_at rs i low))
    ∙ ap (λ (x : BlockList). with_block x i ws) e

pub laid_lent : (alloc : Global) (size : ℕ) (cs : List Chunk) (rs : List Segment) (i : ℕ) (ws : List ℕ) → i < length rs → IsLaid alloc size cs rs → IsLaid alloc size cs (rewritten rs i ws)
laid_lent alloc size cs rs i ws low laid =
    let r = segment_at rs i in
    let x : Segment = (r.0, refill (length r.1) r.1 ws) in
    let long : length (slice_set rs i x) ≡ length rs = length-set rs i x in
    record {
      many = long ∙ laid.many;
      chunks = laid.chunks;
      blocks = λ j below. elim (cases_eq j i) [
        | inl e ↦
            let here : segment_at (slice_set rs i x) j ≡ x = ap (λ (k : ℕ). segment_at (slice_set rs i x) k) e ∙ get_or-set_same rs i x (null_ptr, []) low in (
              ap (λ (y : Segment). y.0) here ∙ (laid.blocks i low).0 ∙ ap (λ (k : ℕ). moved (get_or (starts cs) (k / CHUNK) null_ptr) (k % CHUNK * (size * 8))) (sym e),
              ap (λ (y : Segment). length y.1) here ∙ sym (length_refill (length r.1) r.1 ws refl) ∙ (laid.blocks i low).1,
            )
        | inr n ↦
            let there : segment_at (slice_set rs i x) j ≡ segment_at rs j = get_or-set_other rs i j x (null_ptr, []) n in
            let old = laid.blocks j (subst (λ (k : ℕ). j < k) long below) in
            (ap (λ (y : Segment). y.0) there ∙ old.0, ap (λ (y : Segment). length y.1) there ∙ old.1)
      ];
    }

moved-zero : (p : Ptr) (k : ℕ) → k ≡ 0 → p ≡ moved p k
moved-zero (block_ptr b o) k e = ap (λ (n : ℕ). block_ptr b n) (omega arith)
moved-zero null_ptr k e = refl

moved-moved : (p : Ptr) (a k n : ℕ) → n ≡ k + a → moved (moved p a) k ≡ moved p n
moved-moved (block_ptr b o) a k n e = ap (λ (m : ℕ). block_ptr b m) (omega arith)
moved-moved null_ptr a k n e = refl

length-segments_from : (p : Ptr) (bytes : ℕ) (wss : List (List ℕ)) → length (segments_from p bytes wss) ≡ length wss
length-segments_from p bytes [] = refl
length-segments_from p bytes (ws ∷ wss) = ap suc (length-segments_from (moved p bytes) bytes wss)

words_of-segments_from : (p : Ptr) (bytes : ℕ) (wss : List (List ℕ)) → words_of (segments_from p bytes wss) ≡ wss
words_of-segments_from p bytes [] = refl
words_of-segments_from p bytes (ws ∷ wss) = ap (λ (l : List (List ℕ)). ws ∷ l) (words_of-segments_from (moved p bytes) bytes wss)

segments_from_at : (p : Ptr) (bytes : ℕ) (wss : List (List ℕ)) (j : ℕ) → j < length wss → (segment_at (segments_from p bytes wss) j).0 ≡ moved p (j * bytes)
segments_from_at p bytes [] j low = absurd (omega arith)
segments_from_at p bytes (ws ∷ wss) zero low = moved-zero p (0 * bytes) (zero-mul bytes)
segments_from_at p bytes (ws ∷ wss) (suc j) low = segments_from_at (moved p bytes) bytes wss j (omega arith) ∙ moved-moved p bytes (j * bytes) (suc j * bytes) (suc-mul j bytes)

-- Segments that begin side by side.
segments_are : (p : Ptr) (bytes : ℕ) (rs : List Segment) → ((i : ℕ) → i < length rs → (segment_at rs i).0 ≡ moved p (i * bytes)) → rs ≡ segments_from p bytes (words_of rs)
segments_are p bytes [] at = refl
segments_are p bytes (r ∷ rs) at =
    let first : r.0 ≡ p = at 0 (omega arith) ∙ sym (moved-zero p (0 * bytes) (zero-mul bytes)) in
    let others = segments_are (moved p bytes) bytes rs (λ i low. at (suc i) (omega arith) ∙ sym (moved-moved p bytes (i * bytes) (suc i * bytes) (suc-mul i bytes))) in
    ap (λ (l : List Segment). r ∷ l) others ∙ ap (λ (q : Ptr). (q, r.1) ∷ segments_from (moved p bytes) bytes (words_of rs)) first

-- A chunk more.
pub laid_grown : (alloc : Global) (size : ℕ) (cs : List Chunk) (rs : List Segment) (c : Chunk) (wss : List (List ℕ)) → IsLaid alloc size cs rs → IsChunk alloc size c → length wss ≡ CHUNK → All (λ ws. length ws ≡ size) wss
    → IsLaid alloc size (cs ++ c ∷ []) (rs ++ segments_from c.start.ptr (size * 8) wss)
laid_grown alloc size cs rs c wss laid chunk all even =
    let fresh : List Segment = segments_from c.start.ptr (size * 8) wss in
    let more : length fresh ≡ length wss = length-segments_from c.start.ptr (size * 8) wss in
    let many = laid.many in
    let longer = length-append rs fresh in
    let further = length-append cs (c ∷ []) in
    let begins : starts (cs ++ c ∷ []) ≡ starts cs ++ c.start.ptr ∷ [] = map-append (λ (x : Chunk). x.start.ptr) cs (c ∷ []) in
    let few : length (starts cs) ≡ length cs = length-map cs (λ (x : Chunk). x.start.ptr) in
    record {
      many = omega arith;
      chunks = All-push (IsChunk alloc size) cs c laid.chunks chunk;
      blocks = λ i below. elim (cases_lt i (length rs)) [
        | inl low ↦
            let there : segment_at (rs ++ fresh) i ≡ segment_at rs i = get_or_append_left rs fresh (null_ptr, []) i low in
            let old = laid.blocks i low in
            let base : get_or (starts (cs ++ c ∷ [])) (i / CHUNK) null_ptr ≡ get_or (starts cs) (i / CHUNK) null_ptr =
            ap (λ (l : List Ptr). get_or l (i / CHUNK) null_ptr) begins ∙ get_or_append_left (starts cs) (c.start.ptr ∷ []) null_ptr (i / CHUNK) (omega arith) in
            (ap (λ (y : Segment). y.0) there ∙ old.0 ∙ ap (λ (q : Ptr). moved q (i % CHUNK * (size * 8))) (sym base), ap (λ (y : Segment). length y.1) there ∙ old.1)
        | inr high ↦
            let j : ℕ = i - length rs in
            let low : j < length wss = omega arith in
            let there : segment_at (rs ++ fresh) i ≡ segment_at fresh j = get_or-append_right rs fresh i (null_ptr, []) high in
            let place : i / CHUNK ≡ length (starts cs) = omega arith in
            let rest : j ≡ i % CHUNK = omega arith in
            let base : get_or (starts (cs ++ c ∷ [])) (i / CHUNK) null_ptr ≡ c.start.ptr =
            ap (λ (l : List Ptr). get_or l (i / CHUNK) null_ptr) begins ∙ ap (λ (k : ℕ). get_or (starts cs ++ c.start.ptr ∷ []) k null_ptr) place ∙ get_or-append_seam (starts cs) c.start.ptr [] null_ptr in
            let words : (segment_at fresh j).1 ≡ get_or wss j [] = words_at fresh j (omega arith) ∙ ap (λ (l : List (List ℕ)). get_or l j []) (words_of-segments_from c.start.ptr (size * 8) wss) in (
              ap (λ (y : Segment). y.0) there ∙ segments_from_at c.start.ptr (size * 8) wss j low ∙ ap (λ (k : ℕ). moved c.start.ptr (k * (size * 8))) rest ∙ ap (λ (q : Ptr). moved q (i % CHUNK * (size * 8))) (sym base),
              ap (λ (y : Segment). length y.1) there ∙ ap (λ (l : List ℕ). length l) words ∙ All-get_or (λ ws. length ws ≡ size) wss j [] low even,
            )
      ];
    }

pub grown_words : (rs : List Segment) (p : Ptr) (bytes : ℕ) (wss : List (List ℕ)) → words_of (rs ++ segments_from p bytes wss) ≡ words_of rs ++ wss
grown_words rs p bytes wss = map-append (λ (r : Segment). r.1) rs (segments_from p bytes wss) ∙ ap (λ (l : List (List ℕ)). words_of rs ++ l) (words_of-segments_from p bytes wss)

-- Zeros cut into even_parts.
pub even_parts_zeros : (size n : ℕ) → even_parts size n (replicate (n * size) 0) ≡ replicate n (replicate size 0)
even_parts_zeros size zero = refl
even_parts_zeros size (suc n) =
    let all : replicate (suc n * size) 0 ≡ replicate size 0 ++ replicate (n * size) 0 = ap (λ (k : ℕ). replicate k 0) (omega (arith, suc-mul n size)) ∙ sym (replicate-append-replicate size (n * size) 0) in
    let long : size ≡ length (replicate size 0) = sym (length-replicate size 0) in
    let front : take size (replicate (suc n * size) 0) ≡ replicate size 0 =
    ap (λ (l : List ℕ). take size l) all ∙ ap (λ (k : ℕ). take k (replicate size 0 ++ replicate (n * size) 0)) long ∙ take-append_seam (replicate size 0) (replicate (n * size) 0) in
    let back : drop size (replicate (suc n * size) 0) ≡ replicate (n * size) 0 =
    ap (λ (l : List ℕ). drop size l) all ∙ ap (λ (k : ℕ). drop k (replicate size 0 ++ replicate (n * size) 0)) long ∙ drop-append_seam (replicate size 0) (replicate (n * size) 0) in
    ap (λ (l : List ℕ). l ∷ even_parts size n (drop size (replicate (suc n * size) 0))) front ∙ ap (λ (l : List ℕ). replicate size 0 ∷ even_parts size n l) back ∙ ap (λ (l : List (List ℕ)). replicate size 0 ∷ l) (even_parts_zeros size n)

-- Words that were copied over all of a list.
pub copied : (old like new : List ℕ) → new ≡ take 0 old ++ like ++ drop (0 + length like) old → length old ≡ length like → new ≡ like
copied old like new e long = e ∙ ap (λ (l : List ℕ). like ++ l) (nil_from_length (drop (0 + length like) old) (omega (arith, length-drop (0 + length like) old))) ∙ append-nil like

drop_at : (n : ℕ) (rs : List Segment) (i : ℕ) → n + i < length rs → segment_at (drop n rs) i ≡ segment_at rs (n + i)
drop_at zero rs i low = let e : i ≡ 0 + i = omega arith in ap (λ (k : ℕ). segment_at rs k) e
drop_at (suc n) [] i low = absurd (omega arith)
drop_at (suc n) (r ∷ rs) i low = let e : suc (n + i) ≡ suc n + i = omega arith in drop_at n rs i (omega arith) ∙ ap (λ (k : ℕ). segment_at (r ∷ rs) k) e

-- The last chunk's blocks are the last segments.
pub ends_at : (alloc : Global) (size : ℕ) (ds : List Chunk) (c : Chunk) (rs : List Segment) → IsLaid alloc size (ds ++ c ∷ []) rs → EndsAt rs c.start.ptr size CHUNK
ends_at alloc size ds c rs laid =
    let many = laid.many in
    let further = length-append ds (c ∷ []) in
    let kept : ℕ = length rs - CHUNK in
    let last : List Segment = drop kept rs in
    let some : length last ≡ CHUNK = omega (arith, length-drop kept rs) in
    let begins : starts (ds ++ c ∷ []) ≡ starts ds ++ c.start.ptr ∷ [] = map-append (λ (x : Chunk). x.start.ptr) ds (c ∷ []) in
    let few : length (starts ds) ≡ length ds = length-map ds (λ (x : Chunk). x.start.ptr) in
    let all : length (words_of last) ≡ length last = length-map last (λ (r : Segment). r.1) in (
      words_of last,
      all ∙ some,
      (λ i low.
          let there = drop_at kept rs i (omega arith) in
          ap (λ (l : List ℕ). length l) (sym (words_at last i (omega arith))) ∙ ap (λ (r : Segment). length r.1) there ∙ (laid.blocks (kept + i) (omega arith)).1),
      omega arith,
      segments_are c.start.ptr (size * 8) last
          (λ i low.
          let place : (kept + i) / CHUNK ≡ length (starts ds) = omega arith in
          let rest : (kept + i) % CHUNK ≡ i = omega arith in
          let base : get_or (starts (ds ++ c ∷ [])) ((kept + i) / CHUNK) null_ptr ≡ c.start.ptr =
          ap (λ (l : List Ptr). get_or l ((kept + i) / CHUNK) null_ptr) begins ∙ ap (λ (k : ℕ). get_or (starts ds ++ c.start.ptr ∷ []) k null_ptr) place ∙ get_or-append_seam (starts ds) c.start.ptr [] null_ptr in
          ap (λ (r : Segment). r.0) (drop_at kept rs i (omega arith)) ∙ (laid.blocks (kept + i) (omega arith)).0 ∙ ap (λ (q : Ptr). moved q ((kept + i) % CHUNK * (size * 8))) base ∙ ap (λ (k : ℕ). moved c.start.ptr (k * (size * 8))) rest),
    )

-- A chunk less.
pub laid_freed : (alloc : Global) (size : ℕ) (ds : List Chunk) (c : Chunk) (rs : List Segment) → IsLaid alloc size (ds ++ c ∷ []) rs → IsLaid alloc size ds (take (length rs - CHUNK) rs)
laid_freed alloc size ds c rs laid =
    let many = laid.many in
    let further = length-append ds (c ∷ []) in
    let kept : ℕ = length rs - CHUNK in
    let short = length-take kept rs in
    let begins : starts (ds ++ c ∷ []) ≡ starts ds ++ c.start.ptr ∷ [] = map-append (λ (x : Chunk). x.start.ptr) ds (c ∷ []) in
    let few : length (starts ds) ≡ length ds = length-map ds (λ (x : Chunk). x.start.ptr) in
    record {
      many = omega arith;
      chunks = (All-pop (IsChunk alloc size) (ds ++ c ∷ []) ds (Some c) refl laid.chunks).0;
      blocks = λ i below.
          let low : i < kept = omega arith in
          let there : segment_at (take kept rs) i ≡ segment_at rs i = get_or-take kept rs i (null_ptr, []) low in
          let old = laid.blocks i (omega arith) in
          let base : get_or (starts (ds ++ c ∷ [])) (i / CHUNK) null_ptr ≡ get_or (starts ds) (i / CHUNK) null_ptr =
          ap (λ (l : List Ptr). get_or l (i / CHUNK) null_ptr) begins ∙ get_or_append_left (starts ds) (c.start.ptr ∷ []) null_ptr (i / CHUNK) (omega arith) in
          (ap (λ (y : Segment). y.0) there ∙ old.0 ∙ ap (λ (q : Ptr). moved q (i % CHUNK * (size * 8))) base, ap (λ (y : Segment). length y.1) there ∙ old.1);
    }

pub last_chunk : (alloc : Global) (size : ℕ) (ds : List Chunk) (c : Chunk) → All (IsChunk alloc size) (ds ++ c ∷ []) → IsChunk alloc size c
last_chunk alloc size ds c all = (All-pop (IsChunk alloc size) (ds ++ c ∷ []) ds (Some c) refl all).1

-- A block that the view has is a segment.
pub low_of : (size : ℕ) (rs : List Segment) (b : BlockList) (i : ℕ) → ◌≡◌ {A = BlockList} (record { size = size; blocks = words_of rs }) b → i < length b.blocks → i < length rs
low_of size rs b i e low =
    let many : length (words_of rs) ≡ length rs = length-map rs (λ (r : Segment). r.1) in
    let same : length (words_of rs) ≡ length b.blocks = ap (λ (x : BlockList). length x.blocks) e in
    omega arith

-- The words of a segment are those of the block.
pub words_are : (size : ℕ) (rs : List Segment) (b : BlockList) (i : ℕ) (ws : List ℕ) → ◌≡◌ {A = BlockList} (record { size = size; blocks = words_of rs }) b → i < length rs → ws ≡ (segment_at rs i).1 → ws ≡ get_or b.blocks i []
words_are size rs b i ws e low is = is ∙ words_at rs i low ∙ ap (λ (x : BlockList). get_or x.blocks i []) e

pub words_many : (alloc : Global) (size : ℕ) (cs : List Chunk) (rs : List Segment) (b : BlockList) (i : ℕ) (ws : List ℕ) → ◌≡◌ {A = BlockList} (record { size = size; blocks = words_of rs }) b → IsLaid alloc size cs rs → i < length rs → ws ≡ (segment_at rs i).1 → length ws ≡ b.size
words_many alloc size cs rs b i ws e laid low is = ap (λ (l : List ℕ). length l) is ∙ (laid.blocks i low).1 ∙ ap (λ (x : BlockList). x.size) e
