-- The pool while a block of it is lent, and what its invariant tells.
use Rattle.std.proofs.Common.{arith, Bool, true, false, cond, drop, replicate, ◌∷◌, ◌++◌, ◌-◌, ◌≡◌, ◌<◌, ◌+◌, ◌≤◌, ◌^◌, ◌%◌, ℕ, List, [], length, get_or, slice_set, Option, None, is_some, inl, inr, ap, sym, ◌∙◌, subst, unwrap_or, vec_capacity}
use Rattle.std.specs.Ordering.{nat_cmp}
use Rattle.std.specs.FinMap as map
use Rattle.std.specs.FinMap.{len-insert}
use Rattle.std.specs.List.{refill, length_refill, All}
use Rattle.std.proofs.lemmas.Cmp.{nat_cmp_total}
use Rattle.std.proofs.lemmas.Bool.{cases_eq}
use Rattle.std.proofs.lemmas.List.{length-set, length-append, length-replicate, get_or-set_same}
use lib.Seq.{take_at}
use Rattle.std.proofs.lemmas.List.Elements.{All-get_or, All-set, All-append, All-replicate}
use Rattle.graph_pool.specs.BlockList.{BlockList, with_block}
use Rattle.graph_pool.specs.PoolContents.{PoolContents, with_words}
use Rattle.graph_pool.specs.Backing.{live_blocks, IsPool}
use Rattle.graph_pool.specs.declared.pool.Pool.TheInside.{Inside}
use Rattle.graph_pool.proofs.LiveBlocks.{live_blocks-set, live_blocks-given, live_blocks-pushed, live_blocks-taken, live_blocks-grown, live_words, get-past, get-unmarked}
use Rattle.graph_pool.proofs.LinkLemmas.{chain_apart, chain_written, chain_marked, chain_pushed, chain_grown, chain_end, chain_first, chain_taken}
use Rattle.graph_pool.specs.Links.{IsNoneOf, IsChain}
use Rattle.graph_pool.specs.declared.store.TheConstants.{CHUNK}

-- A block that is filled anew has as many words as each.
pub even_row : (bs : List (List ℕ)) (i size : ℕ) (ws : List ℕ) → i < length bs → All (λ xs. length xs ≡ size) bs → All (λ xs. length xs ≡ size) (slice_set bs i (refill size (get_or bs i []) ws))
even_row bs i size ws low even =
    All-set (λ xs. length xs ≡ size) bs i (refill size (get_or bs i []) ws)
    (sym (length_refill size (get_or bs i []) ws (sym (All-get_or (λ xs. length xs ≡ size) bs i [] low even)))) even

pub lent_pool : (c : PoolContents) (size free : ℕ) (ms : List Bool) (bs : List (List ℕ)) (h : ℕ) (w : List ℕ) → ◌≡◌ {A = PoolContents} (record { words = size; blocks = live_blocks ms bs; free = free }) c → map.contains_key (live_blocks ms bs) h ≡ true
    → ◌≡◌ {A = PoolContents} (record { words = size; blocks = live_blocks ms (slice_set bs h (refill size (get_or bs h []) w)); free = free }) (with_words c h w)
lent_pool c size free ms bs h w e live =
    let words = live_words ms bs h live in
    ap (λ (m : map.FinMap nat_cmp (List ℕ)). record { words = size; blocks = m; free = free }) (live_blocks-set ms bs h (refill size (get_or bs h []) w) live)
    ∙ ap (λ (o : Option (List ℕ)). record { words = size; blocks = map.insert (live_blocks ms bs) h (refill size (unwrap_or o []) w); free = free }) (sym words.3)
    ∙ ap (λ (x : PoolContents). with_words x h w) e

len-lent : (ms : List Bool) (bs : List (List ℕ)) (h : ℕ) (ws : List ℕ) → map.contains_key (live_blocks ms bs) h ≡ true → map.len (live_blocks ms (slice_set bs h ws)) ≡ map.len (live_blocks ms bs)
len-lent ms bs h ws live =
    ap (λ (m : map.FinMap nat_cmp (List ℕ)). map.len m) (live_blocks-set ms bs h ws live)
    ∙ len-insert nat_cmp_total (live_blocks ms bs) h ws
    ∙ ap (λ (c : Bool). cond c (map.len (live_blocks ms bs)) (map.len (live_blocks ms bs) + 1)) live

pub pool_lent : (p : Inside) (h : ℕ) (w : List ℕ) → map.contains_key (live_blocks p.marks.items p.store.blocks) h ≡ true → IsPool p
    → IsPool (record { store = with_block p.store h w; marks = p.marks; next = p.next; live = p.live; free = p.free })
pool_lent p h w live i =
    let words = live_words p.marks.items p.store.blocks h live in
    let ws : List ℕ = refill p.store.size (get_or p.store.blocks h []) w in
    let long : length (slice_set p.store.blocks h ws) ≡ length p.store.blocks = length-set p.store.blocks h ws in
    let same = len-lent p.marks.items p.store.blocks h ws live in
    let used = i.used in
    let free = i.free in
    record {
      some = i.some;
      even = even_row p.store.blocks h p.store.size w words.0 i.even;
      used = omega arith;
      roomy = subst (λ (k : ℕ). k ≤ vec_capacity p.marks) (sym long) i.roomy;
      few = subst (λ (k : ℕ). k ≤ 2 ^ 32) (sym long) i.few;
      chunked = subst (λ (k : ℕ). k % CHUNK ≡ 0) (sym long) i.chunked;
      back = i.back;
      chain = chain_written p.store.blocks p.marks.items p.next i.back h ws (chain_apart p.store.blocks p.marks.items p.next i.back h words.2 i.chain) i.chain;
      free = omega arith;
      total = ap (λ (k : ℕ). k + p.free) same ∙ i.total ∙ sym long;
      lives = same ∙ i.lives;
    }

not_none : (o : Option (List ℕ)) (n : ℕ) → o ≡ None → is_some o ≡ true → 0 < n
not_none o n e f = cc

-- A live handle is counted.
pub some_live : (m : map.FinMap nat_cmp (List ℕ)) (h : ℕ) → map.contains_key m h ≡ true → 0 < map.len m
some_live m h live =
    elim (cases_eq (map.len m) 0) [
      | inl e ↦ not_none (map.get m h) (map.len m) (ap (λ (x : map.FinMap nat_cmp (List ℕ)). map.get x h) (map.empty_of_len m e) ∙ map.get-empty nat_cmp h) live
      | inr n ↦ omega arith
    ]

-- A handle that is not live has no words, and is not counted.
pub none_of : (o : Option (List ℕ)) → o ≡ None → is_some o ≡ false
none_of o e = ap (λ (x : Option (List ℕ)). is_some x) e

pub words_long : (p : Inside) (c : PoolContents) (h : ℕ) (ws : List ℕ) → p.store.size ≡ c.words → IsPool p → h < length p.store.blocks → ws ≡ get_or p.store.blocks h [] → length ws ≡ c.words
words_long p c h ws same i low is = ap (λ (l : List ℕ). length l) is ∙ All-get_or (λ xs. length xs ≡ p.store.size) p.store.blocks h [] low i.even ∙ same

-- The words of a block whose first word was written, which is filled as far as it goes.
relinked : (old : List ℕ) (size next : ℕ) → length old ≡ size → refill size old (slice_set old 0 next) ≡ slice_set old 0 next
relinked old size next long = take_at (slice_set old 0 next) (drop (length (slice_set old 0 next)) old) size (length-set old 0 next ∙ long)

-- A live block is taken back.
pub pool_taken : (p q : Inside) (h : ℕ) → map.contains_key (live_blocks p.marks.items p.store.blocks) h ≡ true → IsPool p → q.store ≡ with_block p.store h (slice_set (get_or p.store.blocks h []) 0 p.next)
    → q.marks.items ≡ slice_set p.marks.items h false → vec_capacity q.marks ≡ vec_capacity p.marks → q.next ≡ h + 1 → q.live + 1 ≡ p.live → q.free ≡ p.free + 1
    → IsPool q × (live_blocks q.marks.items q.store.blocks ≡ map.remove (live_blocks p.marks.items p.store.blocks) h)
pool_taken p q h live i store marks cap next fewer more =
    let bs = p.store.blocks in
    let ms = p.marks.items in
    let old : List ℕ = get_or bs h [] in
    let ws : List ℕ = refill p.store.size old (slice_set old 0 p.next) in
    let words = live_words ms bs h live in
    let below = words.0 in
    let low = words.1 in
    let some = i.some in
    let full : length old ≡ p.store.size = All-get_or (λ xs. length xs ≡ p.store.size) bs h [] below i.even in
    let first : get_or ws 0 0 ≡ p.next = ap (λ (l : List ℕ). get_or l 0 0) (relinked old p.store.size p.next full) ∙ get_or-set_same old 0 p.next 0 (omega arith) in
    let size : q.store.size ≡ p.store.size = ap (λ (b : BlockList). b.size) store in
    let whole : q.store.blocks ≡ slice_set bs h ws = ap (λ (b : BlockList). b.blocks) store in
    let many : length q.store.blocks ≡ length bs = ap (λ (l : List (List ℕ)). length l) whole ∙ length-set bs h ws in
    let marked : length q.marks.items ≡ length ms = ap (λ (l : List Bool). length l) marks ∙ length-set ms h false in
    let blocks : live_blocks q.marks.items q.store.blocks ≡ map.remove (live_blocks ms bs) h =
    ap (λ (l : List Bool). live_blocks l q.store.blocks) marks ∙ ap (λ (l : List (List ℕ)). live_blocks (slice_set ms h false) l) whole ∙ live_blocks-taken ms bs h ws in
    let less : map.len (live_blocks q.marks.items q.store.blocks) ≡ map.len (live_blocks ms bs) - 1 =
    ap (λ (m : map.FinMap nat_cmp (List ℕ)). map.len m) blocks ∙ map.len-remove nat_cmp_total (live_blocks ms bs) h
    ∙ ap (λ (b : Bool). cond b (map.len (live_blocks ms bs) - 1) (map.len (live_blocks ms bs))) live in
    let counted = some_live (live_blocks ms bs) h live in
    let used = i.used in
    let free = i.free in
    let total = i.total in
    let lives = i.lives in
    let chain = chain_taken bs ms p.next i.back h ws words.2 low below first i.chain in (
      record {
        some = subst (λ (k : ℕ). 0 < k) (sym size) i.some;
        even = subst (λ (b : BlockList). All (λ xs. length xs ≡ b.size) b.blocks) (sym store) (even_row bs h p.store.size (slice_set old 0 p.next) below i.even);
        used = omega arith;
        roomy = subst (λ (k : ℕ). length q.store.blocks ≤ k) (sym cap) (subst (λ (k : ℕ). k ≤ vec_capacity p.marks) (sym many) i.roomy);
        few = subst (λ (k : ℕ). k ≤ 2 ^ 32) (sym many) i.few;
        chunked = subst (λ (k : ℕ). k % CHUNK ≡ 0) (sym many) i.chunked;
        back = h ∷ i.back;
        chain = subst (λ (l : List (List ℕ)). IsChain l q.marks.items q.next (h ∷ i.back)) (sym whole)
            (subst (λ (l : List Bool). IsChain (slice_set bs h ws) l q.next (h ∷ i.back)) (sym marks) (subst (λ (k : ℕ). IsChain (slice_set bs h ws) (slice_set ms h false) k (h ∷ i.back)) (sym next) chain));
        free = omega arith;
        total = omega arith;
        lives = omega arith;
      },
      blocks,
    )

-- What a block that is given out leaves, whatever marks it.
given : (p q : Inside) (h : ℕ) (hs : List ℕ) → IsPool p → q.store ≡ p.store → length q.marks.items ≤ length p.store.blocks → vec_capacity q.marks ≡ vec_capacity p.marks
    → IsChain p.store.blocks q.marks.items q.next hs → length hs + (length p.store.blocks - length q.marks.items) ≡ q.free → map.get (live_blocks p.marks.items p.store.blocks) h ≡ None
    → live_blocks q.marks.items p.store.blocks ≡ map.insert (live_blocks p.marks.items p.store.blocks) h (get_or p.store.blocks h []) → q.live ≡ p.live + 1 → q.free + 1 ≡ p.free
    → IsPool q × (live_blocks q.marks.items q.store.blocks ≡ map.insert (live_blocks p.marks.items p.store.blocks) h (get_or p.store.blocks h []))
given p q h hs i store used cap chain free none blocks more fewer =
    let bs = p.store.blocks in
    let whole : bs ≡ q.store.blocks = ap (λ (b : BlockList). b.blocks) (sym store) in
    let many : length bs ≡ length q.store.blocks = ap (λ (l : List (List ℕ)). length l) whole in
    let all : live_blocks q.marks.items q.store.blocks ≡ map.insert (live_blocks p.marks.items bs) h (get_or bs h []) = ap (λ (l : List (List ℕ)). live_blocks q.marks.items l) (sym whole) ∙ blocks in
    let counted : map.len (live_blocks q.marks.items q.store.blocks) ≡ map.len (live_blocks p.marks.items bs) + 1 =
    ap (λ (m : map.FinMap nat_cmp (List ℕ)). map.len m) all ∙ len-insert nat_cmp_total (live_blocks p.marks.items bs) h (get_or bs h [])
    ∙ ap (λ (o : Option (List ℕ)). cond (is_some o) (map.len (live_blocks p.marks.items bs)) (map.len (live_blocks p.marks.items bs) + 1)) none in
    let total = i.total in
    let lives = i.lives in (
      record {
        some = subst (λ (b : BlockList). 0 < b.size) (sym store) i.some;
        even = subst (λ (b : BlockList). All (λ xs. length xs ≡ b.size) b.blocks) (sym store) i.even;
        used = omega arith;
        roomy = subst (λ (k : ℕ). length q.store.blocks ≤ k) (sym cap) (subst (λ (k : ℕ). k ≤ vec_capacity p.marks) many i.roomy);
        few = subst (λ (k : ℕ). k ≤ 2 ^ 32) many i.few;
        chunked = subst (λ (k : ℕ). k % CHUNK ≡ 0) many i.chunked;
        back = hs;
        chain = subst (λ (l : List (List ℕ)). IsChain l q.marks.items q.next hs) whole chain;
        free = omega arith;
        total = omega arith;
        lives = omega arith;
      },
      all,
    )

-- The first block without a mark is given out.
pub pool_pushed : (p q : Inside) → IsPool p → 0 < p.free → p.next ≡ 0 → q.store ≡ p.store → q.marks.items ≡ p.marks.items ++ true ∷ [] → vec_capacity q.marks ≡ vec_capacity p.marks
    → q.next ≡ p.next → q.live ≡ p.live + 1 → q.free + 1 ≡ p.free
    → IsPool q × (length p.marks.items < length p.store.blocks) × (map.get (live_blocks p.marks.items p.store.blocks) (length p.marks.items) ≡ None)
    × (live_blocks q.marks.items q.store.blocks ≡ map.insert (live_blocks p.marks.items p.store.blocks) (length p.marks.items) (get_or p.store.blocks (length p.marks.items) []))
pool_pushed p q i some end store marks cap next more fewer =
    let bs = p.store.blocks in
    let ms = p.marks.items in
    let none = chain_end bs ms p.next i.back end i.chain in
    let free = i.free in
    let low : length ms < length bs = omega arith in
    let longer : length q.marks.items ≡ length ms + 1 = ap (λ (l : List Bool). length l) marks ∙ length-append ms (true ∷ []) in
    let dead = get-past ms bs (length ms) (omega arith) in
    let chain = subst (λ (l : List Bool). IsChain bs l q.next i.back) (sym marks) (subst (λ (k : ℕ). IsChain bs (ms ++ true ∷ []) k i.back) (sym next) (chain_pushed bs ms p.next i.back true i.chain)) in
    let done = given p q (length ms) i.back i store (omega arith) cap chain (omega arith) dead (ap (λ (l : List Bool). live_blocks l bs) marks ∙ live_blocks-pushed ms bs low) more fewer in
    (done.0, low, dead, done.1)

-- The first of the linked blocks is given out.
pub pool_relinked : (p q : Inside) (h : ℕ) → IsPool p → 0 < p.next → h + 1 ≡ p.next → q.store ≡ p.store → q.marks.items ≡ slice_set p.marks.items h true → vec_capacity q.marks ≡ vec_capacity p.marks
    → q.next ≡ get_or (get_or p.store.blocks h []) 0 0 → q.live ≡ p.live + 1 → q.free + 1 ≡ p.free
    → IsPool q × (map.get (live_blocks p.marks.items p.store.blocks) h ≡ None)
    × (live_blocks q.marks.items q.store.blocks ≡ map.insert (live_blocks p.marks.items p.store.blocks) h (get_or p.store.blocks h []))
pool_relinked p q h i some is store marks cap next more fewer =
    let bs = p.store.blocks in
    let ms = p.marks.items in
    let first = chain_first bs ms p.next i.back some i.chain in
    let g = first.0 in
    let rest = first.1 in
    let place : p.next ≡ g + 1 = first.2 in
    let same : g ≡ h = omega arith in
    let count : length i.back ≡ length rest + 1 = first.3 in
    let inside : h < length ms = subst (λ (k : ℕ). k < length ms) same first.4 in
    let dead = get-unmarked ms bs h (subst (λ (k : ℕ). get_or ms k true ≡ false) same first.5) in
    let apart = subst (λ (k : ℕ). IsNoneOf k rest) same first.6 in
    let tail = subst (λ (k : ℕ). IsChain bs ms (get_or (get_or bs k []) 0 0) rest) same first.7 in
    let used = i.used in
    let free = i.free in
    let longer : length q.marks.items ≡ length ms = ap (λ (l : List Bool). length l) marks ∙ length-set ms h true in
    let chain = subst (λ (l : List Bool). IsChain bs l q.next rest) (sym marks)
    (subst (λ (k : ℕ). IsChain bs (slice_set ms h true) k rest) (sym next) (chain_marked bs ms (get_or (get_or bs h []) 0 0) rest h true apart tail)) in
    let done = given p q h rest i store (omega arith) cap chain (omega arith) dead (ap (λ (l : List Bool). live_blocks l bs) marks ∙ live_blocks-given ms bs h inside (omega arith)) more fewer in
    (done.0, dead, done.1)

-- The first linked block is a block.
pub linked_low : (p : Inside) (h : ℕ) → IsPool p → 0 < p.next → h + 1 ≡ p.next → (h < length p.marks.items) × (h < length p.store.blocks)
linked_low p h i some is =
    let first = chain_first p.store.blocks p.marks.items p.next i.back some i.chain in
    let place : p.next ≡ first.0 + 1 = first.2 in
    let inside = first.4 in
    let used = i.used in
    (omega arith, omega arith)

-- A chunk more.
pub pool_grown : (p q : Inside) → IsPool p → p.free ≡ 0 → map.len (live_blocks p.marks.items p.store.blocks) + 1 < 2 ^ 32 → q.store.size ≡ p.store.size → q.store.blocks ≡ p.store.blocks ++ replicate CHUNK (replicate p.store.size 0)
    → q.marks.items ≡ p.marks.items → length p.marks.items + CHUNK ≤ vec_capacity q.marks → q.next ≡ p.next → q.live ≡ p.live → q.free ≡ CHUNK
    → IsPool q × (live_blocks q.marks.items q.store.blocks ≡ live_blocks p.marks.items p.store.blocks)
pool_grown p q i none few size whole marks wide next same more =
    let bs = p.store.blocks in
    let ms = p.marks.items in
    let fresh : List (List ℕ) = replicate CHUNK (replicate p.store.size 0) in
    let count : length fresh ≡ CHUNK = length-replicate CHUNK (replicate {A = ℕ} p.store.size 0) in
    let longer : length q.store.blocks ≡ length bs + length fresh = ap (λ (l : List (List ℕ)). length l) whole ∙ length-append bs fresh in
    let used = i.used in
    let free = i.free in
    let total = i.total in
    let lives = i.lives in
    let chunked = i.chunked in
    let marked : length q.marks.items ≡ length ms = ap (λ (l : List Bool). length l) marks in
    let blocks : live_blocks q.marks.items q.store.blocks ≡ live_blocks ms bs = ap (λ (l : List Bool). live_blocks l q.store.blocks) marks ∙ ap (λ (l : List (List ℕ)). live_blocks ms l) whole ∙ live_blocks-grown ms bs fresh used in
    let counted : map.len (live_blocks q.marks.items q.store.blocks) ≡ map.len (live_blocks ms bs) = ap (λ (m : map.FinMap nat_cmp (List ℕ)). map.len m) blocks in (
      record {
        some = subst (λ (k : ℕ). 0 < k) (sym size) i.some;
        even = subst (λ (l : List (List ℕ)). All (λ ws. length ws ≡ q.store.size) l) (sym whole)
            (subst (λ (k : ℕ). All (λ ws. length ws ≡ k) (bs ++ fresh)) (sym size)
            (All-append (λ ws. length ws ≡ p.store.size) bs fresh i.even (All-replicate (λ ws. length ws ≡ p.store.size) CHUNK (replicate p.store.size 0) (length-replicate p.store.size 0))));
        used = omega arith;
        roomy = omega arith;
        few = omega arith;
        chunked = omega arith;
        back = i.back;
        chain = subst (λ (l : List (List ℕ)). IsChain l q.marks.items q.next i.back) (sym whole)
            (subst (λ (l : List Bool). IsChain (bs ++ fresh) l q.next i.back) (sym marks) (subst (λ (k : ℕ). IsChain (bs ++ fresh) ms k i.back) (sym next) (chain_grown bs fresh ms p.next i.back used i.chain)));
        free = omega arith;
        total = omega arith;
        lives = omega arith;
      },
      blocks,
    )
