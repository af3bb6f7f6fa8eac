-- A pool and blocks in it that are one's own: one more, one less, one that is written.
use Rattle.std.proofs.Common.{rules, arith, refl, zero, suc, ◌≡◌, ◌≢◌, ◌<◌, ◌≤◌, ◌+◌, ◌∷◌, ◌++◌, ℕ, true, false, List, [], length, get_or, slice_index_or, map as each, Option, None, is_some, drop, ap, sym, subst, ◌∙◌, inl, inr}
use Rattle.std.specs.List.{refill}
use Rattle.std.specs.Option.{unwrap_or}
use Rattle.std.specs.Ordering.{nat_cmp}
use Rattle.std.specs.FinMap as map
use Rattle.std.specs.FinMap.{same_map, nat_cmp-IsAntisymmetric, gets}
use Rattle.std.proofs.lemmas.Bool.{cases_eq}
use Rattle.std.proofs.lemmas.Cmp.{nat_cmp_total}
use Rattle.std.proofs.lemmas.List.{append-nil, get_or-map, get_or_append_left, length-append, length-map, map-append}
use lib.Seq.{take_at}
use Rattle.graph_pool.specs.Links.{IsNoneOf}
use Rattle.graph_pool.specs.declared.pool.Handle.{Handle}
use Rattle.graph_pool.proofs.LiveBlocks.{get-inserted_same, get-inserted_other, get-removed_same, get-removed_other}
use Rattle.shared_graphs.specs.Graphs.{block_at}
use Rattle.shared_graphs.specs.GraphBlocks.{Blocks}
use Rattle.shared_graphs.specs.PoolShares.{handles, all_handles, shares_of, all_but, AllLive, AreLive, words_under}
use Rattle.shared_graphs.specs.declared.graph_blocks.GraphBlocks.TheInside.{Inside}

abbrev pub BlockMap : Type 0
BlockMap = map.FinMap nat_cmp (List ℕ)

same : (m n : BlockMap) → ((q : ℕ) → map.get m q ≡ map.get n q) → m ≡ n
same m n each_is = same_map nat_cmp_total nat_cmp-IsAntisymmetric m n each_is

removed_twice : (m : BlockMap) (a b : ℕ) → map.remove (map.remove m a) b ≡ map.remove (map.remove m b) a
removed_twice m a b = same (map.remove (map.remove m a) b) (map.remove (map.remove m b) a) (λ q. grind (gets, rules, arith))

taken_back : (m : BlockMap) (h : ℕ) (ws : List ℕ) → map.get m h ≡ None → map.remove (map.insert m h ws) h ≡ m
taken_back m h ws none = same (map.remove (map.insert m h ws) h) m
    (λ q. elim (cases_eq q h) [
      | inl e ↦ ap (λ (k : ℕ). map.get (map.remove (map.insert m h ws) h) k) e ∙ get-removed_same (map.insert m h ws) h ∙ sym none ∙ ap (λ (k : ℕ). map.get m k) (sym e)
      | inr n ↦ get-removed_other (map.insert m h ws) h q n ∙ get-inserted_other m h ws q n
    ])

removed_inserted : (m : BlockMap) (x h : ℕ) (ws : List ℕ) → x ≢ h → map.remove (map.insert m h ws) x ≡ map.insert (map.remove m x) h ws
removed_inserted m x h ws apart = same (map.remove (map.insert m h ws) x) (map.insert (map.remove m x) h ws) (λ q. grind (gets, rules, arith))

written_twice : (m : BlockMap) (h : ℕ) (ws v : List ℕ) → map.insert (map.insert m h ws) h v ≡ map.insert m h v
written_twice m h ws v = same (map.insert (map.insert m h ws) h v) (map.insert m h v) (λ q. grind (gets, rules, arith))

abbrev IsLive : BlockMap → ℕ → Type 0
IsLive m h = map.contains_key m h ≡ true

gone : (m : BlockMap) (h : ℕ) → map.contains_key (map.remove m h) h ≡ false
gone m h = ap (λ (o : Option (List ℕ)). is_some o) (get-removed_same m h)

stays : (m : BlockMap) (x h : ℕ) → x ≢ h → map.contains_key (map.remove m h) x ≡ map.contains_key m x
stays m x h apart = ap (λ (o : Option (List ℕ)). is_some o) (get-removed_other m h x apart)

-- A live handle is another than one that isn't.
apart_of : (m : BlockMap) (x h : ℕ) → IsLive m x → map.contains_key m h ≡ false → x ≢ h
apart_of m x h live dead = λ e. let clash : true ≡ false = sym live ∙ ap (λ (k : ℕ). map.contains_key m k) e ∙ dead in cc

-- A block more.
pub one_more : (hs : List ℕ) (m : BlockMap) (h : ℕ) (ws : List ℕ) → map.get m h ≡ None → AllLive m hs
    → AllLive (map.insert m h ws) (hs ++ h ∷ []) × (all_but (map.insert m h ws) (hs ++ h ∷ []) ≡ all_but m hs)
one_more [] m h ws none live = ((ap (λ (o : Option (List ℕ)). is_some o) (get-inserted_same m h ws), tt), taken_back m h ws none)
one_more (x ∷ hs) m h ws none live =
    let apart : x ≢ h = apart_of m x h live.0 (ap (λ (o : Option (List ℕ)). is_some o) none) in
    let swapped = removed_inserted m x h ws apart in
    let free : map.get (map.remove m x) h ≡ None = get-removed_other m x h (λ e. apart (sym e)) ∙ none in
    let more = one_more hs (map.remove m x) h ws free live.1 in (
      (
        ap (λ (o : Option (List ℕ)). is_some o) (get-inserted_other m h ws x apart) ∙ live.0,
        subst (λ (n : BlockMap). AllLive n (hs ++ h ∷ [])) (sym swapped) more.0,
      ),
      ap (λ (n : BlockMap). all_but n (hs ++ h ∷ [])) swapped ∙ more.1,
    )

-- A block less.
pub one_less : (xs ys : List ℕ) (m : BlockMap) (h : ℕ) → AllLive m (xs ++ h ∷ ys)
    → (map.contains_key m h ≡ true) × AllLive (map.remove m h) (xs ++ ys) × (all_but (map.remove m h) (xs ++ ys) ≡ all_but m (xs ++ h ∷ ys))
one_less [] ys m h live = (live.0, live.1, refl)
one_less (x ∷ xs) ys m h live =
    let less = one_less xs ys (map.remove m x) h live.1 in
    let apart : h ≢ x = apart_of (map.remove m x) h x less.0 (gone m x) in
    let swapped = removed_twice m x h in (
      sym (stays m h x apart) ∙ less.0,
      (stays m x h (λ e. apart (sym e)) ∙ live.0, subst (λ (n : BlockMap). AllLive n (xs ++ ys)) swapped less.1),
      ap (λ (n : BlockMap). all_but n (xs ++ ys)) (sym swapped) ∙ less.2,
    )

-- A handle that isn't live is none of those that are.
none_dead : (hs : List ℕ) (m : BlockMap) (h : ℕ) → map.contains_key m h ≡ false → AllLive m hs → IsNoneOf h hs
none_dead [] m h dead live = tt
none_dead (x ∷ hs) m h dead live =
    let apart : x ≢ h = apart_of m x h live.0 dead in
    (apart, none_dead hs (map.remove m x) h (stays m h x (λ e. apart (sym e)) ∙ dead) live.1)

-- The words under other handles are the same.
words_apart : (hs : List ℕ) (m n : BlockMap) (h : ℕ) → ((x : ℕ) → x ≢ h → map.get n x ≡ map.get m x) → IsNoneOf h hs → each (words_under n) hs ≡ each (words_under m) hs
words_apart [] m n h others none = refl
words_apart (g ∷ hs) m n h others none =
    ap (λ (o : Option (List ℕ)). unwrap_or o [] ∷ each (words_under n) hs) (others g none.0) ∙ ap (λ (l : List (List ℕ)). words_under m g ∷ l) (words_apart hs m n h others none.1)

-- A handle of those that are live.
pub live_at : (hs : List ℕ) (m : BlockMap) (k : ℕ) → k < length hs → AllLive m hs → map.contains_key m (get_or hs k 0) ≡ true
live_at [] m k low live = absurd (omega arith)
live_at (x ∷ hs) m zero low live = live.0
live_at (x ∷ hs) m (suc k) low live =
    let there = live_at hs (map.remove m x) k (omega arith) live.1 in
    sym (stays m (get_or hs k 0) x (apart_of (map.remove m x) (get_or hs k 0) x there (gone m x))) ∙ there

-- The last block alone is written.
module _ (hs : List ℕ) (m : BlockMap) (f : ℕ) (live : AllLive m (hs ++ f ∷ [])) where
  before : AllLive (map.remove m f) hs × (all_but (map.remove m f) hs ≡ all_but m (hs ++ f ∷ []))
  before =
      let less = one_less hs [] m f live in
      (subst (λ (l : List ℕ). AllLive (map.remove m f) l) (append-nil hs) less.1, ap (λ (l : List ℕ). all_but (map.remove m f) l) (sym (append-nil hs)) ∙ less.2)

  pub last_none : IsNoneOf f hs
  last_none = none_dead hs (map.remove m f) f (gone m f) before.0

  pub last_live : map.contains_key m f ≡ true
  last_live = (one_less hs [] m f live).0

  over : (ws : List ℕ) → map.insert m f ws ≡ map.insert (map.remove m f) f ws
  over ws = same (map.insert m f ws) (map.insert (map.remove m f) f ws) (λ q. grind (gets, rules, arith))

  pub last_written : (ws : List ℕ) → AllLive (map.insert m f ws) (hs ++ f ∷ []) × (all_but (map.insert m f ws) (hs ++ f ∷ []) ≡ all_but m (hs ++ f ∷ []))
      × (each (words_under (map.insert m f ws)) hs ≡ each (words_under m) hs) × (words_under (map.insert m f ws) f ≡ ws)
  last_written ws =
      let more = one_more hs (map.remove m f) f ws (get-removed_same m f) before.0 in (
        subst (λ (x : BlockMap). AllLive x (hs ++ f ∷ [])) (sym (over ws)) more.0,
        ap (λ (x : BlockMap). all_but x (hs ++ f ∷ [])) (over ws) ∙ more.1 ∙ before.1,
        words_apart hs m (map.insert m f ws) f (λ x apart. get-inserted_other m f ws x apart) last_none,
        ap (λ (o : Option (List ℕ)). unwrap_or o []) (get-inserted_same m f ws),
      )

  -- One more is behind it.
  pub last_kept : (n : BlockMap) (g : ℕ) (ws : List ℕ) → map.get m g ≡ None → n ≡ map.insert m g ws → AllLive n ((hs ++ f ∷ []) ++ g ∷ [])
      × (all_but n ((hs ++ f ∷ []) ++ g ∷ []) ≡ all_but m (hs ++ f ∷ [])) × (each (words_under n) (hs ++ f ∷ []) ≡ each (words_under m) hs ++ words_under m f ∷ [])
  last_kept n g ws none made =
      let more = one_more (hs ++ f ∷ []) m g ws none live in
      let dead : map.contains_key m g ≡ false = ap (λ (o : Option (List ℕ)). is_some o) none in (
        subst (λ (x : BlockMap). AllLive x ((hs ++ f ∷ []) ++ g ∷ [])) (sym made) more.0,
        ap (λ (x : BlockMap). all_but x ((hs ++ f ∷ []) ++ g ∷ [])) made ∙ more.1,
        words_apart (hs ++ f ∷ []) m n g (λ x apart. ap (λ (k : BlockMap). map.get k x) made ∙ get-inserted_other m g ws x apart) (none_dead (hs ++ f ∷ []) m g dead live)
            ∙ map-append (words_under m) hs (f ∷ []),
      )

  -- It is given back.
  pub last_given : AllLive (map.remove m f) hs × (all_but (map.remove m f) hs ≡ all_but m (hs ++ f ∷ []))
  last_given = before

-- The first block of one's own.
pub first_taken : (bs : List Handle) (m n : BlockMap) (f : ℕ) (ws : List ℕ) → bs ≡ [] → map.get m f ≡ None → n ≡ map.insert m f ws → AllLive n (handles bs ++ f ∷ []) × (all_but n (handles bs ++ f ∷ []) ≡ m)
first_taken bs m n f ws none free made =
    let more = one_more [] m f ws free tt in
    let list = ap (λ (l : List Handle). handles l ++ f ∷ []) none in (
      subst (λ (l : List ℕ). AllLive n l) (sym list) (subst (λ (x : BlockMap). AllLive x (f ∷ [])) (sym made) more.0),
      ap (λ (l : List ℕ). all_but n l) list ∙ ap (λ (x : BlockMap). all_but x (f ∷ [])) made ∙ more.1,
    )

-- The handles, one behind the others.
pub handles_more : (bs : List Handle) (h : Handle) → handles (bs ++ h ∷ []) ≡ handles bs ++ h.0 ∷ []
handles_more bs h = map-append (λ (x : Handle). x.0) bs (h ∷ [])

-- The handle at a place is live, another than the last, and has the words of that place.
handle_at : (bs : List Handle) (k : ℕ) (h : Handle) → k < length bs → h ≡ slice_index_or bs k h → get_or (handles bs) k 0 ≡ h.0
handle_at bs k h low is = get_or-map (λ (x : Handle). x.0) bs k h 0 low ∙ ap (λ (x : Handle). x.0) (sym is)

pub handle_live : (bs : List Handle) (f : ℕ) (m : BlockMap) (k : ℕ) (h : Handle) → k < length bs → h ≡ slice_index_or bs k h → AllLive m (handles bs ++ f ∷ []) → map.contains_key m h.0 ≡ true
handle_live bs f m k h low is live =
    let many = length-map bs (λ (x : Handle). x.0) in
    let more = length-append (handles bs) (f ∷ []) in
    let here : get_or (handles bs ++ f ∷ []) k 0 ≡ h.0 = get_or_append_left (handles bs) (f ∷ []) 0 k (omega arith) ∙ handle_at bs k h low is in
    subst (λ (x : ℕ). map.contains_key m x ≡ true) here (live_at (handles bs ++ f ∷ []) m k (omega arith) live)

handle_apart : (bs : List Handle) (f : ℕ) (m : BlockMap) (k : ℕ) (h : Handle) → k < length bs → h ≡ slice_index_or bs k h → AllLive m (handles bs ++ f ∷ []) → h.0 ≢ f
handle_apart bs f m k h low is live =
    let many = length-map bs (λ (x : Handle). x.0) in
    subst (λ (x : ℕ). x ≢ f) (handle_at bs k h low is) (none_at (handles bs) k (omega arith) (last_none (handles bs) m f live))
  where
    none_at : (hs : List ℕ) (i : ℕ) → i < length hs → IsNoneOf f hs → get_or hs i 0 ≢ f
    none_at [] i less none = absurd (omega arith)
    none_at (x ∷ hs) zero less none = none.0
    none_at (x ∷ hs) (suc i) less none = none_at hs i (omega arith) none.1

pub words_here : (bs : List Handle) (m : BlockMap) (k : ℕ) (h : Handle) → k < length bs → h ≡ slice_index_or bs k h → block_at (each (words_under m) (handles bs)) k ≡ words_under m h.0
words_here bs m k h low is =
    let many = length-map bs (λ (x : Handle). x.0) in
    get_or-map (words_under m) (handles bs) k 0 [] (omega arith) ∙ ap (words_under m) (handle_at bs k h low is)

many_items : (bs : List Handle) (m : BlockMap) (items : List (List ℕ)) → each (words_under m) (handles bs) ≡ items → length items ≡ length bs
many_items bs m items is = ap (λ (l : List (List ℕ)). length l) (sym is) ∙ length-map (handles bs) (words_under m) ∙ length-map bs (λ (x : Handle). x.0)

-- The blocks of a graph and the fresh one are live and two, and the first has the words of the graph.
pub pair_lives : (b : Inside) (v : Blocks) (k : ℕ) (h : Handle) → shares_of b ≡ v → AreLive b → k < length v.items → h ≡ slice_index_or b.blocks.items k h
    → (h.0 ≢ b.fresh.0) × (map.contains_key b.pool.blocks h.0 ≡ true) × (map.contains_key b.pool.blocks b.fresh.0 ≡ true) × (words_under b.pool.blocks h.0 ≡ block_at v.items k)
pair_lives b v k h is live within here =
    let many = many_items b.blocks.items b.pool.blocks v.items (ap (λ (x : Blocks). x.items) is) in
    let low : k < length b.blocks.items = omega arith in (
      handle_apart b.blocks.items b.fresh.0 b.pool.blocks k h low here live.live,
      handle_live b.blocks.items b.fresh.0 b.pool.blocks k h low here live.live,
      last_live (handles b.blocks.items) b.pool.blocks b.fresh.0 live.live,
      sym (words_here b.blocks.items b.pool.blocks k h low here) ∙ ap (λ (x : Blocks). block_at x.items k) is,
    )

-- The fresh block alone is written: what is seen of the blocks but for it stays.
pub fresh_written : (b : Inside) (v : Blocks) (ws : List ℕ) → shares_of b ≡ v → AreLive b → AllLive (map.insert b.pool.blocks b.fresh.0 ws) (all_handles b)
    × ((b.pool.words ≡ v.words) × (all_but (map.insert b.pool.blocks b.fresh.0 ws) (all_handles b) ≡ v.rest) × (b.free_before ≡ v.free_before))
    × (each (words_under (map.insert b.pool.blocks b.fresh.0 ws)) (handles b.blocks.items) ≡ v.items) × (words_under (map.insert b.pool.blocks b.fresh.0 ws) b.fresh.0 ≡ ws)
fresh_written b v ws is live =
    let written = last_written (handles b.blocks.items) b.pool.blocks b.fresh.0 live.live ws in (
      written.0,
      (ap (λ (x : Blocks). x.words) is, written.1 ∙ ap (λ (x : Blocks). x.rest) is, ap (λ (x : Blocks). x.free_before) is),
      written.2 ∙ ap (λ (x : Blocks). x.items) is,
      written.3,
    )

-- Words that are written over all of others of the same number.
pub written_over : (n : ℕ) (old ws : List ℕ) → length ws ≡ n → refill n old ws ≡ ws
written_over n old ws many = take_at ws (drop (length ws) old) n many

-- A block that is taken leaves at most one free block fewer.
pub free_taken : (old now : ℕ) → (0 < old → now + 1 ≡ old) → old ≤ now + 1
free_taken zero now less = omega arith
free_taken (suc n) now less = let fewer = less (omega arith) in omega arith
