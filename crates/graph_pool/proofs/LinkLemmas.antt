-- The list of the blocks that were given back, and what leaves it whole.
use Rattle.std.proofs.Common.{arith, refl, Bool, true, false, zero, suc, ◌≡◌, ◌≢◌, ◌<◌, ◌≤◌, ◌+◌, ◌∷◌, ◌++◌, ℕ, List, [], length, get_or, slice_set, ap, sym, subst, ◌∙◌}
use Rattle.std.proofs.lemmas.List.{get_or-set_same, get_or-set_other, get_or_append_left}
use Rattle.graph_pool.specs.Links.{IsNoneOf, IsChain}

marked : true ≡ false → ⊥
marked e = cc

-- A handle that is marked is none of the linked ones.
not_linked : (ms : List Bool) (h g : ℕ) → get_or ms h true ≡ true → get_or ms g true ≡ false → g ≢ h
not_linked ms h g live free e = marked (sym live ∙ ap (λ (k : ℕ). get_or ms k true) (sym e) ∙ free)

has_mark : (ms : List Bool) (g : ℕ) → get_or ms g true ≡ false → g < length ms
has_mark [] g e = absurd (marked e)
has_mark (m ∷ ms) zero e = omega arith
has_mark (m ∷ ms) (suc g) e = let low : g < length ms = has_mark ms g e in omega arith

pub chain_apart : (bs : List (List ℕ)) (ms : List Bool) (next : ℕ) (hs : List ℕ) (h : ℕ) → get_or ms h true ≡ true → IsChain bs ms next hs → IsNoneOf h hs
chain_apart bs ms next [] h live c = tt
chain_apart bs ms next (g ∷ hs) h live c = (not_linked ms h g live c.1, chain_apart bs ms (get_or (get_or bs g []) 0 0) hs h live c.3)

-- A block that is none of the linked ones is written.
pub chain_written : (bs : List (List ℕ)) (ms : List Bool) (next : ℕ) (hs : List ℕ) (h : ℕ) (ws : List ℕ) → IsNoneOf h hs → IsChain bs ms next hs → IsChain (slice_set bs h ws) ms next hs
chain_written bs ms next [] h ws apart c = c
chain_written bs ms next (g ∷ hs) h ws apart c =
    let same : get_or (slice_set bs h ws) g [] ≡ get_or bs g [] = get_or-set_other bs h g ws [] apart.0 in
    (c.0, c.1, c.2, subst (λ (l : List ℕ). IsChain (slice_set bs h ws) ms (get_or l 0 0) hs) (sym same) (chain_written bs ms (get_or (get_or bs g []) 0 0) hs h ws apart.1 c.3))

-- The mark of a block that is none of the linked ones changes.
pub chain_marked : (bs : List (List ℕ)) (ms : List Bool) (next : ℕ) (hs : List ℕ) (h : ℕ) (x : Bool) → IsNoneOf h hs → IsChain bs ms next hs → IsChain bs (slice_set ms h x) next hs
chain_marked bs ms next [] h x apart c = c
chain_marked bs ms next (g ∷ hs) h x apart c = (c.0, get_or-set_other ms h g x true apart.0 ∙ c.1, c.2, chain_marked bs ms (get_or (get_or bs g []) 0 0) hs h x apart.1 c.3)

-- There is a mark more.
pub chain_pushed : (bs : List (List ℕ)) (ms : List Bool) (next : ℕ) (hs : List ℕ) (x : Bool) → IsChain bs ms next hs → IsChain bs (ms ++ x ∷ []) next hs
chain_pushed bs ms next [] x c = c
chain_pushed bs ms next (g ∷ hs) x c = (c.0, get_or_append_left ms (x ∷ []) true g (has_mark ms g c.1) ∙ c.1, c.2, chain_pushed bs ms (get_or (get_or bs g []) 0 0) hs x c.3)

-- There are more blocks.
pub chain_grown : (bs cs : List (List ℕ)) (ms : List Bool) (next : ℕ) (hs : List ℕ) → length ms ≤ length bs → IsChain bs ms next hs → IsChain (bs ++ cs) ms next hs
chain_grown bs cs ms next [] le c = c
chain_grown bs cs ms next (g ∷ hs) le c =
    let low = has_mark ms g c.1 in
    let same : get_or (bs ++ cs) g [] ≡ get_or bs g [] = get_or_append_left bs cs [] g (omega arith) in
    (c.0, c.1, c.2, subst (λ (l : List ℕ). IsChain (bs ++ cs) ms (get_or l 0 0) hs) (sym same) (chain_grown bs cs ms (get_or (get_or bs g []) 0 0) hs le c.3))

-- A link of 0 leads nowhere.
pub chain_end : (bs : List (List ℕ)) (ms : List Bool) (next : ℕ) (hs : List ℕ) → next ≡ 0 → IsChain bs ms next hs → length hs ≡ 0
chain_end bs ms next [] none c = refl
chain_end bs ms next (g ∷ hs) none c = let first : next ≡ g + 1 = c.0 in absurd (omega arith)

-- What the first linked block tells, where the link is not 0.
pub chain_first : (bs : List (List ℕ)) (ms : List Bool) (next : ℕ) (hs : List ℕ) → 0 < next → IsChain bs ms next hs
    → (h : ℕ) × (rest : List ℕ) × (next ≡ h + 1) × (length hs ≡ length rest + 1) × (h < length ms) × (get_or ms h true ≡ false) × IsNoneOf h rest × IsChain bs ms (get_or (get_or bs h []) 0 0) rest
chain_first bs ms next [] some c = let none : next ≡ 0 = c in absurd (omega arith)
chain_first bs ms next (g ∷ hs) some c = (g, hs, c.0, omega arith, has_mark ms g c.1, c.1, c.2, c.3)

-- A live block is taken back, and linked.
pub chain_taken : (bs : List (List ℕ)) (ms : List Bool) (next : ℕ) (hs : List ℕ) (h : ℕ) (ws : List ℕ) → get_or ms h true ≡ true → h < length ms → h < length bs → get_or ws 0 0 ≡ next → IsChain bs ms next hs
    → IsChain (slice_set bs h ws) (slice_set ms h false) (h + 1) (h ∷ hs)
chain_taken bs ms next hs h ws live low below first c =
    let apart = chain_apart bs ms next hs h live c in
    let there : get_or (slice_set bs h ws) h [] ≡ ws = get_or-set_same bs h ws [] below in
    let link : get_or (get_or (slice_set bs h ws) h []) 0 0 ≡ next = ap (λ (l : List ℕ). get_or l 0 0) there ∙ first in (
      refl,
      get_or-set_same ms h false true low,
      apart,
      subst (λ (k : ℕ). IsChain (slice_set bs h ws) (slice_set ms h false) k hs) (sym link)
          (chain_marked (slice_set bs h ws) ms next hs h false apart (chain_written bs ms next hs h ws apart c)),
    )
