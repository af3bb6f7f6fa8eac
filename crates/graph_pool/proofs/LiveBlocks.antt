-- The map of the live blocks, and what changes it.
use Rattle.std.proofs.Common.{arith, rules, refl, Bool, true, false, cond, zero, suc, ◌≡◌, ◌≢◌, ◌<◌, ◌≤◌, ◌+◌, ◌∷◌, ◌++◌, ℕ, List, [], length, get_or, slice_set, Option, Some, None, is_some, ap, sym, ◌∙◌, inl, inr}
use Rattle.std.specs.Ordering.{nat_cmp}
use Rattle.std.specs.FinMap as map
use Rattle.std.specs.FinMap.{get-empty, same_map, nat_cmp-IsAntisymmetric, gets}
use Rattle.std.proofs.lemmas.Cmp.{nat_cmp_total}
use Rattle.std.proofs.lemmas.Bool.{cases_eq}
use Rattle.graph_pool.specs.Backing.{live_blocks_from, live_blocks}

-- The words of the k-th block, if it is live.
abbrev pub live_at : List Bool → List (List ℕ) → ℕ → Option (List ℕ)
live_at [] bs k = None
live_at (m ∷ ms) [] k = None
live_at (m ∷ ms) (b ∷ bs) zero = cond m (Some b) None
live_at (m ∷ ms) (b ∷ bs) (suc k) = live_at ms bs k

get-below : (h : ℕ) (ms : List Bool) (bs : List (List ℕ)) (q : ℕ) → q < h → map.get (live_blocks_from h ms bs) q ≡ None
get-below h [] bs q low = get-empty nat_cmp q
get-below h (m ∷ ms) [] q low = get-empty nat_cmp q
get-below h (true ∷ ms) (b ∷ bs) q low = let rest : map.get (live_blocks_from (h + 1) ms bs) q ≡ None = get-below (h + 1) ms bs q (omega arith) in grind (gets, rules, arith)
get-below h (false ∷ ms) (b ∷ bs) q low = get-below (h + 1) ms bs q (omega arith)

get-live_from : (h : ℕ) (ms : List Bool) (bs : List (List ℕ)) (k q : ℕ) → q ≡ h + k → map.get (live_blocks_from h ms bs) q ≡ live_at ms bs k
get-live_from h [] bs k q e = get-empty nat_cmp q
get-live_from h (m ∷ ms) [] k q e = get-empty nat_cmp q
get-live_from h (true ∷ ms) (b ∷ bs) zero q e = grind (gets, rules, arith)
get-live_from h (false ∷ ms) (b ∷ bs) zero q e = get-below (h + 1) ms bs q (omega arith)
get-live_from h (true ∷ ms) (b ∷ bs) (suc k) q e = let rest : map.get (live_blocks_from (h + 1) ms bs) q ≡ live_at ms bs k = get-live_from (h + 1) ms bs k q (omega arith) in grind (gets, rules, arith)
get-live_from h (false ∷ ms) (b ∷ bs) (suc k) q e = get-live_from (h + 1) ms bs k q (omega arith)

pub get-live_blocks : (ms : List Bool) (bs : List (List ℕ)) (q : ℕ) → map.get (live_blocks ms bs) q ≡ live_at ms bs q
unfolding live_blocks
get-live_blocks ms bs q = get-live_from 0 ms bs q q (omega arith)

pub no_blocks : (bs : List (List ℕ)) → live_blocks [] bs ≡ map.empty
unfolding live_blocks
no_blocks bs = refl

-- A map that tells what the blocks tell is the map of the live ones.
is_live_blocks : (ms : List Bool) (bs : List (List ℕ)) (m : map.FinMap nat_cmp (List ℕ)) → ((q : ℕ) → live_at ms bs q ≡ map.get m q) → live_blocks ms bs ≡ m
is_live_blocks ms bs m same = same_map nat_cmp_total nat_cmp-IsAntisymmetric (live_blocks ms bs) m (λ q. get-live_blocks ms bs q ∙ same q)

pub get-inserted_same : (m : map.FinMap nat_cmp (List ℕ)) (h : ℕ) (v : List ℕ) → map.get (map.insert m h v) h ≡ Some v
get-inserted_same m h v = grind (gets, rules)

pub get-inserted_other : (m : map.FinMap nat_cmp (List ℕ)) (h : ℕ) (v : List ℕ) (q : ℕ) → q ≢ h → map.get (map.insert m h v) q ≡ map.get m q
get-inserted_other m h v q apart = grind (gets, rules, arith)

pub get-removed_same : (m : map.FinMap nat_cmp (List ℕ)) (h : ℕ) → map.get (map.remove m h) h ≡ None
get-removed_same m h = grind (gets, rules)

pub get-removed_other : (m : map.FinMap nat_cmp (List ℕ)) (h q : ℕ) → q ≢ h → map.get (map.remove m h) q ≡ map.get m q
get-removed_other m h q apart = grind (gets, rules, arith)

-- Blocks of which only the h-th differs, which is live with the words v, are the map with it put in.
inserted : (ms ns : List Bool) (bs cs : List (List ℕ)) (h : ℕ) (v : List ℕ) → live_at ns cs h ≡ Some v → ((q : ℕ) → q ≢ h → live_at ns cs q ≡ live_at ms bs q) → live_blocks ns cs ≡ map.insert (live_blocks ms bs) h v
inserted ms ns bs cs h v here others =
    is_live_blocks ns cs (map.insert (live_blocks ms bs) h v)
    (λ q. elim (cases_eq q h) [
      | inl e ↦ ap (λ (k : ℕ). live_at ns cs k) e ∙ here ∙ sym (get-inserted_same (live_blocks ms bs) h v) ∙ ap (λ (k : ℕ). map.get (map.insert (live_blocks ms bs) h v) k) (sym e)
      | inr n ↦ others q n ∙ sym (get-live_blocks ms bs q) ∙ sym (get-inserted_other (live_blocks ms bs) h v q n)
    ])

written_other : (ms : List Bool) (bs : List (List ℕ)) (h : ℕ) (ws : List ℕ) (q : ℕ) → q ≢ h → live_at ms (slice_set bs h ws) q ≡ live_at ms bs q
written_other [] bs h ws q apart = refl
written_other (m ∷ ms) [] h ws q apart = refl
written_other (m ∷ ms) (b ∷ bs) zero ws zero apart = absurd (apart refl)
written_other (m ∷ ms) (b ∷ bs) zero ws (suc q) apart = refl
written_other (m ∷ ms) (b ∷ bs) (suc h) ws zero apart = refl
written_other (m ∷ ms) (b ∷ bs) (suc h) ws (suc q) apart = written_other ms bs h ws q (λ e. apart (ap suc e))

written_here : (ms : List Bool) (bs : List (List ℕ)) (h : ℕ) (ws : List ℕ) → is_some (live_at ms bs h) ≡ true → live_at ms (slice_set bs h ws) h ≡ Some ws
written_here [] bs h ws e = cc
written_here (m ∷ ms) [] h ws e = cc
written_here (true ∷ ms) (b ∷ bs) zero ws e = refl
written_here (false ∷ ms) (b ∷ bs) zero ws e = cc
written_here (m ∷ ms) (b ∷ bs) (suc k) ws e = written_here ms bs k ws e

marked_other : (ms : List Bool) (bs : List (List ℕ)) (h : ℕ) (x : Bool) (q : ℕ) → q ≢ h → live_at (slice_set ms h x) bs q ≡ live_at ms bs q
marked_other [] bs h x q apart = refl
marked_other (m ∷ ms) [] zero x q apart = refl
marked_other (m ∷ ms) [] (suc h) x q apart = refl
marked_other (m ∷ ms) (b ∷ bs) zero x zero apart = absurd (apart refl)
marked_other (m ∷ ms) (b ∷ bs) zero x (suc q) apart = refl
marked_other (m ∷ ms) (b ∷ bs) (suc h) x zero apart = refl
marked_other (m ∷ ms) (b ∷ bs) (suc h) x (suc q) apart = marked_other ms bs h x q (λ e. apart (ap suc e))

marked_live : (ms : List Bool) (bs : List (List ℕ)) (h : ℕ) → h < length ms → h < length bs → live_at (slice_set ms h true) bs h ≡ Some (get_or bs h [])
marked_live [] bs h low lower = absurd (omega arith)
marked_live (m ∷ ms) [] h low lower = absurd (omega arith)
marked_live (m ∷ ms) (b ∷ bs) zero low lower = refl
marked_live (m ∷ ms) (b ∷ bs) (suc h) low lower = marked_live ms bs h (omega arith) (omega arith)

marked_free : (ms : List Bool) (bs : List (List ℕ)) (h : ℕ) → live_at (slice_set ms h false) bs h ≡ None
marked_free [] bs h = refl
marked_free (m ∷ ms) [] zero = refl
marked_free (m ∷ ms) [] (suc h) = refl
marked_free (m ∷ ms) (b ∷ bs) zero = refl
marked_free (m ∷ ms) (b ∷ bs) (suc h) = marked_free ms bs h

pushed_other : (ms : List Bool) (bs : List (List ℕ)) (q : ℕ) → q ≢ length ms → live_at (ms ++ true ∷ []) bs q ≡ live_at ms bs q
pushed_other [] [] q apart = refl
pushed_other [] (b ∷ bs) zero apart = absurd (apart refl)
pushed_other [] (b ∷ bs) (suc q) apart = refl
pushed_other (m ∷ ms) [] q apart = refl
pushed_other (m ∷ ms) (b ∷ bs) zero apart = refl
pushed_other (m ∷ ms) (b ∷ bs) (suc q) apart = pushed_other ms bs q (λ e. apart (ap suc e))

pushed_live : (ms : List Bool) (bs : List (List ℕ)) → length ms < length bs → live_at (ms ++ true ∷ []) bs (length ms) ≡ Some (get_or bs (length ms) [])
pushed_live [] [] low = absurd (omega arith)
pushed_live [] (b ∷ bs) low = refl
pushed_live (m ∷ ms) [] low = absurd (omega arith)
pushed_live (m ∷ ms) (b ∷ bs) low = pushed_live ms bs (omega arith)

grown_at : (ms : List Bool) (bs cs : List (List ℕ)) (q : ℕ) → length ms ≤ length bs → live_at ms (bs ++ cs) q ≡ live_at ms bs q
grown_at [] bs cs q e = refl
grown_at (m ∷ ms) [] cs q e = absurd (omega arith)
grown_at (m ∷ ms) (b ∷ bs) cs zero e = refl
grown_at (m ∷ ms) (b ∷ bs) cs (suc q) e = grown_at ms bs cs q (omega arith)

live_parts : (ms : List Bool) (bs : List (List ℕ)) (h : ℕ) → is_some (live_at ms bs h) ≡ true → (h < length bs) × (h < length ms) × (get_or ms h true ≡ true) × (live_at ms bs h ≡ Some (get_or bs h []))
live_parts [] bs h e = cc
live_parts (m ∷ ms) [] h e = cc
live_parts (true ∷ ms) (b ∷ bs) zero e = (omega arith, omega arith, refl, refl)
live_parts (false ∷ ms) (b ∷ bs) zero e = cc
live_parts (m ∷ ms) (b ∷ bs) (suc k) e =
    let rest = live_parts ms bs k e in
    let low : k < length bs = rest.0 in
    let below : k < length ms = rest.1 in
    (omega arith, omega arith, rest.2, rest.3)

some_if : (c : Bool) (b : List ℕ) → is_some (cond c (Some b) None) ≡ c
some_if true b = refl
some_if false b = refl

marks_tell : (ms : List Bool) (bs : List (List ℕ)) (h : ℕ) (d : Bool) → length ms ≤ length bs → h < length ms → is_some (live_at ms bs h) ≡ get_or ms h d
marks_tell [] bs h d e low = absurd (omega arith)
marks_tell (m ∷ ms) [] h d e low = absurd (omega arith)
marks_tell (m ∷ ms) (b ∷ bs) zero d e low = some_if m b
marks_tell (m ∷ ms) (b ∷ bs) (suc h) d e low = marks_tell ms bs h d (omega arith) (omega arith)

past_marks : (ms : List Bool) (bs : List (List ℕ)) (h : ℕ) → length ms ≤ h → live_at ms bs h ≡ None
past_marks [] bs h high = refl
past_marks (m ∷ ms) [] h high = refl
past_marks (m ∷ ms) (b ∷ bs) zero high = absurd (omega arith)
past_marks (m ∷ ms) (b ∷ bs) (suc h) high = past_marks ms bs h (omega arith)

unmarked : (ms : List Bool) (bs : List (List ℕ)) (h : ℕ) → get_or ms h true ≡ false → live_at ms bs h ≡ None
unmarked [] bs h e = refl
unmarked (m ∷ ms) [] h e = refl
unmarked (true ∷ ms) (b ∷ bs) zero e = cc
unmarked (false ∷ ms) (b ∷ bs) zero e = refl
unmarked (m ∷ ms) (b ∷ bs) (suc h) e = unmarked ms bs h e

-- What a live handle tells.
pub live_words : (ms : List Bool) (bs : List (List ℕ)) (h : ℕ) → map.contains_key (live_blocks ms bs) h ≡ true
    → (h < length bs) × (h < length ms) × (get_or ms h true ≡ true) × (map.get (live_blocks ms bs) h ≡ Some (get_or bs h []))
live_words ms bs h live =
    let there = live_parts ms bs h (sym (ap (λ (o : Option (List ℕ)). is_some o) (get-live_blocks ms bs h)) ∙ live) in
    (there.0, there.1, there.2, get-live_blocks ms bs h ∙ there.3)

-- The marks tell which handles are live.
pub contains_live : (ms : List Bool) (bs : List (List ℕ)) (h : ℕ) (d : Bool) → length ms ≤ length bs → h < length ms → map.contains_key (live_blocks ms bs) h ≡ get_or ms h d
contains_live ms bs h d e low = ap (λ (o : Option (List ℕ)). is_some o) (get-live_blocks ms bs h) ∙ marks_tell ms bs h d e low

pub get-past : (ms : List Bool) (bs : List (List ℕ)) (h : ℕ) → length ms ≤ h → map.get (live_blocks ms bs) h ≡ None
get-past ms bs h high = get-live_blocks ms bs h ∙ past_marks ms bs h high

pub get-unmarked : (ms : List Bool) (bs : List (List ℕ)) (h : ℕ) → get_or ms h true ≡ false → map.get (live_blocks ms bs) h ≡ None
get-unmarked ms bs h e = get-live_blocks ms bs h ∙ unmarked ms bs h e

-- A live block is written.
pub live_blocks-set : (ms : List Bool) (bs : List (List ℕ)) (h : ℕ) (ws : List ℕ) → map.contains_key (live_blocks ms bs) h ≡ true → live_blocks ms (slice_set bs h ws) ≡ map.insert (live_blocks ms bs) h ws
live_blocks-set ms bs h ws live =
    inserted ms ms bs (slice_set bs h ws) h ws (written_here ms bs h ws (sym (ap (λ (o : Option (List ℕ)). is_some o) (get-live_blocks ms bs h)) ∙ live)) (λ q n. written_other ms bs h ws q n)

-- A block that had a mark is given out.
pub live_blocks-given : (ms : List Bool) (bs : List (List ℕ)) (h : ℕ) → h < length ms → h < length bs → live_blocks (slice_set ms h true) bs ≡ map.insert (live_blocks ms bs) h (get_or bs h [])
live_blocks-given ms bs h low lower = inserted ms (slice_set ms h true) bs bs h (get_or bs h []) (marked_live ms bs h low lower) (λ q n. marked_other ms bs h true q n)

-- The first block without a mark is given out.
pub live_blocks-pushed : (ms : List Bool) (bs : List (List ℕ)) → length ms < length bs → live_blocks (ms ++ true ∷ []) bs ≡ map.insert (live_blocks ms bs) (length ms) (get_or bs (length ms) [])
live_blocks-pushed ms bs low = inserted ms (ms ++ true ∷ []) bs bs (length ms) (get_or bs (length ms) []) (pushed_live ms bs low) (λ q n. pushed_other ms bs q n)

-- A block is taken back, and written.
pub live_blocks-taken : (ms : List Bool) (bs : List (List ℕ)) (h : ℕ) (ws : List ℕ) → live_blocks (slice_set ms h false) (slice_set bs h ws) ≡ map.remove (live_blocks ms bs) h
live_blocks-taken ms bs h ws =
    is_live_blocks (slice_set ms h false) (slice_set bs h ws) (map.remove (live_blocks ms bs) h)
    (λ q. elim (cases_eq q h) [
      | inl f ↦ ap (λ (k : ℕ). live_at (slice_set ms h false) (slice_set bs h ws) k) f ∙ marked_free ms (slice_set bs h ws) h ∙ sym (get-removed_same (live_blocks ms bs) h) ∙ ap (λ (k : ℕ). map.get (map.remove (live_blocks ms bs) h) k) (sym f)
      | inr n ↦ marked_other ms (slice_set bs h ws) h false q n ∙ written_other ms bs h ws q n ∙ sym (get-live_blocks ms bs q) ∙ sym (get-removed_other (live_blocks ms bs) h q n)
    ])

-- Further blocks without a mark.
pub live_blocks-grown : (ms : List Bool) (bs cs : List (List ℕ)) → length ms ≤ length bs → live_blocks ms (bs ++ cs) ≡ live_blocks ms bs
live_blocks-grown ms bs cs e = is_live_blocks ms (bs ++ cs) (live_blocks ms bs) (λ q. grown_at ms bs cs q e ∙ sym (get-live_blocks ms bs q))
