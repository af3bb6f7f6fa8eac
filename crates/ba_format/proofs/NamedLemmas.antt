-- Lemmas on the automaton that lines say: its parts have no fault.
use Rattle.std.proofs.Common.{◌≡◌, ℕ, zero, suc, ◌+◌, ◌^◌, ◌<◌, ◌≤◌, Bool, true, false, not, cond, eqb, ◌||◌, ◌&&◌, List, [], ◌∷◌, ◌++◌, length, map, fold, All, refl, sym, ap, ◌∙◌, true≢false, arith, if◌then◌else◌}
use Rattle.std.specs.List.{list_any, flat_map, range_with_len, AllPairs}
use Rattle.std.proofs.lemmas.List.{length-append}
use Rattle.std.proofs.lemmas.List.Elements.{All-push, All-nil, All-cons, All-map, All-head, All-tail}
use Rattle.std.proofs.lemmas.List.Quantifiers.{all_pairs_push}
use Rattle.std.proofs.lemmas.List.Folds.{list_any_at}
use Rattle.std.proofs.lemmas.List.FromFn.{length-range_with_len, get_or-range_with_len}
use Rattle.std.proofs.lemmas.Bool.Decides.{nat_tests}
use Rattle.auto_core.specs.declared.parts.Trans.{Trans}
use Rattle.auto_core.specs.Automaton.{trans, HasRepeat}
use Rattle.ba_format.specs.declared.draft.Draft.{Draft}
use Rattle.ba_format.specs.Sight.{same_text, noted, first_seen, place_in}
use Rattle.ba_format.specs.Grammar.{LineContent, StateLine, TransitionLine}
use Rattle.ba_format.specs.Faults.{states_in, labels_in, names_of, labels_of, transitions_in, transitions_of, same_trans, initial_of, accepting_names, accepting_numbers, accepting_of}
use Rattle.ba_format.specs.declared.draft.Opening.{Opening}
use Rattle.ba_format.specs.declared.draft.Opening.TheVariants.{Nothing, OneState, States, Transitions}
use Rattle.std.proofs.lemmas.List.Sorted.{length_permutation}
use Rattle.ba_format.specs.declared.parts.Limits.{Limits}
use Rattle.ba_format.specs.declared.parts.Named.{Named}
use Rattle.ba_format.specs.Reading.{IsReading, IsWithinLimits}
use Rattle.ba_format.specs.Draft.{trans_with, Opens, Stands, Fits}
use Rattle.auto_core.specs.Parts.{AreParts}
use Rattle.ba_format.proofs.SightLemmas.{same_text-refl}
use Rattle.ba_format.proofs.JoinLemmas.{place_is, number_within}
use Rattle.ba_format.proofs.DraftLemmas.{AllFound, AllFound-noted, number-all}
use Rattle.ba_format.proofs.TakeLemmas.{accepting-found}

-- ---- things seen

module _ {X : Type 0} (same : X → X → Bool) where
  All-noted : (P : X → Type 0) (seen : List X) (x : X) → All P seen → P x → All P (noted same seen x)
  All-noted P seen x h p = by (list_any (same x) seen)
    where
      by : (b : Bool) → All P (if b then seen else seen ++ x ∷ [])
      by true = h
      by false = All-push P seen x h p

  -- what holds of each thing holds of each thing seen
  pub All-seen : (P : X → Type 0) (seen xs : List X) → All P seen → All P xs → All P (fold (noted same) seen xs)
  All-seen P seen [] h g = h
  All-seen P seen (x ∷ xs) h g = All-seen P (noted same seen x) xs (All-noted P seen x h (All-head P x xs g)) (All-tail P x xs g)

  module _ (itself : (x : X) → same x x ≡ true) where
    different-noted : (seen : List X) (x : X) → AllPairs (λ a b. a ≡ b → ⊥) seen → AllPairs (λ a b. a ≡ b → ⊥) (noted same seen x)
    different-noted seen x h = by (list_any (same x) seen) refl
      where
        by : (b : Bool) → list_any (same x) seen ≡ b → AllPairs (λ a b. a ≡ b → ⊥) (if b then seen else seen ++ x ∷ [])
        by true e = h
        by false e = all_pairs_push (λ a b. a ≡ b → ⊥) seen x h (λ k d lt f. true≢false (sym (list_any_at (same x) seen k d lt (ap (same x) f ∙ itself x)) ∙ e))

    pub different-seen : (seen xs : List X) → AllPairs (λ a b. a ≡ b → ⊥) seen → AllPairs (λ a b. a ≡ b → ⊥) (fold (noted same) seen xs)
    different-seen seen [] h = h
    different-seen seen (x ∷ xs) h = different-seen (noted same seen x) xs (different-noted seen x h)

    -- things seen are different
    pub no_repeat_seen : (d : X) (xs : List X) → HasRepeat (first_seen same xs) → ⊥
    no_repeat_seen d xs (i, j, differ, hi, hj, e) =
        let apart = different-seen [] xs (λ i j d lt short. absurd (omega arith)) in
        differ (place_is i j (λ lt. apart j i d lt hi (sym (e d))) (λ lt. apart i j d lt hj (e d)))

length-noted : {X : Type 0} (same : X → X → Bool) (seen : List X) (x : X) → length seen ≤ length (noted same seen x)
length-noted same seen x = by (list_any (same x) seen)
  where
    by : (b : Bool) → length seen ≤ length (if b then seen else seen ++ x ∷ [])
    by true = omega arith
    by false = omega (arith, length-append seen (x ∷ []))

pub length-seen : {X : Type 0} (same : X → X → Bool) (seen xs : List X) → length seen ≤ length (fold (noted same) seen xs)
length-seen same seen [] = omega arith
length-seen same seen (x ∷ xs) = omega (arith, length-noted same seen x, length-seen same (noted same seen x) xs)

-- ---- the parts

text_in_range : (texts xs : List (List ℕ)) → AllFound texts xs → All (λ x. place_in same_text texts x < length texts) xs
text_in_range texts [] h = All-nil (λ x. place_in same_text texts x < length texts)
text_in_range texts (x ∷ xs) h = All-cons (λ x. place_in same_text texts x < length texts) x xs (number_within texts x h.0) (text_in_range texts xs h.1)

abbrev InRange : ℕ → ℕ → Trans → Type 0
InRange states labels t = (t.source < states) × (t.target < states) × (t.label < labels)

transitions_in_range : (names labels : List (List ℕ)) (entries : List LineContent) → AllFound names (flat_map states_in entries) → AllFound labels (flat_map labels_in entries)
    → All (InRange (length names) (length labels)) (flat_map (transitions_in names labels) entries)
transitions_in_range names labels [] hn hl = All-nil (InRange (length names) (length labels))
transitions_in_range names labels (StateLine name ∷ entries) hn hl = transitions_in_range names labels entries hn.1 hl
transitions_in_range names labels (TransitionLine label source target ∷ entries) hn hl =
    All-cons (InRange (length names) (length labels)) (trans (place_in same_text names source) (place_in same_text labels label) (place_in same_text names target)) (flat_map (transitions_in names labels) entries)
    (number_within names source hn.0, number_within names target hn.1.0, number_within labels label hl.0)
    (transitions_in_range names labels entries hn.1.1 hl.1)

pub transitions_range : (entries : List LineContent) → All (InRange (length (names_of entries)) (length (labels_of entries))) (transitions_of entries)
transitions_range entries =
    All-seen same_trans (InRange (length (names_of entries)) (length (labels_of entries))) [] (flat_map (transitions_in (names_of entries) (labels_of entries)) entries)
    (All-nil (InRange (length (names_of entries)) (length (labels_of entries))))
    (transitions_in_range (names_of entries) (labels_of entries) entries (AllFound-noted (flat_map states_in entries) []) (AllFound-noted (flat_map labels_in entries) []))

-- ---- the initial state is number 0

alone : (text : List ℕ) → list_any (same_text text) (text ∷ []) ≡ true
alone text = ap (λ b. b || false) (same_text-refl text)

first_place : (text : List ℕ) → place_in same_text (text ∷ []) text ≡ 0
first_place text = ap (λ b. cond (not b) (1 + 0) 0) (same_text-refl text)

pub initial_zero : (entries : List LineContent) → 0 < length entries → initial_of entries ≡ 0
initial_zero [] h = absurd (omega arith)
initial_zero (StateLine name ∷ entries) h = number-all name (flat_map states_in entries) (name ∷ []) (alone name) ∙ first_place name
initial_zero (TransitionLine label source target ∷ entries) h = number-all source (target ∷ flat_map states_in entries) (source ∷ []) (alone source) ∙ first_place source

pub names_some : (entries : List LineContent) → 0 < length entries → 0 < length (names_of entries)
names_some [] h = absurd (omega arith)
names_some (StateLine name ∷ entries) h = omega (arith, length-seen same_text (name ∷ []) (flat_map states_in entries))
names_some (TransitionLine label source target ∷ entries) h = omega (arith, length-seen same_text (source ∷ []) (target ∷ flat_map states_in entries))

-- ---- the accepting states

pub range-push : (a n : ℕ) → range_with_len a (n + 1) ≡ range_with_len a n ++ (a + n) ∷ []
range-push a zero = let e : a ≡ a + 0 = omega arith in ap (λ b. b ∷ []) e
range-push a (suc n) =
    let e : suc n + 1 ≡ suc (n + 1) = omega arith in
    let f : a + 1 + n ≡ a + suc n = omega arith in
    ap (range_with_len a) e ∙ ap (λ l. a ∷ l) (range-push (a + 1) n) ∙ ap (λ b. a ∷ (range_with_len (a + 1) n ++ b ∷ [])) f

eqb-refl : (n : ℕ) → eqb n n ≡ true
eqb-refl n = grind (arith, nat_tests)

pub same_trans-refl : (t : Trans) → same_trans t t ≡ true
same_trans-refl t = λ i. eqb-refl t.source i && eqb-refl t.label i && eqb-refl t.target i

accepting_in_range : (entries : List LineContent) (b : Bool) → All (λ q. q < length (names_of entries)) (if b then range_with_len 0 (length (names_of entries)) else accepting_numbers entries)
accepting_in_range entries true = λ k d lt.
    let n = length (names_of entries) in
    let lt' : k < n = omega (arith, length-range_with_len 0 n) in
    omega (arith, get_or-range_with_len 0 n k d lt')
accepting_in_range entries false =
    All-seen (λ a b. eqb a b) (λ q. q < length (names_of entries)) [] (map (place_in same_text (names_of entries)) (accepting_names entries)) (All-nil (λ q. q < length (names_of entries)))
    (All-map (λ q. q < length (names_of entries)) (place_in same_text (names_of entries)) (accepting_names entries) (text_in_range (names_of entries) (accepting_names entries) (accepting-found entries)))

accepting_once : (entries : List LineContent) (b : Bool) → HasRepeat (if b then range_with_len 0 (length (names_of entries)) else accepting_numbers entries) → ⊥
accepting_once entries true = λ (i, j, differ, hi, hj, e).
    let n = length (names_of entries) in
    let hi' : i < n = omega (arith, length-range_with_len 0 n) in
    let hj' : j < n = omega (arith, length-range_with_len 0 n) in
    differ (omega (arith, get_or-range_with_len 0 n i 0 hi', get_or-range_with_len 0 n j 0 hj', e 0))
accepting_once entries false = no_repeat_seen (λ a b. eqb a b) eqb-refl 0 (map (place_in same_text (names_of entries)) (accepting_names entries))

-- there are numbers just where there are names
counts : (f : List ℕ → ℕ) (names : List (List ℕ)) → eqb (length (first_seen (λ a b. eqb a b) (map f names))) 0 ≡ eqb (length names) 0
counts f [] = refl
counts f (x ∷ xs) = by (length (first_seen (λ a b. eqb a b) (map f (x ∷ xs)))) (length-seen (λ a b. eqb a b) (f x ∷ []) (map f xs)) ∙ sym (by (suc (length xs)) (omega arith))
  where
    by : (n : ℕ) → 1 ≤ n → eqb n 0 ≡ false
    by n h = grind (arith, nat_tests)

pub accepting_chosen : (entries : List LineContent) (keys : List ℕ) (states : ℕ) → keys ≡ accepting_numbers entries → states ≡ length (names_of entries)
    → (if eqb (length keys) 0 then range_with_len 0 states else keys) ≡ accepting_of entries
accepting_chosen entries keys states k s =
    (λ i. if eqb (length (k i)) 0 then range_with_len 0 (s i) else k i)
    ∙ ap (λ b. if b then range_with_len 0 (length (names_of entries)) else accepting_numbers entries) (counts (place_in same_text (names_of entries)) (accepting_names entries))

pub parts_of : (entries : List LineContent) → 0 < length entries → length (transitions_of entries) < 2 ^ 32
    → AreParts (length (names_of entries)) (length (labels_of entries)) 0 (transitions_of entries) (accepting_of entries)
parts_of entries some few =
    record {
      few = few;
      in_states = (names_some entries some, (λ k d lt. let r = transitions_range entries k d lt in (r.0, r.1)), accepting_in_range entries (eqb (length (accepting_names entries)) 0));
      in_labels = λ k d lt. (transitions_range entries k d lt).2;
      no_transition_twice = no_repeat_seen same_trans same_trans-refl (trans 0 0 0) (flat_map (transitions_in (names_of entries) (labels_of entries)) entries);
      no_state_twice = accepting_once entries (eqb (length (accepting_names entries)) 0);
    }

-- the automaton, by the steps that make it
module _ (draft : Draft) (entries : List LineContent) (s : Stands draft entries) where
  pub transitions_given : (parts : List (ℕ × ℕ × ℕ)) (made lent : List Trans) → parts ≡ draft.transitions.keys → made ≡ map trans_with parts → lent ≡ made → lent ≡ transitions_of entries
  transitions_given parts made lent p m l = l ∙ m ∙ ap (map trans_with) p ∙ s.transitions

  pub accepting_given : (chosen made lent : List ℕ) (states : ℕ) → chosen ≡ draft.accepting.keys → states ≡ length draft.names
      → made ≡ (if eqb (length chosen) 0 then range_with_len 0 states else chosen) → lent ≡ made → lent ≡ accepting_of entries
  accepting_given chosen made lent states c n m l = l ∙ m ∙ accepting_chosen entries chosen states (c ∙ s.accepting) (n ∙ ap length s.names)

-- lines that begin alike are some lines alike
pub opens_some : (o : Opening) (a b : List LineContent) → Opens o a → Opens o b → 0 < length a → 0 < length b
opens_some Nothing a b ha hb some = absurd (omega (arith, ap length ha))
opens_some OneState a b ha hb some = omega (arith, hb.0)
opens_some States a b ha hb some = omega (arith, hb.0)
opens_some Transitions a b ha hb some = hb.0

-- each line brings at most one transition
noted-most : {X : Type 0} (same : X → X → Bool) (seen : List X) (x : X) → length (noted same seen x) ≤ length seen + 1
noted-most same seen x = by (list_any (same x) seen)
  where
    by : (b : Bool) → length (if b then seen else seen ++ x ∷ []) ≤ length seen + 1
    by true = omega arith
    by false = omega (arith, length-append seen (x ∷ []))

pub seen-most : {X : Type 0} (same : X → X → Bool) (seen xs : List X) → length (fold (noted same) seen xs) ≤ length seen + length xs
seen-most same seen [] = omega arith
seen-most same seen (x ∷ xs) = omega (arith, noted-most same seen x, seen-most same (noted same seen x) xs)

lines-most : (names labels : List (List ℕ)) (entries : List LineContent) → length (flat_map (transitions_in names labels) entries) ≤ length entries
lines-most names labels [] = omega arith
lines-most names labels (StateLine name ∷ entries) = omega (arith, lines-most names labels entries)
lines-most names labels (TransitionLine label source target ∷ entries) = omega (arith, lines-most names labels entries)

pub transitions-most : (entries : List LineContent) → length (transitions_of entries) ≤ length entries
transitions-most entries =
    omega (arith, seen-most same_trans [] (flat_map (transitions_in (names_of entries) (labels_of entries)) entries), lines-most (names_of entries) (labels_of entries) entries)

-- what lines within the limits say is within the limits
pub within_limits : (limits : Limits) (entries : List LineContent) (named : Named) → Fits limits entries → IsReading entries named → IsWithinLimits limits named
within_limits limits entries named f r =
    record {
      states_named = r.auto.states_given ∙ ap length (sym r.names);
      labels_named = r.auto.labels_given ∙ ap length (sym r.labels);
      states = omega (arith, r.auto.states_given, f.states);
      labels = omega (arith, r.auto.labels_given, f.labels);
      transitions = omega (arith, length_permutation (transitions_of entries) named.auto.transitions r.auto.transitions_given, f.transitions);
    }
