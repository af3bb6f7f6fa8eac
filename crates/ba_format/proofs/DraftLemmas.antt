-- Lemmas on what a line adds to what the lines before it brought.
use Rattle.std.proofs.Common.{◌≡◌, ℕ, suc, ◌+◌, Bool, true, false, not, cond, ◌||◌, List, [], ◌∷◌, ◌++◌, length, map, fold, refl, sym, ap, ◌∙◌, true≢false, arith, if◌then◌else◌}
use Rattle.std.specs.List.{list_any, flat_map, position_or_len}
use Rattle.std.proofs.lemmas.List.{append-nil}
use Rattle.std.proofs.lemmas.List.Sums.{fold-append}
use Rattle.std.proofs.lemmas.List.Folds.{list_any-append}
use Rattle.std.proofs.lemmas.Grind.{flat_map-append}
use Rattle.auto_core.specs.Automaton.{trans}
use Rattle.ba_format.specs.Sight.{same_text, noted, place_in}
use Rattle.ba_format.specs.Grammar.{LineContent, StateLine, TransitionLine}
use Rattle.ba_format.specs.Faults.{states_in, labels_in, names_of, labels_of, transitions_in, transitions_of, same_trans}
use Rattle.ba_format.proofs.SightLemmas.{same_text-refl}

-- ---- things seen

-- what is found stays found, with its number
found-more : (text x : List ℕ) (seen : List (List ℕ)) → list_any (same_text text) seen ≡ true → list_any (same_text text) (noted same_text seen x) ≡ true
found-more text x seen h = by (list_any (same_text x) seen)
  where
    by : (b : Bool) → list_any (same_text text) (if b then seen else seen ++ x ∷ []) ≡ true
    by true = h
    by false = list_any-append (same_text text) seen (x ∷ []) ∙ ap (λ b. b || list_any (same_text text) (x ∷ [])) h

position-more : {X : Type 0} (p : X → Bool) (xs ys : List X) → list_any p xs ≡ true → position_or_len p (xs ++ ys) ≡ position_or_len p xs
position-more p [] ys h = absurd (true≢false (sym h))
position-more p (x ∷ xs) ys h = by (p x) h (position-more p xs ys)
  where
    by : (b : Bool) → (b || list_any p xs) ≡ true → (list_any p xs ≡ true → position_or_len p (xs ++ ys) ≡ position_or_len p xs)
        → cond (not b) (1 + position_or_len p (xs ++ ys)) 0 ≡ cond (not b) (1 + position_or_len p xs) 0
    by true h rest = refl
    by false h rest = ap (λ n. 1 + n) (rest h)

number-more : (text x : List ℕ) (seen : List (List ℕ)) → list_any (same_text text) seen ≡ true → place_in same_text (noted same_text seen x) text ≡ place_in same_text seen text
number-more text x seen h = by (list_any (same_text x) seen)
  where
    by : (b : Bool) → place_in same_text (if b then seen else seen ++ x ∷ []) text ≡ place_in same_text seen text
    by true = refl
    by false = position-more (same_text text) seen (x ∷ []) h

-- what was noted is found
pub found-noted : (text : List ℕ) (seen : List (List ℕ)) → list_any (same_text text) (noted same_text seen text) ≡ true
found-noted text seen = by (list_any (same_text text) seen) refl
  where
    by : (b : Bool) → list_any (same_text text) seen ≡ b → list_any (same_text text) (if b then seen else seen ++ text ∷ []) ≡ true
    by true e = e
    by false e = list_any-append (same_text text) seen (text ∷ []) ∙ ap (λ b. b || list_any (same_text text) (text ∷ [])) e ∙ ap (λ b. b || false) (same_text-refl text)

-- a new text gets the next number
pub number-new : (text : List ℕ) (seen : List (List ℕ)) → list_any (same_text text) seen ≡ false → place_in same_text (seen ++ text ∷ []) text ≡ length seen
number-new text [] h = ap (λ b. cond (not b) (1 + 0) 0) (same_text-refl text)
number-new text (x ∷ xs) h = by (same_text text x) h (number-new text xs)
  where
    by : (b : Bool) → (b || list_any (same_text text) xs) ≡ false → (list_any (same_text text) xs ≡ false → place_in same_text (xs ++ text ∷ []) text ≡ length xs)
        → cond (not b) (1 + place_in same_text (xs ++ text ∷ []) text) 0 ≡ suc (length xs)
    by true h rest = absurd (true≢false h)
    by false h rest = omega (arith, rest h)

-- the same of several things noted
all_noted : List (List ℕ) → List (List ℕ) → List (List ℕ)
all_noted seen xs = fold (noted same_text) seen xs

pub found-all : (text : List ℕ) (xs seen : List (List ℕ)) → list_any (same_text text) seen ≡ true → list_any (same_text text) (fold (noted same_text) seen xs) ≡ true
found-all text [] seen h = h
found-all text (x ∷ xs) seen h = found-all text xs (noted same_text seen x) (found-more text x seen h)

pub number-all : (text : List ℕ) (xs seen : List (List ℕ)) → list_any (same_text text) seen ≡ true → place_in same_text (fold (noted same_text) seen xs) text ≡ place_in same_text seen text
number-all text [] seen h = refl
number-all text (x ∷ xs) seen h = number-all text xs (noted same_text seen x) (found-more text x seen h) ∙ number-more text x seen h

-- each of the texts is found
abbrev pub AllFound : List (List ℕ) → List (List ℕ) → Type 0
AllFound seen [] = Unit {0}
AllFound seen (x ∷ xs) = (list_any (same_text x) seen ≡ true) × AllFound seen xs

pub AllFound-noted : (xs seen : List (List ℕ)) → AllFound (fold (noted same_text) seen xs) xs
AllFound-noted [] seen = tt
AllFound-noted (x ∷ xs) seen = (found-all x xs (noted same_text seen x) (found-noted x seen), AllFound-noted xs (noted same_text seen x))

pub AllFound-left : (xs ys seen : List (List ℕ)) → AllFound seen (xs ++ ys) → AllFound seen xs
AllFound-left [] ys seen h = tt
AllFound-left (x ∷ xs) ys seen h = (h.0, AllFound-left xs ys seen h.1)

pub AllFound-right : (xs ys seen : List (List ℕ)) → AllFound seen (xs ++ ys) → AllFound seen ys
AllFound-right [] ys seen h = h
AllFound-right (x ∷ xs) ys seen h = AllFound-right xs ys seen h.1

pub numbers-all : (xs more seen : List (List ℕ)) → AllFound seen xs → map (place_in same_text (fold (noted same_text) seen more)) xs ≡ map (place_in same_text seen) xs
numbers-all [] more seen h = refl
numbers-all (x ∷ xs) more seen h = λ i. number-all x more seen h.0 i ∷ numbers-all xs more seen h.1 i

-- ---- a line more

-- the last line's part of a flat list
pub flat-push : {X : Type 0} (f : LineContent → List X) (entries : List LineContent) (entry : LineContent) → flat_map f (entries ++ entry ∷ []) ≡ flat_map f entries ++ f entry
flat-push f entries entry = flat_map-append f entries (entry ∷ []) ∙ ap (λ l. flat_map f entries ++ l) (append-nil (f entry))

pub names-push : (entries : List LineContent) (entry : LineContent) → names_of (entries ++ entry ∷ []) ≡ fold (noted same_text) (names_of entries) (states_in entry)
names-push entries entry = ap (fold (noted same_text) []) (flat-push states_in entries entry) ∙ fold-append (noted same_text) [] (flat_map states_in entries) (states_in entry)

pub labels-push : (entries : List LineContent) (entry : LineContent) → labels_of (entries ++ entry ∷ []) ≡ fold (noted same_text) (labels_of entries) (labels_in entry)
labels-push entries entry = ap (fold (noted same_text) []) (flat-push labels_in entries entry) ∙ fold-append (noted same_text) [] (flat_map labels_in entries) (labels_in entry)

-- the lines' transitions keep their numbers when more is noted
transitions-kept : (entries : List LineContent) (names labels more_names more_labels : List (List ℕ)) → AllFound names (flat_map states_in entries) → AllFound labels (flat_map labels_in entries)
    → flat_map (transitions_in (fold (noted same_text) names more_names) (fold (noted same_text) labels more_labels)) entries ≡ flat_map (transitions_in names labels) entries
transitions-kept [] names labels more_names more_labels hn hl = refl
transitions-kept (StateLine name ∷ entries) names labels more_names more_labels hn hl = transitions-kept entries names labels more_names more_labels hn.1 hl
transitions-kept (TransitionLine label source target ∷ entries) names labels more_names more_labels hn hl =
    λ i.
    trans (number-all source more_names names hn.0 i) (number-all label more_labels labels hl.0 i) (number-all target more_names names hn.1.0 i)
    ∷ transitions-kept entries names labels more_names more_labels hn.1.1 hl.1 i

pub transitions-push : (entries : List LineContent) (entry : LineContent)
    → transitions_of (entries ++ entry ∷ []) ≡ fold (noted same_trans) (transitions_of entries) (transitions_in (names_of (entries ++ entry ∷ [])) (labels_of (entries ++ entry ∷ [])) entry)
transitions-push entries entry =
    let N = names_of (entries ++ entry ∷ []) in
    let L = labels_of (entries ++ entry ∷ []) in
    let kept : flat_map (transitions_in N L) entries ≡ flat_map (transitions_in (names_of entries) (labels_of entries)) entries =
    (λ i. flat_map (transitions_in (names-push entries entry i) (labels-push entries entry i)) entries)
    ∙ transitions-kept entries (names_of entries) (labels_of entries) (states_in entry) (labels_in entry) (AllFound-noted (flat_map states_in entries) []) (AllFound-noted (flat_map labels_in entries) []) in
    ap (fold (noted same_trans) []) (flat-push (transitions_in N L) entries entry)
    ∙ fold-append (noted same_trans) [] (flat_map (transitions_in N L) entries) (transitions_in N L entry)
    ∙ ap (λ l. fold (noted same_trans) (fold (noted same_trans) [] l) (transitions_in N L entry)) kept
