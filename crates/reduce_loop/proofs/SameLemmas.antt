-- Automata that are the same by their labels' texts.
use Rattle.std.proofs.Common.{◌≡◌, ℕ, ◌<◌, true, eqb, List, [], ◌∷◌, ◌++◌, length, map, get_or, refl, sym, ap, ◌∙◌, arith, codes, if◌then◌else◌}
use Rattle.std.specs.List.{flat_map, list_any}
use Rattle.std.proofs.lemmas.List.Folds.{flat_map-map, list_any_at}
use Rattle.auto_core.specs.declared.parts.Trans.{Trans}
use Rattle.auto_core.specs.Automaton.{trans}
use Rattle.ba_format.specs.Sight.{same_text, place_in, AreDifferent}
use Rattle.ba_format.specs.Joining.{relabelled}
use Rattle.ba_format.specs.Writing.{name_text, state_text, transition_text, accepting_written}
use Rattle.ba_format.proofs.JoinLemmas.{at_number, number_within, place_is}
use Rattle.ba_format.proofs.SightLemmas.{same_text-refl}
use Rattle.reduce_loop.specs.Texts.{with_text, SameByTextsIsWritten, SameByTextsRenumbers, SameByTextsIsSame}
use Rattle.reduce_loop.proofs.MapLemmas.{map_itself, map_told}

-- ---- the text

-- The line of a transition with this text for its label.
abbrev line_with : ℕ × List ℕ × ℕ → List ℕ
line_with t = t.1 ++ (codes "," ++ (name_text t.0 ++ (codes "->" ++ (name_text t.2 ++ codes "\n"))))

transition_lines : (labels : List (List ℕ)) (ts : List Trans) → flat_map (transition_text labels) ts ≡ flat_map line_with (map (with_text labels) ts)
transition_lines labels ts = sym (flat_map-map line_with (with_text labels) ts)

pub same_by_texts_is_written : SameByTextsIsWritten
same_by_texts_is_written A B labels others s =
    let lines = transition_lines labels A.transitions ∙ ap (flat_map line_with) s.transitions ∙ sym (transition_lines others B.transitions) in
    let ends : accepting_written A ≡ accepting_written B = λ i. if eqb (length (s.accepting i)) 0 then s.states i ∷ [] else s.accepting i in
    λ i. state_text (s.initial i) ++ (lines i ++ flat_map state_text (ends i))

-- ---- the numbers of the labels

-- Of different texts each stands at its own place.
own_place : (texts : List (List ℕ)) (a : ℕ) → AreDifferent texts → a < length texts → place_in same_text texts (get_or texts a []) ≡ a
own_place texts a different lt =
    let text = get_or texts a [] in
    let found : list_any (same_text text) texts ≡ true = list_any_at (same_text text) texts a [] lt (same_text-refl text) in
    let place = place_in same_text texts text in
    let within = number_within texts text found in
    let same = at_number texts text found in
    place_is place a (λ lower. different a place [] lower within same) (λ lower. different place a [] lower lt (sym same))

pub same_by_texts_renumbers : SameByTextsRenumbers
same_by_texts_renumbers A B labels others w s =
    map_told (λ (t : Trans). Unit {0}) (λ t. t.label < length others) (with_text labels) (with_text others) (relabelled labels others) (λ t. t)
    (λ t u none short e.
    let place = ap (λ x. place_in same_text others x.1) e ∙ own_place others u.label w.different short in
    λ i. trans ((e i).0) (place i) ((e i).2))
    A.transitions B.transitions (λ k d lt. tt) (λ k d lt. let r = w.valid.in_range k d lt in omega (arith, r.2, w.all_named)) s.transitions
    ∙ map_itself B.transitions

pub same_by_texts_is_same : SameByTextsIsSame
same_by_texts_is_same A B labels w v count s =
    let steps : A.transitions ≡ B.transitions =
    sym (map_itself A.transitions)
    ∙ map_told (λ t. t.label < length labels) (λ (t : Trans). Unit {0}) (λ t. t) (λ t. t) (λ t. t) (relabelled labels labels)
    (λ t u short none e.
    let place = own_place labels t.label w.different short in
    λ i. trans ((e i).source) ((sym place ∙ ap (λ x. place_in same_text labels (get_or labels x.label [])) e) i) ((e i).target))
    A.transitions A.transitions (λ k d lt. let r = w.valid.in_range k d lt in omega (arith, r.2, w.all_named)) (λ k d lt. tt) refl
    ∙ same_by_texts_renumbers A B labels labels v s in
    λ i. record {
      states = s.states i;
      labels = count i;
      initial = s.initial i;
      transitions = steps i;
      accepting = s.accepting i;
    }
