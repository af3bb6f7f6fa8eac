use Rattle.std.proofs.Common.{◌≡◌, ℕ, ◌-◌, ◌*◌, ◌/◌, ◌^◌, ◌<◌, ◌≤◌, List, sym, ap, ◌∙◌, subst, arith}
use Rattle.auto_core.specs.Automaton.{Automaton, IsAutomaton}
use Rattle.auto_core.specs.Game.{Holds}
use Rattle.auto_core.specs.Delayed.{RankedTriples, AreTriplesOf, IsGreatestDelayed}
use Rattle.bit_rel.specs.Relation.{Relation}
use Rattle.delayed_game.specs.Pairings.{Pairing}
use Rattle.delayed_sim.specs.Stored.{entry_triples}
use Rattle.delayed_sim.specs.Words.{ArePlaces, ListsTriplesBefore}
use Rattle.delayed_game.specs.Played.{HasEachRight, IsPlayed}
use Rattle.delayed_sim.proofs.AheadGreatest.{greatest_ahead}
use Rattle.delayed_sim.proofs.ListLemmas.{listed_pairs}
use Rattle.delayed_sim.proofs.game.greatest_within.Goals as goal
use Rattle.delayed_sim.proofs.game.greatest_within.Goals.{In_ok-entries, After-states}

-- What is left of the game of the places is the greatest relation.
left_over :
    (A L : Automaton) (n w : ℕ) (first : Relation) (R S : Pairing) (ranks : List ℕ) (T : RankedTriples)
    → 1 ≤ n
    → IsAutomaton A
    → ArePlaces A n L
    → w ≡ A.labels ^ (n - 1)
    → first.size ≡ A.states
    → HasEachRight L A (λ x q. Holds first.pairs (x / A.labels ^ (n - 1)) q)
    → R.places ≡ first.size * w
    → R.states ≡ first.size
    → ((x q : ℕ) → x < first.size * w → Holds first.pairs (x / w) q → Holds R.pairs x q)
    → IsPlayed L A R S ranks
    → ListsTriplesBefore A.labels n S ranks S.places 0 T
    → IsGreatestDelayed A n T
left_over A L n w first R S ranks T some valid places is equal each r_places r_states have played listed =
    let all : first.size * w ≡ A.states * A.labels ^ (n - 1) = ap (λ s. s * w) equal ∙ ap (λ v. A.states * v) is in
    let l_places : R.places ≡ L.states = r_places ∙ all ∙ sym places.states in
    let l_states : R.states ≡ A.states = r_states ∙ equal in
    let begins : HasEachRight L A (Holds R.pairs) = λ X below right x q h.
    let x_in = (below x q h).0 in
    let upto : x < first.size * w = omega (arith, all, places.states) in
    have x q upto (subst (λ v. Holds first.pairs (x / v) q) (sym is) (each X below right x q h)) in
    let s_states : S.states ≡ A.states = played.takes.states ∙ l_states in
    let s_places : S.places ≡ A.states * A.labels ^ (n - 1) = played.takes.places ∙ r_places ∙ all in
    greatest_ahead A n L valid places R S ranks begins l_places l_states played T
    (listed_pairs A n S ranks T some s_states s_places played.takes.valid listed)

-- The list is of the automaton's labels and of the ranks.
listed_here : (A : Automaton) (n labels : ℕ) (S : Pairing) (read ranks : List ℕ) (T : RankedTriples) → labels ≡ A.labels → read ≡ ranks → ListsTriplesBefore labels n S read S.places 0 T → ListsTriplesBefore A.labels n S ranks S.places 0 T
listed_here A n labels S read ranks T same is h =
    subst (λ (l : ℕ). ListsTriplesBefore l n S ranks S.places 0 T) same (subst (λ (rs : List ℕ). ListsTriplesBefore labels n S rs S.places 0 T) is h)

pub word_count-requires : goal.word_count-requires
word_count-requires c =
    subst (λ (l : ℕ). l ^ (c.args.letters - 1) < 2 ^ 32) (sym c.labels-labels.ensures.count) c.requires.word_count

pub of_relation-requires-clause-some : goal.of_relation-requires-clause-some
of_relation-requires-clause-some c =
    let is : c.word_count.result ≡ c.args.automaton.now.labels ^ (c.args.letters - 1) = c.word_count.ensures ∙ ap (λ (l : ℕ). l ^ (c.args.letters - 1)) c.labels-labels.ensures.count in
    let some = c.requires.words in
    omega arith

-- The entries are what is left of the game, in their order.
listed : (c : goal.In_ok-entries) → ListsTriplesBefore c.args.automaton.now.labels c.args.letters c.play.new.board c.in_ok-ranks.ranks.items c.play.new.board.places 0 (entry_triples c.args.letters c.in_ok-entries.entries.items)
listed c = listed_here c.args.automaton.now c.args.letters c.labels-labels.result c.play.new.board c.deref.result.now c.in_ok-ranks.ranks.items _ c.labels-labels.ensures.count c.deref.ensures.value c.in_ok-entries.ensures

-- They are the greatest relation.
left : (c : goal.In_ok-entries) → IsGreatestDelayed c.args.automaton.now c.args.letters (entry_triples c.args.letters c.in_ok-entries.entries.items)
left c =
    let n : ℕ = c.args.letters in
    let is : c.word_count.result ≡ c.args.automaton.now.labels ^ (n - 1) = c.word_count.ensures ∙ ap (λ (l : ℕ). l ^ (n - 1)) c.labels-labels.ensures.count in
    left_over c.args.automaton.now c.args.places.now n c.word_count.result c.args.first.now c.in_ok-board.board c.play.new.board c.in_ok-ranks.ranks.items _ c.requires.from c.requires.valid c.requires.places is c.requires.equal
    c.requires.first c.in_ok-board.ensures.places c.in_ok-board.ensures.states (λ x q x_in. (c.in_ok-board.ensures.pairs x q x_in).1) c.in_ok-ranks.ensures (listed c)

-- They are so for what was read of the automaton too.
in_range : (c : goal.After-states) → AreTriplesOf c.states.result c.labels-labels.result c.args.letters (entry_triples c.args.letters c.in_ok-entries.entries.items)
in_range c =
    let T : RankedTriples = entry_triples c.args.letters c.in_ok-entries.entries.items in
    let all = left (goal.at.After-states c).In_ok-entries in
    subst (λ (s : ℕ). AreTriplesOf s c.labels-labels.result c.args.letters T) (sym c.states.ensures.count) (subst (λ (l : ℕ). AreTriplesOf c.args.automaton.now.states l c.args.letters T) (sym c.labels-labels.ensures.count) all.in_range)

pub returns-clause-greatest : goal.returns-clause-greatest
returns-clause-greatest c = left (goal.at.returns-clause-greatest c).In_ok-entries

pub invariant_of-result : goal.invariant_of-result
invariant_of-result c =
    let order = listed (goal.at.invariant_of-result c).In_ok-entries in
    record { letters_from = c.requires.from; letters_upto = c.requires.upto; in_range = in_range c; in_order = order.in_order }

pub returns-clause-valid : goal.returns-clause-valid
returns-clause-valid c =
    let path = goal.at.returns-clause-valid c in
    let all = left path.In_ok-entries in
    let order = listed path.In_ok-entries in
    record { letters_from = c.requires.from; letters_upto = c.requires.upto; in_range = in_range path.After-states; once = all.once; in_order = order.in_order }
