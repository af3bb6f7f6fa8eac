use Rattle.std.proofs.Common.{rules, ◌≡◌, ℕ, ◌-◌, ◌*◌, ◌^◌, ◌<◌, ◌≤◌, List, length, sym, ap, ◌∙◌, subst, arith}
use Rattle.auto_core.specs.Automaton.{Automaton, IsAutomaton}
use Rattle.auto_core.specs.declared.parts.Trans.{Trans}
use Rattle.auto_core.specs.Build.{IsBuilt}
use Rattle.auto_core.specs.Parts.{AreParts}
use Rattle.auto_core.specs.Delayed.{letters_for}
use Rattle.delayed_sim.specs.Words.{ArePlaces}
use Rattle.delayed_sim.specs.Steps.{AreSteps, AreAcceptingPlaces}
use Rattle.delayed_sim.proofs.FewLemmas.{IsSmall, small_game, place_rises}
use Rattle.delayed_sim.proofs.StepLemmas.{place_parts, built_places}
use Rattle.delayed_sim.proofs.places.places_of.Goals as goal

-- The number of words as the program has it.
counted : (A : Automaton) (n w labels : ℕ) → w ≡ labels ^ (n - 1) → labels ≡ A.labels → w ≡ A.labels ^ (n - 1)
counted A n w labels is same = is ∙ ap (λ (l : ℕ). l ^ (n - 1)) same

some_words : (A : Automaton) (n w : ℕ) → IsSmall A n → w ≡ A.labels ^ (n - 1) → 0 < w
some_words A n w small is = let some = small.words in omega arith

few_places : (A : Automaton) (n w : ℕ) → IsSmall A n → w ≡ A.labels ^ (n - 1) → A.states * w < 2 ^ 32
few_places A n w small is = let upto = small.places in omega (arith, ap (λ v. A.states * v) is)

few_letters : (A : Automaton) (n w : ℕ) → IsSmall A n → w ≡ A.labels ^ (n - 1) → A.labels * w < 2 ^ 32
few_letters A n w small is = let upto = small.letters in omega (arith, ap (λ v. A.labels * v) is)

few_steps : (A : Automaton) (n w : ℕ) → IsSmall A n → w ≡ A.labels ^ (n - 1) → length A.transitions * w < 2 ^ 32
few_steps A n w small is = let upto = small.steps in omega (arith, ap (λ v. length A.transitions * v) is)

first_place : (A : Automaton) (n w : ℕ) → IsAutomaton A → IsSmall A n → w ≡ A.labels ^ (n - 1) → A.initial * w < 2 ^ 32
first_place A n w valid small is =
    let below = place_rises A.initial A.states w 0 0 valid.initial_is_state (some_words A n w small is) in
    let upto = few_places A n w small is in
    omega arith

parts_of : (A : Automaton) (n w : ℕ) (steps : List Trans) (accepting : List ℕ) → IsAutomaton A → 2 ≤ n → n ≡ letters_for A n → w ≡ A.labels ^ (n - 1) → AreSteps A w steps (length A.transitions * w) → AreAcceptingPlaces A w accepting (A.states * w) → AreParts (A.states * w) A.labels (A.initial * w) steps accepting
parts_of A n w steps accepting valid more fits is moves ends =
    let v = A.labels ^ (n - 1) in
    subst (λ u. AreParts (A.states * u) A.labels (A.initial * u) steps accepting) (sym is)
    (place_parts A n valid (omega arith) (small_game A n valid more fits) steps accepting
    (subst (λ u. AreSteps A u steps (length A.transitions * u)) is moves) (subst (λ u. AreAcceptingPlaces A u accepting (A.states * u)) is ends))

made_places : (A : Automaton) (n w : ℕ) (steps : List Trans) (accepting : List ℕ) (L : Automaton) → IsAutomaton A → 2 ≤ n → n ≡ letters_for A n → w ≡ A.labels ^ (n - 1) → AreSteps A w steps (length A.transitions * w) → AreAcceptingPlaces A w accepting (A.states * w) → IsBuilt (A.states * w) A.labels (A.initial * w) steps accepting L → ArePlaces A n L
made_places A n w steps accepting L valid more fits is moves ends built =
    built_places A n valid (omega arith) (small_game A n valid more fits) steps accepting
    (subst (λ u. AreSteps A u steps (length A.transitions * u)) is moves) (subst (λ u. AreAcceptingPlaces A u accepting (A.states * u)) is ends)
    L (subst (λ u. IsBuilt (A.states * u) A.labels (A.initial * u) steps accepting L) is built)

pub word_count-words-requires : goal.word_count-words-requires
word_count-words-requires c =
    let small = small_game c.args.automaton.now c.args.letters c.requires.valid c.requires.from c.requires.fitting in
    let upto = small.word_count in
    omega (arith, ap (λ (l : ℕ). l ^ (c.args.letters - 1)) c.labels.ensures.count)

pub steps_of-requires-clause-some : goal.steps_of-requires-clause-some
steps_of-requires-clause-some c = some_words c.args.automaton.now c.args.letters c.word_count-words.result (small_game c.args.automaton.now c.args.letters c.requires.valid c.requires.from c.requires.fitting) (counted c.args.automaton.now c.args.letters c.word_count-words.result c.labels.result c.word_count-words.ensures c.labels.ensures.count)

pub steps_of-requires-clause-places : goal.steps_of-requires-clause-places
steps_of-requires-clause-places c = few_places c.args.automaton.now c.args.letters c.word_count-words.result (small_game c.args.automaton.now c.args.letters c.requires.valid c.requires.from c.requires.fitting) (counted c.args.automaton.now c.args.letters c.word_count-words.result c.labels.result c.word_count-words.ensures c.labels.ensures.count)

pub steps_of-requires-clause-letters : goal.steps_of-requires-clause-letters
steps_of-requires-clause-letters c = few_letters c.args.automaton.now c.args.letters c.word_count-words.result (small_game c.args.automaton.now c.args.letters c.requires.valid c.requires.from c.requires.fitting) (counted c.args.automaton.now c.args.letters c.word_count-words.result c.labels.result c.word_count-words.ensures c.labels.ensures.count)

pub steps_of-requires-clause-few : goal.steps_of-requires-clause-few
steps_of-requires-clause-few c = few_steps c.args.automaton.now c.args.letters c.word_count-words.result (small_game c.args.automaton.now c.args.letters c.requires.valid c.requires.from c.requires.fitting) (counted c.args.automaton.now c.args.letters c.word_count-words.result c.labels.result c.word_count-words.ensures c.labels.ensures.count)

pub accepting_places-requires-clause-some : goal.accepting_places-requires-clause-some
accepting_places-requires-clause-some c = some_words c.args.automaton.now c.args.letters c.word_count-words.result (small_game c.args.automaton.now c.args.letters c.requires.valid c.requires.from c.requires.fitting) (counted c.args.automaton.now c.args.letters c.word_count-words.result c.labels.result c.word_count-words.ensures c.labels.ensures.count)

pub accepting_places-requires-clause-places : goal.accepting_places-requires-clause-places
accepting_places-requires-clause-places c = few_places c.args.automaton.now c.args.letters c.word_count-words.result (small_game c.args.automaton.now c.args.letters c.requires.valid c.requires.from c.requires.fitting) (counted c.args.automaton.now c.args.letters c.word_count-words.result c.labels.result c.word_count-words.ensures c.labels.ensures.count)

pub overflow_mul-states : goal.overflow_mul-states
overflow_mul-states c =
    let w : ℕ = c.word_count-words.result in
    let small = small_game c.args.automaton.now c.args.letters c.requires.valid c.requires.from c.requires.fitting in
    let upto = few_places c.args.automaton.now c.args.letters w small (counted c.args.automaton.now c.args.letters w c.labels.result c.word_count-words.ensures c.labels.ensures.count) in
    let fits : c.states.result * w < 2 ^ 32 = subst (λ (s : ℕ). s * w < 2 ^ 32) (sym c.states.ensures.count) upto in
    search rules

pub overflow_mul-initial : goal.overflow_mul-initial
overflow_mul-initial c =
    let w : ℕ = c.word_count-words.result in
    let small = small_game c.args.automaton.now c.args.letters c.requires.valid c.requires.from c.requires.fitting in
    let upto = first_place c.args.automaton.now c.args.letters w c.requires.valid small (counted c.args.automaton.now c.args.letters w c.labels.result c.word_count-words.ensures c.labels.ensures.count) in
    let fits : c.initial.result * w < 2 ^ 32 = subst (λ (s : ℕ). s * w < 2 ^ 32) (sym c.initial.ensures.state) upto in
    search rules

pub of_parts-requires : goal.of_parts-requires
of_parts-requires c =
    let A = c.args.automaton.now in
    let w : ℕ = c.word_count-words.result in
    let is = counted A c.args.letters w c.labels.result c.word_count-words.ensures c.labels.ensures.count in
    let steps = c.in_ok-steps.steps.items in
    let ends = c.in_ok-accepting.accepting.items in
    let parts = parts_of A c.args.letters w steps ends c.requires.valid c.requires.from c.requires.fitting is c.in_ok-steps.ensures.steps c.in_ok-accepting.ensures in
    subst (λ (s : ℕ). AreParts (s * w) c.labels-2.result (c.initial.result * w) c.deref.result.now c.deref-2.result.now) (sym c.states.ensures.count)
    (subst (λ (l : ℕ). AreParts (A.states * w) l (c.initial.result * w) c.deref.result.now c.deref-2.result.now) (sym c.labels-2.ensures.count)
    (subst (λ (i : ℕ). AreParts (A.states * w) A.labels (i * w) c.deref.result.now c.deref-2.result.now) (sym c.initial.ensures.state)
    (subst (λ ts. AreParts (A.states * w) A.labels (A.initial * w) ts c.deref-2.result.now) (sym c.deref.ensures.value)
    (subst (λ qs. AreParts (A.states * w) A.labels (A.initial * w) steps qs) (sym c.deref-2.ensures.value) parts))))

pub returns : goal.returns
returns c =
    let A = c.args.automaton.now in
    let w : ℕ = c.word_count-words.result in
    let is = counted A c.args.letters w c.labels.result c.word_count-words.ensures c.labels.ensures.count in
    let steps = c.in_ok-steps.steps.items in
    let ends = c.in_ok-accepting.accepting.items in
    let L = c.in_ok-places.places in
    let B : List Trans → List ℕ → ℕ → ℕ → ℕ → Type 0 = λ ts qs s l i. IsBuilt (s * w) l (i * w) ts qs L in
    let raw : B c.deref.result.now c.deref-2.result.now c.states.result c.labels-2.result c.initial.result = c.in_ok-places.ensures in
    let one : B steps c.deref-2.result.now c.states.result c.labels-2.result c.initial.result = subst (λ ts. B ts c.deref-2.result.now c.states.result c.labels-2.result c.initial.result) c.deref.ensures.value raw in
    let two : B steps ends c.states.result c.labels-2.result c.initial.result = subst (λ qs. B steps qs c.states.result c.labels-2.result c.initial.result) c.deref-2.ensures.value one in
    let three : B steps ends A.states c.labels-2.result c.initial.result = subst (λ s. B steps ends s c.labels-2.result c.initial.result) c.states.ensures.count two in
    let four : B steps ends A.states A.labels c.initial.result = subst (λ l. B steps ends A.states l c.initial.result) c.labels-2.ensures.count three in
    let built : B steps ends A.states A.labels A.initial = subst (λ i. B steps ends A.states A.labels i) c.initial.ensures.state four in
    made_places A c.args.letters w steps ends L c.requires.valid c.requires.from c.requires.fitting is c.in_ok-steps.ensures.steps c.in_ok-accepting.ensures built
