use Rattle.std.proofs.Common.{ℕ, ◌≡◌, ◌<◌, ◌↔◌, ◌∷◌, [], List, length, Contains, IsTrue, true, refl, sym, ap, ◌∙◌, subst, arith, rules}
use Rattle.auto_core.specs.Automaton.{Automaton}
use Rattle.auto_core.specs.Graph.{arc_at}
use Rattle.auto_core.specs.declared.parts.Mode.TheVariants.{Buchi}
use Rattle.evidence.specs.Tables.{numbers_at}
use Rattle.evidence.proofs.TableLemmas.{numbers_is}
use Rattle.cert_value.specs.declared.types.YesBody.{YesBody}
use Rattle.cert_check.specs.Inclusion.{element_arcs, live_in}
use Rattle.cert_check.specs.Supers.{held_arc, held_block, held_number, has_key}
use Rattle.cert_check.specs.Turns.{IsTurnAt, HasLassos}
use Rattle.cert_check.specs.declared.blocks.Numbered.{Numbered}
use Rattle.cert_check.specs.declared.elements.Supers.{Supers}
use Rattle.cert_check.proofs.SuperLemmas.{held_ends}
use Rattle.cert_check.proofs.PairLemmas.{keys_more, passes_told, turn_formed, turn_within, lassos_named}
use Rattle.cert_check.proofs.pairs.passes_with_all.Goals as goal
use Rattle.cert_check.proofs.pairs.passes_with_all.Goals.{After-deref, In_ok-holds}

-- A number of the list is that of a turn at the state.
turn_at : (c : goal.After-deref) (h : ℕ) → Contains c.deref.result.now h → IsTurnAt c.args.evidence.now c.args.supers.now (length c.args.evidence.now.elements) c.element-it.result.arc.to h
turn_at c h there =
    let A : Automaton = c.args.first.now in
    let su : Supers = c.args.supers.now in
    let e : ℕ = c.args.e in
    let p : ℕ = c.element-it.result.arc.to in
    let ends : (held_arc su e).to < A.states =
    held_ends Buchi A c.args.second.now (held_arc su e) (held_block su e) (arc_at A (element_arcs A c.args.evidence.now.elements) e) c.initial.ensures.valid (c.requires.supers.each e c.requires.element) in
    let to : p ≡ (held_arc su e).to = ap (λ (m : Numbered). m.arc.to) c.element-it.ensures in
    let within : p < length c.args.turns.now = omega (arith, ends, to, c.requires.turns.count) in
    let list : c.deref.result.now ≡ numbers_at c.args.turns.now p =
    c.deref.ensures.value ∙ sym (numbers_is c.args.turns.now p c.index-turns-it.result within c.index-turns-it.is) in
    c.requires.turns.only p h (subst (λ (l : List ℕ). Contains l h) list there)

-- Whether the element has its lassos.
asked : (c : goal.In_ok-holds) → IsTrue c.in_ok-holds.holds ↔ HasLassos c.args.second.now c.args.supers.now.graphs.graphs.items (held_number c.args.supers.now c.args.e) (numbers_at c.args.turns.now (held_arc c.args.supers.now c.args.e).to)
asked c =
    let A : Automaton = c.args.first.now in
    let B : Automaton = c.args.second.now in
    let ev : YesBody = c.args.evidence.now in
    let su : Supers = c.args.supers.now in
    let e : ℕ = c.args.e in
    let to : ℕ = (held_arc su e).to in
    let p : ℕ = c.element-it.result.arc.to in
    let ends : to < A.states =
    held_ends Buchi A B (held_arc su e) (held_block su e) (arc_at A (element_arcs A ev.elements) e) c.initial.ensures.valid (c.requires.supers.each e c.requires.element) in
    let to_is : p ≡ to = ap (λ (m : Numbered). m.arc.to) c.element-it.ensures in
    let within : p < length c.args.turns.now = omega (arith, ends, to_is, c.requires.turns.count) in
    let list : c.deref.result.now ≡ numbers_at c.args.turns.now to =
    c.deref.ensures.value ∙ sym (numbers_is c.args.turns.now p c.index-turns-it.result within c.index-turns-it.is) ∙ ap (numbers_at c.args.turns.now) to_is in
    lassos_named B su.graphs.graphs.items su.graphs.graphs.items c.element-it.result.number (held_number su e) c.deref.result.now (numbers_at c.args.turns.now to) c.in_ok-holds.holds
    refl (ap (λ (m : Numbered). m.number) c.element-it.ensures) list c.in_ok-holds.ensures.told

pub returns-then-not-branch-clause-told : goal.returns-then-not-branch-clause-told
returns-then-not-branch-clause-told c =
    let A : Automaton = c.args.first.now in
    let B : Automaton = c.args.second.now in
    let ev : YesBody = c.args.evidence.now in
    let su : Supers = c.args.supers.now in
    let e : ℕ = c.args.e in
    let to : ℕ = (held_arc su e).to in
    let live : live_in ev e ≡ true = c.is_live.ensures.0 c.if-not-is_live.false in
    let starts : (held_arc su e).from ≡ A.initial = ap (λ (m : Numbered). m.arc.from) (sym c.element-it.ensures) ∙ c.if-it-initial.false ∙ c.initial.ensures.state in
    let key_is : c.pair_key-key.result ≡ to ∷ held_number su e ∷ [] = c.pair_key-key.ensures ∙ ap (λ (m : Numbered). m.arc.to ∷ m.number ∷ []) c.element-it.ensures in
    let there : has_key c.args.tests.now.passed c.pair_key-key.result ≡ true = search rules in
    let lassos : HasLassos B su.graphs.graphs.items (held_number su e) (numbers_at c.args.turns.now to) = c.requires.tests.passed c.pair_key-key.result to (held_number su e) there key_is in
    passes_told A B ev su c.requires.supers e (numbers_at c.args.turns.now to) true c.requires.element live starts
    (λ g. (c.requires.turns.only to g, c.requires.turns.all to g)) (λ _. lassos, λ _. refl)

pub returns-then-not-branch-clause-tests : goal.returns-then-not-branch-clause-tests
returns-then-not-branch-clause-tests c = λ _.
    let B : Automaton = c.args.second.now in
    let su : Supers = c.args.supers.now in
    let e : ℕ = c.args.e in
    let to : ℕ = (held_arc su e).to in
    let key_is : c.pair_key-key.result ≡ to ∷ held_number su e ∷ [] = c.pair_key-key.ensures ∙ ap (λ (m : Numbered). m.arc.to ∷ m.number ∷ []) c.element-it.ensures in
    let there : has_key c.args.tests.now.passed c.pair_key-key.result ≡ true = search rules in
    record {
      passed = keys_more (λ p g. HasLassos B su.graphs.graphs.items g (numbers_at c.args.turns.now p)) c.args.tests.now.passed c.is_new.new.keys c.pair_key-key.result to (held_number su e) key_is
          c.in_ok-is_new.ensures.added (c.requires.tests.passed c.pair_key-key.result to (held_number su e) there key_is) c.requires.tests.passed;
      loops = c.requires.tests.loops;
      size = c.requires.tests.size;
      room = c.requires.tests.room;
    }

pub bounds-turns-it : goal.bounds-turns-it
bounds-turns-it c =
    let A : Automaton = c.args.first.now in
    let su : Supers = c.args.supers.now in
    let e : ℕ = c.args.e in
    let ends : (held_arc su e).to < A.states =
    held_ends Buchi A c.args.second.now (held_arc su e) (held_block su e) (arc_at A (element_arcs A c.args.evidence.now.elements) e) c.initial.ensures.valid (c.requires.supers.each e c.requires.element) in
    let to : c.element-it.result.arc.to ≡ (held_arc su e).to = ap (λ (m : Numbered). m.arc.to) c.element-it.ensures in
    omega (arith, ends, to, c.requires.turns.count)

pub has_lassos-requires-clause-others : goal.has_lassos-requires-clause-others
has_lassos-requires-clause-others c = λ h there.
    let p : ℕ = c.element-it.result.arc.to in
    (turn_formed c.args.first.now c.args.second.now c.args.evidence.now c.args.supers.now c.requires.supers p h (turn_at (goal.at.has_lassos-requires-clause-others c).After-deref h there))

pub has_lassos-requires-clause-there : goal.has_lassos-requires-clause-there
has_lassos-requires-clause-there c = λ h there.
    let turn = turn_at (goal.at.has_lassos-requires-clause-there c).After-deref h there in
    let small : h < length c.args.supers.now.graphs.graphs.items = turn_within c.args.first.now c.args.second.now c.args.evidence.now c.args.supers.now c.requires.supers c.element-it.result.arc.to h turn in
    omega (arith, small, c.requires.tests.size)

pub returns-clause-told : goal.returns-clause-told
returns-clause-told c =
    let A : Automaton = c.args.first.now in
    let B : Automaton = c.args.second.now in
    let ev : YesBody = c.args.evidence.now in
    let su : Supers = c.args.supers.now in
    let e : ℕ = c.args.e in
    let to : ℕ = (held_arc su e).to in
    let live : live_in ev e ≡ true = c.is_live.ensures.0 c.if-not-is_live.false in
    let starts : (held_arc su e).from ≡ A.initial = ap (λ (m : Numbered). m.arc.from) (sym c.element-it.ensures) ∙ c.if-it-initial.false ∙ c.initial.ensures.state in
    passes_told A B ev su c.requires.supers e (numbers_at c.args.turns.now to) c.in_ok-holds.holds c.requires.element live starts
    (λ g. (c.requires.turns.only to g, c.requires.turns.all to g)) (asked (goal.at.returns-clause-told c).In_ok-holds)

pub returns-clause-tests : goal.returns-clause-tests
returns-clause-tests c = λ is.
    let B : Automaton = c.args.second.now in
    let su : Supers = c.args.supers.now in
    let e : ℕ = c.args.e in
    let to : ℕ = (held_arc su e).to in
    let key_is : c.pair_key-key.result ≡ to ∷ held_number su e ∷ [] = c.pair_key-key.ensures ∙ ap (λ (m : Numbered). m.arc.to ∷ m.number ∷ []) c.element-it.ensures in
    record {
      passed = keys_more (λ q g. HasLassos B su.graphs.graphs.items g (numbers_at c.args.turns.now q)) c.args.tests.now.passed c.is_new.new.keys c.pair_key-key.result to (held_number su e) key_is
          c.in_ok-is_new.ensures.added ((asked (goal.at.returns-clause-tests c).In_ok-holds).0 is) c.requires.tests.passed;
      loops = c.in_ok-holds.ensures.loops;
      size = c.in_ok-holds.ensures.size ∙ c.requires.tests.size;
      room = c.in_ok-holds.ensures.room;
    }
