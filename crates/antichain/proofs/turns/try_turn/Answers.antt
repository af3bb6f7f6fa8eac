use Rattle.std.proofs.Common.{◌≡◌, ℕ, ◌+◌, ◌<◌, false, List, [], length, vec_len, slice_index_or, refl, sym, ◌∙◌, subst, arith}
use Rattle.std.proofs.lemmas.List.{get_or_default}
use Rattle.auto_core.specs.Automaton.{Automaton, IsOutgoing}
use Rattle.auto_core.specs.Outcome.{At, Entry}
use Rattle.auto_laws.proofs.PlaceLemmas.{at_within, read_at}
use Rattle.antichain.specs.declared.parts.Held.{Held}
use Rattle.antichain.specs.declared.parts.Fate.TheVariants as fates
use Rattle.antichain.specs.declared.family.Family.{Family}
use Rattle.antichain.specs.Kept.{HasCome, entries_held}
use Rattle.evidence.proofs.RangeLemmas.{extensions_from, extensions_over}
use Rattle.antichain.proofs.TurnLemmas.{IsNext, stands_at, held_in_range, next_stands, comes_next, come_ends, turn_begins, turn_passes}
use Rattle.antichain.proofs.turns.try_turn.Goals as goal
use Rattle.antichain.proofs.turns.try_turn.Goals.{In_ok-new}

-- The candidate is the extension of the element whose turn it is.
next_is : (c : goal.In_ok-new) (x : Entry) → At (entries_held c.args.first.now c.args.family.now) c.args.turn x →
    IsNext c.args.first.now c.args.second.now c.args.order.now.pairs (entries_held c.args.first.now c.loop-t.family) c.args.turn c.loop-t.t x c.in_ok-new.new
next_is c x x_is =
    let A : Automaton = c.args.first.now in
    let mid : Family = c.loop-t.family in
    let h : Held = c.index-2.result.now in
    let h_is : At c.args.family.now.held.items c.args.turn h = read_at c.args.family.now.held.items c.args.turn h h c.requires.turn c.index-2.ensures in
    let come = c.loop-t.invariant.come x x_is in
    let mid_is : At (entries_held A mid) c.args.turn x = come.grown c.args.turn x x_is in
    let mid_in = at_within (entries_held A mid) c.args.turn x mid_is in
    let mid_size : length mid.held.items ≡ length (entries_held A mid) = come.whole.size in
    let from : Held = c.index-from.result.now in
    let from_is : At mid.held.items c.args.turn from = read_at mid.held.items c.args.turn from from (omega arith) c.index-from.ensures in
    next_stands A c.args.second.now c.args.order.now.pairs c.requires.first_valid (entries_held A mid) come.whole.origins c.args.turn c.loop-t.t h x c.in_ok-new.new mid_is
    (c.requires.whole.kept c.args.turn h x h_is x_is) c.outgoing-out.result.begin c.outgoing-out.result.end c.outgoing-out.ensures.range c.loop-t.auto.t c.loop-t-test.true
    (c.in_ok-new.ensures.candidate x (come.whole.kept c.args.turn from x from_is mid_is))

pub returns-then-not-index-clause-come : goal.returns-then-not-index-clause-come
returns-then-not-index-clause-come c =
    let A : Automaton = c.args.first.now in
    let B : Automaton = c.args.second.now in
    let S : List (ℕ × ℕ) = c.args.order.now.pairs in
    let old : Family = c.args.family.now in
    let turn : ℕ = c.args.turn in
    let size : length old.live.items ≡ length old.held.items = c.requires.whole.live_size ∙ sym c.requires.whole.size in
    let turn_in : turn < length old.held.items = c.requires.turn in
    let flag : slice_index_or old.live.items turn false ≡ c.index.result.now = get_or_default old.live.items turn false c.index.result.now (omega arith) ∙ sym c.index.ensures in
    turn_passes A B S c.args.limit old turn c.requires.whole c.requires.few c.requires.turn (flag ∙ c.if-not-index.true)

pub outgoing-out-requires : goal.outgoing-out-requires
outgoing-out-requires c =
    let A : Automaton = c.args.first.now in
    let h : Held = c.index-2.result.now in
    let x = stands_at A c.args.second.now c.args.order.now.pairs c.args.family.now c.args.turn h c.requires.whole c.requires.turn c.index-2.ensures in
    held_in_range A c.args.second.now c.args.order.now.pairs c.requires.first_valid (entries_held A c.args.family.now) c.requires.whole.origins c.args.turn x.entry h x.is x.kept

pub loop-t-init : goal.loop-t-init
loop-t-init c =
    let A : Automaton = c.args.first.now in
    let B : Automaton = c.args.second.now in
    let S : List (ℕ × ℕ) = c.args.order.now.pairs in
    let old : Family = c.args.family.now in
    let turn : ℕ = c.args.turn in
    let size : length old.live.items ≡ length old.held.items = c.requires.whole.live_size ∙ sym c.requires.whole.size in
    let turn_in : turn < length old.held.items = c.requires.turn in
    let flag : slice_index_or old.live.items turn false ≡ c.index.result.now = get_or_default old.live.items turn false c.index.result.now (omega arith) ∙ sym c.index.ensures in
    let h : Held = c.index-2.result.now in
    let h_is : At old.held.items turn h = read_at old.held.items turn h h c.requires.turn c.index-2.ensures in
    record {
      sets = c.requires.sets;
      come = λ x x_is.
          let to : h.state ≡ x.arc.to = (c.requires.whole.kept turn h x h_is x_is).state in
          turn_begins A B S c.args.limit old turn c.outgoing-out.result.begin c.outgoing-out.result.end x c.requires.whole c.requires.few x_is (flag ∙ c.if-not-index.false)
          (subst (λ p. IsOutgoing A p c.outgoing-out.result.begin c.outgoing-out.result.end) to c.outgoing-out.ensures.range);
    }

pub index-from-requires : goal.index-from-requires
index-from-requires c =
    let mid : Family = c.loop-t.family in
    let x = stands_at c.args.first.now c.args.second.now c.args.order.now.pairs c.args.family.now c.args.turn c.index-2.result.now c.requires.whole c.requires.turn c.index-2.ensures in
    let come = c.loop-t.invariant.come x.entry x.is in
    let mid_in = at_within (entries_held c.args.first.now mid) c.args.turn x.entry (come.grown c.args.turn x.entry x.is) in
    let mid_size : length mid.held.items ≡ length (entries_held c.args.first.now mid) = come.whole.size in
    let items : vec_len mid.held ≡ length mid.held.items = mid.held.ok.0 in
    omega arith

pub next_candidate-requires-clause-row : goal.next_candidate-requires-clause-row
next_candidate-requires-clause-row c =
    let mid : Family = c.loop-t.family in
    let from : Held = c.index-from.result.now in
    let x = stands_at c.args.first.now c.args.second.now c.args.order.now.pairs c.args.family.now c.args.turn c.index-2.result.now c.requires.whole c.requires.turn c.index-2.ensures in
    let come = c.loop-t.invariant.come x.entry x.is in
    let mid_in = at_within (entries_held c.args.first.now mid) c.args.turn x.entry (come.grown c.args.turn x.entry x.is) in
    let mid_size : length mid.held.items ≡ length (entries_held c.args.first.now mid) = come.whole.size in
    (stands_at c.args.first.now c.args.second.now c.args.order.now.pairs mid c.args.turn from come.whole (omega arith) c.index-from.ensures).kept.prepared.row

pub consider-requires : goal.consider-requires
consider-requires c =
    let x = stands_at c.args.first.now c.args.second.now c.args.order.now.pairs c.args.family.now c.args.turn c.index-2.result.now c.requires.whole c.requires.turn c.index-2.ensures in
    let come = c.loop-t.invariant.come x.entry x.is in
    record {
      first_valid = c.requires.first_valid;
      second_valid = c.requires.second_valid;
      greatest = c.requires.greatest;
      order_size = c.requires.order_size;
      whole = come.whole;
      candidate = (next_is (goal.at.consider-requires c).In_ok-new x.entry x.is).candidate;
      few = come.few refl;
    }

pub returns-in_default-clause-come : goal.returns-in_default-clause-come
returns-in_default-clause-come c =
    let A : Automaton = c.args.first.now in
    let B : Automaton = c.args.second.now in
    let S : List (ℕ × ℕ) = c.args.order.now.pairs in
    let turn : ℕ = c.args.turn in
    let t : ℕ = c.loop-t.t in
    let x = stands_at A B S c.args.family.now turn c.index-2.result.now c.requires.whole c.requires.turn c.index-2.ensures in
    let next = next_is (goal.at.returns-in_default-clause-come c).In_ok-new x.entry x.is in
    let end : ℕ = c.outgoing-out.result.end in
    come_ends A B S c.args.limit c.args.family.now c.consider.new.family c.in_ok-fate.fate [] (extensions_from A turn x.entry (t + 1) end) [] turn (turn + 1) (turn + 1) c.in_default.not-GoesOn
    (comes_next A B S c.args.limit c.args.family.now c.loop-t.family c.consider.new.family turn t end x.entry c.in_ok-new.new c.in_ok-fate.fate c.loop-t-test.true (c.loop-t.invariant.come x.entry x.is) next.is c.in_ok-fate.ensures)

pub loop-t-preserved : goal.loop-t-preserved
loop-t-preserved c =
    let A : Automaton = c.args.first.now in
    let B : Automaton = c.args.second.now in
    let S : List (ℕ × ℕ) = c.args.order.now.pairs in
    let old : Family = c.args.family.now in
    let now : Family = c.consider.new.family in
    let turn : ℕ = c.args.turn in
    let end : ℕ = c.outgoing-out.result.end in
    record {
      sets = c.in_ok-new.ensures.sets;
      come = λ x x_is.
          let next = next_is (goal.at.loop-t-preserved c).In_ok-new x x_is in
          subst (λ k. HasCome A B S c.args.limit old now k [] (extensions_from A turn x (c.loop-t.t + 1) end) turn (turn + 1)) c.in-GoesOn.is
          (comes_next A B S c.args.limit old c.loop-t.family now turn c.loop-t.t end x c.in_ok-new.new c.in_ok-fate.fate c.loop-t-test.true (c.loop-t.invariant.come x x_is) next.is c.in_ok-fate.ensures);
    }

pub returns-clause-come : goal.returns-clause-come
returns-clause-come c =
    let A : Automaton = c.args.first.now in
    let B : Automaton = c.args.second.now in
    let S : List (ℕ × ℕ) = c.args.order.now.pairs in
    let turn : ℕ = c.args.turn in
    let x = stands_at A B S c.args.family.now turn c.index-2.result.now c.requires.whole c.requires.turn c.index-2.ensures in
    subst (λ l. HasCome A B S c.args.limit c.args.family.now c.loop-t.family fates.GoesOn [] l turn (turn + 1)) (extensions_over A turn x.entry c.loop-t.t c.outgoing-out.result.end c.loop-t-test.false)
    (c.loop-t.invariant.come x.entry x.is)
