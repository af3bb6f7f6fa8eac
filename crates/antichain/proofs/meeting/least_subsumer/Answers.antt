use Rattle.std.proofs.Common.{◌≡◌, ℕ, slice_index_or, refl, sym, ◌∙◌, subst, inl, inr, arith}
use Rattle.std.proofs.lemmas.Bool.{cases_lt, false≢true}
use Rattle.auto_core.specs.Game.{Holds}
use Rattle.auto_core.specs.Pairs.{PairSubsumes}
use Rattle.auto_core.specs.Outcome.{At}
use Rattle.auto_laws.proofs.PlaceLemmas.{at_same, at_within, read_at}
use Rattle.antichain.specs.declared.parts.Held.{Held}
use Rattle.antichain.specs.Kept.{held_pair}
use Rattle.antichain.proofs.KeptLemmas.{subset_subsumes}
use Rattle.antichain.proofs.meeting.least_subsumer.Goals as goal

pub subsumes-requires : goal.subsumes-requires
subsumes-requires c =
    let j : ℕ = slice_index_or c.args.among.now c.loop-number.number-index 0 in
    let is : At c.args.among.now c.loop-number.number-index j = read_at c.args.among.now c.loop-number.number-index 0 j c.loop-number-test.true refl in
    let h : Held = c.index-held-number.result in
    let there : At c.args.held.now j h = read_at c.args.held.now j h h (c.requires.there c.loop-number.number-index j is) c.index-held-number.is in
    record {
      len = (c.requires.held j h there).row.len ∙ sym c.requires.new.below.len;
      head = (c.requires.held j h there).head;
      below_head = c.requires.new.below_head;
    }

pub returns-then-subsumes : goal.returns-then-subsumes
returns-then-subsumes c =
    let j : ℕ = slice_index_or c.args.among.now c.loop-number.number-index 0 in
    let is : At c.args.among.now c.loop-number.number-index j = read_at c.args.among.now c.loop-number.number-index 0 j c.loop-number-test.true refl in
    let h : Held = c.index-held-number.result in
    let there : At c.args.held.now j h = read_at c.args.held.now j h h (c.requires.there c.loop-number.number-index j is) c.index-held-number.is in
    record {
      place = c.loop-number.number-index;
      is = is;
      element = h;
      element_is = there;
      subsumes = (subset_subsumes c.args.order.now.size c.args.order.now.pairs h c.args.new.now c.requires.new).0 (c.if-subsumes.ensures.0 refl);
      before = λ k i g lt i_is g_is sub. c.loop-number.invariant k i g lt i_is g_is sub;
    }

pub loop-number-preserved : goal.loop-number-preserved
loop-number-preserved c = λ k i g lt i_is g_is sub.
    let j : ℕ = slice_index_or c.args.among.now c.loop-number.number-index 0 in
    let is : At c.args.among.now c.loop-number.number-index j = read_at c.args.among.now c.loop-number.number-index 0 j c.loop-number-test.true refl in
    let h : Held = c.index-held-number.result in
    let there : At c.args.held.now j h = read_at c.args.held.now j h h (c.requires.there c.loop-number.number-index j is) c.index-held-number.is in
    elim (cases_lt k c.loop-number.number-index) [
      | inl less ↦ c.loop-number.invariant k i g less i_is g_is sub
      | inr more ↦
          let here : k ≡ c.loop-number.number-index = omega arith in
          let same : i ≡ j = at_same c.args.among.now c.loop-number.number-index i j (subst (λ m. At c.args.among.now m i) here i_is) is in
          let g_same : g ≡ h = at_same c.args.held.now j g h (subst (λ m. At c.args.held.now m g) same g_is) there in
          let found : PairSubsumes (Holds c.args.order.now.pairs) (held_pair h) (held_pair c.args.new.now) =
          subst (λ y. PairSubsumes (Holds c.args.order.now.pairs) (held_pair y) (held_pair c.args.new.now)) g_same sub in
          false≢true (c.if-subsumes.ensures.1 ((subset_subsumes c.args.order.now.size c.args.order.now.pairs h c.args.new.now c.requires.new).1 found))
    ]

pub returns : goal.returns
returns c = λ k i g i_is g_is sub.
    let within = at_within c.args.among.now k i i_is in
    let past = c.loop-number-test.false in
    c.loop-number.invariant k i g (omega arith) i_is g_is sub
