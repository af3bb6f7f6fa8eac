use Rattle.std.proofs.Common.{◌≡◌, ℕ, ◌+◌, ◌<◌, false, List, vec_len, length, slice_index_or, slice_set, refl, ◌∙◌, sym, ap, subst, arith}
use Rattle.std.proofs.lemmas.Bool.{false≢true}
use Rattle.auto_core.specs.Game.{Holds}
use Rattle.auto_core.specs.Pairs.{PairSubsumes, StatePair}
use Rattle.auto_core.specs.Outcome.{At}
use Rattle.antichain.specs.declared.parts.Held.{Held}
use Rattle.antichain.specs.Kept.{held_pair}
use Rattle.auto_laws.proofs.PlaceLemmas.{read_at}
use Rattle.antichain.proofs.KeptLemmas.{subset_subsumes}
use Rattle.antichain.proofs.MeetingLemmas.{AreDroppedSoFar, dropped_all, dropped_more, kept_more}
use Rattle.antichain.proofs.meeting.drop_subsumed.Goals as goal
use Rattle.antichain.proofs.meeting.drop_subsumed.Goals.{then-subsumes, else-subsumes}

pub subsumes-requires : goal.subsumes-requires
subsumes-requires c =
    let j : ℕ = slice_index_or c.args.among.now c.loop-number.number-index 0 in
    let is : At c.args.among.now c.loop-number.number-index j = read_at c.args.among.now c.loop-number.number-index 0 j c.loop-number-test.true refl in
    let h : Held = c.index-held-number.result in
    let there : At c.args.held.now j h = read_at c.args.held.now j h h (c.requires.there c.loop-number.number-index j is) c.index-held-number.is in
    record {
      len = c.requires.new.row.len ∙ sym (c.requires.held j h there).below.len;
      head = c.requires.new.head;
      below_head = (c.requires.held j h there).below_head;
    }

pub index_mut-requires : goal.index_mut-requires
index_mut-requires c =
    let j : ℕ = slice_index_or c.args.among.now c.loop-number.number-index 0 in
    let is : At c.args.among.now c.loop-number.number-index j = read_at c.args.among.now c.loop-number.number-index 0 j c.loop-number-test.true refl in
    let lt : j < length c.args.held.now = c.requires.there c.loop-number.number-index j is in
    let size : length c.loop-number.live.items ≡ length c.args.live.now.items = c.loop-number.invariant.size in
    let flags : vec_len c.args.live.now ≡ length c.args.held.now = c.requires.flags in
    let now : vec_len c.loop-number.live ≡ length c.loop-number.live.items = c.loop-number.live.ok.0 in
    let then : vec_len c.args.live.now ≡ length c.args.live.now.items = c.args.live.now.ok.0 in
    omega arith

pub loop-number-preserved : goal.loop-number-preserved
loop-number-preserved c =
    let S : List (ℕ × ℕ) = c.args.order.now.pairs in
    let new : StatePair = held_pair c.args.new.now in
    let j : ℕ = slice_index_or c.args.among.now c.loop-number.number-index 0 in
    let is : At c.args.among.now c.loop-number.number-index j = read_at c.args.among.now c.loop-number.number-index 0 j c.loop-number-test.true refl in
    let h : Held = c.index-held-number.result in
    let lt : j < length c.args.held.now = c.requires.there c.loop-number.number-index j is in
    let there : At c.args.held.now j h = read_at c.args.held.now j h h lt c.index-held-number.is in
    let flags : vec_len c.args.live.now ≡ length c.args.held.now = c.requires.flags in
    let then : vec_len c.args.live.now ≡ length c.args.live.now.items = c.args.live.now.ok.0 in
    let tells = subset_subsumes c.args.order.now.size S c.args.new.now h (c.requires.held j h there) in
    elim c.if-subsumes.branch [
      | then-subsumes w ↦
          let is_so : PairSubsumes (Holds S) new (held_pair h) = tells.0 (w.if-subsumes.ensures.0 refl) in
          let items : c.if-subsumes.live.items ≡ slice_set c.loop-number.live.items j false = ap (λ v. v.items) w.live-is in
          subst (λ l. AreDroppedSoFar S c.args.held.now c.args.among.now new c.args.live.now.items l (c.loop-number.number-index + 1)) (sym items)
          (dropped_more S c.args.held.now c.args.among.now new c.args.live.now.items c.loop-number.live.items c.loop-number.number-index j h is there (omega arith) is_so c.loop-number.invariant)
      | else-subsumes w ↦
          let not_so : PairSubsumes (Holds S) new (held_pair h) → ⊥ = λ sub.
          false≢true (w.if-subsumes.ensures.1 (tells.1 sub)) in
          let items : c.if-subsumes.live.items ≡ c.loop-number.live.items = ap (λ v. v.items) w.live-is in
          subst (λ l. AreDroppedSoFar S c.args.held.now c.args.among.now new c.args.live.now.items l (c.loop-number.number-index + 1)) (sym items)
          (kept_more S c.args.held.now c.args.among.now new c.args.live.now.items c.loop-number.live.items c.loop-number.number-index j h is there not_so c.loop-number.invariant)
    ]

pub returns : goal.returns
returns c =
    dropped_all c.args.order.now.pairs c.args.held.now c.args.among.now (held_pair c.args.new.now) c.args.live.now.items c.loop-number.live.items
    c.loop-number.number-index (let past = c.loop-number-test.false in omega arith) c.loop-number.invariant
