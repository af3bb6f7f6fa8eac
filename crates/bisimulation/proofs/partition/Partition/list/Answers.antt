use Rattle.std.proofs.Common.{[], ℕ, ◌<◌, List, length, get_or, slice_index, refl, sym, ap, subst, arith}
use Rattle.std.proofs.lemmas.List.Elements.{All-push}
use Rattle.bisimulation.specs.Rounds.{IsLaidOut, IsRegarded, AreBelow}
use Rattle.bisimulation.proofs.RegardLemmas.{dues_changed, listing_starts, listing_more, listing_ends}
use Rattle.bisimulation.proofs.partition.Partition.list.Goals as goal

pub loop-i-init : goal.loop-i-init
loop-i-init c =
    let s = c.args.self.now in
    listing_starts s _ c.args.due.now c.new-listed.result.items c.new-listed.ensures.items
    (dues_changed (length s.of.items) s _ [] c.requires.laid (λ k d lt. absurd (omega arith)) refl refl refl refl c.count_dues.ensures)

pub regard_once-requires-clause-laid : goal.regard_once-requires-clause-laid
regard_once-requires-clause-laid c =
    let k = c.loop-i.invariant.regarded in
    subst (λ (m : ℕ). IsLaidOut m c.loop-i.self) (ap length (sym k.of)) k.laid

pub regard_once-requires-clause-class : goal.regard_once-requires-clause-class
regard_once-requires-clause-class c =
    let k = c.loop-i.invariant.regarded in
    let x : ℕ = get_or c.args.due.now c.loop-i.i 0 in
    let lt : x < length c.args.self.now.of.items = c.requires.below c.loop-i.i 0 (omega (arith, c.loop-i-test.true)) in
    subst (λ (l : List ℕ). slice_index l x < length c.loop-i.self.kept.items) (sym c.as_slice.ensures.value) (k.laid.classes x lt)

pub regard_once-requires-clause-below : goal.regard_once-requires-clause-below
regard_once-requires-clause-below c =
    let k = c.loop-i.invariant.regarded in
    let n : ℕ = length c.args.self.now.of.items in
    let x : ℕ = get_or c.args.due.now c.loop-i.i 0 in
    let lt : x < n = c.requires.below c.loop-i.i 0 (omega (arith, c.loop-i-test.true)) in
    subst (λ (m : ℕ). AreBelow m c.push.new.self.items) (ap length (sym k.of))
    (subst (AreBelow n) (sym c.in_ok-push.ensures.items) (All-push (λ p. p < n) c.loop-i.listed.items x k.below lt))

pub loop-i-preserved : goal.loop-i-preserved
loop-i-preserved c =
    let s = c.args.self.now in
    let now = c.loop-i.self in
    let next = c.regard_once.new.self in
    let k = c.loop-i.invariant in
    let pushed : List ℕ = c.push.new.self.items in
    let more : List ℕ = c.regard_once.new.listed.items in
    listing_more s now next c.args.due.now c.loop-i.i c.loop-i.listed.items pushed more k (omega (arith, c.loop-i-test.true)) c.requires.below c.in_ok-push.ensures.items
    (subst (λ (m : ℕ). IsRegarded m now next pushed more) (ap length k.regarded.of) c.in_ok-regard_once.ensures)

pub returns-clause-of : goal.returns-clause-of
returns-clause-of c = c.loop-i.invariant.regarded.of

pub returns-clause-signs : goal.returns-clause-signs
returns-clause-signs c = c.loop-i.invariant.regarded.signs

pub returns-clause-laid : goal.returns-clause-laid
returns-clause-laid c = c.loop-i.invariant.regarded.laid

pub returns-clause-below : goal.returns-clause-below
returns-clause-below c = c.loop-i.invariant.regarded.below

pub returns-clause-kept : goal.returns-clause-kept
returns-clause-kept c = listing_ends c.args.self.now c.loop-i.self c.args.due.now c.loop-i.i c.loop-i.listed.items c.loop-i.invariant (omega (arith, c.loop-i-test.false)) c.requires.kept
