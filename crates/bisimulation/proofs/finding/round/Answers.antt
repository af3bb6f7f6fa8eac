use Rattle.std.proofs.Common.{◌≡◌, ℕ, ◌<◌, List, length, slice_index, Contains, refl, sym, ap, ◌∙◌, subst}
use Rattle.auto_core.specs.Automaton.{Moves}
use Rattle.bisimulation.specs.Signatures.{AreSigned, IsSignedBy}
use Rattle.bisimulation.specs.Rounds.{IsSplit}
use Rattle.bisimulation.specs.declared.partition.Partition.{Partition}
use Rattle.bisimulation.proofs.RoundLemmas.{all_signed, next_round}
use Rattle.bisimulation.proofs.finding.round.Goals as goal

pub returns : goal.returns
returns c =
    let A = c.args.automaton.now in
    let s0 = c.args.partition.now in
    let s2 = c.list.new.self in
    let s3 = c.split.new.self in
    let t0 = c.args.table.now.keys in
    let t1 = c.sign_all.new.table.keys in
    let due : List ℕ = c.args.due.now in
    let moved : List ℕ = c.in_ok-moved.moved.items in
    let k = c.requires in
    let s1 : Partition = record { of = s0.of; signs = c.sign_all.new.signs; kept = s0.kept; members = s0.members; dues = s0.dues } in
    let signed : AreSigned A s0.of.items t0 t1 due s0.signs.items c.sign_all.new.signs.items =
    subst (λ (l : List ℕ). AreSigned A l t0 t1 due s0.signs.items c.sign_all.new.signs.items) c.deref.ensures.value c.in_ok-sign_all.ensures in
    let every : (p : ℕ) → p < A.states → IsSignedBy A s0.of.items t1 p (slice_index s2.signs.items p) = λ p p_in.
    subst (λ (l : List ℕ). IsSignedBy A s0.of.items t1 p (slice_index l p)) (sym c.in_ok-listed.ensures.signs) (all_signed A t0 t1 due s0 s1 k signed refl refl refl refl p p_in) in
    let of : s2.of.items ≡ s0.of.items = c.in_ok-listed.ensures.of in
    let size : length s2.of.items ≡ A.states = ap length of ∙ k.laid.of in
    let split : IsSplit A.states s2 s3 moved = subst (λ (m : ℕ). IsSplit m s2 s3 moved) size c.in_ok-moved.ensures in
    let sources : (p a q : ℕ) → Contains moved q → Moves A p a q → Contains c.in_ok-next.next.keys p = λ p a q h move.
    c.in_ok-next.ensures.sources p a q (subst (λ l. Contains l q) (sym c.deref-3.ensures.value) h) move in
    next_round A c.states-states.ensures.valid t1 s0 s2 s3 moved c.in_ok-next.next.keys k.accept k.coarser signed.different every of split c.in_ok-next.ensures.below sources
