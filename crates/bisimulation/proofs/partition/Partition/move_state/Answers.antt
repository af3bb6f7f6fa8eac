use Rattle.std.proofs.Common.{◌≡◌, ◌++◌, ◌∷◌, [], ℕ, ◌^◌, ◌<◌, List, length, Vec, Global, slice_index, refl, sym, ap, ◌∙◌, subst, arith}
use Rattle.auto_core.specs.Quotient.{class_of}
use Rattle.evidence.proofs.TableLemmas.{numbers_is}
use Rattle.bisimulation.specs.Rounds.{HasClassFor, HasKeptSign}
use Rattle.bisimulation.proofs.SplitLemmas.{is_made, moves_in_place, made_within}
use Rattle.bisimulation.proofs.partition.Partition.move_state.Goals as goal

pub returns : goal.returns
returns c = λ first k.
    let s = c.args.self.now in
    let middle = c.class_for.new.self in
    let n : ℕ = length s.of.items in
    let state : ℕ = c.args.state in
    let made : ℕ = c.in_ok-class.class in
    let parts : List ℕ = c.class_for.new.parts.keys in
    let moved : List ℕ = c.args.moved.now.items in
    let e = c.in_ok-class.ensures in
    let one : slice_index c.as_slice.result.now state ≡ class_of s.of.items state = ap (λ l. slice_index l state) c.as_slice.ensures.value in
    let two : slice_index c.as_slice-2.result.now state ≡ slice_index s.signs.items state = ap (λ l. slice_index l state) c.as_slice-2.ensures.value in
    let three : slice_index c.as_slice-3.result.now (slice_index c.as_slice.result.now state) ≡ slice_index s.kept.items (class_of s.of.items state) =
    ap (λ l. slice_index l (slice_index c.as_slice.result.now state)) c.as_slice-3.ensures.value ∙ ap (slice_index s.kept.items) one in
    let fits : slice_index s.signs.items state < 2 ^ 32 = subst (λ (x : ℕ). x < 2 ^ 32) two e.sign_fits in
    let for_it : HasClassFor s middle c.args.parts.now.keys parts (class_of s.of.items state) (slice_index s.signs.items state) made =
    subst (λ (x : ℕ). HasClassFor s middle c.args.parts.now.keys parts (class_of s.of.items state) x made) two
    (subst (λ (x : ℕ). HasClassFor s middle c.args.parts.now.keys parts x (slice_index c.as_slice-2.result.now state) made) one e.class) in
    let m = is_made n first s c.args.parts.now.keys moved k (class_of s.of.items state) (slice_index s.signs.items state) fits middle parts made e.fits for_it in
    let within = made_within n first s middle parts moved (class_of s.of.items state) (slice_index s.signs.items state) made m in
    let lists : List (Vec ℕ Global) = middle.members.items in
    let apart : HasKeptSign s state → ⊥ = λ has. omega (arith, c.if-sign-as_slice.false, has, two, three) in
    moves_in_place n first s middle _ c.args.parts.now.keys parts moved c.push-2.new.self.items state made c.push.new.self c.requires.state k fits apart m refl refl refl refl refl
    (c.in_ok-push.ensures.items ∙ ap (λ l. l ++ state ∷ []) (sym (numbers_is lists made c.index_mut-2.result.now within c.index_mut-2.ensures.value)))
    c.in_ok-push-2.ensures.items
