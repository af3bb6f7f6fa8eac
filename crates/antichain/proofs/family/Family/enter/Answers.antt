use Rattle.std.proofs.Common.{◌≡◌, ℕ, ◌<◌, Bool, false, List, [], ◌∷◌, ◌++◌, length, Vec, slice_index_or, sym, ap, ◌∙◌, subst, arith, length-set}
use Rattle.std.specs.Prelude.{filter}
use Rattle.std.specs.declared.alloc.Global.{Global}
use Rattle.auto_core.specs.Outcome.{At}
use Rattle.antichain.specs.declared.parts.Held.{Held}
use Rattle.evidence.specs.Tables.{numbers_at}
use Rattle.antichain.specs.Kept.{AreDropped, held_pair}
use Rattle.evidence.proofs.TableLemmas.{numbers_is, numbers_set, numbers_stay}
use Rattle.antichain.proofs.family.Family.enter.Goals as goal

pub drop_subsumed-requires-clause-there : goal.drop_subsumed-requires-clause-there
drop_subsumed-requires-clause-there c = λ k j is.
    let ends : List (Vec ℕ Global) = c.args.self.now.by_state.items in
    let place : ℕ = c.args.new.state in
    let lt : place < length ends = c.requires.state in
    let numbers : numbers_at ends place ≡ c.deref-2.result.now =
    numbers_is ends place c.index.result.now lt c.index.ensures ∙ sym c.deref-2.ensures.value in
    subst (λ n. j < n) (ap length (sym c.deref.ensures.value)) (c.requires.fits.there place c.requires.state k j (subst (λ l. At l k j) (sym numbers) is))

pub still_live-requires : goal.still_live-requires
still_live-requires c = λ k j is.
    let ends : List (Vec ℕ Global) = c.args.self.now.by_state.items in
    let place : ℕ = c.args.new.state in
    let lt : place < length ends = c.requires.state in
    let numbers : numbers_at ends place ≡ c.deref-3.result.now =
    numbers_is ends place c.index-2.result.now lt c.index-2.ensures ∙ sym c.deref-3.ensures.value in
    let below : j < length c.args.self.now.held.items = c.requires.fits.there place c.requires.state k j (subst (λ l. At l k j) (sym numbers) is) in
    let size : length c.drop_subsumed.new.live.items ≡ length c.args.self.now.live.items = c.drop_subsumed.ensures.size in
    let flags : c.deref-4.result.now ≡ c.drop_subsumed.new.live.items = c.deref-4.ensures.value in
    let h3 = c.requires.fits.live_size in
    subst (λ l. j < length l) (sym flags) (omega arith)

pub returns : goal.returns
returns c =
    let S : List (ℕ × ℕ) = c.args.order.now.pairs in
    let new : Held = c.args.new in
    let ends : List (Vec ℕ Global) = c.args.self.now.by_state.items in
    let place : ℕ = c.args.new.state in
    let lt : place < length ends = c.requires.state in
    let flags : List Bool = c.drop_subsumed.new.live.items in
    let first : c.deref-2.result.now ≡ numbers_at ends place = c.deref-2.ensures.value ∙ sym (numbers_is ends place c.index.result.now lt c.index.ensures) in
    let second : c.deref-3.result.now ≡ numbers_at ends place = c.deref-3.ensures.value ∙ sym (numbers_is ends place c.index-2.result.now lt c.index-2.ensures) in
    let dropped : AreDropped S c.deref.result.now c.deref-2.result.now (held_pair new) c.args.self.now.live.items flags = c.drop_subsumed.ensures in
    let kept : c.in_ok-kept.kept.items ≡ filter (λ j. slice_index_or c.deref-4.result.now j false) c.deref-3.result.now = c.in_ok-kept.ensures in
    let number : c.len-number.result ≡ length c.args.self.now.held.items = c.len-number.ensures ∙ c.args.self.now.held.ok.0 in
    let pushed : c.push.new.self.items ≡ c.in_ok-kept.kept.items ++ c.len-number.result ∷ [] = c.in_ok-push.ensures.items in
    let items : c.push.new.self.items ≡ filter (λ j. slice_index_or flags j false) (numbers_at ends place) ++ length c.args.self.now.held.items ∷ [] =
    pushed
    ∙ ap (λ k. c.in_ok-kept.kept.items ++ k ∷ []) number
    ∙ ap (λ l. l ++ length c.args.self.now.held.items ∷ []) (kept ∙ ap (λ l. filter (λ j. slice_index_or l j false) c.deref-3.result.now) c.deref-4.ensures.value ∙ ap (filter (λ j. slice_index_or flags j false)) second) in
    record {
      held = c.in_ok-push-2.ensures.items;
      flags = flags;
      dropped = subst (λ l. AreDropped S c.args.self.now.held.items l (held_pair new) c.args.self.now.live.items flags) first
          (subst (λ l. AreDropped S l c.deref-2.result.now (held_pair new) c.args.self.now.live.items flags) c.deref.ensures.value dropped);
      live = c.in_ok-push-3.ensures.items;
      table_size = length-set ends place c.push.new.self;
      here = numbers_set ends place c.push.new.self lt ∙ items;
      others = λ k other. numbers_stay ends place k c.push.new.self other;
    }
