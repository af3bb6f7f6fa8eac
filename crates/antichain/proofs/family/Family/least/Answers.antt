use Rattle.std.proofs.Common.{◌≡◌, ℕ, ◌<◌, List, length, Vec, MatchOption, sym, ap, ◌∙◌, subst}
use Rattle.std.specs.declared.alloc.Global.{Global}
use Rattle.auto_core.specs.Outcome.{At}
use Rattle.antichain.specs.declared.parts.Held.{Held}
use Rattle.evidence.specs.Tables.{numbers_at}
use Rattle.antichain.specs.Kept.{NoneSubsumes, IsFirstSubsumer, held_pair}
use Rattle.evidence.proofs.TableLemmas.{numbers_is}
use Rattle.antichain.proofs.family.Family.least.Goals as goal

pub least_subsumer-requires-clause-there : goal.least_subsumer-requires-clause-there
least_subsumer-requires-clause-there c = λ k j is.
    let table : List (Vec ℕ Global) = c.args.self.now.by_state.items in
    let place : ℕ = c.args.new.now.state in
    let numbers : numbers_at table place ≡ c.deref-2.result.now = numbers_is table place c.index.result.now c.requires.state c.index.ensures ∙ sym c.deref-2.ensures.value in
    subst (λ n. j < n) (ap length (sym c.deref.ensures.value)) (c.requires.fits.there place c.requires.state k j (subst (λ l. At l k j) (sym numbers) is))

pub returns : goal.returns
returns c =
    let S : List (ℕ × ℕ) = c.args.order.now.pairs in
    let table : List (Vec ℕ Global) = c.args.self.now.by_state.items in
    let place : ℕ = c.args.new.now.state in
    let numbers : c.deref-2.result.now ≡ numbers_at table place = c.deref-2.ensures.value ∙ sym (numbers_is table place c.index.result.now c.requires.state c.index.ensures) in
    let Told : List Held → List ℕ → Type 0 = λ held l. MatchOption c.least_subsumer.result (NoneSubsumes S held l (held_pair c.args.new.now)) (IsFirstSubsumer S held l (held_pair c.args.new.now)) in
    subst (Told c.args.self.now.held.items) numbers (subst (λ held. Told held c.deref-2.result.now) c.deref.ensures.value c.least_subsumer.ensures)
