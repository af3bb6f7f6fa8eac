use Rattle.std.proofs.Common.{◌≡◌, ℕ, ◌+◌, ◌/◌, ◌↔◌, List, length, drop, sym, ap, ◌∙◌, subst}
use Rattle.auto_core.specs.Game.{Holds}
use Rattle.set_rows.specs.Sets.{IsSubset, IsCovered}
use Rattle.auto_laws.proofs.PlaceLemmas.{take_front}
use Rattle.antichain.proofs.candidates.below.Goals as goal

pub returns-clause-covering : goal.returns-clause-covering
returns-clause-covering c =
    let out : List ℕ = c.write_below.new.out in
    let size : c.in_ok-below.below.len ≡ length out = c.in_ok-below.ensures.len ∙ c.words_for.ensures ∙ ap (λ n. (n + 63) / 64) c.size.ensures.count ∙ sym c.write_below.ensures.row.len in
    subst (λ l. (other : List ℕ) → IsSubset other l ↔ IsCovered (Holds c.args.order.now.pairs) other c.args.members.now)
    (sym (take_front c.in_ok-below.below.len out (drop (length out) c.in_ok-below.below.items) size)) c.write_below.ensures.covering
