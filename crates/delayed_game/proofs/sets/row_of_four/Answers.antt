use Rattle.std.proofs.Common.{◌≡◌, ℕ, ◌*◌, ◌+◌, ◌≤◌, ◌<◌, false, ap, subst, arith}
use Rattle.std.proofs.lemmas.Nat.{row_fits}
use Rattle.auto_core.specs.Rows.{bit_of, cell_of}
use Rattle.delayed_game.proofs.SetLemmas.{set_leads}
use Rattle.delayed_game.proofs.sets.row_of_four.Goals as goal

pub row_at-requires : goal.row_at-requires
row_at-requires c =
    let below = c.set_in-set.ensures.below in
    let w : ℕ = c.args.width in
    let stride : ℕ = c.labels.result * w in
    let same : stride ≡ c.args.automaton.now.labels * w = ap (λ l. l * w) c.labels.ensures.count in
    omega (arith, row_fits (c.args.four * 16 + c.set_in-set.result) stride (w * 256) stride (omega arith) (omega arith), c.requires.sets.len, ap (λ s. w * 256 * s) same)

pub returns-clause-leads : goal.returns-clause-leads
returns-clause-leads c =
    let A = c.args.automaton.now in
    let w : ℕ = c.args.width in
    let sets = c.args.sets.now in
    let row = c.row_at.result.now in
    let k : ℕ = c.args.four * 16 + c.set_in-set.result in
    let same : c.labels.result * w ≡ A.labels * w = ap (λ l. l * w) c.labels.ensures.count in
    let bits : (q : ℕ) → q < A.labels * w * 64 → bit_of row q ≡ cell_of sets (A.labels * w) k q = subst (λ s. (q : ℕ) → q < s * 64 → bit_of row q ≡ cell_of sets s k q) same c.row_at.ensures.bits in
    let outside : (q : ℕ) → A.labels * w * 64 ≤ q → bit_of row q ≡ false = subst (λ s. (q : ℕ) → s * 64 ≤ q → bit_of row q ≡ false) same c.row_at.ensures.outside in
    set_leads A c.requires.valid w c.args.four c.set_in-set.result c.args.ends.now c.set_in-set.ensures.below c.set_in-set.ensures.digits sets row c.requires.sets c.requires.four bits outside
