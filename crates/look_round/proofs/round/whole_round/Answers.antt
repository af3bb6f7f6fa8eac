use Rattle.std.proofs.lemmas.Nat.{row_fits}
use Rattle.std.proofs.Common.{rules, arith, ◌≡◌, ◌+◌, ◌*◌, ◌/◌, ◌≤◌, ◌↔◌, ℕ, length, IsTrue, ap, sym, ◌∙◌, subst}
use Rattle.auto_core.specs.Game.{Holds}
use Rattle.look_round.specs.Replies.{HasReply, RoundFrom}
use Rattle.look_round.proofs.RoundLemmas.{round_from_one}
use Rattle.look_round.proofs.KnownLemmas.{none_known}
use Rattle.look_round.proofs.RoundLoop.{first_row}
use Rattle.look_round.proofs.round.whole_round.Goals as goal

pub returns-clause-told : goal.returns-clause-told
returns-clause-told g c =
    let A = c.args.automaton.now in
    let s = c.args.side.now in
    let M = g.S.Side.goes s A in
    let ok = g.S.Side.matches s A in
    let W = Holds c.args.rel.now.pairs in
    let n = A.states in
    let w = c.words_for-width.result in
    let sets = c.set_cell.new.table in
    let width : w ≡ (n + 63) / 64 = search rules in
    let room : n ≤ w * 64 = omega arith in
    let alone = first_row sets n w c.args.q c.requires.right room (c.clear_table_row.new.table, c.clear_table_row.ensures.here, c.set_cell.ensures.here, c.set_cell.ensures.others) in
    let empty : length c.clear.new.self.items ≡ 0 = ap length c.clear.ensures.items in
    let P : ℕ → Type 0 = λ x. IsTrue c.round_from.result ↔ RoundFrom M ok W c.args.look c.args.p (HasReply sets n w x) in
    let told = subst P empty c.round_from.ensures.told in
    let both = round_from_one M ok W c.args.look c.args.p c.args.q (HasReply sets n w 0) alone in
    (λ h. both.0 (told.0 h), λ h. told.1 (both.1 h))

pub round_from-requires-clause-known : goal.round_from-requires-clause-known
round_from-requires-clause-known g c =
    let A = c.args.automaton.now in
    let s = c.args.side.now in
    none_known (g.S.Side.goes s A) (g.S.Side.matches s A) (Holds c.args.rel.now.pairs) A.states c.forget.new.self (c.forget.ensures.width ∙ c.requires.known) c.forget.ensures.none

pub returns-clause-known : goal.returns-clause-known
returns-clause-known g c = c.round_from.ensures.known.width ∙ sym c.requires.known

pub round_from-requires-clause-sets : goal.round_from-requires-clause-sets
round_from-requires-clause-sets g c = λ i i_in.
    let w = c.words_for-width.result in
    let width : w ≡ (c.args.automaton.now.states + 63) / 64 = search rules in
    let empty : length c.clear.new.self.items ≡ 0 = ap length c.clear.ensures.items in
    let size : length c.set_cell.new.table ≡ (c.args.look + 1) * w =
    c.set_cell.auto.table ∙ c.clear_table_row.auto.table ∙ c.requires.sets ∙ ap (λ x. (c.args.look + 1) * x) (sym width) in
    let fits : i * w + w ≤ (c.args.look + 1) * w = row_fits i w (c.args.look + 1) w (omega (arith, empty)) (omega arith) in
    omega (arith, size, fits)
