use Rattle.std.proofs.Common.{◌*◌, ◌+◌, sym, ap, ◌∙◌, subst}
use Rattle.std.proofs.lemmas.Bool.{false≢true}
use Rattle.auto_core.specs.Automaton.{IsAccepting}
use Rattle.auto_core.specs.Game.{Holds}
use Rattle.delayed_game.specs.Pairings.{Pairing, IsPairing}
use Rattle.auto_core.specs.Delayed.{rank_in_code}
use Rattle.delayed_game.specs.Boards.{row_words, GivesRank}
use Rattle.delayed_game.proofs.ClimbLemmas.{climb_starts}
use Rattle.delayed_game.proofs.levels.rank_within.Goals as goal

pub rank_accepting-requires-clause-valid : goal.rank_accepting-requires-clause-valid
rank_accepting-requires-clause-valid c = subst (λ R. IsPairing R) (sym c.requires.copied) c.requires.valid

pub climb-requires-clause-climbed : goal.climb-requires-clause-climbed
climb-requires-clause-climbed c =
    let L = c.args.places.now in
    let A = c.args.automaton.now in
    let R : Pairing = c.args.board.now in
    let gives : GivesRank L A (λ p q. Holds R.pairs p q × IsAccepting A q) 0 R c.args.ranks.now c.rank_accepting.new.unranked c.rank_accepting.new.ranks c.rank_accepting.new.fresh =
    subst (λ S. GivesRank L A (λ p q. Holds S.pairs p q × IsAccepting A q) 0 S c.args.ranks.now c.rank_accepting.new.unranked c.rank_accepting.new.ranks c.rank_accepting.new.fresh) c.requires.copied c.rank_accepting.ensures in
    climb_starts L A R c.rank_accepting.new.unranked c.args.ranks.now c.rank_accepting.new.ranks c.clear_row.new.row c.rank_accepting.new.fresh c.requires.rows c.requires.columns c.requires.valid c.requires.len
    (λ p q. ap (λ h. rank_in_code h) (c.requires.clear (p * A.states + q))) (λ t q cell. false≢true (sym (c.clear_row.ensures (t * row_words A * 64 + q)) ∙ cell)) gives
