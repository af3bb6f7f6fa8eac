use Rattle.delayed_game.proofs.SettleLemmas.{row_filtered, row_passes}
use Rattle.delayed_game.proofs.settling.keep_in_row.Goals as goal

pub returns-in-Some : goal.returns-in-Some
returns-in-Some c =
    let found = c.in-Some.ensures.found in
    row_filtered c.args.board.now c.narrow.new.self c.args.p c.in-Some._first c.args.row.now c.requires.valid c.narrow.ensures.valid c.narrow.ensures.pairs
    ((c.row.ensures.bits c.in-Some._first).0 found.0) found.1

pub returns-in-None : goal.returns-in-None
returns-in-None c =
    row_passes c.args.board.now c.args.p c.args.row.now c.requires.valid (λ q held. c.in-None.ensures.none q ((c.row.ensures.bits q).1 held))
