use Rattle.std.proofs.Common.{◌≡◌, ℕ, sym, ◌∙◌, subst, arith}
use Rattle.auto_core.specs.Game.{Holds}
use Rattle.auto_core.proofs.MoveLemmas.{move_in_range}
use Rattle.delayed_game.specs.Pairings.{Pairing}
use Rattle.delayed_game.proofs.BoardLemmas.{no_more_pairs}
use Rattle.delayed_game.specs.Settling.{AnswersAll, Drops, HasSomeRank, TakesAway}
use Rattle.delayed_game.specs.Boards.{AreLeastRanks}
use Rattle.delayed_game.proofs.MendLemmas.{kept_stays}
use Rattle.delayed_game.proofs.SettleLemmas.{takes_then}
use Rattle.delayed_game.proofs.GreatestLemmas.{drops_takes, drops_besides}
use Rattle.delayed_game.proofs.playing.rank_or_drop.Goals as goal

pub settle-requires-in-turns-clause-besides : goal.settle-requires-in-turns-clause-besides
settle-requires-in-turns-clause-besides c =
    let L = c.args.places.now in
    let A = c.args.automaton.now in
    drops_besides L A c.turns.board.states c.turns.ranks c.turns.board c.drop_unranked.new.board c.turns.marks c.drop_unranked.new.marks (λ p a p' move. (move_in_range L c.requires.over p a p' move).1) c.turns.invariant.2 c.drop_unranked.ensures.drops

pub settle-requires-in-turns-clause-kept : goal.settle-requires-in-turns-clause-kept
settle-requires-in-turns-clause-kept c =
    kept_stays c.args.places.now c.args.automaton.now c.args.width c.turns.kept c.turns.tried c.turns.board c.drop_unranked.new.board c.drop_unranked.ensures.drops.within c.turns.invariant.4

pub rank_anew-requires-clause-ranks : goal.rank_anew-requires-clause-ranks
rank_anew-requires-clause-ranks c =
    let h = c.turns.invariant in
    let L = c.args.places.now in
    let A = c.args.automaton.now in
    let places : c.turns.board.places ≡ L.states = h.0.places ∙ c.requires.rows in
    let size : c.turns.board.states ≡ A.states = h.0.states ∙ c.requires.columns in (
      c.turns.board.pairs,
      λ p q held. let range = h.0.valid.in_range p q held in (omega (arith, range.0), omega (arith, range.1)),
      λ p q held. c.drop_unranked.ensures.drops.within p q (c.settle-in-turns.ensures.takes.within p q held),
      h.3,
    )

pub turns-smaller : goal.turns-smaller
turns-smaller c =
    let fell = c.drop_unranked.ensures.some c.turns-test.true in
    let takes = c.settle-in-turns.ensures.takes in
    let less = no_more_pairs c.drop_unranked.new.board c.settle-in-turns.new.board c.drop_unranked.ensures.drops.valid takes.valid takes.within in
    omega arith

pub turns-preserved : goal.turns-preserved
turns-preserved c =
    let L = c.args.places.now in
    let A = c.args.automaton.now in
    let h = c.turns.invariant in
    let places : c.turns.board.places ≡ L.states = h.0.places ∙ c.requires.rows in
    let size : c.turns.board.states ≡ A.states = h.0.states ∙ c.requires.columns in
    let drops : Drops L A.states c.turns.ranks c.turns.board c.drop_unranked.new.board c.turns.marks c.drop_unranked.new.marks =
    subst (λ n. Drops L n c.turns.ranks c.turns.board c.drop_unranked.new.board c.turns.marks c.drop_unranked.new.marks) size c.drop_unranked.ensures.drops in
    let dropped = drops_takes L A c.turns.ranks c.turns.board c.drop_unranked.new.board c.turns.marks c.drop_unranked.new.marks places size h.0.valid h.3 drops in (
      takes_then L A c.args.board.now c.drop_unranked.new.board c.settle-in-turns.new.board (takes_then L A c.args.board.now c.turns.board c.drop_unranked.new.board h.0 dropped) c.settle-in-turns.ensures.takes,
      c.settle-in-turns.ensures.unmarked,
      c.settle-in-turns.ensures.answered,
      c.in_ok-rank_anew.ensures,
      c.settle-in-turns.ensures.kept,
    )

pub returns : goal.returns
returns c =
    let L = c.args.places.now in
    let A = c.args.automaton.now in
    let h = c.turns.invariant in
    let same : c.drop_unranked.new.board ≡ c.turns.board = c.drop_unranked.ensures.same c.turns-test.false in
    let size : c.turns.board.states ≡ A.states = h.0.states ∙ c.requires.columns in
    record {
      takes = subst (λ R. TakesAway L A c.args.board.now R) (sym same) h.0;
      answered = subst (λ (R : Pairing). (x q : ℕ) → Holds R.pairs x q → AnswersAll L A (Holds R.pairs) x q) (sym same) h.2;
      least = subst (λ (R : Pairing). AreLeastRanks L A (Holds R.pairs) c.turns.ranks) (sym same) h.3;
      ranked = λ x q accepting held. subst (λ n. HasSomeRank c.turns.ranks n x q) size (c.drop_unranked.ensures.drops.ranked x q held accepting);
    }
