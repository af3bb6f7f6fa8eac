use Rattle.std.proofs.Common.{◌≡◌, ◌++◌, ℕ, List, length, take, drop, sym, ◌∙◌, subst, arith}
use Rattle.std.proofs.lemmas.List.{take-append-le, take_all}
use Rattle.delayed_game.specs.Played.{IsPlayed}
use Rattle.delayed_game.proofs.playing.ranks_left.Goals as goal

-- what was written over the whole of a vector
all_written : (n : ℕ) (new rest : List ℕ) → n ≡ length new → take n (new ++ rest) ≡ new
all_written n new rest e = take-append-le n new rest (omega arith) ∙ take_all n new (omega arith)

pub returns : goal.returns
returns c =
    let new = c.rank_or_drop.new.ranks in
    let len : c.in_ok-ranks.ranks.len ≡ length c.rank_or_drop.new.ranks = omega (arith, c.rank_or_drop.auto.ranks, c.deref_mut.ensures.len) in
    subst (λ (xs : List ℕ). IsPlayed c.args.places.now c.args.automaton.now c.args.board.now c.rank_or_drop.new.board xs)
    (sym (all_written c.in_ok-ranks.ranks.len c.rank_or_drop.new.ranks (drop (length c.rank_or_drop.new.ranks) c.in_ok-ranks.ranks.items) len)) c.in_ok-rank_or_drop.ensures
