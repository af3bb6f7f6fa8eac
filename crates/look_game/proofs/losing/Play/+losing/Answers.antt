use Rattle.std.proofs.Common.{refl, sym, subst}
use Rattle.std.proofs.lemmas.Result.{IfOk-weaker}
use Rattle.look_game.specs.declared.losing.Play.{Play}
use Rattle.look_game.specs.Playing.{PlaysOn}
use Rattle.look_game.proofs.PlayLemmas.{plays_same, plays_then}
use Rattle.look_game.proofs.losing.Play.+losing.Goals as goal
use Rattle.look_game.proofs.losing.Play.+losing.Goals.{loses-then-branch, loses-else-branch}

pub all_lose-returns-then-not-branch : goal.all_lose-returns-then-not-branch
all_lose-returns-then-not-branch g t c = plays_then c.args.self.now c.loop-i.self c.loses.new.self c.loop-i.invariant c.in_ok-loses.ensures

pub all_lose-loop-i-preserved : goal.all_lose-loop-i-preserved
all_lose-loop-i-preserved g t c = plays_then c.args.self.now c.loop-i.self c.loses.new.self c.loop-i.invariant c.in_ok-loses.ensures

pub loses-returns : goal.loses-returns
loses-returns g t c =
    let P : Play g.row.S.Denot g.S.Side → Type 0 = λ p. PlaysOn c.args.self.now p in
    let played : PlaysOn {G = g.S.Side} c.args.self.now c.path_wins.new.self =
    plays_then c.args.self.now _ c.path_wins.new.self (plays_same c.args.self.now _ refl refl refl refl) c.in_ok-path_wins.ensures in
    elim c.if-branch.branch [
      | loses-then-branch w ↦ subst P (sym w.self-is) (plays_then c.args.self.now c.path_wins.new.self w.try_pair.new.self played w.try_pair.ensures)
      | loses-else-branch w ↦
          subst P (sym w.self-is) (plays_then c.args.self.now c.path_wins.new.self _ played (plays_same c.path_wins.new.self _ refl refl refl refl))
    ]

pub move_wins-returns : goal.move_wins-returns
move_wins-returns g t c =
    IfOk-weaker c.path_wins.result (λ _. PlaysOn {G = g.S.Side} c.all_lose.new.self c.path_wins.new.self) (λ _. PlaysOn {G = g.S.Side} c.args.self.now c.path_wins.new.self)
    (λ _ h. plays_then c.args.self.now c.all_lose.new.self c.path_wins.new.self c.in_ok-all_lose.ensures h)
    c.path_wins.ensures

pub path_wins-returns-then-branch : goal.path_wins-returns-then-branch
path_wins-returns-then-branch g t c = plays_then c.args.self.now c.loop-at.self c.move_wins.new.self c.loop-at.invariant c.in_ok-move_wins.ensures

pub path_wins-loop-at-preserved : goal.path_wins-loop-at-preserved
path_wins-loop-at-preserved g t c = plays_then c.args.self.now c.loop-at.self c.move_wins.new.self c.loop-at.invariant c.in_ok-move_wins.ensures
