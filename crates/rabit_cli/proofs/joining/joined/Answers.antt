use Rattle.ba_format.specs.Joining.{IsJoined}
use Rattle.decide.specs.Laws.{CanDecide}
use Rattle.rabit_cli.proofs.PairLemmas.{can_decide, ok_gives}
use Rattle.rabit_cli.proofs.joining.joined.Goals as goal

pub returns-clause-small : goal.returns-clause-small
returns-clause-small c =
    let one = c.args.one.now in
    let two = c.args.two.now in
    ok_gives (IsJoined one two) CanDecide c.join.result (λ pair joined. can_decide one two pair c.requires.one c.requires.two joined) c.join.ensures
