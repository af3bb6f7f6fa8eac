use Rattle.ba_format.specs.declared.parts.Joined.{Joined}
use Rattle.ba_format.specs.declared.parts.Named.{Named}
use Rattle.ba_format.specs.Joining.{IsJoined}
use Rattle.ba_format.specs.Reading.{Reads}
use Rattle.rabit_frame.specs.declared.files.TheConstants.{SECOND_LIMITS}
use Rattle.rabit_cli.proofs.PairLemmas.{ok_gives}
use Rattle.rabit_cli.proofs.emptiness.pair_with_empty.Goals as goal

pub returns-clause-joined : goal.returns-clause-joined
returns-clause-joined c =
    let text = c.args.text.now in
    let one = c.args.one.now in
    let read = c.in_ok-other.other in
    ok_gives (IsJoined one read) (λ pair. (other : Named) × Reads text SECOND_LIMITS other × IsJoined one other pair) c.joined.result
    (λ (pair : Joined) joined. (read, c.in_ok-other.ensures.reads, joined)) c.joined.ensures.joined
