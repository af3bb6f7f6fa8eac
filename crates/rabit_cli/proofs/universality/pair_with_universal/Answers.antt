use Rattle.std.proofs.Common.{◌≡◌, ◌≤◌, ◌^◌, length, None, sym, subst, arith}
use Rattle.ba_format.specs.Faults.{fault_of}
use Rattle.rabit_cli.proofs.UniversalLemmas.{universal_is_short, universal_has_no_fault}
use Rattle.ba_format.specs.declared.parts.Joined.{Joined}
use Rattle.ba_format.specs.declared.parts.Named.{Named}
use Rattle.ba_format.specs.Joining.{IsJoined}
use Rattle.ba_format.specs.Reading.{Reads}
use Rattle.rabit_frame.specs.declared.files.TheConstants.{SECOND_LIMITS}
use Rattle.rabit_cli.proofs.PairLemmas.{ok_gives}
use Rattle.rabit_cli.proofs.universality.pair_with_universal.Goals as goal

pub read_back-requires-clause-short : goal.read_back-requires-clause-short
read_back-requires-clause-short c =
    let labels = c.args.one.now.labels in
    let few : length labels ≤ 256 = omega (arith, c.requires.within.labels, c.requires.within.labels_named) in
    subst (λ t. length t ≤ 2 ^ 24) (sym c.requires.text) (universal_is_short labels few c.requires.writable.0)

pub read_back-requires-clause-faultless : goal.read_back-requires-clause-faultless
read_back-requires-clause-faultless c =
    let labels = c.args.one.now.labels in
    let few : length labels ≤ 256 = omega (arith, c.requires.within.labels, c.requires.within.labels_named) in
    subst (λ t. fault_of t SECOND_LIMITS ≡ None) (sym c.requires.text) (universal_has_no_fault labels few c.requires.writable SECOND_LIMITS (omega arith) (omega arith) (omega arith))

pub returns-clause-joined : goal.returns-clause-joined
returns-clause-joined c =
    let text = c.args.text.now in
    let one = c.args.one.now in
    let read = c.in_ok-other.other in
    ok_gives (IsJoined read one) (λ pair. (other : Named) × Reads text SECOND_LIMITS other × IsJoined other one pair) c.joined.result
    (λ (pair : Joined) joined. (read, c.in_ok-other.ensures.reads, joined)) c.joined.ensures.joined
