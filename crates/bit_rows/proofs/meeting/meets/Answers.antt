use Rattle.std.proofs.Common.{refl, rules, arith}
use Rattle.std.proofs.lemmas.Bool.{false≢true}
use Rattle.bit_rows.proofs.MeetLemmas.{meet_found, none_meet}
use Rattle.bit_rows.proofs.meeting.meets.Goals as goal

pub returns-then-row-i-ne0 : goal.returns-then-row-i-ne0
returns-then-row-i-ne0 c = (λ told. meet_found c.args.row.now c.args.other.now c.loop-i.i (search rules) (search rules), λ found. refl)

pub returns : goal.returns
returns c = (
  λ told. absurd (false≢true told),
  λ (q, first, second). absurd (none_meet c.args.row.now c.args.other.now (λ k k_in. c.loop-i.invariant k (omega arith)) q first second),
)
