use Rattle.ba_format.proofs.TakeLemmas.{state_taken}
use Rattle.ba_format.proofs.draft.Draft.take_state.Goals as goal

pub returns : goal.returns
returns c = λ entries s f. state_taken c.args.limits.now entries c.args.name.now c.args.self.now c.number.new.texts c.in_ok-at.at c.note_state_line.new.self s f c.in_ok-at.ensures c.in_ok-note_state_line.ensures
