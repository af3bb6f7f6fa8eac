use Rattle.std.proofs.Common.{sym, ap, ◌∙◌}
use Rattle.ba_format.specs.Seen.{entry_seen}
use Rattle.ba_format.specs.Grammar.{StateLine, TransitionLine}
use Rattle.ba_format.proofs.TakeLemmas.{line_taken}
use Rattle.ba_format.proofs.draft.Draft.take.Goals as goal

pub returns-in-Ok-State : goal.returns-in-Ok-State
returns-in-Ok-State c = λ entries s f.
    line_taken c.args.limits.now entries c.args.line.now (StateLine c.in-Ok-State.name.now) c.take_state.new.self c.take_state.result c.in-Ok-State.ensures.0 (sym (ap entry_seen c.in-Ok-State.field-0-is) ∙ c.in-Ok-State.ensures.1) (c.take_state.ensures entries s f)

pub returns-in-Ok-Transition : goal.returns-in-Ok-Transition
returns-in-Ok-Transition c = λ entries s f.
    line_taken c.args.limits.now entries c.args.line.now (TransitionLine c.in-Ok-Transition.label.now c.in-Ok-Transition.source.now c.in-Ok-Transition.target.now) c.take_transition.new.self c.take_transition.result c.in-Ok-Transition.ensures.0 (sym (ap entry_seen c.in-Ok-Transition.field-0-is) ∙ c.in-Ok-Transition.ensures.1) (c.take_transition.ensures entries s f)
