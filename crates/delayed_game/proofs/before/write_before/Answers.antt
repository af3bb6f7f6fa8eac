use Rattle.delayed_game.proofs.SetLemmas.{letters_from_clear}
use Rattle.delayed_game.proofs.before.write_before.Goals as goal

pub returns-then-is_empty : goal.returns-then-is_empty
returns-then-is_empty c = letters_from_clear c.args.places.now c.args.automaton.now c.args.to c.args.ends.now c.clear_letters.new.made c.mark_ends.new.made c.args.width c.clear_letters.ensures c.mark_ends.ensures

pub returns-else-is_empty : goal.returns-else-is_empty
returns-else-is_empty c = letters_from_clear c.args.places.now c.args.automaton.now c.args.to c.args.ends.now c.clear_letters.new.made c.mark_ends_by.new.made c.args.width c.clear_letters.ensures c.mark_ends_by.ensures
