-- How `Auto` holds its automaton.
use Rattle.auto_core.specs.declared.automaton.Auto.TheInside.{Inside}
use Rattle.auto_core.specs.Automaton.{Automaton, IsAutomaton}
use Rattle.auto_core.specs.Build.{AreStarts, AreFlags, AreArrivals, targets_at, sources_of}

-- The automaton that the fields stand for.
abbrev pub automaton_of : Inside → Automaton
automaton_of a =
    record {
      states = a.states;
      labels = a.labels;
      initial = a.initial;
      transitions = a.transitions.items;
      accepting = a.accepting.items;
    }

-- The fields are those of a valid automaton, and its tables fit it.
pub record IsStored (a : Inside) : Type 0 where
  pub valid : IsAutomaton (automaton_of a)
  pub flags : AreFlags a.states a.accepting.items a.flags.items
  pub starts : AreStarts (sources_of a.transitions.items) a.states a.starts.items
  pub incoming : AreArrivals a.transitions.items a.incoming.items
  pub incoming_starts : AreStarts (targets_at a.transitions.items a.incoming.items) a.states
      a.incoming_starts.items
