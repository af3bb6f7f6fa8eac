-- The state that the search's parts stand for.
use Rattle.strong_components.specs.declared.search.Search.{Search}
use Rattle.strong_components.specs.UnderWay.{State}

-- The state of the search.
abbrev pub state_of : Search → State
state_of s = record {
  stack = s.stack.items;
  bounds = s.bounds.items;
  path = s.path.items;
  rest = s.rest.items;
  places = s.places.items;
  numbers = s.numbers.items;
  count = s.count;
}
