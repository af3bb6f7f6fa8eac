use Rattle.std.proofs.Common.{ℕ, List}
use Rattle.lasso_accept.specs.Guide.{IsSpelled}
use Rattle.lasso_accept.proofs.RunLemmas.{enters_leads, end_in_range, row_cell, gone_if_turned}
use Rattle.lasso_accept.proofs.runs.go.Goals as goal

pub spell-requires-clause-leads : goal.spell-requires-clause-leads
spell-requires-clause-leads c =
    let (s, flag, run, passes, cell) = c.requires.leads in
    enters_leads c.args.automaton.now c.requires.valid c.args.start c.args.word.now c.args.width c.args.turns s flag c.args.table.now c.row_at-row.result.now c.args.asked
    c.requires.room c.requires.is_state run passes cell c.row_at-row.ensures.bits

pub take_turns-requires : goal.take_turns-requires
take_turns-requires c =
    let row : List ℕ = c.row_at-row.result.now in
    let s : IsSpelled c.args.automaton.now c.args.start c.args.word.now row c.args.asked c.args.places.now c.spell.new.places c.in_ok-state.state = c.in_ok-state.ensures in
    record {
      valid = c.requires.valid;
      room = c.requires.room;
      few = c.requires.few;
      is_state = end_in_range c.args.automaton.now c.requires.valid c.args.start c.args.word.now row c.args.asked c.args.places.now c.spell.new.places c.in_ok-state.state c.requires.is_state s;
      turns_in = c.requires.turns_in;
      counts = c.requires.counts;
      here = row_cell c.args.table.now row c.args.width c.args.turns c.in_ok-state.state c.row_at-row.ensures.bits c.row_at-row.ensures.outside s.lands;
    }

pub returns : goal.returns
returns c = λ target counts.
    let row : List ℕ = c.row_at-row.result.now in
    let s : IsSpelled c.args.automaton.now c.args.start c.args.word.now row c.args.asked c.args.places.now c.spell.new.places c.in_ok-state.state = c.in_ok-state.ensures in
    gone_if_turned c.take_turns.result c.args.automaton.now c.args.start c.args.word.now c.args.turn.now row c.args.turns target c.args.asked c.args.places.now c.spell.new.places c.take_turns.new.places
    c.in_ok-state.state s (c.take_turns.ensures target counts)
