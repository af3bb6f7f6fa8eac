use Rattle.std.proofs.Common.{ℕ, ◌≤◌, List, sym, subst}
use Rattle.look_round.specs.Words.{AreColumns, AreWordPlaces}
use Rattle.look_round.proofs.PlaceLemmas.{places_of_columns}
use Rattle.look_round.proofs.words.walk_columns.Goals as goal
use Rattle.look_round.proofs.words.walk_columns.Goals.{then-at-count+then-count-room, else-at-count}

pub lengthen-count-requires-clause-places : goal.lengthen-count-requires-clause-places
lengthen-count-requires-clause-places g c =
    let A = c.args.automaton.now in
    let s = c.args.side.now in
    let M = g.S.Side.goes s A in
    let ok = g.S.Side.matches s A in
    let places = c.fill_places-filled.new.places in
    let used = c.fill_places-filled.result.used in
    let n = c.states-states.result in
    let count = c.states-states.ensures.count in
    let these = subst (λ m. AreColumns M ok m c.loop-turn.columns c.args.width c.loop-turn.count) (sym count) c.loop-turn.invariant.0 in
    subst (λ m. AreWordPlaces M ok m places used) count (places_of_columns M ok n places used c.loop-turn.columns c.args.width c.loop-turn.count these c.fill_places-filled.ensures.places)

pub loop-turn-preserved : goal.loop-turn-preserved
loop-turn-preserved g c =
    let A = c.args.automaton.now in
    let s = c.args.side.now in
    let M = g.S.Side.goes s A in
    let ok = g.S.Side.matches s A in
    let P : List ℕ → ℕ → Type 0 = λ t n. AreColumns M ok A.states t c.args.width n × (n ≤ c.args.room) in
    elim c.if-at-count.branch [
      | then-at-count+then-count-room w ↦
          subst (λ t. P t c.if-at-count.count) (sym w.columns-is)
          (subst (λ n. P w.lengthen-count.new.columns n) (sym w.count-is) (w.lengthen-count.ensures.columns, w.lengthen-count.ensures.room))
      | else-at-count w ↦ subst (λ t. P t c.if-at-count.count) (sym w.columns-is) (subst (λ n. P c.loop-turn.columns n) (sym w.count-is) c.loop-turn.invariant)
    ]
