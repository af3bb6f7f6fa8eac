use Rattle.std.proofs.Common.{rules, ◌≡◌, ℕ, ◌+◌, List, length, get_or, sym, ◌∙◌, subst}
use Rattle.std.proofs.lemmas.Bool.{false≢true}
use Rattle.auto_core.specs.Automaton.{trans}
use Rattle.auto_core.specs.declared.parts.Trans.{Trans}
use Rattle.look_round.proofs.PlaceLemmas.{HasPlacesUpto, no_places_yet, places_more, places_passed, places_all}
use Rattle.look_round.proofs.words.find_places.Goals as goal
use Rattle.look_round.proofs.words.find_places.Goals.{then-step-label+then-has_bit, else-step-label, else-step-label-via-then-step-label+else-has_bit, else-step-label-via-else-step-label}

pub loop-number-init : goal.loop-number-init
loop-number-init g c =
    let steps : ℕ → Trans = λ i. g.S.Side.seen c.args.side.now (get_or c.args.automaton.now.transitions i (trans 0 0 0)) in
    no_places_yet steps c.args.places.now c.args.asked.now c.clear_row.new.row c.args.automaton.now.states c.args.label c.clear_row.ensures

pub loop-number-preserved : goal.loop-number-preserved
loop-number-preserved g c =
    let A = c.args.automaton.now in
    let steps : ℕ → Trans = λ i. g.S.Side.seen c.args.side.now (get_or A.transitions i (trans 0 0 0)) in
    let places = c.args.places.now in
    let asked = c.args.asked.now in
    let old = c.loop-number.found in
    let a = c.args.label in
    let n = c.loop-number.number in
    let m = c.seen_at-step.result in
    let item = c.seen_at-step.ensures.seen in
    let P : List ℕ → Type 0 = λ t. HasPlacesUpto steps places asked t A.states a (n + 1) in
    elim c.if-step-label.branch [
      | then-step-label+then-has_bit b ↦
          subst P (sym b.found-is)
          (places_more steps places asked old b.or_row.new.table b.row_at-place.result.now A.states a n c.loop-number.invariant m item b.if-step-label.true (sym b.has_bit.ensures ∙ b.if-has_bit.true)
          b.row_at-place.ensures.bits b.or_row.ensures.here b.or_row.ensures.others)
      | else-step-label b ↦
          subst P (sym b.found-is)
          (places_passed steps places asked old A.states a n c.loop-number.invariant m item (λ label bit. elim b.else-step-label.branch [
            | else-step-label-via-then-step-label+else-has_bit v ↦ false≢true (sym v.if-has_bit.false ∙ v.has_bit.ensures ∙ bit)
            | else-step-label-via-else-step-label v ↦ v.if-step-label.false label
          ]))
    ]

pub returns : goal.returns
returns g c =
    let A = c.args.automaton.now in
    let s = c.args.side.now in
    let all : c.loop-number.number ≡ length A.transitions = search rules in
    places_all (g.S.Side.goes s A) (g.S.Side.seen s) A.transitions c.args.places.now c.args.asked.now c.loop-number.found A.states c.args.label c.loop-number.number (g.met.S.Side.sees s A) c.loop-number.invariant all
