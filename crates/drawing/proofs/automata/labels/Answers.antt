use Rattle.std.proofs.Common.{◌≡◌, length, ap, ◌∙◌, arith}
use Rattle.std.proofs.lemmas.List.FromFn.{length-map-range_with_len}
use Rattle.drawing.specs.Drawn.{drawn_label}
use Rattle.drawing.proofs.DrawLemmas.{label_is_new, labels_more}
use Rattle.drawing.proofs.automata.labels.Goals as goal

pub add-requires-clause-new : goal.add-requires-clause-new
add-requires-clause-new c =
    label_is_new c.loop-label.label-counter c.loop-label.texts c.as_bytes.result.now (omega (arith, c.loop-label-test.true, c.requires.few)) c.loop-label.invariant
    (c.as_bytes.ensures.value ∙ c.in_ok-text.ensures.ok)

pub add-requires-clause-room : goal.add-requires-clause-room
add-requires-clause-room c =
    let size : length c.loop-label.texts ≡ c.loop-label.label-counter = ap length c.loop-label.invariant ∙ length-map-range_with_len drawn_label 0 c.loop-label.label-counter in
    omega (arith, c.loop-label-test.true, c.requires.few)

pub loop-label-preserved : goal.loop-label-preserved
loop-label-preserved c =
    labels_more c.loop-label.label-counter c.loop-label.texts c.add.new.self c.as_bytes.result.now c.loop-label.invariant
    (c.as_bytes.ensures.value ∙ c.in_ok-text.ensures.ok) c.in_ok-add.ensures.ok
