use Rattle.std.proofs.Common.{◌≡◌, ℕ, ◌+◌, ◌-◌, ◌*◌, ◌%◌, ◌<◌, ◌^◌, sym, ap, ◌∙◌, arith, rules}
use Rattle.std.specs.Int.{bit_at}
use Rattle.graph_rows.proofs.TurnLemmas.{turned_has, word_has, word_near}
use Rattle.graph_rows.proofs.prints.turned.Goals as goal

pub returns : goal.returns
returns c =
    let w : ℕ = c.args.states in
    let by : ℕ = c.args.p * 15 in
    let r : ℕ = c.rotate_left.result in
    let fits : w < 2 ^ 64 = search rules in
    let is : (i : ℕ) → i < 64 → bit_at r i ≡ bit_at w ((i + 64 - by % 64) % 64) = λ i near. ap (λ n. bit_at n i) c.rotate_left.ensures ∙ turned_has w by i fits near in
    λ j. (
      λ bit.
          let near : j < 64 = word_near r j bit in
          let q : ℕ = (j + 64 - by % 64) % 64 in
          (q, (word_has w q (omega arith)).1 (sym (is j near) ∙ (word_has r j near).0 bit), omega arith),
      λ (q, bit, at).
          let near : q < 64 = word_near w q bit in
          let within : j < 64 = omega arith in
          let from : (j + 64 - by % 64) % 64 ≡ q = omega arith in
          (word_has r j within).1 (is j within ∙ ap (bit_at w) from ∙ (word_has w q near).0 bit),
    )
