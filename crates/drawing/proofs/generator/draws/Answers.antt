use Rattle.std.proofs.Common.{◌≡◌, ℕ, [], ◌∷◌, ◌++◌, map, sym, ap, ◌∙◌, arith, zero-add, add-one}
use Rattle.std.specs.List.{range_with_len}
use Rattle.std.proofs.lemmas.List.FromFn.{map-range_with_len_more}
use Rattle.rand_pcg.specs.Lcg.{started}
use Rattle.rand_pcg.specs.Pcg.{multiplier_64, pcg32}
use Rattle.drawing.specs.Draws.{draw_at, lcg_after, generator_of}
use Rattle.drawing.proofs.generator.draws.Goals as goal

pub loop-at-init : goal.loop-at-init
unfolding lcg_after generator_of
loop-at-init c = (c.new-generator.ensures ∙ ap (λ s. started 64 multiplier_64 s 109) c.from.ensures, c.new-draws.ensures.items)

pub loop-at-preserved : goal.loop-at-preserved
unfolding lcg_after draw_at
loop-at-preserved c =
    let n : ℕ = c.loop-at._at in
    let here : c.loop-at.generator ≡ lcg_after n (generator_of c.args.seed) = c.loop-at.invariant.0 in
    let drawn = c.next_word.ensures ∙ ap pcg32 here in (
      ap (λ p. p.1) drawn ∙ sym (ap (λ k. lcg_after k (generator_of c.args.seed)) (add-one n)),
      c.in_ok-push.ensures.items ∙ ap (λ w. c.loop-at.draws.items ++ w ∷ []) (ap (λ p. p.0) drawn) ∙ ap (λ l. l ++ draw_at c.args.seed n ∷ []) c.loop-at.invariant.1
          ∙ sym (map-range_with_len_more (draw_at c.args.seed) 0 n n (zero-add n)),
    )

pub returns : goal.returns
returns c =
    let end : c.loop-at._at ≡ c.args.count = omega (arith, c.loop-at-test.false, c.loop-at.auto._at-end) in
    c.loop-at.invariant.1 ∙ ap (λ k. map (draw_at c.args.seed) (range_with_len 0 k)) end
