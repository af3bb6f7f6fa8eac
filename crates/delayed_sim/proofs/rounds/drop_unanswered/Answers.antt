use Rattle.std.proofs.Common.{◌≡◌, ℕ, ◌<◌, inl, inr, None, length, true, sym, ◌∙◌, subst, arith}
use Rattle.std.proofs.lemmas.Bool.{cases_eq, iff_false, false≢true}
use Rattle.std.proofs.lemmas.List.{get_or_default}
use Rattle.delayed_sim.specs.Rankings.{Ranking, IsRanking, triple_at}
use Rattle.delayed_sim.specs.Right.{IsTripleAnswered}
use Rattle.delayed_sim.specs.Rounds.{without, HasEachTriple, Thins}
use Rattle.delayed_sim.proofs.RoundLemmas.{no_triple, thins_none, thins_more, each_unanswered}
use Rattle.delayed_sim.proofs.rounds.drop_unanswered.Goals as goal

pub triples-init : goal.triples-init
triples-init c = (thins_none c.args.delayed.now c.requires.valid, c.requires.each, λ no i lt. absurd (omega arith))

pub triples-preserved-then-is_answered_at : goal.triples-preserved-then-is_answered_at
triples-preserved-then-is_answered_at c =
    let X = c.triples.delayed.triples in
    let A = c.args.automaton.now in
    let at : ℕ = c.triples.at in
    let h = c.triples.invariant in (
      h.0,
      h.1,
      λ no i lt. elim (cases_eq i at) [
        | inl e ↦ subst (λ k. IsTripleAnswered A X None (triple_at X k)) (sym e) (c.is_answered_at.ensures.0 c.if-is_answered_at.true)
        | inr apart ↦ h.2 no i (omega arith)
      ],
    )

pub triples-preserved : goal.triples-preserved
triples-preserved c =
    let A = c.args.automaton.now in
    let R = c.triples.delayed in
    let at : ℕ = c.triples.at in
    let h = c.triples.invariant in
    let is : c.take_out.new.self ≡ without R at = c.take_out.ensures.left in
    let at_in : at < length R.triples = omega (arith, c.triples-test.true, c.count.ensures.count) in (
      subst (λ S. Thins c.args.delayed.now S true) (sym is) (thins_more c.args.delayed.now R c.triples.any at at_in h.0 (subst IsRanking is c.take_out.ensures.valid)),
      subst (λ (S : Ranking). HasEachTriple A S.letters S.triples) (sym is) (each_unanswered A R.letters R.triples at at_in h.1 (λ all. iff_false c.is_answered_at.ensures c.if-is_answered_at.false all)),
      λ no. absurd (false≢true (sym no)),
    )

pub returns-clause-answered : goal.returns-clause-answered
returns-clause-answered c = λ no t (i, i_in, is).
    let X = c.triples.delayed.triples in
    subst (IsTripleAnswered c.args.automaton.now X None) (get_or_default X i no_triple t i_in ∙ is) (c.triples.invariant.2 no i (omega (arith, i_in, c.triples-test.false, c.count.ensures.count)))
