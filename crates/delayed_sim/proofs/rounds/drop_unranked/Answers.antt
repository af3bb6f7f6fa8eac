use Rattle.std.proofs.Common.{◌≡◌, ℕ, ◌<◌, None, Some, length, true, sym, ◌∙◌, subst, arith}
use Rattle.std.proofs.lemmas.Bool.{false≢true}
use Rattle.std.proofs.lemmas.List.{get_or_default}
use Rattle.auto_core.specs.Automaton.{IsAccepting}
use Rattle.delayed_sim.specs.Rankings.{Triple, Ranking, IsRanking, triple_at}
use Rattle.delayed_sim.specs.Rounds.{without, HasEachTriple, HasRanksUpto, Thins}
use Rattle.delayed_sim.proofs.RightLemmas.{triple_range}
use Rattle.delayed_sim.proofs.RoundLemmas.{no_triple, none_from, thins_more, each_unranked, ranks_without}
use Rattle.delayed_sim.proofs.rounds.drop_unranked.Goals as goal

pub accepting-requires : goal.accepting-requires
accepting-requires c =
    let R = c.triples.delayed in
    let at_in : c.triples.at < length R.triples = omega (arith, c.triples-test.true, c.count.ensures.count) in
    let range = triple_range R c.left.ensures.valid c.triples.at at_in in
    omega (arith, range.1, c.left.ensures.state, c.triples.invariant.0.shortened.states, c.requires.equal)

pub triples-preserved-then-is_none : goal.triples-preserved-then-is_none
triples-preserved-then-is_none c =
    let A = c.args.automaton.now in
    let R = c.triples.delayed in
    let X = R.triples in
    let at : ℕ = c.triples.at in
    let h = c.triples.invariant in
    let is : c.take_out.new.self ≡ without R at = c.take_out.ensures.left in
    let at_in : at < length X = omega (arith, c.triples-test.true, c.count.ensures.count) in
    let valid : IsRanking R = c.left.ensures.valid in
    let accepting : IsAccepting A (triple_at X at).0 = subst (IsAccepting A) c.left.ensures.state (c.accepting.ensures.told.0 c.if-accepting.true) in
    let none : (triple_at X at).3 ≡ None = sym c.rank_at.ensures.rank ∙ none_from c.rank_at.result c.if-is_none.ensures in (
      subst (λ S. Thins c.args.delayed.now S true) (sym is) (thins_more c.args.delayed.now R c.triples.any at at_in h.0 (subst IsRanking is c.take_out.ensures.valid)),
      subst (λ (S : Ranking). HasEachTriple A S.letters S.triples) (sym is) (each_unranked A R.letters X at at_in h.1 h.2 valid.once accepting none),
      subst (λ (S : Ranking). (r : ℕ) → HasRanksUpto A S.letters r S.triples) (sym is) (ranks_without A R.letters X at at_in none h.2),
      λ no. absurd (false≢true (sym no)),
    )

pub returns-clause-ranked : goal.returns-clause-ranked
returns-clause-ranked c = λ no t (i, i_in, is).
    let X = c.triples.delayed.triples in
    let P : Triple → Type 0 = λ x. IsAccepting c.args.automaton.now x.0 → (r : ℕ) × (x.3 ≡ Some r) in
    subst P (get_or_default X i no_triple t i_in ∙ is) (c.triples.invariant.3 no i (omega (arith, i_in, c.triples-test.false, c.count.ensures.count)))
