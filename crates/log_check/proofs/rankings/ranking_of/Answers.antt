use Rattle.std.proofs.Common.{◌≡◌, ℕ, List, Result, Ok, Err, IfOk, sym, ◌∙◌, subst}
use Rattle.auto_core.specs.Automaton.{Automaton}
use Rattle.auto_core.specs.declared.parts.Memory.{Memory}
use Rattle.delayed_sim.specs.Rankings.{Ranking, AreTriplesGiven, DifferInTriples, HasJust}
use Rattle.delayed_sim.specs.declared.delayed.RankedTriple.{RankedTriple}
use Rattle.cert_value.specs.declared.types.RankBlock.{RankBlock}
use Rattle.log_check.specs.Blocks.{IsRankingOf}
use Rattle.log_check.specs.RankedLists.{block_list}
use Rattle.log_check.proofs.RankLemmas.{triples_given, triples_differ, ranking_is}
use Rattle.log_check.proofs.rankings.ranking_of.Goals as goal

pub build-requires-clause-in_range : goal.build-requires-clause-in_range
build-requires-clause-in_range c =
    let A = c.args.automaton.now in
    let same : c.deref.result.now ≡ block_list c.args.block.now = c.deref.ensures.value ∙ c.in_ok-triples.ensures in
    let given = triples_given A.states A.labels c.args.letters c.args.block.now c.requires.letters_from c.requires.formed c.requires.below in
    subst (λ n. AreTriplesGiven n c.labels.result c.args.letters c.deref.result.now) (sym c.states.ensures.count)
    (subst (λ n. AreTriplesGiven A.states n c.args.letters c.deref.result.now) (sym c.labels.ensures.count)
    (subst (λ (l : List RankedTriple). AreTriplesGiven A.states A.labels c.args.letters l) (sym same) given))

pub build-requires-clause-different : goal.build-requires-clause-different
build-requires-clause-different c =
    let same : c.deref.result.now ≡ block_list c.args.block.now = c.deref.ensures.value ∙ c.in_ok-triples.ensures in
    subst (λ (l : List RankedTriple). DifferInTriples l) (sym same) (triples_differ c.args.letters c.args.block.now c.requires.formed)

made_so :
    (A : Automaton) (n : ℕ) (block : RankBlock) (r : Result Ranking Memory)
    → IfOk r (λ d. d.states ≡ A.states)
    → IfOk r (λ d. d.labels ≡ A.labels)
    → IfOk r (λ d. d.letters ≡ n)
    → IfOk r (λ d. HasJust d.triples (block_list block))
    → IfOk r (IsRankingOf A n block)
made_so A n block (Ok d) states labels letters just = ranking_is A n block d states labels letters just
made_so A n block (Err e) states labels letters just = tt

pub returns : goal.returns
returns c =
    let A = c.args.automaton.now in
    let same : c.deref.result.now ≡ block_list c.args.block.now = c.deref.ensures.value ∙ c.in_ok-triples.ensures in
    made_so A c.args.letters c.args.block.now c.build.result
    (subst (λ n. IfOk c.build.result (λ (d : Ranking). d.states ≡ n)) c.states.ensures.count c.build.ensures.states)
    (subst (λ n. IfOk c.build.result (λ (d : Ranking). d.labels ≡ n)) c.labels.ensures.count c.build.ensures.labels) c.build.ensures.letters
    (subst (λ (l : List RankedTriple). IfOk c.build.result (λ (d : Ranking). HasJust d.triples l)) same c.build.ensures.triples)
