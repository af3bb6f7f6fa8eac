use Rattle.std.proofs.Common.{◌≡◌, ◌+◌, ℕ, List, get_or, sym, subst, arith}
use Rattle.auto_core.specs.Automaton.{trans, trans_at}
use Rattle.auto_core.specs.declared.parts.Trans.{Trans}
use Rattle.useful_states.specs.declared.gathering.Gathered.{Gathered}
use Rattle.useful_states.specs.Gathering.{HasGained}
use Rattle.delayed_game.specs.Settling.{IsAnsweredIn}
use Rattle.delayed_laws.specs.Listed.{place_pairs, delayed_at}
use Rattle.delayed_across.specs.Answered.{HoldsBelow}
use Rattle.delayed_across.specs.Reached.{IsAnswerBy}
use Rattle.delayed_across.proofs.PartLemmas.{AnswersIn, answers_more, answers_same, answers_all}
use Rattle.delayed_across.proofs.RefusalLemmas.{of_states_at}
use Rattle.delayed_across.proofs.reaching.add_answers.Goals as goal
use Rattle.delayed_across.proofs.reaching.add_answers.Goals.{in-Some+in_ok-add-in-Some, in-None}

pub outgoing-span-requires : goal.outgoing-span-requires
outgoing-span-requires c = (of_states_at c.args.first.now c.args.second.now c.args.pairs.now c.requires.in_range c.args.number c.requires.number).0

pub first_answer-requires-clause-state : goal.first_answer-requires-clause-state
first_answer-requires-clause-state c = (of_states_at c.args.first.now c.args.second.now c.args.pairs.now c.requires.in_range c.args.number c.requires.number).1

pub loop-t-preserved : goal.loop-t-preserved
loop-t-preserved c =
    let A = c.args.first.now in
    let B = c.args.second.now in
    let pairs = c.args.pairs.now in
    let q : ℕ = (delayed_at pairs c.args.number).right in
    let bound = c.bound_of-bound.result in
    let begin : ℕ = c.outgoing-span.result.begin in
    let t : ℕ = c.loop-t.t in
    let old = c.args.gathered.now in
    let now = c.loop-t.gathered in
    let P : Gathered → Type 0 = λ g. HasGained (AnswersIn A B pairs bound q begin (t + 1)) old g in
    elim c.match-first_answer.branch as (λ _. P c.match-first_answer.gathered) [
      | in-Some+in_ok-add-in-Some w ↦
          let x : ℕ = w.in-Some.answer in
          let Q : List Trans → Type 0 = λ ts. IsAnswerBy B pairs bound q (get_or ts t (trans 0 0 0)).label (get_or ts t (trans 0 0 0)).target x in
          let by : IsAnswerBy B pairs bound q (trans_at A t).label (trans_at A t).target x = subst Q c.transitions.ensures.list w.in-Some.ensures.some in
          subst P (sym w.gathered-is) (answers_more A B pairs bound q begin c.requires.ascending t x old now w.add.new.self c.loop-t.auto.t by c.loop-t.invariant w.in_ok-add-in-Some.ensures)
      | in-None w ↦
          let Q : List Trans → Type 0 = λ ts. IsAnsweredIn B (HoldsBelow (place_pairs pairs) bound) q (get_or ts t (trans 0 0 0)).label (get_or ts t (trans 0 0 0)).target → ⊥ in
          subst P (sym w.gathered-is) (answers_same A B pairs bound q begin t old now (subst Q c.transitions.ensures.list w.in-None.ensures.none) c.loop-t.invariant)
    ]

pub returns : goal.returns
returns c =
    let A = c.args.first.now in
    let B = c.args.second.now in
    let pairs = c.args.pairs.now in
    let x = delayed_at pairs c.args.number in
    let begin : ℕ = c.outgoing-span.result.begin in
    let end : ℕ = c.outgoing-span.result.end in
    let old = c.args.gathered.now in
    let now = c.loop-t.gathered in
    let rising = c.outgoing-span.ensures.range.is_range in
    let upto = c.loop-t.auto.t-end rising in
    let over : c.loop-t.t ≡ end = omega (arith, upto, c.loop-t-test.false) in
    answers_all A B pairs c.args.number begin end c.outgoing-span.ensures.range old now
    (subst (λ b. HasGained (AnswersIn A B pairs b x.right begin end) old now) c.bound_of-bound.ensures
    (subst (λ n. HasGained (AnswersIn A B pairs c.bound_of-bound.result x.right begin n) old now) over c.loop-t.invariant))
