use Rattle.std.proofs.Common.{◌<◌, ◌⊎◌, inl, inr, sym, ◌∙◌, subst, arith}
use Rattle.std.proofs.lemmas.Bool.{cases_eq}
use Rattle.auto_core.specs.Game.{Holds}
use Rattle.auto_core.specs.Rows.{HasBit}
use Rattle.look_round.specs.Answering.{IsRowOfAnswers}
use Rattle.look_round.specs.ReplyLists.{AreReplyLists}
use Rattle.look_round.proofs.AnsweringLemmas.{answers_kept}
use Rattle.look_game.proofs.VisitLemmas.{answers_same, related_or_lost, takes_lost, takes_here, rounds_same, rounds_apart}
use Rattle.look_game.proofs.visiting.try_row.Goals as goal

pub find_lost-requires-clause-rest : goal.find_lost-requires-clause-rest
find_lost-requires-clause-rest g c = λ q bit.
    let lt = (c.requires.valid.in_range c.args.p q (c.unanswered.ensures.related q bit)).1 in
    let equal = c.requires.equal in
    omega arith

pub take_lost-changed-requires-clause-few : goal.take_lost-changed-requires-clause-few
take_lost-changed-requires-clause-few g c =
    let few = c.requires.few in
    let equal = c.requires.equal in
    omega arith

pub take_lost-changed-requires-clause-held : goal.take_lost-changed-requires-clause-held
take_lost-changed-requires-clause-held g c = λ q bit. c.unanswered.ensures.related q (c.find_lost.ensures.lost q bit).0

pub returns-clause-takes : goal.returns-clause-takes
returns-clause-takes g c =
    takes_lost (g.S.Side.goes c.args.side.now c.args.automaton.now) (g.S.Side.matches c.args.side.now c.args.automaton.now) c.args.look c.args.p c.unanswered.new.rest c.find_lost.new.lost c.args.rel.now
    c.take_lost-changed.new.rel c.take_lost-changed.ensures.takes
    (λ q bit. (c.find_lost.ensures.lost q bit).1)

pub returns-clause-rounds : goal.returns-clause-rounds
returns-clause-rounds g c = λ e.
    rounds_same (g.S.Side.goes c.args.side.now c.args.automaton.now) (g.S.Side.matches c.args.side.now c.args.automaton.now) c.args.look c.args.p c.unanswered.new.rest c.find_lost.new.lost c.args.rel.now
    c.take_lost-changed.new.rel c.take_lost-changed.ensures.takes c.requires.look_from c.unanswered.ensures.answered c.find_lost.ensures.rounds
    (c.take_lost-changed.ensures.same e)

pub returns-clause-others : goal.returns-clause-others
returns-clause-others g c =
    takes_here (g.S.Side.goes c.args.side.now c.args.automaton.now) (g.S.Side.matches c.args.side.now c.args.automaton.now) c.args.look c.args.p c.unanswered.new.rest c.find_lost.new.lost c.args.rel.now
    c.take_lost-changed.new.rel c.take_lost-changed.ensures.takes

pub returns-clause-apart : goal.returns-clause-apart
returns-clause-apart g c = λ free.
    rounds_apart (g.S.Side.goes c.args.side.now c.args.automaton.now) (g.S.Side.matches c.args.side.now c.args.automaton.now) c.args.look c.args.p c.unanswered.new.rest c.find_lost.new.lost c.args.rel.now
    c.take_lost-changed.new.rel c.take_lost-changed.ensures.takes c.requires.look_from c.unanswered.ensures.answered c.find_lost.ensures.rounds free

pub forget-requires-clause-below : goal.forget-requires-clause-below
forget-requires-clause-below g c = λ r bit.
    let lt = (c.requires.valid.in_range c.args.p r (c.unanswered.ensures.related r (c.find_lost.ensures.lost r bit).0)).1 in
    let equal = c.requires.equal in
    omega arith

pub forget-requires-clause-before : goal.forget-requires-clause-before
forget-requires-clause-before g c = λ p_kept.
    let M = g.S.Side.goes c.args.side.now c.args.automaton.now in
    let ok = g.S.Side.matches c.args.side.now c.args.automaton.now in
    let old = c.args.rel.now in
    let new = c.take_lost-changed.new.rel in
    let lost = c.find_lost.new.lost in
    let p = c.args.p in
    answers_same M ok (Holds old.pairs) (λ x r. Holds new.pairs x r ⊎ HasBit lost r) c.args.answering.now p
    (related_or_lost p lost old new c.take_lost-changed.ensures.takes (λ q bit. c.unanswered.ensures.related q (c.find_lost.ensures.lost q bit).0)) (c.requires.answers.each p p_kept)

pub returns-clause-answers : goal.returns-clause-answers
returns-clause-answers g c =
    let M = g.S.Side.goes c.args.side.now c.args.automaton.now in
    let ok = g.S.Side.matches c.args.side.now c.args.automaton.now in
    let old = c.args.rel.now in
    let new = c.take_lost-changed.new.rel in
    let lost = c.find_lost.new.lost in
    let p = c.args.p in
    let rows = c.args.answering.now in
    let made = c.forget.new.self in
    let e = c.forget.ensures in
    let takes = c.take_lost-changed.ensures.takes in
    record {
      width = e.width ∙ c.requires.answers.width;
      each = λ x x_kept.
          let was : x < rows.kept = subst (λ n. x < n) e.kept x_kept in
          elim (cases_eq x p) [
            | inl same ↦ subst (λ y. IsRowOfAnswers M ok (Holds new.pairs) made y) (sym same) (e.here (subst (λ y. y < rows.kept) same was))
            | inr apart ↦
                answers_kept M ok (Holds new.pairs) rows made x e.labels e.width (λ y y_in. e.others x y y_in apart)
                (answers_same M ok (Holds old.pairs) (Holds new.pairs) rows x (λ r. ((λ h. (takes.pairs x r).1 (h, λ is. absurd (apart is))), λ h. ((takes.pairs x r).0 h).0)) (c.requires.answers.each x was))
          ];
      lists = subst (AreReplyLists M ok c.args.automaton.now.states) (sym e.lists) c.requires.answers.lists;
    }
