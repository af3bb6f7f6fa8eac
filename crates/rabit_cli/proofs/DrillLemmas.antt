-- `drill`: one reply, and what it shows.
use Rattle.std.proofs.Common.{◌≡◌, ℕ, List, [], ◌++◌, length, inl, inr, refl, sym, ◌∙◌, ap, subst, arith}
use Rattle.std.proofs.lemmas.List.{append_assoc}
use Rattle.auto_core.specs.Outcome.{Entry, Outcome}
use Rattle.auto_core.specs.Outcome as end
use Rattle.auto_core.specs.declared.parts.Mode.TheVariants.{Buchi}
use Rattle.ba_format.specs.declared.parts.Joined.{Joined}
use Rattle.cert_value.specs.declared.types.Cert.{Cert}
use Rattle.cert_value.specs.declared.types.Body.TheVariants.{NoWord}
use Rattle.decide.specs.Answer.{Reductions, IsAnswer, IsBodyOf}
use Rattle.decide.specs.Laws.{CanDecide}
use Rattle.decide.proofs.AnswerLemmas.{answers_are_true}
use Rattle.decide.proofs.UniqueLemmas.{one_answer}
use Rattle.drawing.specs.declared.parts.Drill.{Drill}
use Rattle.drawing.specs.Drawn.{IsInBounds, AreDrawn}
use Rattle.drawing.proofs.DrawLemmas.{drawn_one, drawn_small}
use Rattle.rabit_frame.specs.declared.parts.Value.{Value}
use Rattle.rabit_frame.specs.declared.parts.Status.TheVariants as status
use Rattle.rabit_frame.specs.declared.parts.Reply.{Reply}
use Rattle.rabit_frame.specs.Statuses.{status_number}
use Rattle.rabit_frame.specs.Request.{request_with}
use Rattle.rabit_frame.specs.Reading.{only_said}
use Rattle.rabit_frame.specs.declared.parts.Ending.{Ending}
use Rattle.rabit_frame.specs.declared.parts.Ending.TheVariants as ending
use Rattle.rabit_frame.specs.Ending.{WasSaid}
use Rattle.rabit_frame.specs.Carrying.{EndsSo}
use Rattle.shelf_io.specs.Seen.{Call}
use Rattle.rabit_cli.proofs.IncludeLemmas.{usual_bounded}
use Rattle.rabit_cli.specs.Drill.{drill_terms, exchanged, drill_text, AreDecided, MeansDrill, IsDrillText, SaysDrill}

-- the drawn automata can be decided, in both orders
pub can_draw : (d : Drill) (pair : Joined) → IsInBounds d → AreDrawn d pair → CanDecide pair
can_draw d pair bounds a =
    let (one, two, few) = drawn_small d pair bounds a in
    record {
      first = one.valid;
      second = two.valid;
      first_labels = one.over;
      second_labels = two.over;
      few_labels = omega (arith, few);
      first_parts = record { states = omega (arith, one.states); transitions = omega (arith, one.transitions) };
      second_parts = record { states = two.states; transitions = omega (arith, two.transitions) };
    }

pub can_exchange : (d : Drill) (pair : Joined) → IsInBounds d → AreDrawn d pair → CanDecide (exchanged pair)
can_exchange d pair bounds a =
    let (one, two, few) = drawn_small d pair bounds a in
    record {
      first = two.valid;
      second = one.valid;
      first_labels = two.over;
      second_labels = one.over;
      few_labels = omega (arith, few);
      first_parts = record { states = omega (arith, two.states); transitions = omega (arith, two.transitions) };
      second_parts = record { states = one.states; transitions = omega (arith, one.transitions) };
    }

-- an answer over lassos has no word
word_of_outcome : (at : Reductions) (S : List (ℕ × ℕ)) (o : Outcome Entry) (w : List ℕ) → IsBodyOf at drill_terms S o (NoWord w) → ⊥
word_of_outcome at S (end.Closed es) w is = is
word_of_outcome at S (end.Apart x y) w is = is
word_of_outcome at S (end.Limit es) w is = is

pub no_word : (pair : Joined) (cert : Cert) → IsAnswer pair drill_terms cert → (w : List ℕ) → cert.body ≡ NoWord w → ⊥
no_word pair cert (at, ends, by) w is = word_of_outcome at by.pairs by.outcome w (subst (IsBodyOf at drill_terms by.pairs by.outcome) is by.body)

-- the text, piece after piece
pub text_by_pieces : (a b c d e f : List ℕ) → ((((a ++ b) ++ c) ++ d) ++ e) ++ f ≡ a ++ (b ++ ((c ++ d) ++ (e ++ f)))
text_by_pieces a b c d e f =
    append_assoc (((a ++ b) ++ c) ++ d) e f ∙ ap (λ l. l ++ (e ++ f)) (append_assoc (a ++ b) c d) ∙ append_assoc (a ++ b) (c ++ d) (e ++ f) ∙ append_assoc a b ((c ++ d) ++ (e ++ f))

pub one_drill : (d : Drill) (values : List Value) (r s : Reply) → MeansDrill d values r → MeansDrill d values s → r ≡ s
one_drill d values r s (pair, forth, converse, a, e) (pair', forth', converse', a', e') =
    let same : pair ≡ pair' = drawn_one d pair pair' a.drawn a'.drawn in
    let F : Joined → Type 0 = λ z. IsAnswer z drill_terms forth in
    let B : Joined → Type 0 = λ z. IsAnswer (exchanged z) drill_terms converse in
    let one : forth ≡ forth' = one_answer pair' drill_terms forth forth' a'.drawn.first.valid a'.drawn.second.valid (omega arith) (subst F same a.first_in_second) a'.first_in_second in
    let two : converse ≡ converse' = one_answer (exchanged pair') drill_terms converse converse' a'.drawn.second.valid a'.drawn.first.valid (omega arith) (subst B same a.second_in_first) a'.second_in_first in
    e ∙ ap (λ z. only_said status.Done (drill_text z forth.body converse.body)) same
    ∙ ap (λ (z : Cert). only_said status.Done (drill_text pair' z.body converse.body)) one
    ∙ ap (λ (z : Cert). only_said status.Done (drill_text pair' forth'.body z.body)) two ∙ sym e'

pub drill_puts : (d : Drill) (values : List Value) (r : Reply) → MeansDrill d values r → r.puts ≡ []
drill_puts d values r (pair, forth, converse, a, e) = ap (λ z. z.puts) e

pub drill_asked : (d : Drill) (values : List Value) (r : Reply) → MeansDrill d values r → status_number r.status ≡ 3 → ⊥
drill_asked d values r (pair, forth, converse, a, e) three = (let f = ap (λ z. status_number z.status) e in omega arith)

-- the text of the answers
text_of : (d : Drill) (pair : Joined) (forth converse : Cert) → IsInBounds d → AreDecided d pair forth converse → IsDrillText d (drill_text pair forth.body converse.body)
text_of d pair forth converse bounds a =
    let can = can_draw d pair bounds a.drawn in
    record {
      pair = pair;
      forth = forth;
      converse = converse;
      decided = a;
      first_in_second = answers_are_true pair drill_terms forth can (usual_bounded Buchi) a.first_in_second;
      second_in_first = answers_are_true (exchanged pair) drill_terms converse (can_exchange d pair bounds a.drawn) (usual_bounded Buchi) a.second_in_first;
      is = refl;
    }

module _ (call : Call) (d : Drill) (bounds : IsInBounds d) where
  -- what was said at the end
  pub says_drill : (e : Ending) → EndsSo (request_with [] (MeansDrill d)) e call.before.shelf call.after.shelf → WasSaid e call.status call.before.sink call.after.sink → SaysDrill d call
  says_drill (ending.Reached r) ends said = elim ends.may [
    | inl stop ↦ absurd stop
    | inr (values, kinds, (pair, forth, converse, a, is)) ↦
        inl (drill_text pair forth.body converse.body, text_of d pair forth converse bounds a, subst (λ z. WasSaid (ending.Reached z) call.status call.before.sink call.after.sink) is said)
  ]
  says_drill (ending.ReadFault) ends said = (let some = ends.may in absurd (omega arith))
  says_drill (ending.WriteFault) ends said =
      let (r, may, some) = ends.may in
      elim may [ inl stop ↦ absurd stop | inr (values, kinds, m) ↦ (let none = ap (λ l. length l) (drill_puts d values r m) in absurd (omega arith)) ]
  says_drill (ending.OutOfMemory) ends said = elim said [ inl whole ↦ inr (whole.0, inl (refl, whole.1, whole.2)) | inr front ↦ inr (front.0, inr (refl, front.1, front.2)) ]
