use Rattle.std.proofs.Common.{◌≡◌, ◌/◌, ◌+◌, ◌*◌, ◌<◌, ◌≤◌, ◌↔◌, ℕ, slice_index, refl, sym, subst, arith, inl, inr, ◌∙◌}
use Rattle.std.proofs.lemmas.Bool.{cases_eq, false≢true}
use Rattle.auto_core.specs.Rows.{HasBit, HasCell}
use Rattle.look_round.specs.Replies.{HasReply, HasReplyFrom}
use Rattle.look_round.specs.Known.{IsHeld}
use Rattle.look_round.proofs.KnownLemmas.{taken_each, taken_targets}
use Rattle.look_round.proofs.known.Known.find.Goals as goal

pub returns-clause-here : goal.returns-clause-here
returns-clause-here g c =
    let e = c.take.ensures in
    let new = c.take.new.self in
    let place = c.place_for-place.result in
    let p = c.args.step.to in
    let ok = g.S.Side.matches c.args.side.now c.args.automaton.now in
    record {
      used = e.used;
      held = subst (λ w. IsHeld w new place c.args.left c.args.step.label c.args.row.now) (sym e.width) (e.lefts.0, e.letters.0, e.held);
      alike = λ r. subst (λ t. ok p r ↔ ok t r) (sym e.targets.0) (λ h. h, λ h. h);
    }

pub returns-clause-replies : goal.returns-clause-replies
returns-clause-replies g c =
    let A = c.args.automaton.now in
    let n = A.states in
    let M = g.S.Side.goes c.args.side.now A in
    let ok = g.S.Side.matches c.args.side.now A in
    let old = c.args.self.now in
    let new = c.take.new.self in
    let e = c.take.ensures in
    let place = c.place_for-place.result in
    let width = c.requires.width in
    let room : n ≤ old.width * 64 = omega arith in
    let P : ℕ → Type 0 = λ w. (l r : ℕ) → HasBit new.used.items l → HasReply new.replies.items n w l r
    ↔ HasReplyFrom M ok (slice_index new.letters.items l) (slice_index new.targets.items l) (HasReply new.held.items n w l) r in
    let W : ℕ → ℕ → Type 0 = λ p q. p ≡ q in
    let each : P old.width =
    taken_each M ok W n old.used.items new.used.items old.letters.items new.letters.items old.targets.items new.targets.items old.held.items old.replies.items new.held.items new.replies.items c.args.row.now
    old.width place c.args.step.label c.args.step.to room e.used_others e.letters e.targets e.held e.held_others e.replies e.reply_others c.requires.replies.each in
    record {
      targets = taken_targets M ok W n old.used.items new.used.items old.targets.items new.targets.items place c.args.step.to c.requires.step e.used_others e.targets c.requires.replies.targets;
      each = subst P (sym e.width) each;
    }

pub returns-clause-kept : goal.returns-clause-kept
returns-clause-kept g c =
    let old = c.args.self.now in
    let new = c.take.new.self in
    let e = c.take.ensures in
    let place = c.place_for-place.result in
    record {
      width = e.width;
      each = λ l q near bit cell. elim (cases_eq l place) [
        | inl same ↦ absurd (false≢true (sym (e.answered q near) ∙ subst (λ x. HasCell new.answered.items old.width x q) same cell))
        | inr apart ↦ (
          sym (e.used_others l apart) ∙ bit,
          sym (e.answered_others l q near apart) ∙ cell,
          (e.lefts.1 l apart, e.letters.1 l apart, λ r r_near. e.held_others l r r_near apart),
        )
      ];
    }
