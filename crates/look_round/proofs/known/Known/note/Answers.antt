use Rattle.std.proofs.Common.{rules, ◌≡◌, true, List, ℕ, refl, sym, inl, inr, subst, ◌∙◌}
use Rattle.std.specs.Vec.{with_items}
use Rattle.std.proofs.lemmas.Bool.{cases_eq}
use Rattle.std.proofs.lemmas.List.{with_items_is}
use Rattle.auto_core.specs.Rows.{HasCell}
use Rattle.look_round.specs.Known.{IsHeld}
use Rattle.look_round.proofs.known.Known.note.Goals as goal

pub returns-clause-notes : goal.returns-clause-notes
returns-clause-notes g c =
    let old = c.args.self.now in
    let w = old.width in
    let place = c.place_for-place.result in
    let held : c.is_for.result ≡ true = search rules in
    let new = c.set_cell.new.table in
    let items : (with_items old.answered new).items ≡ new = with_items_is old.answered new (c.set_cell.auto.table ∙ c.deref_mut.ensures.len) in
    record {
      width = refl;
      each = λ l q near bit cell.
          let here : HasCell new w l q = subst (λ (t : List ℕ). HasCell t w l q) items cell in
          let T : List ℕ → Type 0 = λ t. HasCell t w l q in
          elim (cases_eq l place) [
            | inr apart ↦ inr (bit, subst T c.deref_mut.ensures.value (sym (c.set_cell.ensures.others l q near (λ both. apart both.0)) ∙ here), (refl, refl, λ r r_near. refl))
            | inl e ↦ elim (cases_eq q c.args.step.to) [
              | inl f ↦ inl (f, subst (λ x. IsHeld w old x c.args.left c.args.step.label c.args.row.now) (sym e) (c.is_for.ensures held).held)
              | inr apart ↦ inr (bit, subst T c.deref_mut.ensures.value (sym (c.set_cell.ensures.others l q near (λ both. apart both.1)) ∙ here), (refl, refl, λ r r_near. refl))
            ]
          ];
    }
