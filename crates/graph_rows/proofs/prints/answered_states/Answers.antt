use Rattle.std.proofs.Common.{◌≡◌, ℕ, false, List, inl, inr, sym, ◌∙◌, subst}
use Rattle.std.proofs.lemmas.Bool.{cases_Bool, false≢true}
use Rattle.auto_core.specs.Rows.{HasBit, bit_of}
use Rattle.graph_rows.proofs.PrintLemmas.{one_word}
use Rattle.graph_rows.proofs.prints.answered_states.Goals as goal

pub returns : goal.returns
returns c = λ q below none u has rel.
    let row : List ℕ = c.args.row.now in
    let states : List ℕ = c.mark_answered.new.states in
    let unset : bit_of states q ≡ false = subst (λ l. bit_of l q ≡ false) (sym (one_word states c.mark_answered.ensures.len)) none in
    elim (cases_Bool (bit_of c.args.related.now q)) [
      | inl is ↦ c.mark_answered.ensures.answered q is unset u has rel
      | inr not ↦
          let same : u ≡ q = c.requires.related.others q below not u rel in
          let own : HasBit row q = subst (HasBit row) same has in
          false≢true (sym unset ∙ c.mark_answered.ensures.stay q (subst (λ l. HasBit l q) (one_word row c.requires.word) own))
    ]
