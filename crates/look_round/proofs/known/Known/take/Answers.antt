use Rattle.std.proofs.Common.{◌≡◌, ◌<◌, ◌↔◌, ℕ, List, length, vec_len, sym, ap, subst, ◌∙◌, arith}
use Rattle.std.specs.Vec.{with_items}
use Rattle.std.proofs.lemmas.List.{get_or-set_same, get_or-set_other, with_items_is}
use Rattle.auto_core.specs.Rows.{cell_of}
use Rattle.look_round.specs.Replies.{IsInRow, HasReply, HasReplyFrom}
use Rattle.look_round.proofs.known.Known.take.Goals as goal

pub returns-clause-lefts : goal.returns-clause-lefts
returns-clause-lefts g c =
    let old = c.args.self.now in
    let place = c.args.place in
    let inside = c.requires.place in
    let len = old.lefts.ok.0 in
    (get_or-set_same old.lefts.items place c.args.left 0 (omega arith), λ i apart. get_or-set_other old.lefts.items place i c.args.left 0 apart)

pub returns-clause-letters : goal.returns-clause-letters
returns-clause-letters g c =
    let old = c.args.self.now in
    let place = c.args.place in
    let inside = c.requires.place in
    let same = old.letter_count in
    let len = old.letters.ok.0 in
    (get_or-set_same old.letters.items place c.args.step.label 0 (omega arith), λ i apart. get_or-set_other old.letters.items place i c.args.step.label 0 apart)

pub returns-clause-targets : goal.returns-clause-targets
returns-clause-targets g c =
    let old = c.args.self.now in
    let place = c.args.place in
    let inside = c.requires.place in
    let same = old.target_count in
    let len = old.targets.ok.0 in
    (get_or-set_same old.targets.items place c.args.step.to 0 (omega arith), λ i apart. get_or-set_other old.targets.items place i c.args.step.to 0 apart)

pub returns-clause-replies : goal.returns-clause-replies
returns-clause-replies g c =
    let A = c.args.automaton.now in
    let s = c.args.side.now in
    let old = c.args.self.now.replies in
    let new = c.step_replies.new.table in
    let items : (with_items old new).items ≡ new = with_items_is old new (c.step_replies.auto.table ∙ c.deref_mut-4.ensures.len) in
    let P : List ℕ → Type 0 = λ t. (r : ℕ) → HasReply t A.states c.args.self.now.width c.args.place r
    ↔ HasReplyFrom (g.S.Side.goes s A) (g.S.Side.matches s A) c.args.step.label c.args.step.to (IsInRow c.args.row.now A.states) r in
    subst P (sym items) c.step_replies.ensures.here

pub returns-clause-reply_others : goal.returns-clause-reply_others
returns-clause-reply_others g c = λ l q near apart.
    let old = c.args.self.now.replies in
    let new = c.step_replies.new.table in
    let items : (with_items old new).items ≡ new = with_items_is old new (c.step_replies.auto.table ∙ c.deref_mut-4.ensures.len) in
    let cell = λ (t : List ℕ). cell_of t c.args.self.now.width l q in
    ap cell items ∙ (c.step_replies.ensures.others l q near apart ∙ ap cell c.deref_mut-4.ensures.value)

pub returns-clause-answered : goal.returns-clause-answered
returns-clause-answered g c = λ q near.
    let old = c.args.self.now.answered in
    let new = c.clear_table_row.new.table in
    let items : (with_items old new).items ≡ new = with_items_is old new (c.clear_table_row.auto.table ∙ c.deref_mut-3.ensures.len) in
    ap (λ (t : List ℕ). cell_of t c.args.self.now.width c.args.place q) items ∙ c.clear_table_row.ensures.here q near

pub returns-clause-answered_others : goal.returns-clause-answered_others
returns-clause-answered_others g c = λ l q near apart.
    let old = c.args.self.now.answered in
    let new = c.clear_table_row.new.table in
    let items : (with_items old new).items ≡ new = with_items_is old new (c.clear_table_row.auto.table ∙ c.deref_mut-3.ensures.len) in
    let cell = λ (t : List ℕ). cell_of t c.args.self.now.width l q in
    ap cell items ∙ (c.clear_table_row.ensures.others l q near apart ∙ ap cell c.deref_mut-3.ensures.value)
