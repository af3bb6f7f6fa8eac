use Rattle.std.proofs.Common.{rules, ◌≡◌, ◌↔◌, ℕ, ◌*◌, ◌<◌, true, false, List, length, slice_index, sym, ap, ◌∙◌, subst, arith}
use Rattle.std.proofs.lemmas.List.{get_or_default}
use Rattle.auto_core.specs.Rows.{bit_of, cell_of}
use Rattle.look_round.proofs.known.Known.is_for.Goals as goal

pub returns : goal.returns
returns g c = λ h.
    let known = c.args.self.now in
    let place = c.args.place in
    let p = c.args.step.to in
    let t = c.index-target.result.now in
    let w = known.width in
    let inside = c.requires.place in
    let lefts = known.lefts.ok.0 in
    let letters = known.letters.ok.0 in
    let targets = known.targets.ok.0 in
    let letter_count = known.letter_count in
    let target_count = known.target_count in
    let left_in : place < length known.lefts.items = omega arith in
    let letter_in : place < length known.letters.items = omega arith in
    let target_in : place < length known.targets.items = omega arith in
    let ok = g.S.Side.matches c.args.side.now c.args.automaton.now in
    let joins = g.met.S.Side.joins c.args.side.now c.args.automaton.now in
    let there : c.matched.result ≡ true = search rules in
    let back : c.matched-2.result ≡ true = search rules in
    let same : c.row_at.result.now ≡ c.args.row.now = c.are_equal.ensures.0 h in
    let left : c.index.result.now ≡ c.args.left = omega (arith, c.if-index-left.false) in
    let letter : c.index-2.result.now ≡ c.args.step.label = omega (arith, c.if-index-step.false) in
    let target : slice_index known.targets.items place ≡ t = get_or_default known.targets.items place 0 t target_in ∙ sym c.index-target.ensures in
    record {
      used = search rules;
      held = (
        get_or_default known.lefts.items place 0 c.index.result.now left_in ∙ (sym c.index.ensures ∙ left),
        get_or_default known.letters.items place 0 c.index-2.result.now letter_in ∙ (sym c.index-2.ensures ∙ letter),
        λ q near. sym (c.row_at.ensures.bits q near ∙ ap (λ (table : List ℕ). cell_of table w place q) c.deref-2.ensures.value) ∙ ap (λ (l : List ℕ). bit_of l q) same,
      );
      alike = λ r. subst (λ x. ok p r ↔ ok x r) (sym target) (λ is. joins t p r (c.matched-2.ensures.0 back) is, λ is. joins p t r (c.matched.ensures.0 there) is);
    }
