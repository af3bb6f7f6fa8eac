use Rattle.std.proofs.Common.{◌↔◌, ℕ, List, IsTrue, length, rules, sym, ap, ◌∙◌, subst}
use Rattle.auto_core.specs.Automaton.{Automaton}
use Rattle.auto_core.specs.Pairs.{set_of}
use Rattle.auto_core.specs.Rows.{HasBit}
use Rattle.lasso_accept.proofs.LoopingLemmas.{lasso_by_loop}
use Rattle.lasso_accept.proofs.acceptance.is_accepted.Goals as goal

pub meets-requires : goal.meets-requires
meets-requires c = ap length c.deref.ensures.value ∙ c.in_ok-ends.ensures.row.len ∙ sym c.requires.row.len

pub returns : goal.returns
returns c =
    let A : Automaton = c.args.automaton.now in
    let u : List ℕ = c.args.lasso.now.prefix in
    let v : List ℕ = c.args.lasso.now.turn in
    let ends : List ℕ = c.in_ok-ends.ends.items in
    let looping : List ℕ = c.args.looping.now in
    let members : (q : ℕ) → HasBit ends q ↔ set_of A u q = subst (λ w. (q : ℕ) → HasBit ends q ↔ set_of A w q) c.as_slice.ensures c.in_ok-ends.ensures.members in
    let told : IsTrue c.meets.result ↔ ((q : ℕ) × HasBit ends q × HasBit looping q) = search rules in
    let law = lasso_by_loop A u v in (
      λ h. let (q, is_end, loops_there) = told.0 h in law.1 (q, (members q).0 is_end, ((c.requires.loops q).0 loops_there).1),
      λ a.
          let (q, run, loop) = law.0 a in
          let is_end = (members q).1 run in
          told.1 (q, is_end, (c.requires.loops q).1 (c.in_ok-ends.ensures.row.below q is_end, loop)),
    )
