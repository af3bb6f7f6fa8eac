use Rattle.std.proofs.Common.{◌≡◌, ℕ, ◌+◌, get_or, sym, ap, ◌∙◌, subst, arith}
use Rattle.std.proofs.lemmas.Bool.{false≢true}
use Rattle.auto_core.specs.Automaton.{Moves, trans, trans_at}
use Rattle.auto_core.specs.declared.parts.Trans.{Trans}
use Rattle.auto_core.proofs.MoveLemmas.{incoming_moves, moves_in_incoming}
use Rattle.delayed_game.proofs.MendLemmas.{IsClearedUpto, next_left, next_cleared}
use Rattle.delayed_game.proofs.mending.clear_before.Goals as goal
use Rattle.delayed_game.proofs.mending.clear_before.Goals.{then-not-leads_to, else-not-leads_to}

pub loop-i-preserved : goal.loop-i-preserved
loop-i-preserved c =
    let A = c.args.automaton.now in
    let ns = c.predecessors-before.result.now in
    let ends = c.args.ends.now in
    let i : ℕ = c.loop-i.i in
    let w : ℕ = c.args.width in
    let old = c.args.made.now in
    let now : Trans = get_or c.transitions.result.now (get_or ns i 0) (trans 0 0 0) in
    let is : now ≡ trans_at A (get_or ns i 0) = ap (λ ts. get_or ts (get_or ns i 0) (trans 0 0 0)) c.transitions.ensures.list in
    let label : (trans_at A (get_or ns i 0)).label ≡ now.label = sym (ap (λ (u : Trans). u.label) is) in
    let source : (trans_at A (get_or ns i 0)).source ≡ now.source = sym (ap (λ (u : Trans). u.source) is) in
    elim c.if-not-leads_to.branch [
      | then-not-leads_to b ↦
          subst (λ made. IsClearedUpto A ns ends old made w (i + 1)) (sym b.made-is)
          (next_cleared A ns ends old c.loop-i.made b.clear_cell.new.table w i now.label now.source c.loop-i.invariant label source
          (λ leads. false≢true (sym b.if-not-leads_to.true ∙ c.leads_to.ensures.1 leads)) b.clear_cell.ensures.here b.clear_cell.ensures.others)
      | else-not-leads_to b ↦
          subst (λ made. IsClearedUpto A ns ends old made w (i + 1)) (sym b.made-is)
          (next_left A ns ends old c.loop-i.made w i now.label now.source c.loop-i.invariant label source (c.leads_to.ensures.0 b.if-not-leads_to.false))
    ]

pub returns : goal.returns
returns c = λ a q near.
    let A = c.args.automaton.now in
    let ns = c.predecessors-before.result.now in
    let right : ℕ = c.args.right in
    let ends = c.args.ends.now in
    let was = c.loop-i.invariant a q near in (
      λ cell.
          let both = was.0 cell in (
            both.0,
            λ move.
                let (k, k_in, is) = moves_in_incoming A right ns c.predecessors-before.ensures.list q a move in
                both.1 k (omega (arith, k_in, c.loop-i-test.false)) (ap (λ (u : Trans). u.label) is) (ap (λ (u : Trans). u.source) is),
          ),
      λ both. was.1 (
        both.0,
        λ k lt same start.
            let move = incoming_moves A right ns c.predecessors-before.ensures.list k (omega (arith, lt, c.loop-i.auto.i-end)) in
            both.1 (subst (λ x. Moves A q x right) same (subst (λ x. Moves A x (trans_at A (get_or ns k 0)).label right) start move)),
      ),
    )
