use Rattle.std.proofs.Common.{◌≡◌, ℕ, ◌+◌, true, List, [], ◌∷◌, ◌++◌, length, get_or, Contains, sym, ap, ◌∙◌, subst, arith}
use Rattle.auto_core.specs.Automaton.{Moves, IsOutgoing, trans, trans_at}
use Rattle.auto_core.specs.declared.parts.Trans.{Trans}
use Rattle.auto_core.proofs.MoveLemmas.{outgoing_moves}
use Rattle.product_laws.specs.Reached.{GoesTo}
use Rattle.product_search.specs.Found.{Follows}
use Rattle.product_search.specs.Arcs.{AreArcs, IsPushed}
use Rattle.product_search.proofs.ArcLemmas.{row_on, row_ends}
use Rattle.product_search.proofs.arcs.Arcs.push_all.Goals as goal

pub push-requires-clause-there : goal.push-requires-clause-there
push-requires-clause-there c = λ s goes plain.
    let A = c.args.first.now in
    let B = c.args.second.now in
    let pairs = c.args.pairs.now.keys in
    let x = c.pair_of-pair.result in
    let t : ℕ = c.loop-t.t in
    let move = outgoing_moves A x.0 c.outgoing-span.result.begin c.outgoing-span.result.end c.outgoing-span.ensures.range t c.loop-t.auto.t c.loop-t-test.true in
    let Q : List Trans → Type 0 = λ ts. GoesTo B x.1 (get_or ts t (trans 0 0 0)).label s → Contains pairs ((get_or ts t (trans 0 0 0)).target, s) in
    let at_list : Q A.transitions = λ there. c.requires.pairs.closed c.args.from c.requires.within (trans_at A t).label ((trans_at A t).target, s)
    (subst (λ y. Follows A B true y (trans_at A t).label ((trans_at A t).target, s)) c.pair_of-pair.ensures (move, there, λ e. plain)) in
    subst Q (sym c.transitions.ensures.list) at_list goes

pub loop-t-preserved : goal.loop-t-preserved
loop-t-preserved c =
    let A = c.args.first.now in
    let B = c.args.second.now in
    let pairs = c.args.pairs.now.keys in
    let x = c.pair_of-pair.result in
    let t : ℕ = c.loop-t.t in
    let s = c.loop-t.self in
    let new = c.push.new.self in
    let (row, same) = c.loop-t.invariant in
    let move = outgoing_moves A x.0 c.outgoing-span.result.begin c.outgoing-span.result.end c.outgoing-span.ensures.range t c.loop-t.auto.t c.loop-t-test.true in
    let pushed : IsPushed B pairs x.1 (trans_at A t) s.targets.items s.letters.items new.targets.items new.letters.items =
    subst (λ (ts : List Trans). IsPushed B pairs x.1 (get_or ts t (trans 0 0 0)) s.targets.items s.letters.items new.targets.items new.letters.items) c.transitions.ensures.list c.in_ok-push.ensures.arc in (
      row_on A B c.requires.deterministic pairs c.args.self.now.targets.items c.args.self.now.letters.items c.args.from c.outgoing-span.result.begin t s.targets.items s.letters.items row c.requires.arcs.letters_size
          (subst (λ (y : ℕ × ℕ). Moves A y.0 (trans_at A t).label (trans_at A t).target) c.pair_of-pair.ensures move) new.targets.items new.letters.items
          (subst (λ (y : ℕ × ℕ). IsPushed B pairs y.1 (trans_at A t) s.targets.items s.letters.items new.targets.items new.letters.items) c.pair_of-pair.ensures pushed),
      c.in_ok-push.ensures.starts ∙ same,
    )

pub returns : goal.returns
returns c =
    let A = c.args.first.now in
    let B = c.args.second.now in
    let pairs = c.args.pairs.now.keys in
    let s = c.loop-t.self in
    let old = c.args.self.now in
    let (row, same) = c.loop-t.invariant in
    let size : c.len.result ≡ length s.targets.items = c.len.ensures ∙ s.targets.ok.0 in
    let starts : c.push-2.new.self.items ≡ old.starts.items ++ length s.targets.items ∷ [] =
    c.in_ok-push-2.ensures.items ∙ ap (λ l. l ++ c.len.result ∷ []) same ∙ ap (λ n. old.starts.items ++ n ∷ []) size in
    let range = subst (λ (y : ℕ × ℕ). IsOutgoing A y.0 c.outgoing-span.result.begin c.outgoing-span.result.end) c.pair_of-pair.ensures c.outgoing-span.ensures.range in
    subst (λ l. AreArcs A B pairs (c.args.from + 1) l s.targets.items s.letters.items) (sym starts)
    (row_ends A B pairs c.args.from c.outgoing-span.result.begin c.outgoing-span.result.end c.loop-t.t (omega (arith, c.loop-t-test.false)) old.starts.items old.targets.items old.letters.items s.targets.items s.letters.items c.requires.arcs range row)
