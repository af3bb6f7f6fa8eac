use Rattle.std.proofs.Common.{ℕ, ◌*◌, List, length, ◌∙◌, subst}
use Rattle.look_round.specs.Kinds.{AreKinds}
use Rattle.look_round.specs.ReplyLists.{AreListedUpto}
use Rattle.look_round.proofs.ReplyListLemmas.{lists_made}
use Rattle.look_round.proofs.reply_lists.ReplyLists.new.Goals as goal

pub returns : goal.returns
returns g c =
    let A = c.args.automaton.now in
    let s = c.args.side.now in
    let M = g.S.Side.goes s A in
    let ok = g.S.Side.matches s A in
    let n = A.states in
    let L = c.labels-labels.result in
    let kinds = c.in_ok-kinds.kinds.items in
    let starts = c.add_lists.new.starts.items in
    let items = c.add_lists.new.items.items in
    let numbers = c.in_ok-kind_of.kind_of.items in
    let listed = subst (λ (l : List ℕ). AreListedUpto M ok n L l starts items (n * L * length l)) c.deref-2.ensures.value c.in_ok-add_lists.ensures in
    let are = subst (λ (l : List ℕ). AreKinds ok n l numbers) c.deref.ensures.value c.in_ok-kind_of.ensures in
    lists_made M ok n _ kinds (c.len.ensures ∙ c.in_ok-kinds.kinds.ok.0) listed are (g.met.S.Side.joins s A)
