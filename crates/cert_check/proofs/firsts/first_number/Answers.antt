use Rattle.std.proofs.Common.{◌≡◌, ◌≢◌, ℕ, List, Some, None, refl, sym, ap, ◌∙◌, subst, rules}
use Rattle.std.specs.Prelude.{IfOk}
use Rattle.std.specs.BTreeMap as tree
use Rattle.std.specs.Ordering.{nat_cmp}
use Rattle.std.proofs.lemmas.Result.{IfOk-weaker}
use Rattle.shared_graphs.specs.Graphs.{block_at}
use Rattle.cert_check.specs.declared.firsts.Known.{Known}
use Rattle.cert_check.specs.Firsts.{mixed_fours, IsBlockKnown, IsNumberKnown}
use Rattle.cert_check.proofs.FirstLemmas.{number_first, number_other, number_new}
use Rattle.cert_check.proofs.firsts.first_number.Goals as goal

pub returns-then-eq : goal.returns-then-eq
returns-then-eq c =
    let G : List (List ℕ) = c.args.graphs.now.items in
    let known : Known = c.args.known.now in
    let first : ℕ = c.in-Some.first.now in
    let mixed_is : c.mix_block-mixed.result ≡ mixed_fours 0 (block_at G c.args.number) = c.mix_block-mixed.ensures ∙ ap (mixed_fours 0) c.block-block.ensures in
    let found : tree.get nat_cmp known.by_mixed c.mix_block-mixed.result ≡ Some first = search rules in
    let same : block_at G first ≡ block_at G c.args.number = search rules in
    number_first G known known c.args.number first (ap (tree.get nat_cmp known.by_mixed) (sym mixed_is) ∙ found) same refl

pub returns-in-Some : goal.returns-in-Some
returns-in-Some c =
    let G : List (List ℕ) = c.args.graphs.now.items in
    let number : ℕ = c.args.number in
    let old : Known = c.args.known.now in
    let new : Known = record { by_mixed = old.by_mixed; by_block = c.known_number.new.known } in
    let first : ℕ = c.in-Some.first.now in
    let mixed_is : c.mix_block-mixed.result ≡ mixed_fours 0 (block_at G number) = c.mix_block-mixed.ensures ∙ ap (mixed_fours 0) c.block-block.ensures in
    let found : tree.get nat_cmp old.by_mixed c.mix_block-mixed.result ≡ Some first = search rules in
    let differs : block_at G first ≢ block_at G number = search rules in
    IfOk-weaker c.known_number.result (IsBlockKnown old.by_block new.by_block (block_at G number) number) (IsNumberKnown G old new number)
    (λ other is. number_other G old new number first other (ap (tree.get nat_cmp old.by_mixed) (sym mixed_is) ∙ found) differs refl is)
    (subst (λ (block : List ℕ). IfOk c.known_number.result (IsBlockKnown old.by_block new.by_block block number)) c.block-block.ensures c.known_number.ensures)

pub returns-in-Ok : goal.returns-in-Ok
returns-in-Ok c =
    let G : List (List ℕ) = c.args.graphs.now.items in
    let known : Known = c.args.known.now in
    let mixed_is : c.mix_block-mixed.result ≡ mixed_fours 0 (block_at G c.args.number) = c.mix_block-mixed.ensures ∙ ap (mixed_fours 0) c.block-block.ensures in
    let none : tree.get nat_cmp known.by_mixed c.mix_block-mixed.result ≡ None = search rules in
    number_new G known (record { by_mixed = c.insert.new.self; by_block = known.by_block }) c.args.number (ap (tree.get nat_cmp known.by_mixed) (sym mixed_is) ∙ none) refl
    (subst (λ m. tree.Updates nat_cmp known.by_mixed c.insert.new.self m (Some c.args.number)) mixed_is c.in-Ok.ensures.updates)
