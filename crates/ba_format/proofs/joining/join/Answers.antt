use Rattle.std.proofs.Common.{◌≡◌, refl, ap, sym, subst, length, All, true, arith}
use Rattle.std.specs.List.{list_any}
use Rattle.ba_format.specs.Sight.{same_text}
use Rattle.ba_format.proofs.JoinLemmas.{joined_made, first_found, second_found}
use Rattle.ba_format.proofs.joining.join.Goals as goal

pub add_new-requires-2 : goal.add_new-requires-2
add_new-requires-2 c =
    let first = c.args.first.now.labels in
    let made = joined_made first c.args.second.now.labels c.new-labels.result c.add_new.new.joined _ c.new-labels.ensures c.in_ok-add_new.ensures refl in
    omega (arith, ap length made.0, c.requires.room)

pub relabelled-requires-clause-found : goal.relabelled-requires-clause-found
relabelled-requires-clause-found c =
    let first = c.args.first.now.labels in
    let second = c.args.second.now.labels in
    let made = joined_made first second c.new-labels.result c.add_new.new.joined c.add_new-2.new.joined c.new-labels.ensures c.in_ok-add_new.ensures c.in_ok-add_new-2.ensures in
    subst (λ l. All (λ t. list_any (same_text t) l ≡ true) first) (sym made.1) (first_found first second)

pub relabelled-requires-2-clause-found : goal.relabelled-requires-2-clause-found
relabelled-requires-2-clause-found c =
    let first = c.args.first.now.labels in
    let second = c.args.second.now.labels in
    let made = joined_made first second c.new-labels.result c.add_new.new.joined c.add_new-2.new.joined c.new-labels.ensures c.in_ok-add_new.ensures c.in_ok-add_new-2.ensures in
    subst (λ l. All (λ t. list_any (same_text t) l ≡ true) second) (sym made.1) (second_found first second)

pub returns : goal.returns
returns c =
    let first = c.args.first.now.labels in
    let second = c.args.second.now.labels in
    let made = joined_made first second c.new-labels.result c.add_new.new.joined c.add_new-2.new.joined c.new-labels.ensures c.in_ok-add_new.ensures c.in_ok-add_new-2.ensures in
    record { labels = made.1; first = c.in_ok-relabelled.ensures; second = c.in_ok-relabelled-2.ensures }
