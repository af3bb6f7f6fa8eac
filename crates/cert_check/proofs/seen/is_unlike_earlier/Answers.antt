use Rattle.std.proofs.Common.{◌≡◌, ◌≢◌, ◌↔◌, ◌⊎◌, ◌<◌, true, false, not, refl, sym, ◌∙◌, arith, rules}
use Rattle.std.proofs.lemmas.Result.{IfOk-weaker}
use Rattle.cert_check.specs.Supers.{Key, key_at, has_key, HasKey}
use Rattle.cert_check.specs.Seen.{IsUnlikeEarlier}
use Rattle.cert_check.proofs.SeenLemmas.{not_there, there_before, unlike_where_free, seen_at_place, stands_before, alike_at_place, unlike_others, seen_among_others, alike_others}
use Rattle.cert_check.proofs.seen.is_unlike_earlier.Goals as goal

pub returns-in_default-clause-unlike : goal.returns-in_default-clause-unlike
returns-in_default-clause-unlike c = λ _. unlike_where_free _ _ c.args.seen.now c.requires.seen _ c.key_from-key.ensures.key (c.in_default.ensures.none refl)

pub returns-in_default-clause-seen : goal.returns-in_default-clause-seen
returns-in_default-clause-seen c = λ _. seen_at_place _ _ c.args.seen.now c.requires.seen _ c.key_from-key.ensures.key _ (c.in_default.ensures.none refl) c.put_at.ensures.places c.put_at.ensures.others

-- The element that stands at the key's place is an earlier one.
earlier : (c : goal.In-Some) → c.in-Some.first < c.args.e
earlier c = stands_before _ _ c.args.seen.now c.requires.seen _ c.key_from-key.ensures.key c.in-Some.first c.in-Some.ensures.some

pub key_from-other_key-requires-clause-arcs : goal.key_from-other_key-requires-clause-arcs
key_from-other_key-requires-clause-arcs c = let before = earlier c in omega (arith, before, c.requires.arcs)

pub key_from-other_key-requires-clause-numbers : goal.key_from-other_key-requires-clause-numbers
key_from-other_key-requires-clause-numbers c = let before = earlier c in omega (arith, before, c.requires.numbers)

pub key_from-other_key-requires-clause-firsts : goal.key_from-other_key-requires-clause-firsts
key_from-other_key-requires-clause-firsts c = let before = earlier c in c.requires.firsts c.in-Some.first (omega (arith, before))

pub returns-then-eq-clause-alike : goal.returns-then-eq-clause-alike
returns-then-eq-clause-alike c =
    let same : c.key_from-other_key.result ≡ c.key_from-key.result = search rules in
    λ _. alike_at_place _ _ c.args.seen.now c.requires.seen _ c.key_from-key.ensures.key c.in-Some.first c.in-Some.ensures.some (sym c.key_from-other_key.ensures.key ∙ same)

pub returns-clause-unlike : goal.returns-clause-unlike
returns-clause-unlike c =
    let key : Key = c.key_from-key.result in
    let apart : c.key_from-other_key.result ≢ key = search rules in
    IfOk-weaker c.is_new.result (λ is. is ≡ not (has_key c.args.seen.now.others key)) (λ is. is ≡ true → IsUnlikeEarlier (key_at c.args.mode c.args.supers.now c.args.firsts.now) c.args.e)
    (λ is told new. unlike_others _ _ c.args.seen.now c.requires.seen key c.key_from-key.ensures.key c.in-Some.first c.in-Some.ensures.some
    (λ same. apart (c.key_from-other_key.ensures.key ∙ same)) (not_there (has_key c.args.seen.now.others key) is told new))
    c.is_new.ensures.told

pub returns-clause-seen : goal.returns-clause-seen
returns-clause-seen c =
    let key : Key = c.key_from-key.result in
    IfOk-weaker c.is_new.result (λ _. (other : Key) → HasKey c.is_new.new.keys other ↔ (HasKey c.args.seen.now.others other ⊎ (other ≡ key))) _
    (λ is added new. seen_among_others _ _ c.args.seen.now c.requires.seen key c.key_from-key.ensures.key c.in-Some.first c.in-Some.ensures.some _ refl added)
    c.is_new.ensures.added

pub returns-clause-alike : goal.returns-clause-alike
returns-clause-alike c =
    let key : Key = c.key_from-key.result in
    IfOk-weaker c.is_new.result (λ is. is ≡ not (has_key c.args.seen.now.others key)) (λ is. is ≡ false → IsUnlikeEarlier (key_at c.args.mode c.args.supers.now c.args.firsts.now) c.args.e → ⊥)
    (λ is told old. alike_others _ _ c.args.seen.now c.requires.seen key c.key_from-key.ensures.key (there_before (has_key c.args.seen.now.others key) is told old))
    c.is_new.ensures.told
