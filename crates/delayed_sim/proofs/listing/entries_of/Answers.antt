use Rattle.std.proofs.Common.{◌≡◌, [], ℕ, ◌-◌, ◌*◌, ◌/◌, ◌%◌, ◌^◌, ◌<◌, sym, ap, ◌∙◌, subst, arith}
use Rattle.std.proofs.lemmas.Nat.{mod_below}
use Rattle.delayed_sim.specs.Stored.{entry_triples}
use Rattle.delayed_sim.specs.Words.{digits, ListsTriplesBefore}
use Rattle.delayed_sim.proofs.ListLemmas.{listed_none}
use Rattle.delayed_sim.proofs.PlaceLemmas.{words_some}
use Rattle.delayed_sim.proofs.listing.entries_of.Goals as goal

pub loop-x-init : goal.loop-x-init
loop-x-init c =
    let none : c.in_ok-entries.entries.items ≡ [] = c.in_ok-entries.ensures.items in
    subst (λ l. ListsTriplesBefore c.args.labels c.args.letters c.args.board.now c.args.ranks.now 0 0 (entry_triples c.args.letters l)) (sym none) (listed_none c.args.labels c.args.letters c.args.board.now c.args.ranks.now)

pub letters_of-ahead-requires-clause-below : goal.letters_of-ahead-requires-clause-below
letters_of-ahead-requires-clause-below c =
    let l : ℕ = c.args.labels in
    let n : ℕ = c.args.letters in
    let x : ℕ = c.loop-x.x in
    let words : c.word_count-words.result ≡ l ^ (n - 1) = c.word_count-words.ensures in
    let inside : x < c.args.board.now.states * l ^ (n - 1) = omega (arith, c.loop-x-test.true, c.requires.words) in
    subst (λ w. x % w < l ^ (n - 1)) (sym words) (mod_below x (l ^ (n - 1)) (words_some l n c.args.board.now.states x inside))

pub push_row-requires-clause-state : goal.push_row-requires-clause-state
push_row-requires-clause-state c = ap (λ w. c.loop-x.x / w) c.word_count-words.ensures

pub push_row-requires-clause-word : goal.push_row-requires-clause-word
push_row-requires-clause-word c =
    c.letters_of-ahead.ensures ∙ ap (λ w. digits c.args.labels (c.args.letters - 1) (c.loop-x.x % w)) c.word_count-words.ensures

pub loop-x-preserved : goal.loop-x-preserved
loop-x-preserved c = c.in_ok-push_row.ensures

pub returns : goal.returns
returns c =
    let all : c.loop-x.x ≡ c.args.board.now.places = omega (arith, c.loop-x-test.false, c.loop-x.auto.x-end, c.places-x-end.ensures.count) in
    subst (λ i. ListsTriplesBefore c.args.labels c.args.letters c.args.board.now c.args.ranks.now i 0 (entry_triples c.args.letters c.loop-x.entries.items)) all c.loop-x.invariant
