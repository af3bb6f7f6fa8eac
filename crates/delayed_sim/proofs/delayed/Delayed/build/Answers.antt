use Rattle.std.proofs.Common.{◌≡◌, ℕ, ◌-◌, ◌<◌, ◌≤◌, Option, None, List, [], length, take, Contains, sym, ap, ◌∙◌, subst, arith}
use Rattle.std.proofs.lemmas.List.{get_or_default}
use Rattle.auto_core.specs.Delayed.{IsTripleWord}
use Rattle.delayed_sim.specs.declared.entries.Entry.{Entry}
use Rattle.delayed_sim.specs.declared.delayed.RankedTriple.{RankedTriple}
use Rattle.delayed_sim.specs.Rankings.{Triple, ranked_triple, AreTriplesGiven}
use Rattle.delayed_sim.specs.Stored.{entry_triples, IsPutIn}
use Rattle.delayed_sim.proofs.BuildLemmas.{IsFilled, given, filled_none, filled_more, filled_lacks, filled_all, filled_range}
use Rattle.delayed_sim.proofs.delayed.Delayed.build.Goals as goal

-- The word of a given triple is one.
given_letters : (states labels n : ℕ) (triples : List RankedTriple) (i : ℕ) → AreTriplesGiven states labels n triples → i < length triples → IsTripleWord labels n (given triples i).ahead
given_letters states labels n triples i range i_in =
    let x = given triples i in
    (range x.left x.ahead x.right x.rank (i, i_in, get_or_default triples i x (ranked_triple 0 [] 0 None) i_in)).0

-- The first letters of the three are those.
first_letters : (labels n : ℕ) (b word : List ℕ) → IsTripleWord labels n b → take (length b) word ≡ b → take (n - 1) word ≡ b
first_letters labels n b word is_word is =
    let len = is_word.0 in
    let count : n - 1 ≡ length b = omega arith in
    ap (λ i. take i word) count ∙ is

with_letters : (p : ℕ) (b c : List ℕ) (q : ℕ) (o : Option ℕ) → b ≡ c → ◌≡◌ {A = Triple} (p, b, q, o) (p, c, q, o)
with_letters p b c q o e = ap (λ l. triple p l q o) e
  where
    triple : ℕ → List ℕ → ℕ → Option ℕ → Triple
    triple p b q o = (p, b, q, o)

abbrev entry_with : ℕ → List ℕ → ℕ → Option ℕ → Entry
entry_with p word q o = record { left = p; ahead = word; right = q; rank = o }

pub padded-requires : goal.padded-requires
padded-requires c =
    let is_word = given_letters c.args.states c.args.labels c.args.letters c.args.triples.now c.loop-i.i c.requires.in_range c.loop-i-test.true in
    let len = is_word.0 in
    let upto = c.requires.upto in
    let same : c.index-triples-i.result ≡ given c.args.triples.now c.loop-i.i = c.index-triples-i.is ∙ get_or_default c.args.triples.now c.loop-i.i c.index-triples-i.result (ranked_triple 0 [] 0 None) c.loop-i-test.true in
    omega (arith, ap (λ (l : List ℕ). length l) c.as_slice.ensures, ap (λ (x : RankedTriple). length x.ahead) same)

pub loop-i-init : goal.loop-i-init
loop-i-init c = subst (λ l. IsFilled c.args.triples.now 0 (entry_triples c.args.letters l)) (sym c.in_ok-held.ensures.items) (filled_none c.args.triples.now)

pub put_in-requires-clause-in_order : goal.put_in-requires-clause-in_order
put_in-requires-clause-in_order c = c.loop-i.invariant.in_order

pub put_in-requires-clause-lacks : goal.put_in-requires-clause-lacks
put_in-requires-clause-lacks c = λ rank has.
    let triples = c.args.triples.now in
    let i : ℕ = c.loop-i.i in
    let n : ℕ = c.args.letters in
    let x = given triples i in
    let word = c.padded.result in
    let same : c.index-triples-i.result ≡ x = c.index-triples-i.is ∙ get_or_default c.args.triples.now c.loop-i.i c.index-triples-i.result (ranked_triple 0 [] 0 None) c.loop-i-test.true in
    let T = entry_triples n c.loop-i.held.items in
    let is_word = given_letters c.args.states c.args.labels n triples i c.requires.in_range c.loop-i-test.true in
    let letters : take (n - 1) word ≡ x.ahead = first_letters c.args.labels n x.ahead word is_word (subst (λ (l : List ℕ). take (length l) word ≡ l) (c.as_slice.ensures ∙ ap (λ (y : RankedTriple). y.ahead) same) c.padded.ensures) in
    filled_lacks triples i T rank c.requires.different c.loop-i-test.true c.loop-i.invariant (subst (λ (b : List ℕ). Contains T (x.left, b, x.right, rank)) letters
    (subst (λ (z : RankedTriple). Contains T (z.left, take (n - 1) word, z.right, rank)) same has))

pub loop-i-preserved : goal.loop-i-preserved
loop-i-preserved c =
    let triples = c.args.triples.now in
    let i : ℕ = c.loop-i.i in
    let n : ℕ = c.args.letters in
    let x = given triples i in
    let word = c.padded.result in
    let same : c.index-triples-i.result ≡ x = c.index-triples-i.is ∙ get_or_default c.args.triples.now c.loop-i.i c.index-triples-i.result (ranked_triple 0 [] 0 None) c.loop-i-test.true in
    let is_word = given_letters c.args.states c.args.labels n triples i c.requires.in_range c.loop-i-test.true in
    let letters : take (n - 1) word ≡ x.ahead = first_letters c.args.labels n x.ahead word is_word (subst (λ (l : List ℕ). take (length l) word ≡ l) (c.as_slice.ensures ∙ ap (λ (y : RankedTriple). y.ahead) same) c.padded.ensures) in
    let e : Entry = entry_with x.left word x.right x.rank in
    filled_more n triples i c.loop-i.held.items c.put_in.new.entries.items e c.loop-i.invariant (with_letters x.left (take (n - 1) word) x.ahead x.right x.rank letters)
    (subst (λ (z : RankedTriple). IsPutIn n c.loop-i.held.items c.put_in.new.entries.items (entry_with z.left word z.right z.rank)) same c.in_ok-put_in.ensures)

pub returns-clause-triples : goal.returns-clause-triples
returns-clause-triples c =
    let all : c.loop-i.i ≡ length c.args.triples.now = omega (arith, c.loop-i-test.false, c.loop-i.auto.i-end) in
    filled_all c.args.triples.now c.loop-i.i (entry_triples c.args.letters c.loop-i.held.items) all c.loop-i.invariant

pub invariant_of-result : goal.invariant_of-result
invariant_of-result c =
    let n : ℕ = c.args.letters in
    let triples = c.args.triples.now in
    let T = entry_triples n c.loop-i.held.items in
    let upto : c.loop-i.i ≤ length triples = omega (arith, c.loop-i.auto.i-end) in
    record {
      letters_from = c.requires.from;
      letters_upto = c.requires.upto;
      in_range = filled_range c.args.states c.args.labels n triples c.loop-i.i T c.requires.in_range upto c.loop-i.invariant;
      in_order = c.loop-i.invariant.in_order;
    }
