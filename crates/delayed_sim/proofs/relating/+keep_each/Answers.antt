use Rattle.std.proofs.Common.{rules, ◌≡◌, ℕ, suc, ◌*◌, ◌&&◌, ◌<◌, ◌≤◌, inl, inr, List, [], ◌∷◌, ◌++◌, length, take, sym, ap, ◌∙◌, subst, arith}
use Rattle.std.proofs.lemmas.Bool.{cases_eq, false≢true, and_parts, and_from}
use Rattle.std.proofs.lemmas.List.{length-take-le, take_more_set}
use Rattle.auto_core.specs.Rows.{bit_of}
use Rattle.bit_rows.proofs.WordLemmas.{first_cell}
use Rattle.delayed_sim.specs.Related.{HoldsEach}
use Rattle.delayed_game.proofs.BeforeLemmas.{bit_near}
use Rattle.delayed_sim.proofs.RelateLemmas.{each_whole, each_of_all, one_of_each}
use Rattle.delayed_sim.proofs.relating.+keep_each.Goals as goal

pub returns-then-chosen-letters : goal.returns-then-chosen-letters
returns-then-chosen-letters t c = λ q.
    let R = c.args.delayed.now in
    let word = c.args.word in
    let chosen : ℕ = c.args.chosen in
    let w = c.words_for.result in
    let three : length word ≡ 3 = search rules in
    let front : length (take chosen word) ≡ chosen = length-take-le chosen word (omega (arith, c.requires.inside, c.requires.short)) in
    let old = c.args.row.now in
    let new = c.and_row.new.table in
    let marked = c.mark_row.new.row in
    let len : length old ≡ w = omega (arith, c.requires.row, c.words_for.ensures, c.states.ensures.count) in
    let new_len : length new ≡ w = c.and_row.auto.table ∙ len in
    let anded : q < w * 64 → bit_of new q ≡ (bit_of old q && bit_of marked q) = λ near. sym (first_cell new w q) ∙ c.and_row.ensures.here q near ∙ ap (λ b. b && bit_of marked q) (first_cell old w q) in
    let told = each_whole R (take chosen word) c.args.p q (bit_of marked q) (omega (arith, c.if-chosen-letters.true, c.letters.ensures.count))
    (λ bit. elim ((c.mark_row.ensures q).0 bit) [ inl was ↦ absurd (false≢true (sym (c.clear_row.ensures q) ∙ was)) | inr held ↦ held ], λ held. (c.mark_row.ensures q).1 (inr held)) in (
      λ bit. let two = and_parts (bit_of old q) (bit_of marked q) (sym (anded (bit_near new w q new_len bit)) ∙ bit) in (two.0, told.0 two.1),
      λ is. anded (bit_near old w q len is.0) ∙ and_from (bit_of old q) (bit_of marked q) is.0 (told.1 is.1),
    )

pub loop-letter-init : goal.loop-letter-init
loop-letter-init t c = λ q. (λ bit. (bit, λ a lt. absurd (omega arith)), λ is. is.0)

pub loop-letter-preserved : goal.loop-letter-preserved
loop-letter-preserved t c = λ q.
    let R = c.args.delayed.now in
    let word = c.args.word in
    let chosen : ℕ = c.args.chosen in
    let letter : ℕ = c.loop-letter.letter in
    let three : length word ≡ 3 = search rules in
    let inside : chosen < length word = omega (arith, c.requires.inside, c.requires.short, c.if-chosen-letters.false, c.letters.ensures.count) in
    let is = c.keep_each.ensures q in
    let was = c.loop-letter.invariant q in
    let E : List ℕ → Type 0 = λ w. HoldsEach R w c.args.p q in
    let front = take_more_set word chosen letter inside in (
      λ bit.
          let two = is.0 bit in
          let before = was.0 two.0 in (
            before.0,
            λ a lt. elim (cases_eq a letter) [
              | inl e ↦ subst (λ x. E (take chosen word ++ x ∷ [])) (sym e) (subst E front two.1)
              | inr apart ↦ before.1 a (omega arith)
            ],
          ),
      λ both. is.1 (was.1 (both.0, λ a lt. both.1 a (omega arith)), subst E (sym front) (both.1 letter (omega arith))),
    )

pub returns : goal.returns
returns t c = λ q.
    let R = c.args.delayed.now in
    let word = c.args.word in
    let chosen : ℕ = c.args.chosen in
    let three : length word ≡ 3 = search rules in
    let front : length (take chosen word) ≡ chosen = length-take-le chosen word (omega (arith, c.requires.inside, c.requires.short)) in
    let all : R.labels ≤ c.loop-letter.letter = omega (arith, c.loop-letter-test.false, c.labels-letter-end.ensures.count) in
    let short : suc (length (take chosen word)) < R.letters = omega (arith, c.if-chosen-letters.false, c.letters.ensures.count, c.requires.inside) in
    let h = c.loop-letter.invariant q in (
      λ bit. let two = h.0 bit in (two.0, each_of_all R (take chosen word) c.args.p q c.loop-letter.letter short all two.1),
      λ is. h.1 (is.0, λ a lt. one_of_each R (take chosen word) c.args.p q a (omega (arith, c.loop-letter.auto.letter-end, c.labels-letter-end.ensures.count)) is.1),
    )
