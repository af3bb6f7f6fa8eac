use Rattle.std.proofs.Common.{ℕ, ◌≡◌, ◌∙◌, List, length, refl, sym, ap, subst}
use Rattle.std.specs.List.{refill}
use Rattle.auto_core.specs.Automaton.{Automaton}
use Rattle.auto_core.specs.Graph.{letter_graph}
use Rattle.shared_graphs.specs.Graphs.{AsTheyAre, FitsLetter, IsBlockOf}
use Rattle.shared_graphs.specs.declared.memo.Answer.TheVariants.{Number}
use Rattle.shared_graphs.specs.declared.graphs.Graphs.{Graphs}
use Rattle.shared_graphs.proofs.GraphsLemmas.{told_more}
use Rattle.shared_graphs.proofs.ShareLemmas.{written_over}
use Rattle.shared_graphs.proofs.graphs.Graphs.note_own.Goals as goal

pub returns-then-are_equal-clause-stock : goal.returns-then-are_equal-clause-stock
returns-then-are_equal-clause-stock c = λ keeping stock.
    let B : Automaton = c.args.second.now in
    let old : Graphs = c.args.self.now in
    let a : ℕ = c.args.label in
    let k : ℕ = c.args.number in
    let letter_block : IsBlockOf B AsTheyAre (letter_graph B a) c.letter.new.out = record { formed = c.letter.ensures.formed; stands = c.letter.ensures.graph } in
    let len : length c.letter.new.out ≡ old.graphs.words = c.letter.ensures.formed.len ∙ sym stock.size in
    let written : refill old.letter_block.len old.letter_block.items c.letter.new.out ≡ c.letter.new.out = written_over old.letter_block.len old.letter_block.items c.letter.new.out (len ∙ sym stock.letter_block ∙ sym old.letter_block.ok.0) in
    let read : c.deref.result.now ≡ refill old.letter_block.len old.letter_block.items c.letter.new.out = c.deref.ensures.value in
    record {
      some = stock.some;
      size = stock.size;
      letter_block = ap (λ (l : List ℕ). length l) written ∙ len;
      letters = told_more (FitsLetter B keeping old.graphs.items) old.letters.told.items c.note.new.self.told.items 0 a (Number k) stock.letters
          (record { within = c.requires.within; block = subst (IsBlockOf B AsTheyAre (letter_graph B a)) (sym written ∙ sym read ∙ sym (c.if-are_equal.ensures.0 refl) ∙ c.block.ensures) letter_block }) c.note.ensures;
      steps = stock.steps;
    }
