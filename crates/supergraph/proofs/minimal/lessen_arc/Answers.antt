use Rattle.std.proofs.Common.{ℕ, refl, sym, ◌∙◌, rules}
use Rattle.std.proofs.lemmas.Bool.{false≢true}
use Rattle.auto_core.specs.Game.{Holds}
use Rattle.auto_core.specs.Graph.{graph_of_tables}
use Rattle.supergraph.proofs.MinimalLemmas.{SameCells, joined_back, past_back, table_same, table_without, graph_same, lessened_refl, lessened_same, lessened_without, back_is_minimal}
use Rattle.supergraph.proofs.minimal.lessen_arc.Goals as goal

pub returns-then-not-has_cell : goal.returns-then-not-has_cell
returns-then-not-has_cell c =
    let g = graph_of_tables c.args.joined.now c.args.past.now c.args.order.now.size c.args.width in
    record {
      joined = c.requires.joined;
      past = c.requires.past;
      lessened = lessened_refl (Holds c.args.order.now.pairs) g c.requires.within (λ s t arc. c.requires.order.reflexive t arc.1);
      minimal = λ arc d. search rules;
    }

pub returns-then-not-answers : goal.returns-then-not-answers
returns-then-not-answers c =
    let n : ℕ = c.args.order.now.size in
    let w : ℕ = c.args.width in
    let row : ℕ = c.args.row in
    let target : ℕ = c.args.target in
    let S = Holds c.args.order.now.pairs in
    let out = c.take_out.ensures in
    let flag = c.has_cell-flagged.result in
    let J : SameCells w c.put_back.new.joined c.args.joined.now = joined_back w row target c.args.joined.now c.take_out.new.joined c.put_back.new.joined out.joined (search rules) c.put_back.ensures.joined in
    let P : SameCells w c.put_back.new.past c.args.past.now = past_back w row target c.args.past.now c.take_out.new.past c.put_back.new.past flag out.past c.has_cell-flagged.ensures c.put_back.ensures.past in
    record {
      joined = table_same n w c.args.joined.now c.put_back.new.joined c.requires.joined (search rules) J;
      past = table_same n w c.args.past.now c.put_back.new.past c.requires.past (search rules) P;
      lessened = lessened_same S (graph_of_tables c.args.joined.now c.args.past.now n w) (graph_of_tables c.put_back.new.joined c.put_back.new.past n w) c.requires.within
          (λ s t arc. c.requires.order.reflexive t arc.1)
          (graph_same n w c.args.joined.now c.args.past.now c.put_back.new.joined c.put_back.new.past c.requires.joined.room J P);
      minimal = back_is_minimal S n w row target c.args.joined.now c.args.past.now c.take_out.new.joined c.take_out.new.past c.put_back.new.joined c.put_back.new.past flag
          c.requires.joined.room out.joined out.past J P c.has_cell-flagged.ensures
          (λ e u leads above. false≢true ((c.if-not-answers.ensures.any e).1 (u, leads, above)))
          (λ e u leads above. false≢true ((c.if-not-answers.ensures.marked e).1 (u, leads, above)));
    }

pub returns-else-not-answers : goal.returns-else-not-answers
returns-else-not-answers c =
    let n : ℕ = c.args.order.now.size in
    let w : ℕ = c.args.width in
    let row : ℕ = c.args.row in
    let target : ℕ = c.args.target in
    let out = c.take_out.ensures in
    record {
      joined = table_without w row target c.args.joined.now c.take_out.new.joined out.joined n c.requires.joined (search rules);
      past = table_without w row target c.args.past.now c.take_out.new.past out.past n c.requires.past (search rules);
      lessened = lessened_without (Holds c.args.order.now.pairs) n w row target c.args.joined.now c.args.past.now c.take_out.new.joined c.take_out.new.past c.has_cell-flagged.result
          c.requires.order.reflexive c.requires.joined.room c.requires.within out.joined out.past c.has_cell-flagged.ensures
          (λ e. (c.if-not-answers.ensures.any e).0 refl)
          (λ e. (c.if-not-answers.ensures.marked e).0 refl);
      minimal = λ arc d. false≢true (sym out.joined.here ∙ arc.2);
    }
