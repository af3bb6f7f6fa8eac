use Rattle.std.proofs.Common.{ℕ, sym, subst}
use Rattle.std.proofs.lemmas.Result.{err_from_is_err_and}
use Rattle.cert_value.specs.declared.keywords.Keyword.TheVariants as keyword
use Rattle.cert_value.specs.declared.types.RelBlock.{RelBlock}
use Rattle.cert_line.specs.declared.lines.Sizes.{Sizes}
use Rattle.cert_line.specs.Lines.{word_in, number_in, sizes_in}
use Rattle.cert_text.specs.Grammar.{On, next_line, read_block, read_end, finish}
use Rattle.cert_text.specs.declared.cross.Cross.{Cross}
use Rattle.cert_text.specs.CrossGrammar.{cross_heading_in, cross_of_parts, read_relation, read_look, read_cross_sizes, read_cross}
use Rattle.cert_text.specs.LinesLeft.{Left}
use Rattle.cert_text.proofs.LinesLeftLemmas.{IsAt, at_start, at_next, at_stop, at_end, at_over, few_left}
use Rattle.cert_text.proofs.cross_read.read_text.Goals as goal
use Rattle.cert_text.proofs.cross_read.read_text.Goals.{After-of-lines, In_ok-heading, In_ok-sizes, In_ok-look, In_ok-relation, In_ok-end}

-- the last line, after this relation
abbrev after_rows : Sizes → ℕ → On Cross RelBlock
after_rows s k block = read_end (cross_of_parts s k block)

-- where the reader is after each part
opened : (c : goal.After-of-lines) → IsAt read_cross c.args.bytes.now c.of-lines.result read_cross
opened c = subst (λ (l : Left). IsAt read_cross c.args.bytes.now l read_cross) (sym c.of-lines.ensures) (at_start read_cross c.args.bytes.now)

heading_read : (c : goal.In_ok-heading) → IsAt read_cross c.args.bytes.now c.heading.new.lines read_cross_sizes
heading_read c = at_next read_cross c.args.bytes.now (next_line cross_heading_in) (λ u. read_cross_sizes) c.of-lines.result c.heading.new.lines tt (opened (goal.at.In_ok-heading c).After-of-lines) c.in_ok-heading.ensures

sizes_read : (c : goal.In_ok-sizes) → IsAt read_cross c.args.bytes.now c.sizes.new.self (read_look c.in_ok-sizes.sizes)
sizes_read c = at_next read_cross c.args.bytes.now (next_line sizes_in) read_look c.heading.new.lines c.sizes.new.self c.in_ok-sizes.sizes (heading_read (goal.at.In_ok-sizes c).In_ok-heading) c.in_ok-sizes.ensures

look_read : (c : goal.In_ok-look) → IsAt read_cross c.args.bytes.now c.number.new.self (read_relation c.in_ok-sizes.sizes c.in_ok-look.look)
look_read c =
    at_next read_cross c.args.bytes.now (next_line (number_in keyword.Look)) (read_relation c.in_ok-sizes.sizes) c.sizes.new.self c.number.new.self c.in_ok-look.look (sizes_read (goal.at.In_ok-look c).In_ok-sizes) c.in_ok-look.ensures

rows_read : (c : goal.In_ok-relation) → IsAt read_cross c.args.bytes.now c.block.new.self (after_rows c.in_ok-sizes.sizes c.in_ok-look.look c.in_ok-relation.relation)
rows_read c =
    at_next read_cross c.args.bytes.now (read_block 1) (after_rows c.in_ok-sizes.sizes c.in_ok-look.look) c.number.new.self c.block.new.self c.in_ok-relation.relation (look_read (goal.at.In_ok-relation c).In_ok-look) c.in_ok-relation.ensures

end_read : (c : goal.In_ok-end) → IsAt read_cross c.args.bytes.now c.end.new.self (finish (cross_of_parts c.in_ok-sizes.sizes c.in_ok-look.look c.in_ok-relation.relation))
end_read c =
    let own = cross_of_parts c.in_ok-sizes.sizes c.in_ok-look.look c.in_ok-relation.relation in
    at_next read_cross c.args.bytes.now (next_line (word_in keyword.End)) (λ u. finish own) c.block.new.self c.end.new.self tt (rows_read (goal.at.In_ok-end c).In_ok-relation) c.in_ok-end.ensures

pub heading-requires : goal.heading-requires
heading-requires c = record { few = few_left c.args.bytes.now c.of-lines.result c.requires (opened (goal.at.heading-requires c).After-of-lines).0 }

pub sizes-requires : goal.sizes-requires
sizes-requires c = record { few = few_left c.args.bytes.now c.heading.new.lines c.requires (heading_read (goal.at.sizes-requires c).In_ok-heading).0 }

pub number-requires : goal.number-requires
number-requires c = record { few = few_left c.args.bytes.now c.sizes.new.self c.requires (sizes_read (goal.at.number-requires c).In_ok-sizes).0 }

pub block-requires : goal.block-requires
block-requires c = record { few = few_left c.args.bytes.now c.number.new.self c.requires (look_read (goal.at.block-requires c).In_ok-look).0 }

pub end-requires : goal.end-requires
end-requires c = record { few = few_left c.args.bytes.now c.block.new.self c.requires (rows_read (goal.at.end-requires c).In_ok-relation).0 }

pub returns-in_err-heading : goal.returns-in_err-heading
returns-in_err-heading c =
    let p = err_from_is_err_and c.from_residual.result c.from_residual.ensures.1 in
    record {
      reading = rw (p.1, p.2)
          (at_stop read_cross c.args.bytes.now (next_line cross_heading_in) (λ u. read_cross_sizes) c.of-lines.result c.heading.new.lines c.in_err-heading.field-0.0 (opened (goal.at.returns-in_err-heading c).After-of-lines) c.in_err-heading.ensures);
    }

pub returns-in_err-sizes : goal.returns-in_err-sizes
returns-in_err-sizes c =
    let p = err_from_is_err_and c.from_residual-in_err-sizes.result c.from_residual-in_err-sizes.ensures.1 in
    record {
      reading = rw (p.1, p.2) (at_stop read_cross c.args.bytes.now (next_line sizes_in) read_look c.heading.new.lines c.sizes.new.self c.in_err-sizes.field-0.0 (heading_read (goal.at.returns-in_err-sizes c).In_ok-heading) c.in_err-sizes.ensures);
    }

pub returns-in_err-look : goal.returns-in_err-look
returns-in_err-look c =
    let p = err_from_is_err_and c.from_residual-in_err-look.result c.from_residual-in_err-look.ensures.1 in
    record {
      reading = rw (p.1, p.2)
          (at_stop read_cross c.args.bytes.now (next_line (number_in keyword.Look)) (read_relation c.in_ok-sizes.sizes) c.sizes.new.self c.number.new.self c.in_err-look.field-0.0 (sizes_read (goal.at.returns-in_err-look c).In_ok-sizes) c.in_err-look.ensures);
    }

pub returns-in_err-relation : goal.returns-in_err-relation
returns-in_err-relation c =
    let p = err_from_is_err_and c.from_residual-in_err-relation.result c.from_residual-in_err-relation.ensures.1 in
    record {
      reading = rw (p.1, p.2)
          (at_stop read_cross c.args.bytes.now (read_block 1) (after_rows c.in_ok-sizes.sizes c.in_ok-look.look) c.number.new.self c.block.new.self c.in_err-relation.field-0.0 (look_read (goal.at.returns-in_err-relation c).In_ok-look) c.in_err-relation.ensures);
    }

pub returns-in_err-end : goal.returns-in_err-end
returns-in_err-end c =
    let p = err_from_is_err_and c.from_residual-in_err-end.result c.from_residual-in_err-end.ensures.1 in
    let own = cross_of_parts c.in_ok-sizes.sizes c.in_ok-look.look c.in_ok-relation.relation in
    record {
      reading = rw (p.1, p.2)
          (at_stop read_cross c.args.bytes.now (next_line (word_in keyword.End)) (λ u. finish own) c.block.new.self c.end.new.self c.in_err-end.field-0.0 (rows_read (goal.at.returns-in_err-end c).In_ok-relation) c.in_err-end.ensures);
    }

pub returns-in_err-finish : goal.returns-in_err-finish
returns-in_err-finish c =
    let p = err_from_is_err_and c.from_residual-in_err-finish.result c.from_residual-in_err-finish.ensures.1 in
    let own = cross_of_parts c.in_ok-sizes.sizes c.in_ok-look.look c.in_ok-relation.relation in
    record { reading = rw (p.1, p.2) (at_over read_cross c.args.bytes.now own c.end.new.self c.in_err-finish.field-0.0 (end_read (goal.at.returns-in_err-finish c).In_ok-end) c.in_err-finish.ensures) }

pub returns : goal.returns
returns c =
    let own = cross_of_parts c.in_ok-sizes.sizes c.in_ok-look.look c.in_ok-relation.relation in
    record { reading = at_end read_cross c.args.bytes.now own c.end.new.self (end_read (goal.at.returns c).In_ok-end) c.in_ok-finish.ensures }
