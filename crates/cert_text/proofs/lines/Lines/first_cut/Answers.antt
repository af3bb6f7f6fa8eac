use Rattle.std.proofs.lemmas.Result.{err_from_is_err_and}
use Rattle.std.proofs.Common.{List, [], Ok, Err, subst}
use Rattle.cert_value.specs.declared.types.FirstStep.{FirstStep}
use Rattle.cert_value.specs.declared.types.RelBlock.{RelBlock}
use Rattle.cert_value.specs.declared.types.FirstStep.TheVariants as first
use Rattle.cert_value.specs.WellFormed.{blocks_due}
use Rattle.cert_line.specs.Lines.{gone_by_in}
use Rattle.cert_text.specs.Grammar.{next_line, read_blocks}
use Rattle.cert_text.specs.LinesLeft.{ReadsOn}
use Rattle.cert_text.specs.contracts.lines.Lines.first_cut.{C-type}
use Rattle.cert_text.proofs.LinesLeftLemmas.{then_reads, first_stops, gives}
use Rattle.cert_text.proofs.lines.Lines.first_cut.Goals as goal

pub returns-in_err-gone : goal.returns-in_err-gone
returns-in_err-gone g c =
    let p = err_from_is_err_and c.from_residual.result c.from_residual.ensures.1 in
    rw (p.1, p.2)
    (first_stops {A = FirstStep} (next_line gone_by_in) (λ next gone. read_blocks c.args.version (blocks_due c.args.pair) [] (λ blocks. next (first.Cut c.args.pair c.args.look gone blocks))) c.args.self.now c.gone_by.new.self c.gone_by.new.self c.in_err-gone.field-0.0 c.in_err-gone.ensures)

pub returns-in_err-blocks : goal.returns-in_err-blocks
returns-in_err-blocks g c =
    let p = err_from_is_err_and c.from_residual-in_err-blocks.result c.from_residual-in_err-blocks.ensures.1 in
    rw (p.1, p.2)
    (then_reads {A = FirstStep} (next_line gone_by_in) (λ next gone. read_blocks c.args.version (blocks_due c.args.pair) [] (λ blocks. next (first.Cut c.args.pair c.args.look gone blocks))) c.args.self.now c.gone_by.new.self c.blocks-2.new.self c.in_ok-gone.gone (Err c.in_err-blocks.field-0.0) c.in_ok-gone.ensures
    (first_stops {A = FirstStep} (read_blocks c.args.version (blocks_due c.args.pair) []) (λ next blocks. next (first.Cut c.args.pair c.args.look c.in_ok-gone.gone blocks)) c.gone_by.new.self c.blocks-2.new.self c.blocks-2.new.self c.in_err-blocks.field-0.0
    (subst (λ n. ReadsOn {C = C-type g.row.C} {A = List RelBlock} (read_blocks c.args.version n []) c.gone_by.new.self c.blocks-2.new.self (Err c.in_err-blocks.field-0.0)) c.blocks_due.ensures c.in_err-blocks.ensures)))

pub returns : goal.returns
returns g c =
    then_reads (next_line gone_by_in) (λ next gone. read_blocks c.args.version (blocks_due c.args.pair) [] (λ blocks. next (first.Cut c.args.pair c.args.look gone blocks))) c.args.self.now c.gone_by.new.self c.blocks-2.new.self c.in_ok-gone.gone (Ok (first.Cut c.args.pair c.args.look c.in_ok-gone.gone c.in_ok-blocks.blocks)) c.in_ok-gone.ensures
    (gives (read_blocks c.args.version (blocks_due c.args.pair) []) (λ blocks. first.Cut c.args.pair c.args.look c.in_ok-gone.gone blocks) c.gone_by.new.self c.blocks-2.new.self c.in_ok-blocks.blocks
    (subst (λ n. ReadsOn {C = C-type g.row.C} {A = List RelBlock} (read_blocks c.args.version n []) c.gone_by.new.self c.blocks-2.new.self (Ok c.in_ok-blocks.blocks)) c.blocks_due.ensures c.in_ok-blocks.ensures))
