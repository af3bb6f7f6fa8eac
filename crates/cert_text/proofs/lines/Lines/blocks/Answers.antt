use Rattle.std.proofs.Common.{◌≡◌, ℕ, suc, ◌+◌, ◌-◌, [], ◌∷◌, ◌++◌, sym, subst, arith}
use Rattle.std.proofs.lemmas.Result.{err_from_is_err_and}
use Rattle.cert_text.specs.Grammar.{read_block, read_blocks}
use Rattle.cert_text.specs.contracts.lines.Lines.blocks.{C-type}
use Rattle.cert_text.proofs.LinesLeftLemmas.{SoFar, so_next, so_stop}
use Rattle.cert_text.proofs.lines.Lines.blocks.Goals as goal

pub returns-in_err-block : goal.returns-in_err-block
returns-in_err-block g c =
    let p = err_from_is_err_and c.from_residual.result c.from_residual.ensures.1 in
    let later : ℕ = c.args.count - (c.loop-block._block + 1) in
    let e : c.args.count - c.loop-block._block ≡ suc later = omega (arith, c.loop-block-test.true) in
    let way = subst (λ n. SoFar {C = C-type g.row.C} (read_blocks c.args.version c.args.count []) (read_blocks c.args.version n c.loop-block.blocks) c.args.self.now c.loop-block.self) e c.loop-block.invariant in
    rw (p.1, p.2) (so_stop (read_blocks c.args.version c.args.count []) (read_block c.args.version) (λ next block. read_blocks c.args.version later (c.loop-block.blocks ++ block ∷ []) next) c.args.self.now c.loop-block.self c.block.new.self c.block.new.self c.in_err-block.field-0.0 way c.in_err-block.ensures)

pub loop-block-preserved : goal.loop-block-preserved
loop-block-preserved g c =
    let later : ℕ = c.args.count - (c.loop-block._block + 1) in
    let e : c.args.count - c.loop-block._block ≡ suc later = omega (arith, c.loop-block-test.true) in
    let way = subst (λ n. SoFar {C = C-type g.row.C} (read_blocks c.args.version c.args.count []) (read_blocks c.args.version n c.loop-block.blocks) c.args.self.now c.loop-block.self) e c.loop-block.invariant in
    subst (λ items. SoFar {C = C-type g.row.C} (read_blocks c.args.version c.args.count []) (read_blocks c.args.version later items) c.args.self.now c.block.new.self) (sym c.in_ok-push.ensures.ok)
    (so_next (read_blocks c.args.version c.args.count []) (read_block c.args.version) (λ next block. read_blocks c.args.version later (c.loop-block.blocks ++ block ∷ []) next) c.args.self.now c.loop-block.self c.block.new.self c.in_ok-block.block way c.in_ok-block.ensures)

pub returns : goal.returns
returns g c =
    let done : c.args.count - c.loop-block._block ≡ 0 = omega (arith, c.loop-block-test.false) in
    subst (λ n. SoFar {C = C-type g.row.C} (read_blocks c.args.version c.args.count []) (read_blocks c.args.version n c.loop-block.blocks) c.args.self.now c.loop-block.self) done c.loop-block.invariant
