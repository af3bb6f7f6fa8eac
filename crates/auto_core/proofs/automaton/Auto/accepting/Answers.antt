use Rattle.std.proofs.Common.{◌≡◌, arith}
use Rattle.std.proofs.lemmas.Grind.{common_steps}
use Rattle.auto_core.proofs.Accepting.{test_says}
use Rattle.auto_core.specs.Automaton.{is_accepting}
use Rattle.auto_core.proofs.automaton.Auto.accepting.Goals as goal

pub returns-clause-told : goal.returns-clause-told
returns-clause-told c =
    let same : c.index.result.now ≡ is_accepting c.args.self.now c.args.state = grind (arith, common_steps) in
    rw same (test_says c.args.self.now.accepting c.args.state)
