use Rattle.rabit_cli.proofs.BatchLemmas.{word_is_text}
use Rattle.rabit_cli.proofs.batching.name_of.Goals as goal

pub unreachable-requires : goal.unreachable-requires
unreachable-requires c = c.in-Err.ensures.cases.0 (word_is_text c.args.bytes.now c.requires)
