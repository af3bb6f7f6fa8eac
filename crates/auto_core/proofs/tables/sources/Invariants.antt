use Rattle.std.proofs.Common.{◌≡◌, take}
use Rattle.auto_core.specs.Build.{sources_of}
use Rattle.auto_core.proofs.tables.sources.Given as goal

abbrev pub invariant-loop-t : goal.invariant-loop-t
invariant-loop-t l = l.sources.items ≡ sources_of (take l.t-index l.transitions)
