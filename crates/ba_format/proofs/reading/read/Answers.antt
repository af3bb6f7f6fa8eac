use Rattle.std.proofs.Common.{[], arith}
use Rattle.ba_format.proofs.reading.read.Goals as goal

pub returns-in-Ok-clause-fault : goal.returns-in-Ok-clause-fault
returns-in-Ok-clause-fault c = λ fault is.
    let has = c.in-Ok.ensures.read c.args.limits.now [] c.empty-reader.ensures (omega (arith, c.requires)) in
    c.finish.ensures.fault c.args.limits.now c.args.bytes.now has c.requires fault is

pub returns-in-Ok-clause-found : goal.returns-in-Ok-clause-found
returns-in-Ok-clause-found c = λ fault is.
    let has = c.in-Ok.ensures.read c.args.limits.now [] c.empty-reader.ensures (omega (arith, c.requires)) in
    c.finish.ensures.found c.args.limits.now c.args.bytes.now has c.requires fault is
