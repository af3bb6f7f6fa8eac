use Rattle.std.proofs.Common.{◌≡◌, length, take}
use Rattle.cert_check.specs.Turns.{HasLassos, AreLoops}
use Rattle.cert_check.proofs.pairs.has_lassos.Given as goal

abbrev pub invariant-loop-h : goal.invariant-loop-h
invariant-loop-h l = record {
  told : HasLassos l.second l.graphs.items l.g (take l.h-index l.others);
  loops : AreLoops l.second.states l.graphs.items l.loops.items;
  size : length l.loops.items ≡ length l.fn.loops.items;
  room : l.scratch ≡ l.second.states;
}
