use Rattle.std.proofs.Common.{◌^◌, ◌≤◌, ℕ, List, length}
use Rattle.cert_text.specs.Pieces.{AreCertLinesTaken}
use Rattle.cert_text.proofs.pieces.Lines.take_whole.Given as goal

-- the lines before the rest were taken
abbrev pub invariant-loop-line : goal.invariant-loop-line
invariant-loop-line l = (text : List ℕ) → AreCertLinesTaken l.initial.self text l.piece → length text ≤ 2 ^ 30 → AreCertLinesTaken l.self text l.rest

abbrev pub decreases-loop-line : goal.decreases-loop-line
decreases-loop-line l = length l.rest
