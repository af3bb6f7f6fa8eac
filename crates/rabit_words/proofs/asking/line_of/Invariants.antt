use Rattle.std.proofs.Common.{◌≡◌, ◌∷◌, take, map, codes, Global}
use Rattle.std.specs.String.{string_bytes}
use Rattle.rabit_words.proofs.asking.line_of.Given as goal

abbrev pub invariant-loop-word : goal.invariant-loop-word
invariant-loop-word l = map (λ word. word.now) l.line.items ≡ codes "rabit" ∷ map (string_bytes {Z = Global}) (take l.word-index l.words)
