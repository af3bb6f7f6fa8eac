-- Words and lassos that tell two automata apart, without some of their letters.
use Rattle.std.specs.Prelude.{ℕ, ◌+◌, ◌-◌, nat_lt, if◌then◌else◌, List, ◌++◌, length, take, drop}
use Rattle.auto_core.specs.Automaton.{Automaton}
use Rattle.auto_core.specs.Accept.{SeparatesLasso, SeparatesWord}
use Rattle.auto_core.specs.declared.parts.Lasso.{Lasso}
use Rattle.lasso_shrink.specs.Leaving.{LeavesOutFirst, NeedsEach, IsShrunk}

-- The word without its letter at the place.
abbrev pub word_without : List ℕ → ℕ → List ℕ
word_without w k = take k w ++ drop (k + 1) w

-- The number of the lasso's letters: the prefix's places come first, and then the loop's.
abbrev pub letters_of : Lasso → ℕ
letters_of l = length l.prefix + length l.turn

-- The lasso without its letter at the place. Without its only letter a loop is empty, and then the
-- lasso is not accepted.
abbrev pub lasso_without : Lasso → ℕ → Lasso
lasso_without l k =
    if nat_lt k (length l.prefix)
    then record { prefix = word_without l.prefix k; turn = l.turn }
    else record { prefix = l.prefix; turn = word_without l.turn (k - length l.prefix) }

-- The first automaton accepts the lasso and the second does not.
abbrev pub LassoSeparates : Automaton → Automaton → Lasso → Type 0
LassoSeparates A B l = SeparatesLasso A B l.prefix l.turn

-- The first letter that can go is left out of the word, so that it still separates the automata.
abbrev pub WordLeavesOne : Automaton → Automaton → List ℕ → List ℕ → Type 0
WordLeavesOne A B = LeavesOutFirst (SeparatesWord A B) length word_without

-- Without any single letter the word does not separate them.
abbrev pub WordNeedsEach : Automaton → Automaton → List ℕ → Type 0
WordNeedsEach A B = NeedsEach (SeparatesWord A B) length word_without

-- The second word is what is left of the first once no letter can go.
abbrev pub IsShrunkWord : Automaton → Automaton → List ℕ → List ℕ → Type 0
IsShrunkWord A B = IsShrunk (SeparatesWord A B) length word_without

-- The same of lassos.
abbrev pub LassoLeavesOne : Automaton → Automaton → Lasso → Lasso → Type 0
LassoLeavesOne A B = LeavesOutFirst (LassoSeparates A B) letters_of lasso_without

abbrev pub LassoNeedsEach : Automaton → Automaton → Lasso → Type 0
LassoNeedsEach A B = NeedsEach (LassoSeparates A B) letters_of lasso_without

abbrev pub IsShrunkLasso : Automaton → Automaton → Lasso → Lasso → Type 0
IsShrunkLasso A B = IsShrunk (LassoSeparates A B) letters_of lasso_without
