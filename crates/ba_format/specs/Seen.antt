-- What the reader's parts stand for.
use Rattle.std.specs.Prelude.{ℕ, List, Bool, not, ◌&&◌, nat_lt, ◌==◌}
use Rattle.std.specs.List.{list_any}
use Rattle.ba_format.specs.declared.lines.Said.{Said}
use Rattle.ba_format.specs.declared.lines.Said.TheVariants.{State, Transition}
use Rattle.ba_format.specs.Grammar.{is_comma, arrows, before_arrow, after_arrow, trimmed, LineContent, StateLine, TransitionLine}

-- What a line says, its tokens being lent.
abbrev pub entry_seen : Said → LineContent
entry_seen (State name) = StateLine name.now
entry_seen (Transition label source target) = TransitionLine label.now source.now target.now

-- The shape of a line that is cut at its first comma.
abbrev pub is_cut_shaped : List ℕ → List ℕ → Bool
is_cut_shaped label rest =
    not (list_any is_comma rest) && not (nat_lt 0 (arrows label)) && (arrows rest == 1)

-- What a line says that is cut at its first comma.
abbrev pub transition_entry : List ℕ → List ℕ → LineContent
transition_entry label rest =
    TransitionLine (trimmed label) (trimmed (before_arrow rest)) (trimmed (after_arrow rest))
