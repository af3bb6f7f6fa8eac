-- The limits of files, of results, of lists and of games and the usual terms of the program, in
-- numbers. Definitions cite the constants of the code; here is what these are.
use Rattle.std.specs.Prelude.{◌≡◌, ◌^◌, ℕ}
use Rattle.auto_core.specs.declared.limits.TheConstants.{MOST_TRIPLES_WITH_A_LETTER}
use Rattle.ba_format.specs.declared.lines.TheConstants.{TOKEN_LIMIT}
use Rattle.ba_format.specs.declared.parts.Limits.{Limits}
use Rattle.auto_ops.specs.declared.limits.TheConstants.{MOST_STATES, MOST_TRANSITIONS, MOST_LABELS}
use Rattle.equal_batch.specs.declared.questions.TheConstants.{MOST_LINES}
use Rattle.rabit_frame.specs.declared.parts.TheConstants.{MOST_AUTOMATON_BYTES, MOST_CERTIFICATE_BYTES, MOST_LIST_BYTES}
use Rattle.rabit_words.specs.declared.parts.TheConstants.{USUAL_LOOK, USUAL_LIMIT, USUAL_LETTERS}
use Rattle.rabit_frame.specs.declared.files.TheConstants.{FIRST_LIMITS, SECOND_LIMITS}

-- The most states, labels and transitions of a file or a result, each by itself.
abbrev pub limits_of : ℕ → ℕ → ℕ → Limits
limits_of states labels transitions =
    record { states = states; labels = labels; transitions = transitions }

-- What a first and a second file may have, and a result; the usual lookahead, limit and number of
-- letters; the most bytes of a file (16 MiB of an automaton's, 1 GiB of a certificate's and of a
-- cross relation's, 64 KiB of a list's) the most bytes of a token and the most lines of a list; and
-- the most triples, each with one further letter, of a delayed game with more than one letter.
pub record LimitsInNumbers : Type 0 where
  pub first_file : FIRST_LIMITS ≡ limits_of 2048 256 65536
  pub second_file : SECOND_LIMITS ≡ limits_of 512 256 65536
  pub result : limits_of MOST_STATES MOST_LABELS MOST_TRANSITIONS ≡ limits_of 2048 256 65536
  pub look : USUAL_LOOK ≡ 3
  pub limit : USUAL_LIMIT ≡ 20000
  pub letters : USUAL_LETTERS ≡ 1
  pub automaton_bytes : MOST_AUTOMATON_BYTES ≡ 2 ^ 24
  pub certificate_bytes : MOST_CERTIFICATE_BYTES ≡ 2 ^ 30
  pub list_bytes : MOST_LIST_BYTES ≡ 2 ^ 16
  pub lines : MOST_LINES ≡ 1000
  pub triples : MOST_TRIPLES_WITH_A_LETTER ≡ 4000000
  pub token_bytes : TOKEN_LIMIT ≡ 255
