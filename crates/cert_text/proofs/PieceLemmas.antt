-- Lemmas on reading a certificate's text in pieces.
use Rattle.std.proofs.Common.{◌≡◌, ℕ, suc, ◌+◌, ◌^◌, ◌≤◌, min, Ok, Err, List, [], ◌∷◌, ◌++◌, length, map, Option, None, Some, MatchOption, refl, sym, ap, ◌∙◌, arith, append-nil, append_assoc, length-append}
use Rattle.std.proofs.lemmas.List.Splits.{slice_split_at, slice_split_none}
use Rattle.std.proofs.Math.Nat.{min-eq_left}
use Rattle.cert_value.specs.Text.{Line}
use Rattle.cert_value.specs.Tokens.{tokens_of}
use Rattle.cert_line.specs.declared.faults.LineFault.{LineFault}
use Rattle.cert_line.specs.declared.faults.LineFault.TheVariants as line_fault
use Rattle.cert_text.specs.declared.machine.State.{State}
use Rattle.cert_text.specs.declared.machine.State.TheVariants as state
use Rattle.cert_text.specs.declared.pieces.Lines.{Lines}
use Rattle.cert_line.specs.Agrees.{Agrees}
use Rattle.ba_format.specs.Cut.{is_newline, IsUnfinished, IsLineCut}
use Rattle.ba_format.proofs.CutLemmas.{none_in}
use Rattle.cert_text.specs.Grammar.{lines_of, read_lines, reading, told_at, after}
use Rattle.cert_text.specs.Told.{located}
use Rattle.cert_text.specs.Machine.{step, at_end}
use Rattle.cert_text.specs.Pieces.{LeadsByLines, AreCertLinesTaken, TellsFirstCertFault}
use Rattle.cert_text.proofs.ResumeState.{resume, state_law}
use Rattle.cert_text.proofs.ReadLemmas.{stops, is_over}

pub cut_lines : (text line rest more : List ℕ) → IsLineCut text line rest → lines_of (text ++ more) ≡ tokens_of line ∷ lines_of (rest ++ more)
cut_lines text line rest more cut =
    ap (λ xs. lines_of (xs ++ more)) cut.1
    ∙ ap lines_of (append_assoc line (10 ∷ rest) more)
    ∙ ap (λ parts. map tokens_of parts) (slice_split_at is_newline line 10 (rest ++ more) (none_in line (omega (arith, cut.0))) refl)

pub one_line : (line : List ℕ) → IsUnfinished line → lines_of line ≡ tokens_of line ∷ []
one_line line none = ap (λ parts. map tokens_of parts) (slice_split_none is_newline line (none_in line (omega (arith, none))))

-- the first line among the lines of the text
pub first_lines : {X : Type 0} (bytes : List ℕ) (line rest : X → List ℕ) (r : Option X)
    → MatchOption r (IsUnfinished bytes) (λ x. IsLineCut bytes (line x) (rest x))
    → MatchOption r (lines_of bytes ≡ tokens_of bytes ∷ []) (λ x. lines_of bytes ≡ tokens_of (line x) ∷ lines_of (rest x))
first_lines bytes line rest None none = one_line bytes none
first_lines bytes line rest (Some x) cut =
    ap lines_of (sym (append-nil bytes)) ∙ cut_lines bytes (line x) (rest x) [] cut ∙ ap (λ r. tokens_of (line x) ∷ lines_of r) (append-nil (rest x))

-- ---- lines that lead on

LeadsByLines-on : (s t u : State) (lines : List Line) (line : Line) → LeadsByLines s lines t → step t line ≡ Ok u → LeadsByLines s (lines ++ line ∷ []) u
LeadsByLines-on s t u [] line same e = (u, ap (λ z. step z line) same ∙ e, refl)
LeadsByLines-on s t u (l ∷ ls) line (next, first, later) e = (next, first, LeadsByLines-on next t u ls line later e)

-- the reading goes on from the state that the lines lead to
resumes : (s t : State) (lines : List Line) (line : Line) (rest : List Line) → LeadsByLines s lines t → resume s (lines ++ line ∷ rest) ≡ resume t (line ∷ rest)
resumes s t [] line rest same = ap (λ z. resume z (line ∷ rest)) same
resumes s t (l ∷ []) line rest (next, first, same) =
    state_law s l line rest ∙ ap (λ r. after r resume (l ∷ line ∷ rest) (line ∷ rest)) first ∙ ap (λ z. resume z (line ∷ rest)) same
resumes s t (l ∷ m ∷ ms) line rest (next, first, later) =
    state_law s l m (ms ++ line ∷ rest) ∙ ap (λ r. after r resume (l ∷ m ∷ (ms ++ line ∷ rest)) (m ∷ (ms ++ line ∷ rest))) first
    ∙ resumes next t (m ∷ ms) line rest later

-- ---- lines taken

-- before any line
pub taken_none : (lines : Lines) → lines.state ≡ state.Heading → lines.number ≡ 1 → AreCertLinesTaken lines [] []
taken_none lines heading one = record { said = []; leads = sym heading; whole = λ more. refl; number = one; few = omega arith }

-- the next piece follows
pub taken_then : (lines : Lines) (text rest piece : List ℕ) → AreCertLinesTaken lines text rest → AreCertLinesTaken lines (text ++ piece) (rest ++ piece)
taken_then lines text rest piece u = record {
  said = u.said;
  leads = u.leads;
  whole = λ more.
      ap lines_of (append_assoc text piece more) ∙ u.whole (piece ++ more) ∙ ap (λ xs. u.said ++ lines_of xs) (sym (append_assoc rest piece more));
  number = u.number;
  few = omega (arith, u.few, length-append text piece, length-append rest piece);
}

-- the line that comes next
module _ (lines : Lines) (text rest : List ℕ) (u : AreCertLinesTaken lines text rest) (line left : List ℕ) (cut : IsLineCut rest line left) where
  whole_line : (more : List ℕ) → lines_of (text ++ more) ≡ u.said ++ tokens_of line ∷ lines_of (left ++ more)
  whole_line more = u.whole more ∙ ap (λ ls. u.said ++ ls) (cut_lines rest line left more cut)

  shorter : length rest ≡ length line + suc (length left)
  shorter = ap length cut.1 ∙ length-append line (10 ∷ left)

  -- the count of lines never comes to its end
  pub one_more : length text ≤ 2 ^ 30 → min (lines.number + 1) 4294967295 ≡ lines.number + 1
  one_more short = min-eq_left (omega (arith, u.few, u.number, short))

  pub taken_line : (new : Lines) → step lines.state (tokens_of line) ≡ Ok new.state → new.number ≡ lines.number + 1 → AreCertLinesTaken new text left
  taken_line new takes count = record {
    said = u.said ++ tokens_of line ∷ [];
    leads = LeadsByLines-on state.Heading lines.state new.state u.said (tokens_of line) u.leads takes;
    whole = λ more. whole_line more ∙ sym (append_assoc u.said (tokens_of line ∷ []) (lines_of (left ++ more)));
    number = omega (arith, count, u.number, length-append u.said (tokens_of line ∷ []));
    few = omega (arith, u.few, shorter, length-append u.said (tokens_of line ∷ []));
  }

  pub taken_fault : (fault : LineFault) → Agrees (step lines.state (tokens_of line)) (Err fault) → TellsFirstCertFault text (located lines.number fault)
  taken_fault (line_fault.Memory) a = tt
  taken_fault (line_fault.Text kind) a = λ more.
      let same = sym (resumes state.Heading lines.state u.said (tokens_of line) (lines_of (left ++ more)) u.leads) ∙ ap read_lines (sym (whole_line more)) in
      stops (text ++ more) lines.state (tokens_of line) (left ++ more) lines.number (line_fault.Text kind) same
      (let all = ap length (whole_line more) in omega (arith, all, u.number, length-append u.said (tokens_of line ∷ lines_of (left ++ more)))) a

-- the bytes are over
pub taken_over : (lines : Lines) (text line : List ℕ) → AreCertLinesTaken lines text line → IsUnfinished line → reading text ≡ told_at lines.number (at_end lines.state (tokens_of line))
taken_over lines text line u none =
    let last = one_line line none in
    let all : lines_of text ≡ u.said ++ lines_of line =
    ap lines_of (sym (append-nil text)) ∙ u.whole [] ∙ ap (λ xs. u.said ++ lines_of xs) (append-nil line) in
    is_over text lines.state line lines.number last
    (ap (resume lines.state) last ∙ sym (resumes state.Heading lines.state u.said (tokens_of line) [] u.leads) ∙ ap read_lines (sym (all ∙ ap (λ ls. u.said ++ ls) last)))
    (let long = ap length all in omega (arith, long, u.number, length-append u.said (lines_of line)))
