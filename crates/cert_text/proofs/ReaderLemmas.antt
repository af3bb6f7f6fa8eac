-- Where a reader of lines stops, and that this depends on no line after that one.
use Rattle.std.proofs.Common.{◌≡◌, ◌≢◌, ℕ, zero, suc, ◌<◌, ◌≤◌, ◌+◌, List, [], ◌∷◌, ◌++◌, length, take, Bool, true, false, cond, Ok, Err, refl, sym, ap, ◌∙◌, subst, arith}
use Rattle.std.proofs.lemmas.Bool.{false≢true}
use Rattle.std.proofs.lemmas.List.{length-append}
use Rattle.cert_line.specs.declared.faults.TextKind.{TextKind}
use Rattle.cert_line.specs.declared.faults.TextKind.TheVariants.{Header, Number, Shape, Order, Truncated, Trailing}
use Rattle.cert_value.specs.Text.{Line}
use Rattle.cert_line.specs.Lines.{Said}
use Rattle.cert_text.specs.Grammar.{LinesOutcome, On, Read, Stopped, after, next_line, is_bare, finish}

-- What a line can be refused for; the heading is a first line's alone.
abbrev pub IsLineKind : Bool → TextKind → Type 0
IsLineKind head Header = head ≡ true
IsLineKind head Number = Unit {0}
IsLineKind head Shape = Unit {0}
IsLineKind head Order = Unit {0}
IsLineKind head Truncated = ⊥
IsLineKind head Trailing = ⊥

-- What is said of a line is refused for such a kind alone.
abbrev pub SaysOwn : {A : Type 0} → Bool → Said A → Type 0
SaysOwn head said = (kind : TextKind) → said ≡ Err kind → IsLineKind head kind

-- The same for each line.
abbrev pub TellsOwn : {A : Type 0} → Bool → (Line → Said A) → Type 0
TellsOwn head said = (line : Line) → SaysOwn head (said line)

-- The piece after the last LF, where nothing follows that LF.
abbrev pub bare : List Line
bare = ([] ∷ []) ∷ []

-- How a reader stops at the first of the lines `rest`.
pub record StopsSo {C : Type 0} (head : Bool) (f : List Line → LinesOutcome C) (lines : List Line) (kind : TextKind) (rest : List Line) : Type 0 where
  pub front : List Line
  pub cut : lines ≡ front ++ rest
  pub some : 1 ≤ length rest
  pub within : length rest ≤ length lines
  pub before_last : kind ≢ Truncated → kind ≢ Trailing → 2 ≤ length rest
  pub header : kind ≡ Header → (head ≡ true) × (length rest ≡ length lines)
  pub truncated : kind ≡ Truncated → length rest ≡ 1
  pub trailing : kind ≡ Trailing → (c : C) × (f (front ++ bare) ≡ Read c)
  pub alike : (n : ℕ) (others : List Line)
      → take n lines ≡ take n others → n < length lines → n < length others → length lines + 1 ≤ n + length rest
      → (left : List Line) × (f others ≡ Stopped kind left) × (length left + length lines ≡ length rest + length others)

-- A reader stops so wherever it stops.
pub record Reader {C : Type 0} (head : Bool) (f : List Line → LinesOutcome C) : Type 0 where
  pub stops : (lines : List Line) (kind : TextKind) (rest : List Line) → 1 ≤ length lines → f lines ≡ Stopped kind rest → StopsSo head f lines kind rest

-- After the last line.
trails : {C : Type 0} (c : C) (lines : List Line) (kind : TextKind) (rest : List Line) → 1 ≤ length lines → Trailing ≡ kind → lines ≡ rest
    → ((n : ℕ) (others : List Line) → 1 ≤ n → n < length lines → n < length others → finish c others ≡ Stopped Trailing others)
    → StopsSo false (finish c) lines kind rest
trails c lines kind rest some of is stops =
    let len : length lines ≡ length rest = ap length is in
    record {
      front = [];
      cut = is;
      some = omega (arith, len, some);
      within = omega (arith, len);
      before_last = λ not other. absurd (other (sym of));
      header = λ h. absurd (cc);
      truncated = λ h. absurd (cc);
      trailing = λ h. (c, refl);
      alike = λ n others same near far stop.
          (others, stops n others (omega (arith, len, stop)) near far ∙ ap (λ k. Stopped k others) of, omega (arith, len));
    }

finish_cond : {C : Type 0} (b : Bool) (c : C) (piece : Line) (kind : TextKind) (rest : List Line)
    → cond b (Read c) (Stopped Trailing (piece ∷ [])) ≡ Stopped kind rest → StopsSo false (finish c) (piece ∷ []) kind rest
finish_cond true c piece kind rest e = absurd (cc)
finish_cond false c piece kind rest e =
    trails c (piece ∷ []) kind rest (omega arith) (cc) (cc) (λ n others one near far. absurd (omega (arith, one, near)))

two_trail : {C : Type 0} (c : C) (n : ℕ) (others : List Line) → 1 ≤ n → n < length others → finish c others ≡ Stopped Trailing others
two_trail c n [] one far = absurd (omega arith)
two_trail c n (piece ∷ []) one far = absurd (omega arith)
two_trail c n (line ∷ other ∷ rest) one far = refl

finish_stops : {C : Type 0} (c : C) (lines : List Line) (kind : TextKind) (rest : List Line)
    → 1 ≤ length lines → finish c lines ≡ Stopped kind rest → StopsSo false (finish c) lines kind rest
finish_stops c [] kind rest some e = absurd (omega arith)
finish_stops c (piece ∷ []) kind rest some e = finish_cond (is_bare piece) c piece kind rest e
finish_stops c (line ∷ other ∷ more) kind rest some e =
    trails c (line ∷ other ∷ more) kind rest (omega arith) (cc) (cc) (λ n others one near far. two_trail c n others one far)

pub finish_reads : {C : Type 0} (c : C) → Reader false (finish c)
finish_reads c = record { stops = finish_stops c }

-- One line.
on_line : {C A : Type 0} (said : Line → Said A) (next : On C A) (line : Line) (lines : List Line)
    → 1 ≤ length lines → next_line said next (line ∷ lines) ≡ after (said line) next (line ∷ lines) lines
on_line said next line [] some = absurd (omega arith)
on_line said next line (other ∷ rest) some = refl

-- the same line is refused before any others
refused_alike : {C A : Type 0} (said : Line → Said A) (next : On C A) (line : Line) (more : List Line) (kind : TextKind)
    → said line ≡ Err kind
    → (n : ℕ) (others : List Line) → take n (line ∷ more) ≡ take n others → 1 ≤ n → n < length others
    → next_line said next others ≡ Stopped kind others
refused_alike said next line more kind told zero others same one far = absurd (omega arith)
refused_alike said next line more kind told (suc n) [] same one far = absurd (omega arith)
refused_alike said next line more kind told (suc n) (b ∷ bs) same one far =
    let first : b ≡ line = cc in
    on_line said next b bs (omega arith)
    ∙ ap (λ x. after (said x) next (b ∷ bs) bs) first
    ∙ ap (λ s. after s next (b ∷ bs) bs) told

-- a line that is read is read before any others
read_alike : {C A : Type 0} (said : Line → Said A) (next : On C A) (line : Line) (more : List Line) (a : A) (kind : TextKind) (rest : List Line)
    → said line ≡ Ok a
    → StopsSo false (next a) more kind rest
    → (n : ℕ) (others : List Line)
    → take n (line ∷ more) ≡ take n others → n < length (line ∷ more) → n < length others → length (line ∷ more) + 1 ≤ n + length rest
    → (left : List Line) × (next_line said next others ≡ Stopped kind left) × (length left + length (line ∷ more) ≡ length rest + length others)
read_alike said next line more a kind rest told t zero others same near far stop =
    let within = t.within in
    absurd (omega (arith, within))
read_alike said next line more a kind rest told t (suc n) [] same near far stop = absurd (omega arith)
read_alike said next line more a kind rest told t (suc n) (b ∷ bs) same near far stop =
    let first : b ≡ line = cc in
    let behind : take n more ≡ take n bs = cc in
    let (left, e, len) = t.alike n bs behind (omega arith) (omega arith) (omega arith) in (
      left,
      on_line said next b bs (omega arith)
          ∙ ap (λ x. after (said x) next (b ∷ bs) bs) first
          ∙ ap (λ s. after s next (b ∷ bs) bs) told
          ∙ e,
      omega (arith, len),
    )

refused : {C A : Type 0} (head : Bool) (said : Line → Said A) (next : On C A) (line : Line) (more : List Line) (kind : TextKind) (rest : List Line)
    → IsLineKind head kind → said line ≡ Err kind → 1 ≤ length more → line ∷ more ≡ rest
    → StopsSo head (next_line said next) (line ∷ more) kind rest
refused head said next line more kind rest own told some is =
    let len : length (line ∷ more) ≡ length rest = ap length is in
    record {
      front = [];
      cut = is;
      some = omega (arith, len);
      within = omega (arith, len);
      before_last = λ _ _. omega (arith, len, some);
      header = λ h. (subst (IsLineKind head) h own, sym len);
      truncated = λ h. absurd (subst (IsLineKind head) h own);
      trailing = λ h. absurd (subst (IsLineKind head) h own);
      alike = λ n others same near far stop.
          (others, refused_alike said next line more kind told n others same (omega (arith, len, stop)) far, omega (arith, len));
    }

bare_after : (front : List Line) → 1 ≤ length (front ++ bare)
bare_after front = let len = length-append front bare in omega (arith, len)

read : {C A : Type 0} (head : Bool) (said : Line → Said A) (next : On C A) (line : Line) (more : List Line) (a : A) (kind : TextKind) (rest : List Line)
    → said line ≡ Ok a → StopsSo false (next a) more kind rest
    → StopsSo head (next_line said next) (line ∷ more) kind rest
read head said next line more a kind rest told t =
    let within = t.within in
    record {
      front = line ∷ t.front;
      cut = ap (λ ls. line ∷ ls) t.cut;
      some = t.some;
      within = omega (arith, within);
      before_last = t.before_last;
      header = λ h. absurd (false≢true (t.header h).0);
      truncated = t.truncated;
      trailing = λ h.
          let (c, e) = t.trailing h in
          (c, on_line said next line (t.front ++ bare) (bare_after t.front) ∙ ap (λ s. after s next (line ∷ (t.front ++ bare)) (t.front ++ bare)) told ∙ e);
      alike = read_alike said next line more a kind rest told t;
    }

at_line : {C A : Type 0} (head : Bool) (said : Line → Said A) (next : On C A) (line other : Line) (more : List Line) (kind : TextKind) (rest : List Line) (s : Said A)
    → SaysOwn head (said line) → ((a : A) → said line ≡ Ok a → Reader false (next a)) → said line ≡ s
    → after s next (line ∷ other ∷ more) (other ∷ more) ≡ Stopped kind rest
    → StopsSo head (next_line said next) (line ∷ other ∷ more) kind rest
at_line head said next line other more kind rest (Ok a) own all told e =
    read head said next line (other ∷ more) a kind rest told ((all a told).stops (other ∷ more) kind rest (omega arith) e)
at_line head said next line other more kind rest (Err fault) own all told e =
    let of : fault ≡ kind = cc in
    let here : said line ≡ Err kind = told ∙ ap (λ k. Err k) of in
    refused head said next line (other ∷ more) kind rest (own kind here) here (omega arith) (cc)

ends_early : {C A : Type 0} (head : Bool) (said : Line → Said A) (next : On C A) (piece : Line) (kind : TextKind) (rest : List Line)
    → ◌≡◌ {A = LinesOutcome C} (Stopped Truncated (piece ∷ [])) (Stopped kind rest) → StopsSo head (next_line said next) (piece ∷ []) kind rest
ends_early head said next piece kind rest e =
    let is : piece ∷ [] ≡ rest = cc in
    let of : Truncated ≡ kind = cc in
    let len : 1 ≡ length rest = ap length is in
    record {
      front = [];
      cut = is;
      some = omega (arith, len);
      within = omega (arith, len);
      before_last = λ not other. absurd (not (sym of));
      header = λ h. absurd (cc);
      truncated = λ h. sym len;
      trailing = λ h. absurd (cc);
      alike = λ n others same near far stop. absurd (omega (arith, len, near, stop));
    }

module _ {C A : Type 0} (head : Bool) (said : Line → Said A) (next : On C A)
    (own : TellsOwn head said) (all : (line : Line) (a : A) → said line ≡ Ok a → Reader false (next a)) where
  line_stops : (lines : List Line) (kind : TextKind) (rest : List Line)
      → 1 ≤ length lines → next_line said next lines ≡ Stopped kind rest → StopsSo head (next_line said next) lines kind rest
  line_stops [] kind rest some e = absurd (omega arith)
  line_stops (piece ∷ []) kind rest some e = ends_early head said next piece kind rest e
  line_stops (line ∷ other ∷ more) kind rest some e =
      at_line head said next line other more kind rest (said line) (own line) (all line) refl e

-- A reader of one line, which goes on with what the line says.
pub line_reads : {C A : Type 0} (head : Bool) (said : Line → Said A) (next : On C A)
    → TellsOwn head said → ((line : Line) (a : A) → said line ≡ Ok a → Reader false (next a)) → Reader head (next_line said next)
line_reads head said next own all = record { stops = line_stops head said next own all }
