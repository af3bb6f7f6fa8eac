-- The text of a cross relation is read as it, and nothing else is.
use Rattle.std.proofs.Common.{◌≡◌, ℕ, List, [], ◌∷◌, ◌++◌, Bool, true, false, cond, decimal, Option, is_none, Ok, Err, refl, sym, ap, subst, ◌∙◌, append_assoc, append-nil}
use Rattle.std.proofs.lemmas.Bool.{and_parts, and_from}
use Rattle.cert_value.specs.declared.keywords.Keyword.TheVariants as keyword
use Rattle.cert_value.specs.declared.types.RelBlock.{RelBlock}
use Rattle.cert_value.specs.Text.{Line, sizes_line, block_lines, end_line, text_of, line_text}
use Rattle.cert_value.specs.WellFormed.{is_short, has_some}
use Rattle.cert_line.specs.declared.shapes.Tail.TheVariants as tail
use Rattle.cert_line.specs.declared.faults.TextKind.{TextKind}
use Rattle.cert_line.specs.declared.faults.TextKind.TheVariants as kind
use Rattle.cert_line.specs.declared.lines.Sizes.{Sizes}
use Rattle.cert_line.specs.Shapes.{line_fault}
use Rattle.cert_line.specs.Lines.{Said, word_in, number_in, sizes_in}
use Rattle.cert_text.specs.Grammar.{On, Read, read_end, finish, lines_of}
use Rattle.cert_value.proofs.TextLemmas.{text_append}
use Rattle.cert_line.proofs.PairLemmas.{some_cons}
use Rattle.cert_text.proofs.BytesLines.{PlainLines, lines_text, text_back}
use Rattle.cert_text.proofs.PlainCert.{word_line, number_then, one_number, two_words, plain_append, plain_block}
use Rattle.cert_line.proofs.ShapeFacts.{line_none, line_back, closed_none}
use Rattle.cert_line.proofs.OriginFacts.{none_from}
use Rattle.cert_line.proofs.LineFacts.{word_fw, word_bw, number_fw, number_bw, sizes_fw, sizes_bw}
use Rattle.cert_text.proofs.Forward.{line_fw, some_append, block_fw}
use Rattle.cert_text.proofs.Backward.{line_bw, block_bw, finish_bw}
use Rattle.cert_text.proofs.Reading.{read_by, told_inv}
use Rattle.cert_text.proofs.Theorem.{some_lines}
use Rattle.cert_text.specs.declared.cross.Cross.{Cross}
use Rattle.cert_text.specs.CrossText.{block_of, has_cross_text, heading_line, look_line, cross_lines, cross_text}
use Rattle.cert_text.specs.CrossGrammar.{cross_heading_places, cross_heading_in, cross_of_parts, read_relation, read_look, read_cross_sizes, read_cross, cross_reading}
use Rattle.cert_text.specs.CrossLaw.{OneCrossText}

-- All lines of a cross relation are plain.
pub plain_cross : (c : Cross) → PlainLines (cross_lines c)
plain_cross c = (
  two_words keyword.RabitCross keyword.One [] refl,
  (
    word_line keyword.Sizes (decimal c.first_states ∷ decimal c.second_states ∷ decimal c.labels ∷ [])
        (number_then c.first_states (decimal c.second_states ∷ decimal c.labels ∷ [])
        (number_then c.second_states (decimal c.labels ∷ []) (number_then c.labels [] refl))),
    (
      one_number keyword.Look c.look,
      plain_append (block_lines 1 (block_of c)) (end_line ∷ []) (plain_block 1 (block_of c)) (word_line keyword.End [] refl, tt),
    ),
  ),
)

-- The first line.
abbrev heading_if : Bool → Said (Unit {0})
heading_if b = cond b (Ok tt) (Err kind.Header)

heading_fw : cross_heading_in heading_line ≡ Ok tt
heading_fw =
    let f : Option TextKind → Said (Unit {0}) = λ o. heading_if (is_none o) in
    ap f (line_none cross_heading_places [] [] tail.Nothing tt refl refl)

heading_if_ok : (b : Bool) (u : Unit {0}) → heading_if b ≡ Ok u → b ≡ true
heading_if_ok true u e = refl
heading_if_ok false u e = absurd (cc)

heading_bw : (ts : Line) (u : Unit {0}) → cross_heading_in ts ≡ Ok u → ts ≡ heading_line
heading_bw ts u e =
    let o = line_fault cross_heading_places tail.Nothing ts in
    closed_none cross_heading_places ts (line_back cross_heading_places tail.Nothing ts (none_from o (heading_if_ok (is_none o) u e)))

-- The lines of a cross relation are read as it, whatever follows.
cross_fw : (c : Cross) (rest : List Line) → has_cross_text c ≡ true → has_some rest ≡ true → read_cross (cross_lines c ++ rest) ≡ finish c rest
cross_fw c rest e h =
    let a = and_parts (is_short c.first_states) _ e in
    let b = and_parts (is_short c.second_states) _ a.1 in
    let d = and_parts (is_short c.labels) _ b.1 in
    let k = and_parts (is_short c.look) _ d.1 in
    let sizes : Sizes = record { first_states = c.first_states; second_states = c.second_states; labels = c.labels } in
    let s = sizes_line c.first_states c.second_states c.labels in
    let l = look_line c.look in
    let B = block_lines 1 (block_of c) in
    let the_end = end_line ∷ rest in
    let more = l ∷ ((B ++ end_line ∷ []) ++ rest) in
    let next : On Cross RelBlock = λ block. read_end (cross_of_parts sizes c.look block) in
    line_fw cross_heading_in (λ u. read_cross_sizes) heading_line tt (s ∷ more) heading_fw (some_cons s more)
    ∙ line_fw sizes_in read_look s sizes more (sizes_fw c.first_states c.second_states c.labels a.0 b.0 d.0) (some_cons l ((B ++ end_line ∷ []) ++ rest))
    ∙ ap (λ ls. read_look sizes (l ∷ ls)) (append_assoc B (end_line ∷ []) rest)
    ∙ line_fw (number_in keyword.Look) (read_relation sizes) l c.look (B ++ the_end) (number_fw keyword.Look c.look k.0) (some_append B the_end (some_cons end_line rest))
    ∙ block_fw 1 (block_of c) next the_end k.1 (some_cons end_line rest)
    ∙ line_fw (word_in keyword.End) (λ u. finish c) end_line tt rest (word_fw keyword.End) h

-- Lines that are read as a cross relation are its lines, and it has a text.
cross_bw : (ls : List Line) (c : Cross) → read_cross ls ≡ Read c → (has_cross_text c ≡ true) × (ls ≡ cross_lines c ++ (([] ∷ []) ∷ []))
cross_bw ls c e =
    let bare : List Line = ([] ∷ []) ∷ [] in
    let h = line_bw cross_heading_in (λ u. read_cross_sizes) ls c e in
    let hf = heading_bw h.line h.item h.told in
    let s = line_bw sizes_in read_look h.rest c h.on in
    let sf = sizes_bw s.line s.item s.told in
    let l = line_bw (number_in keyword.Look) (read_relation s.item) s.rest c s.on in
    let lf = number_bw keyword.Look l.line l.item l.told in
    let next : On Cross RelBlock = λ block. read_end (cross_of_parts s.item l.item block) in
    let b = block_bw 1 next l.rest c l.on in
    let own = cross_of_parts s.item l.item b.item in
    let z = line_bw (word_in keyword.End) (λ u. finish own) b.rest c b.on in
    let zf = word_bw keyword.End z.line z.item z.told in
    let f = finish_bw own c z.rest z.on in
    let B = block_lines 1 b.item in
    let last : b.rest ≡ end_line ∷ bare = z.cut ∙ ap (λ x. x ∷ z.rest) zf ∙ ap (λ y. end_line ∷ y) f.1 in
    let after_look : l.rest ≡ (B ++ end_line ∷ []) ++ bare = b.cut ∙ ap (λ y. B ++ y) last ∙ sym (append_assoc B (end_line ∷ []) bare) in
    let sizes = sizes_line s.item.first_states s.item.second_states s.item.labels in
    let P : Cross → Type 0 = λ c. (has_cross_text c ≡ true) × (ls ≡ cross_lines c ++ bare) in
    subst P f.0 (
      and_from (is_short s.item.first_states) _ sf.0
          (and_from (is_short s.item.second_states) _ sf.1
          (and_from (is_short s.item.labels) _ sf.2 (and_from (is_short l.item) _ lf.0 b.fine))),
      h.cut ∙ ap (λ x. x ∷ h.rest) hf
          ∙ ap (λ y. heading_line ∷ y)
          (s.cut ∙ ap (λ x. x ∷ s.rest) sf.3
          ∙ ap (λ y. sizes ∷ y) (l.cut ∙ ap (λ x. x ∷ l.rest) lf.1 ∙ ap (λ y. look_line l.item ∷ y) after_look)),
    )

-- The text of a cross relation and more is read to its end.
pub text_then : (c : Cross) (more : List ℕ) → has_cross_text c ≡ true → read_cross (lines_of (cross_text c ++ more)) ≡ finish c (lines_of more)
text_then c more e = ap read_cross (lines_text (cross_lines c) more (plain_cross c)) ∙ cross_fw c (lines_of more) e (some_lines more)

-- The text of a cross relation is read as it.
pub reading_text : (c : Cross) → has_cross_text c ≡ true → cross_reading (cross_text c) ≡ Ok c
reading_text c e =
    read_by read_cross (cross_text c) c (ap (λ b. read_cross (lines_of b)) (sym (append-nil (cross_text c))) ∙ text_then c [] e)

-- Bytes that are read as a cross relation are its text.
pub reading_back : (bytes : List ℕ) (c : Cross) → cross_reading bytes ≡ Ok c → (has_cross_text c ≡ true) × (bytes ≡ cross_text c)
reading_back bytes c e =
    let p = cross_bw (lines_of bytes) c (told_inv _ (read_cross (lines_of bytes)) c e) in
    (p.0, text_back bytes (cross_lines c) p.1)

-- No text is a front of another's, and no two have one text.
pub one_text : OneCrossText
one_text c d more hc hd e =
    let whole : read_cross (lines_of (cross_text d ++ [])) ≡ Read d = text_then d [] hd in
    let front : finish c (lines_of more) ≡ Read d =
    sym (text_then c more hc) ∙ ap (λ b. read_cross (lines_of b)) (e ∙ sym (append-nil (cross_text d))) ∙ whole in
    let f = finish_bw c d (lines_of more) front in
    (text_back more [] f.1, f.0)

-- The parts of a text that are written one after another.
pub text_parts : (c : Cross)
    → cross_text c
    ≡ line_text heading_line
    ++ (line_text (sizes_line c.first_states c.second_states c.labels) ++ (line_text (look_line c.look) ++ (text_of (block_lines 1 (block_of c)) ++ line_text end_line)))
text_parts c =
    let h = line_text heading_line in
    let s = line_text (sizes_line c.first_states c.second_states c.labels) in
    let l = line_text (look_line c.look) in
    let B = block_lines 1 (block_of c) in
    ap (λ x. h ++ (s ++ (l ++ x))) (text_append B (end_line ∷ []) ∙ ap (λ x. text_of B ++ x) (append-nil (line_text end_line)))
