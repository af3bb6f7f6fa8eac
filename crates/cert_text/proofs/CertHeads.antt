-- The headings of certificates are their first lines.
use Rattle.std.proofs.Common.{◌≡◌, ℕ, [], ◌∷◌, ◌++◌, true, Option, Some, None, Ok, Err, refl, sym, ap, ◌∙◌}
use Rattle.std.proofs.lemmas.Bool.{and_from}
use Rattle.auto_core.specs.declared.parts.Mode.{Mode}
use Rattle.auto_core.specs.declared.parts.Mode.TheVariants as mode
use Rattle.cert_value.specs.declared.types.Cert.{Cert}
use Rattle.cert_value.specs.declared.types.Body.{Body}
use Rattle.cert_value.specs.declared.types.Body.TheVariants as body
use Rattle.cert_value.specs.declared.types.Form.{Form}
use Rattle.cert_value.specs.declared.types.Form.TheVariants as form
use Rattle.cert_line.specs.declared.faults.TextKind.{TextKind}
use Rattle.cert_line.specs.declared.faults.TextKind.TheVariants.{Header}
use Rattle.cert_value.specs.Text.{Line, form_of, first_line, sizes_line, body_lines, end_line, cert_lines}
use Rattle.cert_value.specs.WellFormed.{WellFormed, is_version, is_body}
use Rattle.cert_line.specs.Lines.{or_else, heading_said, version_heading_in, heading_in}
use Rattle.cert_line.proofs.OriginFacts.{heading_bw}
use Rattle.cert_text.proofs.HeaderLemmas.{IsHead}

-- A body of each form, and a certificate with it.
abbrev body_for : Mode → Form → Body
body_for m (form.Yes) =
    body.Yes (record { first = []; second = []; order = record { rows = [] }; elements = []; cover = []; steps = [] })
body_for (mode.Buchi) (form.No) = body.NoLasso (record { prefix = []; turn = 0 ∷ [] })
body_for (mode.Finite) (form.No) = body.NoWord []
body_for m (form.List) = body.Listing (record { first = []; second = []; limit = 0; elements = [] })

abbrev small : ℕ → Mode → Form → Cert
small v m a = record { version = v; mode = m; first_states = 0; second_states = 0; labels = 0; body = body_for m a }

body_is : (v : ℕ) (m : Mode) (a : Form) → (is_body v m (body_for m a) ≡ true) × (form_of (body_for m a) ≡ a)
body_is v m (form.Yes) = (refl, refl)
body_is v (mode.Buchi) (form.No) = (refl, refl)
body_is v (mode.Finite) (form.No) = (refl, refl)
body_is v m (form.List) = (refl, refl)

heads_of : (line : Line) (v : ℕ) (m : Mode) (a : Form) → is_version v ≡ true → line ≡ first_line v m a → IsHead WellFormed cert_lines line
heads_of line v m a e same =
    let b = body_is v m a in
    let formed : WellFormed (small v m a) = and_from (is_version v) (is_body v m (body_for m a)) e b.0 in
    let c = small v m a in
    let first : line ≡ first_line v m (form_of c.body) = same ∙ ap (λ x. first_line v m x) (sym b.1) in
    let more = sizes_line 0 0 0 ∷ (body_lines v c.body ++ end_line ∷ []) in
    (c, more, formed, ap (λ l. l ∷ more) (sym first))

pub heads : (line : Line) (h : _) → heading_in line ≡ Ok h → IsHead WellFormed cert_lines line
heads line h e =
    let p = heading_bw line h e in
    heads_of line h.version h.mode h.form p.0 p.1

-- A line that is none of the twelve is refused as a heading.
said_refuses : (o : Option _) (kind : TextKind) → heading_said o ≡ Err kind → kind ≡ Header
said_refuses (Some h) kind e = absurd (cc)
said_refuses None kind e = cc

pub heading_refuses : (line : Line) (kind : TextKind) → heading_in line ≡ Err kind → kind ≡ Header
heading_refuses line kind e = said_refuses (or_else (version_heading_in 1 line) (version_heading_in 2 line)) kind e
