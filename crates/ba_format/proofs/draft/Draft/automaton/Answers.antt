use Rattle.std.proofs.Common.{◌∙◌, ap, sym, subst, length, List}
use Rattle.std.proofs.lemmas.Result.{IfOk-weaker}
use Rattle.ba_format.specs.Grammar.{LineContent}
use Rattle.ba_format.specs.Draft.{Stands}
use Rattle.ba_format.specs.Reading.{IsAutomatonOf}
use Rattle.auto_core.specs.Build.{IsBuilt}
use Rattle.ba_format.specs.Faults.{names_of, labels_of, transitions_of, accepting_of}
use Rattle.ba_format.proofs.NamedLemmas.{parts_of, initial_zero, opens_some, transitions_given, accepting_given}
use Rattle.ba_format.proofs.draft.Draft.automaton.Goals as goal

pub of_parts-requires : goal.of_parts-requires
of_parts-requires c =
    let draft = c.args.self.now in
    let entries = c.requires.entries in
    let s = c.requires.stands in
    let transitions = transitions_given draft entries s c.as_slice.result.now c.in_ok-transitions.transitions.items c.deref.result.now c.as_slice.ensures.keys c.in_ok-transitions.ensures c.deref.ensures.value in
    let accepting = accepting_given draft entries s c.as_slice-2.result.now c.in_ok-accepting.accepting.items c.deref-2.result.now c.count.result c.as_slice-2.ensures.keys c.count.ensures.count c.in_ok-accepting.ensures c.deref-2.ensures.value in
    let states = c.count-2.ensures.count ∙ ap length s.names in
    let labels = c.count-3.ensures.count ∙ ap length s.labels in
    rw (states, labels, transitions, accepting) (parts_of entries c.requires.some c.requires.few)

pub returns : goal.returns
returns c =
    IfOk-weaker c.of_parts.result (IsBuilt c.count-2.result c.count-3.result 0 c.deref.result.now c.deref-2.result.now)
    (λ auto. (entries : List LineContent) → Stands c.args.self.now entries → IsAutomatonOf entries auto)
    (λ auto built entries s.
    let draft = c.args.self.now in
    let transitions = transitions_given draft entries s c.as_slice.result.now c.in_ok-transitions.transitions.items c.deref.result.now c.as_slice.ensures.keys c.in_ok-transitions.ensures c.deref.ensures.value in
    let accepting = accepting_given draft entries s c.as_slice-2.result.now c.in_ok-accepting.accepting.items c.deref-2.result.now c.count.result c.as_slice-2.ensures.keys c.count.ensures.count c.in_ok-accepting.ensures c.deref-2.ensures.value in
    let states = c.count-2.ensures.count ∙ ap length s.names in
    let labels = c.count-3.ensures.count ∙ ap length s.labels in
    let zero = sym (initial_zero entries (opens_some draft.opening c.requires.entries entries c.requires.stands.opening s.opening c.requires.some)) in
    subst (λ n. IsBuilt (length (names_of entries)) (length (labels_of entries)) n (transitions_of entries) (accepting_of entries) auto) zero
    (rw (states, labels, transitions, accepting) at built))
    c.of_parts.ensures
