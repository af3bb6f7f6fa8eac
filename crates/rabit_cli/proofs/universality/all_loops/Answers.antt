use Rattle.std.proofs.Common.{◌≡◌, [], ◌∷◌, sym, ◌∙◌, subst}
use Rattle.auto_core.specs.Automaton.{Automaton}
use Rattle.auto_core.specs.Build.{IsBuilt}
use Rattle.auto_core.specs.Parts.{AreParts}
use Rattle.ba_format.proofs.LawLemmas.{built_once}
use Rattle.rabit_cli.specs.Universal.{loops, all_loops}
use Rattle.rabit_cli.proofs.PairLemmas.{ok_gives}
use Rattle.rabit_cli.proofs.UniversalLemmas.{loops_parts, loops_built}
use Rattle.rabit_cli.proofs.universality.all_loops.Goals as goal

pub of_parts-requires : goal.of_parts-requires
of_parts-requires c = subst (λ ts. AreParts 1 c.args.labels 0 ts (0 ∷ [])) (sym (c.as_slice.ensures ∙ c.in_ok-transitions.ensures)) (loops_parts c.args.labels c.requires)

pub returns : goal.returns
returns c =
    let n = c.args.labels in
    let given : c.as_slice.result.now ≡ loops n = c.as_slice.ensures ∙ c.in_ok-transitions.ensures in
    ok_gives (IsBuilt 1 n 0 c.as_slice.result.now (0 ∷ [])) (λ (A : Automaton). A ≡ all_loops n) c.of_parts.result
    (λ A built. built_once 1 n 0 (loops n) (0 ∷ []) A (all_loops n) (subst (λ ts. IsBuilt 1 n 0 ts (0 ∷ []) A) given built) (loops_built n c.requires)) c.of_parts.ensures
