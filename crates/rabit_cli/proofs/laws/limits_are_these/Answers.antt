use Rattle.std.proofs.Common.{refl}
use Rattle.rabit_cli.proofs.laws.limits_are_these.Goals as goal

pub returns : goal.returns
returns c = record { first_file = refl; second_file = refl; result = refl; look = refl; limit = refl; letters = refl; automaton_bytes = refl; certificate_bytes = refl; list_bytes = refl; lines = refl; triples = refl; token_bytes = refl }
