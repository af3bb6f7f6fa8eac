use Rattle.std.proofs.lemmas.Result.{IfOk-weaker}
use Rattle.auto_core.specs.Useful.{IsKeptPart}
use Rattle.useful_states.proofs.KeepLaws.{kept_by_members}
use Rattle.log_check.proofs.keeping.keep_listed.Goals as goal

pub returns : goal.returns
returns c =
    let A = c.args.automaton.now in
    let set = c.in_ok-set.set in
    let same = c.in_ok-set.ensures.members in
    IfOk-weaker c.keep.result (IsKeptPart A set.members) (IsKeptPart A c.args.kept.now)
    (λ B kept. kept_by_members A set.members c.args.kept.now (λ q h. (same q).0 h) (λ q h. (same q).1 h) B kept) c.keep.ensures
