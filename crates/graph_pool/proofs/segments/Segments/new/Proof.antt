-- No segments: a value without bytes, which owns nothing. Assumes `Logic`.
use mathlib.Core.Path.{refl}
use mathlib.Core.List.{[], ◌∷◌}
use base.Fml.{ftrue}
use types.Kit.{‵, raw, ◌$◌, ◌∵◌, !, qed, keep, use0, fjoin, suffices, done}
use types.Run.{and_then, no_more, enter, returns}
use types.Part.{agg}
use types.ByLocal.{alloc_all, pass_all, free_all, look_at, get, sets}
use denote.Steps.{nothing}
use denote.Triple.Entry.{on_entry}
use denote.Triple.Walked.{says, Stays, ends_at}
use Rattle.std.proofs.raw_atomic.Walks.{proved_at}
use Rattle.graph_pool.specs.contracts.segments.Segments.new as f
use Rattle.graph_pool.proofs.Fields.{Blank, blank, blank_made}
use Rattle.graph_pool.proofs.segments.Segments.new.Statement.{statement}
use Rattle.graph_pool.proofs.segments.Segments.new.Code as code

abbrev stayed : Stays f.ended.signature.params f.ended.kept
stayed = tt

pub new_spec : {M : Type 1} → statement M
new_spec 𝓤 𝓛 𝓜 𝓡 wired =
    let c = f.clauses 𝓛 𝓜.mem 𝓡.returns in
    proved_at 𝓛 f.ended stayed c 𝓜 𝓡 tt f.Key.name code.function (code.unfolded 𝓤 𝓛.H 𝓜 𝓡 wired) (λ y are.
    qed 𝓛 (raw (on_entry 𝓛 f.signature y.0.0 y.0.1 y.0.3 y.0.4) ∷ ‵ ftrue ∷ []) ∵ keep ! [] $ enter ! _ _ _ _ _ $ alloc_all ! (λ l. pass_all ! refl tt $
    sets ! (agg ! (no_more !)) refl (tt, tt) $ sets ! (agg ! (and_then ! (get ! refl) (no_more !))) refl (tt, (tt, tt)) $
    returns ! (look_at ! 0 refl) $ free_all ! refl $
    suffices ! _ (ends_at 𝓛 f.ended stayed c y blank (record { mark = record {}; all = [] }) tt tt) $ says ! refl $
    nothing ! $ use0 𝓛 (‵ (Blank.own_val (tt, tt) (blank ∷ []))) (blank_made 𝓛) $ fjoin ! $ nothing ! $ nothing ! $ done !))
