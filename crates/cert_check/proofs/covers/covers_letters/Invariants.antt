use Rattle.std.proofs.Common.{ℕ, ◌<◌, length, slice_index, slice_index_or}
use Rattle.auto_core.specs.Graph.{start_arc}
use Rattle.auto_core.specs.declared.parts.Mode.TheVariants.{Buchi}
use Rattle.cert_check.specs.Inclusion.{IsOver, starts_of}
use Rattle.cert_check.specs.Supers.{AreSupers, IsEvidenceOrder}
use Rattle.cert_check.proofs.covers.covers_letters.Given as goal

abbrev pub invariant-loop-t : goal.invariant-loop-t
invariant-loop-t l =
    ((i : ℕ) → i < l.t → IsOver Buchi l.first l.second l.evidence (slice_index l.evidence.cover i) (slice_index_or (starts_of l.first) i (start_arc l.first)))
    × AreSupers Buchi l.first l.second l.evidence.elements (length l.evidence.elements) l.supers
    × IsEvidenceOrder l.second l.evidence l.supers.graphs.graphs.items l.order
