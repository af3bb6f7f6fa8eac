use Rattle.std.proofs.Common.{ℕ, ◌<◌, length, slice_index, slice_index_or}
use Rattle.auto_core.specs.Graph.{start_arc, arc_at}
use Rattle.cert_check.specs.Inclusion.{IsOver, element_arcs, extensions_of}
use Rattle.cert_check.specs.Supers.{AreSupers, IsEvidenceOrder}
use Rattle.cert_check.proofs.steps.covers_extensions.Given as goal

abbrev pub invariant-loop-i : goal.invariant-loop-i
invariant-loop-i l =
    ((k : ℕ) → k < l.i →
    IsOver l.mode l.first l.second l.evidence (slice_index l.step.by k) (slice_index_or (extensions_of l.first (arc_at l.first (element_arcs l.first l.evidence.elements) l.step.element)) k (start_arc l.first)))
    × AreSupers l.mode l.first l.second l.evidence.elements (length l.evidence.elements) l.supers
    × IsEvidenceOrder l.second l.evidence l.supers.graphs.graphs.items l.order
