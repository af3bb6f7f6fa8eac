-- A `&` to the segments reaches each word. Assumes `Logic`.
use denote.RawPtr.{RawPtr}
use denote.Param.Shared.{copy_shared}
use denote.Struct.Laws.{field_copy}
use denote.Struct.Lending.{of_Lends}
use Rattle.core.specs.contracts.marker.PhantomData as marker
use Rattle.graph_pool.specs.contracts.segments.Segments as owner
use Rattle.graph_pool.proofs.Sharing.{all_lent_laws, segments_lend}
use Rattle.graph_pool.proofs.segments.Segments.TheLaw.Statement.{statement}

pub shares : statement
shares = of_Lends owner.struct (owner.the_codes (marker.the_row RawPtr).coded) owner.the_heap owner.the_lent
    (λ s p. all_lent_laws s.all) (copy_shared (marker.the_field RawPtr) (field_copy (marker.the_type RawPtr) tt), tt)
    (λ M 𝓤 𝓛 s p. segments_lend 𝓛 owner.the_row.lives (λ a m. m) s.all)
