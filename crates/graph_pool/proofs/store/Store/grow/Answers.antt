use Rattle.std.proofs.Common.{rules, inr, ◌≡◌, ◌<◌, ◌*◌, ◌∷◌, ◌++◌, ◌^◌, ℕ, List, [], length, replicate, ap, sym, subst, ◌∙◌}
use Rattle.std.proofs.lemmas.List.{length-replicate}
use Rattle.std.proofs.lemmas.List.Elements.{All-replicate}
use Rattle.core.specs.Mem.Slots.{slots_counts, slots_items}
use Rattle.graph_pool.specs.BlockList.{BlockList}
use Rattle.graph_pool.specs.Segments.{Segment, segments_from, even_parts}
use Rattle.graph_pool.specs.Chunks.{IsChunk, IsLaid}
use Rattle.graph_pool.specs.declared.store.Chunk.{Chunk}
use Rattle.graph_pool.specs.declared.store.TheConstants.{CHUNK}
use Rattle.graph_pool.proofs.StoreLemmas.{copied, even_parts_zeros, laid_grown, grown_words, words_of}
use Rattle.graph_pool.proofs.store.Store.grow.Goals as goal

-- What the new chunk is filled with are zeros.
zeros_made : (c : goal.After-push_reserved) → c.fill.new.zeros.items ≡ replicate (CHUNK * c.self.inside.size) 0
zeros_made c = search rules

-- The words of the new chunk are zeros.
words_made : (c : goal.After-push_reserved) → slots_items c.copy_in.new.self ≡ replicate (CHUNK * c.self.inside.size) 0
words_made c =
    let like : c.as_slice-2.result.now ≡ c.fill.new.zeros.items = c.as_slice-2.ensures.value in
    let many : length (slots_items c.in_ok-words.words) ≡ length c.as_slice-2.result.now =
    sym (slots_counts c.in_ok-words.words).0 ∙ c.in_ok-words.ensures.0 ∙ ap (λ (l : List ℕ). length l) (c.as_slice.ensures.value ∙ sym like) in
    copied (slots_items c.in_ok-words.words) c.as_slice-2.result.now (slots_items c.copy_in.new.self) c.copy_in.ensures.items many ∙ like ∙ zeros_made c

-- The segments are the old ones and those of the new chunk.
segments_grown : (c : goal.After-push_reserved)
    → c.take_in-start.new.self.all ≡ c.self.inside.segments.all ++ segments_from c.take_in-start.result.ptr (c.self.inside.size * 8) (replicate CHUNK (replicate c.self.inside.size 0))
segments_grown c =
    let size : ℕ = c.self.inside.size in
    c.take_in-start.ensures.2
    ∙ ap (λ (l : List ℕ). c.self.inside.segments.all ++ segments_from c.take_in-start.result.ptr (size * 8) (even_parts size CHUNK l)) (words_made c)
    ∙ ap (λ (l : List (List ℕ)). c.self.inside.segments.all ++ segments_from c.take_in-start.result.ptr (size * 8) l) (even_parts_zeros size CHUNK)

pub invariant_of-self-2 : goal.invariant_of-self-2
invariant_of-self-2 c =
    let size : ℕ = c.self.inside.size in
    let made = c.in_ok-words.ensures in
    let chunk : Chunk = record { start = c.take_in-start.result; lease = c.in_ok-words.lease } in
    let wss : List (List ℕ) = replicate CHUNK (replicate size 0) in
    let small : CHUNK * size * 8 < 2 ^ 63 = search rules in
    let is : IsChunk c.self.inside.alloc size chunk =
    (c.take_in-start.ensures.1, made.1 ∙ sym c.copy_in.ensures.places.start ∙ sym c.take_in-start.ensures.0, made.2 ∙ made.0 ∙ ap (λ (l : List ℕ). length l) (c.as_slice.ensures.value ∙ zeros_made c) ∙ length-replicate {A = ℕ} (CHUNK * size) 0, made.3, small) in
    let chunks : c.push_reserved.new.self.items ≡ c.self.inside.chunks.items ++ chunk ∷ [] = c.push_reserved.ensures.items ∙ ap (λ (l : List Chunk). l ++ chunk ∷ []) c.reserve.ensures.items in
    record {
      laid =
          subst (λ (l : List Chunk). IsLaid c.self.inside.alloc size l c.take_in-start.new.self.all) (sym chunks)
          (subst (λ (l : List Segment). IsLaid c.self.inside.alloc size (c.self.inside.chunks.items ++ chunk ∷ []) l) (sym (segments_grown c))
          (laid_grown c.self.inside.alloc size c.self.inside.chunks.items c.self.inside.segments.all chunk wss c.self.invariant.laid is (length-replicate CHUNK (replicate {A = ℕ} size 0))
          (All-replicate (λ ws. length ws ≡ size) CHUNK (replicate size 0) (length-replicate {A = ℕ} size 0))));
      zeros = inr (zeros_made c);
    }

pub returns-clause-grown : goal.returns-clause-grown
returns-clause-grown c =
    let size : ℕ = c.self.inside.size in
    ap (λ (l : List Segment). words_of l) (segments_grown c)
    ∙ grown_words c.self.inside.segments.all c.take_in-start.result.ptr (size * 8) (replicate CHUNK (replicate size 0))
    ∙ ap (λ (b : BlockList). b.blocks ++ replicate CHUNK (replicate b.size 0)) c.self.view_is
