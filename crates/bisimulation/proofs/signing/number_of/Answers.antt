use Rattle.std.proofs.Common.{ℕ, List, Vec, Global, inl, inr, refl, sym, ◌∙◌, subst}
use Rattle.std.specs.Cmp.Lexicographic.{bytes_decides}
use Rattle.bisimulation.specs.Signatures.{AreDifferent, KeepsNumbers}
use Rattle.bisimulation.proofs.PutLemmas.{put, at_number}
use Rattle.bisimulation.proofs.SignatureLemmas.{same_list, numbers_read, different_pushed, keeps_pushed}
use Rattle.bisimulation.proofs.signing.number_of.Goals as goal

pub returns-clause-different : goal.returns-clause-different
returns-clause-different c =
    let old : List (Vec ℕ Global) = c.args.table.now.keys in
    let v = c.args.list in
    elim (put (λ (x : Vec ℕ Global). x.items) same_list (λ x y e. (bytes_decides x.items y.items).0 e) (λ x y e. (bytes_decides x.items y.items).1 e) old c.insert_full.new.self.keys v c.in_ok-number.ensures.keys) [
      | inl h ↦ subst AreDifferent (sym h.0) c.requires.different
      | inr h ↦
          subst AreDifferent (sym h.0)
          (different_pushed old v c.requires.different (λ i lt same. h.1 i v lt (sym (numbers_read old i v lt) ∙ same)))
    ]

pub returns-clause-keeps : goal.returns-clause-keeps
returns-clause-keeps c =
    let old : List (Vec ℕ Global) = c.args.table.now.keys in
    let v = c.args.list in
    elim (put (λ (x : Vec ℕ Global). x.items) same_list (λ x y e. (bytes_decides x.items y.items).0 e) (λ x y e. (bytes_decides x.items y.items).1 e) old c.insert_full.new.self.keys v c.in_ok-number.ensures.keys) [
      | inl h ↦ subst (KeepsNumbers old) (sym h.0) (λ i lt. (lt, refl))
      | inr h ↦ subst (KeepsNumbers old) (sym h.0) (keeps_pushed old v)
    ]

pub returns-clause-number : goal.returns-clause-number
returns-clause-number c =
    let new : List (Vec ℕ Global) = c.insert_full.new.self.keys in
    let v = c.args.list in
    let n : ℕ = c.in_ok-number.number in
    let within = c.in_ok-number.ensures.within in
    (within, numbers_read new n v within ∙ at_number (λ (x : Vec ℕ Global). x.items) same_list (λ x y e. (bytes_decides x.items y.items).0 e) (λ x y e. (bytes_decides x.items y.items).1 e) new v n c.in_ok-number.ensures.stored v)
