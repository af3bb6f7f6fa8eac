use Rattle.std.proofs.Common.{◌≡◌, ◌++◌, ◌<◌, ◌⊎◌, inl, inr, ℕ, List, Vec, Global, length, Contains, refl, sym, ap, ◌∙◌, subst, arith}
use Rattle.std.proofs.lemmas.List.{set-set, get_or-set_same}
use Rattle.auto_core.specs.Quotient.{class_of}
use Rattle.evidence.specs.Tables.{numbers_at}
use Rattle.evidence.proofs.TableLemmas.{numbers_is}
use Rattle.bisimulation.specs.Rounds.{AreBelow}
use Rattle.bisimulation.proofs.RegardLemmas.{relisted}
use Rattle.bisimulation.proofs.partition.Partition.members_of.Goals as goal

pub gather-requires : goal.gather-requires
gather-requires c =
    let s = c.args.self.now in
    let class : ℕ = c.args.class in
    let lt : class < length s.members.items = omega (arith, c.requires.class, c.requires.laid.members) in
    subst (λ (l : List ℕ). AreBelow (length l) c.index_mut.result.now.items) (sym c.deref.ensures.value)
    (subst (AreBelow (length s.of.items)) (numbers_is s.members.items class c.index_mut.result.now lt c.index_mut.ensures.value) (c.requires.laid.below class))

pub returns-then-len-limit-clause-lists : goal.returns-then-len-limit-clause-lists
returns-then-len-limit-clause-lists c =
    let s = c.args.self.now in
    let n : ℕ = length s.of.items in
    let class : ℕ = c.args.class in
    let table : List (Vec ℕ Global) = s.members.items in
    let lt : class < length table = omega (arith, c.requires.class, c.requires.laid.members) in
    let here : numbers_at table class ≡ c.index_mut.result.now.items = numbers_is table class c.index_mut.result.now lt c.index_mut.ensures.value in
    let left : List ℕ = c.gather.new.list.items in
    let found : List ℕ = c.in_ok-found.found.items in
    let e = c.in_ok-found.ensures in
    let again : c.index_mut-2.result.now ≡ c.gather.new.list = c.index_mut-2.ensures.value ∙ get_or-set_same table class c.gather.new.list c.index_mut-2.result.now lt in
    let list : c.extend.new.list.items ≡ left ++ found =
    c.in_ok-extend.ensures ∙ ap (λ (v : Vec ℕ Global). v.items ++ c.deref-2.result.now) again ∙ ap (λ l. left ++ l) c.deref-2.ensures.value in
    let all : (p : ℕ) → Contains (numbers_at table class) p → class_of s.of.items p ≡ class → Contains left p ⊎ Contains found p = λ p h is.
    e.all p (subst (λ l. Contains l p) here h) (ap (λ l. class_of l p) c.deref.ensures.value ∙ is) in
    relisted n s _ class c.extend.new.list left found c.requires.laid c.requires.class refl refl refl refl (set-set table class c.gather.new.list c.extend.new.list) list
    (subst (λ (l : List ℕ). AreBelow (length l) left) c.deref.ensures.value e.left)
    (subst (λ (l : List ℕ). AreBelow (length l) found) c.deref.ensures.value e.found)
    all

pub returns-clause-lists : goal.returns-clause-lists
returns-clause-lists c =
    let s = c.args.self.now in
    let n : ℕ = length s.of.items in
    let class : ℕ = c.args.class in
    let table : List (Vec ℕ Global) = s.members.items in
    let lt : class < length table = omega (arith, c.requires.class, c.requires.laid.members) in
    let here : numbers_at table class ≡ c.index_mut.result.now.items = numbers_is table class c.index_mut.result.now lt c.index_mut.ensures.value in
    let left : List ℕ = c.gather.new.list.items in
    let found : List ℕ = c.in_ok-found.found.items in
    let e = c.in_ok-found.ensures in
    let again : c.index_mut-2.result.now ≡ c.gather.new.list = c.index_mut-2.ensures.value ∙ get_or-set_same table class c.gather.new.list c.index_mut-2.result.now lt in
    let list : c.extend.new.list.items ≡ left ++ found =
    c.in_ok-extend.ensures ∙ ap (λ (v : Vec ℕ Global). v.items ++ c.deref-2.result.now) again ∙ ap (λ l. left ++ l) c.deref-2.ensures.value in
    let all : (p : ℕ) → Contains (numbers_at table class) p → class_of s.of.items p ≡ class → Contains left p ⊎ Contains found p = λ p h is.
    e.all p (subst (λ l. Contains l p) here h) (ap (λ l. class_of l p) c.deref.ensures.value ∙ is) in
    relisted n s _ class c.extend.new.list left found c.requires.laid c.requires.class refl refl refl refl (set-set table class c.gather.new.list c.extend.new.list) list
    (subst (λ (l : List ℕ). AreBelow (length l) left) c.deref.ensures.value e.left)
    (subst (λ (l : List ℕ). AreBelow (length l) found) c.deref.ensures.value e.found)
    all

pub returns-clause-members : goal.returns-clause-members
returns-clause-members c =
    let s = c.args.self.now in
    let class : ℕ = c.args.class in
    let table : List (Vec ℕ Global) = s.members.items in
    let lt : class < length table = omega (arith, c.requires.class, c.requires.laid.members) in
    let here : numbers_at table class ≡ c.index_mut.result.now.items = numbers_is table class c.index_mut.result.now lt c.index_mut.ensures.value in
    let e = c.in_ok-found.ensures in
    let size : c.len.result ≡ length c.in_ok-found.found.items = c.len.ensures ∙ c.in_ok-found.found.ok.0 in
    let none : length c.gather.new.list.items ≡ 0 = e.whole (omega (arith, size, c.if-len-limit.false)) in (
      subst (λ (l : List ℕ). AreBelow (length l) c.in_ok-found.found.items) c.deref.ensures.value e.found,
      λ p p_in is. elim (e.all p (subst (λ l. Contains l p) here (subst (λ (x : ℕ). Contains (numbers_at table x) p) is (c.requires.laid.listed p p_in))) (ap (λ l. class_of l p) c.deref.ensures.value ∙ is)) [
        | inl h ↦ let (k, k_in, at) = h in absurd (omega (arith, none))
        | inr h ↦ h
      ],
    )
