use Rattle.std.proofs.Common.{◌++◌, ℕ, List, Vec, Global, Option, IfSome, length, refl, ap, ◌∙◌, subst}
use Rattle.bisimulation.specs.Rounds.{HasAllOf}
use Rattle.bisimulation.proofs.RegardLemmas.{listed_whole}
use Rattle.bisimulation.proofs.partition.Partition.regard.Goals as goal

pub returns-in_ok-extend-in-Some : goal.returns-in_ok-extend-in-Some
returns-in_ok-extend-in-Some c =
    let s = c.args.self.now in
    let n : ℕ = length s.of.items in
    let class : ℕ = c.args.class in
    let listed : List ℕ = c.args.listed.now.items in
    let has : HasAllOf n s class c.in-Some.found.items = subst (λ (o : Option (Vec ℕ Global)). IfSome o (λ v. HasAllOf n s class v.items)) c.in-Some.is c.in_ok-found.ensures.members in
    listed_whole n s c.members_of.new.self _ class c.in_ok-self-in-Some.field-0 listed c.extend.new.list.items c.in-Some.found.items c.in_ok-found.ensures.lists c.requires.below has refl refl refl refl refl
    (c.in_ok-extend-in-Some.ensures ∙ ap (λ l. listed ++ l) c.deref-in-Some-2.ensures.value)
