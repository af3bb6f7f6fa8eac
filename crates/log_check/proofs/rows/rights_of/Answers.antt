use Rattle.std.proofs.Common.{◌≡◌, ◌+◌, ◌++◌, ◌∷◌, [], sym, subst, ◌∙◌}
use Rattle.std.proofs.lemmas.Bool.{false≢true}
use Rattle.log_check.specs.Rows.{HoldsFrom, AreRights}
use Rattle.log_check.proofs.RowLemmas.{rights_more, rights_same}
use Rattle.log_check.proofs.rows.rights_of.Goals.{then-get+in_ok-push, else-get}
use Rattle.log_check.proofs.rows.rights_of.Goals as goal

pub loop-right-preserved : goal.loop-right-preserved
loop-right-preserved c =
    let S = c.args.rel.now.pairs in
    let n = c.args.offset in
    let right = c.loop-right.right in
    elim c.if-get.branch [
      | then-get+in_ok-push w ↦
          let pushed : c.if-get.rights ≡ c.loop-right.rights ++ right ∷ [] = w.rights-is ∙ w.in_ok-push.ensures.ok in
          subst (AreRights (HoldsFrom S n (right + 1)) c.args.left) (sym pushed)
          (rights_more S n c.args.left right c.loop-right.rights c.loop-right.invariant (c.get.ensures.told.0 w.if-get.true))
      | else-get w ↦
          subst (AreRights (HoldsFrom S n (right + 1)) c.args.left) (sym w.rights-is)
          (rights_same S n c.args.left right c.loop-right.rights c.loop-right.invariant
          (λ related. false≢true (sym w.if-get.false ∙ c.get.ensures.told.1 related)))
    ]
