use Rattle.bisimulation.proofs.signing.signature.Goals as goal

pub returns : goal.returns
returns c = record {
  rising = c.in_ok-list.ensures.rising;
  marks = λ mark. (
    λ h. (c.in_ok-made.ensures mark).0 ((c.in_ok-list.ensures.same mark).0 h),
    λ h. (c.in_ok-list.ensures.same mark).1 ((c.in_ok-made.ensures mark).1 h),
  );
}
