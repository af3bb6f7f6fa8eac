use Rattle.std.proofs.Common.{ℕ, refl, subst}
use Rattle.cert_text.specs.declared.cross.Cross.{Cross}
use Rattle.log_check.specs.Rows.{HoldsFrom, AreRows}
use Rattle.cross_sim.proofs.WrittenLemmas.{cross_made, pair_listed}
use Rattle.cross_sim.proofs.written.cross_within.Goals as goal

pub returns : goal.returns
returns c =
    let pair = c.args.pair.now in
    let R = c.args.rel.now.pairs in
    let rows = c.in_ok-rows.rows in
    let firsts : ℕ = c.states-firsts.result in
    let cross : Cross = record { first_states = firsts; second_states = c.states-seconds.result; labels = c.count.result; look = c.args.look; rows = rows } in
    let are : AreRows (HoldsFrom R pair.first.states pair.second.states) pair.first.states rows =
    subst (λ n. AreRows (HoldsFrom R n pair.second.states) n rows) c.states-firsts.ensures.count
    (subst (λ n. AreRows (HoldsFrom R firsts n) firsts rows) c.states-seconds.ensures.count c.in_ok-rows.ensures) in
    record {
      of = cross_made pair c.args.look R cross c.requires.first_few c.requires.second_few c.requires.labels c.requires.look_upto
          (c.states-firsts.ensures.count, c.states-seconds.ensures.count, c.count.ensures.count) refl c.requires.greatest are;
      initial = pair_listed pair.first pair.second c.args.look R c.requires.greatest rows are pair.first.initial pair.second.initial
          c.states-firsts.ensures.valid.initial_is_state c.states-seconds.ensures.valid.initial_is_state;
    }
