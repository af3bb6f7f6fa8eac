use Rattle.std.proofs.Common.{◌≡◌, true, false, All, inl, inr, refl, sym, ◌∙◌, rules}
use Rattle.std.proofs.lemmas.Bool.{false≢true}
use Rattle.auto_core.specs.Game.{Holds}
use Rattle.auto_core.specs.Pruning.{IsStableBack, IsStableAhead}
use Rattle.log_check.specs.Closures.{IsClosureOf}
use Rattle.log_check.specs.FirstLog.{back_of, ahead_of, IsCutIn, IsAsGood, IsNotRelatedBack}
use Rattle.log_check.proofs.ClosureLemmas.{good_from, good_to, better_from, better_to}
use Rattle.log_check.proofs.first.cut_by.Goals as goal

pub returns-then-not-are_as_good : goal.returns-then-not-are_as_good
returns-then-not-are_as_good c =
    let A = c.args.automaton.now in
    let pair = c.args.pair in
    let gone = c.args.gone.now in
    let blocks = c.args.blocks.now in
    let named : IsCutIn A c.args.look gone blocks = c.is_cut_in.ensures.told.0 (search rules) in
    let back : IsStableBack A pair c.args.look (back_of pair blocks) × IsClosureOf A.states (Holds (back_of pair blocks)) c.in-Some.back = search rules in
    let ahead : IsStableAhead A pair c.args.look (ahead_of pair blocks) × IsClosureOf A.states (Holds (ahead_of pair blocks)) c.in-Some-2.ahead = search rules in
    let is : c.are_as_good.result ≡ false = search rules in
    λ mode. inr (
      named,
      inr (
        (back.0, ahead.0),
        inl (
          λ good. false≢true (sym is ∙ c.are_as_good.ensures.1 (good_to A pair blocks c.in-Some.back c.in-Some-2.ahead c.is_cut_in.ensures.valid back.1 ahead.1 gone named.gone_in good)),
          refl,
        ),
      ),
    )

pub returns-then-not-are_better : goal.returns-then-not-are_better
returns-then-not-are_better c =
    let A = c.args.automaton.now in
    let pair = c.args.pair in
    let gone = c.args.gone.now in
    let blocks = c.args.blocks.now in
    let named : IsCutIn A c.args.look gone blocks = c.is_cut_in.ensures.told.0 (search rules) in
    let back : IsStableBack A pair c.args.look (back_of pair blocks) × IsClosureOf A.states (Holds (back_of pair blocks)) c.in-Some.back = search rules in
    let ahead : IsStableAhead A pair c.args.look (ahead_of pair blocks) × IsClosureOf A.states (Holds (ahead_of pair blocks)) c.in-Some-2.ahead = search rules in
    let good_is : c.are_as_good.result ≡ true = search rules in
    let good : All (IsAsGood A pair blocks) gone =
    good_from A pair blocks c.in-Some.back c.in-Some-2.ahead c.is_cut_in.ensures.valid back.1 ahead.1 gone named.gone_in (c.are_as_good.ensures.0 good_is) in
    let is : c.are_better.result ≡ false = search rules in
    λ mode. inr (
      named,
      inr (
        (back.0, ahead.0),
        inr (
          good,
          inl (
            λ better. false≢true (sym is ∙ c.are_better.ensures.1 (better_to A pair blocks c.in-Some.back c.in-Some-2.ahead c.is_cut_in.ensures.valid back.1 ahead.1 gone named.gone_in better)),
            refl,
          ),
        ),
      ),
    )

pub returns : goal.returns
returns c =
    let A = c.args.automaton.now in
    let pair = c.args.pair in
    let gone = c.args.gone.now in
    let blocks = c.args.blocks.now in
    let named : IsCutIn A c.args.look gone blocks = c.is_cut_in.ensures.told.0 (search rules) in
    let back : IsStableBack A pair c.args.look (back_of pair blocks) × IsClosureOf A.states (Holds (back_of pair blocks)) c.in-Some.back = search rules in
    let ahead : IsStableAhead A pair c.args.look (ahead_of pair blocks) × IsClosureOf A.states (Holds (ahead_of pair blocks)) c.in-Some-2.ahead = search rules in
    let good_is : c.are_as_good.result ≡ true = search rules in
    let good : All (IsAsGood A pair blocks) gone =
    good_from A pair blocks c.in-Some.back c.in-Some-2.ahead c.is_cut_in.ensures.valid back.1 ahead.1 gone named.gone_in (c.are_as_good.ensures.0 good_is) in
    let better_is : c.are_better.result ≡ true = search rules in
    let better : All (IsNotRelatedBack A pair blocks) gone =
    better_from A pair blocks c.in-Some.back c.in-Some-2.ahead c.is_cut_in.ensures.valid back.1 ahead.1 gone named.gone_in (c.are_better.ensures.0 better_is) in
    λ mode. record { holds = (named, ((back.0, ahead.0), (good, (better, tt)))); leads = c.in_ok-without.ensures }
