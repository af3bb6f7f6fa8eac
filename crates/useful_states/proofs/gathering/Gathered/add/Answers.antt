use Rattle.std.proofs.Common.{sym, ◌∙◌}
use Rattle.std.proofs.lemmas.Bool.{false≢true}
use Rattle.useful_states.proofs.GatherLemmas.{had_it, got_it}
use Rattle.useful_states.proofs.gathering.Gathered.add.Goals as goal

pub returns-then-has : goal.returns-then-has
returns-then-has c = had_it c.args.self.now c.args.state c.requires.listed (c.has.ensures.told.0 c.if-has.true)

pub returns : goal.returns
returns c = got_it c.args.self.now (record { set = c.add.new.self; list = c.push.new.self }) c.args.state c.requires.listed c.requires.state
    (λ there. false≢true (sym c.if-has.false ∙ c.has.ensures.told.1 there)) c.in_ok-push.ensures.items c.add.ensures.members
