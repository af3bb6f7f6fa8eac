use Rattle.std.proofs.Common.{length}
use Rattle.strong_components.specs.States.{state_of}
use Rattle.strong_components.proofs.StateLemmas.{same_state}
use Rattle.strong_components.proofs.StepLemmas.{root_entered}
use Rattle.strong_components.proofs.search.Search.search_from.Goals as goal

pub loop-self-init : goal.loop-self-init
loop-self-init c =
    let s = state_of c.args.self.now in
    let e = c.in_ok-enter.ensures in
    let t = state_of c.enter.new.self in
    root_entered c.args.starts.now c.args.targets.now (length c.args.self.now.rest.items) s c.requires.way c.args.root c.requires.root (c.is_seen.ensures.new c.if-is_seen.false)
    c.requires.ended e.room t (same_state t _ e.stack e.bounds e.path e.rest e.places e.numbers e.count)
