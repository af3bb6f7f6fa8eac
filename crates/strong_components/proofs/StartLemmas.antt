-- The search before its first node.
use Rattle.std.proofs.Common.{◌≡◌, ℕ, ◌<◌, inl, List, [], replicate, arith}
use Rattle.std.proofs.lemmas.List.{get_or-replicate, length-replicate}
use Rattle.strong_components.specs.Graph.{at}
use Rattle.strong_components.specs.UnderWay.{none, State, IsDone, IsUnderWay}
use Rattle.strong_components.specs.Steps.{AreRests}

module _ (starts targets : List ℕ) (nodes : ℕ) (rest : List ℕ) (rests : AreRests starts nodes rest) where
  abbrev blank : List ℕ
  blank = replicate nodes none

  blank_at : (v : ℕ) → v < nodes → at blank v ≡ none
  blank_at v below = get_or-replicate nodes v none 0 below

  abbrev pub start : State
  start = record { stack = []; bounds = []; path = []; rest = rest; places = blank; numbers = blank; count = 0 }

  not_done_yet : (v : ℕ) → IsDone start v → ⊥
  not_done_yet v is_done = omega (arith, is_done)

  pub starts_under_way : IsUnderWay starts targets nodes start
  starts_under_way = record {
    rest_size = rests.size;
    places_size = length-replicate nodes none;
    numbers_size = length-replicate nodes none;
    few = omega arith;
    room = omega arith;
    placed = λ x lt. absurd (omega (arith, lt));
    seen = λ v below. inl (blank_at v below);
    new = λ v below new. (blank_at v below, rests.each v below);
    left = λ v below. let whole = rests.each v below in omega arith;
    bounds_rise = λ i j lt within. absurd (omega (arith, within));
    bounds_in = λ i lt. absurd (omega (arith, lt));
    first = λ some. absurd (omega (arith, some));
    path_rises = λ i j lt within. absurd (omega (arith, within));
    path_in = λ i lt. absurd (omega (arith, lt));
    finished = λ x lt. absurd (omega (arith, lt));
    led = λ x k lt taken. absurd (omega (arith, lt));
    joined = λ x y lt within behind. absurd (omega (arith, lt));
    done = λ v k below is_done arc. absurd (not_done_yet v is_done);
  }
