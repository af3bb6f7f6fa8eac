use Rattle.std.proofs.Common.{◌≡◌, ◌+◌, ℕ, ◌<◌, true, false, inl, inr, refl, sym, ap, subst, arith, rules, List, length}
use Rattle.std.proofs.lemmas.Bool.{cases_lt}
use Rattle.cert_check.specs.Inclusion.{no_element}
use Rattle.cert_check.specs.Listing.{difference_checks}
use Rattle.cert_check.specs.Supers.{held_block, key_at, Fit}
use Rattle.cert_check.specs.Seen.{HaveSeen, IsUnlikeEarlier}
use Rattle.log_check.proofs.CheckLemmas.{more_of, broken_of}
use Rattle.cert_check.proofs.KeyLemmas.{differs_by_keys, same_by_keys}
use Rattle.cert_check.proofs.seen.check_differences.Goals as goal

pub loop-e-init : goal.loop-e-init
loop-e-init c = record { told = tt; fits = λ d below. absurd (omega (arith, below)); seen = c.in_ok-seen.ensures.none _ }

pub loop-e-preserved : goal.loop-e-preserved
loop-e-preserved c =
    let e : ℕ = c.loop-e.e in
    let low : e < length c.args.elements.now = omega (arith, c.loop-e-test.true, ap length c.as_slice-items.ensures) in
    let told = c.in_ok-is_unlike_earlier.ensures in
    let is : c.in_ok-is_unlike_earlier.field-0 ≡ true = search rules in
    let unlike = subst (λ (l : List ℕ). IsUnlikeEarlier (key_at c.args.mode c.args.supers.now l) e) c.deref.ensures.value (told.unlike is) in
    let new =
    differs_by_keys c.args.mode c.args.first.now c.args.second.now c.args.elements.now c.args.supers.now c.requires.supers c.in_ok-firsts.firsts.items c.in_ok-firsts.ensures.firsts e low
    c.loop-e.invariant.fits told.fits unlike in
    record {
      told =
          more_of (difference_checks c.args.mode c.args.first.now c.args.second.now c.args.elements.now c.args.item) e c.args.elements.now c.as_slice-items.result.now no_element c.as_slice-items.ensures
          c.loop-e-test.true c.loop-e.invariant.told (new, tt);
      fits = λ d below. elim (cases_lt d e) [
        | inl before ↦ c.loop-e.invariant.fits d before
        | inr last ↦ let is : d ≡ e = omega arith in subst (λ k. Fit (held_block c.args.supers.now k)) (sym is) told.fits
      ];
      seen = subst (λ (l : List ℕ). HaveSeen (key_at c.args.mode c.args.supers.now l) (e + 1) c.is_unlike_earlier.new.seen) c.deref.ensures.value (told.seen is);
    }

pub returns-then-not-branch : goal.returns-then-not-branch
returns-then-not-branch c =
    let e : ℕ = c.loop-e.e in
    let low : e < length c.args.elements.now = omega (arith, c.loop-e-test.true, ap length c.as_slice-items.ensures) in
    let is : c.in_ok-is_unlike_earlier.field-0 ≡ false = search rules in
    let alike = subst (λ (l : List ℕ). IsUnlikeEarlier (key_at c.args.mode c.args.supers.now l) e → ⊥) c.deref.ensures.value (c.in_ok-is_unlike_earlier.ensures.alike is) in
    broken_of (difference_checks c.args.mode c.args.first.now c.args.second.now c.args.elements.now c.args.item) e c.args.elements.now c.as_slice-items.result.now no_element
    (record { rule = 18; item = c.args.item + e }) c.as_slice-items.ensures c.loop-e-test.true c.loop-e.invariant.told
    (inl (
      λ differs. alike (λ d before same. same_by_keys c.args.mode c.args.first.now c.args.second.now c.args.elements.now c.args.supers.now c.requires.supers c.in_ok-firsts.firsts.items
          c.in_ok-firsts.ensures.firsts d e before low same differs),
      refl,
    ))
