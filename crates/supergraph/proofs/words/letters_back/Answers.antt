use Rattle.std.proofs.Common.{◌≡◌, List, [], ◌∷◌, ◌++◌, reverse, slice_index_or, refl, sym, subst, ap, ◌∙◌, arith}
use Rattle.auto_core.specs.Automaton.{Automaton, trans_at}
use Rattle.auto_core.specs.declared.parts.Origin.{Origin}
use Rattle.auto_core.specs.declared.parts.Origin.TheVariants.{Start}
use Rattle.supergraph.proofs.WordLemmas.{IsSplit, split_next, split_base, split_other, names_next}
use Rattle.supergraph.proofs.words.letters_back.Goals as goal
use Rattle.supergraph.proofs.words.letters_back.Goals.{in-Base+in_ok-push-2, in_default-origins}

pub loop-at-preserved : goal.loop-at-preserved
loop-at-preserved c =
    let A : Automaton = c.args.automaton.now in
    let origins : List Origin = c.args.origins.now in
    let inv = c.loop-at.invariant in
    let named = names_next A origins c.requires.names c.loop-at.at c.in-Next.before c.in-Next.t inv.is_there c.in-Next.is in
    let less = named.0 in
    let inside = inv.is_there in
    let letters : c.push.new.self.items ≡ c.loop-at.letters.items ++ (trans_at A c.in-Next.t).label ∷ [] =
    c.in_ok-push.ensures.items ∙ ap (λ a. c.loop-at.letters.items ++ a ∷ []) c.letter_of.ensures in
    record {
      is_there = omega arith;
      split = subst (IsSplit A origins c.args.element c.in-Next.before) (sym letters)
          (split_next A origins c.requires.names c.args.element c.loop-at.at c.in-Next.before c.in-Next.t c.loop-at.letters.items inv.is_there c.in-Next.is inv.split);
    }

pub returns : goal.returns
returns c =
    let A : Automaton = c.args.automaton.now in
    let origins : List Origin = c.args.origins.now in
    let inv = c.loop-at.invariant in
    elim c.match-origins-at-2.branch [
      | in-Base+in_ok-push-2 w ↦
          let letters : c.match-origins-at-2.letters.items ≡ c.loop-at.letters.items ++ (trans_at A w.in-Base.t).label ∷ [] =
          ap (λ v. v.items) w.letters-is ∙ w.in_ok-push-2.ensures.items ∙ ap (λ a. c.loop-at.letters.items ++ a ∷ []) w.letter_of-in-Base.ensures in
          ap reverse letters
          ∙ split_base A origins c.requires.names c.args.element c.loop-at.at w.in-Base.t c.loop-at.letters.items inv.is_there w.in-Base.is inv.split
      | in_default-origins w ↦
          ap (λ v. reverse v.items) w.letters-is
          ∙ split_other A origins c.requires.names c.args.element c.loop-at.at c.loop-at.letters.items (slice_index_or origins c.loop-at.at Start) inv.is_there refl
          c.in_default.not-Next w.in_default-origins.not-Base inv.split
    ]
