-- Paths read from their end, and what of two matched paths stays when both are.
use Rattle.std.proofs.Common.{◌≡◌, ℕ, List, [], ◌∷◌, ◌++◌, refl, sym, ap, ◌∙◌, subst}
use mathlib.Core.List.{reverse}
use Rattle.std.proofs.lemmas.Grind.{reverse_onto}
use Rattle.auto_core.specs.Run.{PathBy, end_of}
use Rattle.auto_core.specs.Game.{AllMatched}
use Rattle.auto_laws.specs.Paths.{turned}
use Rattle.auto_core.proofs.PathLemmas.{end_of-append, path_join}
use Rattle.auto_laws.proofs.MatchLemmas.{matched_join, matched_end}

-- The same moves the other way.
abbrev pub Flipped : (ℕ → ℕ → ℕ → Type 0) → ℕ → ℕ → ℕ → Type 0
Flipped M p a q = M q a p

pub end_of-turned : (p : ℕ) (ps : List ℕ) → end_of (end_of p ps) (turned p ps) ≡ p
end_of-turned p [] = refl
end_of-turned p (q ∷ ps) = end_of-append (end_of q ps) (turned q ps) (p ∷ [])

turned-push : (x : ℕ) (ys : List ℕ) (z : ℕ) → turned x (ys ++ z ∷ []) ≡ end_of x ys ∷ turned x ys
turned-push x [] z = refl
turned-push x (y ∷ ys) z = ap (λ l. l ++ x ∷ []) (turned-push y ys z)

pub turned-turned : (p : ℕ) (ps : List ℕ) → turned (end_of p ps) (turned p ps) ≡ ps
turned-turned p [] = refl
turned-turned p (q ∷ ps) =
    turned-push (end_of q ps) (turned q ps) p
    ∙ ap (λ x. x ∷ turned (end_of q ps) (turned q ps)) (end_of-turned q ps)
    ∙ ap (λ l. q ∷ l) (turned-turned q ps)

pub path_turned : (M : ℕ → ℕ → ℕ → Type 0) (p : ℕ) (w ps : List ℕ) → PathBy M p w ps → PathBy (Flipped M) (end_of p ps) (reverse w) (turned p ps)
path_turned M p [] [] h = tt
path_turned M p [] (q ∷ ps) h = absurd h
path_turned M p (a ∷ w) [] h = absurd h
path_turned M p (a ∷ w) (q ∷ ps) h =
    let last : PathBy (Flipped M) (end_of (end_of q ps) (turned q ps)) (a ∷ []) (p ∷ []) =
    subst (λ s. PathBy (Flipped M) s (a ∷ []) (p ∷ [])) (sym (end_of-turned q ps)) (h.0, tt) in
    subst (λ l. PathBy (Flipped M) (end_of q ps) l (turned q ps ++ p ∷ [])) (sym (reverse_onto w a []))
    (path_join (Flipped M) (end_of q ps) (reverse w) (a ∷ []) (turned q ps) (p ∷ []) (path_turned M q w ps h.1) last)

turned_matched : (ok : ℕ → ℕ → Type 0) (p q : ℕ) (ps qs : List ℕ) → ok p q → AllMatched ok ps qs → AllMatched ok (turned p ps) (turned q qs)
turned_matched ok p q [] [] o h = tt
turned_matched ok p q [] (s ∷ qs) o h = absurd h
turned_matched ok p q (r ∷ ps) [] o h = absurd h
turned_matched ok p q (r ∷ ps) (s ∷ qs) o h =
    matched_join ok (turned r ps) (p ∷ []) (turned s qs) (q ∷ []) (turned_matched ok r s ps qs h.0 h.1) (o, tt)

-- Matched at each place, the start too, and so when both are read from their end.
pub matched_turned : (ok : ℕ → ℕ → Type 0) (p q : ℕ) (ps qs : List ℕ) → AllMatched ok (p ∷ ps) (q ∷ qs) → AllMatched ok (end_of p ps ∷ turned p ps) (end_of q qs ∷ turned q qs)
matched_turned ok p q ps qs h = (matched_end ok p q ps qs h.0 h.1, turned_matched ok p q ps qs h.0 h.1)
