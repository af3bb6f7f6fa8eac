-- Lists with the same images.
use Rattle.std.proofs.Common.{◌≡◌, List, [], ◌∷◌, length, map, drop, get_or, All, Contains, refl, ap, subst, ◌∙◌, arith}
use Rattle.std.proofs.lemmas.List.{get_or-map, length-map}
use Rattle.std.proofs.lemmas.List.Elements.{All-head, All-tail}

pub map_itself : {X : Type 0} (xs : List X) → map (λ x. x) xs ≡ xs
map_itself [] = refl
map_itself (x ∷ xs) = ap (λ l. x ∷ l) (map_itself xs)

-- Where the images by f and g are the same, so are those by h and k, if f and g tell them.
pub map_told : {X Y Z W : Type 0} (P : X → Type 0) (Q : Y → Type 0) (f : X → Z) (g : Y → Z) (h : X → W) (k : Y → W)
    → ((x : X) (y : Y) → P x → Q y → f x ≡ g y → h x ≡ k y) → (xs : List X) (ys : List Y) → All P xs → All Q ys → map f xs ≡ map g ys → map h xs ≡ map k ys
map_told P Q f g h k tells [] [] p q e = refl
map_told P Q f g h k tells [] (y ∷ ys) p q e = absurd (omega (arith, ap length e))
map_told P Q f g h k tells (x ∷ xs) [] p q e = absurd (omega (arith, ap length e))
map_told P Q f g h k tells (x ∷ xs) (y ∷ ys) p q e =
    let first = tells x y (All-head P x xs p) (All-head Q y ys q) (ap (λ l. get_or l 0 (f x)) e) in
    let rest = map_told P Q f g h k tells xs ys (All-tail P x xs p) (All-tail Q y ys q) (ap (drop 1) e) in
    λ i. first i ∷ rest i

-- What holds of all images holds of the image of each member.
pub image_has : {X Y : Type 0} (P : Y → Type 0) (f : X → Y) (xs : List X) (x : X) → All P (map f xs) → Contains xs x → P (f x)
image_has P f xs x h (k, lt, e) =
    let long : length (map f xs) ≡ length xs = length-map xs f in
    subst P (get_or-map f xs k x (f x) lt ∙ ap f e) (h k (f x) (omega arith))
