-- Checks that are joined, and checks of each thing of a list.
use Rattle.std.proofs.Common.{◌≡◌, ℕ, zero, suc, ◌+◌, ◌<◌, inl, inr, List, [], ◌∷◌, ◌++◌, length, take, slice_index_or, subst, arith, Result, Ok, Err, ◌≤◌, take_all}
use Rattle.log_check.specs.declared.faults.Refusal.{Refusal}
use Rattle.log_check.specs.declared.faults.CheckFault.{CheckFault}
use Rattle.log_check.specs.declared.faults.CheckFault.TheVariants.{Refused, Memory}
use Rattle.log_check.specs.Checks.{RuleCheck, AllHold, FirstBroken, checks_of_each, Tells}

pub all_join : (xs ys : List RuleCheck) → AllHold xs → AllHold ys → AllHold (xs ++ ys)
all_join [] ys a b = b
all_join (c ∷ xs) ys a b = (a.0, all_join xs ys a.1 b)

pub all_front : (xs ys : List RuleCheck) → AllHold (xs ++ ys) → AllHold xs
all_front [] ys a = _
all_front (c ∷ xs) ys a = (a.0, all_front xs ys a.1)

pub all_back : (xs ys : List RuleCheck) → AllHold (xs ++ ys) → AllHold ys
all_back [] ys a = a
all_back (c ∷ xs) ys a = all_back xs ys a.1

pub broken_front : (xs ys : List RuleCheck) (refusal : Refusal) → FirstBroken xs refusal → FirstBroken (xs ++ ys) refusal
broken_front [] ys refusal b = absurd b
broken_front (c ∷ xs) ys refusal b = elim b [
  | inl here ↦ inl here
  | inr later ↦ inr (later.0, broken_front xs ys refusal later.1)
]

pub broken_back : (xs ys : List RuleCheck) (refusal : Refusal) → AllHold xs → FirstBroken ys refusal → FirstBroken (xs ++ ys) refusal
broken_back [] ys refusal a b = b
broken_back (c ∷ xs) ys refusal a b = inr (a.0, broken_back xs ys refusal a.1 b)

-- The checks of the first k things hold, and those of the next one.
pub each_more :
    {X : Type 0} (f : ℕ → X → List RuleCheck) (n k : ℕ) (xs : List X) (d : X)
    → k < length xs
    → AllHold (checks_of_each f n (take k xs))
    → AllHold (f (n + k) (slice_index_or xs k d))
    → AllHold (checks_of_each f n (take (k + 1) xs))
each_more f n k [] d lt a b = absurd (omega arith)
each_more f n zero (x ∷ xs) d lt a b = all_join (f n x) [] (subst (λ m. AllHold (f m x)) (omega arith) b) _
each_more f n (suc k) (x ∷ xs) d lt a b =
    let more : suc (k + 1) ≡ suc k + 1 = omega arith in
    subst (λ m. AllHold (checks_of_each f n (take m (x ∷ xs)))) more
    (all_join (f n x) (checks_of_each f (suc n) (take (k + 1) xs)) (all_front (f n x) (checks_of_each f (suc n) (take k xs)) a)
    (each_more f (suc n) k xs d (omega arith) (all_back (f n x) (checks_of_each f (suc n) (take k xs)) a)
    (subst (λ m. AllHold (f m (slice_index_or xs k d))) (omega arith) b)))

-- The checks of the first k things hold, and one of the next thing is broken.
pub each_broken :
    {X : Type 0} (f : ℕ → X → List RuleCheck) (n k : ℕ) (xs : List X) (d : X) (refusal : Refusal)
    → k < length xs
    → AllHold (checks_of_each f n (take k xs))
    → FirstBroken (f (n + k) (slice_index_or xs k d)) refusal
    → FirstBroken (checks_of_each f n xs) refusal
each_broken f n k [] d refusal lt a b = absurd (omega arith)
each_broken f n zero (x ∷ xs) d refusal lt a b =
    broken_front (f n x) (checks_of_each f (suc n) xs) refusal (subst (λ m. FirstBroken (f m x) refusal) (omega arith) b)
each_broken f n (suc k) (x ∷ xs) d refusal lt a b =
    broken_back (f n x) (checks_of_each f (suc n) xs) refusal (all_front (f n x) (checks_of_each f (suc n) (take k xs)) a)
    (each_broken f (suc n) k xs d refusal (omega arith) (all_back (f n x) (checks_of_each f (suc n) (take k xs)) a)
    (subst (λ m. FirstBroken (f m (slice_index_or xs k d)) refusal) (omega arith) b))

-- Where the checks of all things hold, those of each one do.
pub each_holds :
    {X : Type 0} (f : ℕ → X → List RuleCheck) (n k : ℕ) (xs : List X) (d : X)
    → k < length xs
    → AllHold (checks_of_each f n xs)
    → AllHold (f (n + k) (slice_index_or xs k d))
each_holds f n k [] d lt a = absurd (omega arith)
each_holds f n zero (x ∷ xs) d lt a = subst (λ m. AllHold (f m x)) (omega arith) (all_front (f n x) (checks_of_each f (suc n) xs) a)
each_holds f n (suc k) (x ∷ xs) d lt a =
    subst (λ m. AllHold (f m (slice_index_or xs k d))) (omega arith)
    (each_holds f (suc n) k xs d (omega arith) (all_back (f n x) (checks_of_each f (suc n) xs) a))

-- A test of the first checks that ends with a fault, and one of those after the first, which hold.
pub tells_fault : (X Y : Type 0) (xs ys : List RuleCheck) (e : CheckFault) → Tells {X = X} xs (Err e) → Tells {X = Y} (xs ++ ys) (Err e)
tells_fault X Y xs ys (Refused refusal) h = broken_front xs ys refusal h
tells_fault X Y xs ys Memory h = tt

pub tells_after : (X : Type 0) (xs ys : List RuleCheck) (r : Result X CheckFault) → AllHold xs → Tells ys r → Tells (xs ++ ys) r
tells_after X xs ys (Ok x) a h = all_join xs ys a h
tells_after X xs ys (Err (Refused refusal)) a h = broken_back xs ys refusal a h
tells_after X xs ys (Err Memory) a h = tt

-- The same, counted from 0, at a list that is the one asked about.
pub each_of : {X : Type 0} (f : ℕ → X → List RuleCheck) (k : ℕ) (xs : List X) (d : X) → k < length xs → AllHold (checks_of_each f 0 xs) → AllHold (f k (slice_index_or xs k d))
each_of f k xs d lt a = let zero_on : 0 + k ≡ k = omega arith in subst (λ m. AllHold (f m (slice_index_or xs k d))) zero_on (each_holds f 0 k xs d lt a)

pub more_of : {X : Type 0} (f : ℕ → X → List RuleCheck) (k : ℕ) (xs ys : List X) (d : X) → ys ≡ xs → k < length ys → AllHold (checks_of_each f 0 (take k xs)) →
    AllHold (f k (slice_index_or ys k d)) → AllHold (checks_of_each f 0 (take (k + 1) xs))
more_of {X} f k xs ys d is lt a b =
    let back : k ≡ 0 + k = omega arith in
    each_more f 0 k xs d (subst (λ (l : List X). k < length l) is lt) a (subst (λ (l : List X). AllHold (f (0 + k) (slice_index_or l k d))) is (subst (λ m. AllHold (f m (slice_index_or ys k d))) back b))

pub broken_of : {X : Type 0} (f : ℕ → X → List RuleCheck) (k : ℕ) (xs ys : List X) (d : X) (refusal : Refusal) → ys ≡ xs → k < length ys → AllHold (checks_of_each f 0 (take k xs)) →
    FirstBroken (f k (slice_index_or ys k d)) refusal → FirstBroken (checks_of_each f 0 xs) refusal
broken_of {X} f k xs ys d refusal is lt a b =
    let back : k ≡ 0 + k = omega arith in
    each_broken f 0 k xs d refusal (subst (λ (l : List X). k < length l) is lt) a (subst (λ (l : List X). FirstBroken (f (0 + k) (slice_index_or l k d)) refusal) is (subst (λ m. FirstBroken (f m (slice_index_or ys k d)) refusal) back b))

pub all_of : {X : Type 0} (f : ℕ → X → List RuleCheck) (k : ℕ) (xs ys : List X) → ys ≡ xs → length ys ≤ k → AllHold (checks_of_each f 0 (take k xs)) → AllHold (checks_of_each f 0 xs)
all_of {X} f k xs ys is le a = subst (λ (l : List X). AllHold (checks_of_each f 0 l)) (take_all k xs (subst (λ (l : List X). length l ≤ k) is le)) a
