use Rattle.std.proofs.Common.{◌≡◌, ℕ, suc, ◌+◌, ◌-◌, ◌==◌, ◌<◌, List, [], ◌∷◌, ◌++◌, decimal, Bool, true, false, cond, ap, sym, refl, ◌∙◌, append_assoc, append-nil, arith}
use Rattle.std.specs.List.{range_with_len}
use Rattle.cert_value.specs.Text.{Line, spaced, line_text, text_of, each, numbers, in_pairs, gone_numbers, ranked_numbers, run_numbers, numbers_of, ends_of, row_numbers, text, first_line, sizes_line, end_line, body_lines, form_of}
use Rattle.cert_value.specs.declared.types.Cert.{Cert}
use Rattle.cert_value.specs.Printed.{joined, number_text, pair_text, gone_text, ranked_text, run_text}
use Rattle.cert_value.specs.declared.types.GoneBy.{GoneBy}
use Rattle.cert_value.specs.declared.types.Ranked.{Ranked}
use Rattle.cert_value.specs.declared.types.Run.{Run}

pub spaced-numbers : (ns : List ℕ) (tokens : Line) → spaced (numbers ns ++ tokens) ≡ joined number_text ns ++ spaced tokens
spaced-numbers [] tokens = refl
spaced-numbers (n ∷ ns) tokens =
    ap (λ x. 32 ∷ (decimal n ++ x)) (spaced-numbers ns tokens)
    ∙ ap (λ x. 32 ∷ x) (sym (append_assoc (decimal n) (joined number_text ns) (spaced tokens)))

pub numbers-append : (ns ms : List ℕ) → numbers (ns ++ ms) ≡ numbers ns ++ numbers ms
numbers-append [] ms = refl
numbers-append (n ∷ ns) ms = ap (λ x. decimal n ∷ x) (numbers-append ns ms)

pub spaced_two : (ns ms : List ℕ) → spaced (numbers (ns ++ ms)) ≡ joined number_text ns ++ (joined number_text ms ++ 10 ∷ [])
spaced_two ns ms =
    ap spaced (numbers-append ns ms) ∙ spaced-numbers ns (numbers ms)
    ∙ ap (λ x. joined number_text ns ++ x) (ap spaced (sym (append-nil (numbers ms))) ∙ spaced-numbers ms [])

pub text_append : (ls ms : List Line) → text_of (ls ++ ms) ≡ text_of ls ++ text_of ms
text_append [] ms = refl
text_append (l ∷ ls) ms = ap (λ x. line_text l ++ x) (text_append ls ms) ∙ sym (append_assoc (line_text l) (text_of ls) (text_of ms))

pub text_each : {A : Type 0} (f : A → List Line) (xs : List A) → text_of (each f xs) ≡ joined (λ x. text_of (f x)) xs
text_each f [] = refl
text_each f (x ∷ xs) = text_append (f x) (each f xs) ∙ ap (λ y. text_of (f x) ++ y) (text_each f xs)

-- writes, one after another
pub two_writes : (a w x : List ℕ) {b c : List ℕ} → b ≡ a ++ w → c ≡ b ++ x → c ≡ a ++ (w ++ x)
two_writes a w x p q = q ∙ ap (λ t. t ++ x) p ∙ append_assoc a w x

pub three_writes : (a w x y : List ℕ) {b c d : List ℕ} → b ≡ a ++ w → c ≡ b ++ x → d ≡ c ++ y → d ≡ a ++ (w ++ (x ++ y))
three_writes a w x y p q r =
    two_writes (a ++ w) x y (q ∙ ap (λ t. t ++ x) p) r ∙ append_assoc a w (x ++ y)

pub four_writes :
    (a w x y z : List ℕ) {b c d e : List ℕ} → b ≡ a ++ w → c ≡ b ++ x → d ≡ c ++ y → e ≡ d ++ z → e ≡ a ++ (w ++ (x ++ (y ++ z)))
four_writes a w x y z p q r s =
    three_writes (a ++ w) x y z (q ∙ ap (λ t. t ++ x) p) r s ∙ append_assoc a w (x ++ (y ++ z))

pub five_writes : (a w x y z u : List ℕ) {b c d e f : List ℕ} → b ≡ a ++ w → c ≡ b ++ x → d ≡ c ++ y → e ≡ d ++ z → f ≡ e ++ u
    → f ≡ a ++ (w ++ (x ++ (y ++ (z ++ u))))
five_writes a w x y z u p q r s t =
    four_writes (a ++ w) x y z u (q ∙ ap (λ t. t ++ x) p) r s t ∙ append_assoc a w (x ++ (y ++ (z ++ u)))

-- items of two numbers each as they are written
pub spaced_pairs : {A : Type 0} (f g : A → ℕ) (xs : List A)
    → spaced (numbers (in_pairs f g xs)) ≡ joined (λ x. pair_text (f x) (g x)) xs ++ 10 ∷ []
spaced_pairs f g [] = refl
spaced_pairs f g (x ∷ xs) = ap (λ t. 32 ∷ (decimal (f x) ++ 32 ∷ (decimal (g x) ++ t))) (spaced_pairs f g xs) ∙ simp (append_assoc)

pub spaced_gone : (pairs : List GoneBy) → spaced (numbers (gone_numbers pairs)) ≡ joined gone_text pairs ++ 10 ∷ []
spaced_gone pairs = spaced_pairs (λ p. p.trans) (λ p. p.by) pairs

pub joined_append : {A : Type 0} (f : A → List ℕ) (xs ys : List A) → joined f (xs ++ ys) ≡ joined f xs ++ joined f ys
joined_append f [] ys = refl
joined_append f (x ∷ xs) ys = ap (λ z. f x ++ z) (joined_append f xs ys) ∙ sym (append_assoc (f x) (joined f xs) (joined f ys))

-- a row with ranks as it is written
pub spaced_rank_row : (ahead : List ℕ) (pairs : List Ranked)
    → spaced (numbers (ahead ++ ranked_numbers pairs)) ≡ joined number_text ahead ++ (joined ranked_text pairs ++ 10 ∷ [])
spaced_rank_row ahead pairs =
    ap spaced (numbers-append ahead (ranked_numbers pairs)) ∙ spaced-numbers ahead (numbers (ranked_numbers pairs))
    ∙ ap (λ x. joined number_text ahead ++ x) (spaced_pairs (λ p. p.right) (λ p. p.code) pairs)

-- runs as they are written
joined_numbers : (runs : List Run) → joined number_text (numbers_of runs) ≡ joined (λ run. joined number_text (run_numbers run)) runs
joined_numbers [] = refl
joined_numbers (r ∷ rs) =
    joined_append number_text (run_numbers r) (numbers_of rs) ∙ ap (λ x. joined number_text (run_numbers r) ++ x) (joined_numbers rs)

runs_by : (b : Bool) (runs : List Run)
    → spaced (numbers (cond b (ends_of runs) (numbers_of runs)))
    ≡ joined (λ run. cond b (pair_text run.first run.last) (joined number_text (run_numbers run))) runs ++ 10 ∷ []
runs_by true runs = spaced_pairs (λ r. r.first) (λ r. r.last) runs
runs_by false runs =
    ap spaced (sym (append-nil (numbers (numbers_of runs)))) ∙ spaced-numbers (numbers_of runs) []
    ∙ ap (λ x. x ++ 10 ∷ []) (joined_numbers runs)

pub spaced_runs : (v : ℕ) (runs : List Run) → spaced (numbers (row_numbers v runs)) ≡ joined (run_text v) runs ++ 10 ∷ []
spaced_runs v runs = runs_by (v == 2) runs

-- the numbers from one on that are not past the last
pub span_more : (n last : ℕ) → n < last + 1 → range_with_len n (last + 1 - n) ≡ n ∷ range_with_len (n + 1) (last + 1 - (n + 1))
span_more n last h =
    let e : last + 1 - n ≡ suc (last + 1 - (n + 1)) = omega arith in
    rw e refl

-- the text of lines one after another
pub text_three :
    (A B C : List Line) → text_of (A ++ (B ++ C)) ≡ text_of A ++ (text_of B ++ text_of C)
text_three A B C = text_append A (B ++ C) ∙ ap (λ x. text_of A ++ x) (text_append B C)

pub text_four :
    (A B C D : List Line) → text_of (A ++ (B ++ (C ++ D))) ≡ text_of A ++ (text_of B ++ (text_of C ++ text_of D))
text_four A B C D = text_append A (B ++ (C ++ D)) ∙ ap (λ x. text_of A ++ x) (text_three B C D)

-- the text of a certificate, by its parts
pub text_parts :
    (c : Cert)
    → text c
    ≡ line_text (first_line c.version c.mode (form_of c.body))
    ++ (line_text (sizes_line c.first_states c.second_states c.labels) ++ (text_of (body_lines c.version c.body) ++ line_text end_line))
text_parts c =
    let head = line_text (first_line c.version c.mode (form_of c.body)) in
    let sizes = line_text (sizes_line c.first_states c.second_states c.labels) in
    ap (λ x. head ++ (sizes ++ x))
    (text_append (body_lines c.version c.body) (end_line ∷ []) ∙ ap (λ x. text_of (body_lines c.version c.body) ++ x) (append-nil (line_text end_line)))
