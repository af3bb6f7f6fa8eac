-- The numbers of a question are in their ranges, and names that have to differ do.
use Rattle.std.proofs.Common.{◌≡◌, ℕ, ◌≤◌, Bool, true, false, not, ◌&&◌, List, [], ◌∷◌, codes, Option, Some, None, IfSome, if◌then◌else◌, refl, sym, ◌∙◌, ap, arith}
use Rattle.std.specs.Prelude.{option_map, option_and_then}
use Rattle.std.specs.Str.{bytes_eq}
use Rattle.std.proofs.lemmas.Bool.{and_parts}
use Rattle.std.proofs.lemmas.Slice.Eq.{bytes_eq-Decides}
use Rattle.clap.specs.Words.{Row, Kinds, first_of, fault_of, subcommand_of}
use Rattle.rabit_words.specs.Number.{number_between, number_or, number_if_named}
use Rattle.rabit_words.specs.Command.{rabit_app}
use Rattle.rabit_words.specs.Question.{Question, Equal, Empty, Universal, mode_by, IsProper, look_in, limit_in, letters_in, letters_named_in, number_at, asks_include, asks_check, asks_reduce, asks_drill, asks_upgrade, asks_cross, asks_cross_check, asks_equal, asks_batch, asks_union, asks_intersect, asks_shrink, names_differ, NamesDiffer, asks_if_names_differ, asks_empty, asks_universal, asks_by_later, asks_by, asks_found, asks_unless, has_help_word, question_of}
use Rattle.rabit_words.proofs.NumberLemmas.{number_in_range}

and_then_gives : {X Y : Type 0} (P : Y → Type 0) (f : X → Option Y) (o : Option X) → ((x : X) → o ≡ Some x → IfSome (f x) P) → IfSome (option_and_then f o) P
and_then_gives P f None h = tt
and_then_gives P f (Some x) h = h x refl

map_gives : {X Y : Type 0} (P : Y → Type 0) (f : X → Y) (o : Option X) → ((x : X) → o ≡ Some x → P (f x)) → IfSome (option_map f o) P
map_gives P f None h = tt
map_gives P f (Some x) h = h x refl

choice_gives : {Y : Type 0} (P : Y → Type 0) (b : Bool) (x y : Option Y) → IfSome x P → IfSome y P → IfSome (if b then x else y) P
choice_gives P true x y p q = p
choice_gives P false x y p q = q

number_or_range : (usual low high : ℕ) (o : Option (List ℕ)) (n : ℕ) → low ≤ usual → usual ≤ high → number_or usual low high o ≡ Some n → (low ≤ n) × (n ≤ high)
number_or_range usual low high None n from upto e = let same : usual ≡ n = cc in (omega arith, omega arith)
number_or_range usual low high (Some text) n from upto e = number_in_range low high text n e

number_at_range : (id : List ℕ) (low high : ℕ) (rows : List Row) (n : ℕ) → number_at id low high rows ≡ Some n → (low ≤ n) × (n ≤ high)
number_at_range id low high rows n e = go (first_of id rows) e
  where
    go : (o : Option (List ℕ)) → option_and_then (number_between low high) o ≡ Some n → (low ≤ n) × (n ≤ high)
    go None h = absurd (let f = h in cc)
    go (Some text) h = number_in_range low high text n h

not_one : (a b : List ℕ) → not (bytes_eq a b) ≡ true → a ≡ b → ⊥
not_one a b differ same =
    let t : bytes_eq a b ≡ true = (bytes_eq-Decides a b).1 same in
    let f : not true ≡ true = ap not (sym t) ∙ differ in
    absurd (let g = f in cc)

names_do_differ : (a b c : List ℕ) → names_differ a b c ≡ true → NamesDiffer a b c
names_do_differ a b c e =
    let first = and_parts (not (bytes_eq a b)) (not (bytes_eq a c) && not (bytes_eq b c)) e in
    let second = and_parts (not (bytes_eq a c)) (not (bytes_eq b c)) first.1 in
    (not_one a b first.0, not_one a c second.0, not_one b c second.1)

differing_range : (ask : List ℕ → List ℕ → List ℕ → Question) → ((a b c : List ℕ) → NamesDiffer a b c → IsProper (ask a b c)) → (a b c : List ℕ) → IfSome (asks_if_names_differ ask a b c) IsProper
differing_range ask h a b c = go (names_differ a b c) refl
  where
    go : (d : Bool) → names_differ a b c ≡ d → IfSome (if d then Some (ask a b c) else None) IsProper
    go true e = h a b c (names_do_differ a b c e)
    go false e = tt

-- a number that is named lies in the range
number_if_named_range : (low high : ℕ) (o : Option (List ℕ)) (named : Option ℕ) → number_if_named low high o ≡ Some named → IfSome named (λ n. (low ≤ n) × (n ≤ high))
number_if_named_range low high o None e = tt
number_if_named_range low high None (Some n) e = absurd (let f = e in cc)
number_if_named_range low high (Some text) (Some n) e = go (number_between low high text) refl e
  where
    go : (m : Option ℕ) → number_between low high text ≡ m → option_map Some m ≡ Some (Some n) → (low ≤ n) × (n ≤ high)
    go None is h = absurd (let f = h in cc)
    go (Some v) is h = let same : v ≡ n = cc in number_in_range low high text n (is ∙ ap Some same)

module _ (rows : List Row) where
  look_range : (k : ℕ) → look_in rows ≡ Some k → (1 ≤ k) × (k ≤ 6)
  look_range k e = number_or_range 3 1 6 (first_of (codes "look") rows) k (omega arith) (omega arith) e

  limit_range : (n : ℕ) → limit_in rows ≡ Some n → (1 ≤ n) × (n ≤ 100000)
  limit_range n e = number_or_range 20000 1 100000 (first_of (codes "limit") rows) n (omega arith) (omega arith) e

  letters_range : (n : ℕ) → letters_in rows ≡ Some n → (1 ≤ n) × (n ≤ 4)
  letters_range n e = number_or_range 1 1 4 (first_of (codes "letters") rows) n (omega arith) (omega arith) e

  letters_named_range : (named : Option ℕ) → letters_named_in rows ≡ Some named → IfSome named (λ n. (1 ≤ n) × (n ≤ 4))
  letters_named_range named e = number_if_named_range 1 4 (first_of (codes "letters") rows) named e

  include_range : IfSome (asks_include rows) IsProper
  include_range =
      and_then_gives IsProper _ (first_of (codes "A") rows) (λ a is_a.
      and_then_gives IsProper _ (first_of (codes "B") rows) (λ b is_b.
      and_then_gives IsProper _ (first_of (codes "CERT") rows) (λ c is_c.
      and_then_gives IsProper _ (look_in rows) (λ look is_look.
      and_then_gives IsProper _ (limit_in rows) (λ limit is_limit.
      map_gives IsProper _ (letters_named_in rows) (λ letters is_letters.
      let k = look_range look is_look in
      let n = limit_range limit is_limit in
      (k.0, k.1, n.0, n.1, letters_named_range letters is_letters)))))))

  check_range : IfSome (asks_check rows) IsProper
  check_range =
      and_then_gives IsProper _ (first_of (codes "A") rows) (λ a is_a.
      and_then_gives IsProper _ (first_of (codes "B") rows) (λ b is_b.
      map_gives IsProper _ (first_of (codes "CERT") rows) (λ c is_c. tt)))

  reduce_range : IfSome (asks_reduce rows) IsProper
  reduce_range =
      and_then_gives IsProper _ (first_of (codes "A") rows) (λ a is_a.
      and_then_gives IsProper _ (look_in rows) (λ look is_look.
      map_gives IsProper _ (letters_in rows) (λ letters is_letters.
      let k = look_range look is_look in
      let n = letters_range letters is_letters in
      (k.0, k.1, n.0, n.1))))

  drill_range : IfSome (asks_drill rows) IsProper
  drill_range =
      and_then_gives IsProper _ (number_at (codes "SEED") 0 4294967295 rows) (λ seed is_seed.
      and_then_gives IsProper _ (number_at (codes "STATES") 2 512 rows) (λ states is_states.
      map_gives IsProper _ (number_at (codes "LABELS") 1 26 rows) (λ labels is_labels.
      let s = number_at_range (codes "SEED") 0 4294967295 rows seed is_seed in
      let n = number_at_range (codes "STATES") 2 512 rows states is_states in
      let l = number_at_range (codes "LABELS") 1 26 rows labels is_labels in
      let upto = s.1 in
      (omega arith, n.0, n.1, l.0, l.1))))

  upgrade_range : IfSome (asks_upgrade rows) IsProper
  upgrade_range =
      and_then_gives IsProper _ (first_of (codes "CERT") rows) (λ c is_c.
      map_gives IsProper _ (first_of (codes "OUT") rows) (λ d is_d. tt))

  cross_range : IfSome (asks_cross rows) IsProper
  cross_range =
      and_then_gives IsProper _ (first_of (codes "A") rows) (λ a is_a.
      and_then_gives IsProper _ (first_of (codes "B") rows) (λ b is_b.
      and_then_gives IsProper _ (first_of (codes "OUT") rows) (λ d is_d.
      map_gives IsProper _ (look_in rows) (λ look is_look. look_range look is_look))))

  cross_check_range : IfSome (asks_cross_check rows) IsProper
  cross_check_range =
      and_then_gives IsProper _ (first_of (codes "A") rows) (λ a is_a.
      and_then_gives IsProper _ (first_of (codes "B") rows) (λ b is_b.
      map_gives IsProper _ (first_of (codes "FILE") rows) (λ f is_f. tt)))

  equal_range : IfSome (asks_equal rows) IsProper
  equal_range =
      and_then_gives IsProper _ (first_of (codes "A") rows) (λ a is_a.
      and_then_gives IsProper _ (first_of (codes "B") rows) (λ b is_b.
      and_then_gives IsProper _ (first_of (codes "C1") rows) (λ c is_c.
      and_then_gives IsProper _ (first_of (codes "C2") rows) (λ d is_d. apart a b c d (not (bytes_eq c d)) refl))))
    where
      apart : (a b c d : List ℕ) (differ : Bool) → not (bytes_eq c d) ≡ differ → IfSome (if differ then Some (Equal a b c d) else None) IsProper
      apart a b c d true e = not_one c d e
      apart a b c d false e = tt

  batch_range : IfSome (asks_batch rows) IsProper
  batch_range = map_gives IsProper _ (first_of (codes "LIST") rows) (λ l is_l. tt)

  union_range : IfSome (asks_union rows) IsProper
  union_range =
      and_then_gives IsProper _ (first_of (codes "A") rows) (λ a is_a.
      map_gives IsProper _ (first_of (codes "B") rows) (λ b is_b. tt))

  intersect_range : IfSome (asks_intersect rows) IsProper
  intersect_range =
      and_then_gives IsProper _ (first_of (codes "A") rows) (λ a is_a.
      map_gives IsProper _ (first_of (codes "B") rows) (λ b is_b. tt))

  shrink_range : IfSome (asks_shrink rows) IsProper
  shrink_range =
      and_then_gives IsProper _ (first_of (codes "A") rows) (λ a is_a.
      and_then_gives IsProper _ (first_of (codes "B") rows) (λ b is_b.
      and_then_gives IsProper _ (first_of (codes "CERT") rows) (λ c is_c.
      map_gives IsProper _ (first_of (codes "OUT") rows) (λ d is_d. tt))))

  empty_range : IfSome (asks_empty rows) IsProper
  empty_range =
      and_then_gives IsProper _ (first_of (codes "A") rows) (λ a is_a.
      and_then_gives IsProper _ (first_of (codes "E") rows) (λ e is_e.
      and_then_gives IsProper _ (first_of (codes "CERT") rows) (λ c is_c.
      differing_range (λ a e c. Empty a e c (mode_by (first_of (codes "finite") rows))) (λ a e c apart. apart) a e c)))

  universal_range : IfSome (asks_universal rows) IsProper
  universal_range =
      and_then_gives IsProper _ (first_of (codes "A") rows) (λ a is_a.
      and_then_gives IsProper _ (first_of (codes "U") rows) (λ u is_u.
      and_then_gives IsProper _ (first_of (codes "CERT") rows) (λ c is_c.
      differing_range (λ a u c. Universal a u c (mode_by (first_of (codes "finite") rows))) (λ a u c apart. apart) a u c)))

  later_range : (name : List ℕ) → IfSome (asks_by_later name rows) IsProper
  later_range name =
      choice_gives IsProper (bytes_eq name (codes "equal")) (asks_equal rows) _ equal_range
      (choice_gives IsProper (bytes_eq name (codes "batch")) (asks_batch rows) _ batch_range
      (choice_gives IsProper (bytes_eq name (codes "union")) (asks_union rows) _ union_range
      (choice_gives IsProper (bytes_eq name (codes "intersect")) (asks_intersect rows) _ intersect_range
      (choice_gives IsProper (bytes_eq name (codes "shrink")) (asks_shrink rows) _ shrink_range
      (choice_gives IsProper (bytes_eq name (codes "empty")) (asks_empty rows) _ empty_range
      (choice_gives IsProper (bytes_eq name (codes "universal")) (asks_universal rows) None universal_range tt))))))

  by_range : (name : List ℕ) → IfSome (asks_by name rows) IsProper
  by_range name =
      choice_gives IsProper (bytes_eq name (codes "include")) (asks_include rows) _ include_range
      (choice_gives IsProper (bytes_eq name (codes "check")) (asks_check rows) _ check_range
      (choice_gives IsProper (bytes_eq name (codes "reduce")) (asks_reduce rows) _ reduce_range
      (choice_gives IsProper (bytes_eq name (codes "drill")) (asks_drill rows) _ drill_range
      (choice_gives IsProper (bytes_eq name (codes "upgrade")) (asks_upgrade rows) _ upgrade_range
      (choice_gives IsProper (bytes_eq name (codes "cross")) (asks_cross rows) _ cross_range
      (choice_gives IsProper (bytes_eq name (codes "cross-check")) (asks_cross_check rows) _ cross_check_range
      (later_range name)))))))

found_range : (found : Option (List ℕ × List Row)) → IfSome (asks_found found) IsProper
found_range None = tt
found_range (Some (name, rows)) = by_range rows name

unless_range : (kinds : Kinds) (found : Option (List ℕ × List Row)) → IfSome (asks_unless kinds found) IsProper
unless_range [] found = found_range found
unless_range (k ∷ ks) found = tt

pub question_is_proper : (words : List (List ℕ)) → IfSome (question_of words) IsProper
question_is_proper words = choice_gives IsProper (has_help_word words) None _ tt (unless_range (fault_of rabit_app (codes "rabit" ∷ words)) (subcommand_of rabit_app (codes "rabit" ∷ words)))
