-- What a line is refused for: never because the bytes end or go on, and for a heading only in the first line.
use Rattle.std.proofs.Common.{◌≡◌, ℕ, List, ◌==◌, Bool, true, false, not, Option, Some, None, Ok, Err, if◌then◌else◌, refl, subst}
use Rattle.auto_core.specs.declared.parts.Mode.{Mode}
use Rattle.auto_core.specs.declared.parts.Mode.TheVariants as mode
use Rattle.cert_line.specs.declared.faults.TextKind.{TextKind}
use Rattle.cert_line.specs.declared.faults.TextKind.TheVariants as kind
use Rattle.cert_value.specs.Text.{Line}
use Rattle.cert_line.specs.Shapes.{fits, has_empty, has_numbers, has_count, line_fault}
use Rattle.cert_line.specs.Lines.{Said, unless, as_shape, in_order, either, word_in, number_in, numbers_in, ascending_in, sizes_in, row_in, rank_row_in, gone_by_in, trim_in, first_head_in, plain_delayed_in, announced_delayed_in, delayed_in, delayed_or_cut_in, second_head_in, origin_in, element_in, step_in, heading_in, heading_said, or_else, version_heading_in}
use Rattle.cert_text.proofs.ReaderLemmas.{IsLineKind, SaysOwn, TellsOwn}

pub ok_own : {A : Type 0} (head : Bool) (a : A) → SaysOwn head (Ok a)
ok_own head a kind e = absurd (cc)

-- a fault of a line's own kind
pub err_own : {A : Type 0} (head : Bool) (fault : TextKind) → IsLineKind head fault → SaysOwn {A = A} head (Err fault)
err_own head fault own kind e = let same : fault ≡ kind = cc in subst (IsLineKind head) same own

pub if_own : {A : Type 0} (head : Bool) (b : Bool) (x y : Said A) → SaysOwn head x → SaysOwn head y → SaysOwn head (if b then x else y)
if_own head true x y p q = p
if_own head false x y p q = q

-- what is told where there is no such fault
unless_if : {A : Type 0} (head : Bool) (b : Bool) (kind : TextKind) (o : Option TextKind) (said : Said A)
    → SaysOwn {A = A} head (Err kind) → SaysOwn head (unless o said) → SaysOwn head (unless (if b then Some kind else o) said)
unless_if head true kind o said p q = p
unless_if head false kind o said p q = q

form_own : {A : Type 0} (head : Bool) (places : _) (tail : _) (told : Line → Said A)
    → TellsOwn head told → TellsOwn head (as_shape places tail told)
form_own head places tail told own line =
    unless_if head (has_empty line) kind.Shape _ (told line) (err_own head kind.Shape tt)
    (unless_if head (not (fits places line)) kind.Shape _ (told line) (err_own head kind.Shape tt)
    (unless_if head (not (has_numbers places tail line)) kind.Number _ (told line) (err_own head kind.Number tt)
    (unless_if head (not (has_count places tail line)) kind.Shape None (told line) (err_own head kind.Shape tt) (own line))))

in_order_own : {A : Type 0} (head : Bool) (right : Bool) (a : A) → SaysOwn head (in_order right a)
in_order_own head right a = if_own head right (Ok a) (Err kind.Order) (ok_own head a) (err_own head kind.Order tt)

either_own : {A : Type 0} (head : Bool) (places : _) (told other : Line → Said A)
    → TellsOwn head told → TellsOwn head other → TellsOwn head (either places told other)
either_own head places told other p q line = if_own head (fits places line) (told line) (other line) (p line) (q line)

-- a shape that takes any numbers
plain_own : {A : Type 0} (head : Bool) (places : _) (tail : _) (value : Line → A) → TellsOwn head (as_shape places tail (λ tokens. Ok (value tokens)))
plain_own head places tail value = form_own head places tail (λ tokens. Ok (value tokens)) (λ tokens. ok_own head (value tokens))

-- a shape with an order
sorted_own : {A : Type 0} (head : Bool) (places : _) (tail : _) (right : Line → Bool) (value : Line → A)
    → TellsOwn head (as_shape places tail (λ tokens. in_order (right tokens) (value tokens)))
sorted_own head places tail right value =
    form_own head places tail (λ tokens. in_order (right tokens) (value tokens)) (λ tokens. in_order_own head (right tokens) (value tokens))

pub word_own : (w : _) → TellsOwn false (word_in w)
word_own w = search plain_own

pub number_in_own : (w : _) → TellsOwn false (number_in w)
number_in_own w = search plain_own

pub numbers_own : (w : _) (tail : _) → TellsOwn false (numbers_in w tail)
numbers_own w tail = search plain_own

pub ascending_own : (w : _) (tail : _) → TellsOwn false (ascending_in w tail)
ascending_own w tail = search sorted_own

pub sizes_own : TellsOwn false sizes_in
sizes_own = search plain_own

pub row_own : (v bound : ℕ) → TellsOwn false (row_in v bound)
row_own v bound = search sorted_own

pub rank_row_own : (letters : ℕ) (key : List ℕ) → TellsOwn false (rank_row_in letters key)
rank_row_own letters key = search sorted_own

pub gone_by_own : TellsOwn false gone_by_in
gone_by_own = search sorted_own

trim_own : {A : Type 0} (head : List ℕ → A) → TellsOwn false (trim_in head)
trim_own head = search sorted_own

-- a shape with a test of its own
tested_own : {A : Type 0} (head : Bool) (places : _) (tail : _) (right : Line → Bool) (value : Line → A)
    → TellsOwn head (as_shape places tail (λ tokens. if right tokens then Ok (value tokens) else Err kind.Shape))
tested_own head places tail right value =
    form_own head places tail (λ tokens. if right tokens then Ok (value tokens) else Err kind.Shape)
    (λ tokens. if_own head (right tokens) (Ok (value tokens)) (Err kind.Shape) (ok_own head (value tokens)) (err_own head kind.Shape tt))

pub first_head_own : TellsOwn false first_head_in
first_head_own = search (either_own, plain_own, sorted_own, tested_own)

announced_delayed_own : TellsOwn false announced_delayed_in
announced_delayed_own = search tested_own

plain_delayed_own : TellsOwn false plain_delayed_in
plain_delayed_own = search plain_own

delayed_own : (v : ℕ) → TellsOwn false (delayed_in v)
delayed_own v line =
    if_own false (v == 2) (announced_delayed_in line) (plain_delayed_in line) (announced_delayed_own line) (plain_delayed_own line)

delayed_or_cut_own : (v : ℕ) (m : Mode) → TellsOwn false (delayed_or_cut_in v m)
delayed_or_cut_own v (mode.Buchi) = search (either_own, plain_own, delayed_own)
delayed_or_cut_own v (mode.Finite) = search plain_own

pub second_head_own : (v : ℕ) (m : Mode) → TellsOwn false (second_head_in v m)
second_head_own v m = search (either_own, plain_own, sorted_own, delayed_or_cut_own)

pub origin_own : (m : Mode) → TellsOwn false (origin_in m)
origin_own (mode.Buchi) = search (either_own, plain_own)
origin_own (mode.Finite) = search (either_own, plain_own)

pub element_own : (m : Mode) → TellsOwn false (element_in m)
element_own (mode.Buchi) = search (either_own, plain_own)
element_own (mode.Finite) = search (either_own, plain_own)

pub step_own : (n : ℕ) → TellsOwn false (step_in n)
step_own n = search sorted_own

-- the first line
said_own : (o : Option _) → SaysOwn true (heading_said o)
said_own (Some h) = ok_own true h
said_own None = err_own true kind.Header refl

pub heading_own : TellsOwn true heading_in
heading_own line = said_own (or_else (version_heading_in 1 line) (version_heading_in 2 line))

-- What holds of whatever a line says.
pub record Tells {A : Type 0} (P : A → Type 0) (said : Line → Said A) : Type 0 where
  pub each : (line : Line) (a : A) → said line ≡ Ok a → P a

pub of_if : {A : Type 0} (P : A → Type 0) (b : Bool) (x y : Said A) (a : A)
    → (if b then x else y) ≡ Ok a → (x ≡ Ok a → P a) → (y ≡ Ok a → P a) → P a
of_if P true x y a e p q = p e
of_if P false x y a e p q = q e

pub of_said : {A : Type 0} (P : A → Type 0) (x a : A) (said : Said A) → said ≡ Ok x → said ≡ Ok a → P x → P a
of_said P x a (Ok b) e f p = let same : x ≡ a = cc in subst P same p
of_said P x a (Err kind) e f p = absurd (cc)

of_err : {A : Type 0} (P : A → Type 0) (fault : TextKind) (a : A) → Err fault ≡ Ok a → P a
of_err P fault a e = absurd (cc)

of_unless : {A : Type 0} (P : A → Type 0) (o : Option TextKind) (said : Said A) (a : A) → unless o said ≡ Ok a → (said ≡ Ok a → P a) → P a
of_unless P (Some fault) said a e p = of_err P fault a e
of_unless P None said a e p = p e

of_form : {A : Type 0} (P : A → Type 0) (places : _) (tail : _) (told : Line → Said A)
    → ((line : Line) (a : A) → told line ≡ Ok a → P a) → Tells P (as_shape places tail told)
of_form P places tail told p = record { each = λ line a e. of_unless P (line_fault places tail line) (told line) a e (p line a) }

pub plain_tells : {A : Type 0} (P : A → Type 0) (places : _) (tail : _) (value : Line → A)
    → ((line : Line) → P (value line)) → Tells P (as_shape places tail (λ tokens. Ok (value tokens)))
plain_tells P places tail value p =
    of_form P places tail (λ tokens. Ok (value tokens)) (λ line a e. of_said P (value line) a (Ok (value line)) refl e (p line))

pub tested_tells : {A : Type 0} (P : A → Type 0) (places : _) (tail : _) (right : Line → Bool) (value : Line → A) (fault : TextKind)
    → ((line : Line) → P (value line)) → Tells P (as_shape places tail (λ tokens. if right tokens then Ok (value tokens) else Err fault))
tested_tells P places tail right value fault p =
    of_form P places tail (λ tokens. if right tokens then Ok (value tokens) else Err fault) (λ line a e.
    of_if P (right line) (Ok (value line)) (Err fault) a e (λ f. of_said P (value line) a (Ok (value line)) refl f (p line)) (λ f. of_err P fault a f))

pub either_tells : {A : Type 0} (P : A → Type 0) (places : _) (told other : Line → Said A) → Tells P told → Tells P other → Tells P (either places told other)
either_tells P places told other p q =
    record { each = λ line a e. of_if P (fits places line) (told line) (other line) a e (p.each line a) (q.each line a) }
