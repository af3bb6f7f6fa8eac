use Rattle.std.proofs.Common.{◌≡◌, ℕ, ◌==◌, List, [], ◌∷◌, length, Bool, true, false, ◌&&◌, cond, nat_le, refl, sym, subst, eqb-true}
use Rattle.std.specs.List.{list_all}
use Rattle.std.proofs.lemmas.Bool.{and_parts, and_from}
use Rattle.auto_core.specs.declared.parts.Mode.{Mode}
use Rattle.auto_core.specs.declared.parts.Mode.TheVariants as mode
use Rattle.cert_value.specs.declared.types.Cert.{Cert}
use Rattle.cert_value.specs.declared.types.Body.{Body}
use Rattle.cert_value.specs.declared.types.Body.TheVariants as body
use Rattle.cert_value.specs.declared.types.FirstStep.{FirstStep}
use Rattle.cert_value.specs.declared.types.SecondStep.{SecondStep}
use Rattle.cert_value.specs.declared.types.SecondStep.TheVariants as second
use Rattle.cert_value.specs.declared.types.Grounds.{Grounds}
use Rattle.cert_value.specs.declared.types.Grounds.TheVariants as grounds
use Rattle.cert_value.specs.WellFormed.{is_short, is_version, are_letters, is_rank_block, are_classes, are_grounds, is_second_step, is_first_step, are_logs, is_body, has_text, upgraded}

letters_by : (b : Bool) (n : ℕ) → cond b (nat_le 1 n && nat_le n 4) (n == 1) ≡ true → (nat_le 1 n && nat_le n 4) ≡ true
letters_by true n e = e
letters_by false n e =
    let P : ℕ → Type 0 = λ n. (nat_le 1 n && nat_le n 4) ≡ true in
    subst P (sym (eqb-true n 1 e)) refl

grounds_up : (v : ℕ) (m : Mode) (by : Grounds) → are_grounds v m by ≡ true → are_grounds 2 m by ≡ true
grounds_up v m (grounds.Forward look rel) e = e
grounds_up v m (grounds.Backward look rel) e = e
grounds_up v (mode.Buchi) (grounds.Delayed letters ranks) e =
    let a = and_parts (are_letters v letters) (is_rank_block letters ranks) e in
    and_from (are_letters 2 letters) (is_rank_block letters ranks) (letters_by (v == 2) letters a.0) a.1
grounds_up v (mode.Finite) (grounds.Delayed letters ranks) e = e

step_up : (v : ℕ) (m : Mode) (s : SecondStep) → is_second_step v m s ≡ true → is_second_step 2 m s ≡ true
step_up v m (second.Trim kept) e = e
step_up v m (second.Merge by classes) e =
    let a = and_parts (are_classes classes) (are_grounds v m by) e in
    and_from (are_classes classes) (are_grounds 2 m by) a.0 (grounds_up v m by a.1)
step_up v m (second.Cut gone) e = e

steps_up : (v : ℕ) (m : Mode) (ss : List SecondStep) → list_all (is_second_step v m) ss ≡ true → list_all (is_second_step 2 m) ss ≡ true
steps_up v m [] e = refl
steps_up v m (s ∷ ss) e =
    let a = and_parts (is_second_step v m s) (list_all (is_second_step v m) ss) e in
    and_from (is_second_step 2 m s) (list_all (is_second_step 2 m) ss) (step_up v m s a.0) (steps_up v m ss a.1)

logs_up : (v : ℕ) (m : Mode) (fs : List FirstStep) (ss : List SecondStep) → are_logs v m fs ss ≡ true → are_logs 2 m fs ss ≡ true
logs_up v m fs ss e =
    let a = and_parts (is_short (length fs)) _ e in
    let b = and_parts (list_all is_first_step fs) _ a.1 in
    let c = and_parts (is_short (length ss)) (list_all (is_second_step v m) ss) b.1 in
    and_from (is_short (length fs)) _ a.0
    (and_from (list_all is_first_step fs) _ b.0
    (and_from (is_short (length ss)) (list_all (is_second_step 2 m) ss) c.0 (steps_up v m ss c.1)))

body_up : (v : ℕ) (m : Mode) (b : Body) → is_body v m b ≡ true → is_body 2 m b ≡ true
body_up v m (body.Yes y) e =
    let a = and_parts (are_logs v m y.first y.second) _ e in
    and_from (are_logs 2 m y.first y.second) _ (logs_up v m y.first y.second a.0) a.1
body_up v (mode.Buchi) (body.NoLasso lasso) e = e
body_up v (mode.Finite) (body.NoLasso lasso) e = e
body_up v (mode.Buchi) (body.NoWord word) e = e
body_up v (mode.Finite) (body.NoWord word) e = e
body_up v m (body.Listing list) e =
    let a = and_parts (are_logs v m list.first list.second) _ e in
    and_from (are_logs 2 m list.first list.second) _ (logs_up v m list.first list.second a.0) a.1

-- what has a text has one in version 2
pub text_up : (c : Cert) → has_text c ≡ true → has_text (upgraded c) ≡ true
text_up c e =
    let v = and_parts (is_version c.version) _ e in
    let a = and_parts (is_short c.first_states) _ v.1 in
    let b = and_parts (is_short c.second_states) _ a.1 in
    let d = and_parts (is_short c.labels) _ b.1 in
    and_from (is_version 2) _ refl
    (and_from (is_short c.first_states) _ a.0
    (and_from (is_short c.second_states) _ b.0
    (and_from (is_short c.labels) _ d.0 (body_up c.version c.mode c.body d.1))))
