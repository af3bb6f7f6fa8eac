-- Places: left states with words.
use Rattle.std.proofs.Common.{◌≡◌, ℕ, zero, suc, ◌+◌, ◌-◌, ◌*◌, ◌/◌, ◌%◌, ◌^◌, ◌<◌, ◌≤◌, List, length, sym, ap, ◌∙◌, subst, arith}
use Rattle.std.proofs.lemmas.Nat.{div-add-mod', div-mul-add, mod-mul-add, mul-add-lt, mod_below, div_below, same_from_place}
use Rattle.std.proofs.Math.Nat.{mul_comm}
use Rattle.auto_core.specs.Delayed.{IsTripleWord}
use Rattle.delayed_sim.specs.Words.{word_number, digits, place_of}
use Rattle.delayed_sim.proofs.WordLemmas.{number_below, length-digits, digits_below, number-digits, digits-number, number_one}

module _ (labels n : ℕ) where
  pub letters_before : (b : List ℕ) → IsTripleWord labels n b → length b ≡ n - 1
  letters_before b h = let len = h.0 in omega arith

  -- the word of a place is below the number of words
  pub word_below : (b : List ℕ) → IsTripleWord labels n b → word_number labels b < labels ^ (n - 1)
  word_below b h = subst (λ i. word_number labels b < labels ^ i) (letters_before b h) (number_below labels b h.1)

  pub place_is : (p : ℕ) (b : List ℕ) → IsTripleWord labels n b → place_of labels p b ≡ p * labels ^ (n - 1) + word_number labels b
  place_is p b h = ap (λ i. p * labels ^ i + word_number labels b) (letters_before b h)

  pub place_below : (states p : ℕ) (b : List ℕ) → IsTripleWord labels n b → p < states → place_of labels p b < states * labels ^ (n - 1)
  place_below states p b h lt =
      let below = mul-add-lt p (labels ^ (n - 1)) (word_number labels b) states lt (word_below b h) in
      let turned = mul_comm (labels ^ (n - 1)) states in
      omega (arith, place_is p b h)

  -- the state of a place
  pub place_state : (p : ℕ) (b : List ℕ) → IsTripleWord labels n b → place_of labels p b / labels ^ (n - 1) ≡ p
  place_state p b h = ap (λ x. x / labels ^ (n - 1)) (place_is p b h) ∙ div-mul-add p (labels ^ (n - 1)) (word_number labels b) (word_below b h)

  -- its letters
  pub place_letters : (p : ℕ) (b : List ℕ) → IsTripleWord labels n b → digits labels (n - 1) (place_of labels p b % labels ^ (n - 1)) ≡ b
  place_letters p b h =
      let rest : place_of labels p b % labels ^ (n - 1) ≡ word_number labels b =
      ap (λ x. x % labels ^ (n - 1)) (place_is p b h) ∙ mod-mul-add p (labels ^ (n - 1)) (word_number labels b) (word_below b h) in
      ap (λ m. digits labels m (place_of labels p b % labels ^ (n - 1))) (sym (letters_before b h)) ∙ ap (digits labels (length b)) rest ∙ digits-number labels b h.1

  -- a place has one state and one word
  pub place_one : (p : ℕ) (b : List ℕ) (r : ℕ) (c : List ℕ) → IsTripleWord labels n b → IsTripleWord labels n c → place_of labels p b ≡ place_of labels r c → (p ≡ r) × (b ≡ c)
  place_one p b r c h g e =
      let both = same_from_place p (word_number labels b) r (word_number labels c) (labels ^ (n - 1)) (word_below b h) (word_below c g) (sym (place_is p b h) ∙ e ∙ place_is r c g) in
      (both.0, number_one labels b c (letters_before b h ∙ sym (letters_before c g)) h.1 g.1 both.1)

  pub words_some : (states x : ℕ) → x < states * labels ^ (n - 1) → 0 < labels ^ (n - 1)
  words_some states x lt = by (labels ^ (n - 1)) lt
    where
      none_times : (s : ℕ) → s * zero ≡ zero
      none_times s = grind arith

      by : (w : ℕ) → x < states * w → 0 < w
      by zero less = absurd (omega (arith, none_times states))
      by (suc w) less = omega arith

  -- the word of the place with this number
  pub letters_of_place : (states x : ℕ) → 1 ≤ n → x < states * labels ^ (n - 1) → IsTripleWord labels n (digits labels (n - 1) (x % labels ^ (n - 1)))
  letters_of_place states x some lt =
      let words = words_some states x lt in
      (omega (arith, length-digits labels (n - 1) (x % labels ^ (n - 1))), digits_below labels (n - 1) (x % labels ^ (n - 1)) (mod_below x (labels ^ (n - 1)) words))

  pub state_of_place : (states x : ℕ) → x < states * labels ^ (n - 1) → x / labels ^ (n - 1) < states
  state_of_place states x lt = div_below x (labels ^ (n - 1)) states (words_some states x lt) lt

  pub number_of_place : (states x : ℕ) → 1 ≤ n → x < states * labels ^ (n - 1) → place_of labels (x / labels ^ (n - 1)) (digits labels (n - 1) (x % labels ^ (n - 1))) ≡ x
  number_of_place states x some lt =
      let words = words_some states x lt in
      let w = labels ^ (n - 1) in
      place_is (x / w) (digits labels (n - 1) (x % w)) (letters_of_place states x some lt)
      ∙ ap (λ r. x / w * w + r) (number-digits labels (n - 1) (x % w) (mod_below x w words))
      ∙ div-add-mod' x w
