-- What answers are: each has a text and keeps all rules of the check, and what it says is so.
use Rattle.std.proofs.Common.{◌≡◌, ℕ, ◌+◌, ◌<◌, ◌≤◌, ◌&&◌, Bool, true, List, [], ◌∷◌, length, Contains, slice_index_or, refl, sym, subst, inl, inr, arith}
use Rattle.std.specs.List.{list_all}
use Rattle.std.proofs.lemmas.Bool.{and_from, lt-ltb}
use Rattle.std.proofs.lemmas.List.Elements.{All-contains}
use Rattle.auto_core.specs.Automaton.{Automaton, IsAutomaton, IsInRange, trans}
use Rattle.auto_core.specs.Accept.{Includes, Same, SeparatesLasso, SeparatesWord}
use Rattle.auto_core.specs.Game.{IsGreatestForward}
use Rattle.auto_core.specs.Graph.{WordArc, IsReal, arcs_of}
use Rattle.auto_core.specs.Outcome.{Entry, Outcome, Closed, Apart, Limit, ComesOut, origins_in}
use Rattle.auto_core.specs.Run.{Run}
use Rattle.auto_core.specs.declared.parts.Lasso.{Lasso}
use Rattle.auto_core.specs.declared.parts.Mode.{Mode}
use Rattle.auto_core.specs.declared.parts.Mode.TheVariants.{Buchi, Finite}
use Rattle.auto_core.specs.declared.parts.Origin.{Origin}
use Rattle.auto_core.specs.declared.parts.Origin.TheVariants.{Start}
use Rattle.auto_core.proofs.PathLemmas.{Contains-cons_cases, none_in_nil}
use Rattle.auto_laws.proofs.PlaceLemmas.{at_within}
use Rattle.auto_laws.proofs.EntryLemmas.{entry_is_real}
use Rattle.auto_laws.proofs.PairEntryLemmas.{entry_is_reached}
use Rattle.auto_laws.proofs.OutcomeLemmas.{apart_end, apart_separates, limit_lists}
use Rattle.auto_laws.proofs.PairOutcomeLemmas.{apart_end as apart_pair_end, apart_separates_word, limit_lists_pairs}
use Rattle.std.proofs.lemmas.Option.{get_or_from_slice_get}
use Rattle.ba_format.specs.declared.parts.Joined.{Joined}
use Rattle.cert_value.specs.declared.types.Cert.{Cert}
use Rattle.cert_value.specs.declared.types.Body.{Body}
use Rattle.cert_value.specs.declared.types.Body.TheVariants.{Yes, NoLasso, NoWord, Listing}
use Rattle.cert_value.specs.declared.types.YesBody.{YesBody}
use Rattle.cert_value.specs.declared.types.ListBody.{ListBody}
use Rattle.cert_value.specs.declared.types.FirstStep.{FirstStep}
use Rattle.cert_value.specs.declared.types.SecondStep.{SecondStep}
use Rattle.cert_value.specs.WellFormed.{WellFormed, is_version, is_short, are_short, is_body, is_block, are_logs, are_steps, is_element, is_origin, has_some}
use Rattle.log_check.specs.Ends.{item_after}
use Rattle.cert_check.specs.Rules.{AreLabels, BodyHolds}
use Rattle.cert_check.specs.Laws.{IsValid}
use Rattle.cert_check.specs.Listing.{AreDifferentListed}
use Rattle.cert_check.proofs.ListingLemmas.{listed_in}
use Rattle.decide.specs.declared.terms.Terms.{Terms}
use Rattle.decide.specs.Terms.{AreBounded, IsVersioned}
use Rattle.auto_laws.proofs.BoundLemmas.{listed_supergraphs_are_few, listed_pairs_are_few}
use Rattle.decide.specs.Searches.{rules_in, bound_in, NoneSubsumedBeforeIn}
use Rattle.decide.specs.Answer.{IsOrder, Reductions, IsYesOf, IsListOf, IsLassoOf, IsWordOf, IsBodyOf, IsAnswer, IsAnswerBy}
use Rattle.decide.specs.Laws.{CanDecide, AreSettledEnds, StandApart, ListsNew, AnswerIsTrue, AnswersAreFormed, AnswersAreValid, AnswersAreTrue}
use Rattle.decide.proofs.EndLemmas.{AreGoodEnds, ends_in, good_ends}
use Rattle.decide.proofs.PlaceLemmas.{all_from_places, pass_from_places}
use Rattle.log_check.proofs.RowLemmas.{all_short}
use Rattle.decide.proofs.YesLemmas.{rules_hold, elements_formed, cover_formed, count_formed, steps_formed, includes, stand_apart, parts_of_placed, IsPlacedIn}
use Rattle.decide.proofs.ListLemmas.{list_holds, listed_differ}

-- The letters of a run are labels.
run_letters : (A : Automaton) → IsAutomaton A → (w : List ℕ) (p q : ℕ) (flag : Bool) → Run A p w q flag → (a : ℕ) → Contains w a → a < A.labels
run_letters A valid [] p q flag run a has = absurd (none_in_nil a has)
run_letters A valid (b ∷ w) p q flag (next, later, move, rest, e) a has = elim (Contains-cons_cases b a w has) [
  | inl same ↦ let range = All-contains (IsInRange A.states A.labels) A.transitions (trans p b next) valid.in_range move in let lt = range.2 in omega arith
  | inr behind ↦ run_letters A valid w next q later rest a behind
]

-- The words of a pair that fails: they have letters, which are labels.
record GoodWord (labels : ℕ) (w : List ℕ) : Type 0 where
  some : 1 ≤ length w
  letters : (a : ℕ) → Contains w a → a < labels

real_word : (A : Automaton) → IsAutomaton A → (x : WordArc) → IsReal A x → GoodWord A.labels x.word
real_word A valid x real = record { some = real.reads; letters = run_letters A valid x.word x.from x.to x.flag real.run }

abbrev Letters : ℕ → List ℕ → Type 0
Letters labels w = (a : ℕ) → Contains w a → a < labels

short_word : (labels : ℕ) (w : List ℕ) → labels ≤ 512 → Letters labels w → are_short w ≡ true
short_word labels w few letters = all_short w (λ a has. let lt = letters a has in omega arith)

labels_of : (labels : ℕ) (w : List ℕ) → Letters labels w → AreLabels labels w
labels_of labels w letters = all_from_places (λ a. a < labels) w (λ k a is. letters a (k, at_within w k a is, get_or_from_slice_get w k a a is))

-- What a list of the search of a mode has.
record IsListing (m : Mode) (A B : Automaton) (S : List (ℕ × ℕ)) (limit : ℕ) (origins : List Origin) : Type 0 where
  listed : AreDifferentListed m A B (limit + 1) origins
  size : length origins ≡ limit + 1
  placed : (e : ℕ) → e < length origins → IsPlacedIn m A (arcs_of A origins) e (slice_index_or origins e Start)
  fresh : NoneSubsumedBeforeIn (rules_in m A B S) A origins

listing : (m : Mode) (A B : Automaton) (S : List (ℕ × ℕ)) (limit : ℕ) (es : List Entry) → IsAutomaton B → IsGreatestForward B 1 S → ComesOut (rules_in m A B S) limit (Limit es) → IsListing m A B S limit (origins_in es)
listing Buchi A B S limit es valid greatest ends =
    let lists = limit_lists A B S limit es valid greatest ends in
    record { listed = listed_in Buchi A B (limit + 1) (origins_in es) lists.0; size = lists.0.size; placed = lists.0.placed; fresh = lists.1 }
listing Finite A B S limit es valid greatest ends =
    let lists = limit_lists_pairs A B S limit es valid greatest ends in
    record { listed = listed_in Finite A B (limit + 1) (origins_in es) lists.0; size = lists.0.size; placed = lists.0.placed; fresh = lists.1 }

-- Different elements are no more than the bound.
listing_few : (m : Mode) (A B : Automaton) (a b count : ℕ) (origins : List Origin) → IsAutomaton A → IsAutomaton B → A.states ≤ a → B.states ≤ b → AreDifferentListed m A B count origins → count ≤ bound_in m a b
listing_few Buchi A B a b count origins first second few_first few_second l = listed_supergraphs_are_few A B a b count origins first second few_first few_second l.listed
listing_few Finite A B a b count origins first second few_first few_second l = listed_pairs_are_few A B a b count origins first second few_first few_second l.listed

-- What separates the reduced automata separates the read ones.
lasso_separates : (A B C D : Automaton) → Same A C Buchi → Same B D Buchi → (u v : List ℕ) → SeparatesLasso C D u v → SeparatesLasso A B u v
lasso_separates A B C D first second u v apart = (first.1 u v apart.0, λ accepts. apart.1 (second.0 u v accepts))

word_separates : (A B C D : Automaton) → Same A C Finite → Same B D Finite → (w : List ℕ) → SeparatesWord C D w → SeparatesWord A B w
word_separates A B C D first second w apart = (first.1 w apart.0, λ accepts. apart.1 (second.0 w accepts))

-- What the reduced ones include the read ones do.
includes_back : (m : Mode) (A B C D : Automaton) → Same A C m → Same B D m → Includes C D m → Includes A B m
includes_back Buchi A B C D first second is = λ u v accepts. second.1 u v (is u v (first.0 u v accepts))
includes_back Finite A B C D first second is = λ w accepts. second.1 w (is w (first.0 w accepts))

-- What is said of a lasso that tells the reduced automata of the mode apart, and of a word.
record GoodLasso (labels : ℕ) (A B : Automaton) (lasso : Lasso) : Type 0 where
  prefix : Letters labels lasso.prefix
  turn : Letters labels lasso.turn
  some : 1 ≤ length lasso.turn
  apart : SeparatesLasso A B lasso.prefix lasso.turn

good_lasso : (m : Mode) (A B C D : Automaton) (S : List (ℕ × ℕ)) (limit : ℕ) (x z : Entry) (lasso : Lasso) → IsAutomaton C → Same A C m → Same B D m → ComesOut (rules_in m C D S) limit (Apart x z) → IsLassoOf m x z lasso → GoodLasso C.labels A B lasso
good_lasso Buchi A B C D S limit x z lasso valid first second ends (prefix_is, turn_is) =
    let has = apart_end C D S limit x z ends in
    let prefix : GoodWord C.labels lasso.prefix = subst (GoodWord C.labels) (sym prefix_is) (real_word C valid x.arc (entry_is_real C has.among has.grown.sound has.first x has.first_is)) in
    let turn : GoodWord C.labels lasso.turn = subst (GoodWord C.labels) (sym turn_is) (real_word C valid z.arc (entry_is_real C has.among has.grown.sound has.second z has.second_is)) in
    record {
      prefix = prefix.letters;
      turn = turn.letters;
      some = turn.some;
      apart = lasso_separates A B C D first second lasso.prefix lasso.turn
          (subst (λ u. SeparatesLasso C D u lasso.turn) (sym prefix_is) (subst (λ v. SeparatesLasso C D x.arc.word v) (sym turn_is) (apart_separates C D S limit x z ends)));
    }
good_lasso Finite A B C D S limit x z lasso valid first second ends is = absurd is

record SeparatingWord (labels : ℕ) (A B : Automaton) (word : List ℕ) : Type 0 where
  letters : Letters labels word
  apart : SeparatesWord A B word

good_word : (m : Mode) (A B C D : Automaton) (S : List (ℕ × ℕ)) (limit : ℕ) (x z : Entry) (word : List ℕ) → IsAutomaton C → Same A C m → Same B D m → ComesOut (rules_in m C D S) limit (Apart x z) → IsWordOf m x word → SeparatingWord C.labels A B word
good_word Buchi A B C D S limit x z word valid first second ends is = absurd is
good_word Finite A B C D S limit x z word valid first second ends is =
    let has = apart_pair_end C D S limit x z ends in
    let reached = entry_is_reached C has.among has.grown.sound has.first x has.first_is in
    record {
      letters = subst (Letters C.labels) (sym is) (run_letters C valid x.arc.word x.arc.from x.arc.to x.arc.flag reached.run);
      apart = word_separates A B C D first second word (subst (SeparatesWord C D) (sym is) (apart_separates_word C D S limit x z ends).1);
    }

lasso_formed : (v : ℕ) (m : Mode) (x z : Entry) (lasso : Lasso) → IsLassoOf m x z lasso → are_short lasso.prefix ≡ true → are_short lasso.turn ≡ true → has_some lasso.turn ≡ true → is_body v m (NoLasso lasso) ≡ true
lasso_formed v Buchi x z lasso is a b c = and_from (are_short lasso.prefix) (are_short lasso.turn && has_some lasso.turn) a (and_from (are_short lasso.turn) (has_some lasso.turn) b c)
lasso_formed v Finite x z lasso is a b c = absurd is

word_formed : (v : ℕ) (m : Mode) (x : Entry) (word : List ℕ) → IsWordOf m x word → are_short word ≡ true → is_body v m (NoWord word) ≡ true
word_formed v Buchi x word is a = absurd is
word_formed v Finite x word is a = a

-- Logs that are those of the log ends.
logs_are : (P : List FirstStep → List SecondStep → Type 0) (at : Reductions) (firsts : List FirstStep) (seconds : List SecondStep) → firsts ≡ at.first_log → seconds ≡ at.second_log → P at.first_log at.second_log → P firsts seconds
logs_are P at firsts seconds a b holds = subst (λ l. P l seconds) (sym a) (subst (P at.first_log) (sym b) holds)

module _ (pair : Joined) (terms : Terms) (can : CanDecide pair) (few : terms.limit ≤ 100000) (at : Reductions) (good : AreGoodEnds pair terms at) (S : List (ℕ × ℕ)) where
  abbrev A : Automaton
  A = at.first

  abbrev B : Automaton
  B = at.second

  abbrev m : Mode
  m = terms.mode

  abbrev limit : ℕ
  limit = terms.limit

  few_labels : A.labels ≤ 512
  few_labels = let e = good.first_labels in let n = can.few_labels in omega arith

  -- What is shown of a body: it has a text, it keeps the rules, and it says what is so.
  record Shown (body : Body) : Type 0 where
    formed : is_body terms.version m body ≡ true
    checked : BodyHolds m pair body
    truth : AnswerIsTrue pair terms body

  logs_formed : (firsts : List FirstStep) (seconds : List SecondStep) → firsts ≡ at.first_log → seconds ≡ at.second_log → are_logs terms.version m firsts seconds ≡ true
  logs_formed firsts seconds a b = logs_are (λ l k. are_logs terms.version m l k ≡ true) at firsts seconds a b good.formed

  logs_settled : (firsts : List FirstStep) (seconds : List SecondStep) → firsts ≡ at.first_log → seconds ≡ at.second_log → AreSettledEnds pair terms firsts seconds (ends_in at)
  logs_settled firsts seconds a b = logs_are (λ l m. AreSettledEnds pair terms l m (ends_in at)) at firsts seconds a b good.settled

  shown_yes : (es : List Entry) → IsOrder B S → ComesOut (rules_in m A B S) limit (Closed es) → (y : YesBody) → IsYesOf at terms S es y → Shown (Yes y)
  shown_yes es order ends y is = record {
    formed =
        and_from (are_logs terms.version m y.first y.second) (is_block y.order && (is_short (length y.elements) && (list_all (is_element m) y.elements && (are_short y.cover && are_steps 0 y.elements y.steps))))
        (logs_formed y.first y.second is.first_log is.second_log)
        (and_from (is_block y.order) (is_short (length y.elements) && (list_all (is_element m) y.elements && (are_short y.cover && are_steps 0 y.elements y.steps))) is.order.formed
        (and_from (is_short (length y.elements)) (list_all (is_element m) y.elements && (are_short y.cover && are_steps 0 y.elements y.steps))
        (count_formed m A B S limit es y good.first good.second good.few_transitions few order.greatest ends is.closure is.order.formed is.order.pairs)
        (and_from (list_all (is_element m) y.elements) (are_short y.cover && are_steps 0 y.elements y.steps)
        (elements_formed m A B S limit es y good.first good.second good.few_transitions few order.greatest ends is.closure is.order.formed is.order.pairs)
        (and_from (are_short y.cover) (are_steps 0 y.elements y.steps)
        (cover_formed m A B S limit es y good.first good.second good.few_transitions few order.greatest ends is.closure is.order.formed is.order.pairs)
        (steps_formed m A B S limit es y good.first good.second good.few_transitions few order.greatest ends is.closure is.order.formed is.order.pairs)))));
    checked = record {
      ends = ends_in at;
      logs = (logs_settled y.first y.second is.first_log is.second_log).lead;
      hold = rules_hold m A B S limit es y good.first good.second good.few_transitions few order.greatest ends is.closure is.order.formed is.order.pairs (item_after y.first y.second);
    };
    truth = (
      includes_back m pair.first pair.second A B good.first_same good.second_same
          (includes m A B S limit es y good.first good.second good.few_transitions few order.greatest ends is.closure is.order.formed is.order.pairs),
      record {
        ends = ends_in at;
        settled = logs_settled y.first y.second is.first_log is.second_log;
        order = S;
        ordered = order;
        apart = stand_apart m A B S limit es y good.first good.second good.few_transitions few order.greatest ends is.closure is.order.formed is.order.pairs;
      },
    );
  }

  shown_no : (x z : Entry) → ComesOut (rules_in m A B S) limit (Apart x z) → (lasso : Lasso) → IsLassoOf m x z lasso → Shown (NoLasso lasso)
  shown_no x z ends lasso is =
      let lasso_is = good_lasso m pair.first pair.second A B S limit x z lasso good.first good.first_same good.second_same ends is in
      record {
        formed = lasso_formed terms.version m x z lasso is (short_word A.labels lasso.prefix few_labels lasso_is.prefix) (short_word A.labels lasso.turn few_labels lasso_is.turn)
            (lt-ltb 0 (length lasso.turn) (let n = lasso_is.some in omega arith));
        checked = (
          subst (λ n. AreLabels n lasso.prefix) good.first_labels (labels_of A.labels lasso.prefix lasso_is.prefix),
          (subst (λ n. AreLabels n lasso.turn) good.first_labels (labels_of A.labels lasso.turn lasso_is.turn), (lasso_is.apart.0, (lasso_is.apart.1, tt))),
        );
        truth = lasso_is.apart;
      }

  shown_word : (x z : Entry) → ComesOut (rules_in m A B S) limit (Apart x z) → (word : List ℕ) → IsWordOf m x word → Shown (NoWord word)
  shown_word x z ends word is =
      let word_is = good_word m pair.first pair.second A B S limit x z word good.first good.first_same good.second_same ends is in
      record {
        formed = word_formed terms.version m x word is (short_word A.labels word few_labels word_is.letters);
        checked = (subst (λ n. AreLabels n word) good.first_labels (labels_of A.labels word word_is.letters), (word_is.apart.0, (word_is.apart.1, tt)));
        truth = word_is.apart;
      }

  shown_list : (es : List Entry) → IsOrder B S → ComesOut (rules_in m A B S) limit (Limit es) → (l : ListBody) → IsListOf at terms es l → Shown (Listing l)
  shown_list es order ends l is =
      let lists : IsListing m A B S limit l.elements = subst (IsListing m A B S limit) (sym is.origins) (listing m A B S limit es good.second order.greatest ends) in
      let count = lists.size in
      let limit_is = is.limit_is in
      record {
        formed =
            and_from (are_logs terms.version m l.first l.second) (is_short l.limit && (is_short (length l.elements) && list_all (is_origin m) l.elements)) (logs_formed l.first l.second is.first_log is.second_log)
            (and_from (is_short l.limit) (is_short (length l.elements) && list_all (is_origin m) l.elements) (lt-ltb l.limit 1000000000 (omega arith))
            (and_from (is_short (length l.elements)) (list_all (is_origin m) l.elements) (lt-ltb (length l.elements) 1000000000 (omega arith))
            (pass_from_places (is_origin m) l.elements (λ e o o_is.
            let within = at_within l.elements e o o_is in
            let here : IsPlacedIn m A (arcs_of A l.elements) e o = subst (IsPlacedIn m A (arcs_of A l.elements) e) (get_or_from_slice_get l.elements e o Start o_is) (lists.placed e within) in
            (parts_of_placed m A (arcs_of A l.elements) (length l.elements) e o within (omega arith) good.few_transitions here).short))));
        checked = record {
          ends = ends_in at;
          logs = (logs_settled l.first l.second is.first_log is.second_log).lead;
          hold = list_holds m (item_after l.first l.second) A B l (omega arith) good.few_transitions lists.placed (omega arith) (listed_differ m A B (limit + 1) l.elements lists.listed);
        };
        truth = record {
          ends = ends_in at;
          settled = logs_settled l.first l.second is.first_log is.second_log;
          listed = lists.listed;
          order = S;
          ordered = order;
          fresh = lists.fresh;
          below = (let n = listing_few m A B pair.first.states pair.second.states (limit + 1) l.elements good.first good.second good.first_fewer good.second_fewer lists.listed in omega arith);
        };
      }

  shown : (outcome : Outcome Entry) → IsOrder B S → ComesOut (rules_in m A B S) limit outcome → (body : Body) → IsBodyOf at terms S outcome body → Shown body
  shown (Closed es) order ends (Yes y) is = shown_yes es order ends y is
  shown (Closed es) order ends (NoLasso l) is = absurd is
  shown (Closed es) order ends (NoWord w) is = absurd is
  shown (Closed es) order ends (Listing l) is = absurd is
  shown (Apart x z) order ends (Yes y) is = absurd is
  shown (Apart x z) order ends (NoLasso l) is = shown_no x z ends l is
  shown (Apart x z) order ends (NoWord w) is = shown_word x z ends w is
  shown (Apart x z) order ends (Listing l) is = absurd is
  shown (Limit es) order ends (Yes y) is = absurd is
  shown (Limit es) order ends (NoLasso l) is = absurd is
  shown (Limit es) order ends (NoWord w) is = absurd is
  shown (Limit es) order ends (Listing l) is = shown_list es order ends l is

version_formed : (terms : Terms) → IsVersioned terms → is_version terms.version ≡ true
version_formed terms (inl (first, one)) = subst (λ v. is_version v ≡ true) (sym first) refl
version_formed terms (inr second) = subst (λ v. is_version v ≡ true) (sym second) refl

module _ (pair : Joined) (terms : Terms) (cert : Cert) (can : CanDecide pair) (bounds : AreBounded terms) (at : Reductions) (good : AreGoodEnds pair terms at) (answer : IsAnswerBy at pair terms cert) where
  body_shown : Shown pair terms can bounds.few at good answer.pairs cert.body
  body_shown = shown pair terms can bounds.few at good answer.pairs answer.outcome answer.decides.order answer.decides.ends cert.body answer.body

  is_formed : WellFormed cert
  is_formed =
      let s = answer.sizes in
      let first = s.0 in
      let second = s.1 in
      let labels = s.2 in
      let first_few = can.first_parts.states in
      let second_few = can.second_parts.states in
      let few_labels = can.few_labels in
      and_from (is_version cert.version) (is_short cert.first_states && (is_short cert.second_states && (is_short cert.labels && is_body cert.version cert.mode cert.body)))
      (subst (λ v. is_version v ≡ true) (sym answer.version) (version_formed terms bounds.versioned))
      (and_from (is_short cert.first_states) (is_short cert.second_states && (is_short cert.labels && is_body cert.version cert.mode cert.body)) (lt-ltb cert.first_states 1000000000 (omega arith))
      (and_from (is_short cert.second_states) (is_short cert.labels && is_body cert.version cert.mode cert.body) (lt-ltb cert.second_states 1000000000 (omega arith))
      (and_from (is_short cert.labels) (is_body cert.version cert.mode cert.body) (lt-ltb cert.labels 1000000000 (omega arith))
      (subst (λ v. is_body v cert.mode cert.body ≡ true) (sym answer.version) (subst (λ m. is_body terms.version m cert.body ≡ true) (sym answer.mode) body_shown.formed)))))

  is_valid : IsValid pair cert
  is_valid = record {
    formed = is_formed;
    keeps = (answer.sizes, subst (λ m. BodyHolds m pair cert.body) (sym answer.mode) body_shown.checked);
  }

  is_true : AnswerIsTrue pair terms cert.body
  is_true = body_shown.truth

pub answers_are_formed : AnswersAreFormed
answers_are_formed pair terms cert can bounds (at, ends, answer) = is_formed pair terms cert can bounds at (good_ends pair terms at can bounds ends) answer

pub answers_are_valid : AnswersAreValid
answers_are_valid pair terms cert can bounds (at, ends, answer) = is_valid pair terms cert can bounds at (good_ends pair terms at can bounds ends) answer

pub answers_are_true : AnswersAreTrue
answers_are_true pair terms cert can bounds (at, ends, answer) = is_true pair terms cert can bounds at (good_ends pair terms at can bounds ends) answer

-- The same, body by body.
module _ (pair : Joined) (terms : Terms) (cert : Cert) (can : CanDecide pair) (bounds : AreBounded terms) (answer : IsAnswer pair terms cert) where
  says : (body : Body) → cert.body ≡ body → AnswerIsTrue pair terms body
  says body is = subst (AnswerIsTrue pair terms) is (answers_are_true pair terms cert can bounds answer)

  pub yes_includes : (y : YesBody) → cert.body ≡ Yes y → Includes pair.first pair.second terms.mode
  yes_includes y is = (says (Yes y) is).0

  pub yes_stands_apart : (y : YesBody) → cert.body ≡ Yes y → StandApart pair terms y
  yes_stands_apart y is = (says (Yes y) is).1

  pub no_separates : (lasso : Lasso) → cert.body ≡ NoLasso lasso → SeparatesLasso pair.first pair.second lasso.prefix lasso.turn
  no_separates lasso is = says (NoLasso lasso) is

  pub word_tells_apart : (word : List ℕ) → cert.body ≡ NoWord word → SeparatesWord pair.first pair.second word
  word_tells_apart word is = says (NoWord word) is

  pub list_is_new : (l : ListBody) → cert.body ≡ Listing l → ListsNew pair terms l
  list_is_new l is = says (Listing l) is

  pub no_list_at_bound : bound_in terms.mode pair.first.states pair.second.states ≤ terms.limit → (l : ListBody) → cert.body ≡ Listing l → ⊥
  no_list_at_bound high l is = (let below = (list_is_new l is).below in omega arith)
