-- `cross` and `cross-check`: one reply, what it shows, and what it leaves.
use Rattle.std.proofs.Common.{◌≡◌, ◌⊎◌, ℕ, ◌≤◌, List, [], ◌∷◌, inl, inr, sym, ◌∙◌, ap, subst, arith}
use Rattle.std.specs.Io.KnownBytes.{append_known}
use Rattle.shelf_io.specs.Shelf.{FileMap}
use Rattle.shelf_io.specs.Seen.{Call}
use Rattle.ba_format.specs.declared.parts.Named.{Named}
use Rattle.ba_format.specs.declared.parts.Joined.{Joined}
use Rattle.ba_format.specs.Joining.{IsJoined}
use Rattle.ba_format.proofs.LawLemmas.{joins_as_one}
use Rattle.cert_text.specs.declared.cross.Cross.{Cross}
use Rattle.cross_sim.specs.declared.faults.CrossRefusal.{CrossRefusal}
use Rattle.cross_sim.specs.Rules.{KeepsCrossRules}
use Rattle.cross_sim.proofs.CheckLemmas.{kept_rules_include, none_breaks, break_one}
use Rattle.cross_sim.proofs.WrittenLemmas.{cross_is_one, greatest_cross_keeps_rules}
use Rattle.rabit_frame.specs.declared.parts.Value.{Value}
use Rattle.rabit_frame.specs.declared.parts.Value.TheVariants as value
use Rattle.rabit_frame.specs.declared.parts.Status.TheVariants as status
use Rattle.rabit_frame.specs.declared.parts.Reply.{Reply}
use Rattle.rabit_frame.specs.declared.parts.Ending.{Ending}
use Rattle.rabit_frame.specs.Statuses.{status_number}
use Rattle.rabit_frame.specs.Request.{request_with}
use Rattle.rabit_frame.specs.Reading.{ReadInTurn, StopInTurn, reply_with, only_said}
use Rattle.rabit_frame.specs.Ending.{IsReplyFor, BeforeAndAfter, IsCutShort, WasSaid, filed, Sends}
use Rattle.rabit_frame.specs.Carrying.{EndsSo}
use Rattle.rabit_frame.proofs.EndLemmas.{leaves_by_status}
use Rattle.rabit_frame.proofs.OneLemmas.{one_read_in_turn, stop_or_read_in_turn}
use Rattle.rabit_frame.specs.Printed.{by_simulation_text, refused_text}
use Rattle.rabit_frame.specs.FileKinds.{ReadsPair, pair_inputs}
use Rattle.rabit_cli.specs.Cross.{cross_put, HasInitialPair, IsCrossReply, MeansCross, HoldsCross, HoldsCrossFront, LeavesCross, ShowsCross, IsCrossStatus, cross_check_inputs, ConcludesCross, MeansCrossCheck, ShowsCrossCheck, IsCrossCheckStatus}

-- ---- `cross`

one_cross_reply : (name : List ℕ) (look : ℕ) (pair : Joined) (r s : Reply) → IsCrossReply name look pair r → IsCrossReply name look pair s → r ≡ s
one_cross_reply name look pair r s (cross, of, says) (cross', of', says') =
    let same : cross ≡ cross' = cross_is_one pair look cross cross' of of' in
    elim says [
      | inl (has, e) ↦ elim says' [
        | inl (has', e') ↦ e ∙ ap (λ c. reply_with status.Done by_simulation_text (cross_put name c ∷ [])) same ∙ sym e'
        | inr (lacks, e') ↦ absurd (lacks (subst (HasInitialPair pair) same has))
      ]
      | inr (lacks, e) ↦ elim says' [
        | inl (has', e') ↦ absurd (lacks (subst (HasInitialPair pair) (sym same) has'))
        | inr (lacks', e') ↦ e ∙ sym e'
      ]
    ]

pub one_cross : (name : List ℕ) (look : ℕ) (values : List Value) (r s : Reply) → MeansCross name look values r → MeansCross name look values s → r ≡ s
one_cross name look values r s (one, two, is, (pair, joined, says)) (one', two', is', (pair', joined', says')) =
    let all = sym is ∙ is' in
    let first : one ≡ one' = cc in
    let second : two ≡ two' = cc in
    let P : Named → Type 0 = λ z. IsJoined z two pair in
    let Q : Named → Type 0 = λ z. IsJoined one' z pair in
    let same : pair ≡ pair' = joins_as_one one' two' pair pair' (subst Q second (subst P first joined)) joined' in
    one_cross_reply name look pair' r s (subst (λ z. IsCrossReply name look z r) same says) says'

-- its status is 0 or 10, and only with 0 a file is written
pub cross_number : (name : List ℕ) (look : ℕ) (values : List Value) (r : Reply) → MeansCross name look values r → (status_number r.status ≡ 0) ⊎ (status_number r.status ≡ 10)
cross_number name look values r (one, two, is, (pair, joined, (cross, of, says))) =
    elim says [ inl (has, e) ↦ inl (ap (λ z. status_number z.status) e) | inr (lacks, e) ↦ inr (ap (λ z. status_number z.status) e) ]

cross_writes : (name : List ℕ) (look : ℕ) (values : List Value) (r : Reply) → MeansCross name look values r → 3 ≤ status_number r.status → r.puts ≡ []
cross_writes name look values r (one, two, is, (pair, joined, (cross, of, says))) high =
    elim says [ inl (has, e) ↦ absurd (let zero = ap (λ z. status_number z.status) e in omega arith) | inr (lacks, e) ↦ ap (λ z. z.puts) e ]

module _ (files : FileMap) (a b out : List ℕ) (look : ℕ) where
  read_pair : (values : List Value) (one two : Named) (pair : Joined) → ReadInTurn files (pair_inputs a b) values → values ≡ value.Automaton one ∷ value.Automaton two ∷ [] → IsJoined one two pair → ReadsPair files a b pair
  read_pair values one two pair reads is joined = let (first, (second, end)) = subst (ReadInTurn files (pair_inputs a b)) is reads in (one, two, first, second, joined)

  pub holds_cross : (files' : FileMap) (values : List Value) (r : Reply) → ReadInTurn files (pair_inputs a b) values → MeansCross out look values r → status_number r.status ≤ 2 → files' ≡ filed files r.puts → HoldsCross files a b out look files'
  holds_cross files' values r reads (one, two, is, (pair, joined, (cross, of, says))) low left = elim says [
    | inl (has, e) ↦ (pair, cross, (read_pair values one two pair reads is joined, of, has), left ∙ ap (λ z. filed files z.puts) e)
    | inr (lacks, e) ↦ absurd (let ten = ap (λ z. status_number z.status) e in omega arith)
  ]

  pub holds_cross_front : (files' : FileMap) (values : List Value) (r : Reply) → ReadInTurn files (pair_inputs a b) values → MeansCross out look values r → IsCutShort files r.puts files' → HoldsCrossFront files a b out look files'
  holds_cross_front files' values r reads (one, two, is, (pair, joined, (cross, of, says))) cut = elim says [
    | inl (has, e) ↦ (pair, cross, (read_pair values one two pair reads is joined, of, has), subst (λ ps. IsCutShort files ps files') (ap (λ z. z.puts) e) cut)
    | inr (lacks, e) ↦ absurd (subst (λ ps. IsCutShort files ps files') (ap (λ z. z.puts) e) cut)
  ]

  pub shows_cross : (call : Call) (files' : FileMap) (r : Reply) → 1 ≤ look → look ≤ 6 → status_number r.status ≡ call.status → files' ≡ filed files r.puts → Sends r.text call.before.sink call.after.sink → (values : List Value) →
      ReadInTurn files (pair_inputs a b) values → MeansCross out look values r → ShowsCross a b out look call files files'
  shows_cross call files' r from upto number left sends values reads (one, two, is, (pair, joined, (cross, of, says))) = elim says [
    | inl (has, e) ↦
        let zero = ap (λ z. status_number z.status) e in
        record {
          related = λ z. record {
            pair = pair;
            cross = cross;
            for = (read_pair values one two pair reads is joined, of, has);
            includes = kept_rules_include pair cross joined.second.valid (greatest_cross_keeps_rules pair look cross from upto of has);
            held = left ∙ ap (λ z. filed files z.puts) e;
            printed = sends ∙ ap (λ z. append_known call.before.sink.sent z.text) e;
          };
          no_other = (λ z. omega arith, λ z. omega arith);
        }
    | inr (lacks, e) ↦
        let ten = ap (λ z. status_number z.status) e in
        record { related = λ z. absurd (omega arith); no_other = (λ z. omega arith, λ z. omega arith) }
  ]

  -- its status, for what the files hold
  pub cross_status : (r : Reply) (values : List Value) → ReadInTurn files (pair_inputs a b) values → MeansCross out look values r → (n : ℕ) → n ≡ status_number r.status → IsCrossStatus files a b look n
  cross_status r values reads (one, two, is, (pair, joined, (cross, of, says))) n same =
      let read = read_pair values one two pair reads is joined in
      elim says [
        | inl (has, e) ↦ (pair, cross, read, of, inl (has, same ∙ ap (λ z. status_number z.status) e))
        | inr (lacks, e) ↦ (pair, cross, read, of, inr (lacks, same ∙ ap (λ z. status_number z.status) e))
      ]

module _ (call : Call) (a b out : List ℕ) (look : ℕ) where
  pub leaves_cross : (e : Ending) → EndsSo (request_with (pair_inputs a b) (MeansCross out look)) e call.before.shelf call.after.shelf → WasSaid e call.status call.before.sink call.after.sink → BeforeAndAfter call.before.shelf.files call.after.shelf.files (LeavesCross a b out look call)
  leaves_cross e ends said =
      leaves_by_status (request_with (pair_inputs a b) (MeansCross out look)) call (λ before. HoldsCross before a b out look) (λ before. HoldsCrossFront before a b out look) (cross_writes out look)
      (λ files files' values r reads means low left. holds_cross files a b out look files' values r reads means low left)
      (λ files files' values r reads means cut. holds_cross_front files a b out look files' values r reads means cut) e ends said

-- ---- `cross-check`

one_conclusion : (pair : Joined) (cross : Cross) (r s : Reply) → ConcludesCross pair cross r → ConcludesCross pair cross s → r ≡ s
one_conclusion pair cross r s (inl (refusal, breaks, is)) (inl (other, breaks', is')) =
    is ∙ ap (λ (z : CrossRefusal). only_said status.BadCertificate (refused_text (record { rule = z.rule; item = z.item }))) (break_one pair cross refusal other breaks breaks') ∙ sym is'
one_conclusion pair cross r s (inl (refusal, breaks, is)) (inr (keeps, says)) = absurd (none_breaks pair cross refusal breaks keeps)
one_conclusion pair cross r s (inr (keeps, says)) (inl (refusal, breaks, is)) = absurd (none_breaks pair cross refusal breaks keeps)
one_conclusion pair cross r s (inr (keeps, says)) (inr (keeps', says')) = says ∙ sym says'

pub one_cross_check : (values : List Value) (r s : Reply) → MeansCrossCheck values r → MeansCrossCheck values s → r ≡ s
one_cross_check values r s (one, two, cross, is, (pair, joined, concludes)) (one', two', cross', is', (pair', joined', concludes')) =
    let all = sym is ∙ is' in
    let first : one ≡ one' = cc in
    let second : two ≡ two' = cc in
    let third : cross ≡ cross' = cc in
    let P : Named → Type 0 = λ z. IsJoined z two pair in
    let Q : Named → Type 0 = λ z. IsJoined one' z pair in
    let same : pair ≡ pair' = joins_as_one one' two' pair pair' (subst Q second (subst P first joined)) joined' in
    let C : Joined → Type 0 = λ z. ConcludesCross z cross r in
    let D : Cross → Type 0 = λ z. ConcludesCross pair' z r in
    one_conclusion pair' cross' r s (subst D third (subst C same concludes)) concludes'

-- it writes nothing, and its status is 0 or 5
pub cross_check_puts : (values : List Value) (r : Reply) → MeansCrossCheck values r → r.puts ≡ []
cross_check_puts values r (one, two, cross, is, (pair, joined, concludes)) = elim concludes [ inl broken ↦ ap (λ z. z.puts) broken.2 | inr kept ↦ ap (λ z. z.puts) kept.1 ]

pub cross_check_number : (values : List Value) (r : Reply) → MeansCrossCheck values r → (status_number r.status ≡ 0) ⊎ (status_number r.status ≡ 5)
cross_check_number values r (one, two, cross, is, (pair, joined, concludes)) =
    elim concludes [ inl broken ↦ inr (ap (λ z. status_number z.status) broken.2) | inr kept ↦ inl (ap (λ z. status_number z.status) kept.1) ]

module _ (files : FileMap) (a b f : List ℕ) where
  pub shows_cross_check : (call : Call) (r : Reply) → status_number r.status ≡ call.status → Sends r.text call.before.sink call.after.sink → (values : List Value) → ReadInTurn files (cross_check_inputs a b f) values → MeansCrossCheck values r → ShowsCrossCheck a b f call files
  shows_cross_check call r number sends values reads (one, two, cross, is, (pair, joined, concludes)) =
      let (first, (second, (third, end))) = subst (ReadInTurn files (cross_check_inputs a b f)) is reads in
      elim concludes [
        | inl broken ↦ (let five = ap (λ z. status_number z.status) broken.2 in record { related = λ z. absurd (omega arith); no_other = (λ z. omega arith, λ z. omega arith) })
        | inr (keeps, e) ↦
            let zero = ap (λ z. status_number z.status) e in
            record {
              related = λ z. record {
                pair = pair;
                cross = cross;
                read = (one, two, first, second, joined);
                relation = third;
                keeps = keeps;
                includes = kept_rules_include pair cross joined.second.valid keeps;
                printed = sends ∙ ap (λ z. append_known call.before.sink.sent z.text) e;
              };
              no_other = (λ z. omega arith, λ z. omega arith);
            }
      ]

  -- the files tell one pair and one cross relation, so what they show is exact
  pub cross_check_status : (r : Reply) → (StopInTurn files (cross_check_inputs a b f) r → status_number r.status ≡ 5) → IsReplyFor (request_with (cross_check_inputs a b f) MeansCrossCheck) files r → (n : ℕ) → n ≡ status_number r.status → IsCrossCheckStatus files a b f n
  cross_check_status r five right n same = elim right [
    | inl stop ↦ inr (λ (pair, cross, (one, two, first, second, joined), third, keeps). stop_or_read_in_turn files (cross_check_inputs a b f) r (value.Automaton one ∷ value.Automaton two ∷ value.Cross cross ∷ []) stop (first, (second, (third, tt))), same ∙ five stop)
    | inr (values, reads, (one, two, cross, is, (pair, joined, concludes))) ↦
        let reads' = subst (ReadInTurn files (cross_check_inputs a b f)) is reads in
        let (first, (second, (third, end))) = reads' in
        elim concludes [
          | inr (keeps, e) ↦ inl ((pair, cross, (one, two, first, second, joined), third, keeps), same ∙ ap (λ z. status_number z.status) e)
          | inl (refusal, breaks, e) ↦ inr (
            λ (pair', cross', (one', two', first', second', joined'), third', keeps').
                let all = one_read_in_turn files (cross_check_inputs a b f) (value.Automaton one ∷ value.Automaton two ∷ value.Cross cross ∷ []) (value.Automaton one' ∷ value.Automaton two' ∷ value.Cross cross' ∷ []) reads' (first', (second', (third', tt))) in
                let one_same : one ≡ one' = cc in
                let two_same : two ≡ two' = cc in
                let cross_same : cross ≡ cross' = cc in
                let P : Named → Type 0 = λ z. IsJoined z two pair in
                let Q : Named → Type 0 = λ z. IsJoined one' z pair in
                let pair_same : pair ≡ pair' = joins_as_one one' two' pair pair' (subst Q two_same (subst P one_same joined)) joined' in
                let K : Joined → Type 0 = λ z. KeepsCrossRules z cross' in
                let L : Cross → Type 0 = λ z. KeepsCrossRules pair z in
                none_breaks pair cross refusal breaks (subst L (sym cross_same) (subst K (sym pair_same) keeps')),
            same ∙ ap (λ z. status_number z.status) e,
          )
        ]
  ]
