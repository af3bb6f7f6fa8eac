-- `reduce`: one reply, and what it shows.
use Rattle.std.proofs.Common.{◌≡◌, ℕ, ◌≤◌, List, [], sym, ◌∙◌, ap, subst, arith}
use Rattle.std.specs.Io.KnownBytes.{append_known}
use Rattle.shelf_io.specs.Shelf.{FileMap}
use Rattle.shelf_io.specs.Seen.{Call}
use Rattle.auto_core.specs.Automaton.{IsAutomaton}
use Rattle.auto_core.specs.declared.parts.Mode.{Mode}
use Rattle.ba_format.specs.declared.parts.Named.{Named}
use Rattle.ba_format.specs.Writing.{written}
use Rattle.reduce_loop.specs.declared.steps.Foresight.{Foresight}
use Rattle.reduce_loop.specs.Passes.{IsReduced}
use Rattle.reduce_loop.proofs.PassLemmas.{reduced_one, reduced_same, reduced_settled}
use Rattle.rabit_frame.specs.declared.parts.Value.{Value}
use Rattle.rabit_frame.specs.declared.parts.Status.TheVariants as status
use Rattle.rabit_frame.specs.declared.parts.Reply.{Reply}
use Rattle.rabit_frame.specs.Statuses.{status_number}
use Rattle.rabit_frame.specs.Ending.{Sends}
use Rattle.rabit_frame.specs.Reading.{only_said, ReadInTurn, AreOfKinds}
use Rattle.rabit_cli.specs.Reduce.{reduce_inputs, MeansReduce, ShowsReduce}
use Rattle.rabit_cli.proofs.BackLemmas.{reads_back_same}

pub one_reduce : (name : List ℕ) (m : Mode) (sight : Foresight) → 1 ≤ sight.look → (values : List Value) (r s : Reply) → AreOfKinds (reduce_inputs name) values → MeansReduce m sight values r → MeansReduce m sight values s → r ≡ s
one_reduce name m sight from values r s kinds (named, is, (t, (A, made, of), e)) (named', is', (t', (B, made', of'), e')) =
    let valid = (subst (AreOfKinds (reduce_inputs name)) is' kinds).0.1 in
    let all = sym is ∙ is' in
    let same : named ≡ named' = cc in
    let P : Named → Type 0 = λ z. IsReduced z.auto m sight A in
    let Q : Named → Type 0 = λ z. r ≡ only_said status.Done (written A z.labels) in
    let one : A ≡ B = reduced_one named'.auto A B m sight valid from (subst P same made) made' in
    subst Q same (e ∙ ap (only_said status.Done) of) ∙ ap (λ C. only_said status.Done (written C named'.labels)) one ∙ sym (e' ∙ ap (only_said status.Done) of')

pub reduce_puts : (m : Mode) (sight : Foresight) (values : List Value) (r : Reply) → MeansReduce m sight values r → r.puts ≡ []
reduce_puts m sight values r (named, is, (t, made, e)) = ap (λ z. z.puts) e

pub reduce_asked : (m : Mode) (sight : Foresight) (values : List Value) (r : Reply) → MeansReduce m sight values r → status_number r.status ≡ 3 → ⊥
reduce_asked m sight values r (named, is, (t, made, e)) three = (let f = ap (λ z. status_number z.status) e in omega arith)

pub shows_reduce : (files : FileMap) (name : List ℕ) (m : Mode) (sight : Foresight) (call : Call) (r : Reply) → 1 ≤ sight.look → status_number r.status ≡ call.status → Sends r.text call.before.sink call.after.sink →
    (values : List Value) → ReadInTurn files (reduce_inputs name) values → MeansReduce m sight values r → ShowsReduce name m sight call files
shows_reduce files name m sight call r from number sends values reads (named, is, (t, (B, made, of), e)) =
    let ((bytes, has, few, read), end) = subst (ReadInTurn files (reduce_inputs name)) is reads in
    let valid : IsAutomaton named.auto = read.reading.auto.valid in
    let zero : call.status ≡ 0 = sym number ∙ ap (λ z. status_number z.status) e in
    let same = reduced_same named.auto B m sight valid from made in
    let settled = reduced_settled named.auto B m sight valid from made in
    record {
      reduced = λ e'. record {
        named = named;
        reduced = B;
        read = (bytes, has, few, read);
        is_reduced = made;
        same = same;
        reads_back = reads_back_same bytes named B m sight from read made same settled;
        settled = settled;
        printed = sends ∙ ap (λ z. append_known call.before.sink.sent z.text) e ∙ ap (append_known call.before.sink.sent) of;
      };
      no_other = (λ f. omega arith, λ f. omega arith);
    }
