-- `upgrade`: one reply, what it shows, and what it leaves.
use Rattle.std.proofs.Common.{◌≡◌, ℕ, ◌≤◌, List, [], ◌∷◌, inl, inr, sym, ◌∙◌, ap, subst, arith}
use Rattle.std.specs.Io.KnownBytes.{append_known}
use Rattle.shelf_io.specs.Shelf.{FileMap}
use Rattle.shelf_io.specs.Seen.{Call}
use Rattle.cert_value.specs.declared.types.Cert.{Cert}
use Rattle.rabit_frame.specs.declared.parts.Value.{Value}
use Rattle.rabit_frame.specs.declared.parts.Value.TheVariants as value
use Rattle.rabit_frame.specs.declared.parts.Reply.{Reply}
use Rattle.rabit_frame.specs.declared.parts.Ending.{Ending}
use Rattle.rabit_frame.specs.Statuses.{status_number}
use Rattle.rabit_frame.specs.Request.{request_with}
use Rattle.rabit_frame.specs.Reading.{ReadInTurn, StopInTurn}
use Rattle.rabit_frame.specs.Ending.{IsReplyFor, BeforeAndAfter, IsCutShort, WasSaid, filed, Sends}
use Rattle.rabit_frame.specs.Carrying.{EndsSo}
use Rattle.rabit_frame.proofs.EndLemmas.{leaves_by_status}
use Rattle.rabit_frame.proofs.OneLemmas.{stop_or_read_in_turn}
use Rattle.rabit_frame.specs.FileKinds.{ReadsCertificate}
use Rattle.rabit_cli.specs.Upgrade.{upgrade_inputs, upgrade_reply, MeansUpgrade, HoldsUpgraded, HoldsUpgradedFront, LeavesUpgraded, ShowsUpgrade, IsUpgradeStatus}

pub one_upgrade : (name : List ℕ) (values : List Value) (r s : Reply) → MeansUpgrade name values r → MeansUpgrade name values s → r ≡ s
one_upgrade name values r s (cert, is, e) (cert', is', e') =
    let all = sym is ∙ is' in
    let one : cert ≡ cert' = cc in
    e ∙ ap (upgrade_reply name) one ∙ sym e'

pub upgrade_number : (name : List ℕ) (values : List Value) (r : Reply) → MeansUpgrade name values r → status_number r.status ≡ 0
upgrade_number name values r (cert, is, e) = ap (λ z. status_number z.status) e

-- it has no status of a fault
upgrade_writes : (name : List ℕ) (values : List Value) (r : Reply) → MeansUpgrade name values r → 3 ≤ status_number r.status → r.puts ≡ []
upgrade_writes name values r means high = absurd (let zero = upgrade_number name values r means in omega arith)

module _ (files : FileMap) (c out : List ℕ) where
  read_one : (values : List Value) (cert : Cert) → ReadInTurn files (upgrade_inputs c) values → values ≡ value.Certificate cert ∷ [] → ReadsCertificate files c cert
  read_one values cert reads is = (subst (ReadInTurn files (upgrade_inputs c)) is reads).0

  pub holds_upgraded : (files' : FileMap) (values : List Value) (r : Reply) → ReadInTurn files (upgrade_inputs c) values → MeansUpgrade out values r → files' ≡ filed files r.puts → HoldsUpgraded files c out files'
  holds_upgraded files' values r reads (cert, is, e) left = (cert, read_one values cert reads is, left ∙ ap (λ z. filed files z.puts) e)

  pub holds_upgraded_front : (files' : FileMap) (values : List Value) (r : Reply) → ReadInTurn files (upgrade_inputs c) values → MeansUpgrade out values r → IsCutShort files r.puts files' → HoldsUpgradedFront files c out files'
  holds_upgraded_front files' values r reads (cert, is, e) cut = (cert, read_one values cert reads is, subst (λ ps. IsCutShort files ps files') (ap (λ z. z.puts) e) cut)

  pub shows_upgrade : (call : Call) (files' : FileMap) (r : Reply) → status_number r.status ≡ call.status → files' ≡ filed files r.puts → Sends r.text call.before.sink call.after.sink → (values : List Value) →
      ReadInTurn files (upgrade_inputs c) values → MeansUpgrade out values r → ShowsUpgrade c out call files files'
  shows_upgrade call files' r number left sends values reads means =
      let zero = upgrade_number out values r means in
      record {
        upgraded = λ e. record {
          held = holds_upgraded files' values r reads means left;
          printed = sends ∙ ap (λ z. append_known call.before.sink.sent z.text) means.2;
        };
        no_other = (λ e. omega arith, λ e. omega arith);
      }

  -- its status, for what the file holds
  pub upgrade_status : (r : Reply) → (StopInTurn files (upgrade_inputs c) r → status_number r.status ≡ 5) → IsReplyFor (request_with (upgrade_inputs c) (MeansUpgrade out)) files r → (n : ℕ) → n ≡ status_number r.status → IsUpgradeStatus files c n
  upgrade_status r five right n same = elim right [
    | inl stop ↦ inr (λ cert read. stop_or_read_in_turn files (upgrade_inputs c) r (value.Certificate cert ∷ []) stop (read, tt), same ∙ five stop)
    | inr read ↦ (
        let (values, reads, means) = read in
        let (cert, is, e) = means in
        inl ((cert, read_one values cert reads is), same ∙ upgrade_number out values r means))
  ]

module _ (call : Call) (c out : List ℕ) where
  pub leaves_upgrade : (e : Ending) → EndsSo (request_with (upgrade_inputs c) (MeansUpgrade out)) e call.before.shelf call.after.shelf → WasSaid e call.status call.before.sink call.after.sink → BeforeAndAfter call.before.shelf.files call.after.shelf.files (LeavesUpgraded c out call)
  leaves_upgrade e ends said =
      leaves_by_status (request_with (upgrade_inputs c) (MeansUpgrade out)) call (λ before. HoldsUpgraded before c out) (λ before. HoldsUpgradedFront before c out) (upgrade_writes out)
      (λ files files' values r reads means low left. holds_upgraded files c out files' values r reads means left)
      (λ files files' values r reads means cut. holds_upgraded_front files c out files' values r reads means cut) e ends said
