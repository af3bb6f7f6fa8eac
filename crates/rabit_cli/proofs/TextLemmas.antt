-- What the texts read as that `empty` and `universal` make.
use Rattle.std.proofs.Common.{◌≡◌, ◌^◌, ◌<◌, length, All, sym, ◌∙◌, ap, arith}
use Rattle.ba_format.specs.declared.parts.Joined.{Joined}
use Rattle.ba_format.specs.Joining.{joined_labels}
use Rattle.ba_format.specs.Laws.{IsLabelText}
use Rattle.ba_format.specs.Sight.{AreDifferent}
use Rattle.ba_format.specs.Writing.{written}
use Rattle.ba_format.proofs.WithLemmas.{with_labels, written_same}
use Rattle.ba_format.proofs.OwnLemmas.{labels_count, built_itself}
use Rattle.rabit_cli.specs.Universal.{all_loops}
use Rattle.rabit_cli.proofs.EmptyLemmas.{accepts_nothing}
use Rattle.rabit_cli.proofs.UniversalLemmas.{labels_written, loops_writable, joined_itself, includes_all}
use Rattle.rabit_cli.specs.Laws.{EmptyTextAcceptsNothing, UniversalTextAcceptsAll}

pub text_accepts_nothing : EmptyTextAcceptsNothing
text_accepts_nothing limits named mode made = accepts_nothing limits named made mode

pub text_accepts_all : UniversalTextAcceptsAll
text_accepts_all labels limits named m few texts different made =
    let n = length labels in
    let fit : All IsLabelText labels × AreDifferent labels = (texts, different) in
    let same : named.labels ≡ labels = made.reading.labels ∙ labels_written labels few fit in
    let beside : Joined = record { first = with_labels (all_loops n) (length named.labels); second = named.auto; labels = named.labels } in
    let all : named.labels ≡ joined_labels labels named.labels = same ∙ sym (ap (joined_labels labels) same ∙ joined_itself labels) in
    let short : length named.labels < 2 ^ 32 = omega (arith, ap length same) in
    let text = written (all_loops n) labels in
    let alike = written_same labels (all_loops n) m (loops_writable labels few fit) limits named beside made all short (built_itself text limits named made) in
    (same, includes_all named.auto n (labels_count text limits named made ∙ ap length same) m alike.0)
