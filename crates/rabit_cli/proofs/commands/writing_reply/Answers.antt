use Rattle.std.proofs.Common.{Some, IfOk, sym, subst}
use Rattle.std.specs.String.{string_bytes}
use Rattle.rabit_frame.specs.declared.parts.Reply.{Reply}
use Rattle.rabit_words.specs.Question.{told}
use Rattle.rabit_cli.specs.Commands.{Means}
use Rattle.rabit_cli.specs.Include.{terms_by, MeansInclude}
use Rattle.rabit_cli.specs.Shrink.{MeansShrink}
use Rattle.rabit_cli.specs.Cross.{MeansCross}
use Rattle.rabit_cli.specs.Equal.{MeansEqual}
use Rattle.rabit_cli.specs.Upgrade.{MeansUpgrade}
use Rattle.rabit_cli.specs.Property.{MeansProperty}
use Rattle.rabit_cli.specs.Empty.{emptiness}
use Rattle.rabit_cli.specs.Universal.{universality}
use Rattle.rabit_cli.proofs.commands.writing_reply.Goals as goal

pub returns-in-Include : goal.returns-in-Include
returns-in-Include c =
    let values = c.args.values.now in
    let terms = terms_by c.in-Include.mode c.in-Include.look c.in-Include.limit c.in-Include.letters in
    let named : IfOk c.reply.result (λ (r : Reply). MeansInclude c.as_str.result.now terms values r) =
    subst (λ t. IfOk c.reply.result (λ (r : Reply). MeansInclude c.as_str.result.now t values r)) c.terms_named-terms.ensures c.reply.ensures in
    subst (λ q. IfOk c.reply.result (Means (Some (told q)) values)) (sym c.in-Include.is)
    (subst (λ name. IfOk c.reply.result (λ (r : Reply). MeansInclude name terms values r)) c.as_str.ensures.value named)

pub returns-in-Upgrade : goal.returns-in-Upgrade
returns-in-Upgrade c =
    let values = c.args.values.now in
    subst (λ q. IfOk c.reply-in-Upgrade.result (Means (Some (told q)) values)) (sym c.in-Upgrade.is)
    (subst (λ name. IfOk c.reply-in-Upgrade.result (λ (r : Reply). MeansUpgrade name values r)) c.as_str-in-Upgrade.ensures.value c.reply-in-Upgrade.ensures)

pub returns-in-Cross : goal.returns-in-Cross
returns-in-Cross c =
    let values = c.args.values.now in
    subst (λ q. IfOk c.reply-in-Cross.result (Means (Some (told q)) values)) (sym c.in-Cross.is)
    (subst (λ name. IfOk c.reply-in-Cross.result (λ (r : Reply). MeansCross name c.in-Cross.look values r)) c.as_str-in-Cross.ensures.value c.reply-in-Cross.ensures)

pub returns-in-Equal : goal.returns-in-Equal
returns-in-Equal c =
    let values = c.args.values.now in
    let first : IfOk c.reply-in-Equal.result (λ (r : Reply). MeansEqual (string_bytes c.in-Equal.certificate) c.as_str-in-Equal-2.result.now values r) =
    subst (λ name. IfOk c.reply-in-Equal.result (λ (r : Reply). MeansEqual name c.as_str-in-Equal-2.result.now values r)) c.as_str-in-Equal.ensures.value c.reply-in-Equal.ensures in
    subst (λ q. IfOk c.reply-in-Equal.result (Means (Some (told q)) values)) (sym c.in-Equal.is)
    (subst (λ name. IfOk c.reply-in-Equal.result (λ (r : Reply). MeansEqual (string_bytes c.in-Equal.certificate) name values r)) c.as_str-in-Equal-2.ensures.value first)

pub returns-in-Shrink : goal.returns-in-Shrink
returns-in-Shrink c =
    let values = c.args.values.now in
    subst (λ q. IfOk c.reply-in-Shrink.result (Means (Some (told q)) values)) (sym c.in-Shrink.is)
    (subst (λ name. IfOk c.reply-in-Shrink.result (λ (r : Reply). MeansShrink name values r)) c.as_str-in-Shrink.ensures.value c.reply-in-Shrink.ensures)

pub returns-in-Empty : goal.returns-in-Empty
returns-in-Empty c =
    let values = c.args.values.now in
    let m = c.in-Empty.mode in
    let first : IfOk c.reply-in-Empty.result (λ (r : Reply). MeansProperty emptiness (string_bytes c.in-Empty.made) c.as_str-in-Empty-2.result.now m values r) =
    subst (λ name. IfOk c.reply-in-Empty.result (λ (r : Reply). MeansProperty emptiness name c.as_str-in-Empty-2.result.now m values r)) c.as_str-in-Empty.ensures.value c.reply-in-Empty.ensures in
    subst (λ q. IfOk c.reply-in-Empty.result (Means (Some (told q)) values)) (sym c.in-Empty.is)
    (subst (λ name. IfOk c.reply-in-Empty.result (λ (r : Reply). MeansProperty emptiness (string_bytes c.in-Empty.made) name m values r)) c.as_str-in-Empty-2.ensures.value first)

pub returns-in-Universal : goal.returns-in-Universal
returns-in-Universal c =
    let values = c.args.values.now in
    let m = c.in-Universal.mode in
    let first : IfOk c.reply-in-Universal.result (λ (r : Reply). MeansProperty universality (string_bytes c.in-Universal.made) c.as_str-in-Universal-2.result.now m values r) =
    subst (λ name. IfOk c.reply-in-Universal.result (λ (r : Reply). MeansProperty universality name c.as_str-in-Universal-2.result.now m values r)) c.as_str-in-Universal.ensures.value c.reply-in-Universal.ensures in
    subst (λ q. IfOk c.reply-in-Universal.result (Means (Some (told q)) values)) (sym c.in-Universal.is)
    (subst (λ name. IfOk c.reply-in-Universal.result (λ (r : Reply). MeansProperty universality (string_bytes c.in-Universal.made) name m values r)) c.as_str-in-Universal-2.ensures.value first)
