use Rattle.std.proofs.Common.{Some, IfOk, List, sym, subst}
use Rattle.std.proofs.lemmas.Result.{IfOk-weaker}
use Rattle.drawing.specs.declared.parts.Drill.{Drill}
use Rattle.rabit_frame.specs.declared.parts.Value.{Value}
use Rattle.rabit_frame.specs.declared.parts.Reply.{Reply}
use Rattle.rabit_words.specs.Question.{told}
use Rattle.rabit_cli.specs.Commands.{Means}
use Rattle.rabit_cli.specs.Check.{MeansCheck}
use Rattle.rabit_cli.specs.Reduce.{sight_by, MeansReduce}
use Rattle.rabit_cli.specs.Drill.{MeansDrill}
use Rattle.rabit_cli.specs.Union.{MeansUnion}
use Rattle.rabit_cli.specs.Intersect.{MeansIntersect}
use Rattle.rabit_cli.specs.Cross.{MeansCrossCheck}
use Rattle.rabit_cli.proofs.commands.reply_to.Goals as goal

pub returns-in-Check : goal.returns-in-Check
returns-in-Check c =
    let values = c.args.values.now in
    subst (λ q. IfOk c.reply.result (Means (Some (told q)) values)) (sym c.in-Check.is)
    (IfOk-weaker c.reply.result (λ (r : Reply). MeansCheck values r) (λ (r : Reply). MeansCheck values r) (λ r means. means) c.reply.ensures)

pub returns-in-Reduce : goal.returns-in-Reduce
returns-in-Reduce c =
    let values = c.args.values.now in
    let m = c.in-Reduce.mode in
    let sight = sight_by c.in-Reduce.look c.in-Reduce.letters in
    subst (λ q. IfOk c.reply-in-Reduce.result (Means (Some (told q)) values)) (sym c.in-Reduce.is)
    (IfOk-weaker c.reply-in-Reduce.result (λ (r : Reply). MeansReduce m sight values r) (λ (r : Reply). MeansReduce m sight values r) (λ r means. means) c.reply-in-Reduce.ensures)

pub returns-in-Drill : goal.returns-in-Drill
returns-in-Drill c =
    let d : Drill = record { seed = c.in-Drill.seed; states = c.in-Drill.states; labels = c.in-Drill.labels } in
    let values = c.args.values.now in
    subst (λ q. IfOk c.reply-in-Drill.result (Means (Some (told q)) values)) (sym c.in-Drill.is)
    (IfOk-weaker c.reply-in-Drill.result (λ (r : Reply). (vs : List Value) → MeansDrill d vs r) (λ (r : Reply). MeansDrill d values r) (λ r means. means values) c.reply-in-Drill.ensures)

pub returns-in-CrossCheck : goal.returns-in-CrossCheck
returns-in-CrossCheck c =
    let values = c.args.values.now in
    subst (λ q. IfOk c.reply-in-CrossCheck.result (Means (Some (told q)) values)) (sym c.in-CrossCheck.is)
    (IfOk-weaker c.reply-in-CrossCheck.result (λ (r : Reply). MeansCrossCheck values r) (λ (r : Reply). MeansCrossCheck values r) (λ r means. means) c.reply-in-CrossCheck.ensures)

pub returns-in-Union : goal.returns-in-Union
returns-in-Union c =
    let values = c.args.values.now in
    let m = c.in-Union.mode in
    subst (λ q. IfOk c.reply-in-Union.result (Means (Some (told q)) values)) (sym c.in-Union.is)
    (IfOk-weaker c.reply-in-Union.result (λ (r : Reply). MeansUnion m values r) (λ (r : Reply). MeansUnion m values r) (λ r means. means) c.reply-in-Union.ensures)

pub returns-in-Intersect : goal.returns-in-Intersect
returns-in-Intersect c =
    let values = c.args.values.now in
    let m = c.in-Intersect.mode in
    subst (λ q. IfOk c.reply-in-Intersect.result (Means (Some (told q)) values)) (sym c.in-Intersect.is)
    (IfOk-weaker c.reply-in-Intersect.result (λ (r : Reply). MeansIntersect m values r) (λ (r : Reply). MeansIntersect m values r) (λ r means. means) c.reply-in-Intersect.ensures)
