use Rattle.std.proofs.Common.{◌⊎◌, subst, inr, Ok, Err}
use Rattle.std.specs.Prelude.{Result, IfOk}
use Rattle.dr_base.specs.Texts.{Text}
use Rattle.dr_run_open.specs.Answers.{Refuses}
use Rattle.dr_run_open.specs.declared.status.Status.{Status}
use Rattle.dr_word_route.specs.Runs.{JudgesAndAnswers, AnswersSealed}
use Rattle.dr_word_route.specs.Unsealing.{AnswersUnsealed}
use Rattle.dr_word_route.proofs.asking.Asker.ask_text.Goals as goal

-- what is so of a status that is answered, another says of it too
ok_as : {X E : Type 0} (r : Result X E) (P Q : X → Type 0) → ((x : X) → P x → Q x) → IfOk r P → IfOk r Q
ok_as (Ok x) P Q f h = f x h
ok_as (Err e) P Q f h = tt

pub returns-in-Ok-read_file : goal.returns-in-Ok-read_file
returns-in-Ok-read_file g c =
    let P : Text → Status → Type 0 = λ text status.
    AnswersUnsealed c.in-Ok.plan text (g.W.Write.contents c.args.self.output.now) (g.W.Write.contents c.ask_sealed.new.self.0) status
    ⊎ AnswersSealed (g.F.Files.holds c.args.self.files.now) c.args.question c.in-Ok.plan text (g.W.Write.contents c.args.self.output.now) (g.W.Write.contents c.ask_sealed.new.self.0) status in
    let Q : Status → Type 0 = λ status.
    Refuses c.args.text.now (g.W.Write.contents c.args.self.output.now) (g.W.Write.contents c.ask_sealed.new.self.0) status
    ⊎ JudgesAndAnswers (g.F.Files.holds c.args.self.files.now) c.args.certificate.now c.args.question c.args.text.now (g.W.Write.contents c.args.self.output.now) (g.W.Write.contents c.ask_sealed.new.self.0) status in
    let asked : IfOk c.ask_sealed.result (P c.in-Ok-read_file.second.items) = subst (λ (text : Text). IfOk c.ask_sealed.result (P text)) c.as_slice.ensures.value c.ask_sealed.ensures in
    ok_as c.ask_sealed.result (P c.in-Ok-read_file.second.items) Q
    (λ status h. inr (record {
      plan = c.in-Ok.plan;
      reads = c.in-Ok.ensures;
      second = c.in-Ok-read_file.second.items;
      held = c.in-Ok-read_file.ensures;
      judged = h;
    }))
    asked
