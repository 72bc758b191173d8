use Rattle.std.proofs.Common.{◌⊎◌, subst, inr, Ok, Err}
use Rattle.std.specs.Prelude.{Result, IfOk}
use Rattle.dr_base.specs.Texts.{Text}
use Rattle.dr_run_open.specs.declared.status.Status.{Status}
use Rattle.dr_word_simulate.specs.Runs.{PlaysSealed, Simulates, PlaysUnsealed}
use Rattle.dr_word_simulate.proofs.simulate.play_text.Goals as goal

-- what is so of a status that is answered, another says of it too
ok_as : {X E : Type 0} (r : Result X E) (P Q : X → Type 0) → ((x : X) → P x → Q x) → IfOk r P → IfOk r Q
ok_as (Ok x) P Q f h = f x h
ok_as (Err e) P Q f h = tt

pub returns : goal.returns
returns g c =
    let P : Text → Status → Type 0 = λ text status.
    PlaysUnsealed c.in-Ok.plan text (g.W.Write.contents c.args.output.now) (g.W.Write.contents c.play_sealed.new.output) status
    ⊎ PlaysSealed (g.F.Files.holds c.args.files.now) c.args.script.now c.in-Ok.plan text (g.W.Write.contents c.args.output.now) (g.W.Write.contents c.play_sealed.new.output) status in
    let Q : Status → Type 0 = Simulates (g.F.Files.holds c.args.files.now) c.args.certificate.now c.args.script.now c.args.text.now (g.W.Write.contents c.args.output.now)
    (g.W.Write.contents c.play_sealed.new.output) in
    let played : IfOk c.play_sealed.result (P c.in-Ok-read_file.second.items) = subst (λ (text : Text). IfOk c.play_sealed.result (P text)) c.as_slice.ensures.value c.play_sealed.ensures in
    ok_as c.play_sealed.result (P c.in-Ok-read_file.second.items) Q
    (λ status h. inr (record {
      plan = c.in-Ok.plan;
      reads = c.in-Ok.ensures;
      second = c.in-Ok-read_file.second.items;
      held = c.in-Ok-read_file.ensures;
      judged = h;
    }))
    played
