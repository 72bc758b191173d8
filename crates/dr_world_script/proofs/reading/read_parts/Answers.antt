use Rattle.std.proofs.Common.{Result, map, ◌∷◌, sym, subst, ◌∙◌}
use Rattle.std.proofs.lemmas.Bool.{false≢true}
use Rattle.dr_world_script.specs.Scripts.{ReadsStep}
use Rattle.dr_world_script.specs.declared.fault.LineFault.{LineFault}
use Rattle.dr_world_script.specs.declared.step.Step.{Step}
use Rattle.dr_world_script.proofs.Lines.{adoption, concerning, failing, stepping, writing}
use Rattle.dr_world_script.proofs.reading.read_parts.Goals as goal

pub returns-then-is_adopt : goal.returns-then-is_adopt
returns-then-is_adopt c =
    adoption c.args.first.now (map (λ f. f.now) c.args.fields.now) c.read_adoption.result (c.is_adopt.ensures.0 c.if-is_adopt.true) c.read_adoption.ensures

pub returns-then-is_bytes : goal.returns-then-is_bytes
returns-then-is_bytes c =
    writing c.args.first.now (map (λ f. f.now) c.args.fields.now) c.read_written.result (c.is_bytes.ensures.0 c.if-is_bytes.true) c.read_written.ensures

pub returns-in-Some : goal.returns-in-Some
returns-in-Some c =
    concerning c.args.first.now c.in-Some.word (map (λ f. f.now) c.args.fields.now) c.read_foreign_act.result c.in-Some.ensures c.read_foreign_act.ensures

pub returns-in-Ok : goal.returns-in-Ok
returns-in-Ok c =
    let P : Result Step LineFault → Type 0 = λ r. ReadsStep (c.args.first.now ∷ map (λ f. f.now) c.args.fields.now) r in
    stepping c.args.first.now (map (λ f. f.now) c.args.fields.now) c.in-Ok.step (subst P c.in-Ok.is c.read_step.ensures)

pub returns-in-Err : goal.returns-in-Err
returns-in-Err c =
    let P : Result Step LineFault → Type 0 = λ r. ReadsStep (c.args.first.now ∷ map (λ f. f.now) c.args.fields.now) r in
    failing c.args.first.now (map (λ f. f.now) c.args.fields.now) c.in-Err.fault (λ e. false≢true (sym c.if-is_adopt.false ∙ c.is_adopt.ensures.1 e))
    (λ e. false≢true (sym c.if-is_bytes.false ∙ c.is_bytes.ensures.1 e)) c.in_default.ensures (subst P c.in-Err.is c.read_step.ensures)
