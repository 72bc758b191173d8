use Rattle.std.proofs.Common.{map}
use Rattle.dr_world_script.proofs.Lines.{following, nothing_follows}
use Rattle.dr_world_script.proofs.reading.read_step.Goals as goal

pub returns-in-Some : goal.returns-in-Some
returns-in-Some c = following c.args.first.now c.in-Some.word (map (λ f. f.now) c.args.fields.now) c.read_fields.result c.in-Some.ensures c.read_fields.ensures

pub returns-in-None : goal.returns-in-None
returns-in-None c = nothing_follows c.args.first.now (map (λ f. f.now) c.args.fields.now) c.in-None.ensures
