use Rattle.std.proofs.Common.{Result, map, subst}
use Rattle.dr_world_script.specs.Scripts.{ReadsForeignFields}
use Rattle.dr_world_script.specs.declared.fault.LineFault.{LineFault}
use Rattle.dr_world_script.specs.declared.foreign.Foreign.{Foreign}
use Rattle.dr_world_script.proofs.Lines.{concern}
use Rattle.dr_world_script.proofs.reading.read_foreign_act.Goals as goal

pub returns-in-Err : goal.returns-in-Err
returns-in-Err c =
    let P : Result Foreign LineFault → Type 0 = λ r. ReadsForeignFields c.args.word (map (λ f. f.now) c.args.fields.now) r in
    concern c.args.word (map (λ f. f.now) c.args.fields.now) c.in-Err.fault (subst P c.in-Err.is c.read_foreign.ensures)
