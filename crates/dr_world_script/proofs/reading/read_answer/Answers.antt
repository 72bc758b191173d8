use Rattle.dr_world_script.proofs.Lines.{no_answer}
use Rattle.dr_world_script.proofs.reading.read_answer.Goals as goal

pub returns-in-Err : goal.returns-in-Err
returns-in-Err c = no_answer c.args.fields.now _ c.in-Err.fault c.in-len2.len_at_least c.in-len2.len_below c.in-Err.ensures
