use Rattle.dr_run_ask.proofs.Fronts.{split_at_place}
use Rattle.dr_run_ask.proofs.lines.first_line.Goals as goal

pub returns : goal.returns
returns c = split_at_place c.first_end-end.result c.args.text.now
