use Rattle.dr_run_serve.proofs.Noting.{found_in}
use Rattle.dr_run_serve.proofs.past.Past.into_sweep.Goals as goal

pub returns : goal.returns
returns c = λ lines had. found_in lines c.args.self c.in_ok-sweep.sweep.queue.items had c.in_ok-sweep.ensures
