use Rattle.dr_run_ask.proofs.Seen.{seen_told}
use Rattle.dr_run_ask.proofs.asking.tell_seen.Goals as goal

pub returns : goal.returns
returns g c =
    seen_told g.A.Asks.answers c.args.call c.args.node.now c.ask.new.self c.in-Ok.answer c.done.result c.in-Ok.ensures c.done.ensures.done c.done.ensures.refused
