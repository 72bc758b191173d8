use Rattle.std.proofs.Common.{inl}
use Rattle.dr_run_ask.proofs.Seen.{told}
use Rattle.dr_run_ask.proofs.asking.tell.Goals as goal

pub returns-in-Ok : goal.returns-in-Ok
returns-in-Ok g c =
    told g.A.Asks.answers c.args.meant.name.now c.args.meant.digest.now c.args.call c.args.node.now c.see.new.node c.tell_seen.new.node c.in-Ok._seen c.tell_seen.result c.in-Ok.ensures c.tell_seen.ensures

pub returns-in-Err : goal.returns-in-Err
returns-in-Err g c = inl c.in-Err.ensures
