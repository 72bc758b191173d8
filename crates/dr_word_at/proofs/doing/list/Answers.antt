use Rattle.dr_run_ask.proofs.Chains.{reads_more}
use Rattle.dr_run_ask.proofs.Seen.{seeing_reads}
use Rattle.dr_word_at.proofs.doing.list.Goals as goal

pub returns-in-Ok : goal.returns-in-Ok
returns-in-Ok g c =
    reads_more g.A.Asks.answers c.args.node.now c.see.new.node c.list_seen.new.node
    (seeing_reads g.A.Asks.answers c.args.meant.name.now c.args.meant.digest.now c.args.node.now c.see.new.node c.see.result c.see.ensures) c.list_seen.ensures

pub returns-in-Err : goal.returns-in-Err
returns-in-Err g c = seeing_reads g.A.Asks.answers c.args.meant.name.now c.args.meant.digest.now c.args.node.now c.see.new.node c.see.result c.see.ensures
