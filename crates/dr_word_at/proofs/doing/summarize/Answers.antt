use Rattle.dr_run_ask.proofs.Seen.{seeing_reads}
use Rattle.dr_word_at.proofs.doing.summarize.Goals as goal

pub returns-in-Err : goal.returns-in-Err
returns-in-Err g c = seeing_reads g.A.Asks.answers c.args.meant.name.now c.args.meant.digest.now c.args.node.now c.see.new.node c.see.result c.see.ensures

pub returns-in-Ok-summary_of : goal.returns-in-Ok-summary_of
returns-in-Ok-summary_of g c = seeing_reads g.A.Asks.answers c.args.meant.name.now c.args.meant.digest.now c.args.node.now c.see.new.node c.see.result c.see.ensures

pub returns : goal.returns
returns g c = seeing_reads g.A.Asks.answers c.args.meant.name.now c.args.meant.digest.now c.args.node.now c.see.new.node c.see.result c.see.ensures
