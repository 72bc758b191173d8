use Rattle.dr_run_ask.proofs.Seen.{seeing_reads}
use Rattle.dr_word_audit_at.proofs.Numbering.{counts_as}
use Rattle.dr_word_audit_at.proofs.paging.count_of.Goals as goal

pub returns-in-Err-clause-reads : goal.returns-in-Err-clause-reads
returns-in-Err-clause-reads g c = seeing_reads g.A.Asks.answers c.args.meant.name.now c.args.meant.digest.now c.args.node.now c.see.new.node c.see.result c.see.ensures

pub returns-clause-reads : goal.returns-clause-reads
returns-clause-reads g c = seeing_reads g.A.Asks.answers c.args.meant.name.now c.args.meant.digest.now c.args.node.now c.see.new.node c.see.result c.see.ensures

pub returns-clause-counts : goal.returns-clause-counts
returns-clause-counts g c = counts_as g.A.Asks.answers c.args.meant.name.now c.args.meant.digest.now c.args.node.now c.see.new.node c.in-Ok.answer c.lines_told.result c.in-Ok.ensures c.lines_told.ensures
