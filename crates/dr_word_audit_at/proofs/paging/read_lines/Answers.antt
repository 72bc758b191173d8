use Rattle.std.proofs.Common.{arith, ap, sym, subst, length, List}
use Rattle.dr_ledger_history.specs.declared.line.JournalLine.{JournalLine}
use Rattle.dr_word_audit_at.specs.Pages.{ReadsLines}
use Rattle.dr_run_ask.proofs.Chains.{reads_more, reads_nothing}
use Rattle.dr_word_audit_at.proofs.Numbering.{reads_none, reads_page}
use Rattle.dr_word_audit_at.proofs.paging.read_lines.Goals as goal

pub loop-page-init : goal.loop-page-init
loop-page-init g c = (
  reads_nothing g.A.Asks.answers c.args.node.now,
  subst (λ (lines : List JournalLine). ReadsLines g.A.Asks.answers c.args.meant.name.now c.args.meant.digest.now c.args.node.now lines c.args.node.now) (sym c.new-lines.ensures)
      (reads_none g.A.Asks.answers c.args.meant.name.now c.args.meant.digest.now c.args.node.now),
  omega (arith, ap length c.new-lines.ensures),
)

pub loop-page-preserved : goal.loop-page-preserved
loop-page-preserved g c = (
  reads_more g.A.Asks.answers c.args.node.now c.loop-page.node c.read_page.new.node c.loop-page.invariant.0 c.read_page.ensures.reads,
  reads_page g.A.Asks.answers c.args.meant.name.now c.args.meant.digest.now c.args.node.now c.loop-page.node c.read_page.new.node c.loop-page.lines c.read_page.new.lines c.loop-page.invariant.1 c.in-Ok.ensures.page,
  c.in-Ok.ensures.most,
)

pub returns-in-Err-clause-reads : goal.returns-in-Err-clause-reads
returns-in-Err-clause-reads g c = reads_more g.A.Asks.answers c.args.node.now c.loop-page.node c.read_page.new.node c.loop-page.invariant.0 c.read_page.ensures.reads
