use Rattle.dr_run_ask.proofs.Chains.{reads_more, reads_nothing}
use Rattle.dr_word_at.proofs.listing.put_rows_to.Goals as goal

pub loop-page-init : goal.loop-page-init
loop-page-init g c = reads_nothing g.A.Asks.answers c.args.node.now

pub loop-page-preserved : goal.loop-page-preserved
loop-page-preserved g c = reads_more g.A.Asks.answers c.args.node.now c.loop-page.node c.put_next_page.new.node c.loop-page.invariant c.put_next_page.ensures

pub returns-in-Err : goal.returns-in-Err
returns-in-Err g c = reads_more g.A.Asks.answers c.args.node.now c.loop-page.node c.put_next_page.new.node c.loop-page.invariant c.put_next_page.ensures

pub returns-in_default : goal.returns-in_default
returns-in_default g c = reads_more g.A.Asks.answers c.args.node.now c.loop-page.node c.put_next_page.new.node c.loop-page.invariant c.put_next_page.ensures

pub returns-then-len-gt-MOST : goal.returns-then-len-gt-MOST
returns-then-len-gt-MOST g c = reads_more g.A.Asks.answers c.args.node.now c.loop-page.node c.put_next_page.new.node c.loop-page.invariant c.put_next_page.ensures
