use Rattle.dr_run_ask.proofs.Chains.{reads_more, reads_nothing}
use Rattle.dr_word_at.proofs.listing.put_all_rows.Goals as goal

pub loop-hop-init : goal.loop-hop-init
loop-hop-init g c = reads_nothing g.A.Asks.answers c.args.node.now

pub loop-hop-preserved : goal.loop-hop-preserved
loop-hop-preserved g c = reads_more g.A.Asks.answers c.args.node.now c.loop-hop.node c.put_rows_named.new.node c.loop-hop.invariant c.put_rows_named.ensures

pub returns-in-Err : goal.returns-in-Err
returns-in-Err g c = reads_more g.A.Asks.answers c.args.node.now c.loop-hop.node c.put_rows_named.new.node c.loop-hop.invariant c.put_rows_named.ensures
