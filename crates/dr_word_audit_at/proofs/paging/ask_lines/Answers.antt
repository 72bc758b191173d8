use Rattle.std.proofs.Common.{refl, ◌∙◌}
use Rattle.dr_run_ask.proofs.Chains.{reads_nothing, reads_one}
use Rattle.dr_run_ask.specs.declared.call.HttpCall.TheVariants.{Journal}
use Rattle.dr_word_audit_at.proofs.Numbering.{asks_as}
use Rattle.dr_word_audit_at.proofs.paging.ask_lines.Goals as goal

pub returns-in-Err-clause-reads : goal.returns-in-Err-clause-reads
returns-in-Err-clause-reads g c = reads_nothing g.A.Asks.answers c.args.node.now

pub returns-clause-reads : goal.returns-clause-reads
returns-clause-reads g c = reads_one g.A.Asks.answers (Journal c.as_str.result) c.ask.result c.args.node.now c.ask.new.self refl c.ask.ensures

pub returns-clause-asks : goal.returns-clause-asks
returns-clause-asks g c =
    asks_as g.A.Asks.answers c.args.after (Journal c.as_str.result) c.args.node.now c.ask.new.self c.ask.result (refl, c.as_str.ensures.value ∙ c.in-Ok.ensures) c.ask.ensures
