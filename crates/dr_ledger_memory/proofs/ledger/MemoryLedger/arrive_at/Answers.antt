use Rattle.dr_ledger.specs.Items.{instance_of}
use Rattle.dr_ledger.specs.SiteRoutes.{site_routing}
use Rattle.dr_ledger_memory.specs.Contents.{content}
use Rattle.dr_ledger_memory.proofs.Always.{refused}
use Rattle.dr_ledger_memory.proofs.ledger.MemoryLedger.arrive_at.Goals as goal

pub returns-in-Err-clause-reply : goal.returns-in-Err-clause-reply
returns-in-Err-clause-reply c = refused (site_routing c.args.self.now.site) c.args.caller.now (instance_of c.args.item) (content c.args.self.now.parts) c.in-Err.fault c.in-Err.ensures.reply
