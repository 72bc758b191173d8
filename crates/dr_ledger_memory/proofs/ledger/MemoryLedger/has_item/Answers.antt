use Rattle.std.proofs.Common.{◌∙◌, ap, is_some, sym}
use Rattle.dr_ledger_memory.specs.Entries.{instance_in}
use Rattle.dr_ledger_memory.proofs.Lookups.{item_at}
use Rattle.dr_ledger_memory.proofs.ledger.MemoryLedger.has_item.Goals as goal

pub returns-in-Some : goal.returns-in-Some
returns-in-Some c = (let l = c.args.self.now in sym (ap is_some (item_at l.parts l.ordered c.args.uid.now ∙ ap instance_in (sym c.in-Some.ensures.value))))

pub returns-in-None : goal.returns-in-None
returns-in-None c = (let l = c.args.self.now in sym (ap is_some (item_at l.parts l.ordered c.args.uid.now ∙ ap instance_in (sym c.in-None.ensures.value))))
