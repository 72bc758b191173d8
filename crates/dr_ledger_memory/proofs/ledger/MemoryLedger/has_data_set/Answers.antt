use Rattle.std.proofs.Common.{◌∙◌, ap, is_some, sym}
use Rattle.dr_ledger_memory.specs.Entries.{body_in}
use Rattle.dr_ledger_memory.proofs.Lookups.{body_at}
use Rattle.dr_ledger_memory.proofs.ledger.MemoryLedger.has_data_set.Goals as goal

pub returns-in-Some : goal.returns-in-Some
returns-in-Some c = (let l = c.args.self.now in c.is_some.ensures ∙ sym (ap is_some (body_at l.parts l.ordered c.args.uid.now ∙ ap body_in (sym c.in-Some.ensures.value))))

pub returns-in-None : goal.returns-in-None
returns-in-None c = (let l = c.args.self.now in sym (ap is_some (body_at l.parts l.ordered c.args.uid.now ∙ ap body_in (sym c.in-None.ensures.value))))
