use Rattle.std.proofs.Common.{subst}
use Rattle.std.specs.Prelude.{IfOk}
use Rattle.dr_site.specs.Parts.{Part}
use Rattle.dr_word_rehearse.specs.Looks.{IsFoundBy}
use Rattle.dr_word_rehearse.proofs.looking.find_of.Goals as goal

pub returns-in-Ok : goal.returns-in-Ok
returns-in-Ok g c = subst (λ (site : Part). IfOk c.find.result (IsFoundBy (g.O.Ledgers.opens c.args.ledgers.now c.args.path.now) g.O.Ledger.Ledger.site site)) c.in-Ok.ensures c.find.ensures
