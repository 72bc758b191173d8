use Rattle.dr_ledger.specs.SiteRoutes.{site_routing}
use Rattle.dr_ledger_history.specs.Contents.{content}
use Rattle.dr_ledger_history.specs.Lines.{line_of}
use Rattle.dr_ledger_history.proofs.Planned.{no_both}
use Rattle.dr_ledger_history.proofs.Telling.{not_by, refused_since, told_since}
use Rattle.dr_ledger_history.proofs.history.History.tell.Goals as goal

pub returns-then-not-by : goal.returns-then-not-by
returns-then-not-by c = λ past since told. not_by (site_routing c.args.site.now) past since (line_of c.args.line) (content c.args.self.parts) told (λ is. no_both c.in_ok-by.by (c.in_ok-by.ensures.1 is) c.if-not-by.true)

pub returns-in-Ok : goal.returns-in-Ok
returns-in-Ok c = λ past since told. told_since (site_routing c.args.site.now) past since (line_of c.args.line) (content c.args.self.parts) told (record { alloc = c.args.self.alloc; parts = c.take.new.self }) (c.in_ok-by.ensures.0 c.if-not-by.false) c.in-Ok.ensures

pub returns-in-Err : goal.returns-in-Err
returns-in-Err c = λ past since told. refused_since (site_routing c.args.site.now) past since (line_of c.args.line) (content c.args.self.parts) told (content c.take.new.self) c.in-Err.fault c.in-Err.ensures
