use Rattle.std.proofs.Common.{◌++◌, subst, sym}
use Rattle.dr_ledger.specs.Books.{empty_book}
use Rattle.dr_ledger.specs.Histories.{IsPast}
use Rattle.dr_ledger.specs.SiteRoutes.{site_routing}
use Rattle.dr_ledger_history.specs.Contents.{content}
use Rattle.dr_ledger_history.specs.Told.{IsTold}
use Rattle.dr_store_audit.specs.Journal.{lines_told}
use Rattle.dr_store_audit.proofs.Split.{ToldSince, no_past, told_so}
use Rattle.dr_store_audit.proofs.telling.tell.Goals as goal

pub returns-in-Ok : goal.returns-in-Ok
returns-in-Ok c = λ before begun under.
    let routing = site_routing c.args.site.now in
    let goals = c.args.goals.now in
    let first = content c.in-Ok.told.parts in
    let r = c.tell_all_since.result in
    told_so routing before goals c.args.notes.now c.count_past.result c.count_past.ensures.over c.count_past.ensures.since first
    (subst (λ notes. IsTold (before ++ lines_told goals notes) first) c.split_at.ensures.front (c.in-Ok.ensures before begun))
    r (subst (λ notes. ToldSince routing (lines_told goals notes) first r) c.split_at.ensures.back c.tell_all_since.ensures) under

pub returns-in-Err : goal.returns-in-Err
returns-in-Err c = λ before begun under other.
    let goals = c.args.goals.now in
    no_past (site_routing c.args.site.now) before goals c.args.notes.now c.count_past.result c.count_past.ensures.over c.count_past.ensures.since (content c.args.begun.parts) begun
    (λ past. c.in-Err.ensures before other begun (subst (λ notes. IsPast (before ++ lines_told goals notes) empty_book) (sym c.split_at.ensures.front) past))
