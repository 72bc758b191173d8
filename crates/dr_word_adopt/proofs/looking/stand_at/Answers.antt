use Rattle.std.proofs.Common.{sym, subst}
use Rattle.dr_word_adopt.specs.Beginnings.{OpensThere}
use Rattle.dr_word_adopt.specs.Lookings.{StandsAt}
use Rattle.dr_word_adopt.specs.declared.standing.Standing.{Standing}
use Rattle.dr_word_adopt.proofs.Standings.{stands_at, unopened_unseen}
use Rattle.dr_word_adopt.proofs.looking.stand_at.Goals as goal

pub returns-in-Ok-found : goal.returns-in-Ok-found
returns-in-Ok-found g c =
    subst (λ (s : Standing g.row.O-Ledger.Denot). StandsAt (OpensThere (g.O.Ledgers.opens c.args.ledgers.now) (g.O.ShowsFiles.shows c.args.ledgers.now)) g.O.Ledger.Ledger.site g.O.Ledger.Ledger.book g.O.Ledger.Ledger.stands c.args.folder.now c.args.old.now c.args.next.now c.args.name.now s)
    (sym c.stand.ensures)
    (stands_at (OpensThere (g.O.Ledgers.opens c.args.ledgers.now) (g.O.ShowsFiles.shows c.args.ledgers.now)) g.O.Ledger.Ledger.site g.O.Ledger.Ledger.book g.O.Ledger.Ledger.stands c.args.folder.now c.args.old.now c.args.next.now c.args.name.now
    c.in-Ok.parts.0 c.in-Ok.parts.1 c.in-Ok.ensures.0 c.in-Ok.ensures.1 c.in-Ok-found.found c.in-Ok-found.ensures)

pub returns-in-Err-found : goal.returns-in-Err-found
returns-in-Err-found g c = unopened_unseen c.args.old.now c.args.next.now c.args.name.now c.in-Err-found.halt c.in-Err-found.ensures
