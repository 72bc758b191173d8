-- The desk that a node's ledger is, and the calls that are made on the ledger itself.
use Rattle.std.specs.Prelude.{◌≡◌, ℕ, Bool, Option, Some, None, Result, Ok, Err}
use Rattle.dr_base.specs.Texts.{Text}
use Rattle.dr_site.specs.Parts.{Part}
use Rattle.dr_ledger.specs.declared.fault.LedgerFault.{LedgerFault}
use Rattle.dr_ledger.specs.Bodies.{Bodies}
use Rattle.dr_ledger.specs.Books.{Book}
use Rattle.dr_ledger.specs.declared.item.Outcome.TheVariants.{Broken}
use Rattle.dr_ledger.specs.Refusals.{Arms}
use Rattle.dr_ledger.specs.Replies.{Counts, Dues, IsWaiting, PremiseLasts, Reads, Settles}
use Rattle.dr_ledger.specs.SiteRoutes.{site_routing}
use Rattle.dr_session.specs.declared.desk.LedgerDesk.{LedgerDesk}
use Rattle.dr_session.specs.Desks.{DeskCall, DeskAnswer}
use Rattle.dr_session.specs.Ledgers.{BodiesStep, CountsBy, Desk, LastsBy, RoutedStep}
use Rattle.dr_session.specs.Ledgers.{TellsBodies, desk}

-- What a call of a session does at a ledger of which contracts see this: it goes by the site's
-- routes, under the ledger's premise as the call ends, and the ledger stays of its site.
abbrev pub LedgerStep : {L : Type 0} → (L → Part) → (L → Book) → (L → Bodies) → (L → Bool)
    → (L → Type 0) → (L → Type 0) → (L → ℕ) → LedgerDesk L → DeskCall → DeskAnswer → LedgerDesk L
    → Type 0
LedgerStep site book bodies armed trusts stands failed old call answer new =
    (stands new.ledger → stands old.ledger)
    × (site new.ledger ≡ site old.ledger)
    × (stands new.ledger
    → RoutedStep (site_routing (site old.ledger)) (desk (book old.ledger) (armed old.ledger)) call
    answer (desk (book new.ledger) (armed new.ledger)))
    × (stands new.ledger → BodiesStep (bodies old.ledger) call (bodies new.ledger))
    × (stands new.ledger → TellsBodies (book old.ledger) (bodies old.ledger) call answer)
    × CountsBy answer (failed old.ledger) (failed new.ledger)
    × LastsBy answer (trusts old.ledger) (trusts new.ledger) (stands old.ledger) (stands new.ledger)

-- ---- staying away

-- what is told of a row that was to be settled: its uid, or why it wasn't
abbrev pub told_of : Text → Result (Unit {0}) LedgerFault → Result (Option Text) LedgerFault
told_of uid (Ok done) = Ok (Some uid)
told_of uid (Err why) = Err why

-- Nothing is done where no row is due, or the ledger can't tell. The first row that is due is
-- settled as broken.
abbrev pub SettlesDue : Text → ℕ → Desk → Result (Option Text) LedgerFault
    → Result (Option Text) LedgerFault
    → Desk → Type 0
SettlesDue dest now old (Ok None) result new = (result ≡ Ok None) × (new ≡ old)
SettlesDue dest now old (Ok (Some uid)) result new =
    (answer : Result (Unit {0}) LedgerFault)
    × Settles uid dest Broken now old.book answer new.book
    × Arms (IsWaiting old.book uid dest) old.armed answer new.armed
    × (result ≡ told_of uid answer)
SettlesDue dest now old (Err why) result new = (result ≡ Err why) × (new ≡ old)

-- A node has come to no link to the destination: its ledger is asked what is due there, and settles
-- it.
abbrev pub StaysAway : Text → ℕ → Desk → Result (Option Text) LedgerFault → Desk → Type 0
StaysAway dest now old result new =
    (due : Result (Option Text) LedgerFault)
    × Reads due (Dues old.book dest now)
    × SettlesDue dest now old due result new
