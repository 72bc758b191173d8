-- Visits to a hop: what is called on the desk, and what is sent.
use Rattle.std.specs.Prelude.{◌≡◌, ◌≢◌, ◌⊎◌, ℕ, Bool, List, Some, None, Result, Ok, Err}
use Rattle.std.specs.declared.io.Error.{Error}
use Rattle.std.specs.declared.option.Option.{Option}
use Rattle.dr_base.specs.Texts.{Text}
use Rattle.dr_ledger.specs.declared.fault.LedgerFault.{LedgerFault}
use Rattle.dr_ledger.specs.declared.fault.LedgerFault.TheVariants as refused
use Rattle.dr_ledger.specs.declared.item.Outcome.TheVariants.{Broken}
use Rattle.dr_site.specs.Parts.{Part}
use Rattle.dr_session.specs.Desks.{DeskCall, DeskAnswer, Settle, Settling}
use Rattle.dr_session.specs.Links.{DeliversAs}
use Rattle.dr_session.specs.declared.ends.Ended.{Ended}
use Rattle.dr_session.specs.declared.ends.Heard.{Heard}
use Rattle.dr_session.specs.declared.sessions.SessionFault.{SessionFault}
use Rattle.dr_session.specs.declared.sessions.SessionFault.TheVariants as fault
use Rattle.dr_run_serve.specs.declared.visit.Visit.{Visit}
use Rattle.dr_run_serve.specs.declared.visit.Visit.TheVariants.{Idle, Unreached, Ended as Over}
use Rattle.dr_run_serve.specs.declared.visit.Visit.TheVariants.{Failed}

-- ---- on the desk

module _ {S : Type 0} (finds : S → Text → ℕ → Result (Option Text) LedgerFault → S → Type 0)
    (tells : ℕ → Type 0) where
  -- what is due for the destination was asked for at some moment that the clock may tell: the uid
  -- of the first row, if there is one, and not its data set
  abbrev pub Finds : Text → S → Result (Option Text) LedgerFault → S → Type 0
  Finds dest s result t = (now : ℕ) × tells now × finds s dest now result t

module _ {S : Type 0} (step : S → DeskCall → DeskAnswer → S → Type 0) (tells : ℕ → Type 0) where
  -- the row was settled as broken at such a moment; that it isn't waiting any more is no fault
  abbrev pub GivesUp : Text → Text → S → Result (Unit {0}) LedgerFault → S → Type 0
  GivesUp uid dest s (Ok done) t =
      (now : ℕ)
      × (answer : Result (Unit {0}) LedgerFault)
      × tells now
      × step s (Settle uid dest Broken now) (Settling answer) t
      × ((answer ≡ Ok tt) ⊎ (answer ≡ Err refused.NotWaiting))
  GivesUp uid dest s (Err why) t =
      (now : ℕ) × tells now × step s (Settle uid dest Broken now) (Settling (Err why)) t

-- ---- over a link

-- what a session comes to, as a visit tells it; a store that failed and want of memory are faults
-- of the visit
abbrev pub IsToldAs : Result Ended SessionFault → Result Visit LedgerFault → Type 0
IsToldAs (Ok ended) result = result ≡ Ok (Over ended)
IsToldAs (Err fault.Desk) result = result ≡ Err refused.Store
IsToldAs (Err fault.Memory) result = result ≡ Err refused.Memory
IsToldAs (Err why) result = result ≡ Ok (Failed why)

module _ {L S : Type 0} (connects : Text → Result L Error → Type 0)
    (hears : L → Heard → L → Type 0)
    (sends : L → List ℕ → Bool → L → Type 0) (closes : L → L → Type 0)
    (step : S → DeskCall → DeskAnswer → S → Type 0)
    (finds : S → Text → ℕ → Result (Option Text) LedgerFault → S → Type 0) (taken : S → ℕ)
    (tells : ℕ → Type 0) (site : Part) (dest address : Text) where
  -- A connect to the address came to an error, which is told: the row is given up.
  abbrev pub StaysAway : Text → S → Result Visit LedgerFault → S → Type 0
  StaysAway uid s (Ok (Unreached error)) t =
      connects address (Err error) × GivesUp step tells uid dest s (Ok tt) t
  StaysAway uid s (Err why) t =
      (error : Error) × connects address (Err error) × GivesUp step tells uid dest s (Err why) t
  StaysAway uid s result t = ⊥

  -- What follows a session, at which the desk took that many calls more: nothing, where it took
  -- some; and where it took none, the row is given up.
  abbrev pub Follows : Text → Result Ended SessionFault → S → S → Result Visit LedgerFault → S
      → Type 0
  Follows uid came s mid result t =
      ((taken mid ≢ taken s) × (mid ≡ t) × IsToldAs came result)
      ⊎ ((taken mid ≡ taken s) × GivesUp step tells uid dest mid (Ok tt) t × IsToldAs came result)
      ⊎ ((why : LedgerFault)
      × (taken mid ≡ taken s) × GivesUp step tells uid dest mid (Err why) t × (result ≡ Err why))

  -- A session over a link to the address, and what follows it.
  abbrev pub Delivers : Text → S → Result Visit LedgerFault → S → Type 0
  Delivers uid s result t =
      (link after : L) × (mid : S)
      × (came : Result Ended SessionFault)
      × connects address (Ok link)
      × DeliversAs hears sends closes step tells 0 site dest came link s after mid
      × Follows uid came s mid result t

  -- the row, which is due, is sent with all others that are
  abbrev pub SendsDue : Text → S → Result Visit LedgerFault → S → Type 0
  SendsDue uid s result t = StaysAway uid s result t ⊎ Delivers uid s result t

  -- A visit: nothing is due, or the desk can't tell, or what is due is sent.
  abbrev pub Visits : S → Result Visit LedgerFault → S → Type 0
  Visits s result t =
      (Finds finds tells dest s (Ok None) t × (result ≡ Ok Idle))
      ⊎ ((why : LedgerFault) × Finds finds tells dest s (Err why) t × (result ≡ Err why))
      ⊎ ((uid : Text) × (mid : S)
      × Finds finds tells dest s (Ok (Some uid)) mid
      × SendsDue uid mid result t)
