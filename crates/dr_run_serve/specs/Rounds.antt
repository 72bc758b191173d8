-- Visits to several hops, one after the other.
use Rattle.std.specs.Prelude.{◌≡◌, ◌⊎◌, List, [], ◌∷◌, Result, Ok, Err}
use Rattle.dr_ledger.specs.declared.fault.LedgerFault.{LedgerFault}
use Rattle.dr_run_open.specs.declared.hops.NextHop.{NextHop}
use Rattle.dr_run_serve.specs.declared.visit.Visit.{Visit}

-- Each hop is visited once, in order, whatever came of the visits before; a fault of the desk ends
-- that, and the hops behind it aren't visited. `One` says what a visit to a hop does.
abbrev pub VisitsEach : {S : Type 0}
    → (NextHop → S → Result Visit LedgerFault → S → Type 0)
    → List NextHop → S
    → Result (Unit {0}) LedgerFault
    → S → Type 0
VisitsEach {S} One [] s result t = (result ≡ Ok tt) × (t ≡ s)
VisitsEach {S} One (hop ∷ hops) s result t =
    ((why : LedgerFault) × (result ≡ Err why) × One hop s (Err why) t)
    ⊎ ((came : Visit) × (mid : S) × One hop s (Ok came) mid × VisitsEach One hops mid result t)
