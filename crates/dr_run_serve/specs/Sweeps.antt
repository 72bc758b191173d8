-- What a node forgets one day.
use Rattle.std.specs.Prelude.{◌≡◌, ◌≤◌, ◌<◌, ◌+◌, ◌-◌, ◌^◌, ◌∷◌, ◌++◌, ◌⊎◌, [], ℕ, Bool, true}
use Rattle.std.specs.Prelude.{false, List, length, min, Option, None, Some, Result, Ok, Err}
use Rattle.dr_base.specs.Texts.{Text}
use Rattle.dr_desk.specs.declared.receipt.Call.TheVariants.{Forgetting}
use Rattle.dr_desk.specs.declared.receipt.Receipt.{Receipt}
use Rattle.dr_ledger.specs.Books.{Book, Line}
use Rattle.dr_ledger.specs.Replies.{Forgets}
use Rattle.dr_ledger.specs.declared.fault.LedgerFault.{LedgerFault}
use Rattle.dr_ledger.specs.declared.fault.LedgerFault.TheVariants as fault
use Rattle.dr_ledger_history.specs.declared.line.JournalLine.{JournalLine}
use Rattle.dr_run_control.specs.Consoles.{Calls, State}
use Rattle.dr_run_serve.specs.Pasts.{HasNoted, IsKnown}
use Rattle.dr_run_serve.specs.declared.past.Past.{Past}
use Rattle.dr_run_serve.specs.declared.sweep.OverInstance.{OverInstance}
use Rattle.dr_run_serve.specs.declared.sweep.Sweep.{Sweep}
use Rattle.dr_site.specs.Parts.{Part}

-- the first one is the instance of this uid, which has been over since that moment or longer
abbrev pub IsFirstOver : List OverInstance → ℕ → Text → Type 0
IsFirstOver queue since uid =
    (first : OverInstance) × (rest : List OverInstance)
    × (queue ≡ first ∷ rest) × (first.at ≤ since) × (uid ≡ first.uid)

-- there is none, or the first one came to be over later
abbrev pub IsNotDue : List OverInstance → ℕ → Type 0
IsNotDue queue since =
    (queue ≡ [])
    ⊎ ((first : OverInstance)
    × (rest : List OverInstance)
    × (queue ≡ first ∷ rest) × (since < first.at))

-- one after the other, and what came of each
abbrev pub Chain : {X Y : Type 0} → (X → Y → X → Type 0) → List Y → X → X → Type 0
Chain One [] x z = z ≡ x
Chain {X = X} One (came ∷ more) x z = (y : X) × One x came y × Chain One more y z

-- one more, if it was forgotten; the count stays at its greatest value
abbrev pub counted : ℕ → Bool → ℕ
counted count true = min (count + 1) (2 ^ 64 - 1)
counted count false = count

-- so many of them were forgotten
abbrev pub counted_all : ℕ → List Bool → ℕ
counted_all count [] = count
counted_all count (forgotten ∷ more) = counted_all (counted count forgotten) more

-- where the store refused it the next turn comes a minute later
abbrev pub next_turn : ℕ → ℕ → Result ℕ LedgerFault → ℕ
next_turn next now (Ok count) = next
next_turn next now (Err why) = min (now + 60000) (2 ^ 64 - 1)

-- The one who sweeps between two turns: the moment of the next one, what is known to be over, what
-- is noted of the journal, and its pass.
pub record Sweeping : Type 0 where
  pub next : ℕ
  pub known : Option Sweep
  pub past : Past
  pub pass : State

abbrev pub sweeping : ℕ → Option Sweep → Past → ℕ → List Receipt → Sweeping
sweeping next known past count receipts =
    record { next = next; known = known; past = past; pass = (count, receipts) }

module _ {L : Type 0} (site_of : L → Part) (book : L → Book) (stands : L → Type 0)
    (failed : L → ℕ) (own : Part) (first : List Line) where
  -- The desk is called once for the first one, which has been over since that moment or longer: it
  -- is forgotten, or refused for that reason.
  pub record Asks (since : ℕ) (one : OverInstance) (s : State)
      (answer : Result (Unit {0}) LedgerFault) (t : State) : Type 0 where
    pub long : one.at ≤ since
    pub asked : Calls site_of book stands failed own first (Forgets one.uid) (Forgetting one.uid)
        answer s.0 s.1 t.0 t.1

  -- it leaves the queue, for that answer
  abbrev pub Leaves : ℕ → List OverInstance → State → Result (Unit {0}) LedgerFault
      → List OverInstance → State → Type 0
  Leaves since queue s answer rest t =
      (one : OverInstance) × (queue ≡ one ∷ rest) × Asks since one s answer t

  -- What becomes of the first one. True: it was forgotten. False: it isn't over, as the ledger
  -- says. Where the ledger can't tell it stays; and where none has been over for so long nothing is
  -- asked.
  abbrev pub ForgetsFirst : ℕ → List OverInstance → State → Result (Option Bool) LedgerFault
      → List OverInstance → State → Type 0
  ForgetsFirst since queue s (Ok None) rest t =
      IsNotDue queue since × (rest ≡ queue) × (t ≡ s)
  ForgetsFirst since queue s (Ok (Some true)) rest t = Leaves since queue s (Ok tt) rest t
  ForgetsFirst since queue s (Ok (Some false)) rest t =
      Leaves since queue s (Err fault.NotOver) rest t
  ForgetsFirst since queue s (Err why) rest t =
      (rest ≡ queue)
      × ((one : OverInstance)
      × (more : List OverInstance)
      × (queue ≡ one ∷ more) × Asks since one s (Err why) t)

  -- the first one is asked for, and leaves the queue; and whether it was forgotten
  abbrev pub ForgetsOne : ℕ → List OverInstance × State → Bool → List OverInstance × State → Type 0
  ForgetsOne since x forgotten y = ForgetsFirst since x.0 x.1 (Ok (Some forgotten)) y.0 y.1

  -- The first ones that have been over since that moment or longer are asked for, one after the
  -- other: all of them, or a thousand; so many were forgotten. What the ledger can't tell is the
  -- end of it.
  abbrev pub ForgetsDue : ℕ → List OverInstance → State → Result ℕ LedgerFault
      → List OverInstance → State → Type 0
  ForgetsDue since queue s (Ok count) rest t =
      (each : List Bool)
      × Chain (ForgetsOne since) each (queue, s) (rest, t)
      × (count ≡ counted_all 0 each)
      × ((length each ≡ 1000) ⊎ ((length each < 1000) × IsNotDue rest since))
  ForgetsDue since queue s (Err why) rest t =
      (each : List Bool) × (between : List OverInstance) × (mid : State)
      × Chain (ForgetsOne since) each (queue, s) (between, mid)
      × (length each < 1000)
      × ForgetsFirst since between mid (Err why) rest t

  -- more may have come to be over, behind that queue; of all of them what is due is forgotten
  abbrev pub ForgetsOf : ℕ → List OverInstance → State → Result ℕ LedgerFault
      → Option Sweep → State → Type 0
  ForgetsOf since queue s came left t =
      (more : List OverInstance) × (sweep : Sweep)
      × ForgetsDue since (queue ++ more) s came sweep.queue.items t
      × (left ≡ Some sweep)

  -- What is done where that is known to be over. Where nothing is known nothing is forgotten.
  abbrev pub ForgetsKnown : ℕ → Result (Option Sweep) LedgerFault → State → Result ℕ LedgerFault
      → Option Sweep → State → Type 0
  ForgetsKnown since (Ok (Some sweep)) s came left t =
      ForgetsOf since sweep.queue.items s came left t
  ForgetsKnown since (Ok None) s came left t = (came ≡ Ok 0) × (left ≡ None) × (t ≡ s)
  ForgetsKnown since (Err why) s came left t = (came ≡ Err why) × (left ≡ None) × (t ≡ s)

  module _ (tells : ℕ → Result (List JournalLine) LedgerFault → Type 0)
      (lines : List JournalLine) where
    -- nothing is forgotten, and these lines are noted
    abbrev pub DoesNothing : Option Sweep → State → Result ℕ LedgerFault
        → Option Sweep → Past → State → Type 0
    DoesNothing had s came left past t =
        (came ≡ Ok 0) × (left ≡ had) × (t ≡ s) × HasNoted lines past

    -- what is known to be over is forgotten, where it is due; these lines had been read
    abbrev pub SweepsOnce : ℕ → Option Sweep → State → Result ℕ LedgerFault
        → Option Sweep → Past → State → Type 0
    SweepsOnce since had s came left past t =
        (known : Result (Option Sweep) LedgerFault)
        × IsKnown tells lines had known past
        × ForgetsKnown since known s came left t

    -- A turn at that moment: what has been over for so many milliseconds is forgotten. Nothing is
    -- done before the moment of the next turn, nor where what is over stays for ever.
    abbrev pub Turns : Option ℕ → ℕ → ℕ → Option Sweep → State → Result ℕ LedgerFault
        → Option Sweep → Past → State → Type 0
    Turns None next now had s came left past t = DoesNothing had s came left past t
    Turns (Some after) next now had s came left past t =
        ((now < next) × DoesNothing had s came left past t)
        ⊎ ((next ≤ now) × SweepsOnce (now - after) had s came left past t)

  -- One turn, by these terms and at a moment that the clock told. It goes on from the lines that
  -- were noted before, whichever they are, and with what was known then.
  abbrev pub TurnsOnce : (tells : ℕ → Result (List JournalLine) LedgerFault → Type 0)
      → (told : ℕ → Type 0) → Option ℕ → Sweeping → Result ℕ LedgerFault → Sweeping → Type 0
  TurnsOnce tells told after old came new =
      (now : ℕ) × told now
      × ((lines : List JournalLine)
      → HasNoted lines old.past
      → Turns tells lines after old.next now old.known old.pass came new.known new.past new.pass)
      × (new.next ≡ next_turn old.next now came)

  -- One such turn where the node serves, and else nothing.
  abbrev pub TurnsIf : (tells : ℕ → Result (List JournalLine) LedgerFault → Type 0)
      → (told : ℕ → Type 0) → Option ℕ → Bool → Sweeping → Sweeping → Type 0
  TurnsIf tells told after true old new =
      (came : Result ℕ LedgerFault) × TurnsOnce tells told after old came new
  TurnsIf tells told after false old new = new ≡ old
