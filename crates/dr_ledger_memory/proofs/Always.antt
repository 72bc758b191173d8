-- What holds of a ledger whose store never fails, whatever it answers.
use Rattle.std.proofs.Common.{false, Result, Ok, Err, inr, refl, subst, arith}
use Rattle.dr_ledger.specs.declared.fault.LedgerFault.{LedgerFault}
use Rattle.dr_ledger.specs.declared.fault.LedgerFault.TheVariants as fault
use Rattle.dr_base.specs.Texts.{Text}
use Rattle.dr_ledger.specs.declared.item.Instance.{Instance}
use Rattle.dr_ledger.specs.Books.{Book}
use Rattle.dr_ledger.specs.Routings.{Routing}
use Rattle.dr_ledger.specs.Refusals.{Arms}
use Rattle.dr_ledger.specs.Replies.{Admits, Arrives, Counts, PremiseLasts, LastsAfter, Reads}
use Rattle.dr_ledger_memory.specs.Sound.{NeverFails, ShowsOrFails}

pub counts : {A : Type 0} (r : Result A LedgerFault) → NeverFails r → Counts r 0 0
counts {A = A} r never = record { never_falls = omega arith; no_other = inr refl; has_cause = λ e. absurd (let P : Result A LedgerFault → Type 0 = λ x. NeverFails x in subst P e never) }

pub arms : {A : Type 0} (Would : Type 0) (r : Result A LedgerFault) → NeverFails r → Arms Would false r false
arms Would (Ok value) n = (refl, refl)
arms Would (Err fault.Store) n = absurd n
arms Would (Err fault.NoLine) n = refl
arms Would (Err fault.Conflict) n = refl
arms Would (Err fault.NotWaiting) n = refl
arms Would (Err fault.NotHeld) n = refl
arms Would (Err fault.NotOver) n = refl
arms Would (Err fault.Memory) n = refl

after : {A : Type 0} (r : Result A LedgerFault) → LastsAfter r (Unit {0} → Unit {0} → Unit {0})
after (Ok value) = λ t s. tt
after (Err fault.Store) = tt
after (Err fault.NoLine) = λ t s. tt
after (Err fault.Conflict) = λ t s. tt
after (Err fault.NotWaiting) = λ t s. tt
after (Err fault.NotHeld) = λ t s. tt
after (Err fault.NotOver) = λ t s. tt
after (Err fault.Memory) = tt

pub lasts : {A : Type 0} (r : Result A LedgerFault) → PremiseLasts r (Unit {0}) (Unit {0}) (Unit {0}) (Unit {0})
lasts r = record { trusted = λ t. t; lasts = after r }

pub reads : {A : Type 0} (r : Result A LedgerFault) (Is : A → Type 0) → ShowsOrFails r Is → Reads r Is
reads (Ok value) Is h = h
reads (Err fault.Memory) Is h = tt
reads (Err fault.Store) Is h = absurd h
reads (Err fault.NoLine) Is h = absurd h
reads (Err fault.Conflict) Is h = absurd h
reads (Err fault.NotWaiting) Is h = absurd h
reads (Err fault.NotHeld) Is h = absurd h
reads (Err fault.NotOver) Is h = absurd h

-- what it shows says something else
pub reads_as : {A : Type 0} (r : Result A LedgerFault) (Is Says : A → Type 0) → ((value : A) → Is value → Says value) → ShowsOrFails r Is → Reads r Says
reads_as (Ok value) Is Says f h = f value h
reads_as (Err fault.Memory) Is Says f h = tt
reads_as (Err fault.Store) Is Says f h = absurd h
reads_as (Err fault.NoLine) Is Says f h = absurd h
reads_as (Err fault.Conflict) Is Says f h = absurd h
reads_as (Err fault.NotWaiting) Is Says f h = absurd h
reads_as (Err fault.NotHeld) Is Says f h = absurd h
reads_as (Err fault.NotOver) Is Says f h = absurd h

pub shown_never : {A : Type 0} (r : Result A LedgerFault) (Is : A → Type 0) → ShowsOrFails r Is → NeverFails r
shown_never (Ok value) Is h = tt
shown_never (Err fault.Memory) Is h = tt
shown_never (Err fault.Store) Is h = absurd h
shown_never (Err fault.NoLine) Is h = absurd h
shown_never (Err fault.Conflict) Is h = absurd h
shown_never (Err fault.NotWaiting) Is h = absurd h
shown_never (Err fault.NotHeld) Is h = absurd h
shown_never (Err fault.NotOver) Is h = absurd h

-- what `test` refuses is refused
pub refused : (routing : Routing) (caller : Text) (item : Instance) (b : Book) (why : LedgerFault) → Admits routing caller item b (Err why) → Arrives routing caller item b (Err why) b
refused routing caller item b fault.NoLine h = (h, refl)
refused routing caller item b fault.Conflict h = (h.0, h.1, refl)
refused routing caller item b fault.Store h = (h, refl)
refused routing caller item b fault.Memory h = (h, refl)
refused routing caller item b fault.NotWaiting h = absurd h
refused routing caller item b fault.NotHeld h = absurd h
refused routing caller item b fault.NotOver h = absurd h
