-- Queries, one after another.
use Rattle.std.proofs.Common.{◌≡◌, ◌⊎◌, inl, inr, ℕ, List, Result, Ok, Err, refl, sym, subst}
use Rattle.sqlite.specs.State.{State}
use Rattle.sqlite.specs.Tree.{Trees}
use Rattle.dr_site.specs.Parts.{Part}
use Rattle.dr_ledger.specs.declared.fault.LedgerFault.{LedgerFault}
use Rattle.dr_ledger.specs.declared.fault.LedgerFault.TheVariants as fault
use Rattle.dr_ledger.specs.Books.{Line}
use Rattle.dr_ledger.specs.Replies.{LastsAfter, Reads}
use Rattle.dr_store_shelf.specs.declared.fault.ShelfFault.{ShelfFault}
use Rattle.dr_store_shelf.specs.declared.fault.ShelfFault.TheVariants as shelf
use Rattle.dr_store_schema.specs.Ledgers.{IsLedger}
use Rattle.dr_store_reads.specs.Queries.{Asked, HasTables}
use Rattle.dr_store_calls.specs.Calling.{Called, IsLedgerOf, IsOwnFault, Looked, Nothing}
use Rattle.dr_store_calls.specs.Shelving.{fault_of_shelf}
use Rattle.dr_store_calls.proofs.Calls.{asked_as, asked_looked, looked_failed, looked_read, looked_then, still_called}
use Rattle.dr_store_calls.proofs.Reading.{reads_as}

-- a query of any tables of that schema is one of a ledger's
pub of_ledger : {A : Type 0} (r : Result A LedgerFault) (old new : State) (Shows : A → Type 0) → Asked HasTables r old new Shows → Asked IsLedger r old new Shows
of_ledger r old new Shows a = record {
  shown = λ clean l. a.shown clean l.schema;
  same = λ clean l. a.same clean l.schema;
  stays = λ clean is_open l. a.stays clean is_open l.schema;
  leaves = λ clean l. a.leaves clean l.schema;
  was_open = a.was_open;
  clean = a.clean;
  idle = a.idle;
}

-- what is open stays open
pub lasts_any : {B : Type 0} (q : Result B LedgerFault) (P : Type 0) → P → LastsAfter q P
lasts_any (Ok value) P p = p
lasts_any (Err fault.Store) P p = tt
lasts_any (Err fault.Memory) P p = tt
lasts_any (Err fault.NoLine) P p = p
lasts_any (Err fault.Conflict) P p = p
lasts_any (Err fault.NotWaiting) P p = p
lasts_any (Err fault.NotHeld) P p = p
lasts_any (Err fault.NotOver) P p = p

-- a query that failed
own_reads : {B : Type 0} (e : LedgerFault) (Q : B → Type 0) → IsOwnFault e → Reads (Err e) Q
own_reads {B} e Q (inl is) = let P : LedgerFault → Type 0 = λ x. Reads {A = B} (Err x) Q in subst P (sym is) tt
own_reads {B} e Q (inr is) = let P : LedgerFault → Type 0 = λ x. Reads {A = B} (Err x) Q in subst P (sym is) tt

-- a shelf that failed
pub shelf_reads : {B : Type 0} (why : ShelfFault) (Q : B → Type 0) → Reads (Err (fault_of_shelf why)) Q
shelf_reads (shelf.Io error) Q = tt
shelf_reads shelf.Memory Q = tt
shelf_reads shelf.Unusable Q = tt
shelf_reads shelf.Full Q = tt
shelf_reads shelf.NoCell Q = tt
shelf_reads shelf.Unreadable Q = tt

pub failed_as : {A B : Type 0} (n : ℕ) (part : Part) (e : LedgerFault) (old new : State) (Shows : Trees → A → Type 0) (Says : Trees → B → Type 0) → Looked {A = A} n part (Err e) old new Shows → Looked {A = B} n part (Err e) old new Says
failed_as {A} {B} n part e old new Shows Says l =
    looked_failed {A = A} {B = B} n part old new Shows e Nothing (λ base db. (db ≡ base) × Reads {A = B} (Err e) (Says base)) (λ base db. ⊥) l (λ base asks own. (refl, own_reads e (Says base) own))

-- where nothing was asked, as the shelf may not be used any more
pub looked_shut : {A : Type 0} (n : ℕ) (part : Part) (s : State) (Shows : Trees → A → Type 0) → Looked {A = A} n part (Err fault.Store) s s Shows
looked_shut {A} n part s Shows =
    let r : Result A LedgerFault = Err fault.Store in
    let Both : Trees → Trees → Type 0 = λ base db. (db ≡ base) × Reads r (Shows base) in
    let None : Trees → Trees → Type 0 = λ base db. ⊥ in
    still_called n part r s Nothing Both None (λ db given. (refl, tt)) (lasts_any r)

-- one query, and then another
pub looked_both : {A B : Type 0} (n : ℕ) (part : Part) (old mid new : State) (Shows : Trees → A → Type 0) (a : A) (r : Result B LedgerFault) (Then Says : Trees → B → Type 0) → Looked n part (Ok a) old mid Shows → Looked n part r mid new Then
    → ((base : Trees) (past : List Line) → IsLedgerOf past n part base → Shows base a → (b : B) → Then base b → Says base b) → Looked n part r old new Says
looked_both {A} {B} n part old mid new Shows a r Then Says l c f =
    let Ledger : Trees → Type 0 = λ db. (past : List Line) × IsLedgerOf past n part db in
    let First : Trees → Trees → Type 0 = λ base db. (db ≡ base) × Reads r (Then base) in
    let Both : Trees → Trees → Type 0 = λ base db. (db ≡ base) × Reads r (Says base) in
    let None : Trees → Trees → Type 0 = λ base db. ⊥ in
    asked_as n n part r old new Ledger Nothing Both None (λ past db is any. (past, is))
    (looked_then {A = A} {B = B} n n part old mid new Shows a r Ledger Nothing First None Both None l c (λ past db is asks shown. tt)
    (λ base db asks shown it. (it.0, reads_as r (Then base) (Says base) (λ b then. f base asks.0 asks.1 shown b then) it.1)) (λ base db asks shown none. none))

-- what was read is read further, in a ledger's tables
pub looked_more : {A B : Type 0} (n : ℕ) (part : Part) (old new : State) (Shows : Trees → A → Type 0) (a : A) (r : Result B LedgerFault) (Says : Trees → B → Type 0) → Looked n part (Ok a) old new Shows
    → ((base : Trees) (past : List Line) → IsLedgerOf past n part base → Shows base a → Reads r (Says base)) → Looked n part r old new Says
looked_more {A} {B} n part old new Shows a r Says l f =
    let Ledger : Trees → Type 0 = λ db. (past : List Line) × IsLedgerOf past n part db in
    let Given : Trees → Type 0 = λ base. Reads r (Says base) in
    let Both : Trees → Trees → Type 0 = λ base db. (db ≡ base) × Reads r (Says base) in
    let None : Trees → Trees → Type 0 = λ base db. ⊥ in
    asked_as n n part r old new Ledger Nothing Both None (λ past db is any. (past, is))
    (looked_then {A = A} {B = B} n n part old new new Shows a r Ledger Given Both None Both None l (still_called n part r new Given Both None (λ db given. (refl, given)) (lasts_any r)) (λ past db is asks shown. f db asks.0 asks.1 shown)
    (λ base db asks shown it. it) (λ base db asks shown none. none))

-- a query, and an answer by what it showed
pub looked_answers : {A B : Type 0} (n : ℕ) (part : Part) (old new : State) (Shows : Trees → A → Type 0) (a : A) (r : Result B LedgerFault) (Answers : Trees → Type 0) → Looked n part (Ok a) old new Shows
    → ((base : Trees) → Shows base a → Answers base) → Called n n part r old new Nothing (λ base db. (db ≡ base) × Answers base) (λ base db. ⊥)
looked_answers {A} {B} n part old new Shows a r Answers l f =
    let Both : Trees → Trees → Type 0 = λ base db. (db ≡ base) × Answers base in
    let None : Trees → Trees → Type 0 = λ base db. ⊥ in
    looked_then {A = A} {B = B} n n part old new new Shows a r Nothing Answers Both None Both None l (still_called n part r new Answers Both None (λ db given. (refl, given)) (lasts_any r)) (λ past db is asks shown. f db shown)
    (λ base db asks shown it. it) (λ base db asks shown none. none)
