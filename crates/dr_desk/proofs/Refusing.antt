-- What is refused leaves the book.
use Rattle.std.proofs.Common.{◌≡◌, inl, inr, ℕ, List, ap, Err}
use Rattle.dr_base.specs.Texts.{Text}
use Rattle.dr_ledger.specs.declared.fault.LedgerFault.{LedgerFault}
use Rattle.dr_ledger.specs.declared.fault.LedgerFault.TheVariants as fault
use Rattle.dr_ledger.specs.declared.item.Instance.{Instance}
use Rattle.dr_ledger.specs.declared.item.Outcome.{Outcome}
use Rattle.dr_ledger.specs.Books.{Book, Line}
use Rattle.dr_ledger.specs.Replies.{Arrives, Drops, Forgets, Requeues, Settles}
use Rattle.dr_ledger.specs.Routings.{Routing}
use Rattle.dr_site.specs.Parts.{Part}
use Rattle.dr_desk.specs.Answering.{RefusalLeaves}

arrived : (routing : Routing) (caller : Text) (item : Instance) (b c : Book) (why : LedgerFault) → Arrives routing caller item b (Err why) c → c ≡ b
arrived routing caller item b c fault.NoLine h = h.1
arrived routing caller item b c fault.Conflict h = h.2
arrived routing caller item b c fault.Store h = h.1
arrived routing caller item b c fault.NotWaiting h = absurd h
arrived routing caller item b c fault.NotHeld h = absurd h
arrived routing caller item b c fault.NotOver h = absurd h
arrived routing caller item b c fault.Memory h = h.1

settled : (uid dest : Text) (outcome : Outcome) (now : ℕ) (b c : Book) (why : LedgerFault) → Settles uid dest outcome now b (Err why) c → c ≡ b
settled uid dest outcome now b c fault.NoLine h = absurd h
settled uid dest outcome now b c fault.Conflict h = absurd h
settled uid dest outcome now b c fault.Store h = h
settled uid dest outcome now b c fault.NotWaiting h = h.1
settled uid dest outcome now b c fault.NotHeld h = absurd h
settled uid dest outcome now b c fault.NotOver h = absurd h
settled uid dest outcome now b c fault.Memory h = h

requeued : (uid dest : Text) (b c : Book) (why : LedgerFault) → Requeues uid dest b (Err why) c → c ≡ b
requeued uid dest b c fault.NoLine h = absurd h
requeued uid dest b c fault.Conflict h = absurd h
requeued uid dest b c fault.Store h = h
requeued uid dest b c fault.NotWaiting h = absurd h
requeued uid dest b c fault.NotHeld h = h.1
requeued uid dest b c fault.NotOver h = absurd h
requeued uid dest b c fault.Memory h = h

dropped : (uid dest : Text) (now : ℕ) (b c : Book) (why : LedgerFault) → Drops uid dest now b (Err why) c → c ≡ b
dropped uid dest now b c fault.NoLine h = absurd h
dropped uid dest now b c fault.Conflict h = absurd h
dropped uid dest now b c fault.Store h = h
dropped uid dest now b c fault.NotWaiting h = absurd h
dropped uid dest now b c fault.NotHeld h = h.1
dropped uid dest now b c fault.NotOver h = absurd h
dropped uid dest now b c fault.Memory h = h

forgotten : (uid : Text) (b c : Book) (why : LedgerFault) → Forgets uid b (Err why) c → c ≡ b
forgotten uid b c fault.NoLine h = absurd h
forgotten uid b c fault.Conflict h = absurd h
forgotten uid b c fault.Store h = h
forgotten uid b c fault.NotWaiting h = absurd h
forgotten uid b c fault.NotHeld h = absurd h
forgotten uid b c fault.NotOver h = h.1
forgotten uid b c fault.Memory h = h

module _ {L : Type 0} (site_of : L → Part) (book : L → Book) (stands : L → Type 0) (failed : L → ℕ) (own : Part) (first : List Line) where
  pub arrivals_leave : (routing : Routing) (caller : Text) (item : Instance) → RefusalLeaves site_of book stands failed own first (Arrives routing caller item)
  arrivals_leave routing caller item why old new (shared, inl full) st = ap book full.1
  arrivals_leave routing caller item why old new (shared, inr no_more) st = arrived routing caller item (book old) (book new) why (no_more.0 st)

  pub settlings_leave : (uid dest : Text) (outcome : Outcome) (now : ℕ) → RefusalLeaves site_of book stands failed own first (Settles uid dest outcome now)
  settlings_leave uid dest outcome now why old new (shared, inl full) st = ap book full.1
  settlings_leave uid dest outcome now why old new (shared, inr no_more) st = settled uid dest outcome now (book old) (book new) why (no_more.0 st)

  pub requeuings_leave : (uid dest : Text) → RefusalLeaves site_of book stands failed own first (Requeues uid dest)
  requeuings_leave uid dest why old new (shared, inl full) st = ap book full.1
  requeuings_leave uid dest why old new (shared, inr no_more) st = requeued uid dest (book old) (book new) why (no_more.0 st)

  pub droppings_leave : (uid dest : Text) (now : ℕ) → RefusalLeaves site_of book stands failed own first (Drops uid dest now)
  droppings_leave uid dest now why old new (shared, inl full) st = ap book full.1
  droppings_leave uid dest now why old new (shared, inr no_more) st = dropped uid dest now (book old) (book new) why (no_more.0 st)

  pub forgettings_leave : (uid : Text) → RefusalLeaves site_of book stands failed own first (Forgets uid)
  forgettings_leave uid why old new (shared, inl full) st = ap book full.1
  forgettings_leave uid why old new (shared, inr no_more) st = forgotten uid (book old) (book new) why (no_more.0 st)
