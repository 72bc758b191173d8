-- What reading a balance answers.
use Rattle.std.specs.Prelude.{◌≡◌, ℕ, ◌<◌, ◌≤◌, ◌⊎◌, Result, Ok, Err}
use Rattle.std.specs.declared.cmp.Ordering.{Ordering}
use Rattle.std.specs.declared.cmp.Ordering.TheVariants.{Equal, Greater}
use Rattle.dr_base.specs.Texts.{Text, text_cmp}
use Rattle.dr_ledger.specs.Pairs.{pair_cmp}
use Rattle.dr_ledger_balance.specs.Balances.{FitsBalance, IsInOrder, balance_text, body_of}
use Rattle.dr_ledger_balance.specs.Orders.{HasNeighbors, item_cmp, row_cmp}
use Rattle.dr_ledger_balance.specs.Sealing.{IsChanged, IsCut, sealed}
use Rattle.dr_ledger_balance.specs.declared.balance.Balance.{Balance}
use Rattle.dr_ledger_balance.specs.declared.fault.BalanceFault.{BalanceFault}
use Rattle.dr_ledger_balance.specs.declared.fault.BalanceFault.TheVariants as fault

-- the bytes are the text of this balance, in whatever order its lists are
abbrev pub IsTextOf : Text → Balance → Type 0
IsTextOf bytes b = FitsBalance b × (bytes ≡ balance_text b)

-- no balance has these lines
abbrev pub HasNoBody : Text → Type 0
HasNoBody body = (b : Balance) → FitsBalance b → body ≡ body_of b → ⊥

-- the SHA-256 at their end is right, and no balance has the lines before it
abbrev pub IsOfNoBalance : Text → Type 0
IsOfNoBalance bytes = (body : Text) × (bytes ≡ sealed body) × HasNoBody body

-- in one of its lists one and the next compare so
abbrev pub HasSomewhere : Ordering → Balance → Type 0
HasSomewhere as_said b =
    HasNeighbors item_cmp as_said b.items
    ⊎ (HasNeighbors pair_cmp as_said b.arrivals
    ⊎ (HasNeighbors text_cmp as_said b.kept ⊎ HasNeighbors row_cmp as_said b.rows))

-- what comparing in all lists answers
abbrev pub AnswersOrders : Balance → Result (Unit {0}) BalanceFault → Type 0
AnswersOrders b (Ok done) = IsInOrder b
AnswersOrders b (Err fault.Twice) = HasSomewhere Equal b
AnswersOrders b (Err fault.OutOfOrder) = HasSomewhere Greater b
AnswersOrders b (Err other) = ⊥

-- the bytes are the text of a balance of at most so many lines, which compares so somewhere
abbrev pub IsMisplaced : Ordering → Text → ℕ → Type 0
IsMisplaced as_said bytes most =
    (b : Balance) × IsTextOf bytes b × (b.count ≤ most) × HasSomewhere as_said b

-- reading bytes as the balance of at most so many lines of a journal
abbrev pub Reads : Text → ℕ → Result Balance BalanceFault → Type 0
Reads bytes most (Ok b) = IsTextOf bytes b × (b.count ≤ most) × IsInOrder b
Reads bytes most (Err fault.Cut) = IsCut bytes
Reads bytes most (Err fault.Changed) = IsChanged bytes
Reads bytes most (Err fault.NoBalance) = IsOfNoBalance bytes
Reads bytes most (Err fault.MoreThanSaid) = (b : Balance) × IsTextOf bytes b × (most < b.count)
Reads bytes most (Err fault.OutOfOrder) = IsMisplaced Greater bytes most
Reads bytes most (Err fault.Twice) = IsMisplaced Equal bytes most
Reads bytes most (Err fault.Memory) = Unit {0}
