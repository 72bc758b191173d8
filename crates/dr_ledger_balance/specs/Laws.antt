-- Laws of balances as text.
use Rattle.std.specs.Prelude.{◌≡◌, ◌≤◌, ℕ, List, [], ◌∷◌, ◌++◌, Result, Ok, Err, codes}
use Rattle.std.specs.Prelude.{replicate}
use Rattle.std.specs.BTreeMap as tree
use Rattle.std.specs.BTreeSet as sorted
use Rattle.dr_base.specs.Texts.{Text}
use Rattle.dr_base.specs.declared.syntax.Syntax.TheVariants.{Explicit}
use Rattle.dr_ledger.specs.Books.{Line}
use Rattle.dr_ledger.specs.Pairs.{Pair}
use Rattle.dr_ledger.specs.declared.item.Cause.TheVariants as cause
use Rattle.dr_ledger.specs.declared.item.Instance.{Instance}
use Rattle.dr_ledger.specs.declared.item.Progress.{Progress}
use Rattle.dr_ledger.specs.declared.item.Progress.TheVariants as progress
use Rattle.dr_ledger_history.specs.Contents.{held_in}
use Rattle.dr_ledger_balance.specs.Adding.{AreOrdered, balance_of}
use Rattle.dr_ledger_balance.specs.Balances.{FitsBalance, IsInOrder, balance_text, body_of}
use Rattle.dr_ledger_balance.specs.Contents.{AreUnderTheirUids, IsBalanceOf, content_in}
use Rattle.dr_ledger_balance.specs.Reading.{HasNoBody, Reads}
use Rattle.dr_ledger_balance.specs.Sealing.{sealed, with_digits}
use Rattle.dr_ledger_balance.specs.declared.balance.Balance.{Balance}
use Rattle.dr_ledger_balance.specs.declared.fault.BalanceFault.{BalanceFault}
use Rattle.dr_ledger_balance.specs.declared.fault.BalanceFault.TheVariants as fault

-- a text is of one balance
abbrev pub TextsAreOfOneBalance : Type 0
TextsAreOfOneBalance =
    (b c : Balance) → FitsBalance b → FitsBalance c → balance_text b ≡ balance_text c → b ≡ c

-- what was read, or that memory was wanted
abbrev pub Gave : Balance → Result Balance BalanceFault → Type 0
Gave b (Ok read) = read ≡ b
Gave b (Err fault.Memory) = Unit {0}
Gave b (Err other) = ⊥

-- what is written of a balance in order is read, unless memory is wanted
abbrev pub BalancesAreReadAgain : Type 0
BalancesAreReadAgain =
    (b : Balance) (most : ℕ) (answer : Result Balance BalanceFault)
    → FitsBalance b → IsInOrder b → b.count ≤ most
    → Reads (balance_text b) most answer
    → Gave b answer

-- lines of a journal have one balance in order
abbrev pub LinesHaveOneBalance : Type 0
LinesHaveOneBalance =
    (lines : List Line) (b c : Balance)
    → IsInOrder b → IsInOrder c
    → IsBalanceOf lines b → IsBalanceOf lines c
    → b ≡ c

-- what is written of trees that are in order is in order, and says what they hold
abbrev pub TreesAreSaid : Type 0
TreesAreSaid =
    (count : ℕ) (items : tree.BTreeMap Text Instance) (arrivals : sorted.BTreeSet Pair)
    (kept : sorted.BTreeSet Text) (rows : tree.BTreeMap Pair Progress)
    → AreOrdered items arrivals kept rows → AreUnderTheirUids items
    → IsInOrder (balance_of count items arrivals kept rows)
    × (content_in (balance_of count items arrivals kept rows) ≡ held_in items arrivals kept rows)

-- ---- figures

abbrev pub some_instance : Instance
some_instance = record {
  uid = codes "1.2";
  key = record {
    class = codes "1.3";
    syntax = Explicit;
    modality = codes "CT";
    station = [];
  };
  size = 70;
  digest = replicate 32 171;
}

-- one of each kind, but two rows
abbrev pub some_balance : Balance
some_balance = record {
  count = 5;
  items = some_instance ∷ [];
  arrivals = (codes "SCANNER", codes "1.2") ∷ [];
  kept = codes "1.2" ∷ [];
  rows = ((codes "1.2", codes "ARCH"), progress.Waiting 2 1000)
      ∷ ((codes "1.2", codes "VIEW"), progress.Held (cause.Status 45073))
      ∷ [];
}

abbrev pub of_kept : ℕ → List Text → Balance
of_kept count kept =
    record { count = count; items = []; arrivals = []; kept = kept; rows = [] }

-- what has one of each kind; and lines of no balance: none, a number with a leading zero, a length
-- that is too great, and something behind the last line
abbrev pub BalanceFiguresAreRight : Type 0
BalanceFiguresAreRight =
    (body_of some_balance
    ≡ codes "instance 3:1.2 3:1.3 19:1.2.840.10008.1.2.1 2:CT 0: 70: 64:"
    ++ codes "abababababababababababababababababababababababababababababababab\n"
    ++ codes "arrival 7:SCANNER 3:1.2\n"
    ++ codes "kept 3:1.2\n"
    ++ codes "row 3:1.2 4:ARCH waiting 2: 1000:\n"
    ++ codes "row 3:1.2 4:VIEW status 45073:\n"
    ++ codes "lines 5:\n")
    × HasNoBody []
    × HasNoBody (codes "lines 05:\n")
    × HasNoBody (codes "kept 9:1.2\nlines 5:\n")
    × HasNoBody (codes "lines 5:\n\n")

-- each refusal can come
abbrev pub RefusalsCanCome : Type 0
RefusalsCanCome =
    Reads [] 9 (Err fault.Cut)
    × Reads (with_digits (codes "lines 5:\n") (replicate 64 200)) 9 (Err fault.Changed)
    × Reads (sealed []) 9 (Err fault.NoBalance)
    × Reads (balance_text (of_kept 5 [])) 4 (Err fault.MoreThanSaid)
    × Reads (balance_text (of_kept 5 (codes "1.3" ∷ codes "1.2" ∷ []))) 9 (Err fault.OutOfOrder)
    × Reads (balance_text (of_kept 5 (codes "1.2" ∷ codes "1.2" ∷ []))) 9 (Err fault.Twice)
