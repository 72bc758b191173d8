-- Lists in the order of their keys.
use Rattle.std.specs.Prelude.{◌≡◌, ℕ, ◌+◌, ◌<◌, List, Result, Ok, Err, length, get_or}
use Rattle.std.specs.List.Sorted.{IsStrictlySortedBy}
use Rattle.std.specs.Ordering.{on}
use Rattle.std.specs.declared.cmp.Ordering.{Ordering}
use Rattle.std.specs.declared.cmp.Ordering.TheVariants.{Less, Equal, Greater}
use Rattle.dr_base.specs.Texts.{Text, text_cmp}
use Rattle.dr_ledger.specs.Pairs.{Pair, pair_cmp}
use Rattle.dr_ledger.specs.declared.item.Instance.{Instance}
use Rattle.dr_ledger.specs.declared.item.Progress.{Progress}
use Rattle.dr_ledger_balance.specs.declared.fault.BalanceFault.{BalanceFault}
use Rattle.dr_ledger_balance.specs.declared.fault.BalanceFault.TheVariants as fault

-- instances by uid
abbrev pub item_cmp : Instance → Instance → Ordering
item_cmp = on (λ item. item.uid) text_cmp

-- rows by uid and destination
abbrev pub row_cmp : Pair × Progress → Pair × Progress → Ordering
row_cmp = on (λ row. row.0) pair_cmp

abbrev pub AreItemsInOrder : List Instance → Type 0
AreItemsInOrder = IsStrictlySortedBy item_cmp

abbrev pub ArePairsInOrder : List Pair → Type 0
ArePairsInOrder = IsStrictlySortedBy pair_cmp

abbrev pub AreTextsInOrder : List Text → Type 0
AreTextsInOrder = IsStrictlySortedBy text_cmp

abbrev pub AreRowsInOrder : List (Pair × Progress) → Type 0
AreRowsInOrder = IsStrictlySortedBy row_cmp

-- somewhere one and the next compare so
pub record HasNeighbors {X : Type 0} (cmp : X → X → Ordering) (as_said : Ordering) (xs : List X)
    : Type 0 where
  pub place : ℕ
  pub one : X
  pub next : X
  pub within : place + 1 < length xs
  pub is_one : one ≡ get_or xs place one
  pub is_next : next ≡ get_or xs (place + 1) next
  pub so : cmp one next ≡ as_said

-- what comparing one with the next answers
abbrev pub AnswersPair : Ordering → Result (Unit {0}) BalanceFault → Type 0
AnswersPair order (Ok done) = order ≡ Less
AnswersPair order (Err fault.Twice) = order ≡ Equal
AnswersPair order (Err fault.OutOfOrder) = order ≡ Greater
AnswersPair order (Err other) = ⊥

-- what comparing each with the next answers
abbrev pub AnswersOrder : {X : Type 0} → (X → X → Ordering) → List X
    → Result (Unit {0}) BalanceFault
    → Type 0
AnswersOrder cmp xs (Ok done) = IsStrictlySortedBy cmp xs
AnswersOrder cmp xs (Err fault.Twice) = HasNeighbors cmp Equal xs
AnswersOrder cmp xs (Err fault.OutOfOrder) = HasNeighbors cmp Greater xs
AnswersOrder cmp xs (Err other) = ⊥
