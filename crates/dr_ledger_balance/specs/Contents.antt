-- What a balance says that the first lines of a journal made.
use Rattle.std.specs.Prelude.{◌≡◌, List, All, length, map as mapped}
use Rattle.std.specs.BTreeMap as tree
use Rattle.std.specs.FinMap as map
use Rattle.dr_base.specs.Texts.{Text}
use Rattle.dr_ledger.specs.Books.{Line}
use Rattle.dr_ledger.specs.declared.item.Instance.{Instance}
use Rattle.dr_ledger_history.specs.Contents.{Content, all_of}
use Rattle.dr_ledger_history.specs.Told.{IsTold}
use Rattle.dr_ledger_balance.specs.declared.balance.Balance.{Balance}

-- an instance under its uid
abbrev pub by_uid : Instance → Text × Instance
by_uid item = (item.uid, item)

-- what it says that a node has
abbrev pub content_in : Balance → Content
content_in b = all_of (map.from_entries (mapped by_uid b.items)) b.arrivals b.kept b.rows

-- it is the balance of these lines: they are a history, and so many, and this is what they make
pub record IsBalanceOf (lines : List Line) (b : Balance) : Type 0 where
  pub counted : length lines ≡ b.count
  pub told : IsTold lines (content_in b)

-- each instance of a tree stands under its own uid
abbrev pub AreUnderTheirUids : tree.BTreeMap Text Instance → Type 0
AreUnderTheirUids items = All (λ e. e.0 ≡ e.1.uid) items.entries
