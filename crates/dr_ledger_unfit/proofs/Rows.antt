-- From a history's instances to those of the book.
use Rattle.std.proofs.Common.{◌≡◌, ◌∙◌, List, Result, Ok, Err, ap, sym, subst, map as mapped}
use Rattle.std.specs.FinMap as map
use Rattle.std.specs.FinMap.{FinMap}
use Rattle.std.proofs.Math.Logic.{∥∥₁_map}
use Rattle.dr_base.specs.Texts.{Text, text_cmp}
use Rattle.dr_plan_model.specs.Networks.{Network}
use Rattle.dr_ledger.specs.Books.{Book, Fold, Line, Row}
use Rattle.dr_ledger.specs.Pairs.{Pair}
use Rattle.dr_ledger.specs.Replies.{Reads}
use Rattle.dr_ledger.specs.declared.fault.LedgerFault.{LedgerFault}
use Rattle.dr_ledger.specs.declared.fault.LedgerFault.TheVariants as fault
use Rattle.dr_ledger.specs.declared.item.Instance.{Instance}
use Rattle.dr_ledger_history.specs.Contents.{Content, content_of}
use Rattle.dr_ledger_history.specs.Told.{IsTold}
use Rattle.dr_ledger_unfit.specs.Unfit.{ArePicked, AreUnfit, IsFitRow, IsUnfitRow}

module _ (next : Network) (name : Text) where
  -- those that are picked by a history's instances, of the rows of a later book that is the same
  of_book : (b later : Book) (lines : List Line) (c : Content) (rows : List Row) (found : List Pair) → lines ≡ b.lines → b ≡ Fold b.lines → later ≡ b → IsTold lines c → rows ≡ map.entries later.rows
      → ArePicked (IsUnfitRow next name c.items) (IsFitRow next name c.items) rows found → AreUnfit next name b found
  of_book b later lines c rows found of_lines fold same told of_rows picked =
      let items : c.items ≡ b.items = ap (λ (x : Content). x.items) told.fold ∙ ap (λ (ls : List Line). (Fold ls).items) of_lines ∙ ap (λ (x : Book). x.items) (sym fold) in
      let listed : rows ≡ map.entries b.rows = of_rows ∙ ap (λ (x : Book). map.entries x.rows) same in
      subst (λ (rs : List Row). ArePicked (IsUnfitRow next name b.items) (IsFitRow next name b.items) rs found) listed
      (subst (λ (is : FinMap text_cmp Instance). ArePicked (IsUnfitRow next name is) (IsFitRow next name is) rows found) items picked)

  -- what is answered, where the book is what its journal makes
  pub answered : {V : Type 0} (b later : Book) (lines : List Line) (c : Content) (rows : List Row) (found_of : V → List Pair) (result : Result V LedgerFault) → lines ≡ b.lines → ∥ b ≡ Fold b.lines ∥₁ → later ≡ b
      → IsTold lines c → rows ≡ map.entries later.rows
      → Reads result (λ v. ArePicked (IsUnfitRow next name c.items) (IsFitRow next name c.items) rows (found_of v)) → Reads result (λ v. ∥ AreUnfit next name b (found_of v) ∥₁)
  answered b later lines c rows found_of (Ok v) of_lines fold same told of_rows picked = ∥∥₁_map fold (λ f. of_book b later lines c rows (found_of v) of_lines f same told of_rows picked)
  answered b later lines c rows found_of (Err fault.Store) of_lines fold same told of_rows h = h
  answered b later lines c rows found_of (Err fault.Memory) of_lines fold same told of_rows h = h
  answered b later lines c rows found_of (Err fault.NoLine) of_lines fold same told of_rows h = h
  answered b later lines c rows found_of (Err fault.Conflict) of_lines fold same told of_rows h = h
  answered b later lines c rows found_of (Err fault.NotWaiting) of_lines fold same told of_rows h = h
  answered b later lines c rows found_of (Err fault.NotHeld) of_lines fold same told of_rows h = h
  answered b later lines c rows found_of (Err fault.NotOver) of_lines fold same told of_rows h = h
