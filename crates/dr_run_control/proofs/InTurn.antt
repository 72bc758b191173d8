-- Rows in turn: those that are left decide what all come to.
use Rattle.std.specs.Prelude.{◌≡◌, ℕ, List, [], ◌∷◌, drop, length, ◌<◌, ◌≤◌, ◌+◌, suc, Result, Ok, Err}
use Rattle.std.proofs.Common.{refl, sym, ap, subst, ◌∙◌, drop-cons, get_or, arith, inl, inr}
use Rattle.std.specs.Result.{IsErr, IsErrAnd}
use Rattle.std.proofs.lemmas.Bool.{false≢true}
use Rattle.std.proofs.Math.ListN.{drop_of_length-le}
use Rattle.dr_base.specs.Texts.{Text}
use Rattle.dr_ledger.specs.Books.{Book, Line, Row}
use Rattle.dr_ledger.specs.declared.fault.LedgerFault.{LedgerFault}
use Rattle.dr_run_control.specs.Consoles.{Again, AgainEach, State}
use Rattle.dr_site.specs.Parts.{Part}

module _ {L : Type 0} (site_of : L → Part) (book : L → Book) (stands : L → Type 0) (failed : L → ℕ) (own : Part) (lines : List Line) (dest : Text) where
  abbrev One : Row → State → Result (Unit {0}) LedgerFault → State → Type 0
  One row s result t = Again site_of book stands failed own lines dest row s result t

  abbrev Each : List Row → State → Result (Unit {0}) LedgerFault → State → Type 0
  Each rows s result t = AgainEach site_of book stands failed own lines dest rows s result t

  -- what comes of the rows that are left comes of all
  abbrev pub TowardAll : State → List Row → State → List Row → Type 0
  TowardAll first rows s left = (result : Result (Unit {0}) LedgerFault) (t : State) → Each left s result t → Each rows first result t

  pub toward_next : (first s mid : State) (rows : List Row) (i : ℕ) (d row : Row) → i < length rows → TowardAll first rows s (drop i rows) → row ≡ get_or rows i d
      → One row s (Ok tt) mid → TowardAll first rows mid (drop (i + 1) rows)
  toward_next first s mid rows i d row below toward is one =
      let cons : drop i rows ≡ row ∷ drop (suc i) rows = drop-cons rows i d below ∙ ap (λ (x : Row). x ∷ drop (suc i) rows) (sym is) in
      let next : i + 1 ≡ suc i = omega arith in
      rw next (λ result t later. toward result t (subst (λ (left : List Row). Each left s result t) (sym cons) (inr (mid, one, later))))

  fault_as : (rows : List Row) (first t : State) (why : LedgerFault) (r : Result (Unit {0}) LedgerFault) → IsErr r → IsErrAnd r (λ (e : LedgerFault). e ≡ why) → Each rows first (Err why) t
      → Each rows first r t
  fault_as rows first t why (Ok done) no_err gives h = absurd (false≢true no_err)
  fault_as rows first t why (Err e) err gives h = subst (λ (w : LedgerFault). Each rows first (Err w) t) (sym gives) h

  pub toward_fault : (first s t : State) (rows : List Row) (i : ℕ) (d row : Row) (why : LedgerFault) (r : Result (Unit {0}) LedgerFault) → IsErr r → IsErrAnd r (λ (e : LedgerFault). e ≡ why)
      → i < length rows → TowardAll first rows s (drop i rows) → row ≡ get_or rows i d → One row s (Err why) t → Each rows first r t
  toward_fault first s t rows i d row why r err gives below toward is one =
      let cons : drop i rows ≡ row ∷ drop (suc i) rows = drop-cons rows i d below ∙ ap (λ (x : Row). x ∷ drop (suc i) rows) (sym is) in
      fault_as rows first t why r err gives (toward (Err why) t (subst (λ (left : List Row). Each left s (Err why) t) (sym cons) (inl (why, refl, one))))

  pub toward_end : (first s : State) (rows : List Row) (i : ℕ) → length rows ≤ i → TowardAll first rows s (drop i rows) → Each rows first (Ok tt) s
  toward_end first s rows i past toward = toward (Ok tt) s (rw (drop_of_length-le rows past) (refl, refl))
