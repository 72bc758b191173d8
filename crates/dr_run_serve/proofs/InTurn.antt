-- Visits in turn: those that are left decide what all come to.
use Rattle.std.specs.Prelude.{◌≡◌, ℕ, List, [], ◌∷◌, drop, length, ◌<◌, ◌≤◌, ◌+◌, suc, Result, Ok, Err}
use Rattle.std.proofs.Common.{refl, sym, ap, subst, ◌∙◌, drop-cons, get_or, arith, inl, inr}
use Rattle.std.specs.Result.{IsErr, IsErrAnd}
use Rattle.std.proofs.lemmas.Bool.{false≢true}
use Rattle.std.proofs.Math.ListN.{drop_of_length-le}
use Rattle.dr_ledger.specs.declared.fault.LedgerFault.{LedgerFault}
use Rattle.dr_run_open.specs.declared.hops.NextHop.{NextHop}
use Rattle.dr_run_serve.specs.Rounds.{VisitsEach}
use Rattle.dr_run_serve.specs.declared.visit.Visit.{Visit}

module _ {S : Type 0} (One : NextHop → S → Result Visit LedgerFault → S → Type 0) where
  -- what comes of the hops that are left comes of all
  abbrev pub TowardAll : S → List NextHop → S → List NextHop → Type 0
  TowardAll first hops s left = (result : Result (Unit {0}) LedgerFault) (t : S) → VisitsEach One left s result t → VisitsEach One hops first result t

  pub toward_next : (first s mid : S) (hops : List NextHop) (i : ℕ) (d hop : NextHop) (came : Visit) → i < length hops → TowardAll first hops s (drop i hops) → hop ≡ get_or hops i d
      → One hop s (Ok came) mid → TowardAll first hops mid (drop (i + 1) hops)
  toward_next first s mid hops i d hop came below toward is one =
      let cons : drop i hops ≡ hop ∷ drop (suc i) hops = drop-cons hops i d below ∙ ap (λ (x : NextHop). x ∷ drop (suc i) hops) (sym is) in
      let next : i + 1 ≡ suc i = omega arith in
      rw next (λ result t later. toward result t (subst (λ (left : List NextHop). VisitsEach One left s result t) (sym cons) (inr (came, mid, one, later))))

  fault_as : (hops : List NextHop) (first t : S) (why : LedgerFault) (r : Result (Unit {0}) LedgerFault) → IsErr r → IsErrAnd r (λ (e : LedgerFault). e ≡ why) → VisitsEach One hops first (Err why) t
      → VisitsEach One hops first r t
  fault_as hops first t why (Ok done) no_err gives h = absurd (false≢true no_err)
  fault_as hops first t why (Err e) err gives h = subst (λ (w : LedgerFault). VisitsEach One hops first (Err w) t) (sym gives) h

  pub toward_fault : (first s t : S) (hops : List NextHop) (i : ℕ) (d hop : NextHop) (why : LedgerFault) (r : Result (Unit {0}) LedgerFault) → IsErr r → IsErrAnd r (λ (e : LedgerFault). e ≡ why)
      → i < length hops → TowardAll first hops s (drop i hops) → hop ≡ get_or hops i d → One hop s (Err why) t → VisitsEach One hops first r t
  toward_fault first s t hops i d hop why r err gives below toward is one =
      let cons : drop i hops ≡ hop ∷ drop (suc i) hops = drop-cons hops i d below ∙ ap (λ (x : NextHop). x ∷ drop (suc i) hops) (sym is) in
      fault_as hops first t why r err gives (toward (Err why) t (subst (λ (left : List NextHop). VisitsEach One left s (Err why) t) (sym cons) (inl (why, refl, one))))

  pub toward_end : (first s : S) (hops : List NextHop) (i : ℕ) → length hops ≤ i → TowardAll first hops s (drop i hops) → VisitsEach One hops first (Ok tt) s
  toward_end first s hops i past toward = toward (Ok tt) s (rw (drop_of_length-le hops past) (refl, refl))
