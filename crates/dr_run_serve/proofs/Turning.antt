-- Turns of the one who sweeps: none is due, or what is over is forgotten.
use Rattle.std.proofs.Common.{◌≡◌, subst, sym, refl, inl, inr, ℕ, Bool, true, false, ◌<◌, ◌≤◌, ◌-◌, List, Option, None, Some, Result, Ok}
use Rattle.dr_ledger.specs.Books.{Book, Line}
use Rattle.dr_ledger.specs.declared.fault.LedgerFault.{LedgerFault}
use Rattle.dr_ledger_history.specs.declared.line.JournalLine.{JournalLine}
use Rattle.dr_run_control.specs.Consoles.{State}
use Rattle.dr_run_serve.specs.Pasts.{HasNoted}
use Rattle.dr_run_serve.specs.Sweeps.{Sweeping, SweepsOnce, Turns, TurnsIf, TurnsOnce}
use Rattle.dr_run_serve.specs.declared.past.Past.{Past}
use Rattle.dr_run_serve.specs.declared.sweep.Sweep.{Sweep}
use Rattle.dr_site.specs.Parts.{Part}

module _ {L : Type 0} (site_of : L → Part) (book : L → Book) (stands : L → Type 0) (failed : L → ℕ) (own : Part) (first : List Line) (tells : ℕ → Result (List JournalLine) LedgerFault → Type 0) (lines : List JournalLine) where
  -- what is over stays for ever
  pub turns_never : (terms : Option ℕ) (next now : ℕ) (had : Option Sweep) (s : State) (past : Past) → terms ≡ None → HasNoted lines past → Turns site_of book stands failed own first tells lines terms next now had s (Ok 0) had past s
  turns_never terms next now had s past is noted =
      subst (λ (o : Option ℕ). Turns site_of book stands failed own first tells lines o next now had s (Ok 0) had past s) (sym is) (refl, refl, refl, noted)

  -- it isn't the moment yet
  pub turns_early : (terms : Option ℕ) (after next now : ℕ) (had : Option Sweep) (s : State) (past : Past) → terms ≡ Some after → now < next → HasNoted lines past
      → Turns site_of book stands failed own first tells lines terms next now had s (Ok 0) had past s
  turns_early terms after next now had s past is early noted =
      subst (λ (o : Option ℕ). Turns site_of book stands failed own first tells lines o next now had s (Ok 0) had past s) (sym is) (inl (early, (refl, refl, refl, noted)))

  -- what is over is forgotten
  pub turns_swept : (terms : Option ℕ) (after since next now : ℕ) (had : Option Sweep) (s : State) (came : Result ℕ LedgerFault) (left : Option Sweep) (past : Past) (t : State) → terms ≡ Some after → since ≡ now - after → next ≤ now
      → SweepsOnce site_of book stands failed own first tells lines since had s came left past t → Turns site_of book stands failed own first tells lines terms next now had s came left past t
  turns_swept terms after since next now had s came left past t is from due swept =
      let at : SweepsOnce site_of book stands failed own first tells lines (now - after) had s came left past t = subst (λ n. SweepsOnce site_of book stands failed own first tells lines n had s came left past t) from swept in
      subst (λ (o : Option ℕ). Turns site_of book stands failed own first tells lines o next now had s came left past t) (sym is) (inr (due, at))

module _ {L : Type 0} (site_of : L → Part) (book : L → Book) (stands : L → Type 0) (failed : L → ℕ) (own : Part) (first : List Line) (tells : ℕ → Result (List JournalLine) LedgerFault → Type 0) (told : ℕ → Type 0) (terms : Option ℕ) (old : Sweeping) where
  -- the node doesn't serve any more
  pub turns_no_more : (serves : Bool) → serves ≡ false → TurnsIf site_of book stands failed own first tells told terms serves old old
  turns_no_more serves is = subst (λ (b : Bool). TurnsIf site_of book stands failed own first tells told terms b old old) (sym is) refl

  -- it does
  pub turns_then : (serves : Bool) (came : Result ℕ LedgerFault) (new : Sweeping) → serves ≡ true → TurnsOnce site_of book stands failed own first tells told terms old came new
      → TurnsIf site_of book stands failed own first tells told terms serves old new
  turns_then serves came new is turn = subst (λ (b : Bool). TurnsIf site_of book stands failed own first tells told terms b old new) (sym is) (came, turn)
