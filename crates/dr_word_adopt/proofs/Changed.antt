-- What calls on one ledger make of how it stands.
use Rattle.std.proofs.Common.{◌≡◌, ◌∙◌, ◌∷◌, ◌++◌, [], inl, inr, List, refl, sym, subst, Result, Ok, Err, Option, None}
use Rattle.std.specs.Prelude.{◌⊎◌, MatchResult}
use Rattle.std.specs.Result.{IsErr, IsErrAnd}
use Rattle.std.proofs.lemmas.Bool.{false≢true}
use Rattle.dr_base.specs.Texts.{Text}
use Rattle.dr_cert.specs.Sealing.{Certified}
use Rattle.dr_ledger.specs.Adopting.{Adopting, Unfits, site_after}
use Rattle.dr_ledger.specs.Books.{Book}
use Rattle.dr_ledger.specs.Pairs.{Pair}
use Rattle.dr_ledger.specs.Replies.{Reads}
use Rattle.dr_ledger.specs.declared.fault.LedgerFault.{LedgerFault}
use Rattle.dr_ledger.specs.declared.fault.LedgerFault.TheVariants as fault
use Rattle.dr_run_open.specs.declared.halt.Halt.{Halt}
use Rattle.dr_run_open.specs.declared.halt.Halt.TheVariants.{Refused, Memory, NoPlan, NoCertificate, NoNode, NotOpened, NoInstance, Receipt, Failed}
use Rattle.dr_site.specs.Parts.{Part}
use Rattle.dr_word_adopt.specs.Changings.{IsChanged, IsKept, LeavesLedger}
use Rattle.dr_word_adopt.specs.Lookings.{IsUnseen, LooksInto, MayAdd, LooksAs, StandsAt}
use Rattle.dr_word_adopt.specs.Changes.{came_of}
use Rattle.dr_word_adopt.specs.declared.change.Changeover.{Changeover}
use Rattle.dr_word_adopt.specs.declared.change.Halted.{Halted}
use Rattle.dr_word_adopt.specs.declared.standing.Standing.{Standing}
use Rattle.dr_word_adopt.specs.declared.standing.Standing.TheVariants.{Ready, Over}
use Rattle.dr_word_adopt.proofs.Standings.{kept_left, kept_name, seen, seen_name}

-- what holds of a fault holds of the result that hands it on
pub err_as : {A E : Type 0} (P : Result A E → Type 0) (why : E) (r : Result A E) → IsErr r → IsErrAnd r (λ (e : E). e ≡ why) → P (Err why) → P r
err_as {A} {E} P why (Ok done) no_err gives h = absurd (false≢true no_err)
err_as {A} {E} P why (Err e) err gives h = subst (λ (w : E). P (Err w)) (sym gives) h

pub stop_as : {A : Type 0} (Q : A → Type 0) (P : Halt → Type 0) (why : Halt) (r : Result A Halted) → IsErr r → IsErrAnd r (λ (e : Halted). e.halt ≡ why) → P why → MatchResult r Q (λ (stop : Halted). P stop.halt)
stop_as {A} Q P why (Ok done) no_err gives h = absurd (false≢true no_err)
stop_as {A} Q P why (Err e) err gives h = subst P (sym gives) h

pub came_as : (P : Result Changeover Halt → Type 0) (why : Halt) (r : Result Changeover Halted) → IsErr r → IsErrAnd r (λ (e : Halted). e.halt ≡ why) → P (Err why) → P (came_of r)
came_as P why (Ok done) no_err gives h = absurd (false≢true no_err)
came_as P why (Err e) err gives h = subst (λ (w : Halt). P (Err w)) (sym gives) h

module _ {L : Type 0} (site_of : L → Part) (book : L → Book) (stands : L → Type 0) (next : Certified) where
  pub kept_same : (ledger : L) (own : Part) → IsKept site_of book stands next (Ready ledger own) (Ready ledger own)
  kept_same ledger own = (ledger, refl, refl, λ st. (st, refl))

  pub over_same : (s : Standing L) (ledger : L) → s ≡ Over ledger → IsChanged site_of book stands next s s
  over_same s ledger is = subst (λ x. IsChanged site_of book stands next x x) (sym is) refl

  pub over_looked : (s : Standing L) (ledger : L) → s ≡ Over ledger → LooksInto site_of book stands next s None s
  over_looked s ledger is = subst (λ x. LooksInto site_of book stands next x None x) (sym is) (refl, refl)

  pub adopted : (ledger last : L) (own copy : Part) (result : Result (Unit {0}) LedgerFault) → copy ≡ own → site_of last ≡ site_after result copy (site_of ledger) → (stands last → stands ledger)
      → (stands last → Adopting (book ledger) result (book last))
      → MatchResult result (λ done. IsChanged site_of book stands next (Ready ledger own) (Ready last own)) (λ why. IsKept site_of book stands next (Ready ledger own) (Ready last own))
  adopted ledger last own copy (Ok done) same site stood reply = (last, refl, site ∙ same, λ st. (stood st, reply st))
  adopted ledger last own copy (Err why) same site stood reply = (last, refl, site, λ st. (stood st, kept (book ledger) (book last) why (reply st)))
    where
      kept : (b c : Book) (w : LedgerFault) → Adopting b (Err w) c → c ≡ b
      kept b c fault.Store h = h
      kept b c fault.Memory h = h
      kept b c fault.NoLine h = absurd h
      kept b c fault.Conflict h = absurd h
      kept b c fault.NotWaiting h = absurd h
      kept b c fault.NotHeld h = absurd h
      kept b c fault.NotOver h = absurd h

  pub looked_into : (ledger last : L) (own : Part) (result : Result (Option Pair) LedgerFault) → site_of last ≡ site_of ledger → (stands last → stands ledger) → (stands last → book last ≡ book ledger)
      → (stands last → Reads result (Unfits next.plan (site_of ledger).name (book ledger)))
      → MatchResult result (λ unfit. LooksInto site_of book stands next (Ready ledger own) unfit (Ready last own)) (λ why. IsKept site_of book stands next (Ready ledger own) (Ready last own))
  looked_into ledger last own (Ok unfit) site stood same reply = (last, refl, site, λ st. (stood st, same st, reply st))
  looked_into ledger last own (Err why) site stood same reply = (last, refl, site, λ st. (stood st, same st))

  -- a look, and the ledger behind the others
  pub added : (s last : Standing L) (seen : Result (Option Pair) LedgerFault) (result : Result (Option Pair) Halt) (old new : List (Standing L))
      → MatchResult seen (λ unfit. LooksInto site_of book stands next s unfit last) (λ why. IsKept site_of book stands next s last)
      → MatchResult seen (λ unfit. result ≡ Ok unfit) (λ why. result ≡ Err (Refused why))
      → new ≡ old ++ last ∷ []
      → MatchResult result (λ unfit. (x : Standing L) × (new ≡ old ++ x ∷ []) × LooksInto site_of book stands next s unfit x)
      (λ halt. LeavesLedger halt × ((new ≡ old) ⊎ ((x : Standing L) × (new ≡ old ++ x ∷ []) × IsKept site_of book stands next s x)))
  added s last (Ok unfit) result old new h told is =
      subst (λ r. MatchResult r (λ u. (x : Standing L) × (new ≡ old ++ x ∷ []) × LooksInto site_of book stands next s u x) (λ halt. LeavesLedger halt × ((new ≡ old) ⊎ ((x : Standing L) × (new ≡ old ++ x ∷ []) × IsKept site_of book stands next s x))))
      (sym told) (last, is, h)
  added s last (Err why) result old new h told is =
      subst (λ r. MatchResult r (λ u. (x : Standing L) × (new ≡ old ++ x ∷ []) × LooksInto site_of book stands next s u x) (λ halt. LeavesLedger halt × ((new ≡ old) ⊎ ((x : Standing L) × (new ≡ old ++ x ∷ []) × IsKept site_of book stands next s x))))
      (sym told) (tt, inr (last, is, h))

unseen : (old next : Certified) (name : Text) (halt : Halt) → LeavesLedger halt → IsUnseen old next name halt
unseen old next name (Refused fault) u = tt
unseen old next name Memory u = tt
unseen old next name (NoPlan told) u = absurd u
unseen old next name (NoCertificate fault) u = absurd u
unseen old next name NoNode u = absurd u
unseen old next name (NotOpened fault) u = absurd u
unseen old next name (NoInstance fault) u = absurd u
unseen old next name Receipt u = absurd u
unseen old next name (Failed failure) u = absurd u

-- what comes of a look at the node, by what came of the look into its ledger as it was opened
module _ {L : Type 0} (opens : Text → L → Type 0) (site_of : L → Part) (book : L → Book) (stands : L → Type 0) (folder : Text) (old next : Certified) where
  pub looked_at : (name : Text) (s : Standing L) (was all : List (Standing L)) (result : Result (Option Pair) Halt) → StandsAt opens site_of book stands folder old next name s
      → MatchResult result (λ unfit. (x : Standing L) × (all ≡ was ++ x ∷ []) × LooksInto site_of book stands next s unfit x)
      (λ halt. LeavesLedger halt × ((all ≡ was) ⊎ ((x : Standing L) × (all ≡ was ++ x ∷ []) × IsKept site_of book stands next s x)))
      → MatchResult result (λ unfit. LooksAs opens site_of book stands folder old next name unfit was all) (λ halt. IsUnseen old next name halt × MayAdd opens site_of book stands folder old next name was all)
  looked_at name s was all (Ok unfit) at h = (h.0, h.1, seen_name opens site_of book stands folder old next s h.0 unfit h.2 ∙ at.0, seen opens site_of book stands folder old next s h.0 unfit at.1 h.2)
  looked_at name s was all (Err halt) at (u, inl same) = (unseen old next name halt u, inl same)
  looked_at name s was all (Err halt) at (u, inr more) =
      (unseen old next name halt u, inr (more.0, more.1, (kept_name opens site_of book stands folder old next s more.0 more.2 ∙ at.0, kept_left opens site_of book stands folder old next s more.0 at.1 more.2)))
