-- What follows a visit to one hop follows one to a hop of the same name and address.
use Rattle.std.proofs.Common.{◌≡◌, ℕ, Bool, List, Option, Result, subst}
use Rattle.dr_base.specs.Texts.{Text}
use Rattle.dr_ledger.specs.declared.fault.LedgerFault.{LedgerFault}
use Rattle.dr_run_serve.specs.Sendings.{AnsweredCall, Looks, SendsOrRests}
use Rattle.dr_run_serve.specs.declared.ends.VisitEnd.{VisitEnd}
use Rattle.dr_run_serve.specs.declared.rest.Rest.{Rest}
use Rattle.dr_run_serve.specs.declared.visit.Visit.{Visit}

module _ (Visiting : Text → Text → Result Visit LedgerFault → List AnsweredCall → Type 0) (Told : LedgerFault → LedgerFault → Type 0) (FirstDue : Text → Result (Option ℕ) LedgerFault → Type 0) (tells : ℕ → Type 0) (dest to address at : Text) where
  pub sends_along : (old : Rest) (ended : Option VisitEnd) (rest : Rest) (due : ℕ) → dest ≡ to → address ≡ at → SendsOrRests (Visiting dest address) Told (FirstDue dest) tells old ended rest due →
      SendsOrRests (Visiting to at) Told (FirstDue to) tells old ended rest due
  sends_along old ended rest due is there h =
      let named : SendsOrRests (Visiting to address) Told (FirstDue to) tells old ended rest due = subst (λ (d : Text). SendsOrRests (Visiting d address) Told (FirstDue d) tells old ended rest due) is h in
      subst (λ (a : Text). SendsOrRests (Visiting to a) Told (FirstDue to) tells old ended rest due) there named

  pub looks_along : (rows visit last : Bool) (old : Rest × ℕ) (visited : Bool) (new : Rest × ℕ) → dest ≡ to → address ≡ at → Looks (Visiting dest address) Told (FirstDue dest) tells rows visit last old visited new →
      Looks (Visiting to at) Told (FirstDue to) tells rows visit last old visited new
  looks_along rows visit last old visited new is there h =
      let named : Looks (Visiting to address) Told (FirstDue to) tells rows visit last old visited new = subst (λ (d : Text). Looks (Visiting d address) Told (FirstDue d) tells rows visit last old visited new) is h in
      subst (λ (a : Text). Looks (Visiting to a) Told (FirstDue to) tells rows visit last old visited new) there named
