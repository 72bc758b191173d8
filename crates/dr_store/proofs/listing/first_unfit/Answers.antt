use Rattle.std.proofs.Common.{◌≡◌, List, Vec, Global, Result, Ok, Err, refl, sym, subst}
use Rattle.dr_base.specs.Texts.{Text}
use Rattle.dr_route.specs.declared.key.Key.{Key}
use Rattle.dr_ledger.specs.declared.fault.LedgerFault.{LedgerFault}
use Rattle.dr_ledger.specs.declared.item.Progress.{Progress}
use Rattle.dr_ledger.specs.Pairs.{Pair}
use Rattle.dr_ledger.specs.Replies.{Reads}
use Rattle.dr_store.specs.Listing.{UnfitsAmong, UnfitsOf}
use Rattle.dr_store.proofs.listing.first_unfit.Goals as goal

abbrev Both : Type 0
Both = Vec (Pair × Progress) Global × Vec (Text × Key) Global

pub returns-in-Ok : goal.returns-in-Ok
returns-in-Ok c =
    let plan = c.args.next.now.plan in
    let name = c.args.name.now in
    let r = c.unfit_among.result in
    let P : Result Both LedgerFault → Type 0 = λ listed. UnfitsOf (λ (b : Both). b.0.items) (λ (b : Both). b.1.items) plan name listed r in
    let Q : List (Pair × Progress) → Type 0 = λ rows. Reads r (UnfitsAmong plan name rows c.as_slice-in-Ok.result.now) in
    let R : List (Text × Key) → Type 0 = λ keys. Reads r (UnfitsAmong plan name c.in-Ok.both.0.items keys) in
    subst P (sym c.in-Ok.is) (subst R c.as_slice-in-Ok.ensures.value (subst Q c.as_slice.ensures.value c.unfit_among.ensures))

pub returns-in-Err : goal.returns-in-Err
returns-in-Err c =
    let plan = c.args.next.now.plan in
    let P : Result Both LedgerFault → Type 0 = λ listed. UnfitsOf (λ (b : Both). b.0.items) (λ (b : Both). b.1.items) plan c.args.name.now listed (Err c.in-Err.fault) in
    subst P (sym c.in-Err.is) refl
