use Rattle.std.proofs.Common.{List, subst, sym}
use Rattle.dr_base.specs.Texts.{Text}
use Rattle.dr_ledger.specs.Pairs.{pair_cmp}
use Rattle.dr_ledger.specs.Replies.{Lists}
use Rattle.dr_ledger_views.specs.Views.{AreCallers}
use Rattle.dr_ledger_views.proofs.Callers.{listed_callers}
use Rattle.dr_ledger_views.proofs.listing.callers_of_all.Goals as goal

pub returns-clause-reply : goal.returns-clause-reply
returns-clause-reply g c = λ stands.
    let arrivals = (g.L.Ledger.book c.args.ledger.now).arrivals in
    let uid = c.args.uid.now in
    let Are : List Text → Type 0 = AreCallers arrivals uid in
    subst Are (sym c.in_ok-callers.ensures) (listed_callers arrivals uid c.as_slice.result.now (subst (Lists pair_cmp arrivals) (sym c.as_slice.ensures) (c.in_ok-arrivals.ensures.reply stands)))
