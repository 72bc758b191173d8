use Rattle.std.proofs.Common.{◌∙◌, sym}
use Rattle.dr_ledger_views.proofs.Pairs.{pairs_exact, pairs_total}
use Rattle.dr_ledger_views.proofs.Sets.{set_listed}
use Rattle.dr_ledger_views.proofs.listing.count_all_arrivals.Goals as goal

pub returns-clause-reply : goal.returns-clause-reply
returns-clause-reply g c = λ stands. c.len.ensures ∙ sym (set_listed pairs_total pairs_exact (g.L.Ledger.book c.args.ledger.now).arrivals c.in_ok-all.all (c.in_ok-all.ensures.reply stands))
