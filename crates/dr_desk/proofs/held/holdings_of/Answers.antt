use Rattle.dr_desk.proofs.Holding.{listed_by}
use Rattle.dr_desk.proofs.held.holdings_of.Goals as goal

pub returns-clause-reply : goal.returns-clause-reply
returns-clause-reply g c = λ s lines.
    let before = c.rows.ensures.stood s in
    let first = c.kept.ensures.stood before in
    listed_by _ _ _ _ (c.arrivals.ensures.same first).0 (c.kept.ensures.same before).0 (c.in_ok-arrivals.ensures.reply first) (c.in_ok-kept.ensures.reply before) (c.in_ok-rows.ensures.reply s) lines
