use Rattle.std.proofs.Common.{List, subst}
use Rattle.dr_ledger.specs.Books.{Row}
use Rattle.dr_word_list.specs.Summaries.{IsSummary}
use Rattle.dr_word_list.proofs.Summing.{summed}
use Rattle.dr_word_list.proofs.summary.summary_of.Goals as goal

pub returns-clause-summary : goal.returns-clause-summary
returns-clause-summary g c = λ s4.
    let s3 = c.in_ok-lines.ensures.stood s4 in
    let s2 = c.in_ok-rows.ensures.stood s3 in
    let s1 = c.in_ok-kept.ensures.stood s2 in
    let P : List Row → Type 0 = λ rows. IsSummary c.args.name.now c.args.hops.now c.len.result c.len-2.result rows c.len-3.result c.in_ok-text.text in
    summed c.args.name.now c.in_ok-text.text c.args.hops.now (g.L.Ledger.book c.args.ledger.now) (g.L.Ledger.book c.arrivals.new.self) (g.L.Ledger.book c.kept.new.self) (g.L.Ledger.book c.rows.new.self) (g.L.Ledger.book c.lines.new.self)
    c.in_ok-arrivals.arrivals c.in_ok-kept.kept c.in_ok-rows.rows c.in_ok-lines.lines c.len.result c.len-2.result c.len-3.result
    (c.in_ok-arrivals.ensures.same s1).0 (c.in_ok-kept.ensures.same s2).0 (c.in_ok-rows.ensures.same s3).0 (c.in_ok-lines.ensures.same s4).0
    (c.in_ok-arrivals.ensures.reply s1) (c.in_ok-kept.ensures.reply s2) (c.in_ok-rows.ensures.reply s3) (c.in_ok-lines.ensures.reply s4)
    c.len.ensures c.len-2.ensures c.len-3.ensures (subst P c.as_slice.ensures c.in_ok-text.ensures)
