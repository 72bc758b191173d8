use Rattle.std.proofs.Common.{List, subst}
use Rattle.std.proofs.Math.Logic.{∥∥₁_map}
use Rattle.dr_ledger.specs.Books.{Row}
use Rattle.dr_word_audit.specs.Readings.{IsListed}
use Rattle.dr_word_audit.proofs.Looks.{shows}
use Rattle.dr_word_audit.proofs.reading.read_ledger.Goals as goal

pub returns-clause-shown : goal.returns-clause-shown
returns-clause-shown g c = λ s3.
    let s2 = c.in_ok-rows.ensures.stood s3 in
    let s1 = c.in_ok-kept.ensures.stood s2 in
    let s0 = c.in_ok-lines.ensures.stood s1 in
    let P : List Row → Type 0 = λ rows. IsListed c.args.others.now c.args.name.now c.in_ok-lines.lines c.len.result rows c.in_ok-shown.shown in
    shows c.args.others.now c.args.name.now (g.L.Ledger.book c.args.ledger.now) (g.L.Ledger.book c.journal.new.self) (g.L.Ledger.book c.kept.new.self)
    c.in_ok-lines.lines c.in_ok-kept.kept c.in_ok-rows.rows c.len.result c.in_ok-shown.shown
    (c.in_ok-lines.ensures.reply s1) (c.in_ok-lines.ensures.same s1).0 (c.in_ok-kept.ensures.reply s2) (c.in_ok-kept.ensures.same s2).0
    (c.in_ok-rows.ensures.reply s3) c.len.ensures (∥∥₁_map (g.L.Ledger.journalled c.args.ledger.now s0) (λ j. j.1.fold))
    (subst P c.as_slice.ensures c.in_ok-shown.ensures)
