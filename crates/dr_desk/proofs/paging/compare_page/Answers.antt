use Rattle.std.proofs.Common.{sym, ◌∙◌}
use mathlib.Core.Bool.{true≢false}
use Rattle.dr_desk.proofs.Paged.{other_line, page_agrees, page_within}
use Rattle.dr_desk.proofs.paging.compare_page.Goals as goal

pub returns-then-not-all_agree-clause-fault : goal.returns-then-not-all_agree-clause-fault
returns-then-not-all_agree-clause-fault g c = λ s.
    let e = c.in-Ok.ensures in
    other_line c.other_line.result _ _ _ _ c.other_line.ensures (λ of.
    true≢false (sym (c.all_agree.ensures.1 (page_agrees (λ p. p.receipts.items) (g.L.Ledger.book c.args.ledger.now) (g.L.Ledger.book c.lines_behind.new.self) (g.L.Views.numbered c.args.ledger.now) _ _
    c.in-Ok.page c.as_slice.result.now c.args.passes.now (e.same s).0 e.numbered (e.reply s) c.as_slice.ensures of)) ∙ c.if-not-all_agree.true))

pub returns-in-Some-clause-of_lines : goal.returns-in-Some-clause-of_lines
returns-in-Some-clause-of_lines g c = λ s.
    let e = c.in-Ok.ensures in
    page_within (λ p. p.receipts.items) (g.L.Ledger.book c.args.ledger.now) (g.L.Ledger.book c.lines_behind.new.self) (g.L.Views.numbered c.args.ledger.now) c.args.next c.in-Some.from _
    c.in-Ok.page c.as_slice.result.now c.as_slice-2.result.now c.args.passes.now (e.same s).0 c.requires c.in-Some.ensures.1 e.numbered (e.reply s) c.as_slice.ensures c.as_slice-2.ensures (c.all_agree.ensures.0 c.if-not-all_agree.false)
