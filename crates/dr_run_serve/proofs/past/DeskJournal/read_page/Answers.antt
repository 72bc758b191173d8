use Rattle.std.proofs.Common.{◌≡◌, ◌∙◌, ◌++◌, List, subst, sym}
use Rattle.dr_ledger_history.specs.declared.line.JournalLine.{JournalLine}
use Rattle.dr_run_serve.specs.Pasts.{HasNoted, TellsPage}
use Rattle.dr_run_serve.proofs.Leafing.{page_none, page_part, page_refused, page_whole}
use Rattle.dr_run_serve.proofs.past.DeskJournal.read_page.Goals as goal

pub returns-in-Err : goal.returns-in-Err
returns-in-Err g c = λ lines had. page_refused (TellsPage g.L.Ledger.site g.L.Ledger.book g.L.Ledger.bodies g.L.Ledger.stands g.L.Ledger.failed g.B.Sharing.site g.B.Sharing.first g.L.Views.numbered) lines c.args.past.now c.in-Err.fault had c.in-Err.ensures

pub returns-then-is_empty : goal.returns-then-is_empty
returns-then-is_empty g c = λ lines had. page_none (TellsPage g.L.Ledger.site g.L.Ledger.book g.L.Ledger.bodies g.L.Ledger.stands g.L.Ledger.failed g.B.Sharing.site g.B.Sharing.first g.L.Views.numbered) lines c.args.past.now c.in-Ok.page had c.in-Ok.ensures (sym c.is_empty.ensures ∙ c.if-is_empty.true)

pub returns-in_err-note_page : goal.returns-in_err-note_page
returns-in_err-note_page g c = λ lines had. page_part (TellsPage g.L.Ledger.site g.L.Ledger.book g.L.Ledger.bodies g.L.Ledger.stands g.L.Ledger.failed g.B.Sharing.site g.B.Sharing.first g.L.Views.numbered) lines c.args.past.now c.note_page.new.self c.in-Ok.page c.from_residual.result c.from_residual.ensures.0 c.from_residual.ensures.1 had c.in-Ok.ensures (subst (λ (page : List JournalLine). (some rest : List JournalLine) × (page ≡ some ++ rest) × HasNoted (lines ++ some) c.note_page.new.self) c.as_slice.ensures (c.note_page.ensures.part lines had))

pub returns : goal.returns
returns g c = λ lines had. page_whole (TellsPage g.L.Ledger.site g.L.Ledger.book g.L.Ledger.bodies g.L.Ledger.stands g.L.Ledger.failed g.B.Sharing.site g.B.Sharing.first g.L.Views.numbered) lines c.args.past.now c.note_page.new.self c.in-Ok.page had c.in-Ok.ensures (sym c.is_empty.ensures ∙ c.if-is_empty.false) (subst (λ (page : List JournalLine). HasNoted (lines ++ page) c.note_page.new.self) c.as_slice.ensures (c.in_ok-note_page.ensures.whole lines had))
