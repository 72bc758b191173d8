use Rattle.std.proofs.Common.{◌∙◌, List, subst, map as mapped}
use Rattle.std.proofs.Math.Logic.{∥∥₁_map}
use Rattle.dr_ledger_history.specs.Contents.{content}
use Rattle.dr_ledger_history.specs.Lines.{line_of}
use Rattle.dr_ledger_history.specs.Told.{IsTold}
use Rattle.dr_ledger_history.specs.declared.line.JournalLine.{JournalLine}
use Rattle.dr_ledger_unfit.proofs.Rows.{answered}
use Rattle.dr_ledger_unfit.proofs.unfit.unfit_rows.Goals as goal

pub returns-clause-reply : goal.returns-clause-reply
returns-clause-reply g c = λ s2.
    let s1 = c.in_ok-rows.ensures.stood s2 in
    let s0 = c.in_ok-lines.ensures.stood s1 in
    let P : List JournalLine → Type 0 = λ ls. IsTold (mapped line_of ls) (content c.in_ok-history.history.parts) in
    answered c.args.next.now.plan c.args.name.now (g.L.Ledger.book c.args.ledger.now) (g.L.Ledger.book c.journal.new.self) (mapped line_of c.in_ok-lines.lines) (content c.in_ok-history.history.parts) c.as_slice.result.now (λ v. v.items) c.pick_unfit-came.result
    (c.in_ok-lines.ensures.reply s1) (∥∥₁_map (g.L.Ledger.journalled c.args.ledger.now s0) (λ j. j.1.fold)) (c.in_ok-lines.ensures.same s1).0
    (subst P c.into_vec.ensures c.in_ok-history.ensures) (c.as_slice.ensures ∙ c.in_ok-rows.ensures.reply s2) c.pick_unfit-came.ensures
