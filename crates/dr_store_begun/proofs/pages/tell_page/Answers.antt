use Rattle.std.proofs.Common.{◌∙◌, ap, subst}
use Rattle.std.specs.Prelude.{Err}
use Rattle.std.specs.Vec.Iter.{into_iter_items}
use Rattle.dr_ledger_history.specs.Contents.{content}
use Rattle.dr_ledger_history.specs.Lines.{line_of, lines_of}
use Rattle.dr_ledger_history.specs.Told.{Tells}
use Rattle.dr_ledger_history.specs.declared.line.HistoryFault.{HistoryFault}
use Rattle.dr_store_begun.proofs.Left.{all_left, no_items, none_left, one_less, one_refused}
use Rattle.dr_store_begun.proofs.pages.tell_page.Goals as goal

pub loop-line-init : goal.loop-line-init
loop-line-init c =
    all_left (content c.args.begun.parts) (lines_of c.args.page) _
    (ap lines_of (c.into_iter-line-iterator.ensures.into_iter_gives.0 ∙ c.into_vec-line-items.ensures))

pub loop-line-preserved : goal.loop-line-preserved
loop-line-preserved c =
    one_less _ _ _ _ c.loop-line.invariant (line_of c.in-Some.line) (lines_of (into_iter_items c.next.new.self))
    (content c.in-Ok.told.parts) (ap lines_of c.in-Some.ensures.steps.0) c.in-Ok.ensures

pub returns-in-Err : goal.returns-in-Err
returns-in-Err c = λ before other told.
    one_refused _ _ _ _ c.loop-line.invariant (line_of c.in-Some.line) (lines_of (into_iter_items c.next.new.self))
    (ap lines_of c.in-Some.ensures.steps.0)
    (λ lines is. subst (λ (f : HistoryFault). Tells lines (line_of c.in-Some.line) (Err f)) other (c.in-Err.ensures lines is))
    before told

pub returns : goal.returns
returns c = λ before told.
    none_left _ _ _ _ c.loop-line.invariant
    (ap lines_of (no_items _ _ c.loop-line.line-iterator.rest.ok.0 c.in-None.ensures.steps.0)) before told
