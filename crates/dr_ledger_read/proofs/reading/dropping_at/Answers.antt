use Rattle.std.proofs.Common.{ap, ◌∙◌}
use Rattle.dr_base.specs.Texts.{Text}
use Rattle.dr_ledger_history.specs.declared.line.JournalLine.TheVariants as told
use Rattle.dr_ledger_read.proofs.reading.dropping_at.Goals as goal

pub returns : goal.returns
returns c = λ u d a b.
    ap (λ (x : Text). told.Dropping x c.in_ok-dest.dest c.args.now) (c.in_ok-uid.ensures u a) ∙ ap (λ (x : Text). told.Dropping u x c.args.now) (c.in_ok-dest.ensures d b)
