use Rattle.std.proofs.Common.{ap, ◌∙◌}
use Rattle.dr_base.specs.Texts.{Text}
use Rattle.dr_ledger.specs.declared.item.Instance.{Instance}
use Rattle.dr_ledger_history.specs.declared.line.JournalLine.TheVariants as told
use Rattle.dr_ledger_read.proofs.reading.repeat_at.Goals as goal

pub returns : goal.returns
returns c = λ caller item a b.
    ap (λ (x : Text). told.Repeat x c.in_ok-instance.instance) (c.in_ok-caller.ensures caller a) ∙ ap (λ (x : Instance). told.Repeat caller x) (c.in_ok-instance.ensures item b)
