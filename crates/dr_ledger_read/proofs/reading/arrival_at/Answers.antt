use Rattle.std.proofs.Common.{ap, ◌∙◌, List}
use Rattle.dr_base.specs.Texts.{Text}
use Rattle.dr_ledger.specs.declared.item.Instance.{Instance}
use Rattle.dr_ledger_history.specs.declared.line.JournalLine.TheVariants as told
use Rattle.dr_ledger_read.proofs.reading.arrival_at.Goals as goal

pub returns : goal.returns
returns c = λ caller item to a b d.
    ap (λ (x : Text). told.Arrival x c.in_ok-instance.instance c.in_ok-to.to c.args.keep) (c.in_ok-caller.ensures caller a)
    ∙ ap (λ (x : Instance). told.Arrival caller x c.in_ok-to.to c.args.keep) (c.in_ok-instance.ensures item b)
    ∙ ap (λ (x : List Text). told.Arrival caller item x c.args.keep) (c.in_ok-to.ensures to d)
