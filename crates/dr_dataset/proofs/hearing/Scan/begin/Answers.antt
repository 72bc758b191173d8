use Rattle.std.proofs.Common.{sym, subst, Some, None}
use Rattle.dr_dataset.specs.declared.hearing.Scan.{Scan}
use Rattle.dr_dataset.specs.Hearing.{Hears}
use Rattle.dr_dataset.proofs.HearLemmas.{awaits, opens_on, ends_sequence}
use Rattle.dr_dataset.proofs.hearing.Scan.begin.Goals as goal

pub returns-in-Value : goal.returns-in-Value
returns-in-Value c =
    λ s text h. subst (λ (x : Scan). Hears s text x) (sym c.await_value.ensures) (awaits c.args.self.now (Some c.in-Value.tag) c.in-Value.len c.args.token c.in-Value.is s text h)

pub returns-in-PlainItem : goal.returns-in-PlainItem
returns-in-PlainItem c =
    λ s text h. subst (λ (x : Scan). Hears s text x) (sym c.await_value-in-PlainItem.ensures) (awaits c.args.self.now None c.in-PlainItem.len c.args.token c.in-PlainItem.is s text h)

pub returns-in-SequenceEnd : goal.returns-in-SequenceEnd
returns-in-SequenceEnd c = ends_sequence c.args.self.now c.args.token c.in-SequenceEnd.tag _ c.note.new.self c.in-SequenceEnd.is c.at_top-whole.ensures.element c.note.ensures

pub returns-in-Sequence : goal.returns-in-Sequence
returns-in-Sequence c = opens_on c.args.self.now c.args.token c.in-Sequence.is
