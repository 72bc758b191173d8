use Rattle.std.proofs.Common.{sym, ◌∙◌}
use Rattle.std.proofs.lemmas.List.{append-nil}
use Rattle.dr_dataset.proofs.HearLemmas.{stays_failed}
use Rattle.dr_dataset.proofs.hearing.Scan.take.Goals as goal

pub returns-in-Failed : goal.returns-in-Failed
returns-in-Failed c = (
  c.args.piece.now,
  sym (append-nil c.args.piece.now),
  c.requires,
  λ s text h. stays_failed c.settle.new.self c.in-Failed.field-0 c.args.piece.now c.in-Failed.is s text (c.settle.ensures.hears s text h),
  c.settle.ensures.failed,
)

pub returns-in-InValue : goal.returns-in-InValue
returns-in-InValue c =
    let t = c.take_value.ensures in
    (t.0, t.1, t.2, λ s text h. t.3 c.in-InValue.is s text (c.settle.ensures.hears s text h), λ f h. absurd (cc (sym c.in-InValue.is ∙ c.settle.ensures.failed f h)))

pub returns-in-InHeader : goal.returns-in-InHeader
returns-in-InHeader c =
    let t = c.take_header.ensures in
    (t.0, t.1, t.2, λ s text h. t.3 c.in-InHeader.is s text (c.settle.ensures.hears s text h), λ f h. absurd (cc (sym c.in-InHeader.is ∙ c.settle.ensures.failed f h)))
