use Rattle.std.proofs.Common.{◌∙◌, ap, not, ◌&&◌}
use Rattle.std.specs.Ordering.{eq_by_cmp}
use Rattle.dr_base.specs.Texts.{text_cmp}
use Rattle.dr_ledger_memory.proofs.parts.Parts.try_drop.Goals as goal

pub returns-in-Ok-clause-ok : goal.returns-in-Ok-clause-ok
returns-in-Ok-clause-ok c =
    let m = c.in-Ok.ensures.ok in
    record {
      held = m.held;
      arrivals = λ key. c.let_callers_go.ensures key ∙ ap (λ b. b && not (eq_by_cmp text_cmp key.1 c.args.uid.now)) (m.arrivals key);
      notes = m.notes;
    }
