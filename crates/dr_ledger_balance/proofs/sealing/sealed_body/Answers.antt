use Rattle.std.proofs.Common.{sym, ◌∙◌}
use Rattle.dr_base.proofs.Numerals.{differ_from, same_from}
use Rattle.dr_ledger_balance.proofs.Ending.{right_body}
use Rattle.dr_ledger_balance.proofs.sealing.sealed_body.Goals as goal

pub returns-in_default : goal.returns-in_default
returns-in_default c = c.in_default.ensures

pub returns-then-ne : goal.returns-then-ne
returns-then-ne c = (
  c.in-Some.body.now,
  c.in-Some.digits.now,
  c.in-Some.ensures,
  λ e. differ_from c.ne.result _ _ c.ne.ensures c.if-ne.true (e ∙ sym (c.as_bytes.ensures.value ∙ c.in_ok-right.ensures)),
)

pub returns : goal.returns
returns c =
    right_body c.args.bytes.now c.in-Some.body.now c.in-Some.digits.now c.in-Some.ensures (same_from c.ne.result _ _ c.ne.ensures c.if-ne.false ∙ c.as_bytes.ensures.value ∙ c.in_ok-right.ensures)
