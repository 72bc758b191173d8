use Rattle.std.proofs.Common.{◌≡◌, ◌∙◌, rules, sym}
use Rattle.dr_ledger.proofs.Maps.{texts}
use Rattle.dr_ledger_history.proofs.Mapped.{has_at}
use Rattle.dr_store_audit.proofs.needs.is_as_needed.Goals as goal

pub returns : goal.returns
returns c = (
  λ yes. let same : c.args.print.now.1.whole ≡ c.contains.result = search rules in same ∙ c.contains.ensures ∙ sym (has_at texts c.args.uids.now c.args.print.now.0),
  λ is. let same : c.args.print.now.1.whole ≡ c.contains.result = is ∙ has_at texts c.args.uids.now c.args.print.now.0 ∙ sym c.contains.ensures in search rules,
)
