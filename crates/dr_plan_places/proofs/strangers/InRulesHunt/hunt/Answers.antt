use Rattle.dr_plan_expand.specs.Seen.{seen}
use Rattle.dr_plan_places.proofs.Unknowing.{rule_found}
use Rattle.dr_plan_places.proofs.strangers.InRulesHunt.hunt.Goals as goal

pub returns : goal.returns
returns c =
    rule_found (seen c.args.self.now.0) c.args.rule.now _ c.as_slice.ensures (rw c.in_default.is at c.in_ok-found.ensures) (rw c.in_default-2.is at c.in_ok-found-2.ensures)
    c.stranger_among.result c.stranger_among.ensures
