use Rattle.dr_plan_model.specs.Plans.{literals_of}
use Rattle.dr_plan_entries.proofs.Entries.{parts_alike}
use Rattle.dr_plan_entries.proofs.sweep.visit_entries.Goals as goal

pub visit_all-requires-clause-parts : goal.visit_all-requires-clause-parts
visit_all-requires-clause-parts g c =
    let named = literals_of c.args.plan.now in
    let same = c.in_ok-literals.ensures.same in (
      parts_alike c.in_ok-literals.literals.modalities named.modalities c.in_ok-parts_of.field-0 same.modalities c.in_ok-parts_of.ensures.same,
      parts_alike c.in_ok-literals.literals.stations named.stations c.in_ok-parts_of-2.field-0 same.stations c.in_ok-parts_of-2.ensures.same,
      c.in_ok-parts_of.ensures.ordered,
      c.in_ok-parts_of-2.ensures.ordered,
    )
