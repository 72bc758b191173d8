use Rattle.dr_plan_expand.proofs.lookup.class_name.Goals as goal

pub returns : goal.returns
returns c = rw c.standard_tables-standard.ensures.classes at c.name_of.ensures
