use Rattle.std.proofs.Common.{subst}
use Rattle.dr_plan_model.specs.declared.plan.Values.{Values}
use Rattle.dr_plan_model.specs.Naming.{listed_literals}
use Rattle.dr_plan_entries.specs.Listing.{TakesListed}
use Rattle.dr_plan_entries.proofs.RowLemmas.{lists_just}
use Rattle.dr_plan_entries.proofs.rows.listed_alone.Goals as goal

pub returns-then-is_list : goal.returns-then-is_list
returns-then-is_list c =
    let T : Values → Type 0 = λ v. TakesListed v (listed_literals v) in
    lists_just c.args.side c.args.flow.now c.args.listed.now c.listed_of.result.now c.requires c.listed_of.ensures (subst T c.said_of.ensures (c.is_list.ensures c.if-is_list.true))
