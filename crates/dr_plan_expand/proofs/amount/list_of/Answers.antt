use Rattle.dr_plan_expand.proofs.Summed.{listed_few, listed_many}
use Rattle.dr_plan_expand.proofs.amount.list_of.Goals as goal

pub returns-then-count-le-MOST_LISTED-clause-is : goal.returns-then-count-le-MOST_LISTED-clause-is
returns-then-count-le-MOST_LISTED-clause-is c = listed_few c.args.count c.if-count-le-MOST_LISTED.true

pub returns-clause-is : goal.returns-clause-is
returns-clause-is c = listed_many c.args.count c.if-count-le-MOST_LISTED.false
