use Rattle.std.proofs.Common.{subst}
use Rattle.dr_plan.specs.Reading.{HasNoCore}
use Rattle.dr_plan_expand.specs.declared.fault.ExpandFault.TheVariants as expand
use Rattle.dr_word_check.proofs.Cored.{faulty, failing, wanting, field_told, limit_told, unknown_told}
use Rattle.dr_word_check.proofs.expand.answer_to_none.Goals as goal

pub answer_to_fault-requires : goal.answer_to_fault-requires
answer_to_fault-requires c = faulty c.args.text.now c.args.none expand.Field c.in-Field.is c.requires

pub returns-in-Field : goal.returns-in-Field
returns-in-Field c = failing c.args.text.now expand.Field c.answer_to_fault.result field_told (subst (HasNoCore c.args.text.now) c.in-Field.is c.requires) c.answer_to_fault.ensures

pub answer_to_fault-requires-in-Limit : goal.answer_to_fault-requires-in-Limit
answer_to_fault-requires-in-Limit c = faulty c.args.text.now c.args.none expand.Limit c.in-Limit.is c.requires

pub returns-in-Limit : goal.returns-in-Limit
returns-in-Limit c = failing c.args.text.now expand.Limit c.answer_to_fault-in-Limit.result limit_told (subst (HasNoCore c.args.text.now) c.in-Limit.is c.requires) c.answer_to_fault-in-Limit.ensures

pub answer_to_fault-requires-in-Unknown : goal.answer_to_fault-requires-in-Unknown
answer_to_fault-requires-in-Unknown c = faulty c.args.text.now c.args.none expand.Unknown c.in-Unknown.is c.requires

pub returns-in-Unknown : goal.returns-in-Unknown
returns-in-Unknown c = failing c.args.text.now expand.Unknown c.answer_to_fault-in-Unknown.result unknown_told (subst (HasNoCore c.args.text.now) c.in-Unknown.is c.requires) c.answer_to_fault-in-Unknown.ensures

pub returns-in-Memory : goal.returns-in-Memory
returns-in-Memory c = wanting c.args.text.now
