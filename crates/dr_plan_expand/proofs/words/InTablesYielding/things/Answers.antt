use Rattle.dr_plan_expand.specs.Lists.{Yields}
use Rattle.dr_plan_expand.specs.Words.{YieldsOfSet, of_set, of_sets}
use Rattle.dr_plan_expand.proofs.Yielded.{yields_mapped, yields_unmapped}
use Rattle.dr_plan_expand.proofs.Worded.{ok_as, none_as}
use Rattle.dr_plan_expand.proofs.words.InTablesYielding.things.Goals as goal

pub returns-clause-ok : goal.returns-clause-ok
returns-clause-ok c =
    ok_as (Yields (λ e. YieldsOfSet c.args.self.now.0.now (of_set e)) c.args.table.now.now) (Yields (YieldsOfSet c.args.self.now.0.now) (of_sets c.args.table.now)) c.all.result
    (yields_mapped of_set (YieldsOfSet c.args.self.now.0.now) c.args.table.now.now) c.all.ensures.ok

pub returns-clause-unknown : goal.returns-clause-unknown
returns-clause-unknown c =
    none_as (Yields (λ e. YieldsOfSet c.args.self.now.0.now (of_set e)) c.args.table.now.now) (Yields (YieldsOfSet c.args.self.now.0.now) (of_sets c.args.table.now)) c.all.result
    (yields_unmapped of_set (YieldsOfSet c.args.self.now.0.now) c.args.table.now.now) c.all.ensures.unknown
