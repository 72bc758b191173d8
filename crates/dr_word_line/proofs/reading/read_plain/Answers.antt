use Rattle.dr_word_line.specs.Words.{Asks, IsAdoptOf, IsAuditOf, IsCheckOf, IsDiffOf, IsDutyOf, IsEchoOf, IsErrandOf, IsExpandOf, IsExpectOf, IsFileRouteOf, IsGraphOf, IsImportOf, IsKeyRouteOf, IsLintOf, IsPlainCheck, IsSimulateOf, IsVerifyOf}
use Rattle.std.specs.Prelude.{ℕ, List}
use Rattle.std.specs.Borrow.{Bor}
use Rattle.dr_word_line.specs.declared.words.Task.{Task}
use Rattle.dr_word_line.specs.declared.words.KeyWords.{KeyWords as KeyWordsValue}
use Rattle.dr_word_line.specs.declared.words.NextPlan.{NextPlan as NextPlanValue}
use Rattle.dr_run_files.specs.declared.node.NodeFiles.{NodeFiles as NodeFilesValue}
use Rattle.dr_word_line.specs.declared.words.Duty.{Duty as DutyValue}
use Rattle.dr_word_line.specs.declared.words.PlanChange.{PlanChange as PlanChangeValue}
use Rattle.dr_word_line.specs.declared.words.SiteFiles.{SiteFiles as SiteFilesValue}
use Rattle.dr_word_line.specs.declared.words.Errand.{Errand as ErrandValue}
use Rattle.dr_word_line.specs.declared.words.RunningNode.{RunningNode as RunningNodeValue}
use Rattle.dr_word_line.proofs.Trying.{at_none, from_none, ors, some_or, tried}
use Rattle.dr_word_line.proofs.Nothing.{nothing_asked}
use Rattle.dr_word_line.proofs.reading.read_plain.Goals as goal

pub returns : goal.returns
returns c =
    tried (Asks c.args.words.now) ((asked : Task) → Asks c.args.words.now asked → ⊥) _
    (some_or (Asks c.args.words.now) _ _ _ c.or-4.ensures (some_or (Asks c.args.words.now) _ _ _ c.or-3.ensures (some_or (Asks c.args.words.now) _ _ _ c.or-2.ensures (some_or (Asks c.args.words.now) _ _ _ c.or.ensures (c.read_alone.ensures.asked) c.read_named.ensures.asked) c.read_ways.ensures.asked) c.read_ledger.ensures.asked) c.read_running.ensures.asked)
    (from_none ((asked : Task) → Asks c.args.words.now asked → ⊥) _ (λ none.
    let next4 = ors c.or-4.ensures none in
    let next3 = ors c.or-3.ensures next4.0 in
    let next2 = ors c.or-2.ensures next3.0 in
    let next1 = ors c.or.ensures next2.0 in
    nothing_asked c.args.words.now
    (at_none (IsPlainCheck c.args.words.now → ⊥) _ c.read_alone.ensures.input next1.0)
    (at_none ((plan : Bor (List ℕ)) → IsCheckOf c.args.words.now plan → ⊥) _ c.read_alone.ensures.file next1.0)
    (at_none ((plan : Bor (List ℕ)) → IsExpandOf c.args.words.now plan → ⊥) _ c.read_alone.ensures.expand next1.0)
    (at_none ((table : Bor (List ℕ)) → IsImportOf c.args.words.now table → ⊥) _ c.read_alone.ensures.imported next1.0)
    (at_none ((plan certificate : Bor (List ℕ)) → IsVerifyOf c.args.words.now plan certificate → ⊥) _ c.read_named.ensures.verify next1.1)
    (at_none ((plan certificate script : Bor (List ℕ)) → IsSimulateOf c.args.words.now plan certificate script → ⊥) _ c.read_named.ensures.simulate next1.1)
    (at_none ((plan caller called : Bor (List ℕ)) → IsEchoOf c.args.words.now plan caller called → ⊥) _ c.read_named.ensures.echo next1.1)
    (at_none ((plan certificate : Bor (List ℕ)) → IsGraphOf c.args.words.now plan certificate → ⊥) _ c.read_named.ensures.graph next1.1)
    (at_none ((plan certificate : Bor (List ℕ)) → IsLintOf c.args.words.now plan certificate → ⊥) _ c.read_named.ensures.lint next1.1)
    (at_none ((plan certificate path : Bor (List ℕ)) → IsExpectOf c.args.words.now plan certificate path → ⊥) _ c.read_named.ensures.expect next1.1)
    (at_none ((plan certificate : Bor (List ℕ)) (next : NextPlanValue) → IsDiffOf c.args.words.now plan certificate next → ⊥) _ c.read_ways.ensures.diff next2.1)
    (at_none ((plan certificate at path : Bor (List ℕ)) → IsFileRouteOf c.args.words.now plan certificate at path → ⊥) _ c.read_ways.ensures.route_of_file next2.1)
    (at_none ((plan certificate at : Bor (List ℕ)) (key : KeyWordsValue) → IsKeyRouteOf c.args.words.now plan certificate at key → ⊥) _ c.read_ways.ensures.route_of_key next2.1)
    (at_none ((given : NodeFilesValue) (duty : DutyValue) → IsDutyOf c.args.words.now given duty → ⊥) _ c.read_ledger.ensures.duty next3.1)
    (at_none ((change : PlanChangeValue) → IsAdoptOf c.args.words.now change → ⊥) _ c.read_ledger.ensures.adopt next3.1)
    (at_none ((given : SiteFilesValue) → IsAuditOf c.args.words.now given → ⊥) _ c.read_ledger.ensures.audit next3.1)
    (at_none ((given : RunningNodeValue) (errand : ErrandValue) → IsErrandOf c.args.words.now given errand → ⊥) _ c.read_running.ensures.errand next4.1)))
