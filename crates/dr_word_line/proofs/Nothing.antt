-- Words of no plain form ask for nothing.
use Rattle.std.specs.Prelude.{ℕ, List}
use Rattle.std.specs.Borrow.{Bor}
use Rattle.dr_word_line.specs.declared.words.Task.{Task}
use Rattle.dr_word_line.specs.declared.words.Task.TheVariants as asks
use Rattle.dr_word_line.specs.declared.words.Duty.{Duty}
use Rattle.dr_word_line.specs.declared.words.Duty.TheVariants as duties
use Rattle.dr_word_line.specs.declared.words.Errand.{Errand}
use Rattle.dr_word_line.specs.declared.words.Errand.TheVariants as errands
use Rattle.dr_word_line.specs.declared.words.RunningNode.{RunningNode}
use Rattle.dr_word_line.specs.declared.words.KeyWords.{KeyWords}
use Rattle.dr_run_files.specs.declared.node.NodeFiles.{NodeFiles}
use Rattle.dr_word_line.specs.declared.words.PlanChange.{PlanChange}
use Rattle.dr_word_line.specs.declared.words.SiteFiles.{SiteFiles}
use Rattle.dr_word_line.specs.declared.words.NextPlan.{NextPlan}
use Rattle.dr_word_line.specs.declared.words.Question.TheVariants as questions
use Rattle.dr_word_line.specs.Words.{Asks, IsAdoptOf, IsAuditOf, IsCheckOf, IsDiffOf, IsDutyOf, IsEchoOf, IsErrandOf, IsExpandOf, IsExpectOf, IsFileRouteOf, IsForgetOf, IsGiveUpOf, IsGraphOf, IsImportOf, IsKeyRouteOf, IsLintOf, IsListOf, IsMakeOf, IsMakeWithDataOf, IsPlainCheck, IsRequeueAllOf, IsRequeueOf, IsSendOf, IsServeOf, IsSimulateOf, IsSummaryOf, IsVerifyOf}

-- no duty is asked for, where none of each kind is
module _ (words : List (Bor (List ℕ)))
    (list : (given : NodeFiles) → IsListOf words given → ⊥)
    (serve : (given : NodeFiles) → IsServeOf words given → ⊥)
    (requeue : (given : NodeFiles) (uid dest : Bor (List ℕ)) → IsRequeueOf words given uid dest → ⊥)
    (send : (given : NodeFiles) (file : Bor (List ℕ)) → IsSendOf words given file → ⊥)
    (summary : (given : NodeFiles) → IsSummaryOf words given → ⊥)
    (requeue_all : (given : NodeFiles) (dest : Bor (List ℕ)) → IsRequeueAllOf words given dest → ⊥)
    (give_up : (given : NodeFiles) (uid dest : Bor (List ℕ)) → IsGiveUpOf words given uid dest → ⊥)
    (forget : (given : NodeFiles) (uid : Bor (List ℕ)) → IsForgetOf words given uid → ⊥)
    (make : (given : NodeFiles) → IsMakeOf words given → ⊥)
    (with_data : (given : NodeFiles) → IsMakeWithDataOf words given → ⊥) where
  pub no_duty : (given : NodeFiles) (duty : Duty) → IsDutyOf words given duty → ⊥
  no_duty given duties.Make h = make given h
  no_duty given duties.MakeWithData h = with_data given h
  no_duty given duties.List h = list given h
  no_duty given duties.ListLong h = absurd h
  no_duty given duties.Summary h = summary given h
  no_duty given (duties.RequeueAll dest) h = requeue_all given dest h
  no_duty given (duties.Requeue uid dest) h = requeue given uid dest h
  no_duty given (duties.GiveUp uid dest) h = give_up given uid dest h
  no_duty given (duties.Forget uid) h = forget given uid h
  no_duty given (duties.Send file) h = send given file h
  no_duty given (duties.Serve serving) h = serve given h.0

-- no errand is asked for, where none of each kind is
module _ (words : List (Bor (List ℕ)))
    (list : (given : RunningNode) → IsErrandOf words given errands.List → ⊥)
    (summary : (given : RunningNode) → IsErrandOf words given errands.Summary → ⊥)
    (requeue : (given : RunningNode) (uid dest : Bor (List ℕ)) → IsErrandOf words given (errands.Requeue uid dest) → ⊥)
    (requeue_all : (given : RunningNode) (dest : Bor (List ℕ)) → IsErrandOf words given (errands.RequeueAll dest) → ⊥)
    (give_up : (given : RunningNode) (uid dest : Bor (List ℕ)) → IsErrandOf words given (errands.GiveUp uid dest) → ⊥)
    (forget : (given : RunningNode) (uid : Bor (List ℕ)) → IsErrandOf words given (errands.Forget uid) → ⊥)
    (visit : (given : RunningNode) (dest : Bor (List ℕ)) → IsErrandOf words given (errands.Visit dest) → ⊥)
    (backup : (given : RunningNode) (copy : Bor (List ℕ)) → IsErrandOf words given (errands.Backup copy) → ⊥)
    (stop : (given : RunningNode) → IsErrandOf words given errands.Stop → ⊥) where
  pub no_errand : (given : RunningNode) (errand : Errand) → IsErrandOf words given errand → ⊥
  no_errand given errands.List h = list given h
  no_errand given errands.Summary h = summary given h
  no_errand given errands.StrictSummary h = absurd h
  no_errand given (errands.Requeue uid dest) h = requeue given uid dest h
  no_errand given (errands.RequeueAll dest) h = requeue_all given dest h
  no_errand given (errands.GiveUp uid dest) h = give_up given uid dest h
  no_errand given (errands.GiveUpFor uid dest reason) h = absurd h
  no_errand given (errands.Forget uid) h = forget given uid h
  no_errand given (errands.Visit dest) h = visit given dest h
  no_errand given (errands.Backup copy) h = backup given copy h
  no_errand given errands.Stop h = stop given h

-- nothing is asked for, where nothing of each form is
module _ (words : List (Bor (List ℕ)))
    (input : IsPlainCheck words → ⊥)
    (file : (plan : Bor (List ℕ)) → IsCheckOf words plan → ⊥)
    (expand : (plan : Bor (List ℕ)) → IsExpandOf words plan → ⊥)
    (imported : (table : Bor (List ℕ)) → IsImportOf words table → ⊥)
    (verify : (plan certificate : Bor (List ℕ)) → IsVerifyOf words plan certificate → ⊥)
    (simulate : (plan certificate script : Bor (List ℕ)) → IsSimulateOf words plan certificate script → ⊥)
    (echo : (plan caller called : Bor (List ℕ)) → IsEchoOf words plan caller called → ⊥)
    (graph : (plan certificate : Bor (List ℕ)) → IsGraphOf words plan certificate → ⊥)
    (lint : (plan certificate : Bor (List ℕ)) → IsLintOf words plan certificate → ⊥)
    (expect : (plan certificate path : Bor (List ℕ)) → IsExpectOf words plan certificate path → ⊥)
    (diff : (plan certificate : Bor (List ℕ)) (next : NextPlan) → IsDiffOf words plan certificate next → ⊥)
    (route_of_file : (plan certificate at path : Bor (List ℕ)) → IsFileRouteOf words plan certificate at path → ⊥)
    (route_of_key : (plan certificate at : Bor (List ℕ)) (key : KeyWords) → IsKeyRouteOf words plan certificate at key → ⊥)
    (duty : (given : NodeFiles) (duty : Duty) → IsDutyOf words given duty → ⊥)
    (adopt : (change : PlanChange) → IsAdoptOf words change → ⊥)
    (audit : (given : SiteFiles) → IsAuditOf words given → ⊥)
    (errand : (given : RunningNode) (errand : Errand) → IsErrandOf words given errand → ⊥) where
  pub nothing_asked : (asked : Task) → Asks words asked → ⊥
  nothing_asked asks.CheckInput h = input h
  nothing_asked (asks.CheckFile plan) h = file plan h
  nothing_asked (asks.Expand plan) h = expand plan h
  nothing_asked (asks.Import table) h = imported table h
  nothing_asked (asks.Verify plan certificate) h = verify plan certificate h
  nothing_asked (asks.Simulate plan certificate script) h = simulate plan certificate script h
  nothing_asked (asks.Echo plan caller called) h = echo plan caller called h
  nothing_asked (asks.Question plan certificate questions.Graph) h = graph plan certificate h
  nothing_asked (asks.Question plan certificate questions.Lint) h = lint plan certificate h
  nothing_asked (asks.Question plan certificate questions.StrictLint) h = absurd h
  nothing_asked (asks.Question plan certificate (questions.Diff next)) h = diff plan certificate next h.0
  nothing_asked (asks.Question plan certificate (questions.Expect path)) h = expect plan certificate path h
  nothing_asked (asks.Question plan certificate (questions.RouteOfFile at path)) h = route_of_file plan certificate at path h
  nothing_asked (asks.Question plan certificate (questions.RouteOfKey at key)) h = route_of_key plan certificate at key h
  nothing_asked (asks.AtNode given work) h = duty given work h
  nothing_asked (asks.AtRunning given what) h = errand given what h
  nothing_asked (asks.Adopt change) h = adopt change h
  nothing_asked (asks.Audit given) h = audit given h
  nothing_asked (asks.AuditAmong given others) h = absurd h
  nothing_asked (asks.AuditRunning given) h = absurd h
  nothing_asked (asks.AdoptAmong change others) h = absurd h
  nothing_asked (asks.Rehearse change others) h = absurd h
  nothing_asked asks.CheckInputAsJson h = absurd h
  nothing_asked (asks.CheckFileAsJson plan) h = absurd h
  nothing_asked asks.CheckAllOfInput h = absurd h
  nothing_asked (asks.CheckAllOfFile plan) h = absurd h
  nothing_asked (asks.QuestionAsJson plan certificate question) h = absurd h
  nothing_asked (asks.Told error) h = absurd h
