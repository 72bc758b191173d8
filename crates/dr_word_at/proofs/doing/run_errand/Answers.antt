use Rattle.dr_word_line.specs.declared.words.Errand.TheVariants as errands
use Rattle.dr_word_at.proofs.Doings.{as_asked}
use Rattle.dr_word_at.proofs.doing.run_errand.Goals as goal

pub returns-in-List : goal.returns-in-List
returns-in-List g c = as_asked g.A.Asks.answers c.args.meant.name.now c.args.meant.digest.now c.args.node.now c.list.new.node c.list.result c.args.errand errands.List c.in-List.is c.list.ensures

pub returns-in-Summary : goal.returns-in-Summary
returns-in-Summary g c = as_asked g.A.Asks.answers c.args.meant.name.now c.args.meant.digest.now c.args.node.now c.summarize.new.node c.summarize.result c.args.errand errands.Summary c.in-Summary.is c.summarize.ensures

pub returns-in-StrictSummary : goal.returns-in-StrictSummary
returns-in-StrictSummary g c = as_asked g.A.Asks.answers c.args.meant.name.now c.args.meant.digest.now c.args.node.now c.summarize-in-StrictSummary.new.node c.summarize-in-StrictSummary.result c.args.errand errands.StrictSummary c.in-StrictSummary.is c.summarize-in-StrictSummary.ensures

pub returns-in-Requeue : goal.returns-in-Requeue
returns-in-Requeue g c = as_asked g.A.Asks.answers c.args.meant.name.now c.args.meant.digest.now c.args.node.now c.requeue_row.new.node c.requeue_row.result c.args.errand (errands.Requeue c.in-Requeue.uid c.in-Requeue.dest) c.in-Requeue.is c.requeue_row.ensures

pub returns-in-RequeueAll : goal.returns-in-RequeueAll
returns-in-RequeueAll g c = as_asked g.A.Asks.answers c.args.meant.name.now c.args.meant.digest.now c.args.node.now c.requeue_all.new.node c.requeue_all.result c.args.errand (errands.RequeueAll c.in-RequeueAll.dest) c.in-RequeueAll.is c.requeue_all.ensures

pub returns-in-GiveUp : goal.returns-in-GiveUp
returns-in-GiveUp g c = as_asked g.A.Asks.answers c.args.meant.name.now c.args.meant.digest.now c.args.node.now c.give_row_up.new.node c.give_row_up.result c.args.errand (errands.GiveUp c.in-GiveUp.uid c.in-GiveUp.dest) c.in-GiveUp.is c.give_row_up.ensures

pub returns-in-Forget : goal.returns-in-Forget
returns-in-Forget g c = as_asked g.A.Asks.answers c.args.meant.name.now c.args.meant.digest.now c.args.node.now c.forget_instance.new.node c.forget_instance.result c.args.errand (errands.Forget c.in-Forget.uid) c.in-Forget.is c.forget_instance.ensures

pub returns-in-Stop : goal.returns-in-Stop
returns-in-Stop g c = as_asked g.A.Asks.answers c.args.meant.name.now c.args.meant.digest.now c.args.node.now c.act.new.node c.act.result c.args.errand errands.Stop c.in-Stop.is c.act.ensures

pub returns-in-GiveUpFor : goal.returns-in-GiveUpFor
returns-in-GiveUpFor g c =
    as_asked g.A.Asks.answers c.args.meant.name.now c.args.meant.digest.now c.args.node.now
    c.give_row_up_for.new.node c.give_row_up_for.result c.args.errand
    (errands.GiveUpFor c.in-GiveUpFor.uid c.in-GiveUpFor.dest c.in-GiveUpFor.reason) c.in-GiveUpFor.is c.give_row_up_for.ensures

pub returns-in-Visit : goal.returns-in-Visit
returns-in-Visit g c =
    as_asked g.A.Asks.answers c.args.meant.name.now c.args.meant.digest.now c.args.node.now
    c.visit_node.new.node c.visit_node.result c.args.errand
    (errands.Visit c.in-Visit.dest) c.in-Visit.is c.visit_node.ensures

pub returns-in-Backup : goal.returns-in-Backup
returns-in-Backup g c =
    as_asked g.A.Asks.answers c.args.meant.name.now c.args.meant.digest.now c.args.node.now
    c.back_up.new.node c.back_up.result c.args.errand
    (errands.Backup c.in-Backup.copy) c.in-Backup.is c.back_up.ensures
