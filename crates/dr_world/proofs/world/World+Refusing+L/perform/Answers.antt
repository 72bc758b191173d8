use Rattle.dr_world_script.specs.declared.step.Step.TheVariants.{Submit, Open, Away, Push, Move, Abort, Release, Close, Late, Restart, Requeue, Drop, Forget, Tick, RefuseStore}
use Rattle.dr_world.specs.declared.steps.StepNote.TheVariants.{Done}
use Rattle.dr_world.proofs.Running.{as_if, as_it, copied}
use Rattle.dr_world.proofs.world.World+Refusing+L.perform.Goals as goal

pub returns-in_ok-item-in-Submit : goal.returns-in_ok-item-in-Submit
returns-in_ok-item-in-Submit g c =
    as_it c.args.self.now c.submit.new.self c.args.step.now (Submit c.in-Submit.node c.in-Submit.item) c.in-Submit.is c.submit.result
    (copied c.args.self.now c.submit.new.self c.in-Submit.node c.submit.result c.in_ok-item-in-Submit.item c.in-Submit.item c.in_ok-item-in-Submit.ensures c.submit.ensures.step)

pub returns-in-Push : goal.returns-in-Push
returns-in-Push g c = as_if c.args.self.now c.push.new.self c.args.step.now (Push c.in-Push.link) c.in-Push.is c.push.result c.push.ensures

pub returns-in-Abort : goal.returns-in-Abort
returns-in-Abort g c = as_if c.args.self.now c.abort.new.self c.args.step.now (Abort c.in-Abort.link c.in-Abort.side) c.in-Abort.is c.abort.result c.abort.ensures

pub returns-in-Release : goal.returns-in-Release
returns-in-Release g c = as_if c.args.self.now c.release.new.self c.args.step.now (Release c.in-Release.link) c.in-Release.is c.release.result c.release.ensures

pub returns-in-Late : goal.returns-in-Late
returns-in-Late g c = as_if c.args.self.now c.late.new.self c.args.step.now (Late c.in-Late.link c.in-Late.side) c.in-Late.is c.late.result c.late.ensures

pub returns-in-Requeue : goal.returns-in-Requeue
returns-in-Requeue g c =
    as_it c.args.self.now c.requeue.new.self c.args.step.now (Requeue c.in-Requeue.node c.in-Requeue.uid c.in-Requeue.dest) c.in-Requeue.is c.requeue.result c.requeue.ensures.step

pub returns-in-Drop : goal.returns-in-Drop
returns-in-Drop g c =
    let told = Drop c.in-Drop.node c.in-Drop.uid c.in-Drop.dest in
    let new = c.give_up.new.self in
    as_it c.args.self.now new c.args.step.now told c.in-Drop.is c.give_up.result c.give_up.ensures.step

pub returns-in-Away : goal.returns-in-Away
returns-in-Away g c =
    let told = Away c.in-Away.from c.in-Away.to in
    let new = c.away.new.self in
    as_it c.args.self.now new c.args.step.now told c.in-Away.is c.away.result c.away.ensures.step

pub returns-in-Forget : goal.returns-in-Forget
returns-in-Forget g c =
    let told = Forget c.in-Forget.node c.in-Forget.uid in
    let new = c.forget.new.self in
    as_it c.args.self.now new c.args.step.now told c.in-Forget.is c.forget.result c.forget.ensures

pub returns-in-Tick : goal.returns-in-Tick
returns-in-Tick g c = as_it c.args.self.now c.tick.new.self c.args.step.now (Tick c.in-Tick.milliseconds) c.in-Tick.is Done c.tick.ensures.step

pub returns-in-RefuseStore : goal.returns-in-RefuseStore
returns-in-RefuseStore g c = as_it c.args.self.now c.refuse.new.self c.args.step.now (RefuseStore c.in-RefuseStore.node) c.in-RefuseStore.is c.refuse.result c.refuse.ensures.step

pub returns-in-Open : goal.returns-in-Open
returns-in-Open g c = as_if c.args.self.now c.open.new.self c.args.step.now (Open c.in-Open.from c.in-Open.to) c.in-Open.is c.open.result c.open.ensures

pub returns-in-Close : goal.returns-in-Close
returns-in-Close g c = as_if c.args.self.now c.close.new.self c.args.step.now (Close c.in-Close.link) c.in-Close.is c.close.result c.close.ensures

pub returns-in-Move : goal.returns-in-Move
returns-in-Move g c = as_if c.args.self.now c.move_bytes.new.self c.args.step.now (Move c.in-Move.link c.in-Move.reader c.in-Move.most) c.in-Move.is c.move_bytes.result c.move_bytes.ensures

pub returns-in-Restart : goal.returns-in-Restart
returns-in-Restart g c = as_if c.args.self.now c.restart.new.self c.args.step.now (Restart c.in-Restart.node) c.in-Restart.is c.restart.result c.restart.ensures
