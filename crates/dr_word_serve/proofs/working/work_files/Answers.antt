use Rattle.std.proofs.Common.{Result, Ok, Err, sym, subst}
use Rattle.std.specs.Prelude.{IfOk}
use Rattle.dr_word_line.specs.declared.words.Duty.{Duty}
use Rattle.dr_run_serve.specs.contracts.tallied.OwnPortDeskPort.TheImpl as own
use Rattle.dr_run_serve.specs.contracts.tallied.OwnPortTallied.TheImpl as tallied
use Rattle.dr_word_serve.specs.Sending.{VisitsBy}
use Rattle.dr_word_serve.specs.Working.{Works}
use Rattle.dr_word_serve.proofs.working.work_files.Goals as goal

on_ok : {T E : Type 0} {A B : T → Type 0} → ((x : T) → A x → B x) → (r : Result T E) → IfOk r A → IfOk r B
on_ok f (Ok x) h = f x h
on_ok f (Err e) h = h

pub returns-in-List : goal.returns-in-List
returns-in-List g c =
    let P : Duty → Type 0 = λ duty. IfOk c.list.result (Works (g.F.Files.holds c.args.system.files.now) (g.O.Ledgers.opens c.args.system.ledgers.now) g.O.Ledger.Ledger.site g.O.Ledger.Ledger.book g.O.Ledger.Ledger.stands
    (VisitsBy (g.N.Network.connects c.args.system.network.now) g.N.Socket.Link.hears g.N.Socket.Link.sends g.N.Socket.Link.closes (own.step-value g.row.O-Ledger g.O.Ledger.Ledger g.O.Ledger.Ledger-dict).it (tallied.finds-value g.row.O-Ledger g.O.Ledger.Ledger g.O.Ledger.Ledger-dict).it (g.C.Clock.tells c.args.system.clock.now)) (g.C.Clock.tells c.args.system.clock.now)
    c.args.given duty (g.W.Write.contents c.args.output.now) (g.W.Write.contents c.list.new.self.0)) in
    subst P (sym c.in-List.is) c.list.ensures

pub returns-in-Summary : goal.returns-in-Summary
returns-in-Summary g c =
    let P : Duty → Type 0 = λ duty. IfOk c.summarize.result (Works (g.F.Files.holds c.args.system.files.now) (g.O.Ledgers.opens c.args.system.ledgers.now) g.O.Ledger.Ledger.site g.O.Ledger.Ledger.book g.O.Ledger.Ledger.stands
    (VisitsBy (g.N.Network.connects c.args.system.network.now) g.N.Socket.Link.hears g.N.Socket.Link.sends g.N.Socket.Link.closes (own.step-value g.row.O-Ledger g.O.Ledger.Ledger g.O.Ledger.Ledger-dict).it (tallied.finds-value g.row.O-Ledger g.O.Ledger.Ledger g.O.Ledger.Ledger-dict).it (g.C.Clock.tells c.args.system.clock.now)) (g.C.Clock.tells c.args.system.clock.now)
    c.args.given duty (g.W.Write.contents c.args.output.now) (g.W.Write.contents c.summarize.new.self.0)) in
    subst P (sym c.in-Summary.is) c.summarize.ensures

pub returns-in-Requeue : goal.returns-in-Requeue
returns-in-Requeue g c =
    let P : Duty → Type 0 = λ duty. IfOk c.requeue.result (Works (g.F.Files.holds c.args.system.files.now) (g.O.Ledgers.opens c.args.system.ledgers.now) g.O.Ledger.Ledger.site g.O.Ledger.Ledger.book g.O.Ledger.Ledger.stands
    (VisitsBy (g.N.Network.connects c.args.system.network.now) g.N.Socket.Link.hears g.N.Socket.Link.sends g.N.Socket.Link.closes (own.step-value g.row.O-Ledger g.O.Ledger.Ledger g.O.Ledger.Ledger-dict).it (tallied.finds-value g.row.O-Ledger g.O.Ledger.Ledger g.O.Ledger.Ledger-dict).it (g.C.Clock.tells c.args.system.clock.now)) (g.C.Clock.tells c.args.system.clock.now)
    c.args.given duty (g.W.Write.contents c.args.output.now) (g.W.Write.contents c.requeue.new.self.0)) in
    subst P (sym c.in-Requeue.is) c.requeue.ensures

pub returns-in-RequeueAll : goal.returns-in-RequeueAll
returns-in-RequeueAll g c =
    let P : Duty → Type 0 = λ duty. IfOk c.requeue_all.result (Works (g.F.Files.holds c.args.system.files.now) (g.O.Ledgers.opens c.args.system.ledgers.now) g.O.Ledger.Ledger.site g.O.Ledger.Ledger.book g.O.Ledger.Ledger.stands
    (VisitsBy (g.N.Network.connects c.args.system.network.now) g.N.Socket.Link.hears g.N.Socket.Link.sends g.N.Socket.Link.closes (own.step-value g.row.O-Ledger g.O.Ledger.Ledger g.O.Ledger.Ledger-dict).it (tallied.finds-value g.row.O-Ledger g.O.Ledger.Ledger g.O.Ledger.Ledger-dict).it (g.C.Clock.tells c.args.system.clock.now)) (g.C.Clock.tells c.args.system.clock.now)
    c.args.given duty (g.W.Write.contents c.args.output.now) (g.W.Write.contents c.requeue_all.new.self.0)) in
    subst P (sym c.in-RequeueAll.is) c.requeue_all.ensures

pub returns-in-Send : goal.returns-in-Send
returns-in-Send g c =
    let P : Duty → Type 0 = λ duty. IfOk c.send_files.result (Works (g.F.Files.holds c.args.system.files.now) (g.O.Ledgers.opens c.args.system.ledgers.now) g.O.Ledger.Ledger.site g.O.Ledger.Ledger.book g.O.Ledger.Ledger.stands
    (VisitsBy (g.N.Network.connects c.args.system.network.now) g.N.Socket.Link.hears g.N.Socket.Link.sends g.N.Socket.Link.closes (own.step-value g.row.O-Ledger g.O.Ledger.Ledger g.O.Ledger.Ledger-dict).it (tallied.finds-value g.row.O-Ledger g.O.Ledger.Ledger g.O.Ledger.Ledger-dict).it (g.C.Clock.tells c.args.system.clock.now)) (g.C.Clock.tells c.args.system.clock.now)
    c.args.given duty (g.W.Write.contents c.args.output.now) (g.W.Write.contents c.send_files.new.output)) in
    subst P (sym c.in-Send.is) c.send_files.ensures

pub returns-in-Serve : goal.returns-in-Serve
returns-in-Serve g c =
    let P : Duty → Type 0 = λ duty. IfOk c.serve_files.result (Works (g.F.Files.holds c.args.system.files.now) (g.O.Ledgers.opens c.args.system.ledgers.now) g.O.Ledger.Ledger.site g.O.Ledger.Ledger.book g.O.Ledger.Ledger.stands
    (VisitsBy (g.N.Network.connects c.args.system.network.now) g.N.Socket.Link.hears g.N.Socket.Link.sends g.N.Socket.Link.closes (own.step-value g.row.O-Ledger g.O.Ledger.Ledger g.O.Ledger.Ledger-dict).it (tallied.finds-value g.row.O-Ledger g.O.Ledger.Ledger g.O.Ledger.Ledger-dict).it (g.C.Clock.tells c.args.system.clock.now)) (g.C.Clock.tells c.args.system.clock.now)
    c.args.given duty (g.W.Write.contents c.args.output.now) (g.W.Write.contents c.serve_files.new.output)) in
    subst P (sym c.in-Serve.is) c.serve_files.ensures

pub returns-in-Forget : goal.returns-in-Forget
returns-in-Forget g c =
    let P : Duty → Type 0 = λ duty. IfOk c.forget.result (Works (g.F.Files.holds c.args.system.files.now) (g.O.Ledgers.opens c.args.system.ledgers.now) g.O.Ledger.Ledger.site g.O.Ledger.Ledger.book g.O.Ledger.Ledger.stands
    (VisitsBy (g.N.Network.connects c.args.system.network.now) g.N.Socket.Link.hears g.N.Socket.Link.sends g.N.Socket.Link.closes (own.step-value g.row.O-Ledger g.O.Ledger.Ledger g.O.Ledger.Ledger-dict).it (tallied.finds-value g.row.O-Ledger g.O.Ledger.Ledger g.O.Ledger.Ledger-dict).it (g.C.Clock.tells c.args.system.clock.now)) (g.C.Clock.tells c.args.system.clock.now)
    c.args.given duty (g.W.Write.contents c.args.output.now) (g.W.Write.contents c.forget.new.self.0)) in
    subst P (sym c.in-Forget.is) c.forget.ensures

pub returns-in-GiveUp : goal.returns-in-GiveUp
returns-in-GiveUp g c =
    let P : Duty → Type 0 = λ duty. IfOk c.give_up.result (Works (g.F.Files.holds c.args.system.files.now) (g.O.Ledgers.opens c.args.system.ledgers.now) g.O.Ledger.Ledger.site g.O.Ledger.Ledger.book g.O.Ledger.Ledger.stands
    (VisitsBy (g.N.Network.connects c.args.system.network.now) g.N.Socket.Link.hears g.N.Socket.Link.sends g.N.Socket.Link.closes (own.step-value g.row.O-Ledger g.O.Ledger.Ledger g.O.Ledger.Ledger-dict).it (tallied.finds-value g.row.O-Ledger g.O.Ledger.Ledger g.O.Ledger.Ledger-dict).it (g.C.Clock.tells c.args.system.clock.now)) (g.C.Clock.tells c.args.system.clock.now)
    c.args.given duty (g.W.Write.contents c.args.output.now) (g.W.Write.contents c.give_up.new.self.0)) in
    subst P (sym c.in-GiveUp.is) (on_ok (λ status e. (c.now-now.result, e.0, c.now-now.ensures.tells, e.1, e.2)) c.give_up.result c.give_up.ensures)

pub returns-in-Make : goal.returns-in-Make
returns-in-Make g c =
    let P : Duty → Type 0 = λ duty. IfOk c.make.result (Works (g.F.Files.holds c.args.system.files.now) (g.O.Ledgers.opens c.args.system.ledgers.now) g.O.Ledger.Ledger.site g.O.Ledger.Ledger.book g.O.Ledger.Ledger.stands
    (VisitsBy (g.N.Network.connects c.args.system.network.now) g.N.Socket.Link.hears g.N.Socket.Link.sends g.N.Socket.Link.closes (own.step-value g.row.O-Ledger g.O.Ledger.Ledger g.O.Ledger.Ledger-dict).it (tallied.finds-value g.row.O-Ledger g.O.Ledger.Ledger g.O.Ledger.Ledger-dict).it (g.C.Clock.tells c.args.system.clock.now)) (g.C.Clock.tells c.args.system.clock.now)
    c.args.given duty (g.W.Write.contents c.args.output.now) (g.W.Write.contents c.make.new.self.0)) in
    subst P (sym c.in-Make.is) c.make.ensures

pub returns-in-MakeWithData : goal.returns-in-MakeWithData
returns-in-MakeWithData g c =
    let P : Duty → Type 0 = λ duty. IfOk c.make_with_data.result (Works (g.F.Files.holds c.args.system.files.now) (g.O.Ledgers.opens c.args.system.ledgers.now) g.O.Ledger.Ledger.site g.O.Ledger.Ledger.book g.O.Ledger.Ledger.stands
    (VisitsBy (g.N.Network.connects c.args.system.network.now) g.N.Socket.Link.hears g.N.Socket.Link.sends g.N.Socket.Link.closes (own.step-value g.row.O-Ledger g.O.Ledger.Ledger g.O.Ledger.Ledger-dict).it (tallied.finds-value g.row.O-Ledger g.O.Ledger.Ledger g.O.Ledger.Ledger-dict).it (g.C.Clock.tells c.args.system.clock.now)) (g.C.Clock.tells c.args.system.clock.now)
    c.args.given duty (g.W.Write.contents c.args.output.now) (g.W.Write.contents c.make_with_data.new.self.0)) in
    subst P (sym c.in-MakeWithData.is) c.make_with_data.ensures
