use Rattle.std.proofs.Common.{◌≡◌, List, [], ◌∷◌, map, Option, Some, None, refl, subst, inl}
use Rattle.std.specs.List.{flat_map}
use Rattle.dr_pdu.specs.declared.pdu.Pdu.{Pdu}
use Rattle.dr_pdu.specs.declared.fault.PduFault.{PduFault}
use Rattle.dr_session.specs.declared.ends.Effect.{Effect}
use Rattle.dr_session.specs.Plays.{Plays, PlaysMore, PlaysOn, BreaksOff, BreaksOn, FaultShows, at_moment, inputs_of}
use Rattle.dr_session.proofs.InTurn.{on_err}
use Rattle.dr_session.proofs.Pieces.{on_more, on_broke_first, on_fault_more, on_fault_broke, fault_fits, if_ok, if_err}
use Rattle.dr_session.proofs.hearing.hear_on.Goals as goal

pub returns-in_err-last-clause-broke : goal.returns-in_err-last-clause-broke
returns-in_err-last-clause-broke g c = on_err _ _ (inl refl)

pub returns-in_err-first-clause-broke : goal.returns-in_err-first-clause-broke
returns-in_err-first-clause-broke g c = on_err _ _
    (let P : List Pdu → Type 0 = λ l. BreaksOff g.P.DeskPort.step [] c.args.core (map (at_moment c.args.at) (flat_map inputs_of l)) c.args.port.now c.hear_pdus.new.port in
    on_broke_first g.P.DeskPort.step c.args.at c.args.ear.now c.args.pdus c.args.core c.args.port.now c.hear_pdus.new.port (subst P c.into_vec.ensures c.in_err-first.ensures.broke))

pub returns-in-None-clause-done : goal.returns-in-None-clause-done
returns-in-None-clause-done g c =
    let P : List Pdu → Type 0 = λ l. Plays g.P.DeskPort.step c.args.core (map (at_moment c.args.at) (flat_map inputs_of l)) c.args.port.now c.in_ok-first.first.acts c.in_ok-first.first.core c.hear_pdus.new.port in
    let F : Option PduFault → Type 0 = λ o. FaultShows c.args.ear.now c.last_fault.new.ear o in
    on_more g.P.DeskPort.step c.args.at c.args.ear.now c.args.pdus c.args.core c.args.port.now c.hear_pdus.new.port c.last_fault.new.ear c.in_ok-first.first
    (subst F c.in-None.is c.in_ok-last.ensures) (subst P c.into_vec.ensures c.in_ok-first.ensures.done)

pub hear_more-requires-clause-fits : goal.hear_more-requires-clause-fits
hear_more-requires-clause-fits g c = fault_fits c.fault_input.result c.in-Some.fault c.fault_input.ensures

pub returns-in-Some-clause-done : goal.returns-in-Some-clause-done
returns-in-Some-clause-done g c =
    let P : List Pdu → Type 0 = λ l. Plays g.P.DeskPort.step c.args.core (map (at_moment c.args.at) (flat_map inputs_of l)) c.args.port.now c.in_ok-first.first.acts c.in_ok-first.first.core c.hear_pdus.new.port in
    let F : Option PduFault → Type 0 = λ o. FaultShows c.args.ear.now c.last_fault.new.ear o in
    let r : F (Some c.in-Some.fault) = subst F c.in-Some.is c.in_ok-last.ensures in
    if_ok c.hear_more.result (λ (e : Effect). PlaysMore g.P.DeskPort.step c.in_ok-first.first (at_moment c.args.at c.fault_input.result) c.hear_pdus.new.port e c.hear_more.new.port)
    (λ (e : Effect). PlaysOn g.P.DeskPort.step c.args.at c.args.ear.now c.args.pdus c.args.core c.args.port.now c.last_fault.new.ear e c.hear_more.new.port)
    (λ (e : Effect) (h : PlaysMore g.P.DeskPort.step c.in_ok-first.first (at_moment c.args.at c.fault_input.result) c.hear_pdus.new.port e c.hear_more.new.port).
    on_fault_more g.P.DeskPort.step c.args.at c.args.ear.now c.args.pdus c.in-Some.fault c.fault_input.result c.args.core c.args.port.now c.hear_pdus.new.port c.hear_more.new.port c.last_fault.new.ear c.in_ok-first.first e
    r.0 r.1 r.2 c.fault_input.ensures (subst P c.into_vec.ensures c.in_ok-first.ensures.done) h)
    c.hear_more.ensures.done

pub returns-in-Some-clause-broke : goal.returns-in-Some-clause-broke
returns-in-Some-clause-broke g c =
    let P : List Pdu → Type 0 = λ l. Plays g.P.DeskPort.step c.args.core (map (at_moment c.args.at) (flat_map inputs_of l)) c.args.port.now c.in_ok-first.first.acts c.in_ok-first.first.core c.hear_pdus.new.port in
    let F : Option PduFault → Type 0 = λ o. FaultShows c.args.ear.now c.last_fault.new.ear o in
    let r : F (Some c.in-Some.fault) = subst F c.in-Some.is c.in_ok-last.ensures in
    if_err c.hear_more.result _ _
    (λ (h : BreaksOff g.P.DeskPort.step c.in_ok-first.first.acts c.in_ok-first.first.core (at_moment c.args.at c.fault_input.result ∷ []) c.hear_pdus.new.port c.hear_more.new.port).
    on_fault_broke g.P.DeskPort.step c.args.at c.args.ear.now c.args.pdus c.in-Some.fault c.fault_input.result c.args.core c.args.port.now c.hear_pdus.new.port c.hear_more.new.port c.in_ok-first.first
    r.0 r.1 c.fault_input.ensures (subst P c.into_vec.ensures c.in_ok-first.ensures.done) h)
    c.hear_more.ensures.broke
