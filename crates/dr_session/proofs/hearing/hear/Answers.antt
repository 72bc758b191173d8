use Rattle.std.proofs.Common.{◌≡◌, List, [], ◌∷◌, map, Result, Ok, Err, refl, sym, ap, subst, ◌∙◌, inl}
use Rattle.std.specs.Prelude.{IfOk, OnErr}
use Rattle.dr_pdu.specs.declared.pdu.Pdu.{Pdu}
use Rattle.dr_pdu.specs.declared.fault.PduFault.{PduFault}
use Rattle.dr_pdu.specs.Feeding.{Feeds}
use Rattle.dr_session.specs.declared.ends.Effect.{Effect}
use Rattle.dr_session.specs.declared.ends.Input.{Input}
use Rattle.dr_session.specs.Plays.{Plays, PlaysOn, PlaysBytes, BreaksOff, BreaksOn, BreaksBytes, at_moment, input_of}
use Rattle.dr_session.proofs.Pieces.{run_fits, hears_none, hears_failed, hears_fault, plays_nothing, plays_fault, breaks_fault, plays_pdus, breaks_pdus, refused, more_never, failed_before, memory_before, fault_fits, if_ok, if_err, nothing_fed, ends_there}
use Rattle.dr_session.proofs.hearing.hear.Goals as goal

pub returns-then-is_empty-clause-done : goal.returns-then-is_empty-clause-done
returns-then-is_empty-clause-done g c =
    let F : Result (List Pdu) PduFault → Type 0 = λ r. Feeds c.args.ear.now c.args.piece.now r c.feed.new.self in
    let P : Effect → Type 0 = λ e. PlaysBytes g.P.DeskPort.step c.args.at c.args.ear.now c.args.core c.args.piece.now c.args.port.now c.feed.new.self e c.args.port.now in
    let h = hears_none c.args.ear.now c.args.piece.now c.in-Ok.pdus c.feed.new.self (nothing_fed c.in-Ok.pdus (sym c.is_empty.ensures ∙ c.if-is_empty.true)) (subst F c.in-Ok.is c.feed.ensures) in
    subst P (sym c.quiet.ensures) (plays_nothing g.P.DeskPort.step c.args.at c.args.ear.now c.args.piece.now c.args.core c.args.port.now c.feed.new.self h)

pub hear_on-requires-clause-fits : goal.hear_on-requires-clause-fits
hear_on-requires-clause-fits g c =
    let F : Result (List Pdu) PduFault → Type 0 = λ r. Feeds c.args.ear.now c.args.piece.now r c.feed.new.self in
    let f : F (Ok c.in-Ok.pdus) = subst F c.in-Ok.is c.feed.ensures in
    run_fits c.args.ear.now.limit c.in-Ok.pdus _ _ f.1.0

pub hear_on-requires-clause-longest : goal.hear_on-requires-clause-longest
hear_on-requires-clause-longest g c =
    let F : Result (List Pdu) PduFault → Type 0 = λ r. Feeds c.args.ear.now c.args.piece.now r c.feed.new.self in
    ends_there c.args.ear.now c.args.piece.now c.in-Ok.pdus c.feed.new.self (subst F c.in-Ok.is c.feed.ensures)

pub returns-else-is_empty-clause-done : goal.returns-else-is_empty-clause-done
returns-else-is_empty-clause-done g c =
    let F : Result (List Pdu) PduFault → Type 0 = λ r. Feeds c.args.ear.now c.args.piece.now r c.feed.new.self in
    if_ok c.hear_on.result (λ (e : Effect). PlaysOn g.P.DeskPort.step c.args.at c.feed.new.self c.in-Ok.pdus c.args.core c.args.port.now c.hear_on.new.ear e c.hear_on.new.port)
    (λ (e : Effect). PlaysBytes g.P.DeskPort.step c.args.at c.args.ear.now c.args.core c.args.piece.now c.args.port.now c.hear_on.new.ear e c.hear_on.new.port)
    (λ (e : Effect) (h : PlaysOn g.P.DeskPort.step c.args.at c.feed.new.self c.in-Ok.pdus c.args.core c.args.port.now c.hear_on.new.ear e c.hear_on.new.port).
    plays_pdus g.P.DeskPort.step c.args.at c.args.ear.now c.args.piece.now c.in-Ok.pdus c.args.core c.args.port.now c.hear_on.new.port c.feed.new.self c.hear_on.new.ear e (subst F c.in-Ok.is c.feed.ensures) h)
    c.hear_on.ensures.done

pub returns-else-is_empty-clause-broke : goal.returns-else-is_empty-clause-broke
returns-else-is_empty-clause-broke g c =
    let F : Result (List Pdu) PduFault → Type 0 = λ r. Feeds c.args.ear.now c.args.piece.now r c.feed.new.self in
    if_err c.hear_on.result _ _
    (λ (h : BreaksOn g.P.DeskPort.step c.args.at c.feed.new.self c.in-Ok.pdus c.args.core c.args.port.now c.hear_on.new.port).
    breaks_pdus g.P.DeskPort.step c.args.at c.args.ear.now c.args.piece.now c.in-Ok.pdus c.args.core c.args.port.now c.hear_on.new.port c.feed.new.self (subst F c.in-Ok.is c.feed.ensures) h)
    c.hear_on.ensures.broke

pub returns-in-Memory-clause-broke : goal.returns-in-Memory-clause-broke
returns-in-Memory-clause-broke g c =
    let F : Result (List Pdu) PduFault → Type 0 = λ r. Feeds c.args.ear.now c.args.piece.now r c.feed.new.self in
    ((memory_before c.args.ear.now c.args.piece.now c.in-Err.fault c.feed.new.self c.in-Memory.is (subst F c.in-Err.is c.feed.ensures)).0, inl refl)

pub returns-in-Failed-clause-done : goal.returns-in-Failed-clause-done
returns-in-Failed-clause-done g c =
    let F : Result (List Pdu) PduFault → Type 0 = λ r. Feeds c.args.ear.now c.args.piece.now r c.feed.new.self in
    let P : Effect → Type 0 = λ e. PlaysBytes g.P.DeskPort.step c.args.at c.args.ear.now c.args.core c.args.piece.now c.args.port.now c.feed.new.self e c.args.port.now in
    let f = failed_before c.args.ear.now c.args.piece.now c.in-Err.fault c.feed.new.self c.in-Failed.is (subst F c.in-Err.is c.feed.ensures) in
    subst P (sym c.quiet-in-Failed.ensures) (plays_nothing g.P.DeskPort.step c.args.at c.args.ear.now c.args.piece.now c.args.core c.args.port.now c.feed.new.self (hears_failed c.args.ear.now c.args.piece.now c.feed.new.self f.0 f.1))

pub unreachable-unreachable : goal.unreachable-unreachable
unreachable-unreachable g c =
    let F : Result (List Pdu) PduFault → Type 0 = λ r. Feeds c.args.ear.now c.args.piece.now r c.feed.new.self in
    more_never c.args.ear.now c.args.piece.now c.in-Err.fault c.feed.new.self c.in-More.is (subst F c.in-Err.is c.feed.ensures)

pub hear_one-requires-clause-fits : goal.hear_one-requires-clause-fits
hear_one-requires-clause-fits g c = fault_fits c.fault_input.result c.in-Err.fault c.fault_input.ensures

pub returns-in_default-clause-done : goal.returns-in_default-clause-done
returns-in_default-clause-done g c =
    let F : Result (List Pdu) PduFault → Type 0 = λ r. Feeds c.args.ear.now c.args.piece.now r c.feed.new.self in
    let r = refused c.args.ear.now c.args.piece.now c.in-Err.fault c.feed.new.self c.in_default.not-More c.in_default.not-Memory c.in_default.not-Failed (subst F c.in-Err.is c.feed.ensures) in
    let P : Input → Type 0 = λ i. IfOk c.hear_one.result (λ (e : Effect). Plays g.P.DeskPort.step c.args.core (at_moment c.args.at i ∷ []) c.args.port.now e.acts e.core c.hear_one.new.port) in
    if_ok c.hear_one.result (λ (e : Effect). Plays g.P.DeskPort.step c.args.core (at_moment c.args.at (input_of c.in-Err.fault) ∷ []) c.args.port.now e.acts e.core c.hear_one.new.port)
    (λ (e : Effect). PlaysBytes g.P.DeskPort.step c.args.at c.args.ear.now c.args.core c.args.piece.now c.args.port.now c.feed.new.self e c.hear_one.new.port)
    (λ (e : Effect) (h : Plays g.P.DeskPort.step c.args.core (at_moment c.args.at (input_of c.in-Err.fault) ∷ []) c.args.port.now e.acts e.core c.hear_one.new.port).
    plays_fault g.P.DeskPort.step c.args.at c.args.ear.now c.args.piece.now c.in-Err.fault c.args.core c.args.port.now c.hear_one.new.port c.feed.new.self e
    (hears_fault c.args.ear.now c.args.piece.now c.in-Err.fault c.feed.new.self r.is r.works r.shows r.after) h)
    (subst P c.fault_input.ensures c.hear_one.ensures.done)

pub returns-in_default-clause-broke : goal.returns-in_default-clause-broke
returns-in_default-clause-broke g c =
    let F : Result (List Pdu) PduFault → Type 0 = λ r. Feeds c.args.ear.now c.args.piece.now r c.feed.new.self in
    let r = refused c.args.ear.now c.args.piece.now c.in-Err.fault c.feed.new.self c.in_default.not-More c.in_default.not-Memory c.in_default.not-Failed (subst F c.in-Err.is c.feed.ensures) in
    let P : Input → Type 0 = λ i. OnErr c.hear_one.result (BreaksOff g.P.DeskPort.step [] c.args.core (at_moment c.args.at i ∷ []) c.args.port.now c.hear_one.new.port) in
    if_err c.hear_one.result _ _
    (λ (h : BreaksOff g.P.DeskPort.step [] c.args.core (at_moment c.args.at (input_of c.in-Err.fault) ∷ []) c.args.port.now c.hear_one.new.port).
    breaks_fault g.P.DeskPort.step c.args.at c.args.ear.now c.args.piece.now c.in-Err.fault c.args.core c.args.port.now c.hear_one.new.port r.works r.is r.shows h)
    (subst P c.fault_input.ensures c.hear_one.ensures.broke)
