use Rattle.std.proofs.Common.{◌≡◌, ℕ, Bool, true, false, List, [], ◌∷◌, Some, Ok, refl, sym, ap, ◌∙◌}
use Rattle.dr_ulstate.specs.declared.table.Action.{Action}
use Rattle.dr_ulstate.specs.declared.table.Action.TheVariants.{Ae1, Ae2, Ae3, Ae4, Ae5, Ae6, Ae7, Ae8, Dt1, Dt2, Ar1, Ar2, Ar3, Ar4, Ar5, Ar6, Ar7, Ar8, Ar9, Ar10, Aa1, Aa2, Aa3, Aa4, Aa5, Aa6, Aa7, Aa8}
use Rattle.dr_ulstate.specs.declared.table.Event.TheVariants.{ReleaseResponse}
use Rattle.dr_pdu.specs.declared.pdu.Pdu.TheVariants as pdu
use Rattle.dr_session.specs.declared.ends.Core.{Core}
use Rattle.dr_session.specs.declared.ends.LinkAction.{LinkAction}
use Rattle.dr_session.specs.declared.ends.LinkAction.TheVariants.{Close}
use Rattle.dr_session.specs.declared.ends.Moment.{Moment}
use Rattle.dr_session.specs.declared.ends.Told.{Told}
use Rattle.dr_session.specs.Reactions.{acts, quiet, hears, pushes, collides, leaves, effect, write, abort_pdu, aborted, released, stepped_by}
use Rattle.dr_session.specs.Turns.{Ends}
use Rattle.dr_session.proofs.Acting.{done_by, broke_by, done_at, done_as}
use Rattle.dr_session.proofs.Wanting.{broke_at, broke_where, writes_by}
use Rattle.dr_session.proofs.react.turning.act.Goals as goal

-- the action, as its arm has it
is_acted : (at : Moment) (told : Told) (core : Core) (a b : Action) → a ≡ b → acts a at told core ≡ acts b at told core
is_acted at told core a b same = ap (λ (x : Action). acts x at told core) same

pub returns-in-Ae3-clause-done : goal.returns-in-Ae3-clause-done
returns-in-Ae3-clause-done g c =
    done_by g.P.DeskPort.step (acts c.args.action c.args.at c.args.told c.args.core) (acts Ae3 c.args.at c.args.told c.args.core) c.act_acceptance.result c.args.port.now c.act_acceptance.new.port
    (is_acted c.args.at c.args.told c.args.core c.args.action Ae3 c.in-Ae3.is) c.act_acceptance.ensures.done

pub returns-in-Ae3-clause-broke : goal.returns-in-Ae3-clause-broke
returns-in-Ae3-clause-broke g c =
    broke_by g.P.DeskPort.step (acts c.args.action c.args.at c.args.told c.args.core) (acts Ae3 c.args.at c.args.told c.args.core) c.act_acceptance.result c.args.port.now c.act_acceptance.new.port
    (is_acted c.args.at c.args.told c.args.core c.args.action Ae3 c.in-Ae3.is) c.act_acceptance.ensures.broke

pub returns-in-Ae4-clause-done : goal.returns-in-Ae4-clause-done
returns-in-Ae4-clause-done g c =
    done_by g.P.DeskPort.step (acts c.args.action c.args.at c.args.told c.args.core) (acts Ae4 c.args.at c.args.told c.args.core) c.act_rejection.result c.args.port.now c.act_rejection.new.port
    (is_acted c.args.at c.args.told c.args.core c.args.action Ae4 c.in-Ae4.is) c.act_rejection.ensures.done

pub returns-in-Ae4-clause-broke : goal.returns-in-Ae4-clause-broke
returns-in-Ae4-clause-broke g c =
    broke_by g.P.DeskPort.step (acts c.args.action c.args.at c.args.told c.args.core) (acts Ae4 c.args.at c.args.told c.args.core) c.act_rejection.result c.args.port.now c.act_rejection.new.port
    (is_acted c.args.at c.args.told c.args.core c.args.action Ae4 c.in-Ae4.is) c.act_rejection.ensures.broke

pub returns-in-Ae6-clause-done : goal.returns-in-Ae6-clause-done
returns-in-Ae6-clause-done g c =
    done_by g.P.DeskPort.step (acts c.args.action c.args.at c.args.told c.args.core) (acts Ae6 c.args.at c.args.told c.args.core) c.act_request.result c.args.port.now c.act_request.new.port
    (is_acted c.args.at c.args.told c.args.core c.args.action Ae6 c.in-Ae6.is) c.act_request.ensures.done

pub returns-in-Ae6-clause-broke : goal.returns-in-Ae6-clause-broke
returns-in-Ae6-clause-broke g c =
    broke_by g.P.DeskPort.step (acts c.args.action c.args.at c.args.told c.args.core) (acts Ae6 c.args.at c.args.told c.args.core) c.act_request.result c.args.port.now c.act_request.new.port
    (is_acted c.args.at c.args.told c.args.core c.args.action Ae6 c.in-Ae6.is) c.act_request.ensures.broke

pub returns-in-Dt1-clause-done : goal.returns-in-Dt1-clause-done
returns-in-Dt1-clause-done g c =
    done_by g.P.DeskPort.step (acts c.args.action c.args.at c.args.told c.args.core) (pushes c.args.at c.args.core) c.push.result c.args.port.now c.push.new.port
    (is_acted c.args.at c.args.told c.args.core c.args.action Dt1 c.in-Dt1.is) c.push.ensures.done

pub returns-in-Dt1-clause-broke : goal.returns-in-Dt1-clause-broke
returns-in-Dt1-clause-broke g c =
    broke_by g.P.DeskPort.step (acts c.args.action c.args.at c.args.told c.args.core) (pushes c.args.at c.args.core) c.push.result c.args.port.now c.push.new.port
    (is_acted c.args.at c.args.told c.args.core c.args.action Dt1 c.in-Dt1.is) c.push.ensures.broke

pub returns-in-Dt2-clause-done : goal.returns-in-Dt2-clause-done
returns-in-Dt2-clause-done g c =
    done_by g.P.DeskPort.step (acts c.args.action c.args.at c.args.told c.args.core) (hears c.args.told c.args.at c.args.core) c.hear.result c.args.port.now c.hear.new.port
    (is_acted c.args.at c.args.told c.args.core c.args.action Dt2 c.in-Dt2.is) c.hear.ensures.done

pub returns-in-Dt2-clause-broke : goal.returns-in-Dt2-clause-broke
returns-in-Dt2-clause-broke g c =
    broke_by g.P.DeskPort.step (acts c.args.action c.args.at c.args.told c.args.core) (hears c.args.told c.args.at c.args.core) c.hear.result c.args.port.now c.hear.new.port
    (is_acted c.args.at c.args.told c.args.core c.args.action Dt2 c.in-Dt2.is) c.hear.ensures.broke

pub returns-in-Ar6-clause-done : goal.returns-in-Ar6-clause-done
returns-in-Ar6-clause-done g c =
    done_by g.P.DeskPort.step (acts c.args.action c.args.at c.args.told c.args.core) (hears c.args.told c.args.at c.args.core) c.hear-in-Ar6.result c.args.port.now c.hear-in-Ar6.new.port
    (is_acted c.args.at c.args.told c.args.core c.args.action Ar6 c.in-Ar6.is) c.hear-in-Ar6.ensures.done

pub returns-in-Ar6-clause-broke : goal.returns-in-Ar6-clause-broke
returns-in-Ar6-clause-broke g c =
    broke_by g.P.DeskPort.step (acts c.args.action c.args.at c.args.told c.args.core) (hears c.args.told c.args.at c.args.core) c.hear-in-Ar6.result c.args.port.now c.hear-in-Ar6.new.port
    (is_acted c.args.at c.args.told c.args.core c.args.action Ar6 c.in-Ar6.is) c.hear-in-Ar6.ensures.broke

pub returns-in-Ar2-clause-done : goal.returns-in-Ar2-clause-done
returns-in-Ar2-clause-done g c =
    done_by g.P.DeskPort.step (acts c.args.action c.args.at c.args.told c.args.core) (leaves c.args.at (write (pdu.ReleaseRp ∷ []) ∷ []) (released (stepped_by ReleaseResponse c.args.at.now c.args.core))) c.leave_released.result c.args.port.now c.leave_released.new.port
    (is_acted c.args.at c.args.told c.args.core c.args.action Ar2 c.in-Ar2.is) c.leave_released.ensures.done

pub returns-in-Ar2-clause-broke : goal.returns-in-Ar2-clause-broke
returns-in-Ar2-clause-broke g c =
    broke_by g.P.DeskPort.step (acts c.args.action c.args.at c.args.told c.args.core) (leaves c.args.at (write (pdu.ReleaseRp ∷ []) ∷ []) (released (stepped_by ReleaseResponse c.args.at.now c.args.core))) c.leave_released.result c.args.port.now c.leave_released.new.port
    (is_acted c.args.at c.args.told c.args.core c.args.action Ar2 c.in-Ar2.is) c.leave_released.ensures.broke

pub returns-in-Aa1-clause-done : goal.returns-in-Aa1-clause-done
returns-in-Aa1-clause-done g c =
    done_by g.P.DeskPort.step (acts c.args.action c.args.at c.args.told c.args.core) (leaves c.args.at (write (abort_pdu 0 0 ∷ []) ∷ []) (aborted c.args.core)) c.leave_aborting.result c.args.port.now c.leave_aborting.new.port
    (is_acted c.args.at c.args.told c.args.core c.args.action Aa1 c.in-Aa1.is) c.leave_aborting.ensures.done

pub returns-in-Aa1-clause-broke : goal.returns-in-Aa1-clause-broke
returns-in-Aa1-clause-broke g c =
    broke_by g.P.DeskPort.step (acts c.args.action c.args.at c.args.told c.args.core) (leaves c.args.at (write (abort_pdu 0 0 ∷ []) ∷ []) (aborted c.args.core)) c.leave_aborting.result c.args.port.now c.leave_aborting.new.port
    (is_acted c.args.at c.args.told c.args.core c.args.action Aa1 c.in-Aa1.is) c.leave_aborting.ensures.broke

pub returns-in-Aa2-clause-done : goal.returns-in-Aa2-clause-done
returns-in-Aa2-clause-done g c =
    done_by g.P.DeskPort.step (acts c.args.action c.args.at c.args.told c.args.core) (leaves c.args.at (Close ∷ []) c.note.result) c.leave_closing.result c.args.port.now c.leave_closing.new.port
    (is_acted c.args.at c.args.told c.args.core c.args.action Aa2 c.in-Aa2.is ∙ ap (λ (k : Core). leaves c.args.at (Close ∷ []) k) (sym c.note.ensures)) c.leave_closing.ensures.done

pub returns-in-Aa2-clause-broke : goal.returns-in-Aa2-clause-broke
returns-in-Aa2-clause-broke g c =
    broke_by g.P.DeskPort.step (acts c.args.action c.args.at c.args.told c.args.core) (leaves c.args.at (Close ∷ []) c.note.result) c.leave_closing.result c.args.port.now c.leave_closing.new.port
    (is_acted c.args.at c.args.told c.args.core c.args.action Aa2 c.in-Aa2.is ∙ ap (λ (k : Core). leaves c.args.at (Close ∷ []) k) (sym c.note.ensures)) c.leave_closing.ensures.broke

pub returns-in-Aa3-clause-done : goal.returns-in-Aa3-clause-done
returns-in-Aa3-clause-done g c =
    done_by g.P.DeskPort.step (acts c.args.action c.args.at c.args.told c.args.core) (leaves c.args.at (Close ∷ []) c.mark_aborted.result) c.leave_closing-in-Aa3.result c.args.port.now c.leave_closing-in-Aa3.new.port
    (is_acted c.args.at c.args.told c.args.core c.args.action Aa3 c.in-Aa3.is ∙ ap (λ (k : Core). leaves c.args.at (Close ∷ []) k) (sym c.mark_aborted.ensures)) c.leave_closing-in-Aa3.ensures.done

pub returns-in-Aa3-clause-broke : goal.returns-in-Aa3-clause-broke
returns-in-Aa3-clause-broke g c =
    broke_by g.P.DeskPort.step (acts c.args.action c.args.at c.args.told c.args.core) (leaves c.args.at (Close ∷ []) c.mark_aborted.result) c.leave_closing-in-Aa3.result c.args.port.now c.leave_closing-in-Aa3.new.port
    (is_acted c.args.at c.args.told c.args.core c.args.action Aa3 c.in-Aa3.is ∙ ap (λ (k : Core). leaves c.args.at (Close ∷ []) k) (sym c.mark_aborted.ensures)) c.leave_closing-in-Aa3.ensures.broke

pub returns-in-Aa4-clause-done : goal.returns-in-Aa4-clause-done
returns-in-Aa4-clause-done g c =
    done_by g.P.DeskPort.step (acts c.args.action c.args.at c.args.told c.args.core) (leaves c.args.at c.none.result c.args.core) c.leave.result c.args.port.now c.leave.new.port
    (is_acted c.args.at c.args.told c.args.core c.args.action Aa4 c.in-Aa4.is ∙ ap (λ (l : List LinkAction). leaves c.args.at l c.args.core) (sym c.none.ensures)) c.leave.ensures.done

pub returns-in-Aa4-clause-broke : goal.returns-in-Aa4-clause-broke
returns-in-Aa4-clause-broke g c =
    broke_by g.P.DeskPort.step (acts c.args.action c.args.at c.args.told c.args.core) (leaves c.args.at c.none.result c.args.core) c.leave.result c.args.port.now c.leave.new.port
    (is_acted c.args.at c.args.told c.args.core c.args.action Aa4 c.in-Aa4.is ∙ ap (λ (l : List LinkAction). leaves c.args.at l c.args.core) (sym c.none.ensures)) c.leave.ensures.broke

pub returns-in-Aa5-clause-done : goal.returns-in-Aa5-clause-done
returns-in-Aa5-clause-done g c =
    done_by g.P.DeskPort.step (acts c.args.action c.args.at c.args.told c.args.core) (leaves c.args.at c.none-in-Aa5.result c.args.core) c.leave-in-Aa5.result c.args.port.now c.leave-in-Aa5.new.port
    (is_acted c.args.at c.args.told c.args.core c.args.action Aa5 c.in-Aa5.is ∙ ap (λ (l : List LinkAction). leaves c.args.at l c.args.core) (sym c.none-in-Aa5.ensures)) c.leave-in-Aa5.ensures.done

pub returns-in-Aa5-clause-broke : goal.returns-in-Aa5-clause-broke
returns-in-Aa5-clause-broke g c =
    broke_by g.P.DeskPort.step (acts c.args.action c.args.at c.args.told c.args.core) (leaves c.args.at c.none-in-Aa5.result c.args.core) c.leave-in-Aa5.result c.args.port.now c.leave-in-Aa5.new.port
    (is_acted c.args.at c.args.told c.args.core c.args.action Aa5 c.in-Aa5.is ∙ ap (λ (l : List LinkAction). leaves c.args.at l c.args.core) (sym c.none-in-Aa5.ensures)) c.leave-in-Aa5.ensures.broke

pub returns-in-Aa8-clause-done : goal.returns-in-Aa8-clause-done
returns-in-Aa8-clause-done g c =
    done_by g.P.DeskPort.step (acts c.args.action c.args.at c.args.told c.args.core) (leaves c.args.at (write (abort_pdu 2 c.reason.result ∷ []) ∷ []) (aborted c.args.core)) c.leave_aborting-in-Aa8.result c.args.port.now c.leave_aborting-in-Aa8.new.port
    (is_acted c.args.at c.args.told c.args.core c.args.action Aa8 c.in-Aa8.is ∙ ap (λ (n : ℕ). leaves c.args.at (write (abort_pdu 2 n ∷ []) ∷ []) (aborted c.args.core)) (sym c.reason.ensures)) c.leave_aborting-in-Aa8.ensures.done

pub returns-in-Aa8-clause-broke : goal.returns-in-Aa8-clause-broke
returns-in-Aa8-clause-broke g c =
    broke_by g.P.DeskPort.step (acts c.args.action c.args.at c.args.told c.args.core) (leaves c.args.at (write (abort_pdu 2 c.reason.result ∷ []) ∷ []) (aborted c.args.core)) c.leave_aborting-in-Aa8.result c.args.port.now c.leave_aborting-in-Aa8.new.port
    (is_acted c.args.at c.args.told c.args.core c.args.action Aa8 c.in-Aa8.is ∙ ap (λ (n : ℕ). leaves c.args.at (write (abort_pdu 2 n ∷ []) ∷ []) (aborted c.args.core)) (sym c.reason.ensures)) c.leave_aborting-in-Aa8.ensures.broke

pub returns-in-Ar1-clause-done : goal.returns-in-Ar1-clause-done
returns-in-Ar1-clause-done g c =
    done_at g.P.DeskPort.step (acts c.args.action c.args.at c.args.told c.args.core) (effect (write (pdu.ReleaseRq ∷ []) ∷ []) (record c.args.core { awaits = Some c.args.at.now })) c.ask_release.result c.args.port.now
    (is_acted c.args.at c.args.told c.args.core c.args.action Ar1 c.in-Ar1.is) c.ask_release.ensures

pub returns-in-Ar1-clause-broke : goal.returns-in-Ar1-clause-broke
returns-in-Ar1-clause-broke g c =
    broke_at g.P.DeskPort.step (acts c.args.action c.args.at c.args.told c.args.core) c.ask_release.result c.args.port.now
    (writes_by (acts c.args.action c.args.at c.args.told c.args.core) (acts Ar1 c.args.at c.args.told c.args.core) (is_acted c.args.at c.args.told c.args.core c.args.action Ar1 c.in-Ar1.is) tt)

pub returns-in-Ar3-clause-done : goal.returns-in-Ar3-clause-done
returns-in-Ar3-clause-done g c =
    done_at g.P.DeskPort.step (acts c.args.action c.args.at c.args.told c.args.core) (effect (Close ∷ []) c.mark_released.result) c.close.result c.args.port.now
    (is_acted c.args.at c.args.told c.args.core c.args.action Ar3 c.in-Ar3.is ∙ ap (λ (k : Core). Ends (effect (Close ∷ []) k)) (sym c.mark_released.ensures)) c.close.ensures

pub returns-in-Ar3-clause-broke : goal.returns-in-Ar3-clause-broke
returns-in-Ar3-clause-broke g c =
    broke_at g.P.DeskPort.step (acts c.args.action c.args.at c.args.told c.args.core) c.close.result c.args.port.now
    (writes_by (acts c.args.action c.args.at c.args.told c.args.core) (acts Ar3 c.args.at c.args.told c.args.core) (is_acted c.args.at c.args.told c.args.core c.args.action Ar3 c.in-Ar3.is) tt)

pub returns-in-Ar10-clause-done : goal.returns-in-Ar10-clause-done
returns-in-Ar10-clause-done g c =
    done_at g.P.DeskPort.step (acts c.args.action c.args.at c.args.told c.args.core) (effect (write (pdu.ReleaseRp ∷ []) ∷ []) (released (stepped_by ReleaseResponse c.args.at.now c.args.core))) c.answer_release.result c.args.port.now
    (is_acted c.args.at c.args.told c.args.core c.args.action Ar10 c.in-Ar10.is) c.answer_release.ensures

pub returns-in-Ar10-clause-broke : goal.returns-in-Ar10-clause-broke
returns-in-Ar10-clause-broke g c =
    broke_at g.P.DeskPort.step (acts c.args.action c.args.at c.args.told c.args.core) c.answer_release.result c.args.port.now
    (writes_by (acts c.args.action c.args.at c.args.told c.args.core) (acts Ar10 c.args.at c.args.told c.args.core) (is_acted c.args.at c.args.told c.args.core c.args.action Ar10 c.in-Ar10.is) tt)

pub returns-in-Aa7-clause-done : goal.returns-in-Aa7-clause-done
returns-in-Aa7-clause-done g c =
    done_at g.P.DeskPort.step (acts c.args.action c.args.at c.args.told c.args.core) (effect (write (abort_pdu 2 0 ∷ []) ∷ []) (aborted c.args.core)) c.abort_closing.result c.args.port.now
    (is_acted c.args.at c.args.told c.args.core c.args.action Aa7 c.in-Aa7.is) c.abort_closing.ensures

pub returns-in-Aa7-clause-broke : goal.returns-in-Aa7-clause-broke
returns-in-Aa7-clause-broke g c =
    broke_at g.P.DeskPort.step (acts c.args.action c.args.at c.args.told c.args.core) c.abort_closing.result c.args.port.now
    (writes_by (acts c.args.action c.args.at c.args.told c.args.core) (acts Aa7 c.args.at c.args.told c.args.core) (is_acted c.args.at c.args.told c.args.core c.args.action Aa7 c.in-Aa7.is) tt)

pub returns-in-Ar8-clause-done : goal.returns-in-Ar8-clause-done
returns-in-Ar8-clause-done g c =
    done_as g.P.DeskPort.step (acts c.args.action c.args.at c.args.told c.args.core) (collides c.args.at.now c.args.core) c.act_collision.result c.args.port.now
    (is_acted c.args.at c.args.told c.args.core c.args.action Ar8 c.in-Ar8.is) c.act_collision.ensures.done

pub returns-in-Ar8-clause-broke : goal.returns-in-Ar8-clause-broke
returns-in-Ar8-clause-broke g c =
    broke_where g.P.DeskPort.step (acts c.args.action c.args.at c.args.told c.args.core) (collides c.args.at.now c.args.core) c.act_collision.result c.args.port.now
    (is_acted c.args.at c.args.told c.args.core c.args.action Ar8 c.in-Ar8.is) c.act_collision.ensures.wants

-- the actions that do nothing here
abbrev does : Action → Bool
does Ae1 = false
does Ae2 = false
does Ae5 = false
does Ae7 = false
does Ae8 = false
does Ar4 = false
does Ar5 = false
does Ar7 = false
does Ar9 = false
does Aa6 = false
does a = true

rests : (at : Moment) (told : Told) (core : Core) (a : Action) → does a ≡ false → acts a at told core ≡ quiet core
rests at told core Ae1 h = refl
rests at told core Ae2 h = refl
rests at told core Ae3 h = absurd (let k : true ≡ false = h in cc)
rests at told core Ae4 h = absurd (let k : true ≡ false = h in cc)
rests at told core Ae5 h = refl
rests at told core Ae6 h = absurd (let k : true ≡ false = h in cc)
rests at told core Ae7 h = refl
rests at told core Ae8 h = refl
rests at told core Dt1 h = absurd (let k : true ≡ false = h in cc)
rests at told core Dt2 h = absurd (let k : true ≡ false = h in cc)
rests at told core Ar1 h = absurd (let k : true ≡ false = h in cc)
rests at told core Ar2 h = absurd (let k : true ≡ false = h in cc)
rests at told core Ar3 h = absurd (let k : true ≡ false = h in cc)
rests at told core Ar4 h = refl
rests at told core Ar5 h = refl
rests at told core Ar6 h = absurd (let k : true ≡ false = h in cc)
rests at told core Ar7 h = refl
rests at told core Ar8 h = absurd (let k : true ≡ false = h in cc)
rests at told core Ar9 h = refl
rests at told core Ar10 h = absurd (let k : true ≡ false = h in cc)
rests at told core Aa1 h = absurd (let k : true ≡ false = h in cc)
rests at told core Aa2 h = absurd (let k : true ≡ false = h in cc)
rests at told core Aa3 h = absurd (let k : true ≡ false = h in cc)
rests at told core Aa4 h = absurd (let k : true ≡ false = h in cc)
rests at told core Aa5 h = absurd (let k : true ≡ false = h in cc)
rests at told core Aa6 h = refl
rests at told core Aa7 h = absurd (let k : true ≡ false = h in cc)
rests at told core Aa8 h = absurd (let k : true ≡ false = h in cc)

other : (a : Action) → (a ≡ Ae3 → ⊥) → (a ≡ Ae4 → ⊥) → (a ≡ Ae6 → ⊥) → (a ≡ Dt1 → ⊥) → (a ≡ Dt2 → ⊥) → (a ≡ Ar6 → ⊥) → (a ≡ Ar1 → ⊥) → (a ≡ Ar2 → ⊥) → (a ≡ Ar3 → ⊥) → (a ≡ Ar8 → ⊥) → (a ≡ Ar10 → ⊥) → (a ≡ Aa1 → ⊥) → (a ≡ Aa2 → ⊥) → (a ≡ Aa3 → ⊥) → (a ≡ Aa4 → ⊥) → (a ≡ Aa5 → ⊥) → (a ≡ Aa7 → ⊥) → (a ≡ Aa8 → ⊥) → does a ≡ false
other Ae1 n0 n1 n2 n3 n4 n5 n6 n7 n8 n9 n10 n11 n12 n13 n14 n15 n16 n17 = refl
other Ae2 n0 n1 n2 n3 n4 n5 n6 n7 n8 n9 n10 n11 n12 n13 n14 n15 n16 n17 = refl
other Ae3 n0 n1 n2 n3 n4 n5 n6 n7 n8 n9 n10 n11 n12 n13 n14 n15 n16 n17 = absurd (n0 refl)
other Ae4 n0 n1 n2 n3 n4 n5 n6 n7 n8 n9 n10 n11 n12 n13 n14 n15 n16 n17 = absurd (n1 refl)
other Ae5 n0 n1 n2 n3 n4 n5 n6 n7 n8 n9 n10 n11 n12 n13 n14 n15 n16 n17 = refl
other Ae6 n0 n1 n2 n3 n4 n5 n6 n7 n8 n9 n10 n11 n12 n13 n14 n15 n16 n17 = absurd (n2 refl)
other Ae7 n0 n1 n2 n3 n4 n5 n6 n7 n8 n9 n10 n11 n12 n13 n14 n15 n16 n17 = refl
other Ae8 n0 n1 n2 n3 n4 n5 n6 n7 n8 n9 n10 n11 n12 n13 n14 n15 n16 n17 = refl
other Dt1 n0 n1 n2 n3 n4 n5 n6 n7 n8 n9 n10 n11 n12 n13 n14 n15 n16 n17 = absurd (n3 refl)
other Dt2 n0 n1 n2 n3 n4 n5 n6 n7 n8 n9 n10 n11 n12 n13 n14 n15 n16 n17 = absurd (n4 refl)
other Ar1 n0 n1 n2 n3 n4 n5 n6 n7 n8 n9 n10 n11 n12 n13 n14 n15 n16 n17 = absurd (n6 refl)
other Ar2 n0 n1 n2 n3 n4 n5 n6 n7 n8 n9 n10 n11 n12 n13 n14 n15 n16 n17 = absurd (n7 refl)
other Ar3 n0 n1 n2 n3 n4 n5 n6 n7 n8 n9 n10 n11 n12 n13 n14 n15 n16 n17 = absurd (n8 refl)
other Ar4 n0 n1 n2 n3 n4 n5 n6 n7 n8 n9 n10 n11 n12 n13 n14 n15 n16 n17 = refl
other Ar5 n0 n1 n2 n3 n4 n5 n6 n7 n8 n9 n10 n11 n12 n13 n14 n15 n16 n17 = refl
other Ar6 n0 n1 n2 n3 n4 n5 n6 n7 n8 n9 n10 n11 n12 n13 n14 n15 n16 n17 = absurd (n5 refl)
other Ar7 n0 n1 n2 n3 n4 n5 n6 n7 n8 n9 n10 n11 n12 n13 n14 n15 n16 n17 = refl
other Ar8 n0 n1 n2 n3 n4 n5 n6 n7 n8 n9 n10 n11 n12 n13 n14 n15 n16 n17 = absurd (n9 refl)
other Ar9 n0 n1 n2 n3 n4 n5 n6 n7 n8 n9 n10 n11 n12 n13 n14 n15 n16 n17 = refl
other Ar10 n0 n1 n2 n3 n4 n5 n6 n7 n8 n9 n10 n11 n12 n13 n14 n15 n16 n17 = absurd (n10 refl)
other Aa1 n0 n1 n2 n3 n4 n5 n6 n7 n8 n9 n10 n11 n12 n13 n14 n15 n16 n17 = absurd (n11 refl)
other Aa2 n0 n1 n2 n3 n4 n5 n6 n7 n8 n9 n10 n11 n12 n13 n14 n15 n16 n17 = absurd (n12 refl)
other Aa3 n0 n1 n2 n3 n4 n5 n6 n7 n8 n9 n10 n11 n12 n13 n14 n15 n16 n17 = absurd (n13 refl)
other Aa4 n0 n1 n2 n3 n4 n5 n6 n7 n8 n9 n10 n11 n12 n13 n14 n15 n16 n17 = absurd (n14 refl)
other Aa5 n0 n1 n2 n3 n4 n5 n6 n7 n8 n9 n10 n11 n12 n13 n14 n15 n16 n17 = absurd (n15 refl)
other Aa6 n0 n1 n2 n3 n4 n5 n6 n7 n8 n9 n10 n11 n12 n13 n14 n15 n16 n17 = refl
other Aa7 n0 n1 n2 n3 n4 n5 n6 n7 n8 n9 n10 n11 n12 n13 n14 n15 n16 n17 = absurd (n16 refl)
other Aa8 n0 n1 n2 n3 n4 n5 n6 n7 n8 n9 n10 n11 n12 n13 n14 n15 n16 n17 = absurd (n17 refl)

pub returns-in_default : goal.returns-in_default
returns-in_default g c = record {
  done = done_at g.P.DeskPort.step (acts c.args.action c.args.at c.args.told c.args.core) (effect [] c.args.core) (Ok c.quiet.result) c.args.port.now
      (rests c.args.at c.args.told c.args.core c.args.action (other c.args.action c.in_default.not-Ae3 c.in_default.not-Ae4 c.in_default.not-Ae6 c.in_default.not-Dt1 c.in_default.not-Dt2 c.in_default.not-Ar6 c.in_default.not-Ar1 c.in_default.not-Ar2 c.in_default.not-Ar3 c.in_default.not-Ar8 c.in_default.not-Ar10 c.in_default.not-Aa1 c.in_default.not-Aa2 c.in_default.not-Aa3 c.in_default.not-Aa4 c.in_default.not-Aa5 c.in_default.not-Aa7 c.in_default.not-Aa8)) c.quiet.ensures;
  broke = tt;
}
