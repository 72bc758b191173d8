use Rattle.std.proofs.Common.{◌≡◌, List, [], ◌∷◌, ◌++◌, map, refl, sym, ap, ◌∙◌}
use Rattle.std.specs.Vec.Iter.{into_iter_items}
use Rattle.dr_pdu.specs.declared.pdu.Pdv.{Pdv}
use Rattle.dr_session.specs.declared.ends.Input.TheVariants.{Value}
use Rattle.dr_session.specs.declared.ends.LinkAction.{LinkAction}
use Rattle.dr_session.specs.Plays.{At, at_moment}
use Rattle.dr_session.proofs.InTurn.{plays_one, breaks_one, toward_from, toward_more, toward_stop, toward_stop_behind, toward_done, on_err, no_items}
use Rattle.dr_session.proofs.hearing.hear_values.Goals as goal

pub loop-pdv-init : goal.loop-pdv-init
loop-pdv-init g c =
    toward_from g.P.DeskPort.step c.args.core _ _ c.args.port.now c.new-acts.result c.new-acts.ensures
    (ap (λ (l : List Pdv). map (at_moment c.args.at) (map Value l)) c.into_iter-pdv-iterator.ensures.into_iter_gives.0)

pub loop-pdv-preserved : goal.loop-pdv-preserved
loop-pdv-preserved g c =
    toward_more g.P.DeskPort.step c.args.core c.loop-pdv.core c.in_ok-effect.effect.core _ _ (at_moment c.args.at (Value c.in-Some.pdv) ∷ []) _ c.args.port.now c.loop-pdv.port c.react.new.port
    c.loop-pdv.acts c.in_ok-effect.effect.acts c.in_ok-joined.joined c.loop-pdv.invariant
    (ap (λ (l : List Pdv). map (at_moment c.args.at) (map Value l)) c.in-Some.ensures.steps.0)
    (plays_one g.P.DeskPort.step c.loop-pdv.core (at_moment c.args.at (Value c.in-Some.pdv)) c.loop-pdv.port c.react.new.port c.in_ok-effect.effect c.in_ok-effect.ensures.done)
    c.in_ok-joined.ensures.joined

pub returns-in_err-effect-clause-broke : goal.returns-in_err-effect-clause-broke
returns-in_err-effect-clause-broke g c = on_err _ _
    (toward_stop g.P.DeskPort.step c.args.core c.loop-pdv.core _ _ (at_moment c.args.at (Value c.in-Some.pdv) ∷ []) _ c.args.port.now c.loop-pdv.port c.react.new.port c.loop-pdv.acts c.loop-pdv.invariant
    (ap (λ (l : List Pdv). map (at_moment c.args.at) (map Value l)) c.in-Some.ensures.steps.0)
    (breaks_one g.P.DeskPort.step [] c.loop-pdv.core (at_moment c.args.at (Value c.in-Some.pdv)) c.loop-pdv.port c.react.new.port c.in_err-effect.ensures.broke))

pub returns-in_err-joined-clause-broke : goal.returns-in_err-joined-clause-broke
returns-in_err-joined-clause-broke g c = on_err _ _
    (toward_stop_behind g.P.DeskPort.step c.args.core c.loop-pdv.core c.in_ok-effect.effect.core _ _ (at_moment c.args.at (Value c.in-Some.pdv) ∷ []) _ c.args.port.now c.loop-pdv.port c.react.new.port
    c.loop-pdv.acts c.in_ok-effect.effect.acts c.loop-pdv.invariant
    (ap (λ (l : List Pdv). map (at_moment c.args.at) (map Value l)) c.in-Some.ensures.steps.0)
    (plays_one g.P.DeskPort.step c.loop-pdv.core (at_moment c.args.at (Value c.in-Some.pdv)) c.loop-pdv.port c.react.new.port c.in_ok-effect.effect c.in_ok-effect.ensures.done)
    c.in_err-joined.ensures.wants)

pub returns-clause-done : goal.returns-clause-done
returns-clause-done g c =
    toward_done g.P.DeskPort.step c.args.core c.loop-pdv.core _ _ c.args.port.now c.loop-pdv.port c.loop-pdv.acts _ c.loop-pdv.invariant
    (ap (λ (l : List Pdv). map (at_moment c.args.at) (map Value l)) (no_items _ _ c.loop-pdv.pdv-iterator.rest.ok.0 c.in-None.ensures.steps.0)) refl
