use Rattle.std.proofs.Common.{◌≡◌, List, [], ◌∷◌, ◌++◌, map, refl, sym, ap, subst, ◌∙◌}
use Rattle.std.specs.List.{flat_map, AllByRecursion}
use Rattle.std.specs.Vec.Iter.{into_iter_items}
use Rattle.std.proofs.lemmas.List.{map-append}
use Rattle.dr_pdu.specs.declared.pdu.Pdu.{Pdu}
use Rattle.dr_session.specs.declared.ends.LinkAction.{LinkAction}
use Rattle.dr_session.specs.Fits.{PduFits}
use Rattle.dr_session.specs.Plays.{At, at_moment, inputs_of}
use Rattle.dr_session.proofs.InTurn.{toward_from, toward_more, toward_stop, toward_stop_behind, toward_done, on_err, no_items}
use Rattle.dr_session.proofs.hearing.hear_pdus.Goals as goal

pub loop-pdu-init : goal.loop-pdu-init
loop-pdu-init g c = (
  subst (λ (l : List Pdu). AllByRecursion PduFits l) (sym c.into_iter-pdu-iterator.ensures.into_iter_gives.0) c.requires.fits,
  toward_from g.P.DeskPort.step c.args.core _ _ c.args.port.now c.new-acts.result c.new-acts.ensures
      (ap (λ (l : List Pdu). map (at_moment c.args.at) (flat_map inputs_of l)) c.into_iter-pdu-iterator.ensures.into_iter_gives.0),
)

pub hear_pdu-requires-clause-fits : goal.hear_pdu-requires-clause-fits
hear_pdu-requires-clause-fits g c =
    let fits : AllByRecursion PduFits (c.in-Some.pdu ∷ into_iter_items c.next.new.self) = subst (λ (l : List Pdu). AllByRecursion PduFits l) c.in-Some.ensures.steps.0 c.loop-pdu.invariant.0 in
    fits.0

pub loop-pdu-preserved : goal.loop-pdu-preserved
loop-pdu-preserved g c =
    let fits : AllByRecursion PduFits (c.in-Some.pdu ∷ into_iter_items c.next.new.self) = subst (λ (l : List Pdu). AllByRecursion PduFits l) c.in-Some.ensures.steps.0 c.loop-pdu.invariant.0 in (
      fits.1,
      toward_more g.P.DeskPort.step c.args.core c.loop-pdu.core c.in_ok-effect.effect.core _ _ (map (at_moment c.args.at) (inputs_of c.in-Some.pdu)) _ c.args.port.now c.loop-pdu.port c.hear_pdu.new.port
          c.loop-pdu.acts c.in_ok-effect.effect.acts c.in_ok-joined.joined c.loop-pdu.invariant.1
          (ap (λ (l : List Pdu). map (at_moment c.args.at) (flat_map inputs_of l)) c.in-Some.ensures.steps.0 ∙ map-append (at_moment c.args.at) (inputs_of c.in-Some.pdu) (flat_map inputs_of (into_iter_items c.next.new.self)))
          c.in_ok-effect.ensures.done
          c.in_ok-joined.ensures.joined,
    )

pub returns-in_err-effect-clause-broke : goal.returns-in_err-effect-clause-broke
returns-in_err-effect-clause-broke g c = on_err _ _
    (toward_stop g.P.DeskPort.step c.args.core c.loop-pdu.core _ _ (map (at_moment c.args.at) (inputs_of c.in-Some.pdu)) _ c.args.port.now c.loop-pdu.port c.hear_pdu.new.port c.loop-pdu.acts c.loop-pdu.invariant.1
    (ap (λ (l : List Pdu). map (at_moment c.args.at) (flat_map inputs_of l)) c.in-Some.ensures.steps.0 ∙ map-append (at_moment c.args.at) (inputs_of c.in-Some.pdu) (flat_map inputs_of (into_iter_items c.next.new.self)))
    c.in_err-effect.ensures.broke)

pub returns-in_err-joined-clause-broke : goal.returns-in_err-joined-clause-broke
returns-in_err-joined-clause-broke g c = on_err _ _
    (toward_stop_behind g.P.DeskPort.step c.args.core c.loop-pdu.core c.in_ok-effect.effect.core _ _ (map (at_moment c.args.at) (inputs_of c.in-Some.pdu)) _ c.args.port.now c.loop-pdu.port c.hear_pdu.new.port
    c.loop-pdu.acts c.in_ok-effect.effect.acts c.loop-pdu.invariant.1
    (ap (λ (l : List Pdu). map (at_moment c.args.at) (flat_map inputs_of l)) c.in-Some.ensures.steps.0 ∙ map-append (at_moment c.args.at) (inputs_of c.in-Some.pdu) (flat_map inputs_of (into_iter_items c.next.new.self)))
    c.in_ok-effect.ensures.done
    c.in_err-joined.ensures.wants)

pub returns-clause-done : goal.returns-clause-done
returns-clause-done g c =
    toward_done g.P.DeskPort.step c.args.core c.loop-pdu.core _ _ c.args.port.now c.loop-pdu.port c.loop-pdu.acts _ c.loop-pdu.invariant.1
    (ap (λ (l : List Pdu). map (at_moment c.args.at) (flat_map inputs_of l)) (no_items _ _ c.loop-pdu.pdu-iterator.rest.ok.0 c.in-None.ensures.steps.0)) refl
