use Rattle.std.proofs.Common.{◌≡◌, List, [], ◌∷◌, map, sym, ap, subst, ◌∙◌}
use Rattle.std.specs.Prelude.{IfOk, OnErr}
use Rattle.dr_pdu.specs.declared.pdu.Pdu.{Pdu}
use Rattle.dr_pdu.specs.declared.pdu.Pdv.{Pdv}
use Rattle.dr_session.specs.declared.ends.Effect.{Effect}
use Rattle.dr_session.specs.declared.ends.Input.{Input}
use Rattle.dr_session.specs.declared.ends.Input.TheVariants.{Value, NoValue}
use Rattle.dr_session.specs.Plays.{Plays, BreaksOff, at_moment, inputs_of}
use Rattle.dr_session.proofs.InTurn.{values_none, values_some}
use Rattle.dr_session.proofs.hearing.hear_pdu.Goals as goal

pub returns-then-is_empty-clause-done : goal.returns-then-is_empty-clause-done
returns-then-is_empty-clause-done g c =
    let inputs : inputs_of c.args.pdu ≡ NoValue ∷ [] = ap (λ (p : Pdu). inputs_of p) c.in-Transfer.is ∙ values_none c.in-Transfer.pdvs (sym c.is_empty.ensures ∙ c.if-is_empty.true) in
    let P : List Input → Type 0 = λ is. IfOk c.hear_one-then-is_empty.result (λ (e : Effect). Plays g.P.DeskPort.step c.args.core (map (at_moment c.args.at) is) c.args.port.now e.acts e.core c.hear_one-then-is_empty.new.port) in
    subst P (sym inputs) c.hear_one-then-is_empty.ensures.done

pub returns-then-is_empty-clause-broke : goal.returns-then-is_empty-clause-broke
returns-then-is_empty-clause-broke g c =
    let inputs : inputs_of c.args.pdu ≡ NoValue ∷ [] = ap (λ (p : Pdu). inputs_of p) c.in-Transfer.is ∙ values_none c.in-Transfer.pdvs (sym c.is_empty.ensures ∙ c.if-is_empty.true) in
    let P : List Input → Type 0 = λ is. OnErr c.hear_one-then-is_empty.result (BreaksOff g.P.DeskPort.step [] c.args.core (map (at_moment c.args.at) is) c.args.port.now c.hear_one-then-is_empty.new.port) in
    subst P (sym inputs) c.hear_one-then-is_empty.ensures.broke

pub returns-else-is_empty-clause-done : goal.returns-else-is_empty-clause-done
returns-else-is_empty-clause-done g c =
    let inputs : inputs_of c.args.pdu ≡ map Value c.into_vec.result.items =
    ap (λ (p : Pdu). inputs_of p) c.in-Transfer.is ∙ (values_some c.in-Transfer.pdvs (sym c.is_empty.ensures ∙ c.if-is_empty.false) ∙ ap (λ (l : List Pdv). map Value l) (sym c.into_vec.ensures)) in
    let P : List Input → Type 0 = λ is. IfOk c.hear_values.result (λ (e : Effect). Plays g.P.DeskPort.step c.args.core (map (at_moment c.args.at) is) c.args.port.now e.acts e.core c.hear_values.new.port) in
    subst P (sym inputs) c.hear_values.ensures.done

pub returns-else-is_empty-clause-broke : goal.returns-else-is_empty-clause-broke
returns-else-is_empty-clause-broke g c =
    let inputs : inputs_of c.args.pdu ≡ map Value c.into_vec.result.items =
    ap (λ (p : Pdu). inputs_of p) c.in-Transfer.is ∙ (values_some c.in-Transfer.pdvs (sym c.is_empty.ensures ∙ c.if-is_empty.false) ∙ ap (λ (l : List Pdv). map Value l) (sym c.into_vec.ensures)) in
    let P : List Input → Type 0 = λ is. OnErr c.hear_values.result (BreaksOff g.P.DeskPort.step [] c.args.core (map (at_moment c.args.at) is) c.args.port.now c.hear_values.new.port) in
    subst P (sym inputs) c.hear_values.ensures.broke
