use Rattle.std.proofs.Common.{◌≡◌, ℕ, [], Option, Some, None, false, sym, subst, ap, ◌∙◌}
use Rattle.dr_base.specs.Texts.{Text}
use Rattle.dr_base.specs.Syntaxes.{syntax_uid}
use Rattle.dr_base.specs.declared.syntax.Syntax.TheVariants.{Implicit}
use Rattle.dr_dimse.specs.declared.command.Command.TheVariants.{EchoRq}
use Rattle.dr_nego.specs.declared.agreed.Agreed.{Agreed}
use Rattle.dr_nego.specs.Agreeing.{context_for}
use Rattle.dr_base.specs.Standard.{verification}
use Rattle.dr_session.specs.declared.ends.Core.{Core}
use Rattle.dr_session.specs.declared.ends.Effect.{Effect}
use Rattle.dr_session.specs.declared.ends.LinkAction.{LinkAction}
use Rattle.dr_session.specs.Ends.{echoes_by, echoes_in, echoing}
use Rattle.dr_session.specs.declared.ends.Requested.TheVariants.{Echo}
use Rattle.dr_session.specs.Messages.{command_pdus}
use Rattle.dr_session.specs.Reactions.{write, awaiting, id_after}
use Rattle.std.specs.Prelude.{IfOk}
use Rattle.dr_session.proofs.Effects.{acted, wants_some}
use Rattle.dr_session.proofs.InTurn.{on_err}
use Rattle.dr_session.proofs.echoing.ask_echo.Goals as goal

pub returns-in_default-clause-done : goal.returns-in_default-clause-done
returns-in_default-clause-done c =
    let P : Option Agreed → Type 0 = λ o. c.quiet.result ≡ echoes_by o c.args.now c.args.core in
    subst P (sym (ap (λ (x : Core). x.agreed) (sym c.as_core.ensures) ∙ c.in_default.is)) c.quiet.ensures

pub returns-in_default-echo_context-clause-done : goal.returns-in_default-echo_context-clause-done
returns-in_default-echo_context-clause-done c =
    let none : context_for c.in-Some.agreed verification (syntax_uid Implicit) ≡ None =
    sym c.echo_context.ensures ∙ c.in_default-echo_context.is in
    let P : Option Agreed → Type 0 = λ o. c.quiet-in_default-echo_context.result ≡ echoes_by o c.args.now c.args.core in
    let Q : Option ℕ → Type 0 = λ o. c.quiet-in_default-echo_context.result ≡ echoes_in o c.in-Some.agreed c.args.now c.args.core in
    subst P (sym (ap (λ (x : Core). x.agreed) (sym c.as_core.ensures) ∙ c.in-Some.is)) (subst Q (sym none) c.quiet-in_default-echo_context.ensures)

pub returns-in_err-action-clause-wants : goal.returns-in_err-action-clause-wants
returns-in_err-action-clause-wants c =
    let some : context_for c.in-Some.agreed verification (syntax_uid Implicit) ≡ Some c.in-Some-echo_context.context = sym c.echo_context.ensures ∙ c.in-Some-echo_context.is in
    on_err _ _ (wants_some c.args.core.agreed c.in-Some.agreed c.in-Some-echo_context.context c.args.now c.args.core (ap (λ (x : Core). x.agreed) (sym c.as_core.ensures) ∙ c.in-Some.is) some)

pub returns-clause-wants : goal.returns-clause-wants
returns-clause-wants c =
    let some : context_for c.in-Some.agreed verification (syntax_uid Implicit) ≡ Some c.in-Some-echo_context.context = sym c.echo_context.ensures ∙ c.in-Some-echo_context.is in
    on_err _ _ (wants_some c.args.core.agreed c.in-Some.agreed c.in-Some-echo_context.context c.args.now c.args.core (ap (λ (x : Core). x.agreed) (sym c.as_core.ensures) ∙ c.in-Some.is) some)

pub returns-clause-done : goal.returns-clause-done
returns-clause-done c =
    let some : context_for c.in-Some.agreed verification (syntax_uid Implicit) ≡ Some c.in-Some-echo_context.context =
    sym c.echo_context.ensures ∙ c.in-Some-echo_context.is in
    let id : c.next_id-id.result ≡ id_after c.args.core.last = c.next_id-id.ensures ∙ ap (λ (x : Core). id_after x.last) c.as_core-2.ensures in
    let act : LinkAction = write (command_pdus c.in-Some.agreed.limit c.in-Some-echo_context.context (EchoRq (id_after c.args.core.last) verification false)) in
    let said : c.in_ok-action.action ≡ act =
    c.in_ok-action.ensures ∙ ap (λ (i : ℕ). write (command_pdus c.in-Some.agreed.limit c.in-Some-echo_context.context (EchoRq i verification false))) id in
    let context : ℕ = c.in-Some-echo_context.context in
    let after : Core = awaiting (echoing (id_after c.args.core.last) context) c.args.now c.args.core in
    let core : c.await_response.result ≡ after =
    c.await_response.ensures ∙ (ap (λ (i : ℕ). awaiting (record { id = i; context = context; asked = Echo; uid = c.empty.result }) c.args.now c.args.core) id
    ∙ ap (λ (t : Text). awaiting (record { id = id_after c.args.core.last; context = context; asked = Echo; uid = t }) c.args.now c.args.core)
    c.empty.ensures) in
    let P : Option Agreed → Type 0 = λ o. IfOk c.act_once.result (λ (e : Effect). e ≡ echoes_by o c.args.now c.args.core) in
    let Q : Option ℕ → Type 0 = λ o. IfOk c.act_once.result (λ (e : Effect). e ≡ echoes_in o c.in-Some.agreed c.args.now c.args.core) in
    subst P (sym (ap (λ (x : Core). x.agreed) (sym c.as_core.ensures) ∙ c.in-Some.is)) (subst Q (sym some) (acted c.act_once.result c.in_ok-action.action act c.await_response.result after c.act_once.ensures said core))
