use Rattle.std.proofs.Common.{◌≡◌, refl, sym, ◌∙◌, true}
use Rattle.dr_session.specs.Desks.{Arrival}
use Rattle.dr_session.specs.Reactions.{is_named}
use Rattle.dr_session.proofs.react.acceptor.bring.Goals as goal

pub returns-then-names-clause-done : goal.returns-then-names-clause-done
returns-then-names-clause-done g c =
    let named : is_named c.args.item c.args.class c.args.instance ≡ true = sym c.names.ensures ∙ c.if-names.true in
    rw named (Arrival c.arrive-reply.result, c.arrive-reply.new.self, rw c.peer.ensures at c.arrive-reply.ensures, (rw (← c.status-status.ensures) c.in_ok-done.ensures, refl))
