-- What a ledger does by its site's routes is what its node does by the plan.
use Rattle.std.proofs.Common.{Bool, Result, Ok, Err, sym, ap, ◌∙◌, inl, inr}
use Rattle.dr_base.specs.Texts.{Text}
use Rattle.dr_plan_model.specs.Networks.{Network}
use Rattle.dr_ledger.specs.declared.item.Instance.{Instance}
use Rattle.dr_ledger.specs.declared.fault.LedgerFault.{LedgerFault}
use Rattle.dr_ledger.specs.declared.fault.LedgerFault.TheVariants as fault
use Rattle.dr_ledger.specs.Books.{Book}
use Rattle.dr_ledger.specs.PlanRoutes.{plan_routing}
use Rattle.dr_ledger.specs.Refusals.{Arms}
use Rattle.dr_ledger.specs.Replies.{IsAdmitted, IsWaiting}
use Rattle.dr_ledger.specs.Items.{instance_of}
use Rattle.dr_ledger.specs.Routings.{Routing, Agree}
use Rattle.dr_ledger.specs.SiteRoutes.{site_routing}
use Rattle.dr_ledger.proofs.Agreeing.{agree_in_arrivals}
use Rattle.dr_ledger.proofs.SiteAgreeing.{sites_agree}
use Rattle.dr_world_model.specs.Calls.{store_outcome_of}
use Rattle.dr_session.specs.Desks.{DeskCall, DeskAnswer, Arrive, Next, Due, Settle, Arrival, Upcoming, First, Settling}
use Rattle.dr_session.specs.Ledgers.{Desk, RoutedStep}
use Rattle.dr_world_tie.specs.Desks.{ArmedBy, LedgerStep, SiteStepsArePlanSteps}

pub armed_by : {A : Type 0} (W V : Type 0) (old new : Bool) (reply : Result A LedgerFault) → (W → V) → Arms W old reply new → ArmedBy V old (store_outcome_of reply) new
armed_by W V old new (Ok value) f h = (h.0, h.1 ∙ sym h.0)
armed_by W V old new (Err fault.Store) f (inl same) = inl same
armed_by W V old new (Err fault.Store) f (inr (would, was, now)) = inr (f would, was, now)
armed_by W V old new (Err fault.NoLine) f h = h
armed_by W V old new (Err fault.Conflict) f h = h
armed_by W V old new (Err fault.NotWaiting) f h = h
armed_by W V old new (Err fault.NotHeld) f h = h
armed_by W V old new (Err fault.NotOver) f h = h
armed_by W V old new (Err fault.Memory) f h = h

admitted : (site plan : Routing) → Agree site plan → (caller : Text) (item : Instance) (b : Book) → IsAdmitted site caller item b → IsAdmitted plan caller item b
admitted site plan agree caller item b h = record { line = (agree.lines caller item.key).0 h.line; same = h.same }

steps : (plan : Network) (name : Text) (site : Routing) → Agree site (plan_routing plan name) → (old new : Desk) (call : DeskCall) (answer : DeskAnswer) → RoutedStep site old call answer new → LedgerStep plan name old call answer new
steps plan name site agree old new (Arrive caller item) (Arrival reply) h = (
  agree_in_arrivals site (plan_routing plan name) agree caller (instance_of item) old.book new.book reply h.0,
  armed_by (IsAdmitted site caller (instance_of item) old.book) (IsAdmitted (plan_routing plan name) caller (instance_of item) old.book) old.armed new.armed reply (admitted site (plan_routing plan name) agree caller (instance_of item) old.book) h.1,
)
steps plan name site agree old new (Next dest now) (Upcoming due) h = (h.0, ap (λ (b : Book). let d : Desk = record { book = b; armed = new.armed } in d) h.1 ∙ ap (λ (a : Bool). let d : Desk = record { book = old.book; armed = a } in d) h.2)
steps plan name site agree old new (Due dest now) (First found) h = (h.0, ap (λ (b : Book). let d : Desk = record { book = b; armed = new.armed } in d) h.1 ∙ ap (λ (a : Bool). let d : Desk = record { book = old.book; armed = a } in d) h.2)
steps plan name site agree old new (Settle uid dest outcome now) (Settling answer) h =
    (h.0, armed_by (IsWaiting old.book uid dest) (IsWaiting old.book uid dest) old.armed new.armed answer (λ y. y) h.1)
steps plan name site agree old new (Arrive caller item) (Upcoming due) h = absurd h
steps plan name site agree old new (Arrive caller item) (First found) h = absurd h
steps plan name site agree old new (Arrive caller item) (Settling answer) h = absurd h
steps plan name site agree old new (Next dest now) (Arrival reply) h = absurd h
steps plan name site agree old new (Next dest now) (First found) h = absurd h
steps plan name site agree old new (Next dest now) (Settling answer) h = absurd h
steps plan name site agree old new (Due dest now) (Arrival reply) h = absurd h
steps plan name site agree old new (Due dest now) (Upcoming due) h = absurd h
steps plan name site agree old new (Due dest now) (Settling answer) h = absurd h
steps plan name site agree old new (Settle uid dest outcome now) (Arrival reply) h = absurd h
steps plan name site agree old new (Settle uid dest outcome now) (Upcoming due) h = absurd h
steps plan name site agree old new (Settle uid dest outcome now) (First found) h = absurd h

pub site_steps : SiteStepsArePlanSteps
site_steps plan certificate part certified is old new call answer h = steps plan part.name (site_routing part) (sites_agree plan certificate part certified is) old new call answer h
