use Rattle.std.proofs.Common.{◌↔◌, Bool, List, Contains, IsTrue, sym, subst}
use Rattle.std.specs.Prelude.{not}
use Rattle.dr_base.specs.Texts.{Text}
use Rattle.dr_plan_model.specs.declared.plan.Flow.{Flow}
use Rattle.dr_plan_model.specs.Walks.{Flows, FlowsAmong, IsEntry}
use Rattle.dr_cert_trace.proofs.Entering.{is_entry}
use Rattle.dr_cert_trace.proofs.tracing.enters.Goals as goal

pub returns : goal.returns
returns c =
    let plan = c.args.plan.now in
    let site = c.args.site.now in
    let key = c.args.key.now in
    let among : (name : Text) → Contains c.in_ok-to.to name ↔ Flows plan site key name =
    subst (λ (flows : List Flow). (name : Text) → Contains c.in_ok-to.to name ↔ FlowsAmong flows site key name) c.flows.ensures.same c.in_ok-to.ensures.to in
    subst (λ (b : Bool). IsTrue (not b) ↔ IsEntry plan site key) (sym c.is_empty.ensures) (is_entry (Flows plan site key) c.in_ok-to.to among)
