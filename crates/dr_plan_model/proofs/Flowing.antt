-- The targets of flows, one flow after another.
use Rattle.std.proofs.Common.{◌≡◌, ◌⊎◌, inl, inr, ◌∙◌, ap, subst, List, ◌∷◌, [], ◌++◌, Contains}
use Rattle.std.specs.Prelude.{◌↔◌}
use Rattle.std.proofs.lemmas.List.Elements.{Contains-push, Contains-push_cases, Contains-append_left}
use Rattle.dr_base.specs.Texts.{Text}
use Rattle.dr_route.specs.declared.key.Key.{Key}
use Rattle.dr_plan_model.specs.declared.plan.Flow.{Flow}
use Rattle.dr_plan_model.specs.Walks.{FlowsAmong, FlowBrings}
use Rattle.dr_plan_model.proofs.Gathered.{only_one}

later : (flows : List Flow) (flow : Flow) (site : Text) (key : Key) (name : Text) → FlowsAmong flows site key name → FlowsAmong (flows ++ flow ∷ []) site key name
later flows flow site key name f = (f.0, Contains-append_left flows (flow ∷ []) f.0 f.1, f.2, f.3, f.4)

-- a flow that enters names its node
pub flow_added : (flows : List Flow) (flow : Flow) (site : Text) (key : Key) (s n : Text → Type 0) → (flow.at ≡ site) × FlowBrings flow key →
    ((name : Text) → s name ↔ FlowsAmong flows site key name) → ((name : Text) → n name ↔ (s name ⊎ Contains (flow.to ∷ []) name)) →
    (name : Text) → n name ↔ FlowsAmong (flows ++ flow ∷ []) site key name
flow_added flows flow site key s n enters so_far added name = (
  λ had. elim ((added name).0 had) [
    | inl before ↦ later flows flow site key name ((so_far name).0 before)
    | inr here ↦ (flow, Contains-push flows flow, enters.0, only_one flow.to name here, enters.1)
  ],
  λ f. elim (Contains-push_cases flows flow f.0 f.1) [
    | inl before ↦ (added name).1 (inl ((so_far name).1 (f.0, before, f.2, f.3, f.4)))
    | inr same ↦ (added name).1 (inr (rw (ap (λ (x : Flow). x.to) same ∙ f.3) (Contains-push [] name)))
  ],
)

-- a flow that doesn't enter names none
pub flow_passed_over : (flows : List Flow) (flow : Flow) (site : Text) (key : Key) (s : Text → Type 0) → ((flow.at ≡ site) × FlowBrings flow key → ⊥) →
    ((name : Text) → s name ↔ FlowsAmong flows site key name) → (name : Text) → s name ↔ FlowsAmong (flows ++ flow ∷ []) site key name
flow_passed_over flows flow site key s fails so_far name = (
  λ had. later flows flow site key name ((so_far name).0 had),
  λ f. elim (Contains-push_cases flows flow f.0 f.1) [
    | inl before ↦ (so_far name).1 (f.0, before, f.2, f.3, f.4)
    | inr same ↦ absurd (fails (rw same (f.2, f.4)))
  ],
)

-- a flow to a node that is named already names no other
pub flow_known : (flows : List Flow) (flow : Flow) (site : Text) (key : Key) (s : Text → Type 0) → s flow.to →
    ((name : Text) → s name ↔ FlowsAmong flows site key name) → (name : Text) → s name ↔ FlowsAmong (flows ++ flow ∷ []) site key name
flow_known flows flow site key s known so_far name = (
  λ had. later flows flow site key name ((so_far name).0 had),
  λ f. elim (Contains-push_cases flows flow f.0 f.1) [
    | inl before ↦ (so_far name).1 (f.0, before, f.2, f.3, f.4)
    | inr same ↦ subst s (ap (λ (x : Flow). x.to) same ∙ f.3) known
  ],
)
