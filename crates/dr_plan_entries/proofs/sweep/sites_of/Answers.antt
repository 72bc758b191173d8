use Rattle.std.proofs.Common.{◌≡◌, ◌+◌, inl, inr, sym, subst, List, [], ◌∷◌, ◌++◌, take, Contains, arith}
use Rattle.std.proofs.lemmas.List.{take_more, take_all}
use Rattle.std.proofs.lemmas.List.Elements.{Contains-push_cases}
use Rattle.dr_base.specs.Texts.{Text}
use Rattle.dr_plan_model.specs.declared.plan.Flow.{Flow}
use Rattle.dr_plan_model.proofs.Gathered.{Contains-here}
use Rattle.dr_plan_entries.proofs.sweep.sites_of.Goals as goal

pub loop-flow-preserved : goal.loop-flow-preserved
loop-flow-preserved c = λ flow among.
    let e = take_more c.args.flows.now c.loop-flow.flow-index c.flow-item.result c.loop-flow-test.true in
    let more : take (c.loop-flow.flow-index + 1) c.args.flows.now ≡ take c.loop-flow.flow-index c.args.flows.now ++ c.flow-item.result ∷ [] = rw (← c.flow-item.is) at e in
    let A : List Flow → Type 0 = λ fs. Contains fs flow in
    let R : List Text → Type 0 = λ ts. Contains ts flow.at in
    elim (Contains-push_cases (take c.loop-flow.flow-index c.args.flows.now) c.flow-item.result flow (subst A more among)) [
      | inl before ↦ (c.in_ok-add_names.ensures flow.at).1 (inl (c.loop-flow.invariant flow before))
      | inr same ↦
          let Q : Flow → Type 0 = λ f. Contains (c.flow-item.result.at ∷ []) f.at in
          (c.in_ok-add_names.ensures flow.at).1 (inr (subst R (sym c.from_ref.ensures.value) (subst Q same (Contains-here c.flow-item.result.at []))))
    ]

pub returns-clause-whole : goal.returns-clause-whole
returns-clause-whole c = λ flow among.
    let all : take c.loop-flow.flow-index c.args.flows.now ≡ c.args.flows.now = take_all c.loop-flow.flow-index c.args.flows.now (omega arith) in
    let A : List Flow → Type 0 = λ fs. Contains fs flow in
    (c.in_ok-sites.ensures.same flow.at).1 (c.loop-flow.invariant flow (subst A (sym all) among))
