use Rattle.std.proofs.Common.{◌≡◌, ◌+◌, inl, inr, refl, ◌∷◌, [], ◌++◌, take, arith}
use Rattle.std.proofs.lemmas.List.{take_more, take_all}
use Rattle.dr_route.specs.Names.{HasName}
use Rattle.dr_plan_model.proofs.Flowing.{flow_added, flow_known, flow_passed_over}
use Rattle.dr_plan_model.proofs.sending.flow_targets.Goals as goal
use Rattle.dr_plan_model.proofs.sending.flow_targets.Goals.{then-names_another+in_ok-add_names, else-names_another}

pub loop-flow-preserved : goal.loop-flow-preserved
loop-flow-preserved c =
    let e = take_more c.args.flows.now c.loop-flow.flow-index c.flow-item.result c.loop-flow-test.true in
    let more : take (c.loop-flow.flow-index + 1) c.args.flows.now ≡ take c.loop-flow.flow-index c.args.flows.now ++ c.flow-item.result ∷ [] =
    rw (← c.flow-item.is) at e in
    elim c.if-names_another.branch [
      | then-names_another+in_ok-add_names w ↦ λ name. rw (w.names-is, more)
          (flow_added (take c.loop-flow.flow-index c.args.flows.now) c.flow-item.result c.args.site.now c.args.key.now
          (HasName c.loop-flow.names) (HasName w.add_names.new.names) (w.if-names_another.ensures.another refl) c.loop-flow.invariant
          (rw w.from_ref.ensures.value at w.in_ok-add_names.ensures) name)
      | else-names_another w ↦ λ name. rw (w.names-is, more) (elim (w.if-names_another.ensures.none refl) [
        | inl known ↦ flow_known (take c.loop-flow.flow-index c.args.flows.now) c.flow-item.result c.args.site.now c.args.key.now
            (HasName c.loop-flow.names) known c.loop-flow.invariant name
        | inr fails ↦ flow_passed_over (take c.loop-flow.flow-index c.args.flows.now) c.flow-item.result c.args.site.now c.args.key.now
            (HasName c.loop-flow.names) fails c.loop-flow.invariant name
      ])
    ]

pub returns-clause-to : goal.returns-clause-to
returns-clause-to c = λ name.
    let all : take c.loop-flow.flow-index c.args.flows.now ≡ c.args.flows.now = take_all _ _ (omega arith) in
    let so_far = rw all at (c.loop-flow.invariant name) in
    let same = c.in_ok-to.ensures.same name in
    (λ h. so_far.0 (same.0 h), λ h. same.1 (so_far.1 h))
