use Rattle.std.proofs.Common.{◌≡◌, ◌+◌, ◌<◌, inl, inr, refl, sym, subst, ◌∷◌, [], ◌++◌, length, get_or, take, arith}
use Rattle.std.proofs.lemmas.List.{take_more, take_all}
use Rattle.std.proofs.lemmas.Slice.Zip.{AllZip-long}
use Rattle.dr_route.specs.Names.{HasName}
use Rattle.dr_plan_model.specs.declared.plan.Flow.{Flow}
use Rattle.dr_plan_model.specs.declared.listed.Listed.{Listed}
use Rattle.dr_plan_model.specs.Listings.{IsListedBy}
use Rattle.dr_plan_model.proofs.Flowing.{flow_added, flow_known, flow_passed_over}
use Rattle.dr_plan_model.proofs.SetLemmas.{zipped_at}
use Rattle.dr_plan_model.proofs.entering.targets_by.Goals as goal
use Rattle.dr_plan_model.proofs.entering.targets_by.Goals.{then-brings_to_another+in_ok-add_names, else-brings_to_another}

pub bounds-all-place : goal.bounds-all-place
bounds-all-place c =
    let long : length c.args.all.now ≡ length c.args.flows.now = AllZip-long IsListedBy c.args.flows.now c.args.all.now c.requires in
    let below : c.loop-place.place < length c.args.flows.now = c.loop-place-test.true in
    omega (arith, long, below)

pub brings_to_another-requires : goal.brings_to_another-requires
brings_to_another-requires c =
    let F : Flow → Type 0 = λ f. IsListedBy f c.index-all-place.result in
    let L : Listed → Type 0 = λ l. IsListedBy (get_or c.args.flows.now c.loop-place.place c.index-flows-place.result) l in
    subst F (sym c.index-flows-place.is) (subst L (sym c.index-all-place.is)
    (zipped_at IsListedBy c.args.flows.now c.args.all.now c.loop-place.place c.index-flows-place.result c.index-all-place.result c.requires c.loop-place-test.true))

pub loop-place-preserved : goal.loop-place-preserved
loop-place-preserved c =
    let e = take_more c.args.flows.now c.loop-place.place c.index-flows-place.result c.loop-place-test.true in
    let more : take (c.loop-place.place + 1) c.args.flows.now ≡ take c.loop-place.place c.args.flows.now ++ c.index-flows-place.result ∷ [] =
    rw (← c.index-flows-place.is) at e in
    elim c.if-brings_to_another.branch [
      | then-brings_to_another+in_ok-add_names w ↦ λ name. rw (w.names-is, more)
          (flow_added (take c.loop-place.place c.args.flows.now) c.index-flows-place.result c.args.site.now c.args.key.now
          (HasName c.loop-place.names) (HasName w.add_names.new.names) (w.if-brings_to_another.ensures.another refl) c.loop-place.invariant
          (rw w.from_ref.ensures.value at w.in_ok-add_names.ensures) name)
      | else-brings_to_another w ↦ λ name. rw (w.names-is, more) (elim (w.if-brings_to_another.ensures.none refl) [
        | inl known ↦ flow_known (take c.loop-place.place c.args.flows.now) c.index-flows-place.result c.args.site.now c.args.key.now
            (HasName c.loop-place.names) known c.loop-place.invariant name
        | inr fails ↦ flow_passed_over (take c.loop-place.place c.args.flows.now) c.index-flows-place.result c.args.site.now c.args.key.now
            (HasName c.loop-place.names) fails c.loop-place.invariant name
      ])
    ]

pub returns-clause-to : goal.returns-clause-to
returns-clause-to c = λ name.
    let all : take c.loop-place.place c.args.flows.now ≡ c.args.flows.now = take_all _ _ (omega arith) in
    let so_far = rw all at (c.loop-place.invariant name) in
    let same = c.in_ok-to.ensures.same name in
    (λ h. so_far.0 (same.0 h), λ h. same.1 (so_far.1 h))
