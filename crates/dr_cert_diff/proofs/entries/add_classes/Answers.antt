use Rattle.std.proofs.Common.{◌≡◌, subst, List, Contains, take, arith}
use Rattle.std.specs.Prelude.{All}
use Rattle.std.proofs.lemmas.List.{take_all}
use Rattle.std.proofs.lemmas.List.Elements.{All-contains, All-weaker}
use Rattle.dr_base.specs.Texts.{Text}
use Rattle.dr_route.specs.Names.{HasName}
use Rattle.dr_plan_model.specs.declared.plan.Flow.{Flow}
use Rattle.dr_cert_diff.proofs.Gathering.{one_more_so}
use Rattle.dr_cert_diff.proofs.entries.add_classes.Goals as goal

pub loop-flow-preserved : goal.loop-flow-preserved
loop-flow-preserved c =
    let site = c.args.site.now in
    let flow = c.flow-item.result in
    let i = c.loop-flow.flow-index in
    let flows = c.args.flows.now in
    let now = c.add_classes_of.new.names in
    let step = c.in_ok-add_classes_of.ensures in
    record {
      kept = λ name h. step.kept name (c.loop-flow.invariant.kept name h);
      all = one_more_so (λ (f : Flow). f.at ≡ site → (t : Text) → Contains f.classes t → HasName now t) flows i flow c.loop-flow-test.true c.flow-item.is
          (All-weaker (λ (f : Flow). f.at ≡ site → (t : Text) → Contains f.classes t → HasName c.loop-flow.names t) (λ (f : Flow). f.at ≡ site → (t : Text) → Contains f.classes t → HasName now t) (λ f h at t among. step.kept t (h at t among)) (take i flows) c.loop-flow.invariant.all)
          step.all;
    }

pub returns-clause-kept : goal.returns-clause-kept
returns-clause-kept c = c.loop-flow.invariant.kept

pub returns-clause-all : goal.returns-clause-all
returns-clause-all c = λ flow among.
    let all : take c.loop-flow.flow-index c.args.flows.now ≡ c.args.flows.now = take_all _ _ (omega arith) in
    let P : Flow → Type 0 = λ f. f.at ≡ c.args.site.now → (t : Text) → Contains f.classes t → HasName c.loop-flow.names t in
    All-contains P c.args.flows.now flow (subst (λ (xs : List Flow). All P xs) all c.loop-flow.invariant.all) among
