use Rattle.std.proofs.Common.{◌≡◌, inl, inr, sym, subst, List, [], ◌∷◌, Contains, take, arith}
use Rattle.std.specs.Prelude.{All}
use Rattle.std.proofs.lemmas.List.{take_all}
use Rattle.std.proofs.lemmas.List.Elements.{All-contains, All-weaker}
use Rattle.dr_base.specs.Texts.{Text}
use Rattle.dr_route.specs.Names.{HasName}
use Rattle.dr_plan_model.specs.declared.plan.Flow.{Flow}
use Rattle.dr_plan_model.proofs.Gathered.{Contains-here}
use Rattle.dr_cert_diff.proofs.Gathering.{one_more_so}
use Rattle.dr_cert_diff.proofs.entries.add_sites.Goals as goal

pub loop-flow-preserved : goal.loop-flow-preserved
loop-flow-preserved c =
    let flow = c.flow-item.result in
    let i = c.loop-flow.flow-index in
    let flows = c.args.flows.now in
    let mid = c.loop-flow.names in
    let now = c.add_names.new.names in
    let one : c.from_ref.result.now ≡ flow.at ∷ [] = c.from_ref.ensures.value in
    let added = c.in_ok-add_names.ensures in
    record {
      kept = λ name h. (added name).1 (inl (c.loop-flow.invariant.kept name h));
      all = one_more_so (λ (f : Flow). HasName now f.at) flows i flow c.loop-flow-test.true c.flow-item.is
          (All-weaker (λ (f : Flow). HasName mid f.at) (λ (f : Flow). HasName now f.at) (λ f h. (added f.at).1 (inl h)) (take i flows) c.loop-flow.invariant.all)
          ((added flow.at).1 (inr (subst (λ (xs : List Text). Contains xs flow.at) (sym one) (Contains-here flow.at []))));
    }

pub returns-clause-all : goal.returns-clause-all
returns-clause-all c = λ flow among.
    let all : take c.loop-flow.flow-index c.args.flows.now ≡ c.args.flows.now = take_all _ _ (omega arith) in
    All-contains (λ (f : Flow). HasName c.loop-flow.names f.at) c.args.flows.now flow (subst (λ (xs : List Flow). All (λ (f : Flow). HasName c.loop-flow.names f.at) xs) all c.loop-flow.invariant.all) among
