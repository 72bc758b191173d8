use Rattle.std.proofs.Common.{◌≡◌, ◌+◌, sym, subst, List, [], ◌∷◌, ◌++◌, take, arith}
use Rattle.std.proofs.lemmas.List.{take_more, take_all}
use Rattle.std.proofs.lemmas.Slice.Zip.{all_zipped_more}
use Rattle.dr_plan_model.specs.declared.plan.Flow.{Flow}
use Rattle.dr_plan_model.specs.declared.listed.Listed.{Listed}
use Rattle.dr_plan_model.specs.Listings.{IsListedBy, AreListedBy}
use Rattle.dr_plan_model.proofs.listed.all_listed.Goals as goal

pub loop-flow-preserved : goal.loop-flow-preserved
loop-flow-preserved c =
    let e = take_more c.args.flows.now c.loop-flow.flow-index c.flow-item.result c.loop-flow-test.true in
    let more : take (c.loop-flow.flow-index + 1) c.args.flows.now ≡ take c.loop-flow.flow-index c.args.flows.now ++ c.flow-item.result ∷ [] = rw (← c.flow-item.is) at e in
    let P : List Flow → Type 0 = λ fs. AreListedBy fs c.push.new.self.items in
    let Q : List Listed → Type 0 = λ ls. AreListedBy (take c.loop-flow.flow-index c.args.flows.now ++ c.flow-item.result ∷ []) ls in
    subst P (sym more) (subst Q (sym c.in_ok-push.ensures.items)
    (all_zipped_more IsListedBy (take c.loop-flow.flow-index c.args.flows.now) c.loop-flow.all.items c.flow-item.result _ c.loop-flow.invariant c.in_ok-listed_by.ensures))

pub returns-clause-listed : goal.returns-clause-listed
returns-clause-listed c =
    let all : take c.loop-flow.flow-index c.args.flows.now ≡ c.args.flows.now = take_all c.loop-flow.flow-index c.args.flows.now (omega arith) in
    let P : List Flow → Type 0 = λ fs. AreListedBy fs c.loop-flow.all.items in
    let Q : List Listed → Type 0 = λ ls. AreListedBy c.args.flows.now ls in
    subst Q (sym c.from_vec.ensures) (subst P all c.loop-flow.invariant)
