use Rattle.std.proofs.Common.{◌≡◌, ◌+◌, inl, inr, refl, ◌∙◌, ap, subst, ◌∷◌, [], ◌++◌, take, arith, false, true}
use Rattle.std.proofs.lemmas.Bool.{false≢true}
use Rattle.std.proofs.lemmas.Bool.Decides.{Decides-eqb}
use Rattle.std.proofs.lemmas.Slice.Eq.{slice_eq-Decides}
use Rattle.std.proofs.lemmas.List.{take_more, take_all}
use Rattle.std.proofs.lemmas.List.Elements.{Contains-push_cases, Contains-get_or}
use Rattle.dr_plan_model.specs.declared.plan.Node.{Node}
use Rattle.dr_plan_model.specs.Networks.{Network}
use Rattle.dr_plan_model.specs.Plans.{IsWellFormed, IsNode}
use Rattle.dr_plan_model.proofs.WalksAlike.{one_node}
use Rattle.dr_plan_model.proofs.plan.Plan.node.Goals as goal

pub loop-node-preserved : goal.loop-node-preserved
loop-node-preserved c = λ node among named.
    let e = take_more c.as_slice-node-items.result.now c.loop-node.node-index c.node-item.result c.loop-node-test.true in
    let more : take (c.loop-node.node-index + 1) c.as_slice-node-items.result.now ≡ take c.loop-node.node-index c.as_slice-node-items.result.now ++ c.node-item.result ∷ [] =
    rw (← c.node-item.is) at e in
    elim (Contains-push_cases (take c.loop-node.node-index c.as_slice-node-items.result.now) c.node-item.result node (rw more at among)) [
      | inl before ↦ c.loop-node.invariant node before named
      | inr same ↦
          let other : c.node-item.result.name ≡ c.args.name.now = ap (λ (n : Node). n.name) same ∙ named in
          false≢true ((slice_eq-Decides Decides-eqb c.node-item.result.name c.args.name.now false c.if-eq.ensures).1 other)
    ]

pub returns-then-eq : goal.returns-then-eq
returns-then-eq c =
    let P : Network → Type 0 = λ n. IsWellFormed n in
    let formed : IsWellFormed c.args.self.now = subst P c.self.view_is c.self.invariant.0 in
    let nodes : c.as_slice-node-items.result.now ≡ c.args.self.now.nodes = c.as_slice-node-items.ensures ∙ ap (λ (n : Network). n.nodes) c.self.view_is in
    let here = Contains-get_or c.as_slice-node-items.result.now c.loop-node.node-index c.node-item.result c.loop-node-test.true in
    let named : c.node-item.result.name ≡ c.args.name.now = (slice_eq-Decides Decides-eqb c.node-item.result.name c.args.name.now true c.if-eq.ensures).0 refl in
    let is : IsNode c.args.self.now c.args.name.now c.node-item.result = (rw (← c.node-item.is, nodes) at here, named) in
    (is, λ other also. one_node c.args.self.now formed c.args.name.now other c.node-item.result also is)

pub returns : goal.returns
returns c = λ node is.
    let nodes : c.as_slice-node-items.result.now ≡ c.args.self.now.nodes = c.as_slice-node-items.ensures ∙ ap (λ (n : Network). n.nodes) c.self.view_is in
    let all : take c.loop-node.node-index c.as_slice-node-items.result.now ≡ c.as_slice-node-items.result.now = take_all _ _ (omega arith) in
    c.loop-node.invariant node (rw (all, nodes) is.0) is.1
