-- Hops of a sound plan lead to nodes that listen.
use Rattle.std.proofs.Common.{◌≡◌, refl, subst, List, Some}
use Rattle.dr_base.specs.Texts.{Text}
use Rattle.dr_route.specs.Routes.{AcceptsBy}
use Rattle.dr_route.specs.declared.accept.AcceptRow.{AcceptRow}
use Rattle.dr_plan_model.specs.Listening.{address_of}
use Rattle.dr_plan_model.specs.declared.listens.Listens.{Listens}
use Rattle.dr_plan_model.specs.declared.listens.Listens.TheVariants.{Nowhere, At}
use Rattle.dr_plan_model.specs.declared.plan.Node.{Node}
use Rattle.dr_plan_model.proofs.NodesListen.{nowhere_accepts}
use Rattle.dr_plan_model.proofs.WalksAlike.{one_node}
use Rattle.dr_plan_sound.specs.Laws.{HopsLeadToAddresses}

-- what doesn't listen nowhere has an address
has_address : (place : Listens) → (place ≡ Nowhere → ⊥) → (address : Text) × (address_of place ≡ Some address)
has_address Nowhere listens = absurd (listens refl)
has_address (At address bind) listens = (address, refl)

pub lead_to_addresses : HopsLeadToAddresses
lead_to_addresses plan formed sound key from to goes node is =
    let there = sound.accepted key from to goes in
    let same : there.0 ≡ node = one_node plan formed to there.0 node there.1 is in
    let By : List AcceptRow → Type 0 = λ rows. AcceptsBy rows from key.class key.syntax in
    let taken : By node.accepts = subst (λ (n : Node). By n.accepts) same there.2 in
    has_address node.listens (λ nowhere. subst By (nowhere_accepts plan formed node is.0 nowhere) taken)
