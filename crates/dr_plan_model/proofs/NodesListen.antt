-- Where the nodes of a plan listen.
use Rattle.std.proofs.Common.{◌≡◌, refl, subst, None}
use Rattle.std.proofs.lemmas.List.Elements.{All-contains}
use Rattle.dr_base.specs.Texts.{Text}
use Rattle.dr_plan_model.specs.Formed.{IsWellFormedNode}
use Rattle.dr_plan_model.specs.Laws.{NowhereAcceptsNothing, EarlierBindToTheirAddress}
use Rattle.dr_plan_model.specs.Listening.{ListensFits, MayAccept}
use Rattle.dr_plan_model.specs.declared.listens.Listens.{Listens}
use Rattle.dr_plan_model.specs.declared.listens.Listens.TheVariants.{Nowhere, At}
use Rattle.dr_plan_model.specs.declared.plan.Format.{Format}
use Rattle.dr_plan_model.specs.declared.plan.Format.TheVariants.{One, Two, Three}
use Rattle.dr_plan_model.specs.declared.plan.Node.{Node}

pub nowhere_accepts : NowhereAcceptsNothing
nowhere_accepts plan formed node among nowhere =
    let is : IsWellFormedNode plan.nodes node = All-contains (IsWellFormedNode plan.nodes) plan.nodes node formed.each_node among in
    subst (λ (place : Listens). MayAccept place node.accepts) nowhere is.may_accept

bound_there : (format : Format) (place : Listens) → (format ≡ Three → ⊥) → ListensFits format place → (address : Text) × (place ≡ At address None)
bound_there One Nowhere other fits = absurd fits
bound_there One (At address bind) other fits = (address, λ i. At address (fits i))
bound_there Two Nowhere other fits = absurd fits
bound_there Two (At address bind) other fits = (address, λ i. At address (fits i))
bound_there Three place other fits = absurd (other refl)

pub earlier_bind : EarlierBindToTheirAddress
earlier_bind plan formed other node among =
    bound_there plan.format node.listens other (All-contains (λ (n : Node). ListensFits plan.format n.listens) plan.nodes node formed.listen among)
