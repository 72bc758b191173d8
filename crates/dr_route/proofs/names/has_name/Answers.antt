use Rattle.std.proofs.Common.{◌↔◌, Bool, IsTrue, sym, subst}
use Rattle.dr_route.specs.Names.{HasName}
use Rattle.dr_route.proofs.NameSets.{members}
use Rattle.dr_route.proofs.names.has_name.Goals as goal

pub returns : goal.returns
returns c =
    let P : Bool → Type 0 = λ b. IsTrue b ↔ HasName c.args.names.now c.args.name.now in
    subst P (sym c.contains.ensures) (members c.args.names.now c.args.name.now)
