use Rattle.std.proofs.Common.{refl, subst}
use Rattle.dr_base.specs.Texts.{Text}
use Rattle.dr_route.specs.Names.{AddsName}
use Rattle.dr_route.proofs.NameSets.{adds, has_already}
use Rattle.dr_route.proofs.names.add_name.Goals as goal

pub returns-then-has_name : goal.returns-then-has_name
returns-then-has_name c = has_already c.args.names.now c.args.name.now (c.if-has_name.ensures.0 refl)

pub returns : goal.returns
returns c =
    let A : Text → Type 0 = λ k. AddsName c.args.names.now c.insert.new.self k in
    subst A c.in_ok-clone.ensures (adds c.args.names.now c.insert.new.self c.in_ok-clone.field-0 c.in_ok-insert.ensures.updates)
