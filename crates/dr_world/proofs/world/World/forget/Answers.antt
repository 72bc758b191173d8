use Rattle.std.proofs.Common.{sym, ◌∙◌}
use Rattle.dr_world.proofs.Stepping.{forgot, stays}
use Rattle.dr_world.proofs.world.World.forget.Goals as goal

pub returns-then-is_under_way : goal.returns-then-is_under_way
returns-then-is_under_way g c =
    let some = sym c.is_under_way.ensures ∙ c.if-is_under_way.true in
    stays c.args.self.now c.args.name.now c.args.uid.now some

pub returns : goal.returns
returns g c =
    let none = sym c.is_under_way.ensures ∙ c.if-is_under_way.false in
    let new = c.let_go_of.new.self in
    let note = c.let_go_of.result in
    forgot c.args.self.now new note c.args.name.now c.args.uid.now none c.let_go_of.ensures
