use Rattle.std.proofs.Common.{sym, ap}
use Rattle.std.specs.BTreeMap as tree
use Rattle.dr_base.specs.Texts.{text_cmp}
use Rattle.dr_world_tie.specs.ByteWorlds.{note_of}
use Rattle.dr_world.specs.declared.steps.StepNote.TheVariants.{Done, Refused}
use Rattle.dr_world.specs.Whole.{LetsGoOf}
use Rattle.dr_world.proofs.Calling.{called, uncalled, there}
use Rattle.dr_world.proofs.world.World.let_go_of.Goals as goal

pub returns-in_default : goal.returns-in_default
returns-in_default g c =
    let nodes = c.get_mut.follows.lender-at-none in
    let none = c.in_default.ensures.value in
    let same = c.get_mut.follows.holds-at-none in
    uncalled (LetsGoOf c.args.uid.now) c.args.self.now nodes c.args.name.now none same

pub returns-in-Ok : goal.returns-in-Ok
returns-in-Ok g c =
    let old = c.args.self.now in
    let name = c.args.name.now in
    let new = c.forget.new.self in
    let node = c.in-Some.node.now in
    let at = c.in-Some.ensures.value in
    let has = there (tree.get text_cmp old.nodes name) node at in
    let nodes = c.get_mut.follows.lender new in
    let did = c.forget.ensures in
    called (LetsGoOf c.args.uid.now) old nodes name node new Done at
    ((c.get_mut.follows.holds new).3 has).0 did.rest.links did.rest.of did.premise.stood
    (λ s. (c.forget.result, did.reply s, did.armed s, sym (ap note_of c.in-Ok.is)))

pub returns-in-Err : goal.returns-in-Err
returns-in-Err g c =
    let old = c.args.self.now in
    let name = c.args.name.now in
    let new = c.forget.new.self in
    let node = c.in-Some.node.now in
    let at = c.in-Some.ensures.value in
    let has = there (tree.get text_cmp old.nodes name) node at in
    let nodes = c.get_mut.follows.lender new in
    let did = c.forget.ensures in
    called (LetsGoOf c.args.uid.now) old nodes name node new (Refused c.in-Err.fault) at
    ((c.get_mut.follows.holds new).3 has).0 did.rest.links did.rest.of did.premise.stood
    (λ s. (c.forget.result, did.reply s, did.armed s, sym (ap note_of c.in-Err.is)))
