use Rattle.std.proofs.Common.{sym, ap}
use Rattle.std.specs.BTreeMap as tree
use Rattle.dr_base.specs.Texts.{text_cmp}
use Rattle.dr_world_tie.specs.ByteWorlds.{note_of}
use Rattle.dr_world.specs.declared.steps.StepNote.TheVariants.{Done, Refused, Skipped}
use Rattle.dr_world.specs.Whole.{GivesUp}
use Rattle.dr_world.proofs.Calling.{called, uncalled, there}
use Rattle.dr_world.proofs.Stepping.{given_up, timely}
use Rattle.dr_world.proofs.world.World.give_up.Goals as goal

pub returns-in_default-clause-calls : goal.returns-in_default-clause-calls
returns-in_default-clause-calls g c =
    let old = c.args.self.now in
    uncalled (GivesUp c.args.uid.now c.args.dest.now old.time.passed) old c.get_mut.follows.lender-at-none c.args.name.now c.in_default.ensures.value c.get_mut.follows.holds-at-none

pub returns-in_default-clause-step : goal.returns-in_default-clause-step
returns-in_default-clause-step g c =
    let old = c.args.self.now in
    let nodes = c.get_mut.follows.lender-at-none in
    given_up old (record { alloc = old.alloc; time = old.time; opened = old.opened; nodes = nodes; wires = old.wires; lost = old.lost }) Skipped c.args.name.now c.args.uid.now c.args.dest.now
    (uncalled (GivesUp c.args.uid.now c.args.dest.now old.time.passed) old nodes c.args.name.now c.in_default.ensures.value c.get_mut.follows.holds-at-none)

pub returns-in-Ok-clause-calls : goal.returns-in-Ok-clause-calls
returns-in-Ok-clause-calls g c =
    let old = c.args.self.now in
    let name = c.args.name.now in
    let new = c.give_up.new.self in
    let node = c.in-Some.node.now in
    let at = c.in-Some.ensures.value in
    let has = there (tree.get text_cmp old.nodes name) node at in
    let nodes = c.get_mut.follows.lender new in
    let did = c.give_up.ensures in
    timely old (record { alloc = old.alloc; time = old.time; opened = old.opened; nodes = nodes; wires = old.wires; lost = old.lost }) Done name c.args.uid.now c.args.dest.now c.moment-now.result c.moment-now.ensures.same
    (called (GivesUp c.args.uid.now c.args.dest.now c.moment-now.result) old nodes name node new Done at
    ((c.get_mut.follows.holds new).3 has).0 did.rest.links did.rest.of did.premise.stood
    (λ s. (c.give_up.result, did.reply s, did.armed s, sym (ap note_of c.in-Ok.is))))

pub returns-in-Ok-clause-step : goal.returns-in-Ok-clause-step
returns-in-Ok-clause-step g c =
    let old = c.args.self.now in
    let name = c.args.name.now in
    let new = c.give_up.new.self in
    let node = c.in-Some.node.now in
    let at = c.in-Some.ensures.value in
    let has = there (tree.get text_cmp old.nodes name) node at in
    let nodes = c.get_mut.follows.lender new in
    let did = c.give_up.ensures in
    given_up old (record { alloc = old.alloc; time = old.time; opened = old.opened; nodes = nodes; wires = old.wires; lost = old.lost }) Done name c.args.uid.now c.args.dest.now
    (timely old (record { alloc = old.alloc; time = old.time; opened = old.opened; nodes = nodes; wires = old.wires; lost = old.lost }) Done name c.args.uid.now c.args.dest.now c.moment-now.result c.moment-now.ensures.same
    (called (GivesUp c.args.uid.now c.args.dest.now c.moment-now.result) old nodes name node new Done at
    ((c.get_mut.follows.holds new).3 has).0 did.rest.links did.rest.of did.premise.stood
    (λ s. (c.give_up.result, did.reply s, did.armed s, sym (ap note_of c.in-Ok.is)))))

pub returns-in-Err-clause-calls : goal.returns-in-Err-clause-calls
returns-in-Err-clause-calls g c =
    let old = c.args.self.now in
    let name = c.args.name.now in
    let new = c.give_up.new.self in
    let node = c.in-Some.node.now in
    let at = c.in-Some.ensures.value in
    let has = there (tree.get text_cmp old.nodes name) node at in
    let nodes = c.get_mut.follows.lender new in
    let did = c.give_up.ensures in
    timely old (record { alloc = old.alloc; time = old.time; opened = old.opened; nodes = nodes; wires = old.wires; lost = old.lost }) (Refused c.in-Err.fault) name c.args.uid.now c.args.dest.now c.moment-now.result c.moment-now.ensures.same
    (called (GivesUp c.args.uid.now c.args.dest.now c.moment-now.result) old nodes name node new (Refused c.in-Err.fault) at
    ((c.get_mut.follows.holds new).3 has).0 did.rest.links did.rest.of did.premise.stood
    (λ s. (c.give_up.result, did.reply s, did.armed s, sym (ap note_of c.in-Err.is))))

pub returns-in-Err-clause-step : goal.returns-in-Err-clause-step
returns-in-Err-clause-step g c =
    let old = c.args.self.now in
    let name = c.args.name.now in
    let new = c.give_up.new.self in
    let node = c.in-Some.node.now in
    let at = c.in-Some.ensures.value in
    let has = there (tree.get text_cmp old.nodes name) node at in
    let nodes = c.get_mut.follows.lender new in
    let did = c.give_up.ensures in
    given_up old (record { alloc = old.alloc; time = old.time; opened = old.opened; nodes = nodes; wires = old.wires; lost = old.lost }) (Refused c.in-Err.fault) name c.args.uid.now c.args.dest.now
    (timely old (record { alloc = old.alloc; time = old.time; opened = old.opened; nodes = nodes; wires = old.wires; lost = old.lost }) (Refused c.in-Err.fault) name c.args.uid.now c.args.dest.now c.moment-now.result c.moment-now.ensures.same
    (called (GivesUp c.args.uid.now c.args.dest.now c.moment-now.result) old nodes name node new (Refused c.in-Err.fault) at
    ((c.get_mut.follows.holds new).3 has).0 did.rest.links did.rest.of did.premise.stood
    (λ s. (c.give_up.result, did.reply s, did.armed s, sym (ap note_of c.in-Err.is)))))
