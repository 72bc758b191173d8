use Rattle.std.specs.BTreeMap as tree
use Rattle.dr_base.specs.Texts.{text_cmp}
use Rattle.dr_world.specs.declared.steps.StepNote.TheVariants.{Skipped}
use Rattle.dr_world.specs.Whole.{StaysAwayFrom}
use Rattle.dr_world.proofs.Calling.{called, uncalled, there}
use Rattle.dr_world.proofs.Stepping.{stayed_away, timely_away}
use Rattle.dr_world.proofs.world.World.away.Goals as goal

pub returns-in_default-clause-calls : goal.returns-in_default-clause-calls
returns-in_default-clause-calls g c =
    let old = c.args.self.now in
    uncalled (StaysAwayFrom c.args.to.now old.time.passed) old c.get_mut.follows.lender-at-none c.args.from.now c.in_default.ensures.value c.get_mut.follows.holds-at-none

pub returns-in_default-clause-step : goal.returns-in_default-clause-step
returns-in_default-clause-step g c =
    let old = c.args.self.now in
    let nodes = c.get_mut.follows.lender-at-none in
    stayed_away old (record { alloc = old.alloc; time = old.time; opened = old.opened; nodes = nodes; wires = old.wires; lost = old.lost }) Skipped c.args.from.now c.args.to.now
    (uncalled (StaysAwayFrom c.args.to.now old.time.passed) old nodes c.args.from.now c.in_default.ensures.value c.get_mut.follows.holds-at-none)

pub returns-clause-calls : goal.returns-clause-calls
returns-clause-calls g c =
    let old = c.args.self.now in
    let name = c.args.from.now in
    let to = c.args.to.now in
    let new = c.stay_away.new.self in
    let node = c.in-Some.node.now in
    let at = c.in-Some.ensures.value in
    let has = there (tree.get text_cmp old.nodes name) node at in
    let nodes = c.get_mut.follows.lender new in
    let did = c.stay_away.ensures in
    let note = c.note_of_away.result in
    (timely_away old (record { alloc = old.alloc; time = old.time; opened = old.opened; nodes = nodes; wires = old.wires; lost = old.lost }) note name to c.moment-now.result c.moment-now.ensures.same
    (called (StaysAwayFrom to c.moment-now.result) old nodes name node new note at
    ((c.get_mut.follows.holds new).3 has).0 did.rest.links did.rest.of did.premise.stood
    (λ s. (c.stay_away.result, did.reply s, c.note_of_away.ensures))))

pub returns-clause-step : goal.returns-clause-step
returns-clause-step g c =
    let old = c.args.self.now in
    let name = c.args.from.now in
    let to = c.args.to.now in
    let new = c.stay_away.new.self in
    let node = c.in-Some.node.now in
    let at = c.in-Some.ensures.value in
    let has = there (tree.get text_cmp old.nodes name) node at in
    let nodes = c.get_mut.follows.lender new in
    let did = c.stay_away.ensures in
    let note = c.note_of_away.result in
    stayed_away old (record { alloc = old.alloc; time = old.time; opened = old.opened; nodes = nodes; wires = old.wires; lost = old.lost }) note name to
    (timely_away old (record { alloc = old.alloc; time = old.time; opened = old.opened; nodes = nodes; wires = old.wires; lost = old.lost }) note name to c.moment-now.result c.moment-now.ensures.same
    (called (StaysAwayFrom to c.moment-now.result) old nodes name node new note at
    ((c.get_mut.follows.holds new).3 has).0 did.rest.links did.rest.of did.premise.stood
    (λ s. (c.stay_away.result, did.reply s, c.note_of_away.ensures))))
