use Rattle.std.proofs.Common.{sym, ap}
use Rattle.std.specs.BTreeMap as tree
use Rattle.dr_base.specs.Texts.{text_cmp}
use Rattle.dr_world_tie.specs.ByteWorlds.{note_of}
use Rattle.dr_world.specs.declared.steps.StepNote.TheVariants.{Done, Refused, Skipped}
use Rattle.dr_world.specs.Whole.{Puts}
use Rattle.dr_world.proofs.Calling.{called, uncalled, there}
use Rattle.dr_world.proofs.Stepping.{requeued}
use Rattle.dr_world.proofs.world.World.requeue.Goals as goal

pub returns-in_default-clause-calls : goal.returns-in_default-clause-calls
returns-in_default-clause-calls g c = uncalled (Puts c.args.uid.now c.args.dest.now) c.args.self.now c.get_mut.follows.lender-at-none c.args.name.now c.in_default.ensures.value c.get_mut.follows.holds-at-none

pub returns-in_default-clause-step : goal.returns-in_default-clause-step
returns-in_default-clause-step g c =
    requeued c.args.self.now (record { alloc = c.args.self.now.alloc; time = c.args.self.now.time; opened = c.args.self.now.opened; nodes = c.get_mut.follows.lender-at-none; wires = c.args.self.now.wires; lost = c.args.self.now.lost }) Skipped c.args.name.now c.args.uid.now c.args.dest.now (uncalled (Puts c.args.uid.now c.args.dest.now) c.args.self.now c.get_mut.follows.lender-at-none c.args.name.now c.in_default.ensures.value c.get_mut.follows.holds-at-none)

pub returns-in-Ok-clause-calls : goal.returns-in-Ok-clause-calls
returns-in-Ok-clause-calls g c =
    let new = c.requeue.new.self in
    called (Puts c.args.uid.now c.args.dest.now) c.args.self.now (c.get_mut.follows.lender new) c.args.name.now c.in-Some.node.now new Done c.in-Some.ensures.value
    ((c.get_mut.follows.holds new).3 (there (tree.get text_cmp c.args.self.now.nodes c.args.name.now) c.in-Some.node.now c.in-Some.ensures.value)).0
    c.requeue.ensures.rest.links c.requeue.ensures.rest.of c.requeue.ensures.premise.stood
    (λ s. (c.requeue.result, c.requeue.ensures.reply s, c.requeue.ensures.armed s, sym (ap note_of c.in-Ok.is)))

pub returns-in-Ok-clause-step : goal.returns-in-Ok-clause-step
returns-in-Ok-clause-step g c =
    let new = c.requeue.new.self in
    requeued c.args.self.now (record { alloc = c.args.self.now.alloc; time = c.args.self.now.time; opened = c.args.self.now.opened; nodes = (c.get_mut.follows.lender new); wires = c.args.self.now.wires; lost = c.args.self.now.lost }) Done c.args.name.now c.args.uid.now c.args.dest.now
    (called (Puts c.args.uid.now c.args.dest.now) c.args.self.now (c.get_mut.follows.lender new) c.args.name.now c.in-Some.node.now new Done c.in-Some.ensures.value
    ((c.get_mut.follows.holds new).3 (there (tree.get text_cmp c.args.self.now.nodes c.args.name.now) c.in-Some.node.now c.in-Some.ensures.value)).0
    c.requeue.ensures.rest.links c.requeue.ensures.rest.of c.requeue.ensures.premise.stood
    (λ s. (c.requeue.result, c.requeue.ensures.reply s, c.requeue.ensures.armed s, sym (ap note_of c.in-Ok.is))))

pub returns-in-Err-clause-calls : goal.returns-in-Err-clause-calls
returns-in-Err-clause-calls g c =
    let new = c.requeue.new.self in
    called (Puts c.args.uid.now c.args.dest.now) c.args.self.now (c.get_mut.follows.lender new) c.args.name.now c.in-Some.node.now new (Refused c.in-Err.fault) c.in-Some.ensures.value
    ((c.get_mut.follows.holds new).3 (there (tree.get text_cmp c.args.self.now.nodes c.args.name.now) c.in-Some.node.now c.in-Some.ensures.value)).0
    c.requeue.ensures.rest.links c.requeue.ensures.rest.of c.requeue.ensures.premise.stood
    (λ s. (c.requeue.result, c.requeue.ensures.reply s, c.requeue.ensures.armed s, sym (ap note_of c.in-Err.is)))

pub returns-in-Err-clause-step : goal.returns-in-Err-clause-step
returns-in-Err-clause-step g c =
    let new = c.requeue.new.self in
    requeued c.args.self.now (record { alloc = c.args.self.now.alloc; time = c.args.self.now.time; opened = c.args.self.now.opened; nodes = (c.get_mut.follows.lender new); wires = c.args.self.now.wires; lost = c.args.self.now.lost }) (Refused c.in-Err.fault) c.args.name.now c.args.uid.now c.args.dest.now
    (called (Puts c.args.uid.now c.args.dest.now) c.args.self.now (c.get_mut.follows.lender new) c.args.name.now c.in-Some.node.now new (Refused c.in-Err.fault) c.in-Some.ensures.value
    ((c.get_mut.follows.holds new).3 (there (tree.get text_cmp c.args.self.now.nodes c.args.name.now) c.in-Some.node.now c.in-Some.ensures.value)).0
    c.requeue.ensures.rest.links c.requeue.ensures.rest.of c.requeue.ensures.premise.stood
    (λ s. (c.requeue.result, c.requeue.ensures.reply s, c.requeue.ensures.armed s, sym (ap note_of c.in-Err.is))))
