use Rattle.dr_world.specs.Ends.{named}
use Rattle.dr_world.proofs.Arriving.{bytes_due}
use Rattle.dr_world.proofs.world.reading.due_at.Goals as goal

pub returns-then-not-is_empty : goal.returns-then-not-is_empty
returns-then-not-is_empty g c =
    bytes_due c.args.nodes.now c.args.link c.args.most c.movable_at.result (named c.args.reader) c.args.wires.now c.name.result.now c.name-then-not-is_empty.result.now c.is_over_at.result c.is_empty.result c.wire-wire.result.now c.if-most-eq0.false
    c.name.ensures c.is_over_at.ensures c.if-is_over_at.false c.wire-wire.ensures c.is_empty.ensures c.if-not-is_empty.true c.name-then-not-is_empty.ensures c.movable_at.ensures
