use Rattle.std.proofs.Common.{◌++◌}
use Rattle.dr_world.proofs.FrontBytes.{length_read, length_told}
use Rattle.dr_world.proofs.fronts.length_of_front.Goals as goal

pub returns-clause-tells : goal.returns-clause-tells
returns-clause-tells c =
    length_read (c.args.kept.now ++ c.args.wire.now) c.byte_at.result c.byte_at-2.result c.byte_at-3.result c.byte_at-4.result c.from_be_bytes.result c.byte_at.ensures c.byte_at-2.ensures c.byte_at-3.ensures c.byte_at-4.ensures c.from_be_bytes.ensures

pub returns-clause-told : goal.returns-clause-told
returns-clause-told c =
    length_told (c.args.kept.now ++ c.args.wire.now) c.byte_at.result c.byte_at-2.result c.byte_at-3.result c.byte_at-4.result c.from_be_bytes.result c.byte_at.ensures c.byte_at-2.ensures c.byte_at-3.ensures c.byte_at-4.ensures c.from_be_bytes.ensures
