use Rattle.std.proofs.Common.{◌++◌, length}
use Rattle.dr_world.specs.Moved.{told_length}
use Rattle.dr_world.proofs.FrontBytes.{left_kept, left_short, left_there, told_kept, told_short, told_there}
use Rattle.dr_world.proofs.fronts.left_of.Goals as goal

pub returns-then-length-kept-clause-left : goal.returns-then-length-kept-clause-left
returns-then-length-kept-clause-left c = left_kept c.args.kept.now c.args.wire.now c.length_of_front-length.result c.length_of_front-length.ensures.tells c.if-length-kept.true

pub returns-then-length-kept-clause-told : goal.returns-then-length-kept-clause-told
returns-then-length-kept-clause-told c =
    told_kept (told_length (c.args.kept.now ++ c.args.wire.now)) (length c.args.kept.now) (length c.args.wire.now) c.length_of_front-length.result c.length_of_front-length.ensures.told c.if-length-kept.true

pub returns-then-wire-left-clause-left : goal.returns-then-wire-left-clause-left
returns-then-wire-left-clause-left c = left_short c.args.kept.now c.args.wire.now c.length_of_front-length.result c.length_of_front-length.ensures.tells c.if-length-kept.false c.if-wire-left.true

pub returns-then-wire-left-clause-told : goal.returns-then-wire-left-clause-told
returns-then-wire-left-clause-told c =
    told_short (told_length (c.args.kept.now ++ c.args.wire.now)) (length c.args.kept.now) (length c.args.wire.now) c.length_of_front-length.result c.length_of_front-length.ensures.told c.if-length-kept.false c.if-wire-left.true

pub returns-clause-left : goal.returns-clause-left
returns-clause-left c = left_there c.args.kept.now c.args.wire.now c.length_of_front-length.result c.length_of_front-length.ensures.tells c.if-length-kept.false c.if-wire-left.false

pub returns-clause-told : goal.returns-clause-told
returns-clause-told c =
    told_there (told_length (c.args.kept.now ++ c.args.wire.now)) (length c.args.kept.now) (length c.args.wire.now) c.length_of_front-length.result c.length_of_front-length.ensures.told c.if-length-kept.false c.if-wire-left.false
