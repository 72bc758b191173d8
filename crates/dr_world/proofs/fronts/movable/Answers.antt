use Rattle.std.proofs.Common.{inl, inr, refl}
use Rattle.dr_world.proofs.FrontBytes.{moves_some, moves_all}
use Rattle.dr_world.proofs.fronts.movable.Goals as goal

pub returns-then-most-there-clause-movable : goal.returns-then-most-there-clause-movable
returns-then-most-there-clause-movable c = moves_some c.args.kept.now c.args.wire.now c.left_of-there.result c.left_of-there.ensures.left c.args.most c.if-most-there.true

pub returns-then-most-there-clause-told : goal.returns-then-most-there-clause-told
returns-then-most-there-clause-told c = (c.left_of-there.result, c.left_of-there.ensures.told, inl (c.if-most-there.true, refl))

pub returns-clause-movable : goal.returns-clause-movable
returns-clause-movable c = moves_all c.args.kept.now c.args.wire.now c.left_of-there.result c.left_of-there.ensures.left c.args.most c.if-most-there.false

pub returns-clause-told : goal.returns-clause-told
returns-clause-told c = (c.left_of-there.result, c.left_of-there.ensures.told, inr (c.if-most-there.false, refl))
