use Rattle.std.proofs.Common.{◌*◌}
use Rattle.dr_plan_expand.proofs.Summed.{more_yet, over_all}
use Rattle.dr_plan_expand.proofs.amount.take_volume.Goals as goal

pub returns-in-None : goal.returns-in-None
returns-in-None c = more_yet (c.args.width * c.args.height) c.args.depth c.args.room c.requires (over_all c.args.room (c.args.width * c.args.height) c.ranges.room.fits c.in-None.ensures)
