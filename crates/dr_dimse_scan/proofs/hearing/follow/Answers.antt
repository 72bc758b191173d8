use Rattle.std.proofs.Common.{sym, ◌∙◌}
use Rattle.dr_dimse_scan.proofs.FollowLemmas.{follows, begins}
use Rattle.dr_dimse_scan.proofs.hearing.follow.Goals as goal

pub returns-in-Some : goal.returns-in-Some
returns-in-Some c =
    follows c.args.before c.args.reading c.in-Some.reading c.hear_behind.result c.args.assembly.now.stage c.data_so_far-bytes.result.now c.in-Some.is c.requires c.data_so_far-bytes.ensures c.hear_behind.ensures.hears

pub returns-in-None : goal.returns-in-None
returns-in-None c =
    begins c.begin.result c.args.assembly.now.stage c.data_so_far-bytes.result.now (sym c.is_storing.ensures ∙ c.if-not-is_storing.false) c.data_so_far-bytes.ensures c.begin.ensures
