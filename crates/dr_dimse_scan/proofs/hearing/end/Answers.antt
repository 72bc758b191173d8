use Rattle.dr_dimse_scan.specs.Stores.{store_in}
use Rattle.dr_dimse_scan.proofs.FollowLemmas.{hears_whole}
use Rattle.dr_dimse_scan.proofs.hearing.end.Goals as goal

pub returns : goal.returns
returns c =
    hears_whole c.args.syntax c.in-Some.syntax c.args.before c.in-Some-text_in.text.now (store_in c.args.message.now.command c.args.message.now.body) c.args.reading c.in-Some-reading.reading c.in-Some-hear_behind.reading c.in-Some.is c.in-Some-reading.is c.requires c.in-Some-text_in.ensures c.if-not-is_in.ensures c.in-Some-hear_behind.ensures.hears.1
