use Rattle.dr_cert.proofs.Indexes.{index_from}
use Rattle.dr_cert.proofs.index.index_of.Goals as goal

pub returns : goal.returns
returns c = index_from c.args.lines.now c.in_ok-index.index.items c.in_ok-ranks.ranks c.in_ok-ranks.ensures c.in_ok-index.ensures.ordered c.in_ok-index.ensures.same
