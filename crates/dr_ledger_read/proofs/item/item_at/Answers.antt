use Rattle.dr_ledger_read.proofs.Instances.{same_item}
use Rattle.dr_ledger_read.proofs.item.item_at.Goals as goal

pub returns : goal.returns
returns c = λ item shows.
    same_item c.in_ok-uid.uid c.in_ok-key.key c.args.places.now.size c.args.places.now.digest item
    (c.in_ok-uid.ensures item.uid shows.uid) (c.in_ok-key.ensures item.key shows.key) shows.size shows.digest
