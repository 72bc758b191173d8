use Rattle.dr_ledger_read.proofs.Instances.{same_key}
use Rattle.dr_ledger_read.proofs.item.key_at.Goals as goal

pub returns : goal.returns
returns c = λ key shows.
    same_key c.in_ok-class.class c.in_ok-modality.modality c.in_ok-station.station c.args.places.now key
    (c.in_ok-class.ensures key.class shows.class) (c.in_ok-modality.ensures key.modality shows.modality) (c.in_ok-station.ensures key.station shows.station) shows.syntax
