use Rattle.dr_dataset.proofs.HearLemmas.{note_one_keeps}
use Rattle.dr_dataset.proofs.caught.Caught.note_one.Goals as goal

pub returns : goal.returns
returns c =
    note_one_keeps c.args.self.now
    (record { class = c.keep.new.slot; instance = c.keep-2.new.slot; modality = c.keep-3.new.slot; station = c.keep-4.new.slot })
    c.args.tag c.args.bytes.now _ _ _ _ c.is.ensures c.is-2.ensures c.is-3.ensures c.is-4.ensures c.keep.ensures c.keep-2.ensures c.keep-3.ensures c.keep-4.ensures
