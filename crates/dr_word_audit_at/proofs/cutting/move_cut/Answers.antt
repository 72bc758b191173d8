use Rattle.std.proofs.Common.{refl}
use Rattle.dr_word_audit_at.proofs.CutJournals.{put_moves}
use Rattle.dr_word_audit_at.proofs.cutting.move_cut.Goals as goal

pub returns-in-Some : goal.returns-in-Some
returns-in-Some c =
    let old = c.args.counts.now.items in
    put_moves c.args.missing.now c.args.name.now c.args.read.now old _ c.in-Some.place c.in-Some.next refl (rw c.as_slice.ensures.value at c.in-Some.ensures.1)
