use Rattle.dr_store_past.proofs.Putting.{made_kept, no_place, part_put, part_refused}
use Rattle.dr_store_past.proofs.Growing.{keeps_all}
use Rattle.dr_store_past.proofs.Written.{err_told}
use Rattle.dr_store_past.proofs.writing.write_part.Goals as goal

pub returns-in_err-place-clause-keeps : goal.returns-in_err-place-clause-keeps
returns-in_err-place-clause-keeps g c = keeps_all g.F.Disk.Disk _ c.args.disks.now.items c.place_for.new.disks.items c.in_err-place.ensures.unmade

pub returns-in_err-place-clause-why : goal.returns-in_err-place-clause-why
returns-in_err-place-clause-why g c =
    err_told _ _ _ c.from_residual.ensures (no_place g.F.Disk.Disk c.args.disks.now.items c.place_for.new.disks.items c.args.from.now c.args.texts.now _ c.in_err-place.ensures.why)

pub returns-in-Ok-clause-put : goal.returns-in-Ok-clause-put
returns-in-Ok-clause-put g c filled =
    let made = c.place_for.ensures.made in
    let put = c.in-Ok.ensures in
    part_put g.F.Disk.Disk c.args.disks.now.items made.0 c.place_for.new.disks.items c.put_lines.new.disks.items made.1 made.2 c.args.from.now c.in_ok-place.place c.in_ok-place.ensures.place
    c.args.texts.now c.in-Ok.last put.takes put.some put.lines put.filed c.put_lines.ensures.size c.in_ok-place.ensures.there put.usable put.faults filled

pub returns-in-Ok-clause-keeps : goal.returns-in-Ok-clause-keeps
returns-in-Ok-clause-keeps g c =
    let made = c.place_for.ensures.made in
    made_kept g.F.Disk.Disk c.args.disks.now.items made.0 c.place_for.new.disks.items c.put_lines.new.disks.items made.1 made.2 c.args.from.now c.in_ok-place.place c.in_ok-place.ensures.place c.put_lines.ensures.keeps

pub returns-in-Err-clause-keeps : goal.returns-in-Err-clause-keeps
returns-in-Err-clause-keeps g c =
    let made = c.place_for.ensures.made in
    made_kept g.F.Disk.Disk c.args.disks.now.items made.0 c.place_for.new.disks.items c.put_lines.new.disks.items made.1 made.2 c.args.from.now c.in_ok-place.place c.in_ok-place.ensures.place c.put_lines.ensures.keeps

pub returns-in-Err-clause-why : goal.returns-in-Err-clause-why
returns-in-Err-clause-why g c =
    let made = c.place_for.ensures.made in
    part_refused g.F.Disk.Disk c.args.disks.now.items made.0 c.place_for.new.disks.items c.put_lines.new.disks.items made.1 made.2 c.args.from.now c.in_ok-place.place c.in_ok-place.ensures.place
    c.args.texts.now c.in_ok-place.ensures.room c.in-Err.fault c.in-Err.ensures.why c.in_ok-place.ensures.there c.requires
