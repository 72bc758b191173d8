use Rattle.std.proofs.Common.{refl, IsTrue, ◌≡◌, ◌∙◌, ap, arith}
use Rattle.std.proofs.lemmas.List.{length-set}
use Rattle.dr_store_sealed.specs.declared.seal.Seal.{Seal}
use Rattle.dr_store_line_files.proofs.Kept.{all_after, all_before, clean_in, err_told, same_faults}
use Rattle.dr_store_line_files.proofs.Nexts.{are_next, count_place, disks_after, not_next, shown_after}
use Rattle.dr_store_line_files.proofs.following.read_next.Goals as goal

pub returns-clause-reads : goal.returns-clause-reads
returns-clause-reads g c clean =
    are_next g.D.Disk c.args.disks.now.items c.in-Some.place.number
    (let size = c.len.ensures in let less = c.if-place-len.false in omega (arith, size, less))
    _ c.index_mut.ensures.value c.args.from.now c.args.last.now c.in-Some.place c.in-Some.ensures.place refl c.in-Some.ensures.room c.requires
    c.in_ok-read.read.0.items c.in_ok-read.read.1 c.in_ok-read.ensures.lines c.in_ok-read.ensures.onward
    (c.in_ok-read.ensures.reads
    (clean_in g.D.Disk c.args.disks.now.items c.in-Some.place.number
    (let size = c.len.ensures in let less = c.if-place-len.false in omega (arith, size, less))
    _ c.read_here.new.file c.index_mut.ensures.value clean))

pub returns-clause-lines : goal.returns-clause-lines
returns-clause-lines g c = c.in_ok-read.ensures.lines

pub returns-clause-onward : goal.returns-clause-onward
returns-clause-onward g c =
    let same : c.in-Some.place.count ≡ c.args.from.now.count = ap (λ (s : Seal). s.count) c.in-Some.ensures.place ∙ count_place c.args.from.now in
    let up = c.in_ok-read.ensures.onward in
    omega (arith, same, up)

pub returns-clause-shows : goal.returns-clause-shows
returns-clause-shows g c =
    shown_after g.D.Disk c.args.disks.now.items c.in-Some.place.number
    (let size = c.len.ensures in let less = c.if-place-len.false in omega (arith, size, less))
    _ c.read_here.new.file c.index_mut.ensures.value c.read_here.ensures.shows

pub returns-clause-size : goal.returns-clause-size
returns-clause-size g c = length-set c.args.disks.now.items c.in-Some.place.number c.read_here.new.file

pub returns-clause-keeps : goal.returns-clause-keeps
returns-clause-keeps g c =
    disks_after g.D.Disk c.args.disks.now.items c.in-Some.place.number
    (let size = c.len.ensures in let less = c.if-place-len.false in omega (arith, size, less))
    _ c.read_here.new.file c.index_mut.ensures.value c.read_here.ensures.shows c.read_here.ensures.leaves

pub returns-clause-clean : goal.returns-clause-clean
returns-clause-clean g c =
    all_before g.D.Disk c.args.disks.now.items c.in-Some.place.number
    (let size = c.len.ensures in let less = c.if-place-len.false in omega (arith, size, less))
    _ c.read_here.new.file c.index_mut.ensures.value (λ d. IsTrue (g.D.Disk.is_clean d)) c.read_here.ensures.clean

pub returns-clause-usable : goal.returns-clause-usable
returns-clause-usable g c =
    all_after g.D.Disk c.args.disks.now.items c.in-Some.place.number
    (let size = c.len.ensures in let less = c.if-place-len.false in omega (arith, size, less))
    _ c.read_here.new.file c.index_mut.ensures.value (λ d. IsTrue (g.D.Disk.is_usable d)) (λ was. c.in_ok-read.ensures.usable)

pub returns-clause-faults : goal.returns-clause-faults
returns-clause-faults g c =
    same_faults g.D.Disk c.args.disks.now.items c.in-Some.place.number
    (let size = c.len.ensures in let less = c.if-place-len.false in omega (arith, size, less))
    _ c.read_here.new.file c.index_mut.ensures.value c.in_ok-read.ensures.faults

pub returns-in_err-read-clause-shows : goal.returns-in_err-read-clause-shows
returns-in_err-read-clause-shows g c =
    shown_after g.D.Disk c.args.disks.now.items c.in-Some.place.number
    (let size = c.len.ensures in let less = c.if-place-len.false in omega (arith, size, less))
    _ c.read_here.new.file c.index_mut.ensures.value c.read_here.ensures.shows

pub returns-in_err-read-clause-keeps : goal.returns-in_err-read-clause-keeps
returns-in_err-read-clause-keeps g c =
    disks_after g.D.Disk c.args.disks.now.items c.in-Some.place.number
    (let size = c.len.ensures in let less = c.if-place-len.false in omega (arith, size, less))
    _ c.read_here.new.file c.index_mut.ensures.value c.read_here.ensures.shows c.read_here.ensures.leaves

pub returns-in_err-read-clause-clean : goal.returns-in_err-read-clause-clean
returns-in_err-read-clause-clean g c =
    all_before g.D.Disk c.args.disks.now.items c.in-Some.place.number
    (let size = c.len.ensures in let less = c.if-place-len.false in omega (arith, size, less))
    _ c.read_here.new.file c.index_mut.ensures.value (λ d. IsTrue (g.D.Disk.is_clean d)) c.read_here.ensures.clean

pub returns-in_err-read-clause-why : goal.returns-in_err-read-clause-why
returns-in_err-read-clause-why g c =
    err_told _ _ _ c.from_residual.ensures
    (not_next g.D.Disk c.args.disks.now.items c.in-Some.place.number
    (let size = c.len.ensures in let less = c.if-place-len.false in omega (arith, size, less))
    _ c.index_mut.ensures.value c.args.from.now c.args.last.now c.in-Some.place c.in-Some.ensures.place refl c.in-Some.ensures.room c.requires
    c.read_here.new.file _ c.in_err-read.ensures.why)
