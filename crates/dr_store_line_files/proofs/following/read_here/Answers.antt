use Rattle.std.proofs.Common.{rules, ◌∙◌, arith}
use Rattle.dr_store_line_files.proofs.Kept.{err_told}
use Rattle.dr_store_line_files.proofs.Nexts.{no_end, none_there, not_read, onward_counts, reads_to}
use Rattle.dr_store_line_files.proofs.following.read_here.Goals as goal

pub returns-clause-reads : goal.returns-clause-reads
returns-clause-reads g c clean =
    reads_to _ _ c.args.place.now c.args.last.now _ _ c.in_ok-end.end (c.read_lines.ensures.shows ∙ c.end_of.ensures.shows)
    (c.in_ok-read.ensures.reads clean) c.in_ok-read.ensures.within (c.in_ok-end.ensures.end (c.read_lines.ensures.clean clean))

pub returns-in_err-end-clause-why : goal.returns-in_err-end-clause-why
returns-in_err-end-clause-why g c =
    err_told _ _ _ c.from_residual.ensures (no_end g.D.Disk c.args.place.now c.args.last.now c.args.file.now c.end_of.new.file _ c.in_err-end.ensures.why)

pub returns-then-place-end-clause-why : goal.returns-then-place-end-clause-why
returns-then-place-end-clause-why g c =
    none_there g.D.Disk c.args.place.now c.args.last.now c.args.file.now c.end_of.new.file c.end_of.new.file c.in_ok-end.end
    c.end_of.ensures.shows c.in_ok-end.ensures.faults c.end_of.ensures.usable c.in_ok-end.ensures.end (search rules)

pub returns-in_err-read-clause-why : goal.returns-in_err-read-clause-why
returns-in_err-read-clause-why g c =
    err_told _ _ _ c.from_residual-in_err-read.ensures
    (not_read g.D.Disk c.args.place.now c.args.last.now c.args.file.now c.end_of.new.file c.read_lines.new.file c.in_ok-end.end
    c.end_of.ensures.shows c.in_ok-end.ensures.faults c.end_of.ensures.usable (λ clean. c.in_ok-end.ensures.end (c.read_lines.ensures.clean clean))
    _ c.in_err-read.ensures.why)

pub returns-then-read-place-clause-why : goal.returns-then-read-place-clause-why
returns-then-read-place-clause-why g c clean goes =
    let up = onward_counts _ c.args.place.now c.in_ok-read.read.1 c.in_ok-read.read.0.items (c.in_ok-read.ensures.reads clean) c.in_ok-read.ensures.onward in
    let none = c.if-read-place.true in
    omega (arith, up, none)
