use Rattle.std.proofs.Common.{rules, ◌∙◌, length, sym, ap}
use Rattle.dr_store_line_files.proofs.Kept.{added_refused, appended, err_told, put_filed, same_file, then_kept}
use Rattle.dr_store_line_files.proofs.several.put_here.Goals as goal

pub returns-clause-filed : goal.returns-clause-filed
returns-clause-filed g c =
    put_filed g.D.Disk c.args.place.now c.in_ok-last.last c.args.lines.now c.append_to.new.file c.in_ok-last.ensures.takes
    c.in_ok-last.ensures.put c.in_ok-last.ensures.ends c.in_ok-last.ensures.synced

pub returns-clause-keeps : goal.returns-clause-keeps
returns-clause-keeps g c =
    then_kept g.D.Disk c.args.place.now.offset c.args.file.now c.len.new.self c.append_to.new.file
    (same_file g.D.Disk c.args.place.now.offset c.args.file.now c.len.new.self c.len.ensures.seen c.len.ensures.crash c.len.ensures.clean)
    (appended g.D.Disk c.args.place.now.offset c.in_ok-size.size c.len.new.self c.append_to.new.file c.append_to.ensures.keeps c.append_to.ensures.same
    c.append_to.ensures.clean (λ clean. c.in_ok-size.ensures.len clean ∙ sym (ap (λ t. length t) c.len.ensures.seen)) (search rules))

pub returns-in_err-last-clause-keeps : goal.returns-in_err-last-clause-keeps
returns-in_err-last-clause-keeps g c =
    then_kept g.D.Disk c.args.place.now.offset c.args.file.now c.len.new.self c.append_to.new.file
    (same_file g.D.Disk c.args.place.now.offset c.args.file.now c.len.new.self c.len.ensures.seen c.len.ensures.crash c.len.ensures.clean)
    (appended g.D.Disk c.args.place.now.offset c.in_ok-size.size c.len.new.self c.append_to.new.file c.append_to.ensures.keeps c.append_to.ensures.same
    c.append_to.ensures.clean (λ clean. c.in_ok-size.ensures.len clean ∙ sym (ap (λ t. length t) c.len.ensures.seen)) (search rules))

pub returns-in_err-last-clause-why : goal.returns-in_err-last-clause-why
returns-in_err-last-clause-why g c =
    err_told _ _ _ c.from_residual-in_err-last.ensures
    (added_refused g.D.Disk c.args.place.now c.args.lines.now c.args.file.now c.len.new.self c.append_to.new.file c.requires (search rules) (search rules)
    _ c.in_err-last.ensures.why)
