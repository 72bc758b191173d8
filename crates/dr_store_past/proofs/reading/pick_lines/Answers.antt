use Rattle.std.proofs.Common.{◌-◌, min, length, drop, ap, ◌∙◌, arith, length-drop, length-take}
use Rattle.std.proofs.lemmas.List.{take_rest}
use Rattle.dr_store_past.proofs.Pages.{part_refused, picked}
use Rattle.dr_store_past.proofs.Written.{err_map, ok_map}
use Rattle.dr_store_past.proofs.reading.pick_lines.Goals as goal

pub returns-clause-why : goal.returns-clause-why
returns-clause-why c =
    let texts = c.args.texts.now in
    let skip = c.min-skip.result in
    err_map _ _ c.push_lines.result
    (λ why h. part_refused texts skip c.min-more.result (let e = c.min-skip.ensures in omega (arith, e)) why (rw (take_rest texts skip) at h))
    c.push_lines.ensures.why

pub returns-clause-picked : goal.returns-clause-picked
returns-clause-picked c =
    let texts = c.args.texts.now in
    let skip = c.min-skip.result in
    let left = length-drop skip texts in
    let cut = length-take (length texts - skip) (drop skip texts) in
    let e = c.min-skip.ensures in
    let f = c.min-more.ensures in
    let room = c.saturating_sub-2.ensures in
    let size = c.len.ensures in
    ok_map _ _ c.push_lines.result
    (λ pushed all page was.
    picked texts skip c.min-more.result c.args.count c.args.after c.args.limit all c.args.found.now c.push_lines.new.found
    (e ∙ ap (λ n. min n (length texts)) c.saturating_sub.ensures)
    (omega (arith, f, room, size, left, cut))
    (rw (take_rest texts skip) at pushed) page was)
    c.push_lines.ensures.pushed
