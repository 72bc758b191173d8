use Rattle.std.proofs.Common.{◌++◌}
use Rattle.std.specs.Prelude.{codes}
use Rattle.dr_base_quoted.specs.Quoting.{quoted}
use Rattle.dr_ledger_text.specs.Members.{word}
use Rattle.dr_run_answer.specs.Answers.{ended, last_try, progress_part, tried_part}
use Rattle.dr_run_answer.proofs.Chained.{chained}
use Rattle.dr_run_answer.proofs.instance.put_own_row.Goals as goal

pub returns : goal.returns
returns c =
    let old = c.args.out.now.items in
    let p0 = codes "{\"uid\":" in
    let p1 = quoted c.args.uid.now in
    let p2 = word (codes "dest") c.args.dest.now in
    let p3 = progress_part c.args.progress in
    let p4 = tried_part (last_try c.args.progress) in
    let e1 = chained old p0 p1 c.extend_from_slice.new.self.items c.put_text.new.out.items c.in_ok-extend_from_slice.ensures.items c.in_ok-put_text.ensures in
    let e2 = chained old (p0 ++ p1) p2 c.put_text.new.out.items c.put_named.new.out.items e1 c.in_ok-put_named.ensures in
    let e3 = chained old (p0 ++ p1 ++ p2) p3 c.put_named.new.out.items c.put_progress.new.out.items e2 c.in_ok-put_progress.ensures in
    let e4 = chained old (p0 ++ p1 ++ p2 ++ p3) p4 c.put_progress.new.out.items c.put_tried.new.out.items e3 c.in_ok-put_tried.ensures in
    chained old (p0 ++ p1 ++ p2 ++ p3 ++ p4) ended c.put_tried.new.out.items c.extend_from_slice-2.new.self.items e4 c.in_ok-extend_from_slice-2.ensures.items
