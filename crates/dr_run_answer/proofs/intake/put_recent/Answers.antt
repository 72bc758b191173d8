use Rattle.std.proofs.Common.{◌++◌}
use Rattle.std.specs.Prelude.{codes}
use Rattle.dr_base_quoted.specs.Quoting.{quoted}
use Rattle.dr_ledger_text.specs.Members.{number, word}
use Rattle.dr_run_answer.specs.Answers.{ended}
use Rattle.dr_run_answer.proofs.Chained.{chained}
use Rattle.dr_run_answer.proofs.intake.put_recent.Goals as goal

pub returns : goal.returns
returns c =
    let old = c.args.out.now.items in
    let recent = c.args.recent.now in
    let p0 = codes "{\"from\":" in
    let p1 = quoted recent.caller in
    let p2 = word (codes "modality") recent.modality in
    let p3 = number (codes "stored") recent.stored in
    let p4 = number (codes "refused") recent.refused in
    let p5 = ended in
    let e1 = chained old (p0) p1 c.extend_from_slice.new.self.items c.put_text.new.out.items
    c.in_ok-extend_from_slice.ensures.items c.in_ok-put_text.ensures in
    let e2 = chained old (p0 ++ p1) p2 c.put_text.new.out.items c.put_named.new.out.items
    e1 c.in_ok-put_named.ensures in
    let e3 = chained old (p0 ++ p1 ++ p2) p3 c.put_named.new.out.items c.put_number.new.out.items
    e2 c.in_ok-put_number.ensures in
    let e4 = chained old (p0 ++ p1 ++ p2 ++ p3) p4 c.put_number.new.out.items c.put_number-2.new.out.items
    e3 c.in_ok-put_number-2.ensures in
    chained old (p0 ++ p1 ++ p2 ++ p3 ++ p4) p5 c.put_number-2.new.out.items c.extend_from_slice-2.new.self.items
    e4 c.in_ok-extend_from_slice-2.ensures.items
