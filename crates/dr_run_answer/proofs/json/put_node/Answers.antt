use Rattle.std.proofs.Common.{◌++◌}
use Rattle.std.specs.Prelude.{codes}
use Rattle.dr_base_quoted.specs.Quoting.{quoted}
use Rattle.dr_ledger_text.specs.Members.{number, word}
use Rattle.dr_run_answer.specs.Answers.{ended}
use Rattle.dr_run_answer.proofs.Chained.{chained}
use Rattle.dr_run_answer.proofs.json.put_node.Goals as goal

pub returns : goal.returns
returns c =
    let old = c.args.out.now.items in
    let node = c.args.node.now in
    let counts = c.args.counts in
    let p0 = codes "{\"node\":" in
    let p1 = quoted node.name.now in
    let p2 = word (codes "plan") node.plan.now in
    let p3 = word (codes "version") node.version.now in
    let p4 = number (codes "since") node.since in
    let p5 = number (codes "arrivals") counts.arrivals in
    let p6 = number (codes "kept") counts.kept in
    let p7 = number (codes "lines") counts.lines in
    let p8 = number (codes "failures") counts.failures in
    let p9 = ended in
    let e1 = chained old (p0) p1 c.extend_from_slice.new.self.items c.put_text.new.out.items
    c.in_ok-extend_from_slice.ensures.items c.in_ok-put_text.ensures in
    let e2 = chained old (p0 ++ p1) p2 c.put_text.new.out.items c.put_said.new.out.items
    e1 c.in_ok-put_said.ensures in
    let e3 = chained old (p0 ++ p1 ++ p2) p3 c.put_said.new.out.items c.put_said-2.new.out.items
    e2 c.in_ok-put_said-2.ensures in
    let e4 = chained old (p0 ++ p1 ++ p2 ++ p3) p4 c.put_said-2.new.out.items c.put_number.new.out.items
    e3 c.in_ok-put_number.ensures in
    let e5 = chained old (p0 ++ p1 ++ p2 ++ p3 ++ p4) p5 c.put_number.new.out.items c.put_number-2.new.out.items
    e4 c.in_ok-put_number-2.ensures in
    let e6 = chained old (p0 ++ p1 ++ p2 ++ p3 ++ p4 ++ p5) p6 c.put_number-2.new.out.items c.put_number-3.new.out.items
    e5 c.in_ok-put_number-3.ensures in
    let e7 = chained old (p0 ++ p1 ++ p2 ++ p3 ++ p4 ++ p5 ++ p6) p7 c.put_number-3.new.out.items c.put_number-4.new.out.items
    e6 c.in_ok-put_number-4.ensures in
    let e8 = chained old (p0 ++ p1 ++ p2 ++ p3 ++ p4 ++ p5 ++ p6 ++ p7) p8 c.put_number-4.new.out.items c.put_number-5.new.out.items
    e7 c.in_ok-put_number-5.ensures in
    chained old (p0 ++ p1 ++ p2 ++ p3 ++ p4 ++ p5 ++ p6 ++ p7 ++ p8) p9 c.put_number-5.new.out.items c.extend_from_slice-2.new.self.items
    e8 c.in_ok-extend_from_slice-2.ensures.items
