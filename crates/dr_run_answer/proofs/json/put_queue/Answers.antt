use Rattle.std.proofs.Common.{◌++◌}
use Rattle.std.specs.Prelude.{codes}
use Rattle.dr_base_quoted.specs.Quoting.{quoted}
use Rattle.dr_ledger_text.specs.Members.{number}
use Rattle.dr_run_answer.specs.Answers.{due_part, ended, visit_part, waited_part}
use Rattle.dr_run_answer.proofs.Chained.{chained}
use Rattle.dr_run_answer.proofs.json.put_queue.Goals as goal

pub returns : goal.returns
returns c =
    let old = c.args.out.now.items in
    let queue = c.args.queue.now in
    let whose = codes "{\"dest\":" ++ quoted queue.dest.now in
    let waiting = number (codes "waiting") queue.waiting in
    let held = number (codes "held") queue.held in
    let done = number (codes "done") queue.done in
    let due = due_part queue.due in
    let waited = waited_part queue.waited in
    let visit = visit_part queue.visit in
    let one = chained old (codes "{\"dest\":") (quoted queue.dest.now) c.extend_from_slice.new.self.items c.put_text.new.out.items (c.in_ok-extend_from_slice.ensures.items) c.in_ok-put_text.ensures in
    let two = chained old whose waiting c.put_text.new.out.items c.put_number.new.out.items one c.in_ok-put_number.ensures in
    let three = chained old (whose ++ waiting) held c.put_number.new.out.items c.put_number-2.new.out.items two c.in_ok-put_number-2.ensures in
    let four = chained old (whose ++ waiting ++ held) done c.put_number-2.new.out.items c.put_number-3.new.out.items three c.in_ok-put_number-3.ensures in
    let five = chained old (whose ++ waiting ++ held ++ done) due c.put_number-3.new.out.items c.put_due.new.out.items four c.in_ok-put_due.ensures in
    let six = chained old (whose ++ waiting ++ held ++ done ++ due) waited c.put_due.new.out.items c.put_waited.new.out.items five c.in_ok-put_waited.ensures in
    let seven = chained old (whose ++ waiting ++ held ++ done ++ due ++ waited) visit c.put_waited.new.out.items c.put_visit.new.out.items six c.in_ok-put_visit.ensures in
    chained old (whose ++ waiting ++ held ++ done ++ due ++ waited ++ visit) ended c.put_visit.new.out.items c.extend_from_slice-2.new.self.items seven c.in_ok-extend_from_slice-2.ensures.items
