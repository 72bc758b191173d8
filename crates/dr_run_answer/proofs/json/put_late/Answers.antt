use Rattle.std.proofs.Common.{◌++◌}
use Rattle.std.specs.Prelude.{codes}
use Rattle.dr_run_answer.specs.Answers.{ended}
use Rattle.dr_base_quoted.specs.Quoting.{quoted}
use Rattle.dr_run_answer.proofs.Chained.{chained}
use Rattle.dr_run_answer.proofs.json.put_late.Goals as goal

pub returns : goal.returns
returns c =
    let old = c.args.out.now.items in
    let whose = codes "{\"fault\":\"Late\",\"dest\":" in
    let one = chained old whose (quoted c.args.dest.now) c.extend_from_slice.new.self.items c.put_text.new.out.items
    c.in_ok-extend_from_slice.ensures.items c.in_ok-put_text.ensures in
    chained old (whose ++ quoted c.args.dest.now) ended c.put_text.new.out.items c.extend_from_slice-2.new.self.items
    one c.in_ok-extend_from_slice-2.ensures.items
