use Rattle.std.proofs.Common.{◌++◌}
use Rattle.std.specs.Prelude.{codes}
use Rattle.dr_run_page.specs.Documents.{button}
use Rattle.dr_run_answer.proofs.Chained.{chained}
use Rattle.dr_run_page.proofs.buttons.put_both.Goals as goal

pub returns : goal.returns
returns c =
    let old = c.args.out.now.items in
    let again = button (codes "/requeue") (codes "Queue again") c.args.key.now c.args.uid.now c.args.dest.now in
    let between = codes "<details><summary>Drop</summary>" in
    let drop = button (codes "/drop") (codes "Drop for good") c.args.key.now c.args.uid.now c.args.dest.now in
    let one = chained old again between c.put_button.new.out.items c.extend_from_slice.new.self.items
    c.in_ok-put_button.ensures c.in_ok-extend_from_slice.ensures.items in
    let two = chained old (again ++ between) drop c.extend_from_slice.new.self.items c.put_button-2.new.out.items
    one c.in_ok-put_button-2.ensures in
    chained old (again ++ between ++ drop) (codes "</details>") c.put_button-2.new.out.items c.extend_from_slice-2.new.self.items
    two c.in_ok-extend_from_slice-2.ensures.items
