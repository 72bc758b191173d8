use Rattle.std.proofs.Common.{◌++◌}
use Rattle.std.specs.Prelude.{codes}
use Rattle.dr_run_page.specs.Documents.{hop_button}
use Rattle.dr_run_answer.proofs.Chained.{chained}
use Rattle.dr_run_page.proofs.buttons.put_both_hop.Goals as goal

pub returns : goal.returns
returns c =
    let old = c.args.out.now.items in
    let visit = hop_button (codes "/visit") (codes "Visit now") c.args.key.now c.args.dest.now in
    let again = hop_button (codes "/requeue") (codes "Queue all held again") c.args.key.now c.args.dest.now in
    chained old visit again c.put_hop_button.new.out.items c.put_hop_button-2.new.out.items
    c.in_ok-put_hop_button.ensures c.in_ok-put_hop_button-2.ensures
