use Rattle.std.proofs.Common.{rules, ◌≤◌, sym, subst, length, Err}
use Rattle.dr_ledger.specs.declared.content.ItemFault.{ItemFault}
use Rattle.dr_ledger.specs.Items.{ReadsItem, largest_body}
use Rattle.dr_ledger.proofs.Reading.{refused}
use Rattle.dr_ledger.proofs.content.Item.heard.Goals as goal

pub returns-in-Err : goal.returns-in-Err
returns-in-Err c =
    let P : ItemFault → Type 0 = λ f. ReadsItem c.args.syntax c.args.body (Err f) in
    let fits : length c.args.body ≤ largest_body = search rules in
    subst P (sym c.fault_of.ensures) (refused c.args.syntax c.args.body fits c.in-Err.fault (c.in-Err.ensures.scans c.args.syntax c.args.body c.requires))
