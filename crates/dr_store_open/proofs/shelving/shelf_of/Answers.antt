use Rattle.std.proofs.Common.{◌≡◌, sym, subst}
use Rattle.sqlite.specs.Held.{state}
use Rattle.dr_store_open.proofs.Chains.{ready_still}
use Rattle.dr_store_open.proofs.Opens.{file_used, if_ok_as, no_file}
use Rattle.dr_store_open.proofs.shelving.shelf_of.Goals as goal

pub returns-in-InRows-clause-ready : goal.returns-in-InRows-clause-ready
returns-in-InRows-clause-ready g c = ready_still c.args.found.now.next (state g.S.Store c.args.conn.now) _ c.requires

pub returns-in-InRows-clause-used : goal.returns-in-InRows-clause-used
returns-in-InRows-clause-used g c clean are = record { used = λ uid cell there. tt; apart = λ uid other cell beside differ there is. tt }

pub returns-in-InFile-clause-used : goal.returns-in-InFile-clause-used
returns-in-InFile-clause-used g c clean are =
    let db = (state g.S.Store c.args.conn.now).now.trees in
    if_ok_as _ _ c.shelf_in_file.result
    (λ shelf it. file_used c.in-InFile.said db c.args.found.now.prints.items are it.0 it.1 shelf it.2)
    (c.shelf_in_file.ensures.file clean)

pub returns-in-InRows-clause-shows : goal.returns-in-InRows-clause-shows
returns-in-InRows-clause-shows g c = no_file c.args.made
