use Rattle.std.proofs.Common.{ap, ◌∙◌}
use Rattle.std.specs.FinMap as map
use Rattle.dr_base.specs.Texts.{text_cmp}
use Rattle.dr_ledger.proofs.Maps.{texts}
use Rattle.dr_ledger_history.specs.Trees.{as_map}
use Rattle.dr_ledger_history.proofs.Mapped.{put_at}
use Rattle.dr_ledger_balance.proofs.trees.insert_item.Goals as goal

pub returns : goal.returns
returns c =
    put_at texts c.args.tree.now c.insert.new.self c.in_ok-uid.uid c.args.item c.in_ok-insert.ensures.updates.0
    ∙ ap (λ k. map.insert (as_map text_cmp c.args.tree.now) k c.args.item) c.in_ok-uid.ensures
