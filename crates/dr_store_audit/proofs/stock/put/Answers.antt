use Rattle.std.proofs.Common.{◌∙◌, ap}
use Rattle.std.specs.FinMap as map
use Rattle.dr_base.specs.Texts.{text_cmp}
use Rattle.dr_ledger.proofs.Maps.{texts}
use Rattle.dr_ledger_history.specs.Trees.{as_map}
use Rattle.dr_ledger_history.proofs.Mapped.{put_at}
use Rattle.dr_store_audit.proofs.stock.put.Goals as goal

pub returns : goal.returns
returns c =
    put_at texts c.args.items.now c.insert.new.self c.in_ok-clone.field-0 c.args.instance c.in_ok-insert.ensures.updates.0
    ∙ ap (λ k. map.insert (as_map text_cmp c.args.items.now) k c.args.instance) c.in_ok-clone.ensures
