use Rattle.std.proofs.Common.{◌∙◌, ap, refl, arith}
use Rattle.std.specs.FinMap as map
use Rattle.dr_ledger_history.specs.Contents.{content}
use Rattle.dr_ledger_history.specs.Trees.{as_map}
use Rattle.dr_ledger.specs.Pairs.{pair_cmp}
use Rattle.dr_ledger_history.proofs.Telling.{settled}
use Rattle.dr_ledger_history.proofs.parts.HistoryParts.move_on.Goals as goal

pub returns : goal.returns
returns c =
    let m = as_map pair_cmp c.args.self.now.rows in
    settled (content c.args.self.now) (record { items = (content c.args.self.now).items; arrivals = (content c.args.self.now).arrivals; kept = (content c.args.self.now).kept; rows = as_map pair_cmp c.put_row.new.rows }) c.args.at.0 c.args.at.1 c.args.was.0 c.args.was.1 c.args.outcome c.args.now c.requires (omega (arith, c.if-now-gt-LAST_MOMENT.false)) refl refl refl (c.in_ok-put_row.ensures ∙ ap (map.insert m c.args.at) c.moved.ensures)
