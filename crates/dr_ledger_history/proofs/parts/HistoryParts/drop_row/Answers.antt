use Rattle.std.proofs.Common.{refl, arith}
use Rattle.dr_ledger.specs.Pairs.{pair_cmp}
use Rattle.dr_ledger_history.specs.Contents.{content}
use Rattle.dr_ledger_history.specs.Trees.{as_map, as_set}
use Rattle.dr_ledger_history.proofs.Telling.{dropped}
use Rattle.dr_ledger_history.proofs.parts.HistoryParts.drop_row.Goals as goal

pub returns : goal.returns
returns c =
    let old = content c.args.self.now in
    dropped old (record { items = old.items; arrivals = as_set pair_cmp c.let_callers_go.new.arrivals; kept = old.kept; rows = as_map pair_cmp c.put_row.new.rows })
    c.args.at.0 c.args.at.1 c.args.now c.args.why c.requires (omega (arith, c.if-now-gt-LAST_MOMENT.false)) refl c.in_ok-let_callers_go.ensures refl c.in_ok-put_row.ensures
