use Rattle.std.proofs.Common.{◌∙◌, ap, is_some, subst, sym}
use Rattle.std.specs.BTreeMap.{btree_map_len}
use Rattle.dr_ledger.specs.Pairs.{pair_cmp}
use Rattle.dr_ledger.proofs.Maps.{text_pairs}
use Rattle.dr_ledger_history.specs.Leaving.{IsRowOf}
use Rattle.dr_ledger_history.specs.Trees.{as_map}
use Rattle.dr_ledger_history.proofs.Leaving.{all_have_left, one_less, one_more_leaves}
use Rattle.dr_ledger_history.proofs.Mapped.{get_at}
use Rattle.dr_ledger_history.proofs.letting.let_rows_go.Goals as goal

pub returns-in_default : goal.returns-in_default
returns-in_default c =
    let rows = as_map pair_cmp c.rows.rows in
    all_have_left c.args.uid.now (as_map pair_cmp c.args.rows.now) rows c.rows.invariant
    (subst (IsRowOf c.args.uid.now rows) c.in_default.is c.in_ok-at.ensures)

pub rows-smaller : goal.rows-smaller
rows-smaller c =
    let m = c.rows.rows in
    let found = subst (IsRowOf c.args.uid.now (as_map pair_cmp m)) c.in-Some.is c.in_ok-at.ensures in
    let some = ap is_some (c.remove.ensures.value ∙ (sym (get_at text_pairs m c.in-Some.at) ∙ found.1)) in
    one_less (btree_map_len c.remove.new.self) (btree_map_len m) _ some c.remove.ensures.len

pub rows-preserved : goal.rows-preserved
rows-preserved c =
    let m = c.rows.rows in
    let found = subst (IsRowOf c.args.uid.now (as_map pair_cmp m)) c.in-Some.is c.in_ok-at.ensures in
    let over = sym c.is_queued.ensures ∙ c.if-is_queued.false in
    one_more_leaves c.args.uid.now (as_map pair_cmp c.args.rows.now) m c.remove.new.self c.in-Some.at c.in-Some.row
    c.rows.invariant found.0 found.1 over c.remove.ensures.updates.0
