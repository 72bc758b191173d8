use Rattle.std.proofs.Common.{◌∙◌, ap, sym, is_some, unwrap_or}
use Rattle.std.specs.BTreeMap as tree
use Rattle.std.specs.FinMap as map
use Rattle.dr_base.specs.Texts.{text_cmp}
use Rattle.dr_ledger.proofs.Maps.{texts}
use Rattle.dr_ledger_history.specs.Trees.{as_map}
use Rattle.dr_ledger_history.proofs.Mapped.{filled, full}
use Rattle.dr_ledger_history.proofs.trees.put_item.Goals as goal

pub returns-then-contains_key : goal.returns-then-contains_key
returns-then-contains_key c = full texts c.args.items.now c.args.instance.uid c.args.instance (sym c.contains_key.ensures ∙ c.if-contains_key.true)

pub returns : goal.returns
returns c =
    let m = as_map text_cmp c.args.items.now in
    filled texts c.args.items.now c.insert.new.self c.in_ok-uid.uid c.args.instance
    (ap (λ k. is_some (tree.get text_cmp c.args.items.now k)) c.in_ok-uid.ensures ∙ (sym c.contains_key.ensures ∙ c.if-contains_key.false)) c.in_ok-insert.ensures.updates.0
    ∙ ap (λ k. map.insert m k (unwrap_or (map.get m k) c.args.instance)) c.in_ok-uid.ensures
