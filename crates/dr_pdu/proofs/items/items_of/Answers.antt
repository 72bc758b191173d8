use Rattle.std.proofs.Common.{◌≡◌, ◌≢◌, [], ◌∷◌, ◌++◌, ◌∙◌, sym, subst, ap, false, length, eqb, List, ℕ}
use Rattle.std.proofs.lemmas.Result.{err_from_is_err_and}
use Rattle.std.proofs.lemmas.Bool.{eqb-true, eqb-false}
use Rattle.std.proofs.lemmas.List.{map_push, nil_from_length}
use Rattle.dr_pdu.specs.Items.{Item, StartsPduItem, AreItems}
use Rattle.dr_pdu.specs.Reads.{item, items}
use Rattle.dr_base.specs.Runs.{Run}
use Rattle.dr_base.proofs.RunLemmas.{run_more, starts_then}
use Rattle.dr_pdu.proofs.ItemLemmas.{item_parts}
use Rattle.dr_pdu.proofs.Refusals.{refused}
use Rattle.dr_pdu.proofs.items.items_of.Goals as goal

pub returns-in_err-item : goal.returns-in_err-item
returns-in_err-item c =
    let p = err_from_is_err_and c.from_residual.result c.from_residual.ensures.1 in
    let test : eqb (length c.loop-rest.rest.now) 0 ≡ false = sym c.is_empty.ensures ∙ c.loop-rest-test.true in
    let some : c.loop-rest.rest.now ≢ [] = λ e. eqb-false _ _ test (ap length e) in
    rw (p.1, p.2) (refused _ (λ (x : Item × List ℕ). StartsPduItem c.loop-rest.rest.now x.0 x.1) (λ is. AreItems is c.args.text.now) (λ is. starts_then StartsPduItem item_parts _ is _ _ some c.loop-rest.invariant) c.in_err-item.ensures)

pub loop-rest-preserved : goal.loop-rest-preserved
loop-rest-preserved c =
    let e : items c.push.new.self.items ≡ items c.loop-rest.found.items ++ item c.in_ok-item.item ∷ [] = rw c.in_ok-push.ensures.items (map_push _ c.loop-rest.found.items c.in_ok-item.item) in
    rw e (run_more StartsPduItem _ _ _ _ _ c.loop-rest.invariant c.in_ok-item.ensures)

pub returns : goal.returns
returns c =
    let nothing : c.loop-rest.rest.now ≡ [] = nil_from_length _ (eqb-true _ _ (sym c.is_empty.ensures ∙ c.loop-rest-test.false)) in
    subst (λ r. Run StartsPduItem (items c.loop-rest.found.items) c.args.text.now r) nothing c.loop-rest.invariant
