use Rattle.std.proofs.Common.{refl, sym, ap, subst, ◌∙◌}
use Rattle.dr_plan_model.specs.Plans.{NamesNoNode}
use Rattle.dr_site.specs.Parts.{Part}
use Rattle.dr_desk.proofs.Handed.{of_lines_after, stays_as, stays_by_plan}
use Rattle.dr_desk.proofs.Journals.{apart_by, of_lines_by, rise_by}
use Rattle.dr_desk.proofs.Taken.{both, fit_then, no_node, one_node, still}
use Rattle.dr_desk.proofs.held.HeldDesk.change.Goals as goal

pub returns-in_default-clause-stays : goal.returns-in_default-clause-stays
returns-in_default-clause-stays g c = (
  (
    no_node _ _ _ _ c.plan.ensures.same
        (c.name.ensures ∙ ap (λ (p : Part). p.name) (sym (c.args.self.of ∙ c.requires.site)))
        c.in_default.ensures,
    refl,
  ),
  still g.L.Ledger.site g.L.Ledger.book g.L.Ledger.bodies g.L.Ledger.stands g.L.Ledger.failed
      c.args.self.desk.ledger,
)

pub test_rows-requires : goal.test_rows-requires
test_rows-requires g c = one_node _ _ _ _ _ c.plan.ensures.same
    (c.name.ensures ∙ ap (λ (p : Part). p.name) (sym (c.args.self.of ∙ c.requires.site)))
    c.in-Some.ensures

pub returns-in-Err-compare-clause-stays : goal.returns-in-Err-compare-clause-stays
returns-in-Err-compare-clause-stays g c =
    let node = one_node _ _ _ _ _ c.plan.ensures.same
    (c.name.ensures ∙ ap (λ (p : Part). p.name) (sym (c.args.self.of ∙ c.requires.site)))
    c.in-Some.ensures in
    let a = c.in_default-test_rows.ensures.same in
    let b = c.in-Err-compare.ensures.same in
    stays_as g.L.Ledger.site g.L.Ledger.book g.L.Ledger.bodies g.L.Ledger.stands g.L.Ledger.failed
    g.B.Sharing.site g.B.Sharing.first c.args.passes.items
    (λ p. p.receipts.items) c.args.next.now.plan c.as_slice.result.now c.in-Err-compare.fault
    c.args.self.desk.ledger c.test_rows.new.ledger c.compare.new.self.desk.ledger
    c.as_slice.ensures.value node a b
    (c.in-Err-compare.ensures.refuses c.args.next.now.plan
    (subst (λ (p : Part). NamesNoNode c.args.next.now.plan p.name → ⊥) (sym a.site) node)
    (λ s. fit_then g.L.Ledger.site g.L.Ledger.book g.L.Ledger.bodies g.L.Ledger.stands
    g.L.Ledger.failed c.args.next.now.plan c.args.self.desk.ledger c.test_rows.new.ledger a
    c.in_default-test_rows.ensures.fit (b.stood s)))

pub hand_over-requires-clause-node : goal.hand_over-requires-clause-node
hand_over-requires-clause-node g c =
    let a = c.in_default-test_rows.ensures.same in
    let b = c.in_default-compare.ensures.same in
    subst
    (λ (p : Part). NamesNoNode c.args.next.now.plan p.name → ⊥) (sym (b.site ∙ a.site))
    (one_node _ _ _ _ _ c.plan.ensures.same
    (c.name.ensures ∙ ap (λ (p : Part). p.name) (sym (c.args.self.of ∙ c.requires.site)))
    c.in-Some.ensures)

pub returns-in-Ok-clause-tally : goal.returns-in-Ok-clause-tally
returns-in-Ok-clause-tally g c = let t = c.in-Ok.ensures.takes in record {
  of_lines = λ s. of_lines_after
      (λ p. p.receipts.items) c.args.passes.items (g.L.Ledger.book c.compare.new.self.desk.ledger)
      (g.L.Ledger.book c.in-Ok.changed.desk.ledger) (t.adopted s)
      (of_lines_by
      (λ p. p.receipts.items) c.as_slice.result.now c.args.passes.items _ _
      c.as_slice.ensures.value refl (c.in_default-compare.ensures.of_lines (t.stood s)));
  rise = rise_by (λ p. p.receipts.items) c.as_slice.result.now c.args.passes.items
      c.as_slice.ensures.value c.in_default-compare.ensures.rise;
  apart = apart_by (λ p. p.receipts.items) c.as_slice.result.now c.args.passes.items
      c.as_slice.ensures.value c.in_default-compare.ensures.apart;
  sum = c.in-Ok.ensures.sum;
  some = c.in-Ok.ensures.some;
  all = c.in-Ok.ensures.all;
  few = c.in-Ok.ensures.few;
}

pub returns-in-Err-hand_over-clause-stays : goal.returns-in-Err-hand_over-clause-stays
returns-in-Err-hand_over-clause-stays g c =
    let node = one_node _ _ _ _ _ c.plan.ensures.same
    (c.name.ensures ∙ ap (λ (p : Part). p.name) (sym (c.args.self.of ∙ c.requires.site)))
    c.in-Some.ensures in
    let a = c.in_default-test_rows.ensures.same in
    let b = c.in_default-compare.ensures.same in
    let e = c.in-Err-hand_over.ensures in
    stays_by_plan g.L.Ledger.site g.L.Ledger.book g.L.Ledger.bodies g.L.Ledger.stands
    g.L.Ledger.failed g.B.Sharing.site g.B.Sharing.first c.args.passes.items
    (λ p. p.receipts.items) c.args.next.now.plan e.refuses.0 c.in-Err-hand_over.unchanged.fault
    c.args.self.desk.ledger c.compare.new.self.desk.ledger
    c.in-Err-hand_over.unchanged.held.desk.ledger e.refuses.1 node
    (both g.L.Ledger.site g.L.Ledger.book g.L.Ledger.bodies g.L.Ledger.stands g.L.Ledger.failed
    c.args.self.desk.ledger c.test_rows.new.ledger c.compare.new.self.desk.ledger a b) e.same
    e.refuses.2
