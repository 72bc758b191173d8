use Rattle.std.proofs.Common.{refl, sym, ap, subst, ◌∙◌}
use Rattle.dr_plan_model.specs.Plans.{NamesNoNode}
use Rattle.dr_site.specs.Parts.{Part}
use Rattle.dr_desk.proofs.Taken.{answered_then, lasts_then, no_node, one_node, still}
use Rattle.dr_desk.proofs.adopting.adopt_by.Goals as goal

pub returns-in_default-clause-answers : goal.returns-in_default-clause-answers
returns-in_default-clause-answers g c = (
  (
    no_node _ _ _ _ c.plan.ensures.same
        (c.name.ensures ∙ ap (λ (p : Part). p.name) (sym c.requires)) c.in_default.ensures,
    refl,
  ),
  still g.L.Ledger.site g.L.Ledger.book g.L.Ledger.bodies g.L.Ledger.stands g.L.Ledger.failed
      c.args.ledger.now,
)

pub test_rows-requires : goal.test_rows-requires
test_rows-requires g c = one_node _ _ _ _ _ c.plan.ensures.same
    (c.name.ensures ∙ ap (λ (p : Part). p.name) (sym c.requires)) c.in-Some.ensures

pub take-requires-clause-node : goal.take-requires-clause-node
take-requires-clause-node g c = subst
    (λ (p : Part). NamesNoNode c.args.next.now.plan p.name → ⊥) (sym c.in-Ok.ensures.same.site)
    (one_node _ _ _ _ _ c.plan.ensures.same
    (c.name.ensures ∙ ap (λ (p : Part). p.name) (sym c.requires)) c.in-Some.ensures)

pub returns-in-Ok-clause-answers : goal.returns-in-Ok-clause-answers
returns-in-Ok-clause-answers g c = answered_then g.L.Ledger.site g.L.Ledger.book g.L.Ledger.bodies
    g.L.Ledger.stands g.L.Ledger.failed c.args.next.now c.take.result c.args.ledger.now
    c.test_rows.new.ledger c.take.new.ledger
    (one_node _ _ _ _ _ c.plan.ensures.same
    (c.name.ensures ∙ ap (λ (p : Part). p.name) (sym c.requires)) c.in-Some.ensures)
    c.in-Ok.ensures.same c.take.ensures.answers

pub returns-in-Ok-clause-lasts : goal.returns-in-Ok-clause-lasts
returns-in-Ok-clause-lasts g c = lasts_then c.take.result _ _ _ _ _ _
    c.in-Ok.ensures.lasts.trusted c.in-Ok.ensures.lasts.lasts c.take.ensures.lasts
