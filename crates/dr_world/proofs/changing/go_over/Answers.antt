use Rattle.std.proofs.Common.{sym, ap, subst, ◌∙◌}
use Rattle.dr_base.specs.Texts.{Text}
use Rattle.dr_ledger.specs.Adopting.{IsFit}
use Rattle.dr_site.specs.Parts.{Part}
use Rattle.dr_world.proofs.Adopting.{gone_over, named_own}
use Rattle.dr_world.proofs.changing.go_over.Goals as goal

pub adopt-requires-clause-name : goal.adopt-requires-clause-name
adopt-requires-clause-name g c = named_own c.test_fit.new.node c.in-Ok.own.name
    ((c.in-Ok.ensures).0 ∙ (c.name.ensures ∙ ap (λ (s : Part). s.name) c.site.ensures))

pub adopt-requires-clause-fit : goal.adopt-requires-clause-fit
adopt-requires-clause-fit g c =
    let named = named_own c.test_fit.new.node c.in-Ok.own.name
    ((c.in-Ok.ensures).0 ∙ (c.name.ensures ∙ ap (λ (s : Part). s.name) c.site.ensures)) in
    λ stands. subst
    (λ (n : Text). IsFit c.args.next.now.plan n (g.L.Ledger.book c.test_fit.new.node.desk.ledger))
    (sym named) (c.in_ok-test_fit.ensures.fit stands)

pub returns-in-Ok-adopt-clause-goes : goal.returns-in-Ok-adopt-clause-goes
returns-in-Ok-adopt-clause-goes g c =
    let named = named_own c.test_fit.new.node c.in-Ok.own.name
    ((c.in-Ok.ensures).0 ∙ (c.name.ensures ∙ ap (λ (s : Part). s.name) c.site.ensures)) in
    let e = c.in-Ok-adopt.ensures in
    gone_over c.args.next.now.plan c.args.next.now.certificate c.args.node.now c.test_fit.new.node
    c.adopt.new.self c.in-Ok.own c.in_ok-test_fit.ensures.same c.in_ok-test_fit.ensures.fit named
    (c.in-Ok.ensures).1 e.reply e.armed e.premise.stood e.rest.of e.rest.links
