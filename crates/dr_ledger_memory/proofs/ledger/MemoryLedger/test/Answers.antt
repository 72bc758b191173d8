use Rattle.std.proofs.Common.{◌∙◌, ap, refl, sym, subst}
use Rattle.dr_route.specs.declared.key.Key.{Key}
use Rattle.dr_site.specs.Routing.{HasLineFor}
use Rattle.dr_ledger.specs.Items.{instance_of}
use Rattle.dr_ledger.specs.SiteRoutes.{site_routing}
use Rattle.dr_ledger_memory.specs.Changes.{at}
use Rattle.dr_ledger_memory.proofs.Ledgers.{admitted_new, admitted_same, conflicting}
use Rattle.dr_ledger_memory.proofs.Whole.{no_both}
use Rattle.dr_ledger_memory.proofs.ledger.MemoryLedger.test.Goals as goal

pub returns-in_default-clause-reply : goal.returns-in_default-clause-reply
returns-in_default-clause-reply c =
    let l = c.args.self.now in
    let P : Key → Type 0 = λ k. HasLineFor l.site c.args.caller.now k in
    admitted_new (site_routing l.site) l.parts l.ordered c.args.caller.now (instance_of c.args.item.now) (subst P c.key.ensures (c.if-not-has_line.ensures.0 refl))
    (ap (at l.parts.held) (sym c.uid.ensures) ∙ sym c.in_default.ensures.value)

pub returns-then-is_item-clause-reply : goal.returns-then-is_item-clause-reply
returns-then-is_item-clause-reply c =
    let l = c.args.self.now in
    let P : Key → Type 0 = λ k. HasLineFor l.site c.args.caller.now k in
    admitted_same (site_routing l.site) l.parts l.ordered c.args.caller.now (instance_of c.args.item.now) c.in-Some.entry.now (subst P c.key.ensures (c.if-not-has_line.ensures.0 refl))
    (ap (at l.parts.held) (sym c.uid.ensures) ∙ sym c.in-Some.ensures.value) (c.if-is_item.ensures.0 refl)

pub returns-clause-reply : goal.returns-clause-reply
returns-clause-reply c =
    let l = c.args.self.now in
    let P : Key → Type 0 = λ k. HasLineFor l.site c.args.caller.now k in (
      subst P c.key.ensures (c.if-not-has_line.ensures.0 refl),
      conflicting (site_routing l.site) l.parts l.ordered c.args.caller.now (instance_of c.args.item.now) c.in-Some.entry.now
          (ap (at l.parts.held) (sym c.uid.ensures) ∙ sym c.in-Some.ensures.value) (λ e. no_both c.is_item.result (c.is_item.ensures.1 e) c.if-is_item.false),
    )
