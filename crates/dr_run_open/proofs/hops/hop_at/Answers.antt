use Rattle.std.proofs.Common.{sym, ◌∙◌, ap, ◌∷◌, []}
use Rattle.dr_run_open.specs.declared.hops.NextHop.{NextHop}
use Rattle.dr_run_open.proofs.Hopping.{no_address, not_reached, reached}
use Rattle.dr_run_open.proofs.hops.hop_at.Goals as goal

pub returns-in_default : goal.returns-in_default
returns-in_default c = no_address c.args.site.now c.args.node.now c.in_default.ensures

pub returns-then-not-leads_to : goal.returns-then-not-leads_to
returns-then-not-leads_to c =
    not_reached c.args.site.now c.args.node.now c.in-Some.address.now c.in-Some.ensures (sym (rw c.hops.ensures.same at c.if-not-leads_to.ensures))

pub returns : goal.returns
returns c =
    reached c.args.site.now c.args.node.now c.in-Some.address.now c.in-Some.ensures (sym (rw c.hops.ensures.same at c.if-not-leads_to.ensures))
    ∙ ap (λ (h : NextHop). h ∷ []) (sym c.in_ok-hop.ensures)
