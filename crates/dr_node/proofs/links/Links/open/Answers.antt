use Rattle.std.proofs.Common.{refl, sym, subst}
use Rattle.dr_nego.specs.Proposing.{IsHopTo}
use Rattle.dr_site.specs.Parts.{Part}
use Rattle.dr_plan_sound.specs.declared.certificate.Hop.{Hop}
use Rattle.dr_node.proofs.Opening.{opened, out_of_memory, without_hop}
use Rattle.dr_node.proofs.links.Links.open.Goals as goal

pub returns-then-not-has_hop : goal.returns-then-not-has_hop
returns-then-not-has_hop c =
    without_hop c.args.site.now c.args.dest.now c.args.link c.args.now c.args.self.now c.if-is_known.ensures c.if-not-has_hop.ensures

pub returns-in_err-copy : goal.returns-in_err-copy
returns-in_err-copy c =
    out_of_memory c.args.site.now c.args.dest.now c.args.link c.args.now c.args.self.now c.if-is_known.ensures c.from_residual.result c.args.self.now _ c.if-not-has_hop.ensures (λ e h. h) c.from_residual.ensures.0 c.from_residual.ensures.1 refl

pub request-requires : goal.request-requires
request-requires c =
    let P : Part → Type 0 = λ s. (hop : Hop) × IsHopTo s c.args.dest.now hop in
    subst P (sym c.in_ok-copy.ensures) c.if-not-has_hop.ensures

pub returns-in_err-end : goal.returns-in_err-end
returns-in_err-end c =
    out_of_memory c.args.site.now c.args.dest.now c.args.link c.args.now c.args.self.now c.if-is_known.ensures c.from_residual-in_err-end.result c.args.self.now _ c.if-not-has_hop.ensures (λ e h. h) c.from_residual-in_err-end.ensures.0 c.from_residual-in_err-end.ensures.1 refl

pub returns-in_err-put : goal.returns-in_err-put
returns-in_err-put c =
    out_of_memory c.args.site.now c.args.dest.now c.args.link c.args.now c.args.self.now c.if-is_known.ensures c.from_residual-in_err-put.result c.put.new.self _ c.if-not-has_hop.ensures (λ e h. h) c.from_residual-in_err-put.ensures.0 c.from_residual-in_err-put.ensures.1 c.in_err-put.ensures.err

pub returns : goal.returns
returns c =
    opened c.args.site.now c.args.dest.now c.args.link c.args.now c.args.self.now c.if-is_known.ensures c.in_ok-copy.field-0 c.in_ok-end.end c.in_ok-end.actions c.put.new.self c.in_ok-copy.ensures c.in_ok-end.ensures c.in_ok-put.ensures.ok
