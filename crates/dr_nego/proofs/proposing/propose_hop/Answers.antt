use Rattle.std.proofs.Common.{List, map, ap, ◌∙◌}
use Rattle.std.specs.Prelude.{replicate}
use Rattle.dr_base.specs.Texts.{Text}
use Rattle.dr_plan_sound.specs.declared.certificate.Hop.{Hop}
use Rattle.dr_pdu.specs.declared.pdu.Front.{Front}
use Rattle.dr_nego.specs.Proposing.{context_of}
use Rattle.dr_nego.proofs.Proposed.{proposed}
use Rattle.dr_nego.proofs.Sized.{proposals_fit}
use Rattle.dr_nego.proofs.proposing.propose_hop.Goals as goal

pub returns-clause-proposes : goal.returns-clause-proposes
returns-clause-proposes c =
    let fronted : Text → Front = λ name. record { version = 1; called = c.args.dest.now; calling = name; reserved = replicate 32 0 } in
    proposed c.args.site.now c.args.dest.now c.in_ok-hops.ensures.site c.requires _ c.in_ok-hops.ensures.hops _ _ _ _
    (c.in_ok-front.ensures ∙ ap fronted c.name.ensures) c.in_ok-copy_of.ensures (c.in_ok-contexts.ensures ∙ ap (λ (l : List Hop). map context_of l) c.as_slice.ensures) c.max_pdu.ensures

pub returns-clause-fits : goal.returns-clause-fits
returns-clause-fits c =
    let fronted : Text → Front = λ name. record { version = 1; called = c.args.dest.now; calling = name; reserved = replicate 32 0 } in
    let p = proposed c.args.site.now c.args.dest.now c.in_ok-hops.ensures.site c.requires _ c.in_ok-hops.ensures.hops _ _ _ _
    (c.in_ok-front.ensures ∙ ap fronted c.name.ensures) c.in_ok-copy_of.ensures (c.in_ok-contexts.ensures ∙ ap (λ (l : List Hop). map context_of l) c.as_slice.ensures) c.max_pdu.ensures in
    proposals_fit c.args.site.now c.args.dest.now p.0.0 _ c.in_ok-hops.ensures.site p.0.1 p.1
