use Rattle.std.proofs.Common.{◌≡◌, ◌↔◌, Contains, List, [], sym, subst, take, arith}
use Rattle.std.proofs.lemmas.List.{take_all}
use Rattle.std.specs.declared.cmp.Ordering.TheVariants.{Less}
use Rattle.dr_base.specs.Texts.{text_cmp}
use Rattle.dr_plan_sound.specs.Printed.{printed_hop}
use Rattle.dr_plan_sound.specs.declared.certificate.Hop.{Hop}
use Rattle.dr_cert.specs.Conditions.{AreHopsInOrder}
use Rattle.dr_cert_trace.specs.Found.{Carries}
use Rattle.dr_cert_trace.proofs.Carried.{Are, goes_on, none, none_in_order}
use Rattle.dr_cert_trace.proofs.contexts.contexts_of.Goals as goal

pub loop-hop-init : goal.loop-hop-init
loop-hop-init c =
    let P = Carries c.args.key.now c.args.pairs.now in
    subst (λ (xs : List Hop). Are P [] xs × (AreHopsInOrder c.args.hops.now → AreHopsInOrder xs)) (sym c.new-own.ensures.items) (none P, λ whole. none_in_order (λ a b. text_cmp (printed_hop a) (printed_hop b) ≡ Less))

pub loop-hop-preserved : goal.loop-hop-preserved
loop-hop-preserved c = goes_on (Carries c.args.key.now c.args.pairs.now) c.args.hops.now c.loop-hop.own.items c.loop-hop.hop-index c.hop-item.result c.loop-hop-test.true c.hop-item.is
    (λ a b. text_cmp (printed_hop a) (printed_hop b) ≡ Less) c.add_carried.new.own.items c.in_ok-add_carried.ensures c.loop-hop.invariant

pub returns-clause-each : goal.returns-clause-each
returns-clause-each c =
    let all : take c.loop-hop.hop-index c.args.hops.now ≡ c.args.hops.now = take_all _ _ (omega arith) in
    let are = subst (λ (xs : List Hop). Are (Carries c.args.key.now c.args.pairs.now) xs c.loop-hop.own.items) all c.loop-hop.invariant.0 in
    subst (λ (xs : List Hop). (hop : Hop) → Contains xs hop ↔ (Contains c.args.hops.now hop × Carries c.args.key.now c.args.pairs.now hop)) (sym c.from_vec.ensures) are.each

pub returns-clause-ordered : goal.returns-clause-ordered
returns-clause-ordered c whole = subst AreHopsInOrder (sym c.from_vec.ensures) (c.loop-hop.invariant.1 whole)
