use Rattle.std.proofs.Common.{◌≡◌, ℕ, sym, subst, rules, arith, List}
use Rattle.dr_base.specs.Texts.{Text}
use Rattle.dr_cert_trace.specs.Reaches.{AreWithin, PassesAll}
use Rattle.dr_cert_trace.proofs.Spreading.{AreAfter, at_start, one_more, all_within}
use Rattle.dr_cert_trace.proofs.reaching.spread.Goals as goal

pub loop-done-init : goal.loop-done-init
loop-done-init c =
    subst (λ (xs : List (Text × Text)). AreAfter c.args.plan.now c.args.site.now c.args.key.now 0 xs c.new-nodes.result c.new-keeps.result) (sym c.in_ok-front.ensures)
    (at_start c.args.plan.now c.args.site.now c.args.key.now c.new-nodes.result c.new-keeps.result (search rules) (search rules))

pub loop-done-preserved : goal.loop-done-preserved
loop-done-preserved c =
    let plan = c.args.plan.now in
    let key = c.args.key.now in
    let now = c.loop-done in
    let step : PassesAll plan key now.front.items c.in_ok-next.next now.nodes c.pass_all.new.nodes now.keeps c.pass_all.new.keeps =
    subst (λ (xs : List (Text × Text)). PassesAll plan key xs c.in_ok-next.next now.nodes c.pass_all.new.nodes now.keeps c.pass_all.new.keeps) c.as_slice.ensures.value c.in_ok-next.ensures in
    one_more plan c.args.site.now key now._done now.front.items c.in_ok-next.next now.nodes c.pass_all.new.nodes now.keeps c.pass_all.new.keeps now.invariant step
    c.in_ok-front-2.front.items c.in_ok-front-2.ensures

pub returns : goal.returns
returns c =
    let plan = c.args.plan.now in
    let key = c.args.key.now in
    let now = c.loop-done in
    let all : now._done ≡ c.args.hops = omega (arith, c.loop-done-test.false, c.loop-done.auto._done-end) in
    let step : PassesAll plan key now.front.items c.in_ok-pass_all.field-0 now.nodes c.pass_all-2.new.nodes now.keeps c.pass_all-2.new.keeps =
    subst (λ (xs : List (Text × Text)). PassesAll plan key xs c.in_ok-pass_all.field-0 now.nodes c.pass_all-2.new.nodes now.keeps c.pass_all-2.new.keeps) c.as_slice-2.ensures.value c.in_ok-pass_all.ensures in
    subst (λ (n : ℕ). AreWithin plan c.args.site.now key n c.pass_all-2.new.nodes c.pass_all-2.new.keeps) all
    (all_within plan c.args.site.now key now._done now.front.items c.in_ok-pass_all.field-0 now.nodes c.pass_all-2.new.nodes now.keeps c.pass_all-2.new.keeps now.invariant step)
