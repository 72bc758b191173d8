use Rattle.std.proofs.Common.{◌≡◌, ◌-◌, length, subst, arith}
use Rattle.dr_route.proofs.Finding.{AreWithin, longest_found, last_answer}
use Rattle.dr_route.proofs.search.longest.Goals as goal

pub returns-in-Some : goal.returns-in-Some
returns-in-Some c = longest_found c.args.prefixes.now c.args.value.now c.in-Some.prefix.now (length c.args.value.now - c.loop-fewer.fewer)
    c.loop-fewer.invariant (omega arith) c.in-Some.ensures.0 c.in-Some.ensures.1

pub returns : goal.returns
returns c =
    let none : length c.args.value.now - c.loop-fewer.fewer ≡ 0 = omega (arith, c.loop-fewer-test.false) in
    last_answer c.args.prefixes.now c.args.value.now c.find-2.result (subst (AreWithin c.args.prefixes.now c.args.value.now) none c.loop-fewer.invariant) c.find-2.ensures
