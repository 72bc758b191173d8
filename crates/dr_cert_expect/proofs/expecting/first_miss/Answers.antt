use Rattle.std.proofs.Common.{◌≡◌, subst, List, Option, take, arith}
use Rattle.std.specs.Prelude.{All}
use Rattle.std.proofs.lemmas.List.{take_all}
use Rattle.dr_plan_expect.specs.declared.words.Expectation.{Expectation}
use Rattle.dr_cert_expect.specs.declared.answer.Lack.{Lack}
use Rattle.dr_cert_expect.specs.Expected.{Holds}
use Rattle.dr_cert_expect.specs.Looking.{LooksOver}
use Rattle.dr_cert_expect.proofs.Naming.{one_more_so}
use Rattle.dr_cert_expect.proofs.expecting.first_miss.Goals as goal

pub loop-index-preserved : goal.loop-index-preserved
loop-index-preserved c =
    let plan = c.args.sealed.now.plan in
    let row = c.index-rows-index.result in
    let holds = subst (λ (o : Option Lack). LooksOver plan row o) c.in_default.is c.in_ok-lack.ensures in
    one_more_so (Holds plan) c.args.rows.now c.loop-index.index row c.loop-index-test.true c.index-rows-index.is c.loop-index.invariant holds

pub returns : goal.returns
returns c =
    let all : take c.loop-index.index c.args.rows.now ≡ c.args.rows.now = take_all _ _ (omega arith) in
    subst (λ (xs : List Expectation). All (Holds c.args.sealed.now.plan) xs) all c.loop-index.invariant
