use Rattle.std.proofs.Common.{◌≡◌, refl, subst, List, Contains, take, arith}
use Rattle.std.specs.Prelude.{All}
use Rattle.std.proofs.lemmas.Bool.{false≢true}
use Rattle.std.proofs.lemmas.List.{take_all}
use Rattle.dr_base.specs.Texts.{Text}
use Rattle.dr_cert_expect.proofs.Naming.{one_more_so}
use Rattle.dr_cert_expect.proofs.names.first_outside.Goals as goal

pub loop-name-preserved : goal.loop-name-preserved
loop-name-preserved c =
    one_more_so (λ (name : Text). Contains c.args.set.now name) c.args.names.now c.loop-name.name-index c.name-item.result c.loop-name-test.true c.name-item.is c.loop-name.invariant
    (c.if-not-is_in_set.ensures.0 refl)

pub returns : goal.returns
returns c =
    let all : take c.loop-name.name-index c.args.names.now ≡ c.args.names.now = take_all _ _ (omega arith) in
    subst (λ (xs : List Text). All (λ (name : Text). Contains c.args.set.now name) xs) all c.loop-name.invariant
