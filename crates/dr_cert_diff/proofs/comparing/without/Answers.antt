use Rattle.std.proofs.Common.{◌≡◌, ◌↔◌, rules, subst, List, Contains, take, arith}
use Rattle.std.proofs.lemmas.List.{take_all}
use Rattle.dr_base.specs.Texts.{Text}
use Rattle.dr_route.specs.Names.{HasName}
use Rattle.dr_cert_diff.proofs.Gathering.{more_without, none_without}
use Rattle.dr_cert_diff.proofs.comparing.without.Goals as goal

pub loop-name-init : goal.loop-name-init
loop-name-init c = none_without c.new-left.result c.args.set.now (search rules)

pub loop-name-preserved : goal.loop-name-preserved
loop-name-preserved c =
    more_without c.loop-name.left c.add_unless.new.names c.args.names.now c.args.set.now c.loop-name.name-index c.name-item.result c.loop-name-test.true c.name-item.is c.loop-name.invariant c.in_ok-add_unless.ensures

pub returns : goal.returns
returns c = λ name.
    let all : take c.loop-name.name-index c.args.names.now ≡ c.args.names.now = take_all _ _ (omega arith) in
    let found : HasName c.loop-name.left name ↔ (Contains c.args.names.now name × (Contains c.args.set.now name → ⊥)) =
    subst (λ (xs : List Text). HasName c.loop-name.left name ↔ (Contains xs name × (Contains c.args.set.now name → ⊥))) all (c.loop-name.invariant name) in
    let same = c.in_ok-rest.ensures.same name in
    (λ h. found.0 (same.0 h), λ w. same.1 (found.1 w))
