use Rattle.std.proofs.Common.{◌≡◌, arith, inl, inr, ◌<◌, length, take}
use Rattle.std.proofs.lemmas.List.{take_all}
use Rattle.dr_route.proofs.NameSets.{one_more}
use Rattle.dr_route.proofs.names.add_names.Goals as goal

pub loop-name-init : goal.loop-name-init
loop-name-init c = λ m. (λ h. inl h, λ x. elim x [ inl y ↦ y | inr y ↦ (let lt : y.0 < 0 = y.1 in absurd (omega arith)) ])

pub loop-name-preserved : goal.loop-name-preserved
loop-name-preserved c = one_more c.args.names.now c.loop-name.names c.add_name.new.names c.args.more.now c.loop-name.name-index c.name-item.result c.loop-name-test.true c.name-item.is
    c.in_ok-add_name.ensures c.loop-name.invariant

pub returns : goal.returns
returns c =
    let n : c.loop-name.name-index ≡ length c.args.more.now = omega arith in
    let all : take c.loop-name.name-index c.args.more.now ≡ c.args.more.now = take_all _ _ (omega arith) in
    λ m. rw all at (c.loop-name.invariant m)
