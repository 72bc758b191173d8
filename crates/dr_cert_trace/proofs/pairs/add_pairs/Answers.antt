use Rattle.std.proofs.Common.{◌≡◌, List, subst, take, Contains, arith}
use Rattle.std.proofs.lemmas.List.{take_all}
use Rattle.dr_base.specs.Texts.{Text}
use Rattle.dr_cert_trace.specs.Found.{AddsPairs}
use Rattle.dr_cert_trace.proofs.PairSets.{go_on, none_more}
use Rattle.dr_cert_trace.proofs.pairs.add_pairs.Goals as goal

pub loop-to-init : goal.loop-to-init
loop-to-init c = none_more c.args.pairs.now c.args.from.now

pub loop-to-preserved : goal.loop-to-preserved
loop-to-preserved c = go_on c.args.pairs.now c.loop-to.pairs c.add_pair.new.pairs c.args.from.now c.args.all.now c.loop-to.to-index c.to-item.result c.loop-to-test.true c.to-item.is
    c.loop-to.invariant c.in_ok-add_pair.ensures

pub returns : goal.returns
returns c =
    let all : take c.loop-to.to-index c.args.all.now ≡ c.args.all.now = take_all _ _ (omega arith) in
    subst (λ (xs : List Text). AddsPairs c.args.pairs.now c.loop-to.pairs c.args.from.now (λ name. Contains xs name)) all c.loop-to.invariant
