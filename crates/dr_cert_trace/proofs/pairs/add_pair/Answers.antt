use Rattle.std.proofs.Common.{◌≡◌, subst, true}
use Rattle.std.specs.BTreeSet.{Updates}
use Rattle.dr_base.specs.Texts.{Text}
use Rattle.dr_cert_trace.proofs.PairSets.{adds, one_more, pair_cmp}
use Rattle.dr_cert_trace.proofs.pairs.add_pair.Goals as goal

pub returns : goal.returns
returns c =
    let k : Text × Text = (c.in_ok-clone.field-0, c.in_ok-clone-2.field-0) in
    let same : k ≡ (c.args.from.now, c.args.to.now) = λ i. (c.in_ok-clone.ensures i, c.in_ok-clone-2.ensures i) in
    let U : Text × Text → Type 0 = λ q. Updates pair_cmp c.args.pairs.now c.insert.new.self q true in
    adds c.args.pairs.now c.insert.new.self c.args.from.now c.args.to.now (one_more c.args.pairs.now c.insert.new.self (c.args.from.now, c.args.to.now) (subst U same c.in_ok-insert.ensures.updates))
