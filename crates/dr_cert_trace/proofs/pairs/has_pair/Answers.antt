use Rattle.std.proofs.Common.{◌↔◌, Bool, IsTrue, sym, subst}
use Rattle.dr_cert_trace.specs.Found.{HasPair}
use Rattle.dr_cert_trace.proofs.PairSets.{members}
use Rattle.dr_cert_trace.proofs.pairs.has_pair.Goals as goal

pub returns : goal.returns
returns c =
    let P : Bool → Type 0 = λ b. IsTrue b ↔ HasPair c.args.pairs.now c.args.pair.now in
    subst P (sym c.contains.ensures) (members c.args.pairs.now c.args.pair.now)
