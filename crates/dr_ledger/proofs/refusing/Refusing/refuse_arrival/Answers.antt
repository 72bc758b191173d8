use Rattle.std.proofs.Common.{ap, subst, ◌∙◌}
use Rattle.dr_ledger.proofs.Refused.{nothing_lost}
use Rattle.dr_ledger.proofs.refusing.Refusing.refuse_arrival.Goals as goal

pub returns-in-Ok-clause-loses_none : goal.returns-in-Ok-clause-loses_none
returns-in-Ok-clause-loses_none g c stands =
    let l = c.args.self.now.ledger in
    let m = c.refuse.new.self.ledger in
    let same = c.admits.ensures.same (subst g.L.Ledger.stands c.refuse.ensures.ledger stands) in
    nothing_lost (g.L.Ledger.book l) (g.L.Ledger.book m) (g.L.Ledger.bodies l) (g.L.Ledger.bodies m)
    (ap g.L.Ledger.book c.refuse.ensures.ledger ∙ same.0) (ap g.L.Ledger.bodies c.refuse.ensures.ledger ∙ same.1)

pub returns-in-Err-clause-loses_none : goal.returns-in-Err-clause-loses_none
returns-in-Err-clause-loses_none g c stands =
    let l = c.args.self.now.ledger in
    let m = c.admits.new.self in
    let same = c.admits.ensures.same stands in
    nothing_lost (g.L.Ledger.book l) (g.L.Ledger.book m) (g.L.Ledger.bodies l) (g.L.Ledger.bodies m) same.0 same.1
