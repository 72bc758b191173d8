use Rattle.dr_node.proofs.Keeping.{input_stays, input_stood}
use Rattle.dr_node.proofs.laws.stays_of_its_site.Goals as goal

pub returns : goal.returns
returns g c =
    let l = g.L.Ledger in
    λ what now link old new s t result h. (
      input_stays l.site l.book l.bodies l.armed l.trusts l.stands l.failed what now link old new s t result h,
      input_stood l.site l.book l.bodies l.armed l.trusts l.stands l.failed what now link old new s t result h,
    )
