use Rattle.std.proofs.Common.{◌≡◌, rules, subst, sym}
use Rattle.dr_store_sealed.specs.InTables.{IsSealText, bytes_of_seal}
use Rattle.dr_store_sealed.proofs.InTables.{seals_are_read_back}
use Rattle.dr_store_calls.specs.Owners.{IsPlanWith}
use Rattle.dr_store_calls.proofs.sealing.sealed_cell.Goals as goal

pub returns-clause-cell : goal.returns-clause-cell
returns-clause-cell c = λ marked.
    let last = c.args.last.now in
    let mark = c.args.mark.now in
    let text = c.deref.result.now in
    let is : text ≡ bytes_of_seal last = search rules in
    let long : IsSealText text = subst IsSealText (sym is) (seals_are_read_back last c.in_ok-seal.ensures.of_code).0 in
    let made = c.in_ok-cell.cell.items in
    subst (λ d. IsPlanWith mark (bytes_of_seal last) d made) c.digest.ensures
    (subst (λ s. IsPlanWith mark s c.digest.result.now made) is (c.in_ok-cell.ensures marked long))
