-- What a site's targets are.
use Rattle.std.specs.Prelude.{◌≡◌, ◌↔◌, List, Contains}
use Rattle.dr_base.specs.Texts.{Text, IsInByteOrder}
use Rattle.dr_route.specs.declared.key.Key.{Key}
use Rattle.dr_site.specs.Parts.{Part}
use Rattle.dr_site.specs.Routing.{SendsFrom}
use Rattle.dr_ledger.specs.PlanRoutes.{targets_by}
use Rattle.dr_ledger.specs.SiteRoutes.{site_routing}
use Rattle.dr_ledger.proofs.PlanRouting.{one_list, targets_by_are_in_order, targets_by_are_sent_to}

pub targets_are : (part : Part) (caller : Text) (key : Key) (to : List Text) → ((dest : Text) → Contains to dest ↔ SendsFrom part caller key dest) → IsInByteOrder to → to ≡ (site_routing part).targets caller key
targets_are part caller key to says ordered =
    let sent = targets_by_are_sent_to part.flows part.rules part.name caller key in
    one_list to (targets_by part.flows part.rules part.name caller key) ordered (targets_by_are_in_order part.flows part.rules part.name caller key)
    (λ dest. (λ h. (sent dest).1 ((says dest).0 h), λ h. (says dest).1 ((sent dest).0 h)))
