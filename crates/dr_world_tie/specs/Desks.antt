-- A node's ledger as the desk of its sessions.
use Rattle.std.specs.Prelude.{◌≡◌, ◌⊎◌, Bool, true, false}
use Rattle.dr_base.specs.Texts.{Text}
use Rattle.dr_plan_model.specs.Networks.{Network}
use Rattle.dr_ledger.specs.PlanRoutes.{plan_routing}
use Rattle.dr_ledger.specs.Replies.{Arrives, Settles, Reads, IsAdmitted, IsWaiting}
use Rattle.dr_world_model.specs.Calls.{StoreOutcome, Written, Untried, Failed, store_outcome_of}
pub use Rattle.dr_session.specs.Ledgers.{Desk}
use Rattle.dr_session.specs.Ledgers.{Hands, Firsts, RoutedStep}
use Rattle.dr_ledger.specs.Items.{instance_of}
use Rattle.dr_ledger.specs.SiteRoutes.{site_routing}
use Rattle.dr_site.specs.Parts.{Part, IsPartOf}
use Rattle.dr_site.specs.Sites.{IsCertified}
use Rattle.dr_plan_sound.specs.declared.certificate.Certificate.{Certificate}
use Rattle.dr_session.specs.Desks.{DeskCall, DeskAnswer, Arrive, Next, Settle, Arrival, Upcoming}
use Rattle.dr_session.specs.Desks.{Settling, Due, First}

-- Whether it is to refuse after a call: the message world's rule at one node.
abbrev pub ArmedBy : Type 0 → Bool → StoreOutcome → Bool → Type 0
ArmedBy Would old Written new = (old ≡ false) × (new ≡ old)
ArmedBy Would old Untried new = new ≡ old
ArmedBy Would old Failed new = (new ≡ old) ⊎ (Would × (old ≡ true) × (new ≡ false))

-- What a call does at the node of that name. Another kind of answer can't come.
abbrev pub LedgerStep : Network → Text → Desk → DeskCall → DeskAnswer → Desk → Type 0
LedgerStep plan name old (Arrive caller item) (Arrival reply) new =
    Arrives (plan_routing plan name) caller (instance_of item) old.book reply new.book
    × ArmedBy (IsAdmitted (plan_routing plan name) caller (instance_of item) old.book) old.armed
    (store_outcome_of reply) new.armed
LedgerStep plan name old (Next dest now) (Upcoming due) new =
    Reads due (Hands old.book dest now) × (new ≡ old)
LedgerStep plan name old (Due dest now) (First found) new =
    Reads found (Firsts old.book dest now) × (new ≡ old)
LedgerStep plan name old (Settle uid dest outcome now) (Settling answer) new =
    Settles uid dest outcome now old.book answer new.book
    × ArmedBy (IsWaiting old.book uid dest) old.armed (store_outcome_of answer) new.armed
LedgerStep plan name old call answer new = ⊥

-- What a ledger does by its site's lines, flows and rules is what its node does by the plan.
abbrev pub SiteStepsArePlanSteps : Type 0
SiteStepsArePlanSteps =
    (plan : Network) (certificate : Certificate) (part : Part)
    → IsCertified plan certificate
    → IsPartOf plan certificate part
    → (old new : Desk) (call : DeskCall) (answer : DeskAnswer)
    → RoutedStep (site_routing part) old call answer new
    → LedgerStep plan part.name old call answer new
