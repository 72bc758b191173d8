-- The word `serve`: what it does at a node's ledger, and what it comes to.
use Rattle.std.specs.Prelude.{Result, Ok, Err}
use Rattle.dr_base.specs.Texts.{Text}
use Rattle.dr_cert.specs.Sealing.{Certified}
use Rattle.dr_desk.specs.Growing.{BeginWith}
use Rattle.dr_ledger.specs.Books.{Book}
use Rattle.dr_ledger.specs.Histories.{IsJournalled}
use Rattle.dr_ledger.specs.SiteRoutes.{site_routing}
use Rattle.dr_run_open.specs.Openings.{HaltsAs, IsAt}
use Rattle.dr_run_open.specs.declared.halt.Halt.{Halt}
use Rattle.dr_run_open.specs.declared.halt.Halt.TheVariants.{NoNode, Refused, Receipt, Failed}
use Rattle.dr_run_open.specs.declared.halt.Halt.TheVariants.{Memory}
use Rattle.dr_plan_model.specs.Networks.{Network}
use Rattle.dr_plan_model.specs.Plans.{NamesNoNode}
use Rattle.dr_ledger_report.specs.Reports.{IsReportOf}
use Rattle.dr_site.specs.Parts.{Part}

-- What a node has that served: its journal begins with the lines that it had, and is a history of
-- its site; the text is its report.
abbrev pub Grew : Part → Text → Book → Book → Text → Type 0
Grew site name before after text =
    BeginWith before.lines after.lines
    × ∥ IsJournalled (site_routing site) after ∥₁
    × IsReportOf name after text

-- why nothing listens at the node of that name: no node of the plan has it, it listens nowhere, or
-- its address can't be bound to
abbrev pub IsUnheard : Network → Text → Halt → Type 0
IsUnheard plan name NoNode = NamesNoNode plan name
IsUnheard plan name (Failed failure) = Unit {0}
IsUnheard plan name halt = ⊥

-- why a node that served has no report: a receipt that differs, a store that failed, or want of
-- memory
abbrev pub IsUnserved : Halt → Type 0
IsUnserved (Refused fault) = Unit {0}
IsUnserved Receipt = Unit {0}
IsUnserved Memory = Unit {0}
IsUnserved halt = ⊥

module _ {L : Type 0} (HoldsPlan HoldsCertificate : Text → Type 0) (MayOpen : L → Type 0)
    (site_of : L → Part) (book : L → Book) (stands : L → Type 0) (name : Text) where
  -- a ledger of the node was opened, of which, of its site and of the sealed plan, this is so
  abbrev pub AtOpened : (Certified → Part → L → Type 0) → Type 0
  AtOpened Holds =
      (sealed : Certified) × (site : Part) × (ledger : L)
      × IsAt HoldsPlan HoldsCertificate MayOpen site_of name sealed site ledger
      × Holds sealed site ledger

  -- `serve`: the report of what the node then has, whose journal goes on from the one that was
  -- opened; or a fault on the way; or why it doesn't come to that
  abbrev pub Serves : Result Text Halt → Type 0
  Serves (Ok report) = AtOpened (λ sealed site old.
      (new : L) × (stands new → Grew site name (book old) (book new) report))
  Serves (Err (Refused fault)) = AtOpened (λ sealed site old. Unit {0})
  Serves (Err Receipt) = AtOpened (λ sealed site old. Unit {0})
  Serves (Err halt) = HaltsAs HoldsPlan HoldsCertificate name halt
