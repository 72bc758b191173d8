-- The word `send`: what it does at a node's ledger, what it prints, and what it comes to.
use Rattle.std.specs.Prelude.{◌≡◌, ◌∷◌, ◌++◌, [], ℕ, Bool, List, codes, Result, Ok, Err}
use Rattle.std.specs.declared.io.Error.{Error}
use Rattle.std.specs.declared.option.Option.{Option}
use Rattle.std.specs.Io.KnownBytes.{Appends}
use Rattle.dr_base.specs.Texts.{Text}
use Rattle.dr_route.specs.Routes.{local}
use Rattle.dr_ledger.specs.Books.{Book}
use Rattle.dr_ledger.specs.Items.{instance_of}
use Rattle.dr_ledger.specs.Replies.{Arrives}
use Rattle.dr_ledger.specs.SiteRoutes.{site_routing}
use Rattle.dr_ledger.specs.declared.content.Job.{Job}
use Rattle.dr_ledger.specs.declared.fault.LedgerFault.{LedgerFault}
use Rattle.dr_ledger.specs.declared.item.Arrived.{Arrived}
use Rattle.dr_ledger.specs.declared.item.Arrived.TheVariants.{New, Again}
use Rattle.dr_run_open.specs.Hops.{hops_from}
use Rattle.dr_run_open.specs.Instances.{ReadsInstance}
use Rattle.dr_run_open.specs.Openings.{HaltsAs}
use Rattle.dr_run_open.specs.declared.halt.Halt.{Halt}
use Rattle.dr_run_open.specs.declared.halt.Halt.TheVariants.{NoInstance, Refused, Failed, Memory}
use Rattle.dr_run_open.specs.declared.hops.NextHop.{NextHop}
use Rattle.dr_ledger_report.specs.Reports.{IsReportOf}
use Rattle.dr_run_serve.specs.Rounds.{VisitsEach}
use Rattle.dr_run_serve.specs.Visits.{Visits}
use Rattle.dr_run_serve.specs.declared.tallied.OwnPort.{OwnPort}
use Rattle.dr_session.specs.Desks.{DeskCall, DeskAnswer}
use Rattle.dr_session.specs.declared.ends.Heard.{Heard}
use Rattle.dr_site.specs.Parts.{Part}
use Rattle.dr_word_serve.specs.Serving.{AtOpened}

-- what is printed of an arrival
abbrev pub arrived_line : Arrived → Text
arrived_line New = codes "new" ++ (10 ∷ [])
arrived_line Again = codes "again" ++ (10 ∷ [])

-- what comes of a file that is to have an instance
abbrev pub ReadsFrom : (Text → Type 0) → Result Job Halt → Type 0
ReadsFrom HoldsFile (Ok item) = (text : Text) × HoldsFile text × ReadsInstance text (Ok item)
ReadsFrom HoldsFile (Err (NoInstance fault)) =
    (text : Text) × HoldsFile text × ReadsInstance text (Err fault)
ReadsFrom HoldsFile (Err (Failed failure)) = Unit {0}
ReadsFrom HoldsFile (Err halt) = ⊥

-- why an instance isn't sent to the end: the ledger refused, the output failed, or want of memory
abbrev pub IsUnsent : Halt → Type 0
IsUnsent (Refused fault) = Unit {0}
IsUnsent (Failed failure) = Unit {0}
IsUnsent Memory = Unit {0}
IsUnsent halt = ⊥

-- each hop of the site is visited once, in order, up to the last, over what a connect to its
-- address comes to; by its port's count it is known whether a session settled a row
abbrev pub VisitsBy : {K L : Type 0} (connects : Text → Result K Error → Type 0)
    (hears : K → Heard → K → Type 0)
    (sends : K → List ℕ → Bool → K → Type 0) (closes : K → K → Type 0)
    (step : OwnPort L → DeskCall → DeskAnswer → OwnPort L → Type 0)
    (finds : OwnPort L → Text → ℕ → Result (Option Text) LedgerFault → OwnPort L → Type 0)
    (tells : ℕ → Type 0)
    → Part → List NextHop → OwnPort L → OwnPort L → Type 0
VisitsBy connects hears sends closes step finds tells site hops s t = VisitsEach
    (λ hop a came b.
    Visits connects hears sends closes step finds (λ port. port.taken) tells site hop.dest
    hop.address a came b) hops s
    (Ok tt) t

module _ {L : Type 0} (book : L → Book) (stands : L → Type 0)
    (VisitsAll : Part → List NextHop → OwnPort L → OwnPort L → Type 0) where
  -- all hops are visited, and the text is the report of what the ledger then has
  abbrev pub ReportsVisited : Part → List NextHop → OwnPort L → Text → Type 0
  ReportsVisited site hops first report =
      (visited : OwnPort L) × (last : L)
      × VisitsAll site hops first visited
      × (stands last
      → stands visited.desk.ledger
      × (book last ≡ book visited.desk.ledger)
      × IsReportOf site.name (book last) report)

  -- an instance that enters at the node arrives at its ledger, that is printed, and then all hops
  -- are visited
  abbrev pub SentFrom : Part → List NextHop → Job → L → Text → Option Text → Option Text → Type 0
  SentFrom site hops item old report before after =
      (arrived : Arrived) × (first : OwnPort L)
      × (stands first.desk.ledger
      → Arrives (site_routing site) local (instance_of item) (book old) (Ok arrived)
      (book first.desk.ledger))
      × Appends before after (arrived_line arrived)
      × ReportsVisited site hops first report

module _ {L : Type 0} (HoldsPlan HoldsCertificate HoldsFile : Text → Type 0) (MayOpen : L → Type 0)
    (site_of : L → Part) (book : L → Book) (stands : L → Type 0)
    (VisitsAll : Part → List NextHop → OwnPort L → OwnPort L → Type 0) (name : Text) where
  -- `send`: the instance in the file arrives, each hop of the site to a node of the plan is
  -- visited, and the report is what the node then has; or the file has no instance, or the ledger
  -- refuses, or why it doesn't come to that. What is printed on the way stands between what the
  -- output had before and after.
  abbrev pub Sends : Result Text Halt → Option Text → Option Text → Type 0
  Sends (Ok report) before after = AtOpened HoldsPlan HoldsCertificate MayOpen site_of book stands
      name (λ sealed site old. (item : Job)
      × ReadsFrom HoldsFile (Ok item)
      × SentFrom book stands VisitsAll site (hops_from site sealed.plan.nodes) item old report
      before after)
  Sends (Err (NoInstance fault)) before after = AtOpened HoldsPlan HoldsCertificate MayOpen site_of
      book stands name (λ sealed site old. ReadsFrom HoldsFile (Err (NoInstance fault)))
  Sends (Err (Refused fault)) before after = AtOpened HoldsPlan HoldsCertificate MayOpen site_of
      book stands name (λ sealed site old. (item : Job) × ReadsFrom HoldsFile (Ok item))
  Sends (Err halt) before after = HaltsAs HoldsPlan HoldsCertificate name halt
