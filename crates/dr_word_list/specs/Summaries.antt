-- How much a node has, as it is printed: a number for each kind, and for each node to which it
-- sends how the rows for that are.
use Rattle.std.specs.Prelude.{◌≡◌, ℕ, List, [], ◌∷◌, ◌++◌, length, codes, decimal, Option}
use Rattle.std.specs.Prelude.{Some, Result, Ok, Err}
use Rattle.std.specs.FinMap as map
use Rattle.dr_base.specs.Texts.{Text}
use Rattle.dr_ledger.specs.Books.{Book, Row}
use Rattle.dr_ledger.specs.Pairs.{Pair, pair_cmp}
use Rattle.dr_ledger.specs.Replies.{AreKept, Lists}
use Rattle.dr_ledger_report.specs.Reports.{line_of, number_field, name_line}
use Rattle.dr_ledger_views.specs.Views.{IsLeast, dues, how_many}
use Rattle.dr_site.specs.Parts.{Part}
use Rattle.dr_run_open.specs.Hops.{hops_from}
use Rattle.dr_run_open.specs.Openings.{HaltsAs}
use Rattle.dr_word_list.specs.Works.{AtNode, AtSite}
use Rattle.dr_ledger_views.specs.declared.stage.Stage.TheVariants as stages
use Rattle.dr_run_open.specs.declared.halt.Halt.{Halt}
use Rattle.dr_run_open.specs.declared.halt.Halt.TheVariants.{Refused}
use Rattle.dr_run_open.specs.declared.hops.NextHop.{NextHop}

-- the line of a kind, with how many there are
abbrev pub count_line : Text → ℕ → Text
count_line word count = line_of word (decimal count ∷ [])

-- the line of a node to which another one sends: how many rows for it wait, are held and are done,
-- and from which moment on the first one that waits is due
abbrev pub queue_line : Text → ℕ → ℕ → ℕ → Option ℕ → Text
queue_line dest waiting held done oldest =
    line_of (codes "queue") (dest ∷ codes "waiting" ∷ decimal waiting ∷ codes "held" ∷ decimal held
    ∷ codes "done" ∷ decimal done ∷ codes "oldest" ∷ number_field oldest ∷ [])

-- the line of that node, by these rows
abbrev pub IsQueueLine : List Row → Text → Text → Type 0
IsQueueLine rows dest line =
    (oldest : Option ℕ) × IsLeast (dues rows dest) oldest
    × (line
    ≡ queue_line dest (how_many rows dest (Some stages.Waiting))
    (how_many rows dest (Some stages.Held)) (how_many rows dest (Some stages.Done)) oldest)

-- the lines of the nodes to which the hops lead, in the order of the hops
abbrev pub AreQueueLines : List Row → List NextHop → Text → Type 0
AreQueueLines rows [] text = text ≡ []
AreQueueLines rows (hop ∷ hops) text =
    (here : Text) × (rest : Text)
    × IsQueueLine rows hop.dest here
    × AreQueueLines rows hops rest
    × (text ≡ here ++ rest)

-- the lines of a node of this name with so many arrivals and kept instances, these rows, and so
-- many lines in its journal
abbrev pub IsSummary : Text → List NextHop → ℕ → ℕ → List Row → ℕ → Text → Type 0
IsSummary name hops arrivals kept rows lines text =
    (queues : Text)
    × AreQueueLines rows hops queues
    × (text
    ≡ name_line name ++ count_line (codes "arrivals") arrivals ++ count_line (codes "kept") kept
    ++ queues ++ count_line (codes "lines") lines)

-- the text says how much the node of this name has, whose hops these are, and whose book this is
abbrev pub IsSummaryOf : Text → List NextHop → Book → Text → Type 0
IsSummaryOf name hops book text =
    (arrivals : List Pair) × (kept : List (Text × ℕ))
    × Lists pair_cmp book.arrivals arrivals
    × AreKept book kept
    × IsSummary name hops (length arrivals) (length kept) (map.entries book.rows)
    (length book.lines) text

module _ {L : Type 0} (HoldsPlan HoldsCertificate : Text → Type 0) (MayOpen : L → Type 0)
    (site_of : L → Part) (book : L → Book) (stands : L → Type 0) (name : Text) where
  -- `list --summary`: how much the node's book has, which stays as it is; or why that isn't told
  abbrev pub Summarizes : Result Text Halt → Type 0
  Summarizes (Ok summary) = AtSite HoldsPlan HoldsCertificate MayOpen site_of book stands name
      (λ sealed site old new. stands new
      → (book new ≡ book old)
      × IsSummaryOf name (hops_from site sealed.plan.nodes) (book new) summary)
  Summarizes (Err (Refused fault)) = AtNode HoldsPlan HoldsCertificate MayOpen site_of book stands
      name (λ old new. stands new → book new ≡ book old)
  Summarizes (Err halt) = HaltsAs HoldsPlan HoldsCertificate name halt
