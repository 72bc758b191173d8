-- What a running node answers, as lines: JSON's objects, and figures for Prometheus.
use Rattle.std.specs.Prelude.{ℕ, ◌-◌, ◌*◌, ◌/◌, ◌%◌, ◌^◌, ◌==◌, min, ◌∷◌, ◌++◌, List, [], Bool}
use Rattle.std.specs.Prelude.{Option}
use Rattle.std.specs.Prelude.{None, Some, if◌then◌else◌}
use Rattle.std.specs.Prelude.{codes, decimal, flat_map}
use Rattle.dr_base.specs.Texts.{Text}
use Rattle.dr_ledger.specs.Pairs.{Pair}
use Rattle.hex.specs.Hex.{encode_upper}
use Rattle.dr_ledger.specs.declared.item.Cause.{Cause}
use Rattle.dr_ledger.specs.declared.item.Cause.TheVariants as cause
use Rattle.dr_ledger.specs.declared.item.Progress.{Progress}
use Rattle.dr_ledger.specs.declared.item.Progress.TheVariants as progress
use Rattle.dr_ledger_views.specs.declared.moments.Origin.{Origin}
use Rattle.dr_ledger_text.specs.Members.{flag, number, word}
use Rattle.dr_run_answer.specs.declared.association.OpenAssociation.{OpenAssociation}
use Rattle.dr_run_answer.specs.declared.intake.Brought.{Brought}
use Rattle.dr_run_answer.specs.declared.intake.Recent.{Recent}
use Rattle.dr_run_answer.specs.declared.json.Counts.{Counts}
use Rattle.dr_run_answer.specs.declared.json.Identity.{Identity}
use Rattle.dr_run_answer.specs.declared.json.Queue.{Queue}
use Rattle.dr_run_answer.specs.declared.json.Visited.{Visited}
use Rattle.dr_base_quoted.specs.Quoting.{quoted}
use Rattle.dr_ledger_timed.specs.declared.meter.Timing.{Timing}

-- an object's first member, which is a text; and its end, with which its line ends
abbrev pub begun : Text → Text → Text
begun name value = codes "{\"" ++ name ++ codes "\":" ++ quoted value

abbrev pub ended : Text
ended = codes "}\n"

-- why a row is held: the status of the response in four hex digits, or that the association had no
-- presentation context
abbrev pub cause_part : Cause → Text
cause_part (cause.Status status) =
    word (codes "cause") (encode_upper (status / 256 ∷ status % 256 ∷ []))
cause_part cause.NoContext = word (codes "cause") (codes "no-context")
cause_part cause.Unreadable = word (codes "cause") (codes "unreadable")

-- a row waits: how often it was tried, and from when on it is due
abbrev pub waiting_part : ℕ → ℕ → Text
waiting_part tries due =
    word (codes "state") (codes "waiting") ++ number (codes "tries") tries
    ++ number (codes "due") due

-- a row is held, and why
abbrev pub held_part : Cause → Text
held_part why = word (codes "state") (codes "held") ++ cause_part why

-- how far a row is
abbrev pub progress_part : Progress → Text
progress_part (progress.Waiting tries due) = waiting_part tries due
progress_part (progress.Held why) = held_part why
progress_part progress.Done = word (codes "state") (codes "done")
progress_part progress.Dropped = word (codes "state") (codes "dropped")

-- the line of a row
abbrev pub row_line : Pair × Progress → Text
row_line row =
    begun (codes "uid") row.0.0 ++ word (codes "dest") row.0.1 ++ progress_part row.1 ++ ended

-- the moment (milliseconds) when an instance came, where it is known
abbrev pub came_part : Option ℕ → Text
came_part None = []
came_part (Some moment) = number (codes "came") moment

-- where an instance is from: its class, and when it came
abbrev pub origin_part : Option Origin → Text
origin_part None = []
origin_part (Some origin) = word (codes "class") origin.class ++ came_part origin.moment

-- the line of an instance: its data set is there; all its rows are over; where it is from
abbrev pub instance_line : Text → Bool → Bool → Option Origin → Text
instance_line uid body over origin =
    begun (codes "instance") uid ++ flag (codes "body") body ++ flag (codes "over") over
    ++ origin_part origin ++ ended

-- a caller who brought it
abbrev pub from_line : Text → Text
from_line caller = begun (codes "from") caller ++ ended

-- When a row was tried last that is due at that moment after so many tries: it waits 1, 2, 4, ..
-- and at most 300 seconds. Nothing is known of one that wasn't tried, or doesn't wait.
abbrev pub tried_at : ℕ → ℕ → Option ℕ
tried_at tries due =
    if tries == 0 then None else Some (due - 1000 * min 300 (2 ^ (tries - 1)))

abbrev pub last_try : Progress → Option ℕ
last_try (progress.Waiting tries due) = tried_at tries due
last_try (progress.Held why) = None
last_try progress.Done = None
last_try progress.Dropped = None

abbrev pub tried_part : Option ℕ → Text
tried_part None = []
tried_part (Some moment) = number (codes "tried") moment

-- the line of a row of an instance that is asked for: that of the row, and when it was tried last
abbrev pub own_row_line : Pair × Progress → Text
own_row_line row =
    begun (codes "uid") row.0.0 ++ word (codes "dest") row.0.1 ++ progress_part row.1
    ++ tried_part (last_try row.1) ++ ended

-- the line of a node of that plan, whose program has that version, and that serves since that
-- moment
abbrev pub node_line : Text → Text → Text → ℕ → Counts → Text
node_line name plan version since counts =
    begun (codes "node") name ++ word (codes "plan") plan ++ word (codes "version") version
    ++ number (codes "since") since
    ++ number (codes "arrivals") counts.arrivals ++ number (codes "kept") counts.kept
    ++ number (codes "lines") counts.lines ++ number (codes "failures") counts.failures ++ ended

-- the same of an identity
abbrev pub line_of_node : Identity → Counts → Text
line_of_node node counts =
    node_line node.name.now node.plan.now node.version.now node.since counts

-- from when on the first row is due that waits, if one does
abbrev pub due_part : Option ℕ → Text
due_part None = []
due_part (Some due) = number (codes "due") due

-- when the last visit to a node ended, and what it came to, if there was one
abbrev pub visit_part : Option Visited → Text
visit_part None = []
visit_part (Some visit) = number (codes "visited") visit.at ++ word (codes "came") visit.came.now

-- for how many seconds the row that is there longest has waited, where one waits
abbrev pub waited_part : Option ℕ → Text
waited_part None = []
waited_part (Some seconds) = number (codes "waited") seconds

-- the line of the rows to a node: how many wait, are held and are done
abbrev pub queue_line : Text → ℕ → ℕ → ℕ → Option ℕ → Option ℕ → Option Visited → Text
queue_line dest waiting held done due waited visit =
    begun (codes "dest") dest ++ number (codes "waiting") waiting ++ number (codes "held") held
    ++ number (codes "done") done ++ due_part due ++ waited_part waited ++ visit_part visit
    ++ ended

-- the same of a queue
abbrev pub line_of_queue : Queue → Text
line_of_queue queue =
    queue_line queue.dest.now queue.waiting queue.held queue.done queue.due queue.waited
    queue.visit

-- the line of an association that is open
abbrev pub association_line : OpenAssociation → Text
association_line association =
    begun (codes "caller") association.caller ++ word (codes "address") association.address
    ++ number (codes "session") association.session
    ++ number (codes "since") association.since ++ number (codes "stored") association.stored
    ++ number (codes "again") association.again ++ number (codes "refused") association.refused
    ++ ended

-- the line of what came within the last hour from a caller, of a modality
abbrev pub recent_line : Recent → Text
recent_line recent =
    begun (codes "from") recent.caller ++ word (codes "modality") recent.modality
    ++ number (codes "stored") recent.stored ++ number (codes "refused") recent.refused ++ ended

-- an act was done; a node is well; a fault
abbrev pub done_line : Text
done_line = codes "{\"done\":true}\n"

abbrev pub well_line : Text
well_line = codes "{\"well\":true}\n"

abbrev pub fault_line : Text → Text
fault_line fault = begun (codes "fault") fault ++ ended

-- a node to which a row is due wasn't visited for long
abbrev pub late_line : Text → Text
late_line dest = begun (codes "fault") (codes "Late") ++ word (codes "dest") dest ++ ended

-- ---- the text format of Prometheus

-- what stands before the number of a figure of the whole node, of that kind
abbrev pub figure_head : Text → Text → Text
figure_head name kind =
    codes "# TYPE " ++ name ++ codes " " ++ kind ++ codes "\n" ++ name ++ codes " "

-- a figure of the whole node, of that kind
abbrev pub figure : Text → Text → ℕ → Text
figure name kind value = figure_head name kind ++ decimal value ++ codes "\n"

-- how much a node has
abbrev pub figures : Counts → Text
figures counts =
    figure (codes "dr_router_arrivals") (codes "gauge") counts.arrivals
    ++ figure (codes "dr_router_kept") (codes "gauge") counts.kept
    ++ figure (codes "dr_router_journal_lines") (codes "counter") counts.lines
    ++ figure (codes "dr_router_store_failures") (codes "counter") counts.failures

-- the last three digits of a number
abbrev pub three_digits : ℕ → Text
three_digits value =
    decimal (value / 100 % 10) ++ decimal (value / 10 % 10) ++ decimal (value % 10)

-- so many microseconds, in seconds
abbrev pub in_seconds : ℕ → Text
in_seconds time =
    decimal (time / 1000000) ++ codes "." ++ three_digits (time / 1000 % 1000)
    ++ three_digits (time % 1000)

-- a time of the whole node, of that kind
abbrev pub seconds_figure : Text → Text → ℕ → Text
seconds_figure name kind time = figure_head name kind ++ in_seconds time ++ codes "\n"

-- how many calls locked the ledger, for how long in all, and for how long the longest did
abbrev pub lock_figures : Timing → Text
lock_figures timing =
    figure (codes "dr_router_lock_calls_total") (codes "counter") timing.calls
    ++ seconds_figure (codes "dr_router_lock_seconds_total") (codes "counter") timing.total
    ++ seconds_figure (codes "dr_router_lock_longest_seconds") (codes "gauge") timing.longest

-- how many associations are open
abbrev pub open_figure : ℕ → Text
open_figure count = figure (codes "dr_router_associations") (codes "gauge") count

-- a figure's name with its first label, a second label, and what the figure is
abbrev pub label_part : Text → Text → Text → Text
label_part name label of = name ++ codes "{" ++ label ++ codes "=" ++ quoted of

abbrev pub other_part : Text → Text → Text
other_part other to = codes "," ++ other ++ codes "=" ++ quoted to

abbrev pub value_part : ℕ → Text
value_part value = codes "} " ++ decimal value ++ codes "\n"

-- a figure of one of several, which its label names, or its two labels
abbrev pub labelled : Text → Text → Text → ℕ → Text
labelled name label of value = label_part name label of ++ value_part value

abbrev pub twice_labelled : Text → Text → Text → Text → Text → ℕ → Text
twice_labelled name label of other to value =
    label_part name label of ++ other_part other to ++ value_part value

-- how many rows to a node are at a stage
abbrev pub rows_figure : Text → Text → ℕ → Text
rows_figure dest state value =
    twice_labelled (codes "dr_router_rows") (codes "dest") dest (codes "state") state value

-- how many rows of a queue wait, are held and are done
abbrev pub stages_of : Queue → Text
stages_of queue =
    rows_figure queue.dest.now (codes "waiting") queue.waiting
    ++ rows_figure queue.dest.now (codes "held") queue.held
    ++ rows_figure queue.dest.now (codes "done") queue.done

-- the same for each node
abbrev pub stages_figures : List Queue → Text
stages_figures queues = codes "# TYPE dr_router_rows gauge\n" ++ flat_map stages_of queues

-- for how many seconds the row to a node has waited that is there longest, as it is told where so
-- many wait: 0 where none does, and nothing where it isn't known of any
abbrev pub age_told : ℕ → Option ℕ → Option ℕ
age_told waiting (Some seconds) = Some seconds
age_told waiting None = if waiting == 0 then Some 0 else None

-- the figure of it
abbrev pub age_figure : Text → Option ℕ → Text
age_figure dest None = []
age_figure dest (Some seconds) =
    labelled (codes "dr_router_oldest_waiting_seconds") (codes "dest") dest seconds

-- that of a queue
abbrev pub age_of : Queue → Text
age_of queue = age_figure queue.dest.now (age_told queue.waiting queue.waited)

-- the same for each node
abbrev pub ages_figures : List Queue → Text
ages_figures queues =
    codes "# TYPE dr_router_oldest_waiting_seconds gauge\n" ++ flat_map age_of queues

-- how many rows to each node there are, and for how long they have waited
abbrev pub queues_figures : List Queue → Text
queues_figures queues = stages_figures queues ++ ages_figures queues

-- how many visits to a node ended so
abbrev pub visits_figure : Text → Text → ℕ → Text
visits_figure dest came value =
    twice_labelled (codes "dr_router_visits_total") (codes "dest") dest (codes "came") came value

-- in which ways the visits to a node ended
abbrev pub visits_of : Queue → Text
visits_of queue =
    visits_figure queue.dest.now (codes "released") queue.visits.released
    ++ visits_figure queue.dest.now (codes "rejected") queue.visits.rejected
    ++ visits_figure queue.dest.now (codes "aborted") queue.visits.aborted
    ++ visits_figure queue.dest.now (codes "closed") queue.visits.closed
    ++ visits_figure queue.dest.now (codes "unreached") queue.visits.unreached
    ++ visits_figure queue.dest.now (codes "failed") queue.visits.failed

-- the same for each node
abbrev pub visits_figures : List Queue → Text
visits_figures queues =
    codes "# TYPE dr_router_visits_total counter\n" ++ flat_map visits_of queues

-- how many instances of a caller were answered so
abbrev pub brought_figure : Text → Text → ℕ → Text
brought_figure caller answer value =
    twice_labelled (codes "dr_router_instances_total") (codes "caller") caller (codes "answer")
    answer value

-- what a caller has brought
abbrev pub brought_of : Brought → Text
brought_of brought =
    brought_figure brought.caller (codes "stored") brought.stored
    ++ brought_figure brought.caller (codes "again") brought.again
    ++ brought_figure brought.caller (codes "refused") brought.refused

-- the same of each caller
abbrev pub brought_figures : List Brought → Text
brought_figures callers =
    codes "# TYPE dr_router_instances_total counter\n" ++ flat_map brought_of callers

-- how many bytes those have that were stored of a caller
abbrev pub bytes_of : Brought → Text
bytes_of brought =
    labelled (codes "dr_router_stored_bytes_total") (codes "caller") brought.caller brought.bytes

-- the same of each caller
abbrev pub bytes_figures : List Brought → Text
bytes_figures callers =
    codes "# TYPE dr_router_stored_bytes_total counter\n" ++ flat_map bytes_of callers
