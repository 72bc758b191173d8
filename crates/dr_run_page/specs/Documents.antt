-- The document, piece by piece. A moment is a number of milliseconds.
use Rattle.std.specs.Prelude.{ℕ, ◌-◌, ◌/◌, ◌%◌, ◌∷◌, ◌++◌, ◌||◌, Bool, true, false, List, []}
use Rattle.std.specs.Prelude.{Option, None, Some, bytes_eq, codes, decimal, filter, flat_map}
use Rattle.std.specs.Prelude.{if◌then◌else◌, nat_lt, take}
use Rattle.dr_base.specs.Texts.{Text}
use Rattle.hex.specs.Hex.{encode_upper}
use Rattle.dr_ledger.specs.Pairs.{Pair}
use Rattle.dr_ledger.specs.declared.item.Cause.{Cause}
use Rattle.dr_ledger.specs.declared.item.Cause.TheVariants as cause
use Rattle.dr_ledger.specs.declared.item.Progress.{Progress}
use Rattle.dr_ledger.specs.declared.item.Progress.TheVariants as progress
use Rattle.dr_run_answer.specs.declared.association.OpenAssociation.{OpenAssociation}
use Rattle.dr_run_answer.specs.declared.intake.Recent.{Recent}
use Rattle.dr_run_answer.specs.declared.json.Counts.{Counts}
use Rattle.dr_run_answer.specs.declared.json.Queue.{Queue}
use Rattle.dr_run_answer.specs.declared.json.Visited.{Visited}
use Rattle.dr_run_page.specs.Markup.{in_markup}

-- texts one behind another
abbrev pub joined : List Text → Text
joined texts = flat_map (λ text. text) texts

-- seconds from a moment to a later one
abbrev pub seconds : ℕ → ℕ → ℕ
seconds from to = (to - from) / 1000

-- why a row is held: the status of the response in four hex digits, or that the association had no
-- presentation context
abbrev pub cause_words : Cause → Text
cause_words (cause.Status status) =
    codes "status " ++ encode_upper (status / 256 ∷ status % 256 ∷ [])
cause_words cause.NoContext = codes "no presentation context"
cause_words cause.Unreadable = codes "data set unreadable"

-- in how many seconds that moment is, or for how many it has been
abbrev pub moment_words : ℕ → ℕ → Text
moment_words now due =
    if nat_lt now due then codes "in " ++ decimal (seconds now due) ++ codes " s"
    else codes "for " ++ decimal (seconds due now) ++ codes " s"

-- a row that was never tried has no moment
abbrev pub tried_words : ℕ → ℕ → Text
tried_words now due = if nat_lt 0 due then moment_words now due else codes "not tried"

-- when the first row that waits is due, if one does
abbrev pub due_words : ℕ → Option ℕ → Text
due_words now None = codes "-"
due_words now (Some due) = tried_words now due

-- for how many seconds a row has waited, where one waits
abbrev pub waited_words : Option ℕ → Text
waited_words None = codes "-"
waited_words (Some seconds) = decimal seconds ++ codes " s"

-- how long ago that moment was
abbrev pub ago_words : ℕ → ℕ → Text
ago_words now at =
    if nat_lt now at then codes "now" else decimal (seconds at now) ++ codes " s ago"

-- what the last visit came to, and how long ago, if there was one
abbrev pub visit_words : ℕ → Option Visited → Text
visit_words now None = codes "-"
visit_words now (Some visit) = in_markup visit.came.now ++ codes ", " ++ ago_words now visit.at

-- ---- the light

-- rows to a node wait
abbrev pub is_busy : Queue → Bool
is_busy queue = nat_lt 0 queue.waiting

-- rows to a node are held
abbrev pub is_stuck : Queue → Bool
is_stuck queue = nat_lt 0 queue.held

-- one of the queues passes the test
abbrev pub is_any : (Queue → Bool) → List Queue → Bool
is_any test [] = false
is_any test (queue ∷ queues) = test queue || is_any test queues

-- red: a person is wanted; amber: something waits to be sent; green: neither
abbrev pub light_of : Bool → Bool → Bool → Text
light_of failed stuck busy =
    if failed then codes "red\">The store has failed"
    else (if stuck then codes "red\">Rows are held"
    else (if busy then codes "amber\">Rows wait"
    else codes "green\">Nothing is held, and nothing waits"))

-- the light of a node whose store has failed so often
abbrev pub light : ℕ → List Queue → Text
light failures queues =
    light_of (nat_lt 0 failures) (is_any is_stuck queues) (is_any is_busy queues)

-- ---- rows of tables

-- what stands for the text is the text, so that a form that has it names just that
abbrev pub names_itself : Text → Bool
names_itself text = bytes_eq (in_markup text) text

-- a form with one button, by which a browser asks for an act on a next node
abbrev pub hop_button : Text → Text → Text → Text → Text
hop_button act label key dest = joined
    (codes "<form method=\"post\" action=\"" ∷ act
    ∷ codes "\"><input type=\"hidden\" name=\"key\" value=\"" ∷ in_markup key
    ∷ codes "\"><input type=\"hidden\" name=\"dest\" value=\"" ∷ in_markup dest
    ∷ codes "\"><button>" ∷ label
    ∷ codes "</button></form>" ∷ [])

-- a next node is visited now, and all that is held for it is queued again
abbrev pub both_hop_buttons : Text → Text → Text
both_hop_buttons key dest =
    hop_button (codes "/visit") (codes "Visit now") key dest
    ++ hop_button (codes "/requeue") (codes "Queue all held again") key dest

-- the buttons of a next node; none without a key, nor where a form wouldn't name the node
abbrev pub hop_buttons : Option Text → Text → Text
hop_buttons None dest = []
hop_buttons (Some key) dest = if names_itself dest then both_hop_buttons key dest else []

abbrev pub queue_cells : ℕ → Queue → Text
queue_cells now queue = joined
    (codes "<tr><td>" ∷ in_markup queue.dest.now
    ∷ codes "</td><td>" ∷ decimal queue.waiting
    ∷ codes "</td><td>" ∷ waited_words queue.waited
    ∷ codes "</td><td>" ∷ decimal queue.held
    ∷ codes "</td><td>" ∷ decimal queue.done
    ∷ codes "</td><td>" ∷ due_words now queue.due
    ∷ codes "</td><td>" ∷ visit_words now queue.visit
    ∷ codes "</td><td>" ∷ [])

abbrev pub queue_row : ℕ → Option Text → Queue → Text
queue_row now key queue =
    queue_cells now queue ++ hop_buttons key queue.dest.now ++ codes "</td></tr>\n"

-- an association that is open, and since when
abbrev pub association_row : ℕ → OpenAssociation → Text
association_row now association = joined
    (codes "<tr><td>" ∷ in_markup association.caller
    ∷ codes "</td><td>" ∷ ago_words now association.since
    ∷ codes "</td><td>" ∷ decimal association.stored
    ∷ codes "</td><td>" ∷ decimal association.again
    ∷ codes "</td><td>" ∷ decimal association.refused
    ∷ codes "</td></tr>\n" ∷ [])

-- what came within the last hour from a caller, of a modality
abbrev pub recent_row : Recent → Text
recent_row recent = joined
    (codes "<tr><td>" ∷ in_markup recent.caller
    ∷ codes "</td><td>" ∷ in_markup recent.modality
    ∷ codes "</td><td>" ∷ decimal recent.stored
    ∷ codes "</td><td>" ∷ decimal recent.refused
    ∷ codes "</td></tr>\n" ∷ [])

-- a form with one button, by which a browser asks for an act on a row; it has the key of this run's
-- page
abbrev pub button : Text → Text → Text → Text → Text → Text
button act label key uid dest = joined
    (codes "<form method=\"post\" action=\"" ∷ act
    ∷ codes "\"><input type=\"hidden\" name=\"key\" value=\"" ∷ in_markup key
    ∷ codes "\"><input type=\"hidden\" name=\"uid\" value=\"" ∷ in_markup uid
    ∷ codes "\"><input type=\"hidden\" name=\"dest\" value=\"" ∷ in_markup dest
    ∷ codes "\"><button>" ∷ label
    ∷ codes "</button></form>" ∷ [])

-- a row is queued again by one click, and dropped by two
abbrev pub both_buttons : Text → Text → Text → Text
both_buttons key uid dest =
    button (codes "/requeue") (codes "Queue again") key uid dest
    ++ codes "<details><summary>Drop</summary>"
    ++ button (codes "/drop") (codes "Drop for good") key uid dest
    ++ codes "</details>"

-- The buttons of a row. Without a key there are none, nor where a form wouldn't name the row.
abbrev pub buttons : Option Text → Text → Text → Text
buttons None uid dest = []
buttons (Some key) uid dest =
    if names_itself uid then (if names_itself dest then both_buttons key uid dest else []) else []

abbrev pub held_cells : Text → Text → Cause → Text
held_cells uid dest why = joined
    (codes "<tr><td>" ∷ in_markup uid
    ∷ codes "</td><td>" ∷ in_markup dest
    ∷ codes "</td><td>" ∷ cause_words why
    ∷ codes "</td><td>" ∷ [])

-- a row that is held, and nothing of another
abbrev pub held_row : Option Text → Pair × Progress → Text
held_row key ((uid, dest), progress.Held why) =
    held_cells uid dest why ++ buttons key uid dest ++ codes "</td></tr>\n"
held_row key ((uid, dest), progress.Waiting tries due) = []
held_row key ((uid, dest), progress.Done) = []
held_row key ((uid, dest), progress.Dropped) = []

abbrev pub is_held : Pair × Progress → Bool
is_held (pair, progress.Held why) = true
is_held (pair, progress.Waiting tries due) = false
is_held (pair, progress.Done) = false
is_held (pair, progress.Dropped) = false

-- ---- the whole

abbrev pub style : Text
style = codes
    "body{background:#111;color:#eee;font:1.4em sans-serif;margin:1em}h1{padding:.3em}.red{background:#b00}.amber{background:#a60}.green{background:#060}td,th{padding:.2em 1em;text-align:left}table{margin:1em 0}caption{text-align:left;font-weight:bold}button,summary{font:inherit;cursor:pointer}form,details{display:inline-block;margin-right:1em}"

abbrev pub head : Text → Text
head name = joined
    (codes
    "<!DOCTYPE html>\n<html lang=\"en\">\n<head>\n<meta charset=\"utf-8\">\n<meta http-equiv=\"refresh\" content=\"5\">\n<title>"
    ∷ in_markup name ∷ codes "</title>\n<style>" ∷ style ∷ codes "</style>\n</head>\n<body>\n" ∷ [])

-- under such a light, after so many seconds
abbrev pub figures_under : Text → Text → ℕ → Counts → Text
figures_under lit name served counts =
    joined
    (codes "<h1 class=\"" ∷ lit
    ∷ codes "</h1>\n<p>" ∷ in_markup name
    ∷ codes " has served for " ∷ decimal served
    ∷ codes " s. Arrivals: " ∷ decimal counts.arrivals
    ∷ codes ". Kept: " ∷ decimal counts.kept
    ∷ codes ". Lines of the journal: " ∷ decimal counts.lines
    ∷ codes ". Failures of the store: " ∷ decimal counts.failures
    ∷ codes ".</p>\n" ∷ [])

abbrev pub figures : Text → ℕ → ℕ → Counts → List Queue → Text
figures name since now counts queues =
    figures_under (light counts.failures queues) name (seconds since now) counts

abbrev pub queues_head : Text
queues_head = codes
    "<table><caption>Next nodes</caption>\n<tr><th>Node</th><th>Waiting</th><th>Oldest</th><th>Held</th><th>Done</th><th>First due</th><th>Last visit</th><th></th></tr>\n"

abbrev pub associations_head : Text
associations_head = codes
    "</table>\n<table><caption>Open associations</caption>\n<tr><th>Caller</th><th>Since</th><th>Stored</th><th>Again</th><th>Refused</th></tr>\n"

abbrev pub recents_head : Text
recents_head = codes
    "</table>\n<table><caption>Came in the last hour</caption>\n<tr><th>Caller</th><th>Modality</th><th>Taken</th><th>Refused</th></tr>\n"

abbrev pub held_head : Text
held_head = codes
    "</table>\n<table><caption>Held, the first 100</caption>\n<tr><th>Instance</th><th>To</th><th>Why</th><th></th></tr>\n"

abbrev pub tail : Text
tail = codes "</table>\n</body>\n</html>\n"

-- what a node shows that has served since that moment, in a run whose forms have that key
abbrev pub document : Text → ℕ → ℕ → Counts → Option Text
    → List Queue → List OpenAssociation → List Recent → List (Pair × Progress) → Text
document name since now counts key queues associations recents rows =
    head name ++ figures name since now counts queues
    ++ queues_head ++ flat_map (queue_row now key) queues
    ++ associations_head ++ flat_map (association_row now) associations
    ++ recents_head ++ flat_map recent_row recents
    ++ held_head ++ flat_map (held_row key) (take 100 (filter is_held rows))
    ++ tail
