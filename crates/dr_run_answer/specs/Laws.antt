-- Figures of answers.
use Rattle.std.specs.Prelude.{◌≡◌, ◌≤◌, ℕ, List, [], ◌∷◌, ◌++◌, codes, false, filter, length, not}
use Rattle.std.specs.Prelude.{true, None, Some, sum_by}
use Rattle.dr_base.specs.Texts.{Text}
use Rattle.dr_ledger.specs.declared.item.Cause.TheVariants as cause
use Rattle.dr_ledger.specs.declared.item.Progress.TheVariants.{Waiting, Held, Done}
use Rattle.dr_ledger.specs.Books.{retried}
use Rattle.dr_run_answer.specs.Answers.{age_figure, age_told, brought_figure, bytes_of, fault_line}
use Rattle.dr_run_answer.specs.Answers.{from_line, in_seconds}
use Rattle.dr_run_answer.specs.Answers.{instance_line, last_try, late_line, node_line, own_row_line}
use Rattle.dr_run_answer.specs.Answers.{queue_line, recent_line, row_line, rows_figure}
use Rattle.dr_run_answer.specs.Answers.{visits_figure}
use Rattle.dr_run_answer.specs.Intakes.{AreRecent, AreTotals, CountsMinute, CountsOne, KeepHours}
use Rattle.dr_run_answer.specs.Intakes.{Notice, came_within, is_of_hour, is_refused, most, said_by}
use Rattle.dr_run_answer.specs.Responses.{AreResponses, CountsStatus, Response, response_figure}
use Rattle.dr_run_answer.specs.declared.intake.Brought.{Brought}
use Rattle.dr_run_answer.specs.declared.intake.Recent.{Recent}
use Rattle.dr_run_answer.specs.declared.noted.Minute.{Minute}
use Rattle.dr_run_answer.specs.declared.responses.ResponseCount.{ResponseCount}

-- so few instances came, and so few bytes, that each figure is within 64 bits
abbrev pub AreCountable : List Notice → Type 0
AreCountable all = (length all ≤ most) × (sum_by (λ (n : Notice). n.size) all ≤ most)

-- where nothing came there is no line
abbrev pub NothingIsCounted : Type 0
NothingIsCounted = AreTotals [] [] × ((from : ℕ) → KeepHours from [] [])

-- An instance that is noted counts for its caller, once: so the lines are the totals of all that
-- came since the first.
abbrev pub NotedIsCounted : Type 0
NotedIsCounted =
    (all : List Notice) (n : Notice) (old new : List Brought)
    → AreCountable (n ∷ all)
    → AreTotals all old → CountsOne n.caller n.answer n.size old new → AreTotals (n ∷ all) new

-- it counts for its minute, too
abbrev pub NotedIsKept : Type 0
NotedIsKept =
    (from : ℕ) (all : List Notice) (n : Notice) (old new : List Minute)
    → AreCountable (n ∷ all)
    → KeepHours from all old
    → CountsMinute n.minute n.caller n.modality (not (is_refused n.answer)) old new
    → KeepHours from (n ∷ all) new

-- what is let go is of no hour that is still asked for
abbrev pub OldIsLetGo : Type 0
OldIsLetGo =
    (from now : ℕ) (all : List Notice) (lines : List Minute)
    → from ≤ now
    → KeepHours from all lines
    → KeepHours now all (filter (λ (one : Minute). is_of_hour now one.minute) lines)

-- and so the lines of an hour say what came in it
abbrev pub RecentIsWhatCame : Type 0
RecentIsWhatCame =
    (from now : ℕ) (all : List Notice) (minutes : List Minute) (lines : List Recent)
    → AreCountable all
    → from ≤ now
    → KeepHours from all minutes
    → AreRecent now minutes lines
    → (caller modality : Text)
    → (said_by (λ r. r.stored) caller modality lines
    ≡ came_within (λ answer. not (is_refused answer)) caller modality now all)
    × (said_by (λ r. r.refused) caller modality lines
    ≡ came_within is_refused caller modality now all)

-- Where no response was sent there is no line. One that is noted is lost neither for its caller nor
-- for its status, and counts once: so the lines are those of all that were sent since the first.
abbrev pub RespondedIsCounted : Type 0
RespondedIsCounted =
    AreResponses [] []
    × ((all : List Response) (r : Response) (old new : List ResponseCount)
    → length (r ∷ all) ≤ most
    → AreResponses all old → CountsStatus r.caller r.status old new → AreResponses (r ∷ all) new)

-- the figures of a status, and of all that have no line of their own
abbrev pub ResponsesAreWrittenSo : Type 0
ResponsesAreWrittenSo =
    (response_figure (record { caller = codes "CT1"; status = Some 0xB007; count = 3 })
    ≡ codes "dr_router_answers_total{caller=\"CT1\",status=\"B007\"} 3\n")
    × (response_figure (record { caller = 34 ∷ 10 ∷ []; status = None; count = 1 })
    ≡ codes "dr_router_answers_total{caller=\"\\\"\\n\",status=\"other\"} 1\n")

-- times in seconds
abbrev pub TimesAreWrittenSo : Type 0
TimesAreWrittenSo =
    (in_seconds 12020304 ≡ codes "12.020304") × (in_seconds 999999 ≡ codes "0.999999")

-- what a try in vain leaves of a row tells when that was
abbrev pub TriesAreTold : Type 0
TriesAreTold = (tries now : ℕ) → 1 ≤ tries → last_try (retried tries now) ≡ Some now

-- the lines of rows, of an instance, of a node, of a queue, of faults and of a figure; a UID with a
-- quote and a line feed
abbrev pub LinesAreWrittenSo : Type 0
LinesAreWrittenSo =
    (row_line ((codes "1.2", codes "ARCH"), Held (cause.Status 0xC0F1))
    ≡ codes "{\"uid\":\"1.2\",\"dest\":\"ARCH\",\"state\":\"held\",\"cause\":\"C0F1\"}\n")
    × (row_line ((codes "1.2", codes "ARCH"), Waiting 3 1000)
    ≡ codes "{\"uid\":\"1.2\",\"dest\":\"ARCH\",\"state\":\"waiting\",\"tries\":3,\"due\":1000}\n")
    × (row_line ((49 ∷ 34 ∷ 10 ∷ 0 ∷ [], codes "A"), Done)
    ≡ codes "{\"uid\":\"1\\\"\\n\\u0000\",\"dest\":\"A\",\"state\":\"done\"}\n")
    × (node_line (codes "GATE") (codes "0f") (codes "1.2") 5
    (record { arrivals = 1; kept = 2; lines = 3; failures = 0 })
    ≡ codes "{\"node\":\"GATE\",\"plan\":\"0f\",\"version\":\"1.2\",\"since\":5,"
    ++ codes "\"arrivals\":1,\"kept\":2,\"lines\":3,\"failures\":0}\n")
    × (recent_line (record { caller = codes "CT1"; modality = codes "CT"; stored = 4; refused = 1 })
    ≡ codes "{\"from\":\"CT1\",\"modality\":\"CT\",\"stored\":4,\"refused\":1}\n")
    × (queue_line (codes "ARCH") 1 2 3 None None None
    ≡ codes "{\"dest\":\"ARCH\",\"waiting\":1,\"held\":2,\"done\":3}\n")
    × (queue_line (codes "ARCH") 1 2 3 (Some 7) None None
    ≡ codes "{\"dest\":\"ARCH\",\"waiting\":1,\"held\":2,\"done\":3,\"due\":7}\n")
    × (fault_line (codes "G5 NotHeld") ≡ codes "{\"fault\":\"G5 NotHeld\"}\n")
    × (queue_line (codes "ARCH") 1 2 3 (Some 7) (Some 61) None
    ≡ codes "{\"dest\":\"ARCH\",\"waiting\":1,\"held\":2,\"done\":3,\"due\":7,\"waited\":61}\n")
    × (age_figure (codes "ARCH") (Some 61)
    ≡ codes "dr_router_oldest_waiting_seconds{dest=\"ARCH\"} 61\n")
    × (age_figure (codes "ARCH") (age_told 0 None)
    ≡ codes "dr_router_oldest_waiting_seconds{dest=\"ARCH\"} 0\n")
    × (age_figure (codes "ARCH") (age_told 1 None) ≡ [])
    × (rows_figure (codes "ARCH") (codes "held") 2
    ≡ codes "dr_router_rows{dest=\"ARCH\",state=\"held\"} 2\n")
    × (visits_figure (codes "ARCH") (codes "unreached") 3
    ≡ codes "dr_router_visits_total{dest=\"ARCH\",came=\"unreached\"} 3\n")
    × (brought_figure (codes "CT1") (codes "again") 3
    ≡ codes "dr_router_instances_total{caller=\"CT1\",answer=\"again\"} 3\n")
    × (bytes_of (record { caller = codes "CT1"; stored = 1; again = 2; refused = 3; bytes = 4 })
    ≡ codes "dr_router_stored_bytes_total{caller=\"CT1\"} 4\n")
    × (instance_line (codes "1.2") true false None
    ≡ codes "{\"instance\":\"1.2\",\"body\":true,\"over\":false}\n")
    × (instance_line (codes "1.2") true false
    (Some (record { class = codes "1.3"; moment = Some 7 }))
    ≡ codes "{\"instance\":\"1.2\",\"body\":true,\"over\":false,\"class\":\"1.3\","
    ++ codes "\"came\":7}\n")
    × (from_line (codes "CT1") ≡ codes "{\"from\":\"CT1\"}\n")
    × (own_row_line ((codes "1.2", codes "ARCH"), Waiting 3 9000)
    ≡ codes "{\"uid\":\"1.2\",\"dest\":\"ARCH\",\"state\":\"waiting\",\"tries\":3,\"due\":9000,"
    ++ codes "\"tried\":5000}\n")
    × (own_row_line ((codes "1.2", codes "ARCH"), Waiting 0 0)
    ≡ codes "{\"uid\":\"1.2\",\"dest\":\"ARCH\",\"state\":\"waiting\",\"tries\":0,\"due\":0}\n")
    × (own_row_line ((codes "1.2", codes "ARCH"), Done)
    ≡ codes "{\"uid\":\"1.2\",\"dest\":\"ARCH\",\"state\":\"done\"}\n")
    × (late_line (codes "ARCH") ≡ codes "{\"fault\":\"Late\",\"dest\":\"ARCH\"}\n")
