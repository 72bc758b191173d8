-- What a request does at the shared desk, and how it is answered.
use Rattle.std.specs.List.{list_any}
use Rattle.std.specs.FinMap as map
use Rattle.std.specs.Prelude.{◌≡◌, ◌↔◌, ◌⊎◌, ◌++◌, ℕ, Bool, true, false, IsTrue, List, [], ◌∷◌}
use Rattle.std.specs.Prelude.{bytes_eq, flat_map, map as mapped}
use Rattle.std.specs.Prelude.{Option, None, Some, Ok, Err, Result, MatchResult, codes}
use Rattle.hex.specs.Hex.{encode_lower}
use Rattle.http.specs.declared.request.Request.{Request}
use Rattle.http.specs.Request.{head_of, body_of}
use Rattle.dr_base.specs.Texts.{Text}
use Rattle.dr_desk.specs.Answering.{Answers as DeskAnswers}
use Rattle.dr_desk.specs.Reading.{HasLines, Reading}
use Rattle.dr_desk.specs.Receipts.{LeavesReceipts, Notes}
use Rattle.dr_desk.specs.declared.receipt.Call.{Call}
use Rattle.dr_desk.specs.declared.receipt.Call.TheVariants.{Requeuing, Dropping, Forgetting}
use Rattle.dr_desk.specs.declared.receipt.Receipt.{Receipt}
use Rattle.dr_desk.specs.declared.receipt.Reply.TheVariants.{Done}
use Rattle.dr_ledger_views.specs.declared.moments.Origin.{Origin}
use Rattle.dr_ledger_views.specs.declared.stage.HopTally.{HopTally}
use Rattle.dr_ledger_views.specs.Numbers.{AreBehind}
use Rattle.dr_ledger_views.specs.Views.{AreCallers, page_of, rows_of}
use Rattle.dr_ledger.specs.Bodies.{Bodies, IsNeeded}
use Rattle.dr_ledger.specs.Books.{Book, Line, Row}
use Rattle.dr_ledger.specs.Replies.{Drops, Forgets, IsOver, Reads, Requeues}
use Rattle.dr_ledger.specs.declared.fault.LedgerFault.{LedgerFault}
use Rattle.dr_ledger.specs.declared.fault.LedgerFault.TheVariants as ledger
use Rattle.dr_ledger_history.specs.Lines.{line_of}
use Rattle.dr_ledger_history.specs.declared.line.JournalLine.{JournalLine}
use Rattle.dr_run_answer.specs.Answers.{done_line, fault_line, from_line, instance_line}
use Rattle.dr_run_answer.specs.Answers.{own_row_line}
use Rattle.dr_run_answer.specs.Journals.{journal_head, lines_text}
use Rattle.dr_run_answer.specs.declared.json.Queue.{Queue}
use Rattle.dr_run_answer.specs.declared.json.Visited.{Visited}
use Rattle.dr_run_answer.specs.declared.json.Visits.{Visits}
use Rattle.dr_run_control.specs.Replies.{IsToldIn, line_of_answer, name_of_form, name_of_refusal}
use Rattle.dr_run_control.specs.Replies.{line_of_backup, status_of_answer, status_of_backup}
use Rattle.dr_run_control.specs.Replies.{status_of_form, status_of_refusal}
use Rattle.dr_run_backup.specs.declared.fault.BackupFault.{BackupFault}
use Rattle.dr_run_open.specs.declared.hops.NextHop.{NextHop}
use Rattle.dr_run_request.specs.Asking.{AdmitsRequest}
use Rattle.dr_run_request.specs.Forms.{value_in}
use Rattle.dr_run_request.specs.Orders.{IsAsked}
use Rattle.dr_run_request.specs.declared.admission.Access.{Access}
use Rattle.dr_run_request.specs.declared.admission.Refused.{Refused}
use Rattle.dr_run_request.specs.declared.browser.Browser.{Browser}
use Rattle.dr_run_request.specs.declared.order.Order.{Order}
use Rattle.dr_run_request.specs.declared.order.Order.TheVariants as order
use Rattle.dr_run_request.specs.declared.route.Route.{Route}
use Rattle.dr_run_request.specs.declared.route.Route.TheVariants as route
use Rattle.dr_run_request.specs.declared.wanted.FormFault.{FormFault}
use Rattle.dr_run_request.specs.declared.wanted.FormFault.TheVariants as fault
use Rattle.dr_run_request.specs.declared.lines.LinesWanted.{LinesWanted}
use Rattle.dr_run_request.specs.declared.wanted.Wanted.{Wanted}
use Rattle.dr_site.specs.Parts.{Part}

-- by this route the node is told what to do by a form
abbrev pub gives_order : Route → Bool
gives_order route.Page = false
gives_order route.Status = false
gives_order route.Rows = false
gives_order route.Instance = false
gives_order route.Journal = false
gives_order route.Metrics = false
gives_order route.Health = false
gives_order route.Requeue = true
gives_order route.GiveUp = true
gives_order route.Forget = true
gives_order route.Visit = true
gives_order route.Backup = false
gives_order route.Stop = false

-- why a form isn't understood: it orders nothing, or there was no memory
abbrev pub Misreads : Route → Text → FormFault → Type 0
Misreads asked form fault.Field = (one : Order) → IsAsked one asked form → ⊥
Misreads asked form fault.Memory = Unit {0}

-- the node sends there
abbrev pub goes_to : Text → NextHop → Bool
goes_to dest hop = bytes_eq hop.dest dest

-- who is to be visited is a node to which this one sends
abbrev pub Goes : List NextHop → Order → Type 0
Goes hops (order.Requeue row) = Unit {0}
Goes hops (order.RequeueAll dest) = Unit {0}
Goes hops (order.GiveUp row) = Unit {0}
Goes hops (order.Forget uid) = Unit {0}
Goes hops (order.Visit dest) = list_any (goes_to dest) hops ≡ true

-- a pass after an act: it has one receipt more, of just that call, or it is left
abbrev pub NotesIf : Call → Result (Unit {0}) LedgerFault
    → ℕ → List Receipt → ℕ → List Receipt → Type 0
NotesIf call answer count receipts now kept =
    MatchResult answer
    (λ done. Notes call Done count receipts now kept)
    (λ why. LeavesReceipts count receipts now kept)

-- of all rows that are queued again, one that isn't held any more is no fault
abbrev pub passed : Result (Unit {0}) LedgerFault → Result (Unit {0}) LedgerFault
passed (Ok done) = Ok done
passed (Err ledger.NotHeld) = Ok tt
passed (Err ledger.NoLine) = Err ledger.NoLine
passed (Err ledger.Conflict) = Err ledger.Conflict
passed (Err ledger.NotWaiting) = Err ledger.NotWaiting
passed (Err ledger.NotOver) = Err ledger.NotOver
passed (Err ledger.Store) = Err ledger.Store
passed (Err ledger.Memory) = Err ledger.Memory

-- The form of an act isn't understood: nothing is done, and the answer names its fault.
pub record IsMisread (asked : Route) (form : Text) (status : ℕ) (text : Text)
    (count : ℕ) (receipts : List Receipt) (now : ℕ) (kept : List Receipt) : Type 0 where
  pub why : FormFault
  pub misreads : Misreads asked form why
  pub status_is : status ≡ status_of_form why
  pub told : IsToldIn (fault_line (name_of_form why)) text
  pub leaves : LeavesReceipts count receipts now kept

-- The request mayn't be asked: nothing is done, and the answer names the refusal.
pub record IsRefused (access : Access) (browser : Option Browser) (request : Request (List ℕ))
    (status : ℕ) (text : Text)
    (count : ℕ) (receipts : List Receipt) (now : ℕ) (kept : List Receipt) : Type 0 where
  pub why : Refused
  pub admits : AdmitsRequest access browser (head_of request) (body_of request) (Err why)
  pub status_is : status ≡ status_of_refusal why
  pub told : IsToldIn (fault_line (name_of_refusal why)) text
  pub leaves : LeavesReceipts count receipts now kept

-- what may have come of a copy to that path
abbrev pub Copying : Type 1
Copying = Text → Result (Unit {0}) BackupFault → Type 0

-- A copy is asked for by a form: what came of the one to the path that it names is told; or it
-- names none, or there was no memory.
abbrev pub TellsCopy : Copying → Text → ℕ → Text → Type 0
TellsCopy copies form status text =
    ((path : Text) × (came : Result (Unit {0}) BackupFault)
    × (value_in form (codes "copy") ≡ Some path)
    × copies path came
    × (status ≡ status_of_backup came)
    × IsToldIn (line_of_backup came) text)
    ⊎ ((why : FormFault)
    × (why ≡ fault.Field → (path : Text) → value_in form (codes "copy") ≡ Some path → ⊥)
    × (status ≡ status_of_form why)
    × IsToldIn (fault_line (name_of_form why)) text)

-- No order is given: to no row anything is done. Where the node is told to end, the answer says
-- that this is done; where it is to copy its ledger, what came of that.
pub record IsLooked (copies : Copying) (access : Access) (browser : Option Browser)
    (request : Request (List ℕ)) (status : ℕ) (text : Text)
    (count : ℕ) (receipts : List Receipt) (now : ℕ) (kept : List Receipt) : Type 0 where
  pub asked : Route
  pub admits : AdmitsRequest access browser (head_of request) (body_of request) (Ok asked)
  pub other : gives_order asked ≡ false
  pub stops : asked ≡ route.Stop → (status ≡ 200) × IsToldIn done_line text
  pub copied : asked ≡ route.Backup → TellsCopy copies (body_of request) status text
  pub leaves : LeavesReceipts count receipts now kept

-- Who is to be visited is none to whom this node sends: nothing is done.
pub record IsNowhere (hops : List NextHop) (one : Order) (status : ℕ) (text : Text)
    (count : ℕ) (receipts : List Receipt) (now : ℕ) (kept : List Receipt) : Type 0 where
  pub unknown : Goes hops one → ⊥
  pub status_is : status ≡ 404
  pub told : IsToldIn (fault_line (codes "Hop")) text
  pub leaves : LeavesReceipts count receipts now kept

-- a pass's count with its receipts
abbrev pub State : Type 0
State = ℕ × List Receipt

module _ {L : Type 0} (site_of : L → Part) (book : L → Book) (stands : L → Type 0)
    (failed : L → ℕ) (own : Part) (first : List Line) where
  -- one call of the desk, that the ledger answered so, and the receipt that the pass has
  abbrev pub Calls : (Book → Result (Unit {0}) LedgerFault → Book → Type 0) → Call
      → Result (Unit {0}) LedgerFault → ℕ → List Receipt → ℕ → List Receipt → Type 0
  Calls effect call answer count receipts now kept =
      DeskAnswers site_of book stands failed own first effect call (λ _. Done) answer receipts kept
      × NotesIf call answer count receipts now kept

  -- a row is queued again, as one of many
  abbrev pub Again : Text → Row → State → Result (Unit {0}) LedgerFault → State → Type 0
  Again dest row s result t =
      (answer : Result (Unit {0}) LedgerFault)
      × Calls (Requeues row.0.0 dest) (Requeuing row.0.0 dest) answer s.0 s.1 t.0 t.1
      × (result ≡ passed answer)

  -- Rows are queued again, each by one call, one behind the other; what the ledger refuses else
  -- than that a row isn't held any more is the end of it.
  abbrev pub AgainEach : Text → List Row → State → Result (Unit {0}) LedgerFault → State → Type 0
  AgainEach dest [] s result t = (result ≡ Ok tt) × (t ≡ s)
  AgainEach dest (row ∷ rows) s result t =
      ((why : LedgerFault) × (result ≡ Err why) × Again dest row s (Err why) t)
      ⊎ ((mid : State) × Again dest row s (Ok tt) mid × AgainEach dest rows mid result t)

  -- What an order does at the desk, and what comes of that. To visit a node is no call of the desk.
  abbrev pub Acts : Order → Result (Unit {0}) LedgerFault
      → ℕ → List Receipt → ℕ → List Receipt → Type 0
  Acts (order.Requeue row) answer count receipts now kept =
      Calls (Requeues row.uid row.dest) (Requeuing row.uid row.dest) answer count receipts now kept
  Acts (order.RequeueAll dest) answer count receipts now kept =
      ((why : LedgerFault) × (answer ≡ Err why) × LeavesReceipts count receipts now kept)
      ⊎ ((rows : List Row) × AgainEach dest rows (count, receipts) answer (now, kept))
  Acts (order.GiveUp row) answer count receipts now kept =
      (moment : ℕ)
      × Calls (Drops row.uid row.dest moment) (Dropping row.uid row.dest moment) answer
      count receipts now kept
  Acts (order.Forget uid) answer count receipts now kept =
      Calls (Forgets uid) (Forgetting uid) answer count receipts now kept
  Acts (order.Visit dest) answer count receipts now kept =
      (answer ≡ Ok tt) × LeavesReceipts count receipts now kept

  -- The order is done, or the ledger refuses it: the status and the text are those of what came of
  -- it at the desk.
  pub record IsDone (hops : List NextHop) (one : Order) (status : ℕ) (text : Text)
      (count : ℕ) (receipts : List Receipt) (now : ℕ) (kept : List Receipt) : Type 0 where
    pub answer : Result (Unit {0}) LedgerFault
    pub goes : Goes hops one
    pub acts : Acts one answer count receipts now kept
    pub status_is : status ≡ status_of_answer answer
    pub told : IsToldIn (line_of_answer answer) text

  abbrev pub Comes : List NextHop → Order → ℕ → Text → ℕ → List Receipt → ℕ → List Receipt → Type 0
  Comes hops one status text count receipts now kept =
      IsDone hops one status text count receipts now kept
      ⊎ IsNowhere hops one status text count receipts now kept

  -- What comes of an order that may be given, by the form of a route.
  abbrev pub Tells : List NextHop → Route → Text
      → ℕ → Text → ℕ → List Receipt → ℕ → List Receipt → Type 0
  Tells hops asked form status text count receipts now kept =
      ((one : Order) × IsAsked one asked form × Comes hops one status text count receipts now kept)
      ⊎ IsMisread asked form status text count receipts now kept

  -- What comes of a request at a pass of the desk: it mayn't be asked; it gives an order, and that
  -- is done, or it is said why not; or it gives none.
  abbrev pub Answers : Copying → Access → Option Browser → List NextHop → Request (List ℕ)
      → ℕ → Text → ℕ → List Receipt → ℕ → List Receipt → Type 0
  Answers copies access browser hops request status text count receipts now kept =
      IsRefused access browser request status text count receipts now kept
      ⊎ (((asked : Route)
      × (gives_order asked ≡ true)
      × AdmitsRequest access browser (head_of request) (body_of request) (Ok asked)
      × Tells hops asked (body_of request) status text count receipts now kept)
      ⊎ IsLooked copies access browser request status text count receipts now kept)

-- the figures of a queue are those that were counted of the rows to its node, and its visits are
-- those that are known
abbrev pub IsCounted : Text → HopTally → Option ℕ → Option Visited → Visits → Queue → Type 0
IsCounted dest tally waited visit visits queue =
    (queue.dest.now ≡ dest) × (queue.waiting ≡ tally.waiting) × (queue.held ≡ tally.held)
    × (queue.done ≡ tally.done)
    × (queue.due ≡ tally.due)
    × (queue.waited ≡ waited)
    × (queue.visit ≡ visit)
    × (queue.visits ≡ visits)

-- behind which uid the rows of a page stand: behind none, where none is named
abbrev pub after_named : Option Text → Text
after_named None = []
after_named (Some uid) = uid

-- the rows that are wanted, of those that there are: to the node, at the stage that is named,
-- behind the uid that is named, and as many as are asked for
abbrev pub page_wanted : List Row → Wanted → List Row
page_wanted rows wanted =
    page_of rows wanted.dest wanted.stage (after_named wanted.after)
    wanted.limit

module _ {L : Type 0} (site_of : L → Part) (book : L → Book) (bodies : L → Bodies)
    (stands : L → Type 0) (failed : L → ℕ) (own : Part) (first : List Line) where
  -- what is told of an instance, each part as the ledger has it at a moment of its own
  pub record AreParts (uid : Text) (body over : Bool) (callers : List Text) (rows : List Row)
      : Type 0 where
    pub is_needed : Reading site_of book bodies stands failed own first
        (λ l answer. Reads answer (λ needed. IsTrue needed ↔ IsNeeded (book l) uid)) (Ok body)
    pub is_over : Reading site_of book bodies stands failed own first
        (λ l answer. Reads answer (λ over. IsTrue over ↔ IsOver (book l) uid)) (Ok over)
    pub brought : Reading site_of book bodies stands failed own first
        (λ l answer. Reads answer (AreCallers (book l).arrivals uid)) (Ok callers)
    pub goes_on : Reading site_of book bodies stands failed own first
        (λ l answer. Reads answer (λ all. all ≡ rows_of (map.entries (book l).rows) uid)) (Ok rows)

  -- the lines that tell it
  pub record IsTold (uid text : Text) : Type 0 where
    pub body : Bool
    pub over : Bool
    pub callers : List Text
    pub rows : List Row
    -- where it is from, of which nothing is said
    pub origin : Option Origin
    pub parts : AreParts uid body over callers rows
    pub told : text
        ≡ instance_line uid body over origin ++ flat_map from_line callers
        ++ flat_map own_row_line rows

  -- an instance of which nothing is told isn't there
  abbrev pub IsMissing : Text → Type 0
  IsMissing uid =
      Reading site_of book bodies stands failed own first
      (λ l answer. Reads answer (λ there. there ≡ map.contains_key (book l).items uid)) (Ok false)

  -- the lines of the journal that are wanted, and how many it has, each as the ledger has it at a
  -- moment of its own
  pub record ArePaged (numbered : L → List (ℕ × Line)) (wanted : LinesWanted)
      (lines : List JournalLine) (count : ℕ) : Type 0 where
    pub wanted_are : Reading site_of book bodies stands failed own first
        (λ l answer. Reads answer (λ all.
        AreBehind wanted.after wanted.limit (numbered l) (mapped line_of all)))
        (Ok lines)
    pub counted : HasLines site_of book bodies stands failed own first count

  -- the page that tells them, each with its own number, of the node of that part
  pub record IsPageTold (numbered : L → List (ℕ × Line)) (part : Part) (wanted : LinesWanted)
      (text : Text) : Type 0 where
    pub lines : List JournalLine
    pub count : ℕ
    pub page : ArePaged numbered wanted lines count
    pub told : text
        ≡ journal_head part.name (encode_lower part.digest) count
        ++ lines_text wanted.after lines
