-- The words of the command line.
use Rattle.std.specs.Prelude.{◌≡◌, ◌≢◌, ℕ, List, [], ◌∷◌, ◌++◌, ◌⊎◌, codes, false, Option, None}
use Rattle.std.specs.Prelude.{MatchOption, Some}
use Rattle.std.specs.Borrow.{Bor}
use Rattle.dr_word_line.specs.declared.words.Task.{Task}
use Rattle.dr_word_line.specs.declared.words.Task.TheVariants.{CheckInput, CheckFile, Expand}
use Rattle.dr_word_line.specs.declared.words.Task.TheVariants.{Verify}
use Rattle.dr_word_line.specs.declared.words.Task.TheVariants.{Simulate, Echo}
use Rattle.dr_word_line.specs.declared.words.Task.TheVariants.{Question as AsksQuestion, AtNode}
use Rattle.dr_word_line.specs.declared.words.Task.TheVariants.{Adopt, Audit, AtRunning, AuditAmong}
use Rattle.dr_word_line.specs.declared.words.Task.TheVariants.{AdoptAmong}
use Rattle.dr_word_line.specs.declared.words.Task.TheVariants.{AuditRunning}
use Rattle.dr_word_line.specs.declared.words.Task.TheVariants.{Told, Import, Rehearse}
use Rattle.dr_word_line.specs.declared.words.Task.TheVariants.{CheckInputAsJson, CheckFileAsJson}
use Rattle.dr_word_line.specs.declared.words.Task.TheVariants.{CheckAllOfInput, CheckAllOfFile}
use Rattle.dr_word_line.specs.declared.words.Task.TheVariants.{QuestionAsJson}
use Rattle.dr_word_line.specs.declared.words.Duty.{Duty}
use Rattle.dr_word_line.specs.declared.words.Duty.TheVariants.{List as ToList, ListLong, Summary}
use Rattle.dr_word_line.specs.declared.words.Duty.TheVariants.{Requeue}
use Rattle.dr_word_line.specs.declared.words.Duty.TheVariants.{RequeueAll, GiveUp, Forget, Make}
use Rattle.dr_word_line.specs.declared.words.Duty.TheVariants.{Send, Serve, MakeWithData}
use Rattle.dr_word_line.specs.declared.words.Errand.{Errand}
use Rattle.dr_word_line.specs.declared.words.Errand.TheVariants as errands
use Rattle.dr_word_line.specs.declared.words.RunningNode.{RunningNode}
use Rattle.dr_word_line.specs.declared.words.KeyWords.{KeyWords}
use Rattle.dr_run_files.specs.declared.node.NodeFiles.{NodeFiles}
use Rattle.dr_word_line.specs.declared.words.PlanChange.{PlanChange}
use Rattle.dr_word_line.specs.declared.words.SiteFiles.{SiteFiles}
use Rattle.dr_word_line.specs.declared.words.NextPlan.{NextPlan}
use Rattle.dr_word_line.specs.declared.words.Question.{Question}
use Rattle.dr_word_line.specs.declared.words.Question.TheVariants.{RouteOfKey, RouteOfFile, Graph}
use Rattle.dr_word_line.specs.declared.words.Question.TheVariants.{Lint, StrictLint, Expect}
use Rattle.dr_word_line.specs.declared.words.Question.TheVariants.{Diff}
use Rattle.dr_word_line.specs.declared.words.Serving.{Serving}
use Rattle.dr_word_line.specs.declared.words.Verbosity.TheVariants.{Events}

-- none, or the one word check: they ask for a check of the plan on the standard input
abbrev pub IsPlainCheck : List (Bor (List ℕ)) → Type 0
IsPlainCheck words =
    (words ≡ []) ⊎ ((word : Bor (List ℕ)) × (words ≡ word ∷ []) × (word.now ≡ codes "check"))

-- a word that doesn't begin with a hyphen is no option. Paths are asked for it, and names and
-- values aren't: a node may be named `-a`, and so options stand before the first value or behind
-- all
abbrev pub IsNoOption : List ℕ → Type 0
IsNoOption word = (rest : List ℕ) → word ≢ 45 ∷ rest

-- the word check and a file's path: they ask for a check of the plan in that file
abbrev pub IsCheckOf : List (Bor (List ℕ)) → Bor (List ℕ) → Type 0
IsCheckOf words plan =
    (word : Bor (List ℕ))
    × (words ≡ word ∷ plan ∷ [])
    × (word.now ≡ codes "check")
    × IsNoOption plan.now

-- the word expand and a file's path: they ask for the text that is read for the plan in that file
abbrev pub IsExpandOf : List (Bor (List ℕ)) → Bor (List ℕ) → Type 0
IsExpandOf words plan =
    (word : Bor (List ℕ))
    × (words ≡ word ∷ plan ∷ [])
    × (word.now ≡ codes "expand")
    × IsNoOption plan.now

-- the word import and a file's path: they ask for a plan for the devices of the table in that file
abbrev pub IsImportOf : List (Bor (List ℕ)) → Bor (List ℕ) → Type 0
IsImportOf words table =
    (word : Bor (List ℕ))
    × (words ≡ word ∷ table ∷ [])
    × (word.now ≡ codes "import")
    × IsNoOption table.now

-- the word verify and two files' paths: they ask for a verification of the certificate in the
-- second for the plan in the first
abbrev pub IsVerifyOf : List (Bor (List ℕ)) → Bor (List ℕ) → Bor (List ℕ) → Type 0
IsVerifyOf words plan certificate =
    (word : Bor (List ℕ))
    × (words ≡ word ∷ plan ∷ certificate ∷ [])
    × (word.now ≡ codes "verify")
    × IsNoOption plan.now
    × IsNoOption certificate.now

-- the word simulate and three files' paths: they ask for a run of the script in the third, for the
-- plan in the first and the certificate in the second
abbrev pub IsSimulateOf : List (Bor (List ℕ)) → Bor (List ℕ) → Bor (List ℕ) → Bor (List ℕ) → Type 0
IsSimulateOf words plan certificate script =
    (word : Bor (List ℕ))
    × (words ≡ word ∷ plan ∷ certificate ∷ script ∷ [])
    × (word.now ≡ codes "simulate")
    × IsNoOption plan.now
    × IsNoOption certificate.now
    × IsNoOption script.now

-- the word echo, a file's path and two names: they ask for an echo from the node of the first name
-- to that of the second, of the plan in the file
abbrev pub IsEchoOf : List (Bor (List ℕ)) → Bor (List ℕ) → Bor (List ℕ) → Bor (List ℕ) → Type 0
IsEchoOf words plan caller called =
    (word : Bor (List ℕ)) × (words ≡ word ∷ plan ∷ caller ∷ called ∷ []) × (word.now ≡ codes "echo")
    × IsNoOption plan.now

-- the word graph and two files' paths: they ask for the graph of the plan in the first, whose
-- certificate is in the second
abbrev pub IsGraphOf : List (Bor (List ℕ)) → Bor (List ℕ) → Bor (List ℕ) → Type 0
IsGraphOf words plan certificate =
    (word : Bor (List ℕ))
    × (words ≡ word ∷ plan ∷ certificate ∷ [])
    × (word.now ≡ codes "graph")
    × IsNoOption plan.now
    × IsNoOption certificate.now

-- the word lint and two files' paths: they ask for what looks wrong in the plan in the first, whose
-- certificate is in the second
abbrev pub IsLintOf : List (Bor (List ℕ)) → Bor (List ℕ) → Bor (List ℕ) → Type 0
IsLintOf words plan certificate =
    (word : Bor (List ℕ))
    × (words ≡ word ∷ plan ∷ certificate ∷ [])
    × (word.now ≡ codes "lint")
    × IsNoOption plan.now
    × IsNoOption certificate.now

-- the word expect and three files' paths: they ask whether what the third expects holds of the plan
-- in the first, whose certificate is in the second
abbrev pub IsExpectOf : List (Bor (List ℕ)) → Bor (List ℕ) → Bor (List ℕ) → Bor (List ℕ) → Type 0
IsExpectOf words plan certificate path =
    (word : Bor (List ℕ))
    × (words ≡ word ∷ plan ∷ certificate ∷ path ∷ [])
    × (word.now ≡ codes "expect")
    × IsNoOption plan.now
    × IsNoOption certificate.now
    × IsNoOption path.now

-- the word diff, the paths of a plan and its certificate, and those of the next plan and its
-- certificate: they ask what changes from the one to the other
abbrev pub IsDiffOf : List (Bor (List ℕ)) → Bor (List ℕ) → Bor (List ℕ) → NextPlan → Type 0
IsDiffOf words plan certificate next =
    (word : Bor (List ℕ))
    × (words ≡ word ∷ plan ∷ certificate ∷ next.plan ∷ next.certificate ∷ [])
    × (word.now ≡ codes "diff")
    × IsNoOption plan.now
    × IsNoOption certificate.now
    × IsNoOption next.plan.now
    × IsNoOption next.certificate.now

-- the word route, two files' paths, a name and a file's path: they ask where the instance in that
-- file goes that enters at the node of that name
abbrev pub IsFileRouteOf : List (Bor (List ℕ)) → Bor (List ℕ) → Bor (List ℕ) → Bor (List ℕ)
    → Bor (List ℕ) → Type 0
IsFileRouteOf words plan certificate at path =
    (word : Bor (List ℕ))
    × (words ≡ word ∷ plan ∷ certificate ∷ at ∷ path ∷ [])
    × (word.now ≡ codes "route")
    × IsNoOption plan.now
    × IsNoOption certificate.now
    × IsNoOption path.now

-- the word route, two files' paths, a name and four values: they ask where an instance with these
-- values goes that enters at the node of that name
abbrev pub IsKeyRouteOf : List (Bor (List ℕ)) → Bor (List ℕ) → Bor (List ℕ) → Bor (List ℕ)
    → KeyWords → Type 0
IsKeyRouteOf words plan certificate at key =
    (word : Bor (List ℕ))
    × (words
    ≡ word ∷ plan ∷ certificate ∷ at ∷ key.class ∷ key.syntax ∷ key.modality ∷ key.station ∷ [])
    × (word.now ≡ codes "route")
    × IsNoOption plan.now
    × IsNoOption certificate.now

-- the words ask this question about the plan in the first file, whose certificate is in the second;
-- a strict lint, and a loss that is a no, are asked for by options, of which nothing is said here
abbrev pub IsQuestionOf : List (Bor (List ℕ)) → Bor (List ℕ) → Bor (List ℕ) → Question → Type 0
IsQuestionOf words plan certificate (RouteOfKey at key) = IsKeyRouteOf words plan certificate at key
IsQuestionOf words plan certificate (RouteOfFile at path) =
    IsFileRouteOf words plan certificate at path
IsQuestionOf words plan certificate Graph = IsGraphOf words plan certificate
IsQuestionOf words plan certificate Lint = IsLintOf words plan certificate
IsQuestionOf words plan certificate StrictLint = ⊥
IsQuestionOf words plan certificate (Diff next) =
    IsDiffOf words plan certificate next × (next.fails_on_lost ≡ false)
IsQuestionOf words plan certificate (Expect path) = IsExpectOf words plan certificate path

-- a word, what names a node and its ledger, and further words
abbrev pub IsAtNode : List ℕ → List (Bor (List ℕ)) → NodeFiles → List (Bor (List ℕ)) → Type 0
IsAtNode name words given more =
    (word : Bor (List ℕ))
    × (words ≡ word ∷ given.plan ∷ given.certificate ∷ given.node ∷ given.ledger ∷ more)
    × (word.now ≡ name)
    × IsNoOption given.plan.now
    × IsNoOption given.certificate.now
    × IsNoOption given.ledger.now

-- the word new and what names a node and its ledger: they ask to make it
abbrev pub IsMakeOf : List (Bor (List ℕ)) → NodeFiles → Type 0
IsMakeOf words given = IsAtNode (codes "new") words given []

-- the same words and the option --data-file: they ask to make it with its data sets in a file of
-- their own
abbrev pub IsMakeWithDataOf : List (Bor (List ℕ)) → NodeFiles → Type 0
IsMakeWithDataOf words given =
    (option : Bor (List ℕ))
    × IsAtNode (codes "new") words given (option ∷ [])
    × (option.now ≡ codes "--data-file")

-- the word list and what names a node and its ledger: they ask for what the node has
abbrev pub IsListOf : List (Bor (List ℕ)) → NodeFiles → Type 0
IsListOf words given = IsAtNode (codes "list") words given []

-- the same words and the option --summary: they ask for how much the node has
abbrev pub IsSummaryOf : List (Bor (List ℕ)) → NodeFiles → Type 0
IsSummaryOf words given =
    (option : Bor (List ℕ))
    × IsAtNode (codes "list") words given (option ∷ [])
    × (option.now ≡ codes "--summary")

-- the word serve and what names a node and its ledger: they ask the node to serve for ever
abbrev pub IsServeOf : List (Bor (List ℕ)) → NodeFiles → Type 0
IsServeOf words given = IsAtNode (codes "serve") words given []

-- the word send, what names a node and its ledger, and a file's path: they ask the node to take in
-- and send the instance in that file
abbrev pub IsSendOf : List (Bor (List ℕ)) → NodeFiles → Bor (List ℕ) → Type 0
IsSendOf words given file = IsAtNode (codes "send") words given (file ∷ []) × IsNoOption file.now

-- the word requeue, what names a node and its ledger, a UID and a name: they ask the node to queue
-- again the held row of that instance to that node
abbrev pub IsRequeueOf : List (Bor (List ℕ)) → NodeFiles → Bor (List ℕ) → Bor (List ℕ) → Type 0
IsRequeueOf words given uid dest =
    IsAtNode (codes "requeue") words given (uid ∷ dest ∷ []) × IsNoOption uid.now

-- the word drop, what names a node and its ledger, a UID and a name: they ask to give up the held
-- row of that instance to that node
abbrev pub IsGiveUpOf : List (Bor (List ℕ)) → NodeFiles → Bor (List ℕ) → Bor (List ℕ) → Type 0
IsGiveUpOf words given uid dest =
    IsAtNode (codes "drop") words given (uid ∷ dest ∷ []) × IsNoOption uid.now

-- the word forget, what names a node and its ledger, and a UID: they ask the node to forget that
-- instance
abbrev pub IsForgetOf : List (Bor (List ℕ)) → NodeFiles → Bor (List ℕ) → Type 0
IsForgetOf words given uid =
    IsAtNode (codes "forget") words given (uid ∷ []) × IsNoOption uid.now

-- the word requeue, what names a node and its ledger, the option --all-held and a name: they ask
-- the node to queue again all held rows to that node
abbrev pub IsRequeueAllOf : List (Bor (List ℕ)) → NodeFiles → Bor (List ℕ) → Type 0
IsRequeueAllOf words given dest =
    (option : Bor (List ℕ))
    × IsAtNode (codes "requeue") words given (option ∷ dest ∷ [])
    × (option.now ≡ codes "--all-held")

-- without options a node serves for ever, by 264 threads, holds at most 1,024 MB of data sets,
-- forgets what has been over for 30 days, logs its events, and writes no file of what it has; it
-- waits 10 s for a connect, 30 s for a caller's request, 60 s for a PDU to be taken, 30 s for 64 kB
-- of a message, and 600 s for the next message; it can't be asked or told to act
abbrev pub plain_serving : Serving
plain_serving = record {
  links = 0;
  verbosity = Events;
  report = None;
  workers = 264;
  memory = 1024;
  forget_after = Some 30;
  waits = record { connect = 10; request = 30; write = 60; message = 30; idle = 600 };
  until_input_ends = false;
  must_exist = false;
  control = None;
}

-- the words ask this of the node with these files; a long list and other ways of serving are asked
-- for by options, of which nothing is said here
abbrev pub IsDutyOf : List (Bor (List ℕ)) → NodeFiles → Duty → Type 0
IsDutyOf words given Make = IsMakeOf words given
IsDutyOf words given MakeWithData = IsMakeWithDataOf words given
IsDutyOf words given ToList = IsListOf words given
IsDutyOf words given ListLong = ⊥
IsDutyOf words given Summary = IsSummaryOf words given
IsDutyOf words given (Requeue uid dest) = IsRequeueOf words given uid dest
IsDutyOf words given (RequeueAll dest) = IsRequeueAllOf words given dest
IsDutyOf words given (GiveUp uid dest) = IsGiveUpOf words given uid dest
IsDutyOf words given (Forget uid) = IsForgetOf words given uid
IsDutyOf words given (Send file) = IsSendOf words given file
IsDutyOf words given (Serve serving) = IsServeOf words given × (serving ≡ plain_serving)

-- a word, what names a running node and where it may be asked, and further words; no token is given
abbrev pub IsAtRunning : List ℕ → List (Bor (List ℕ)) → RunningNode → List (Bor (List ℕ)) → Type 0
IsAtRunning name words given more =
    (word : Bor (List ℕ)) × (option : Bor (List ℕ))
    × (words ≡ word ∷ given.plan ∷ given.certificate ∷ given.node ∷ option ∷ given.at ∷ more)
    × (word.now ≡ name)
    × IsNoOption given.plan.now
    × IsNoOption given.certificate.now
    × (option.now ≡ codes "--at")
    × IsNoOption given.at.now
    × (given.token ≡ None)

-- the same with the option --token and a file's path before the further words
abbrev pub IsToRunning : List ℕ → List (Bor (List ℕ)) → RunningNode → List (Bor (List ℕ)) → Type 0
IsToRunning name words given more =
    (option : Bor (List ℕ)) × (file : Bor (List ℕ))
    × IsAtRunning name words (record given { token = None }) (option ∷ file ∷ more)
    × (option.now ≡ codes "--token")
    × IsNoOption file.now
    × (given.token ≡ Some file)

-- the words ask this of a node that runs, or tell it: to read, no token is needed, and to act, one
-- is; a strict summary, a reason, and reading with a token are given by options, of which nothing
-- is said here
abbrev pub IsErrandOf : List (Bor (List ℕ)) → RunningNode → Errand → Type 0
IsErrandOf words given errands.List = IsAtRunning (codes "list") words given []
IsErrandOf words given errands.Summary =
    (option : Bor (List ℕ))
    × IsAtRunning (codes "list") words given (option ∷ [])
    × (option.now ≡ codes "--summary")
IsErrandOf words given errands.StrictSummary = ⊥
IsErrandOf words given (errands.Requeue uid dest) =
    IsToRunning (codes "requeue") words given (uid ∷ dest ∷ []) × IsNoOption uid.now
IsErrandOf words given (errands.RequeueAll dest) =
    (option : Bor (List ℕ))
    × IsToRunning (codes "requeue") words given (option ∷ dest ∷ [])
    × (option.now ≡ codes "--all-held")
IsErrandOf words given (errands.GiveUp uid dest) =
    IsToRunning (codes "drop") words given (uid ∷ dest ∷ []) × IsNoOption uid.now
IsErrandOf words given (errands.GiveUpFor uid dest reason) = ⊥
IsErrandOf words given (errands.Forget uid) =
    IsToRunning (codes "forget") words given (uid ∷ []) × IsNoOption uid.now
IsErrandOf words given (errands.Visit dest) =
    IsToRunning (codes "visit") words given (dest ∷ []) × IsNoOption dest.now
IsErrandOf words given (errands.Backup copy) =
    IsToRunning (codes "backup") words given (copy ∷ []) × IsNoOption copy.now
IsErrandOf words given errands.Stop = IsToRunning (codes "stop") words given []

-- the word adopt, the paths of a plan and its certificate, those of the next plan and its
-- certificate, and a folder's path: they ask to bring the ledgers in that folder over from the one
-- plan to the other
abbrev pub IsAdoptOf : List (Bor (List ℕ)) → PlanChange → Type 0
IsAdoptOf words change =
    (word : Bor (List ℕ))
    × (words
    ≡ word ∷ change.plan ∷ change.certificate ∷ change.next_plan ∷ change.next_certificate
    ∷ change.folder ∷ [])
    × (word.now ≡ codes "adopt")
    × IsNoOption change.plan.now
    × IsNoOption change.certificate.now
    × IsNoOption change.next_plan.now
    × IsNoOption change.next_certificate.now
    × IsNoOption change.folder.now

-- the word audit, the paths of a plan and its certificate, and a folder's path: they ask to audit
-- the ledgers in that folder, of all nodes of the plan
abbrev pub IsAuditOf : List (Bor (List ℕ)) → SiteFiles → Type 0
IsAuditOf words given =
    (word : Bor (List ℕ))
    × (words ≡ word ∷ given.plan ∷ given.certificate ∷ given.folder ∷ [])
    × (word.now ≡ codes "audit")
    × IsNoOption given.plan.now
    × IsNoOption given.certificate.now
    × IsNoOption given.folder.now

-- the words are of a plain form, which asks for this; that nodes are of other makers or have no
-- ledger, that nodes run which are to be audited, that nothing is to be changed, that all faults
-- are to be named, and that an answer is to be JSON is said by options, of which nothing is said
-- here
abbrev pub Asks : List (Bor (List ℕ)) → Task → Type 0
Asks words CheckInput = IsPlainCheck words
Asks words (CheckFile plan) = IsCheckOf words plan
Asks words (Expand plan) = IsExpandOf words plan
Asks words (Import table) = IsImportOf words table
Asks words (Verify plan certificate) = IsVerifyOf words plan certificate
Asks words (Simulate plan certificate script) = IsSimulateOf words plan certificate script
Asks words (Echo plan caller called) = IsEchoOf words plan caller called
Asks words (AsksQuestion plan certificate question) = IsQuestionOf words plan certificate question
Asks words (AtNode given duty) = IsDutyOf words given duty
Asks words (AtRunning given errand) = IsErrandOf words given errand
Asks words (Adopt change) = IsAdoptOf words change
Asks words (Audit given) = IsAuditOf words given
Asks words (AuditAmong given others) = ⊥
Asks words (AuditRunning given) = ⊥
Asks words (AdoptAmong change others) = ⊥
Asks words (Rehearse change others) = ⊥
Asks words CheckInputAsJson = ⊥
Asks words (CheckFileAsJson plan) = ⊥
Asks words CheckAllOfInput = ⊥
Asks words (CheckAllOfFile plan) = ⊥
Asks words (QuestionAsJson plan certificate question) = ⊥
Asks words (Told error) = ⊥

-- what the words of a plain form ask for, and nothing where they are of none
abbrev pub Reads : List (Bor (List ℕ)) → Option Task → Type 0
Reads words found = MatchOption found ((asked : Task) → Asks words asked → ⊥) (Asks words)
