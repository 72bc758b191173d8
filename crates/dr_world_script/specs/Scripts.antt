-- Scripts: a step, a change of plan or what another product writes or does a line, its fields
-- joined by tabs.
use Rattle.std.specs.Prelude.{◌≡◌, ◌⊎◌, ℕ, ◌+◌, ◌*◌, ◌<◌, ◌^◌, ◌==◌, Bool, true, false, List, []}
use Rattle.std.specs.Prelude.{◌∷◌}
use Rattle.std.specs.Prelude.{◌++◌, All, length, codes, decimal, filter, not, Result, Ok, Err}
use Rattle.std.specs.List.{AllZip}
use Rattle.hex.specs.Hex.{decode_of}
use Rattle.dr_base.specs.Numbers.{IsNumeral}
use Rattle.dr_base.specs.Texts.{Text}
use Rattle.dr_base.specs.declared.syntax.Syntax.{Syntax}
use Rattle.dr_base.specs.declared.syntax.Syntax.TheVariants.{Implicit, Explicit}
use Rattle.dr_cert_text.specs.Cuts.{cuts}
use Rattle.dr_ledger.specs.Items.{IsItem}
use Rattle.dr_ledger.specs.declared.content.Job.{Job}
use Rattle.dr_world_script.specs.declared.act.Act.{Act}
use Rattle.dr_world_script.specs.declared.act.Act.TheVariants as act
use Rattle.dr_world_script.specs.declared.foreign.Foreign.{Foreign}
use Rattle.dr_world_script.specs.declared.foreign.Foreign.TheVariants as foreign
use Rattle.dr_world_script.specs.declared.foreign.ForeignWord.{ForeignWord}
use Rattle.dr_world_script.specs.declared.foreign.ForeignWord.TheVariants as called
use Rattle.dr_world_script.specs.declared.step.Side.{Side}
use Rattle.dr_world_script.specs.declared.step.Side.TheVariants.{Requestor, Acceptor}
use Rattle.dr_world_script.specs.declared.step.Step.{Step}
use Rattle.dr_world_script.specs.declared.step.Step.TheVariants.{Submit, Open, Away, Push, Move}
use Rattle.dr_world_script.specs.declared.step.Step.TheVariants.{Abort, Release, Close, Late}
use Rattle.dr_world_script.specs.declared.step.Step.TheVariants.{Restart, Requeue, Drop, Forget}
use Rattle.dr_world_script.specs.declared.step.Step.TheVariants.{Tick, RefuseStore}
use Rattle.dr_world_script.specs.declared.step.Word.{Word}
use Rattle.dr_world_script.specs.declared.step.Word.TheVariants as word
use Rattle.dr_world_script.specs.declared.fault.LineFault.{LineFault}
use Rattle.dr_world_script.specs.declared.fault.LineFault.TheVariants as lines
use Rattle.dr_world_script.specs.declared.fault.ScriptFault.{ScriptFault}
use Rattle.dr_world_script.specs.declared.fault.ScriptFault.TheVariants as script

-- how the word of a step is spelled
abbrev pub spelled : Word → Text
spelled word.Submit = codes "submit"
spelled word.Open = codes "open"
spelled word.Away = codes "away"
spelled word.Push = codes "push"
spelled word.Move = codes "move"
spelled word.Abort = codes "abort"
spelled word.Release = codes "release"
spelled word.Close = codes "close"
spelled word.Late = codes "late"
spelled word.Restart = codes "restart"
spelled word.Requeue = codes "requeue"
spelled word.Drop = codes "drop"
spelled word.Forget = codes "forget"
spelled word.Tick = codes "tick"
spelled word.Refuse = codes "refuse"

-- the word of a change of plan
abbrev pub adopt_word : Text
adopt_word = codes "adopt"

-- the word of what another maker's product writes
abbrev pub bytes_word : Text
bytes_word = codes "bytes"

-- the words of what concerns other makers' products: that a node is one, a store, and an answer
abbrev pub foreign_spelled : ForeignWord → Text
foreign_spelled called.Node = codes "foreign"
foreign_spelled called.Store = codes "store"
foreign_spelled called.Answer = codes "answer"

-- the word for an end of a link
abbrev pub side_word : Side → Text
side_word Requestor = codes "requestor"
side_word Acceptor = codes "acceptor"

-- the letter for a transfer syntax: Implicit or Explicit VR Little Endian (PS3.5 A.1 and A.2)
abbrev pub syntax_letter : Syntax → Text
syntax_letter Implicit = codes "I"
syntax_letter Explicit = codes "E"

-- the field is the number in decimal, without leading zeros; numbers have 64 bits
abbrev pub IsNumber : ℕ → Text → Type 0
IsNumber n field = IsNumeral 64 n field

-- the fields are one number
abbrev pub AreNumber : ℕ → List Text → Type 0
AreNumber n fields = (field : Text) × (fields ≡ field ∷ []) × IsNumber n field

-- the fields are a link's number and an end of it
abbrev pub AreEnd : ℕ → Side → List Text → Type 0
AreEnd link side fields =
    (field : Text) × (fields ≡ field ∷ side_word side ∷ []) × IsNumber link field

-- the fields are a link's number, the end that reads, and how many bytes it reads at most
abbrev pub AreMove : ℕ → Side → ℕ → List Text → Type 0
AreMove link reader most fields =
    (field count : Text)
    × (fields ≡ field ∷ side_word reader ∷ count ∷ [])
    × IsNumber link field × IsNumber most count

-- the fields are a link's number, an end of it, and bytes in hex digits of either case
abbrev pub AreWritten : ℕ → Side → List ℕ → List Text → Type 0
AreWritten link side bytes fields =
    (field digits : Text)
    × (fields ≡ field ∷ side_word side ∷ digits ∷ [])
    × IsNumber link field
    × (decode_of digits ≡ Ok bytes)

-- What the fields behind a word tell. A data set is written in hex digits of either case; its item
-- is what the data set has in the given transfer syntax.
abbrev pub Follows : Word → List Text → Step → Type 0
Follows word.Submit fields step =
    (node digits : Text) × (item : Job)
    × (step ≡ Submit node item)
    × (fields ≡ node ∷ syntax_letter item.key.syntax ∷ digits ∷ [])
    × (decode_of digits ≡ Ok item.body)
    × IsItem item
Follows word.Open fields step =
    («from» «to» : Text) × (step ≡ Open «from» «to») × (fields ≡ «from» ∷ «to» ∷ [])
Follows word.Away fields step =
    («from» «to» : Text) × (step ≡ Away «from» «to») × (fields ≡ «from» ∷ «to» ∷ [])
Follows word.Push fields step = (link : ℕ) × (step ≡ Push link) × AreNumber link fields
Follows word.Move fields step =
    (link most : ℕ) × (reader : Side)
    × (step ≡ Move link reader most)
    × AreMove link reader most fields
Follows word.Abort fields step =
    (link : ℕ) × (side : Side) × (step ≡ Abort link side) × AreEnd link side fields
Follows word.Release fields step = (link : ℕ) × (step ≡ Release link) × AreNumber link fields
Follows word.Close fields step = (link : ℕ) × (step ≡ Close link) × AreNumber link fields
Follows word.Late fields step =
    (link : ℕ) × (side : Side) × (step ≡ Late link side) × AreEnd link side fields
Follows word.Restart fields step = (node : Text) × (step ≡ Restart node) × (fields ≡ node ∷ [])
Follows word.Requeue fields step =
    (node uid dest : Text) × (step ≡ Requeue node uid dest) × (fields ≡ node ∷ uid ∷ dest ∷ [])
Follows word.Drop fields step =
    (node uid dest : Text) × (step ≡ Drop node uid dest) × (fields ≡ node ∷ uid ∷ dest ∷ [])
Follows word.Forget fields step =
    (node uid : Text) × (step ≡ Forget node uid) × (fields ≡ node ∷ uid ∷ [])
Follows word.Tick fields step =
    (milliseconds : ℕ) × (step ≡ Tick milliseconds) × AreNumber milliseconds fields
Follows word.Refuse fields step = (node : Text) × (step ≡ RefuseStore node) × (fields ≡ node ∷ [])

-- the parts tell the step: a word, and what follows
abbrev pub TellsStep : List Text → Step → Type 0
TellsStep parts step =
    (w : Word) × (fields : List Text) × (parts ≡ spelled w ∷ fields) × Follows w fields step

-- the field is a status: four hex digits of either case, the high byte first
abbrev pub IsStatus : ℕ → Text → Type 0
IsStatus status field =
    (high low : ℕ)
    × (decode_of field ≡ Ok (high ∷ low ∷ []))
    × (status ≡ high * 256 + low)

-- what the fields behind a word tell of another maker's product; a data set as it is written where
-- an item enters
abbrev pub FollowsForeign : ForeignWord → List Text → Foreign → Type 0
FollowsForeign called.Node fields what =
    (node : Text) × (what ≡ foreign.Node node) × (fields ≡ node ∷ [])
FollowsForeign called.Store fields what =
    (link : ℕ) × (field digits : Text) × (item : Job)
    × (what ≡ foreign.Store link item)
    × (fields ≡ field ∷ syntax_letter item.key.syntax ∷ digits ∷ [])
    × IsNumber link field
    × (decode_of digits ≡ Ok item.body)
    × IsItem item
FollowsForeign called.Answer fields what =
    (link status : ℕ) × (field digits : Text)
    × (what ≡ foreign.Answer link status)
    × (fields ≡ field ∷ digits ∷ [])
    × IsNumber link field
    × IsStatus status digits

-- the parts tell that: a word, and what follows
abbrev pub TellsForeign : List Text → Foreign → Type 0
TellsForeign parts what =
    (w : ForeignWord) × (fields : List Text)
    × (parts ≡ foreign_spelled w ∷ fields)
    × FollowsForeign w fields what

-- what parts tell: a step; or that all nodes take another plan, by the names of two files: the
-- plan's and its certificate's; or what another product writes at an end of a link; or that a node
-- is such a product, or what one does
abbrev pub TellsBy : List Text → Act → Type 0
TellsBy parts (act.Step step) = TellsStep parts step
TellsBy parts (act.Adopt plan certificate) = parts ≡ adopt_word ∷ plan ∷ certificate ∷ []
TellsBy parts (act.Bytes link side bytes) =
    (fields : List Text) × (parts ≡ bytes_word ∷ fields) × AreWritten link side bytes fields
TellsBy parts (act.Foreign what) = TellsForeign parts what

-- what the line tells, whose parts are joined by tabs
abbrev pub Tells : Text → Act → Type 0
Tells line a = TellsBy (cuts 9 line) a

-- a line that tells nothing: one without a byte, or with `#` first
abbrev pub is_skipped : Text → Bool
is_skipped [] = true
is_skipped (byte ∷ line) = byte == 35

-- the lines that are no comments
abbrev pub told_lines : Text → List Text
told_lines text = filter (λ line. not (is_skipped line)) (cuts 10 text)

-- what reading parts answers: what they tell, or that they tell nothing; or memory ran out
abbrev pub ReadsParts : List Text → Result Act LineFault → Type 0
ReadsParts parts (Ok a) = TellsBy parts a
ReadsParts parts (Err lines.NoStep) = (a : Act) → TellsBy parts a → ⊥
ReadsParts parts (Err lines.Memory) = Unit {0}

-- what reading a line answers
abbrev pub ReadsLine : Text → Result Act LineFault → Type 0
ReadsLine line answer = ReadsParts (cuts 9 line) answer

-- what reading parts as a step answers
abbrev pub ReadsStep : List Text → Result Step LineFault → Type 0
ReadsStep parts (Ok step) = TellsStep parts step
ReadsStep parts (Err lines.NoStep) = (step : Step) → TellsStep parts step → ⊥
ReadsStep parts (Err lines.Memory) = Unit {0}

-- what reading the names of two files answers
abbrev pub ReadsAdoption : List Text → Result Act LineFault → Type 0
ReadsAdoption fields (Ok (act.Step step)) = ⊥
ReadsAdoption fields (Ok (act.Bytes link side bytes)) = ⊥
ReadsAdoption fields (Ok (act.Foreign what)) = ⊥
ReadsAdoption fields (Ok (act.Adopt plan certificate)) = fields ≡ plan ∷ certificate ∷ []
ReadsAdoption fields (Err lines.NoStep) =
    (plan certificate : Text) → fields ≡ plan ∷ certificate ∷ [] → ⊥
ReadsAdoption fields (Err lines.Memory) = Unit {0}

-- what reading the fields of what another product writes answers
abbrev pub ReadsWritten : List Text → Result Act LineFault → Type 0
ReadsWritten fields (Ok (act.Step step)) = ⊥
ReadsWritten fields (Ok (act.Adopt plan certificate)) = ⊥
ReadsWritten fields (Ok (act.Foreign what)) = ⊥
ReadsWritten fields (Ok (act.Bytes link side bytes)) = AreWritten link side bytes fields
ReadsWritten fields (Err lines.NoStep) =
    (link : ℕ) (side : Side) (bytes : List ℕ) → AreWritten link side bytes fields → ⊥
ReadsWritten fields (Err lines.Memory) = Unit {0}

-- what reading the fields behind a word of what concerns other products answers
abbrev pub ReadsForeignFields : ForeignWord → List Text → Result Foreign LineFault → Type 0
ReadsForeignFields w fields (Ok what) = FollowsForeign w fields what
ReadsForeignFields w fields (Err lines.NoStep) =
    (what : Foreign) → FollowsForeign w fields what → ⊥
ReadsForeignFields w fields (Err lines.Memory) = Unit {0}

-- the same, as what a line tells
abbrev pub ReadsForeign : ForeignWord → List Text → Result Act LineFault → Type 0
ReadsForeign w fields (Ok (act.Step step)) = ⊥
ReadsForeign w fields (Ok (act.Adopt plan certificate)) = ⊥
ReadsForeign w fields (Ok (act.Bytes link side bytes)) = ⊥
ReadsForeign w fields (Ok (act.Foreign what)) = FollowsForeign w fields what
ReadsForeign w fields (Err lines.NoStep) = (what : Foreign) → FollowsForeign w fields what → ⊥
ReadsForeign w fields (Err lines.Memory) = Unit {0}

-- what reading the fields behind a word answers
abbrev pub ReadsFields : Word → List Text → Result Step LineFault → Type 0
ReadsFields w fields (Ok step) = Follows w fields step
ReadsFields w fields (Err lines.NoStep) = (step : Step) → Follows w fields step → ⊥
ReadsFields w fields (Err lines.Memory) = Unit {0}

-- the text is a script of these: a line each, in order, but for lines that are skipped
abbrev pub IsScriptOf : Text → List Act → Type 0
IsScriptOf text acts = AllZip Tells (told_lines text) acts

-- the n-th line, counted from 1, is the first that isn't skipped and tells nothing
abbrev pub IsFirstWrong : Text → ℕ → Type 0
IsFirstWrong text n = (before : List Text) × (line : Text) × (later : List Text)
    × (cuts 10 text ≡ before ++ line ∷ later) × (n ≡ length before + 1)
    × (is_skipped line ≡ false) × ((a : Act) → Tells line a → ⊥)
    × All (λ earlier. (is_skipped earlier ≡ true) ⊎ ((a : Act) × Tells earlier a)) before

-- what reading a script answers
abbrev pub ReadsScript : Text → Result (List Act) ScriptFault → Type 0
ReadsScript text (Ok acts) = IsScriptOf text acts
ReadsScript text (Err (script.Line n)) = IsFirstWrong text n
ReadsScript text (Err script.Memory) = Unit {0}

-- the n-th line, counted from 1, isn't skipped, and so many lines before it aren't
abbrev pub IsLineAt : Text → ℕ → ℕ → Type 0
IsLineAt text place n = (before : List Text) × (line : Text) × (later : List Text)
    × (cuts 10 text ≡ before ++ line ∷ later) × (n ≡ length before + 1)
    × (is_skipped line ≡ false)
    × (length (filter (λ earlier. not (is_skipped earlier)) before) ≡ place)

-- what reading hex digits answers: their bytes, or that they are none; or memory ran out
abbrev pub DecodesBody : Text → Result (List ℕ) LineFault → Type 0
DecodesBody digits (Ok bytes) = decode_of digits ≡ Ok bytes
DecodesBody digits (Err lines.NoStep) = (bytes : List ℕ) → decode_of digits ≡ Ok bytes → ⊥
DecodesBody digits (Err lines.Memory) = Unit {0}

-- what taking a data set as an item answers: the item that it has in the transfer syntax, or that
-- it has none
abbrev pub TakesItem : Syntax → List ℕ → Result Job LineFault → Type 0
TakesItem syntax body (Ok item) = IsItem item × (item.key.syntax ≡ syntax) × (item.body ≡ body)
TakesItem syntax body (Err lines.NoStep) =
    (item : Job) → IsItem item → item.key.syntax ≡ syntax → item.body ≡ body → ⊥
TakesItem syntax body (Err lines.Memory) = Unit {0}

-- what reading a status answers
abbrev pub ReadsStatus : Text → Result ℕ LineFault → Type 0
ReadsStatus field (Ok status) = IsStatus status field
ReadsStatus field (Err lines.NoStep) = (status : ℕ) → IsStatus status field → ⊥
ReadsStatus field (Err lines.Memory) = Unit {0}
