-- What an assembly makes of one value after the other.
use Rattle.std.specs.Prelude.{◌≡◌, ◌≢◌, ◌⊎◌, ℕ, ◌<◌, ◌≤◌, Bool, true, false, List, [], ◌∷◌, ◌++◌}
use Rattle.std.specs.Prelude.{length, Option, Some, None, IfSome, Result, Ok, Err}
use Rattle.std.specs.List.{flat_map}
use Rattle.dr_base.specs.Calls.{Calls}
use Rattle.dr_pdu.specs.declared.pdu.Pdv.{Pdv}
use Rattle.dr_dimse.specs.declared.message.Body.{Body}
use Rattle.dr_dimse.specs.declared.message.Body.TheVariants.{Whole, TooLarge}
use Rattle.dr_dimse.specs.declared.message.Message.{Message}
use Rattle.dr_dimse.specs.declared.message.Awaited.{Awaited}
use Rattle.dr_dimse.specs.declared.message.Awaited.TheVariants.{Requests, AnswerTo, Nothing}
use Rattle.dr_dimse.specs.declared.command.Command.{Command}
use Rattle.dr_dimse.specs.declared.fault.DimseFault.{DimseFault}
use Rattle.dr_dimse.specs.declared.fault.DimseFault.TheVariants.{OutOfPlace, MixedContext}
use Rattle.dr_dimse.specs.declared.fault.DimseFault.TheVariants.{BadCommand, TooLong, Memory}
use Rattle.dr_dimse.specs.Commands.{IsCommand, field_of, id_of, announces}
use Rattle.dr_dimse.specs.Messages.{is_command, is_last, joined, body_of, AreInner, IsWhole}

-- what is under way: nothing, a command of which this much is there, or the data set behind a
-- command
pub data MessageStage : Type 0 where
  Idle : MessageStage
  InCommand : ℕ → List ℕ → MessageStage
  InData : ℕ → Command → Body → MessageStage

-- an assembly: what it awaits, and what is under way
pub record Assembling : Type 0 where
  pub awaited : Awaited
  pub stage : MessageStage

-- the values since the last message that leave this stage
abbrev pub LeavesStage : List Pdv → MessageStage → Type 0
LeavesStage ps Idle = ps ≡ []
LeavesStage ps (InCommand id text) =
    (ps ≢ []) × AreInner true id ps × (text ≡ joined ps) × (length text ≤ 16384)
LeavesStage ps (InData id c body) =
    (cs ds : List Pdv) × (text : List ℕ) × (ps ≡ cs ++ ds) × IsWhole true id cs text
    × (length text ≤ 16384) × IsCommand text c × (announces c ≡ true) × AreInner false id ds
    × (body ≡ body_of (joined ds))

-- the command whose data set is under way, and its context
abbrev pub data_of : MessageStage → Option (ℕ × Command)
data_of (InData id c body) = Some (id, c)
data_of s = None

-- the bytes of a data set so far; none of one that is too large, as they aren't kept
abbrev pub bytes_of : Body → List ℕ
bytes_of (Whole text) = text
bytes_of TooLarge = []

-- the bytes so far of the data set that is under way, none where there is none
abbrev pub data_so_far : MessageStage → List ℕ
data_so_far (InData id c body) = bytes_of body
data_so_far s = []

-- ---- one value

-- the presentation context of the message that is under way
abbrev pub context_of : MessageStage → Option ℕ
context_of Idle = None
context_of (InCommand id text) = Some id
context_of (InData id c body) = Some id

-- whether a fragment of a command comes next
abbrev pub wants_command : MessageStage → Bool
wants_command (InData id c body) = false
wants_command s = true

-- the bytes so far of the command that is under way, none where there is none
abbrev pub text_so_far : MessageStage → List ℕ
text_so_far (InCommand id text) = text
text_so_far s = []

-- one more fragment of a body; once it is too large, its bytes are dropped
abbrev pub kept : Body → List ℕ → Body
kept (Whole text) more = body_of (text ++ more)
kept TooLarge more = TooLarge

-- The bytes of the data set that is under way are let go: from now on it counts as too large.
abbrev pub let_go : MessageStage → MessageStage
let_go (InData id c body) = InData id c TooLarge
let_go s = s

-- an acceptor awaits requests; a requestor the answer to its message of that id, or nothing as it
-- has asked nothing
abbrev pub IsAwaited : Awaited → Command → Type 0
IsAwaited Requests c = field_of c < 0x8000
IsAwaited (AnswerTo id) c = (0x8000 ≤ field_of c) × (id_of c ≡ Some id)
IsAwaited Nothing c = ⊥

-- the value is in the context of the message that is under way, if there is one
abbrev pub InContext : MessageStage → Pdv → Type 0
InContext s p = IfSome (context_of s) (λ id. p.id ≡ id)

-- the value is in the context of what is under way, and of the kind that comes next: a command, or
-- its data set
abbrev pub InPlace : MessageStage → Pdv → Type 0
InPlace s p = InContext s p × (is_command p ≡ wants_command s)

-- the value is in place, and with it the command has at most 16,384 bytes
abbrev pub IsShortEnough : MessageStage → Pdv → Type 0
IsShortEnough s p =
    InPlace s p × (wants_command s ≡ true) × (length (text_so_far s ++ p.fragment) ≤ 16384)

-- the fragment ends a command of this text
abbrev pub EndsCommand : MessageStage → Pdv → List ℕ → Type 0
EndsCommand s p text = IsShortEnough s p × (is_last p ≡ true) × (text ≡ text_so_far s ++ p.fragment)

-- a whole command makes a message, or waits for its data set
abbrev pub BeginsMessage : ℕ → Command → Option Message → MessageStage → Type 0
BeginsMessage id c None new = (announces c ≡ true) × (new ≡ InData id c (Whole []))
BeginsMessage id c (Some m) new =
    (announces c ≡ false) × (m ≡ record { id = id; command = c; body = None }) × (new ≡ Idle)

-- a fragment of a data set is there
abbrev pub TakesData : MessageStage → Pdv → Option Message → MessageStage → Type 0
TakesData (InData id c body) p None new =
    (is_last p ≡ false) × (new ≡ InData id c (kept body p.fragment))
TakesData (InData id c body) p (Some m) new =
    (is_last p ≡ true)
    × (m ≡ record { id = id; command = c; body = Some (kept body p.fragment) })
    × (new ≡ Idle)
TakesData s p m new = ⊥

-- What one value does. A fault leaves what is under way. Of several faults the first counts:
-- another context, out of place by its kind, a command too long, one that can't be read, one that
-- isn't awaited.
abbrev pub TakesValue : Awaited → MessageStage → Pdv
    → Result (Option Message) DimseFault
    → MessageStage → Type 0
TakesValue awaited s p (Ok m) new =
    InPlace s p × (wants_command s ≡ false) × TakesData s p m new
    ⊎ (IsShortEnough s p × (is_last p ≡ false) × (m ≡ None)
    × (new ≡ InCommand p.id (text_so_far s ++ p.fragment))
    ⊎ ((text : List ℕ) × (c : Command) × EndsCommand s p text × IsCommand text c
    × IsAwaited awaited c × BeginsMessage p.id c m new))
TakesValue awaited s p (Err MixedContext) new = (new ≡ s) × (InContext s p → ⊥)
TakesValue awaited s p (Err OutOfPlace) new =
    (new ≡ s)
    × (InContext s p × (is_command p ≢ wants_command s)
    ⊎ ((text : List ℕ) × (c : Command) × EndsCommand s p text × IsCommand text c
    × (IsAwaited awaited c → ⊥)))
TakesValue awaited s p (Err TooLong) new =
    (new ≡ s) × InPlace s p × (wants_command s ≡ true)
    × (16384 < length (text_so_far s ++ p.fragment))
TakesValue awaited s p (Err BadCommand) new =
    (new ≡ s) × ((text : List ℕ) × EndsCommand s p text × ((c : Command) → IsCommand text c → ⊥))
TakesValue awaited s p (Err Memory) new = new ≡ s

-- ---- many values

-- one call: what was awaited, the value, and the answer
pub record TakeCall : Type 0 where
  pub awaited : Awaited
  pub value : Pdv
  pub answer : Result (Option Message) DimseFault

-- what the calls make of a stage, one after the other
abbrev pub Took : MessageStage → List TakeCall → MessageStage → Type 0
Took old calls new = Calls
    (λ before call after. TakesValue call.awaited before call.value call.answer after) old calls new

-- the value that a call took; a fault takes none
abbrev pub taken_by : Pdv → Result (Option Message) DimseFault → List Pdv
taken_by p (Ok m) = p ∷ []
taken_by p (Err fault) = []

-- the message that a call ended, if it did
abbrev pub given_by : Result (Option Message) DimseFault → List Message
given_by (Ok (Some m)) = m ∷ []
given_by r = []

-- the values that these calls took, in order
abbrev pub taken : List TakeCall → List Pdv
taken xs = flat_map (λ (x : TakeCall). taken_by x.value x.answer) xs

-- the messages that these calls ended, in order
abbrev pub given : List TakeCall → List Message
given xs = flat_map (λ (x : TakeCall). given_by x.answer) xs

-- each of the values is taken, one after the other, and none ends a message
abbrev pub Waits : Awaited → MessageStage → List Pdv → MessageStage → Type 0
Waits awaited old [] new = old ≡ new
Waits awaited old (p ∷ ps) new =
    (mid : MessageStage) × TakesValue awaited old p (Ok None) mid × Waits awaited mid ps new

-- from a fresh assembly on, the last of the values ends the message, and none before it ends one
abbrev pub GivesMessage : Awaited → List Pdv → Message → Type 0
GivesMessage awaited ps m =
    (front : List Pdv) × (final : Pdv) × (mid : MessageStage)
    × (ps ≡ front ++ final ∷ [])
    × Waits awaited Idle front mid
    × TakesValue awaited mid final (Ok (Some m)) Idle

-- the message, where no value of it is still to come
abbrev pub ended_by : List Pdv → Message → Option Message
ended_by [] m = Some m
ended_by (p ∷ later) m = None

-- the values since the last message, behind one more of a message of which these are still to come
abbrev pub since : List Pdv → List Pdv → List Pdv
since before [] = []
since before (p ∷ later) = before
