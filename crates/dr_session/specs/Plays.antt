-- What an end does over a list of inputs, and over bytes however they are cut.
use Rattle.std.specs.Prelude.{◌≡◌, ℕ, ◌≤◌, ◌⊎◌, Bool, true, false, List, [], ◌∷◌, ◌++◌, map}
use Rattle.std.specs.Prelude.{length, Option, Some, None}
use Rattle.std.specs.List.{flat_map}
use Rattle.dr_base.specs.Runs.{Run}
use Rattle.dr_pdu.specs.declared.pdu.Pdu.{Pdu}
use Rattle.dr_pdu.specs.declared.pdu.Pdu.TheVariants as pdu
use Rattle.dr_pdu.specs.declared.pdu.Pdv.{Pdv}
use Rattle.dr_pdu.specs.declared.fault.PduFault.{PduFault}
use Rattle.dr_pdu.specs.declared.fault.PduFault.TheVariants.{More, UnknownType, TooLong, BadItem}
use Rattle.dr_pdu.specs.declared.fault.PduFault.TheVariants.{BadContextId, Memory, Failed}
use Rattle.dr_pdu.specs.Grammar.{Shows}
use Rattle.dr_pdu.specs.Feeding.{StartsPdu, Feeding}
use Rattle.dr_dimse.specs.Taking.{MessageStage, Assembling, let_go}
use Rattle.dr_session.specs.declared.ends.Input.{Input}
use Rattle.dr_session.specs.declared.ends.Input.TheVariants.{Request, Acceptance, Rejection, Value}
use Rattle.dr_session.specs.declared.ends.Input.TheVariants.{NoValue, ReleaseRq, ReleaseRp, Abort}
use Rattle.dr_session.specs.declared.ends.Input.TheVariants.{Unknown, Invalid}
use Rattle.dr_session.specs.declared.ends.Told.{Told}
use Rattle.dr_session.specs.declared.ends.LinkAction.{LinkAction}
use Rattle.dr_session.specs.declared.ends.Core.{Core}
use Rattle.dr_session.specs.declared.ends.Effect.{Effect}
use Rattle.dr_session.specs.Desks.{DeskCall, DeskAnswer}
use Rattle.dr_session.specs.Telling.{Tells, TellsValue, TakesData, state_at}
use Rattle.dr_session.specs.declared.ends.Moment.{Moment}
use Rattle.dr_session.specs.Reactions.{turn, assembling}
use Rattle.dr_session.specs.Breaks.{LeavesOff}
use Rattle.dr_session.specs.Turns.{Turns}

-- an input with its moment
pub record At : Type 0 where
  pub moment : Moment
  pub input : Input

abbrev pub with_stage : MessageStage → Core → Core
with_stage stage c = record c { assembly = assembling c.assembly.awaited stage }

-- the bytes of the data set that an end is hearing are let go, as those of one that is too large
abbrev pub without_data : Core → Core
without_data c = with_stage (let_go c.assembly.stage) c

-- what an input comes to, and the end after it
abbrev pub TellsTo : Core → Input → Told → Core → Type 0
TellsTo c i told after =
    (stage : MessageStage) × Tells c i told stage × (after ≡ with_stage stage c)

abbrev pub TellsValueTo : Core → Pdv → Told → Core → Type 0
TellsValueTo c p told after =
    (stage : MessageStage) × TellsValue c.agreed c p told stage × (after ≡ with_stage stage c)

-- one input: what it comes to, and what is done
pub record Reacts {S : Type 0} (step : S → DeskCall → DeskAnswer → S → Type 0) (c : Core) (i : At)
    (s : S) (x : Effect) (t : S) : Type 0 where
  pub told : Told
  pub stage : MessageStage
  pub tells : Tells c i.input told stage
  pub turns : Turns step (turn i.moment (with_stage stage c) told) s x t

-- it takes memory to tell what the input comes to: a value where data is taken
abbrev pub IsKept : Core → Input → Type 0
IsKept c (Value p) = TakesData (state_at c)
IsKept c i = ⊥

-- one input that was left on the way, as memory ended
pub record Stops {S : Type 0} (step : S → DeskCall → DeskAnswer → S → Type 0) (c : Core) (i : At)
    (s t : S) : Type 0 where
  pub by : (IsKept c i.input × (t ≡ s))
      ⊎ ((told : Told) × (stage : MessageStage)
      × Tells c i.input told stage
      × LeavesOff step i.moment (with_stage stage c) told s t)

-- the inputs one after the other, and all that is written
abbrev pub Plays : {S : Type 0}
    → (S → DeskCall → DeskAnswer → S → Type 0)
    → Core → List At → S → List LinkAction → Core → S → Type 0
Plays step c [] s acts d t = (acts ≡ []) × (d ≡ c) × (t ≡ s)
Plays step c (i ∷ is) s acts d t =
    (x : Effect) × (m : _)
    × (later : List LinkAction)
    × Reacts step c i s x m
    × Plays step x.core is m later d t
    × (acts ≡ x.acts ++ later)

-- one more input behind what was done, and all that is written
abbrev pub PlaysMore : {S : Type 0}
    → (S → DeskCall → DeskAnswer → S → Type 0)
    → Effect → At → S → Effect → S → Type 0
PlaysMore step first i s x t =
    (more : List LinkAction)
    × Plays step first.core (i ∷ []) s more x.core t
    × (x.acts ≡ first.acts ++ more)

-- several things were written: one behind the other, they are put together in memory
abbrev pub AreSeveral : List LinkAction → Type 0
AreSeveral written = 2 ≤ length written

-- The inputs were left on the way, as memory ended, where that was written before them: some first
-- ones were done, and the next one was left on the way, or what they wrote was to be put together.
abbrev pub BreaksOff : {S : Type 0}
    → (S → DeskCall → DeskAnswer → S → Type 0)
    → List LinkAction → Core → List At → S → S → Type 0
BreaksOff step written c [] s t = AreSeveral written × (t ≡ s)
BreaksOff step written c (i ∷ is) s t =
    (AreSeveral written × (t ≡ s))
    ⊎ (Stops step c i s t
    ⊎ ((x : Effect) × (m : _) × Reacts step c i s x m
    × BreaksOff step (written ++ x.acts) x.core is m t))

-- ---- bytes

abbrev pub values_of : List Pdv → List Input
values_of [] = NoValue ∷ []
values_of (p ∷ ps) = map Value (p ∷ ps)

-- a P-DATA-TF counts as its values, one after the other: those behind a fault come in Sta13, where
-- the table ignores them
abbrev pub inputs_of : Pdu → List Input
inputs_of (pdu.AssociateRq rq) = Request rq ∷ []
inputs_of (pdu.AssociateAc ac) = Acceptance ac ∷ []
inputs_of (pdu.AssociateRj rj) = Rejection rj ∷ []
inputs_of (pdu.Transfer pdvs) = values_of pdvs
inputs_of pdu.ReleaseRq = ReleaseRq ∷ []
inputs_of pdu.ReleaseRp = ReleaseRp ∷ []
inputs_of (pdu.Abort a) = Abort a ∷ []

abbrev pub input_of : PduFault → Input
input_of UnknownType = Unknown
input_of fault = Invalid

-- what is no PDU, and never will be
abbrev pub IsFault : PduFault → Type 0
IsFault More = ⊥
IsFault Memory = ⊥
IsFault Failed = ⊥
IsFault fault = Unit {0}

-- behind all PDUs: more is to come, or there is a fault, which is the last that is heard
abbrev pub HearsLast : Bool → ℕ → List ℕ → List Input → List ℕ → Type 0
HearsLast false limit rest last kept = Shows limit rest More × (last ≡ []) × (kept ≡ rest)
HearsLast true limit rest last kept =
    (fault : PduFault) × IsFault fault × Shows limit rest fault
    × (last ≡ input_of fault ∷ [])
    × (kept ≡ [])

-- the inputs that a piece makes, behind what is kept
pub record HearsOn (limit : ℕ) (kept piece : List ℕ) (inputs : List Input)
    (new : Feeding) : Type 0 where
  pub pdus : List Pdu
  pub rest : List ℕ
  pub last : List Input
  pub run : Run (StartsPdu limit) pdus (kept ++ piece) rest
  pub stops : HearsLast new.failed limit rest last new.kept
  pub same : new.limit ≡ limit
  pub are : inputs ≡ flat_map inputs_of pdus ++ last

abbrev pub HearsBy : Bool → Feeding → List ℕ → List Input → Feeding → Type 0
HearsBy true old piece inputs new = (inputs ≡ []) × (new ≡ old)
HearsBy false old piece inputs new = HearsOn old.limit old.kept piece inputs new

abbrev pub Hears : Feeding → List ℕ → List Input → Feeding → Type 0
Hears old piece inputs new = HearsBy old.failed old piece inputs new

abbrev pub at_moment : Moment → Input → At
at_moment moment input = record { moment = moment; input = input }

-- a piece: its inputs, and what they do
abbrev pub PlaysBytes : {S : Type 0}
    → (S → DeskCall → DeskAnswer → S → Type 0)
    → Moment → Feeding → Core → List ℕ → S → Feeding → Effect → S → Type 0
PlaysBytes step moment ear core piece s new x t =
    (inputs : List Input)
    × Hears ear piece inputs new
    × Plays step core (map (at_moment moment) inputs) s x.acts x.core t

-- no whole PDU stands in front of what is kept
abbrev pub EndsThere : Feeding → Type 0
EndsThere ear =
    (ear.failed ≡ false) × ((p : Pdu) (after : List ℕ) → StartsPdu ear.limit ear.kept p after → ⊥)

-- PDUs that came out, and what stands behind them
abbrev pub PlaysOn : {S : Type 0}
    → (S → DeskCall → DeskAnswer → S → Type 0)
    → Moment → Feeding → List Pdu → Core → S → Feeding → Effect → S → Type 0
PlaysOn step moment ear pdus core s new x t =
    (last : List Input)
    × HearsLast new.failed ear.limit ear.kept last new.kept
    × (new.limit ≡ ear.limit)
    × Plays step core (map (at_moment moment) (flat_map inputs_of pdus ++ last)) s x.acts x.core t

-- what may be heard behind all PDUs: nothing, or the fault that shows there
abbrev pub IsLast : ℕ → List ℕ → List Input → Type 0
IsLast limit rest last =
    (last ≡ [])
    ⊎ ((fault : PduFault) × IsFault fault × Shows limit rest fault × (last ≡ input_of fault ∷ []))

-- no more is to come out of what is kept, or that fault shows there
abbrev pub FaultShows : Feeding → Feeding → Option PduFault → Type 0
FaultShows ear new None =
    HearsLast new.failed ear.limit ear.kept [] new.kept × (new.limit ≡ ear.limit)
FaultShows ear new (Some fault) =
    IsFault fault × Shows ear.limit ear.kept fault
    × (new ≡ record { limit = ear.limit; failed = true; kept = [] })

-- they were left on the way, as memory ended, or before: what stands behind them is looked into
-- first
abbrev pub BreaksOn : {S : Type 0}
    → (S → DeskCall → DeskAnswer → S → Type 0)
    → Moment → Feeding → List Pdu → Core → S → S → Type 0
BreaksOn step moment ear pdus core s t =
    (t ≡ s)
    ⊎ ((last : List Input)
    × IsLast ear.limit ear.kept last
    × BreaksOff step [] core (map (at_moment moment) (flat_map inputs_of pdus ++ last)) s t)

-- A piece that was left on the way, as memory ended: nothing was done, or some first inputs of the
-- PDUs that it ends. Behind what is no PDU none is: nothing is kept there.
abbrev pub BreaksBytes : {S : Type 0}
    → (S → DeskCall → DeskAnswer → S → Type 0)
    → Moment → Feeding → Core → List ℕ → S → S → Type 0
BreaksBytes step moment ear core piece s t =
    (ear.failed ≡ false)
    × ((t ≡ s)
    ⊎ ((pdus : List Pdu) × (rest : List ℕ) × (last : List Input)
    × Run (StartsPdu ear.limit) pdus (ear.kept ++ piece) rest
    × IsLast ear.limit rest last
    × BreaksOff step [] core (map (at_moment moment) (flat_map inputs_of pdus ++ last)) s t))
