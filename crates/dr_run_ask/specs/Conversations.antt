-- What is asked of a node that runs and what it is told, one thing after the other.
use Rattle.std.specs.Prelude.{◌≡◌, ◌⊎◌, true, false, List, [], ◌∷◌, codes}
use Rattle.std.specs.Prelude.{Option, None, Some, Result, Ok, Err, MatchOption}
use Rattle.serde_json.specs.Data.{Data}
use Rattle.dr_base.specs.Texts.{Text}
use Rattle.dr_run_ask.specs.Calls.{is_act}
use Rattle.dr_run_ask.specs.Lines.{FirstLineIs, flag_at, text_at}
use Rattle.dr_run_ask.specs.declared.answer.HttpAnswer.{HttpAnswer}
use Rattle.dr_run_ask.specs.declared.call.HttpCall.{HttpCall}
use Rattle.dr_run_ask.specs.declared.call.HttpCall.TheVariants.{Status}
use Rattle.dr_run_ask.specs.declared.fault.AskFault.{AskFault}
use Rattle.dr_run_ask.specs.declared.fault.AskFault.TheVariants.{NoConnection, NoAnswer}
use Rattle.dr_run_ask.specs.declared.fault.AskFault.TheVariants.{NoNodesAnswer, OtherNode}
use Rattle.dr_run_ask.specs.declared.fault.AskFault.TheVariants.{OtherPlan, NoRequest, Host}
use Rattle.dr_run_ask.specs.declared.fault.AskFault.TheVariants.{Unknown, Closed, Token, NoHop}
use Rattle.dr_run_ask.specs.declared.fault.AskFault.TheVariants.{Shrunk, NotHeld, NotOver, Store}
use Rattle.dr_run_ask.specs.declared.fault.AskFault.TheVariants.{Memory}
use Rattle.dr_run_ask.specs.declared.fault.AskFault.TheVariants.{OwnFile, IsThere, NoPath, Busy}
use Rattle.dr_run_ask.specs.declared.fault.AskFault.TheVariants.{GivenUp, NoCopy, DataFile}

-- the answer's first line is of the node of that name, and, where it tells the digest of its plan,
-- of that plan
abbrev pub IsOf : Text → Text → Text → Type 0
IsOf name digest text =
    (value : Data)
    × FirstLineIs text value
    × (text_at (codes "node") value ≡ Some name)
    × MatchOption (text_at (codes "plan") value) (Unit {0}) (λ told. told ≡ digest)

-- the answer says that an act was done
abbrev pub IsDone : HttpAnswer → Type 0
IsDone answer =
    (answer.status ≡ 200)
    × ((value : Data)
    × FirstLineIs answer.body.items value
    × (flag_at (codes "done") value ≡ Some true))

-- the answer names this fault
abbrev pub NamesFault : HttpAnswer → Text → Type 0
NamesFault answer name =
    (value : Data)
    × FirstLineIs answer.body.items value
    × (text_at (codes "fault") value ≡ Some name)

-- what an answer calls a fault, where it has a name for it
abbrev pub name_told : AskFault → Option Text
name_told NoConnection = None
name_told NoAnswer = None
name_told NoNodesAnswer = None
name_told OtherNode = None
name_told OtherPlan = None
name_told NoRequest = None
name_told Host = Some (codes "Host")
name_told Unknown = Some (codes "Path")
name_told Closed = Some (codes "Closed")
name_told Token = Some (codes "Token")
name_told NoHop = Some (codes "Hop")
name_told Shrunk = None
name_told NotHeld = Some (codes "G5 NotHeld")
name_told NotOver = Some (codes "G7 NotOver")
name_told OwnFile = Some (codes "Q1 OwnFile")
name_told IsThere = Some (codes "Q3 IsThere")
name_told NoPath = Some (codes "Q4 NoPath")
name_told Busy = Some (codes "Q5 Busy")
name_told GivenUp = Some (codes "Q6 GivenUp")
name_told NoCopy = Some (codes "Q7 NoCopy")
name_told DataFile = Some (codes "Q8 DataFile")
name_told Store = Some (codes "G3 Store")
name_told Memory = Some (codes "Memory")

-- A refusal by an answer: the fault that it names. Where it names none that is known here, it is no
-- node's.
abbrev pub Refuses : HttpAnswer → AskFault → Type 0
Refuses answer fault =
    (fault ≡ NoNodesAnswer)
    ⊎ ((name : Text) × (name_told fault ≡ Some name) × NamesFault answer name)

-- none of them changes anything
abbrev pub NoneActs : List HttpCall → Type 0
NoneActs [] = Unit {0}
NoneActs (call ∷ calls) = (is_act call ≡ false) × NoneActs calls

module _ {S : Type 0} (answers : S → HttpCall → Result HttpAnswer AskFault → S → Type 0) where
  -- the node was asked what it is; the one that was meant has answered
  abbrev pub IsSeen : Text → Text → S → HttpAnswer → S → Type 0
  IsSeen name digest old answer new =
      answers old Status (Ok answer) new
      × (answer.status ≡ 200)
      × IsOf name digest answer.body.items

  -- the same, or why it isn't seen; nothing else was asked
  abbrev pub Sees : Text → Text → S → Result HttpAnswer AskFault → S → Type 0
  Sees name digest old (Ok answer) new = IsSeen name digest old answer new
  Sees name digest old (Err fault) new =
      (came : Result HttpAnswer AskFault) × answers old Status came new

  -- The node was told this once it was seen to be the one that was meant, and not else. It is done
  -- where the answer says so; else the answer's fault is told, or that none came.
  abbrev pub IsTold : Text → Text → HttpCall → S → Result HttpAnswer AskFault → S → Type 0
  IsTold name digest call old came new =
      (seen : HttpAnswer) × (mid : S) × IsSeen name digest old seen mid × answers mid call came new

  -- what comes of it behind that
  abbrev pub TellsSeen : HttpCall → S → Result (Unit {0}) AskFault → S → Type 0
  TellsSeen call old (Ok done) new =
      (answer : HttpAnswer) × answers old call (Ok answer) new × IsDone answer
  TellsSeen call old (Err fault) new =
      answers old call (Err fault) new
      ⊎ ((answer : HttpAnswer) × answers old call (Ok answer) new × Refuses answer fault)

  abbrev pub Tells : Text → Text → HttpCall → S → Result (Unit {0}) AskFault → S → Type 0
  Tells name digest call old (Ok done) new =
      (answer : HttpAnswer) × IsTold name digest call old (Ok answer) new × IsDone answer
  Tells name digest call old (Err fault) new =
      ((came : Result HttpAnswer AskFault) × answers old Status came new)
      ⊎ IsTold name digest call old (Err fault) new
      ⊎ ((answer : HttpAnswer) × IsTold name digest call old (Ok answer) new × Refuses answer fault)

  -- from the one state to the other these were asked, one after the other
  abbrev pub Asked : List HttpCall → S → S → Type 0
  Asked [] old new = new ≡ old
  Asked (call ∷ calls) old new =
      (came : Result HttpAnswer AskFault)
      × (mid : S)
      × answers old call came mid
      × Asked calls mid new

  -- whatever was asked is no act
  abbrev pub OnlyReads : S → S → Type 0
  OnlyReads old new = (calls : List HttpCall) × NoneActs calls × Asked calls old new
