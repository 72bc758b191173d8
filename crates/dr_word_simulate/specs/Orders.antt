-- What a script tells, with the plans that its files have. `Holds` says of a path and a text that
-- the file of this path holds it.
use Rattle.std.specs.Prelude.{◌≡◌, ℕ, List, [], ◌∷◌, ◌++◌, length, Err}
use Rattle.std.specs.List.{AllZip}
use Rattle.dr_base.specs.Texts.{Text}
use Rattle.dr_run_open.specs.Ends.{status_by}
use Rattle.dr_run_open.specs.Openings.{IsSealedBy, SealsFiles}
use Rattle.dr_run_open.specs.declared.halt.Halt.{Halt}
use Rattle.dr_run_open.specs.declared.status.Status.TheVariants.{Refused}
use Rattle.dr_world.specs.declared.deed.Deed.{Deed}
use Rattle.dr_world.specs.declared.deed.Deed.TheVariants as deed
use Rattle.dr_world.specs.declared.order.WorldOrder.{WorldOrder}
use Rattle.dr_world.specs.declared.order.WorldOrder.TheVariants as order
use Rattle.dr_world_script.specs.declared.act.Act.{Act}
use Rattle.dr_world_script.specs.declared.act.Act.TheVariants as act
use Rattle.dr_word_simulate.specs.declared.orders.ActFault.{ActFault}
use Rattle.dr_word_simulate.specs.declared.orders.ActFault.TheVariants.{Unsealed, Unread, Memory}

-- the deed is what the line tells: that step, or that all nodes take the plan that the one file
-- has, with the certificate that the other one has, or that another product writes just this there
abbrev pub IsDeedOf : (Text → Text → Type 0) → Act → Deed → Type 0
IsDeedOf Holds (act.Step step) (deed.Step done) = done ≡ step
IsDeedOf Holds (act.Step step) (deed.Adopt sealed) = ⊥
IsDeedOf Holds (act.Step step) (deed.Bytes link side bytes) = ⊥
IsDeedOf Holds (act.Adopt plan certificate) (deed.Step done) = ⊥
IsDeedOf Holds (act.Adopt plan certificate) (deed.Adopt sealed) =
    IsSealedBy (Holds plan) (Holds certificate) sealed
IsDeedOf Holds (act.Adopt plan certificate) (deed.Bytes link side bytes) = ⊥
IsDeedOf Holds (act.Bytes link side bytes) (deed.Step done) = ⊥
IsDeedOf Holds (act.Bytes link side bytes) (deed.Adopt sealed) = ⊥
IsDeedOf Holds (act.Bytes link side bytes) (deed.Bytes at by these) =
    (at ≡ link) × (by ≡ side) × (these ≡ bytes)
IsDeedOf Holds (act.Foreign what) done = ⊥

-- the order is what the line tells: such a deed, or what concerns other makers' products
abbrev pub IsOrderOf : (Text → Text → Type 0) → Act → WorldOrder → Type 0
IsOrderOf Holds a (order.Deed done) = IsDeedOf Holds a done
IsOrderOf Holds (act.Step step) (order.Foreign what) = ⊥
IsOrderOf Holds (act.Adopt plan certificate) (order.Foreign what) = ⊥
IsOrderOf Holds (act.Bytes link side bytes) (order.Foreign what) = ⊥
IsOrderOf Holds (act.Foreign what) (order.Foreign told) = told ≡ what

-- the files have no sound plan with its certificate
abbrev pub IsUnsealedBy : (Text → Type 0) → (Text → Type 0) → Type 0
IsUnsealedBy HoldsPlan HoldsCertificate =
    (halt : Halt) × SealsFiles HoldsPlan HoldsCertificate (Err halt) × (status_by halt ≡ Refused)

-- why nothing can be done by a line; a file that isn't read, and want of memory, may stop each
-- change of plan
abbrev pub IsUndone : (Text → Text → Type 0) → Act → ActFault → Type 0
IsUndone Holds (act.Adopt plan certificate) Unsealed =
    IsUnsealedBy (Holds plan) (Holds certificate)
IsUndone Holds (act.Adopt plan certificate) (Unread path error) = Unit {0}
IsUndone Holds (act.Step step) Unsealed = ⊥
IsUndone Holds (act.Step step) (Unread path error) = ⊥
IsUndone Holds (act.Bytes link side bytes) Unsealed = ⊥
IsUndone Holds (act.Bytes link side bytes) (Unread path error) = ⊥
IsUndone Holds (act.Foreign what) Unsealed = ⊥
IsUndone Holds (act.Foreign what) (Unread path error) = ⊥
IsUndone Holds a Memory = Unit {0}

-- the order of that line is behind the others
abbrev pub AddsOrder : (Text → Text → Type 0) → Act → List WorldOrder → List WorldOrder → Type 0
AddsOrder Holds a old new = (one : WorldOrder) × IsOrderOf Holds a one × (new ≡ old ++ one ∷ [])

-- what stands at that place, counted from 0, can't be done, and all before it can
abbrev pub StopsAt : (Text → Text → Type 0) → List Act → ℕ → ActFault → Type 0
StopsAt Holds acts place fault =
    (before : List Act) × (a : Act) × (later : List Act)
    × (acts ≡ before ++ a ∷ later)
    × (length before ≡ place)
    × IsUndone Holds a fault
    × ((orders : List WorldOrder) × AllZip (IsOrderOf Holds) before orders)
