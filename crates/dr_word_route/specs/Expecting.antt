-- What is answered to a file of what is expected of a plan.
use Rattle.std.specs.Prelude.{◌≡◌, List, ℕ, [], ◌∷◌, ◌++◌, All, codes}
use Rattle.std.specs.declared.option.Option.{Option}
use Rattle.std.specs.Io.KnownBytes.{Appends}
use Rattle.dr_base.specs.Texts.{Text}
use Rattle.dr_plan_model.specs.Networks.{Network}
use Rattle.dr_run_open.specs.declared.status.Status.{Status}
use Rattle.dr_run_open.specs.declared.status.Status.TheVariants.{Success, Refused}
use Rattle.dr_run_open.specs.declared.status.Status.TheVariants.{Memory as OutOfMemory}
use Rattle.dr_plan_expect.specs.Reading.{WritesExpectations}
use Rattle.dr_plan_expect.specs.declared.words.Expectation.{Expectation}
use Rattle.dr_plan_expect.specs.declared.fault.ExpectFault.TheVariants.{Expect, Memory}
use Rattle.dr_cert_expect.specs.Expected.{Holds, IsFirstMiss}
use Rattle.dr_cert_expect.specs.Rows.{miss_line}
use Rattle.dr_cert_expect.specs.declared.answer.Miss.{Miss}
use Rattle.dr_word_route.specs.declared.expecting.ExpectVerdict.{ExpectVerdict}
use Rattle.dr_word_route.specs.declared.expecting.ExpectVerdict.TheVariants.{Yes, Missed, Faulty}

-- what may be answered for a row that doesn't hold: its line; want of memory may be the answer to
-- any
abbrev pub MayMiss : Miss → ExpectVerdict → Type 0
MayMiss miss Yes = ⊥
MayMiss miss (Missed line) = line ≡ miss_line miss
MayMiss miss (Faulty (Expect number)) = ⊥
MayMiss miss (Faulty Memory) = Unit {0}

-- what may be answered to these rows: that all hold, or the line of the first that doesn't
abbrev pub IsVerdictOn : Network → List Expectation → ExpectVerdict → Type 0
IsVerdictOn plan rows Yes = All (Holds plan) rows
IsVerdictOn plan rows (Missed line) =
    (miss : Miss) × IsFirstMiss plan rows miss × (line ≡ miss_line miss)
IsVerdictOn plan rows (Faulty (Expect number)) = ⊥
IsVerdictOn plan rows (Faulty Memory) = Unit {0}

-- what may be answered to a file's text: the verdict on the rows that it writes, or that it writes
-- none
abbrev pub IsVerdict : Network → Text → ExpectVerdict → Type 0
IsVerdict plan text Yes =
    (rows : List Expectation) × WritesExpectations text rows × IsVerdictOn plan rows Yes
IsVerdict plan text (Missed line) =
    (rows : List Expectation) × WritesExpectations text rows × IsVerdictOn plan rows (Missed line)
IsVerdict plan text (Faulty (Expect number)) =
    (rows : List Expectation) → WritesExpectations text rows → ⊥
IsVerdict plan text (Faulty Memory) = Unit {0}

-- what is printed for a verdict: `yes`, or the line; nothing where the file isn't read
abbrev pub printed_verdict : ExpectVerdict → Text
printed_verdict Yes = codes "yes" ++ (10 ∷ [])
printed_verdict (Missed line) = line
printed_verdict (Faulty fault) = []

-- the status with which the program ends for a verdict: success where all rows hold, else refused,
-- or out of memory
abbrev pub verdict_status : ExpectVerdict → Status
verdict_status Yes = Success
verdict_status (Missed line) = Refused
verdict_status (Faulty (Expect number)) = Refused
verdict_status (Faulty Memory) = OutOfMemory

-- the verdict is printed after what the output held, and the program ends with its status
pub record VerdictIsTold (verdict : ExpectVerdict) (old new : Option (List ℕ))
    (status : Status) : Type 0 where
  pub printed : Appends old new (printed_verdict verdict)
  pub ends : status ≡ verdict_status verdict

-- a verdict on the text is told
abbrev pub Expects : Network → Text → Option (List ℕ) → Option (List ℕ) → Status → Type 0
Expects plan text old new status =
    (verdict : ExpectVerdict) × IsVerdict plan text verdict × VerdictIsTold verdict old new status
