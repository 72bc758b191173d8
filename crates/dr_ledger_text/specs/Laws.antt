-- Laws of lines of a journal as text.
use Rattle.std.specs.Prelude.{◌≡◌, ◌≢◌, ◌<◌, ◌^◌, ◌++◌, ℕ, [], ◌∷◌, Option, None, Some, All, codes}
use Rattle.hex.specs.Hex.{IsBytes}
use Rattle.dr_ledger.specs.declared.item.Instance.{Instance}
use Rattle.dr_ledger.specs.declared.item.Outcome.{Outcome}
use Rattle.dr_ledger.specs.declared.item.Outcome.TheVariants as outcome
use Rattle.dr_ledger_history.specs.declared.line.JournalLine.{JournalLine}
use Rattle.dr_ledger_history.specs.declared.line.JournalLine.TheVariants as told
use Rattle.dr_ledger_text.specs.Lines.{sealed_text}

-- its numbers have 64 bits, and the parts of its digest are bytes
abbrev pub FitsInstance : Instance → Type 0
FitsInstance item = (item.size < 2 ^ 64) × IsBytes item.digest

-- a status has 16 bits
abbrev pub FitsOutcome : Outcome → Type 0
FitsOutcome (outcome.Status status) = status < 2 ^ 16
FitsOutcome outcome.Broken = Unit {0}
FitsOutcome outcome.NoContext = Unit {0}
FitsOutcome outcome.Unreadable = Unit {0}

-- a line as the program has it
abbrev pub FitsLine : JournalLine → Type 0
FitsLine (told.Arrival caller item to keep) = FitsInstance item
FitsLine (told.Repeat caller item) = FitsInstance item
FitsLine (told.Settling uid dest outcome now) = FitsOutcome outcome × (now < 2 ^ 64)
FitsLine (told.Requeuing uid dest) = Unit {0}
FitsLine (told.Dropping uid dest now) = now < 2 ^ 64
FitsLine (told.Forgetting uid) = Unit {0}
FitsLine told.Adoption = Unit {0}

abbrev pub FitsMoment : Option ℕ → Type 0
FitsMoment None = Unit {0}
FitsMoment (Some moment) = moment < 2 ^ 64

-- a line with its number and its moment, as the program has them
pub record IsSealable (n : ℕ) (line : JournalLine) (moment : Option ℕ) : Type 0 where
  pub number : n < 2 ^ 64
  pub said : FitsLine line
  pub written : FitsMoment moment

-- the same number, line and moment
pub record AreSame
    (n m : ℕ) (line other : JournalLine) (moment since : Option ℕ) : Type 0 where
  pub numbers : n ≡ m
  pub lines : line ≡ other
  pub moments : moment ≡ since

-- a text is that of one line, with one number and one moment
abbrev pub TextsAreOfOneLine : Type 0
TextsAreOfOneLine =
    (n m : ℕ) (line other : JournalLine) (moment since : Option ℕ)
    → IsSealable n line moment → IsSealable m other since
    → sealed_text n line moment ≡ sealed_text m other since
    → AreSame n m line other moment since

-- no byte of it ends a line
abbrev pub TextsAreOneLine : Type 0
TextsAreOneLine =
    (n : ℕ) (line : JournalLine) (moment : Option ℕ)
    → IsSealable n line moment
    → All (λ byte. byte ≢ 10) (sealed_text n line moment)

-- figures: what came of a try, at a moment; and a first arrival whose UID has a line feed
abbrev pub tried : JournalLine
tried = told.Settling (codes "1.2") (codes "ARCH") (outcome.Status 45073) 1000

abbrev pub TextFiguresAreRight : Type 0
TextFiguresAreRight =
    (sealed_text 7 tried (Some 2000)
    ≡ codes "{\"line\":7,\"kind\":\"settling\",\"uid\":\"1.2\",\"dest\":\"ARCH\","
    ++ codes "\"outcome\":\"B011\",\"moment\":1000,\"at\":2000}")
    × (sealed_text 8 (told.Forgetting (49 ∷ 10 ∷ 34 ∷ [])) None
    ≡ codes "{\"line\":8,\"kind\":\"forgetting\",\"uid\":\"1\\n\\\"\"}")
    × (sealed_text 9 told.Adoption None ≡ codes "{\"line\":9,\"kind\":\"adoption\"}")
