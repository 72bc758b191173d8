-- What the words do at a node's ledger.
use Rattle.std.specs.Prelude.{◌≡◌, ℕ, ◌∷◌, [], ◌++◌, codes, Result, Ok, Err}
use Rattle.dr_base.specs.Texts.{Text}
use Rattle.dr_cert.specs.Sealing.{Certified}
use Rattle.dr_ledger.specs.Books.{Book}
use Rattle.dr_ledger.specs.Replies.{Drops, Forgets, Requeues}
use Rattle.dr_ledger_report.specs.Reports.{IsReportOf}
use Rattle.dr_site.specs.Parts.{Part}
use Rattle.dr_run_open.specs.Openings.{HaltsAs, IsAt}
use Rattle.dr_run_open.specs.declared.halt.Halt.{Halt}
use Rattle.dr_run_open.specs.declared.halt.Halt.TheVariants.{Refused}

-- the line that is printed where a ledger was made
abbrev pub made_line : Text
made_line = codes "made" ++ (10 ∷ [])

-- the line that is printed where a row was given up
abbrev pub dropped_line : Text
dropped_line = codes "dropped" ++ (10 ∷ [])

-- the line that is printed where an instance was forgotten
abbrev pub forgotten_line : Text
forgotten_line = codes "forgotten" ++ (10 ∷ [])

-- the line that is printed where a row is queued again
abbrev pub requeued_line : Text
requeued_line = codes "requeued" ++ (10 ∷ [])

module _ {L : Type 0} (HoldsPlan HoldsCertificate : Text → Type 0) (MayOpen : L → Type 0)
    (site_of : L → Part) (book : L → Book) (stands : L → Type 0) (name : Text) where
  -- a ledger of the node was opened; this is so of it as it was then and as it is in the end
  abbrev pub AtNode : (L → L → Type 0) → Type 0
  AtNode Becomes =
      (sealed : Certified) × (site : Part) × (old new : L)
      × IsAt HoldsPlan HoldsCertificate MayOpen site_of name sealed site old
      × Becomes old new

  -- the same, and so of the sealed plan and the node's site too
  abbrev pub AtSite : (Certified → Part → L → L → Type 0) → Type 0
  AtSite Becomes =
      (sealed : Certified) × (site : Part) × (old new : L)
      × IsAt HoldsPlan HoldsCertificate MayOpen site_of name sealed site old
      × Becomes sealed site old new

  -- `new`: a ledger of the node was opened, and that is printed; or why it doesn't come to that
  abbrev pub Made : Result Text Halt → Type 0
  Made (Ok line) = (line ≡ made_line) × AtNode (λ old new. Unit {0})
  Made (Err halt) = HaltsAs HoldsPlan HoldsCertificate name halt

  -- `list`: the report of the node's book, which stays as it is; or why there is none
  abbrev pub Lists : Result Text Halt → Type 0
  Lists (Ok report) =
      AtNode (λ old new. stands new → (book new ≡ book old) × IsReportOf name (book new) report)
  Lists (Err (Refused fault)) = AtNode (λ old new. stands new → book new ≡ book old)
  Lists (Err halt) = HaltsAs HoldsPlan HoldsCertificate name halt

  -- `list --long`: the node's book stays as it is, whatever is printed; or why nothing is
  abbrev pub ListsLong : Result Text Halt → Type 0
  ListsLong (Ok report) = AtNode (λ old new. stands new → book new ≡ book old)
  ListsLong (Err (Refused fault)) = AtNode (λ old new. stands new → book new ≡ book old)
  ListsLong (Err halt) = HaltsAs HoldsPlan HoldsCertificate name halt

  -- `requeue`: the row waits again, and that is printed; or the ledger's refusal, after which the
  -- book is as it was; or why it doesn't come to that
  abbrev pub Requeued : Text → Text → Result Text Halt → Type 0
  Requeued uid dest (Ok line) =
      (line ≡ requeued_line)
      × AtNode (λ old new. stands new → Requeues uid dest (book old) (Ok tt) (book new))
  Requeued uid dest (Err (Refused fault)) =
      AtNode (λ old new. stands new → Requeues uid dest (book old) (Err fault) (book new))
  Requeued uid dest (Err halt) = HaltsAs HoldsPlan HoldsCertificate name halt

  -- `drop`: the row was given up at that moment, and that is printed; or the ledger's refusal,
  -- after which the book is as it was; or why it doesn't come to that
  abbrev pub GaveUp : Text → Text → ℕ → Result Text Halt → Type 0
  GaveUp uid dest now (Ok line) =
      (line ≡ dropped_line)
      × AtNode (λ old new. stands new → Drops uid dest now (book old) (Ok tt) (book new))
  GaveUp uid dest now (Err (Refused fault)) =
      AtNode (λ old new. stands new → Drops uid dest now (book old) (Err fault) (book new))
  GaveUp uid dest now (Err halt) = HaltsAs HoldsPlan HoldsCertificate name halt

  -- `forget`: the instance was forgotten, and that is printed; or the ledger's refusal, after which
  -- the book is as it was; or why it doesn't come to that
  abbrev pub Forgot : Text → Result Text Halt → Type 0
  Forgot uid (Ok line) =
      (line ≡ forgotten_line)
      × AtNode (λ old new. stands new → Forgets uid (book old) (Ok tt) (book new))
  Forgot uid (Err (Refused fault)) =
      AtNode (λ old new. stands new → Forgets uid (book old) (Err fault) (book new))
  Forgot uid (Err halt) = HaltsAs HoldsPlan HoldsCertificate name halt
