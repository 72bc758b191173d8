-- Laws of receipts.
use Rattle.std.specs.Prelude.{◌≡◌, ◌≤◌, true, ℕ, List, [], ◌∷◌, ◌++◌, All, length, Ok}
use Rattle.dr_base.specs.Texts.{Text}
use Rattle.dr_route.specs.declared.key.Key.{Key}
use Rattle.dr_ledger.specs.declared.content.Job.{Job}
use Rattle.dr_ledger.specs.declared.item.Arrived.{Arrived}
use Rattle.dr_ledger.specs.declared.item.Arrived.TheVariants.{New, Again}
use Rattle.dr_ledger.specs.declared.item.Entry.{Entry}
use Rattle.dr_ledger.specs.declared.item.Entry.TheVariants as entry
use Rattle.dr_ledger.specs.declared.item.Outcome.{Outcome}
use Rattle.dr_ledger.specs.Books.{Book, Line}
use Rattle.dr_ledger.specs.Items.{instance_of}
use Rattle.dr_ledger.specs.Replies.{Arrives, Drops, Forgets, Requeues, Settles, entry_of}
use Rattle.dr_ledger.specs.Routings.{Routing}
use Rattle.dr_desk.specs.declared.receipt.Call.{Call}
use Rattle.dr_desk.specs.declared.receipt.Call.TheVariants.{Arrival, Settling, Requeuing}
use Rattle.dr_desk.specs.declared.receipt.Call.TheVariants.{Dropping, Forgetting}
use Rattle.dr_desk.specs.declared.receipt.Reply.{Reply}
use Rattle.dr_desk.specs.declared.receipt.Reply.TheVariants as reply
use Rattle.dr_desk.specs.declared.receipt.Receipt.{Receipt}
use Rattle.dr_desk.specs.Agreeing.{AreApart, IsOfLine, Rises, numbers}
use Rattle.dr_desk.specs.Receipts.{Records, arrival_of, newest, receipt}

-- the call adds one line, which is of that call with that reply
abbrev pub AddsALineOf : Call → Reply → Book → Book → Type 0
AddsALineOf call answer old new =
    (line : Line) × (new.lines ≡ old.lines ++ line ∷ []) × Records (entry_of line) call answer

-- An accepted call adds just the line that its receipt is of.
abbrev pub ArrivalsAreRecorded : Routing → Type 0
ArrivalsAreRecorded routing =
    (caller : Text) (item : Job) (old new : Book) (arrived : Arrived)
    → Arrives routing caller (instance_of item) old (Ok arrived) new
    → AddsALineOf (arrival_of caller item) (reply.Arrived arrived) old new

abbrev pub SettlingsAreRecorded : Type 0
SettlingsAreRecorded =
    (uid dest : Text) (outcome : Outcome) (now : ℕ) (old new : Book)
    → Settles uid dest outcome now old (Ok tt) new
    → AddsALineOf (Settling uid dest outcome now) reply.Done old new

abbrev pub RequeuingsAreRecorded : Type 0
RequeuingsAreRecorded =
    (uid dest : Text) (old new : Book)
    → Requeues uid dest old (Ok tt) new
    → AddsALineOf (Requeuing uid dest) reply.Done old new

abbrev pub DroppingsAreRecorded : Type 0
DroppingsAreRecorded =
    (uid dest : Text) (now : ℕ) (old new : Book)
    → Drops uid dest now old (Ok tt) new
    → AddsALineOf (Dropping uid dest now) reply.Done old new

abbrev pub ForgettingsAreRecorded : Type 0
ForgettingsAreRecorded = (uid : Text) (old new : Book) → Forgets uid old (Ok tt) new →
    AddsALineOf (Forgetting uid) reply.Done old new

-- a line is of one call, and says one reply
abbrev pub LinesAreOfOneCall : Type 0
LinesAreOfOneCall =
    (line : Entry) (call other : Call) (answer another : Reply)
    → Records line call answer
    → Records line other another
    → (call ≡ other) × (answer ≡ another)

-- receipts with one number that are of lines of one journal are equal
abbrev pub ReceiptsAreOne : Type 0
ReceiptsAreOne =
    (lines : List Entry) (one other : Receipt)
    → IsOfLine lines one → IsOfLine lines other
    → one.number ≡ other.number
    → one ≡ other

-- up to 1,024 receipts are held
abbrev pub FewAreHeld : Type 0
FewAreHeld = (receipts : List Receipt) → length receipts ≤ 1024 → newest receipts ≡ receipts

abbrev pub NoMoreAreHeld : Type 0
NoMoreAreHeld = (receipts : List Receipt) → length (newest receipts) ≤ 1024

-- a journal of two lines: an arrival, and the same one again
abbrev pub two_lines : Key → List Entry
two_lines key =
    entry.Arrival (65 ∷ []) (49 ∷ []) key 8 [] true ∷ entry.Repeat (65 ∷ []) (49 ∷ []) key 8 ∷ []

-- the receipt of one of them
abbrev pub arrival_at : Key → ℕ → Arrived → Receipt
arrival_at key number arrived =
    receipt number (Arrival (65 ∷ []) (49 ∷ []) key 8) (reply.Arrived arrived)

-- Both receipts are of their lines, and rise. With New in the place of Again, with the other's
-- number, with the number 0 or with 3 one isn't.
pub record FiguresOfReceipts (key : Key) : Type 0 where
  pub both : All (IsOfLine (two_lines key)) (arrival_at key 1 New ∷ arrival_at key 2 Again ∷ [])
  pub rise : Rises (arrival_at key 1 New ∷ arrival_at key 2 Again ∷ [])
  pub apart : AreApart (numbers (arrival_at key 1 New ∷ arrival_at key 2 Again ∷ []))
  pub other_reply : IsOfLine (two_lines key) (arrival_at key 2 New) → ⊥
  pub other_number : IsOfLine (two_lines key) (arrival_at key 1 Again) → ⊥
  pub no_number : IsOfLine (two_lines key) (arrival_at key 0 New) → ⊥
  pub behind : IsOfLine (two_lines key) (arrival_at key 3 Again) → ⊥
  pub twice : AreApart (numbers (arrival_at key 1 New ∷ arrival_at key 1 New ∷ [])) → ⊥
  pub falling : Rises (arrival_at key 2 Again ∷ arrival_at key 1 New ∷ []) → ⊥

abbrev pub ReceiptFiguresAreRight : Type 0
ReceiptFiguresAreRight = (key : Key) → FiguresOfReceipts key
