-- All held rows to a node, queued again.
use Rattle.std.specs.Prelude.{◌≡◌, ℕ, List, [], ◌∷◌, codes, filter, flat_map, map as mapped, take}
use Rattle.std.specs.Prelude.{Result, Ok, Err, Some}
use Rattle.std.specs.FinMap as map
use Rattle.dr_base.specs.Texts.{Text}
use Rattle.dr_ledger.specs.Books.{Book, Row}
use Rattle.dr_ledger.specs.Replies.{Requeues}
use Rattle.dr_ledger_report.specs.Reports.{line_of}
use Rattle.dr_ledger_views.specs.Views.{is_to}
use Rattle.dr_site.specs.Parts.{Part}
use Rattle.dr_run_open.specs.Openings.{HaltsAs}
use Rattle.dr_word_list.specs.Works.{AtNode}
use Rattle.dr_ledger_views.specs.declared.stage.Stage.TheVariants as stages
use Rattle.dr_run_open.specs.declared.halt.Halt.{Halt}
use Rattle.dr_run_open.specs.declared.halt.Halt.TheVariants.{Refused}

-- which instance the row is about
abbrev pub uid_of : Row → Text
uid_of row = row.0.0

-- the uids of the rows that are held and for that node, in the order of the rows
abbrev pub held_in : List Row → Text → List Text
held_in rows dest = mapped uid_of (filter (is_to dest (Some stages.Held)) rows)

-- the same, of a book
abbrev pub held_for : Book → Text → List Text
held_for book dest = held_in (map.entries book.rows) dest

-- the line of an instance that is queued again
abbrev pub uid_line : Text → Text
uid_line uid = line_of (codes "requeued") (uid ∷ [])

-- the rows of these instances to that node are queued again, one after the other
abbrev pub RequeuesEach : List Text → Text → Book → Book → Type 0
RequeuesEach [] dest old new = new ≡ old
RequeuesEach (uid ∷ uids) dest old new =
    (mid : Book) × Requeues uid dest old (Ok tt) mid × RequeuesEach uids dest mid new

-- each held row to that node is queued again, and the text has a line for each
abbrev pub RequeuesAll : Text → Book → Text → Book → Type 0
RequeuesAll dest old text new =
    (text ≡ flat_map uid_line (held_for old dest)) × RequeuesEach (held_for old dest) dest old new

-- the rows of the first so many of these instances to that node are queued again, one after the
-- other, and nothing else has changed
abbrev pub RequeuesFirstOf : List Text → Text → Book → Book → Type 0
RequeuesFirstOf uids dest old new = (count : ℕ) × RequeuesEach (take count uids) dest old new

-- the first so many of the held rows to that node are queued again, and nothing else has changed
abbrev pub RequeuesFirst : Text → Book → Book → Type 0
RequeuesFirst dest old new = RequeuesFirstOf (held_for old dest) dest old new

module _ {L : Type 0} (HoldsPlan HoldsCertificate : Text → Type 0) (MayOpen : L → Type 0)
    (site_of : L → Part) (book : L → Book) (stands : L → Type 0) (name : Text) where
  -- `requeue --all-held`: all are queued again, and that is printed; or the ledger's refusal,
  -- before which some may have been; or why it doesn't come to that
  abbrev pub RequeuedAll : Text → Result Text Halt → Type 0
  RequeuedAll dest (Ok text) = AtNode HoldsPlan HoldsCertificate MayOpen site_of book stands name
      (λ old new. stands new → RequeuesAll dest (book old) text (book new))
  RequeuedAll dest (Err (Refused fault)) = AtNode HoldsPlan HoldsCertificate MayOpen site_of book
      stands name (λ old new. stands new → RequeuesFirst dest (book old) (book new))
  RequeuedAll dest (Err halt) = HaltsAs HoldsPlan HoldsCertificate name halt
