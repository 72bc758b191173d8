-- The lines of a journal are those of its notes.
use Rattle.std.proofs.Common.{◌≡◌, ◌++◌, ◌∷◌, [], ℕ, List, map as mapped, refl, sym, ap, ◌∙◌}
use Rattle.sqlite.specs.Tree.{Trees}
use Rattle.dr_ledger.specs.Books.{Arrival}
use Rattle.dr_ledger.specs.Replies.{Lists}
use Rattle.dr_store_schema.specs.Books.{lines_of}
use Rattle.dr_store_lists.specs.Lists.{Goal, IsJournal, goal_cmp, goals_of, line_of}
use Rattle.dr_store_lists.specs.declared.listing.JournalRow.{JournalRow}
use Rattle.dr_store_lists.specs.declared.listing.JournalRow.TheVariants as note
use Rattle.dr_store_audit.specs.Journal.{line_told, lines_told}
use Rattle.dr_store_audit.proofs.Goaled.{keeps, targets}

-- lines one after another
pub lines_join : (goals : List Goal) (notes more : List (ℕ × JournalRow)) → lines_told goals (notes ++ more) ≡ lines_told goals notes ++ lines_told goals more
lines_join goals [] more = refl
lines_join goals (e ∷ notes) more = ap (λ xs. line_told goals e.0 e.1 ∷ xs) (lines_join goals notes more)

-- ---- the tables' lines

module _ (db : Trees) (goals : List Goal) (are : Lists goal_cmp (goals_of db) goals) where
  line_is : (n : ℕ) (x : JournalRow) → line_of (db 12) n x ≡ line_told goals n x
  line_is n (note.Arrival caller item) = λ i. Arrival caller item (sym (targets db goals are n) i) (sym (keeps db goals are n) i)
  line_is n (note.Repeat caller item) = refl
  line_is n (note.Settling uid dest what now) = refl
  line_is n (note.Requeuing uid dest) = refl
  line_is n (note.Dropping uid dest now) = refl
  line_is n (note.Forgetting uid) = refl
  line_is n note.Adoption = refl

  all_lines : (notes : List (ℕ × JournalRow)) → mapped (λ (e : ℕ × JournalRow). line_of (db 12) e.0 e.1) notes ≡ lines_told goals notes
  all_lines [] = refl
  all_lines (e ∷ notes) = λ i. line_is e.0 e.1 i ∷ all_lines notes i

  pub lines_are : (notes : List (ℕ × JournalRow)) → IsJournal db notes → lines_of db ≡ lines_told goals notes
  lines_are notes j = sym (j.lines (db 12)) ∙ all_lines notes
