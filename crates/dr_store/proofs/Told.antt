-- The lines of a journal, told one after another.
use Rattle.std.proofs.Common.{◌≡◌, ◌∙◌, ◌+◌, ◌<◌, ◌++◌, ◌∷◌, [], ℕ, List, length, get_or, take, map as mapped, sym, ap}
use Rattle.std.proofs.lemmas.List.{map-append, take_more}
use Rattle.dr_ledger.specs.Books.{Line}
use Rattle.dr_ledger_history.specs.Lines.{line_of}
use Rattle.dr_ledger_history.specs.declared.line.JournalLine.{JournalLine}
use Rattle.dr_store_lists.specs.Lists.{Goal}
use Rattle.dr_store_lists.specs.declared.listing.JournalRow.{JournalRow}
use Rattle.dr_store_audit.specs.Journal.{line_told, lines_told}
use Rattle.dr_store_audit.proofs.Journals.{lines_join}

-- the line of one note more
pub one_more_told : (goals : List Goal) (notes : List (ℕ × JournalRow)) (all : List JournalLine) (i : ℕ) (e : ℕ × JournalRow) (line : JournalLine) → i < length notes → e ≡ get_or notes i e
    → mapped line_of all ≡ lines_told goals (take i notes) → line_of line ≡ line_told goals e.0 e.1 → mapped line_of (all ++ line ∷ []) ≡ lines_told goals (take (i + 1) notes)
one_more_told goals notes all i e line lt at so_far told =
    let more : take (i + 1) notes ≡ take i notes ++ e ∷ [] = take_more notes i e lt ∙ ap (λ (x : ℕ × JournalRow). take i notes ++ x ∷ []) (sym at) in
    map-append line_of all (line ∷ []) ∙ ap (λ (xs : List Line). xs ++ line_of line ∷ []) so_far ∙ ap (λ (x : Line). lines_told goals (take i notes) ++ x ∷ []) told
    ∙ sym (lines_join goals (take i notes) (e ∷ [])) ∙ ap (lines_told goals) (sym more)
