-- A journal that was told is a ledger's.
use Rattle.std.proofs.Common.{◌≡◌, inl, inr, ℕ, List, [], ◌∷◌, ◌++◌, ap, subst, sym, ◌∙◌}
use Rattle.std.proofs.lemmas.List.{append_assoc}
use Rattle.dr_ledger.specs.Books.{Adoption, Line}
use Rattle.dr_ledger.specs.Histories.{IsBeforeAdoption}
use Rattle.dr_ledger.specs.Routings.{Routing}
use Rattle.dr_ledger.proofs.Folding.{empty_is_journalled}
use Rattle.dr_ledger_history.specs.Contents.{Content}
use Rattle.dr_ledger_history.specs.Told.{IsTold, IsToldSince}
use Rattle.dr_ledger_history.proofs.Telling.{told_is_journalled}
use Rattle.dr_store_lists.specs.Lists.{Goal}
use Rattle.dr_store_lists.specs.declared.listing.JournalRow.{JournalRow}
use Rattle.dr_store_lists.specs.declared.listing.JournalRow.TheVariants as note
use Rattle.dr_store_audit.specs.Journal.{lines_told}
use Rattle.dr_store_audit.specs.Telling.{GoOnUnder, IsToldJournal}
use Rattle.dr_store_audit.proofs.Journals.{lines_join}

-- the same lines are told
pub told_alike : {lines others : List Line} {c : Content} → lines ≡ others → IsTold others c → IsTold lines c
told_alike {c = c} same told = subst (λ all. IsTold all c) (sym same) told

pub since_alike : {routing : Routing} {past lines others : List Line} {c : Content} → lines ≡ others → IsToldSince routing past others c → IsToldSince routing past lines c
since_alike {routing = routing} {past = past} {c = c} same told = subst (λ all. IsToldSince routing past all c) (sym same) told

-- the same lines, behind others, with one more
pub behind : (before : List Line) {all : List Line} (told : List Line) (line : Line) → all ≡ told ++ line ∷ [] → before ++ all ≡ (before ++ told) ++ line ∷ []
behind before told line same = ap (λ xs. before ++ xs) same ∙ sym (append_assoc before told (line ∷ []))

-- lines of notes that are over are over, behind whatever lines
pub over : (before : List Line) (goals : List Goal) (notes : List (ℕ × JournalRow)) (earlier : List (ℕ × JournalRow)) (n : ℕ) → notes ≡ earlier ++ (n, note.Adoption) ∷ [] → IsBeforeAdoption (before ++ lines_told goals notes)
over before goals notes earlier n same = inr (before ++ lines_told goals earlier, behind before (lines_told goals earlier) Adoption (ap (lines_told goals) same ∙ lines_join goals earlier ((n, note.Adoption) ∷ [])))

-- with no lines before them, all notes go on
pub from_the_first : (routing : Routing) (notes : List (ℕ × JournalRow)) → GoOnUnder routing [] notes
from_the_first routing notes = inl ([], empty_is_journalled routing)

-- what was told in two parts
pub told_all : (routing : Routing) (past since : List Line) (last : Content) → IsToldSince routing past since last → IsToldJournal routing (past ++ since) last
told_all routing past since last it =
    let j = told_is_journalled routing past since last it in
    record { journalled = j.0; fold = j.1 }
