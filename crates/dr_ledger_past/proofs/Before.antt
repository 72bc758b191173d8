-- Lines of a past before a book, and lines more behind it.
use Rattle.std.proofs.Common.{◌≡◌, refl, sym, ap, ◌∙◌, List, [], ◌∷◌, ◌++◌, map as mapped}
use Rattle.std.proofs.lemmas.List.{append-nil, append_assoc, append_cancel_left, append_cancel_right}
use Rattle.dr_ledger.specs.declared.item.Entry.{Entry}
use Rattle.dr_ledger.specs.Books.{Book, Line, Arrival, Repeat, Settling, Requeuing, Dropping}
use Rattle.dr_ledger.specs.Books.{Forgetting, Adoption, Fold, after, empty_book, folded}
use Rattle.dr_ledger.specs.Replies.{entry_of}
use Rattle.dr_ledger.proofs.Folding.{folded_append, folds_have_their_lines}
use Rattle.dr_ledger_history.specs.Contents.{book_of, content_of}
use Rattle.dr_ledger_past.specs.Laws.{BooksStayApart, FoldsGoOn, LeavingLinesChangeNothing}
use Rattle.dr_ledger_past.specs.Laws.{LinesAreBoth, MoreLines, NoPastChangesNothing, OneLineMore}
use Rattle.dr_ledger_past.specs.Laws.{PastsAreOne, PastsStayApart}
use Rattle.dr_ledger_past.specs.Pasts.{with_past}

-- the book with these lines in the place of its own
abbrev pub with_lines : Book → List Line → Book
with_lines b lines = record {
  items = b.items;
  arrivals = b.arrivals;
  kept = b.kept;
  rows = b.rows;
  lines = lines;
}

pub no_past : NoPastChangesNothing
no_past b = refl

pub pasts_are_one : PastsAreOne
pasts_are_one first second b = ap (with_lines b) (sym (append_assoc first second b.lines))

pub books_stay_apart : BooksStayApart
books_stay_apart past b other same =
    let lines : b.lines ≡ other.lines =
    append_cancel_left past b.lines other.lines (λ i. (same i).lines) in
    λ i. record {
      items = (same i).items;
      arrivals = (same i).arrivals;
      kept = (same i).kept;
      rows = (same i).rows;
      lines = lines i;
    }

pub pasts_stay_apart : PastsStayApart
pasts_stay_apart past other b same =
    append_cancel_right past other b.lines (λ i. (same i).lines)

pub leaving_changes_nothing : LeavingLinesChangeNothing
leaving_changes_nothing past gone b left same lines =
    let all : (past ++ gone) ++ left.lines ≡ past ++ b.lines =
    append_assoc past gone left.lines ∙ ap (λ (ls : List Line). past ++ ls) (sym lines) in
    λ i. record {
      items = (same i).items;
      arrivals = (same i).arrivals;
      kept = (same i).kept;
      rows = (same i).rows;
      lines = all i;
    }

-- ---- lines more

pub one_line_more : OneLineMore
one_line_more past (Arrival caller item to keep) b =
    ap (with_lines (after (Arrival caller item to keep) b))
    (append_assoc past b.lines (Arrival caller item to keep ∷ []))
one_line_more past (Repeat caller item) b =
    ap (with_lines (after (Repeat caller item) b))
    (append_assoc past b.lines (Repeat caller item ∷ []))
one_line_more past (Settling uid dest outcome now) b =
    ap (with_lines (after (Settling uid dest outcome now) b))
    (append_assoc past b.lines (Settling uid dest outcome now ∷ []))
one_line_more past (Requeuing uid dest) b =
    ap (with_lines (after (Requeuing uid dest) b))
    (append_assoc past b.lines (Requeuing uid dest ∷ []))
one_line_more past (Dropping uid dest now) b =
    ap (with_lines (after (Dropping uid dest now) b))
    (append_assoc past b.lines (Dropping uid dest now ∷ []))
one_line_more past (Forgetting uid) b =
    ap (with_lines (after (Forgetting uid) b)) (append_assoc past b.lines (Forgetting uid ∷ []))
one_line_more past Adoption b =
    ap (with_lines (after Adoption b)) (append_assoc past b.lines (Adoption ∷ []))

pub more_lines : MoreLines
more_lines past [] b = refl
more_lines past (line ∷ lines) b =
    ap (λ (x : Book). folded x lines) (one_line_more past line b)
    ∙ more_lines past lines (after line b)

-- ---- what a past made

-- it is the past's book but for the lines
pub made_with_past : (past : List Line)
    → with_past past (book_of (content_of (Fold past))) ≡ Fold past
made_with_past past =
    ap (with_lines (Fold past)) (append-nil past ∙ sym (folds_have_their_lines past))

pub folds_go_on : FoldsGoOn
folds_go_on past lines =
    folded_append past lines empty_book
    ∙ ap (λ (x : Book). folded x lines) (sym (made_with_past past))
    ∙ more_lines past lines (book_of (content_of (Fold past)))

-- ---- what is shown of lines

mapped_append : (lines more : List Line)
    → mapped entry_of (lines ++ more) ≡ mapped entry_of lines ++ mapped entry_of more
mapped_append [] more = refl
mapped_append (line ∷ lines) more =
    ap (λ (es : List Entry). entry_of line ∷ es) (mapped_append lines more)

pub lines_are_both : LinesAreBoth
lines_are_both past b = (mapped_append past b.lines, refl)
