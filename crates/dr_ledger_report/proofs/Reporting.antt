-- A report from four reads of a book, one after the other.
use Rattle.std.proofs.Common.{◌≡◌, ℕ, List, ◌++◌, length, map as mapped, sym, ap, subst, ◌∙◌}
use Rattle.std.specs.FinMap as map
use Rattle.std.proofs.lemmas.List.{length-map}
use Rattle.dr_base.specs.Texts.{Text}
use Rattle.dr_ledger.specs.Books.{Book}
use Rattle.dr_ledger.specs.Pairs.{Pair, pair_cmp}
use Rattle.dr_ledger.specs.Replies.{AreKept, Lists, entry_of}
use Rattle.dr_ledger.specs.declared.item.Entry.{Entry}
use Rattle.dr_ledger.specs.declared.item.Progress.{Progress}
use Rattle.dr_ledger_report.specs.Reports.{IsReportOf, name_line, report_of}

pub reported : (name text : Text) (b0 b1 b2 b3 b4 : Book) (arrivals : List Pair) (kept : List (Text × ℕ)) (rows : List (Pair × Progress)) (lines : List Entry)
    → b1 ≡ b0 → b2 ≡ b1 → b3 ≡ b2 → b4 ≡ b3 → Lists pair_cmp b0.arrivals arrivals → AreKept b1 kept → rows ≡ map.entries b2.rows → lines ≡ mapped entry_of b3.lines
    → text ≡ name_line name ++ report_of arrivals kept rows (length lines) → IsReportOf name b4 text
reported name text b0 b1 b2 b3 b4 arrivals kept rows lines e1 e2 e3 e4 of_arrivals of_kept of_rows of_lines is =
    let A : Book → Type 0 = λ b. Lists pair_cmp b.arrivals arrivals in
    let K : Book → Type 0 = λ b. AreKept b kept in (
      arrivals,
      kept,
      subst A (sym (e4 ∙ (e3 ∙ (e2 ∙ e1)))) of_arrivals,
      subst K (sym (e4 ∙ (e3 ∙ e2))) of_kept,
      is ∙ (λ i. name_line name ++ report_of arrivals kept ((of_rows ∙ ap (λ (b : Book). map.entries b.rows) (sym (e4 ∙ e3))) i) ((ap length of_lines ∙ (length-map b3.lines entry_of ∙ ap (λ (b : Book). length b.lines) (sym e4))) i)),
    )
