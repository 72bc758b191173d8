-- How much a book has, from four reads of it, one after the other.
use Rattle.std.proofs.Common.{◌≡◌, ℕ, List, length, map as mapped, sym, ap, subst, ◌∙◌}
use Rattle.std.specs.FinMap as map
use Rattle.std.proofs.lemmas.List.{length-map}
use Rattle.dr_base.specs.Texts.{Text}
use Rattle.dr_ledger.specs.Books.{Book, Row}
use Rattle.dr_ledger.specs.Pairs.{Pair, pair_cmp}
use Rattle.dr_ledger.specs.Replies.{AreKept, Lists, entry_of}
use Rattle.dr_ledger.specs.declared.item.Entry.{Entry}
use Rattle.dr_word_list.specs.Summaries.{IsSummary, IsSummaryOf}
use Rattle.dr_run_open.specs.declared.hops.NextHop.{NextHop}

pub summed : (name text : Text) (hops : List NextHop) (b0 b1 b2 b3 b4 : Book) (arrivals : List Pair) (kept : List (Text × ℕ)) (rows : List Row) (lines : List Entry) (a k n : ℕ)
    → b1 ≡ b0 → b2 ≡ b1 → b3 ≡ b2 → b4 ≡ b3 → Lists pair_cmp b0.arrivals arrivals → AreKept b1 kept → rows ≡ map.entries b2.rows → lines ≡ mapped entry_of b3.lines
    → a ≡ length arrivals → k ≡ length kept → n ≡ length lines → IsSummary name hops a k rows n text → IsSummaryOf name hops b4 text
summed name text hops b0 b1 b2 b3 b4 arrivals kept rows lines a k n e1 e2 e3 e4 of_arrivals of_kept of_rows of_lines is_a is_k is_n is =
    let A : Book → Type 0 = λ b. Lists pair_cmp b.arrivals arrivals in
    let K : Book → Type 0 = λ b. AreKept b kept in
    let same_rows : rows ≡ map.entries b4.rows = of_rows ∙ ap (λ (b : Book). map.entries b.rows) (sym (e4 ∙ e3)) in
    let same_lines : n ≡ length b4.lines = is_n ∙ (ap length of_lines ∙ (length-map b3.lines entry_of ∙ ap (λ (b : Book). length b.lines) (sym e4))) in
    let by_arrivals : ℕ → Type 0 = λ x. IsSummary name hops x k rows n text in
    let by_kept : ℕ → Type 0 = λ x. IsSummary name hops (length arrivals) x rows n text in
    let by_rows : List Row → Type 0 = λ x. IsSummary name hops (length arrivals) (length kept) x n text in
    let by_lines : ℕ → Type 0 = λ x. IsSummary name hops (length arrivals) (length kept) (map.entries b4.rows) x text in (
      arrivals,
      kept,
      subst A (sym (e4 ∙ (e3 ∙ (e2 ∙ e1)))) of_arrivals,
      subst K (sym (e4 ∙ (e3 ∙ e2))) of_kept,
      subst by_lines same_lines (subst by_rows same_rows (subst by_kept is_k (subst by_arrivals is_a is))),
    )
