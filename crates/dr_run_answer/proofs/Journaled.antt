-- Lines of a journal that are told one behind another.
use Rattle.std.proofs.Common.{◌≡◌, ◌∙◌, ◌<◌, ◌≤◌, ◌+◌, ℕ, sym, ap, List, [], ◌∷◌, ◌++◌, append_assoc, append-nil, drop, get_or, length}
use Rattle.std.proofs.lemmas.List.{drop_all, drop_more}
use Rattle.dr_ledger_history.specs.declared.line.JournalLine.{JournalLine}
use Rattle.dr_run_answer.specs.Journals.{line_text, lines_text, next_number}

-- one line more, and what is left
pub one_told : (lines : List JournalLine) (i n m : ℕ) (d line : JournalLine) (out next whole : List ℕ) → i < length lines → line ≡ get_or lines i d → m ≡ next_number n → next ≡ out ++ line_text m line
    → out ++ lines_text n (drop i lines) ≡ whole → next ++ lines_text m (drop (i + 1) lines) ≡ whole
one_told lines i n m d line out next whole lt is up more so_far =
    let rest = drop (i + 1) lines in
    let cut : drop i lines ≡ line ∷ rest = drop_more lines i d lt ∙ ap (λ (x : JournalLine). x ∷ rest) (sym is) in
    ap (λ (t : List ℕ). t ++ lines_text m rest) more ∙ append_assoc out (line_text m line) (lines_text m rest)
    ∙ ap (λ (k : ℕ). out ++ (line_text k line ++ lines_text k rest)) up ∙ ap (λ (ls : List JournalLine). out ++ lines_text n ls) (sym cut) ∙ so_far

-- all of them
pub all_told : (lines : List JournalLine) (i n : ℕ) (out whole : List ℕ) → length lines ≤ i → out ++ lines_text n (drop i lines) ≡ whole → out ≡ whole
all_told lines i n out whole le so_far = sym (append-nil out) ∙ ap (λ (ls : List JournalLine). out ++ lines_text n ls) (sym (drop_all i lines le)) ∙ so_far
