-- Pages of a past: how many lines each has, and that they are all in the end.
use Rattle.std.proofs.Common.{◌≡◌, ◌+◌, ◌≤◌, ℕ, List, ◌++◌, length, take, drop, sym, ap, subst, ◌∙◌, arith}
use Rattle.std.proofs.Common.{length-take, length-drop}
use Rattle.std.proofs.lemmas.List.{drop-take, length-map, take-append-drop, take-take, take_all}
use Rattle.dr_ledger.specs.Books.{Line}
use Rattle.dr_ledger_history.specs.declared.line.JournalLine.{JournalLine}
use Rattle.dr_ledger_history.specs.Lines.{line_of, lines_of}
use Rattle.dr_ledger_history.specs.Contents.{Content}
use Rattle.dr_ledger_history.specs.Told.{IsTold}
use Rattle.dr_store_sealed.specs.declared.seal.Seal.{Seal}
use Rattle.dr_store_past.specs.Lines.{past_in}

pub both_taken : {X : Type 0} (n m : ℕ) (xs : List X) → take n xs ++ take m (drop n xs) ≡ take (n + m) xs
both_taken n m xs =
    sym (ap (λ ls. take n xs ++ ls) (drop-take n m xs))
    ∙ ap (λ ls. ls ++ drop n (take (n + m) xs)) (sym (take-take n (n + m) xs (omega arith)))
    ∙ take-append-drop n (take (n + m) xs)

module _ (all : List Line) (seal : Seal) where
  -- a past that is shown has as many lines as its seal counts
  pub past_size : seal.count ≤ length all → length (past_in all seal) ≡ seal.count
  past_size shown = let cut = length-take seal.count all in omega (arith, cut, shown)

  -- a page of lines that are there has so many
  pub page_size : (after more : ℕ) (page : List JournalLine) → seal.count ≤ length all → after + more ≤ seal.count
      → lines_of page ≡ take more (drop after (past_in all seal)) → length page ≡ more
  page_size after more page shown there is =
      let whole = past_size shown in
      let said : length (lines_of page) ≡ length (take more (drop after (past_in all seal))) = ap (λ (l : List Line). length l) is in
      let own = length-map page line_of in
      let cut = length-take more (drop after (past_in all seal)) in
      let left = length-drop after (past_in all seal) in
      omega (arith, whole, said, own, cut, left, there)

  -- behind the last line nothing is left
  pub past_whole : (after : ℕ) → seal.count ≤ after → take after (past_in all seal) ≡ past_in all seal
  past_whole after behind =
      take_all after (past_in all seal) (let cut = length-take seal.count all in omega (arith, cut, behind))

-- what was told up to a place, said of the same lines and of the same place
pub told_there : (lines others : List Line) (here there : ℕ) (c : Content) → others ≡ lines → here ≡ there
    → IsTold (take there others) c → IsTold (take here lines) c
told_there lines others here there c same place told =
    subst (λ n. IsTold (take n lines) c) (sym place) (subst (λ (ls : List Line). IsTold (take there ls) c) same told)
