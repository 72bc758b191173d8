-- What is said of the tables' own books is said of the whole ones.
use Rattle.std.proofs.Common.{◌≡◌, ◌+◌, ◌-◌, ℕ, List, [], length, take, sym, ap, subst, ◌∙◌, arith}
use Rattle.std.proofs.lemmas.List.{take_all}
use Rattle.sqlite.specs.Tree.{Trees}
use Rattle.dr_site.specs.Parts.{Part}
use Rattle.dr_ledger.specs.Books.{Book, Line}
use Rattle.dr_ledger_past.specs.Pasts.{with_past}
use Rattle.dr_store_sealed.specs.declared.seal.Seal.{Seal}
use Rattle.dr_store_past.specs.Lines.{past_in}
use Rattle.dr_store_schema.specs.Books.{book_of}
use Rattle.dr_store_calls.specs.Calling.{IsLedgerOf}
use Rattle.dr_store_calls.specs.Owners.{seal_in}
use Rattle.dr_store_calls.proofs.Pasts.{numbers_count_all_lines}
use Rattle.dr_store.specs.Pasts.{BooksAreWhole, NoneSealedIsNoPast, past_of, whole_book}
use Rattle.dr_store.specs.Standing.{is_journalled, past_kept}

-- with each past that stands before both
abbrev pub GoesBehind : (Book → Book → Type 0) → Type 0
GoesBehind Answers =
    (past : List Line) (old new : Book)
    → Answers old new → Answers (with_past past old) (with_past past new)

module _ (all : List Line) (seal : Seal) (n m : ℕ) (part next : Part) (base db : Trees)
    (had : IsLedgerOf (past_in all seal) n part base)
    (has : IsLedgerOf (past_in all seal) m next db) where
  pub whole_is : whole_book all db ≡ with_past (past_in all seal) (book_of db)
  whole_is = ap (λ past. with_past past (book_of db)) (past_kept all seal m next db has)

  whole_was : whole_book all base ≡ with_past (past_in all seal) (book_of base)
  whole_was = ap (λ past. with_past past (book_of base)) (past_kept all seal n part base had)

  pub wholly : (Answers : Book → Book → Type 0) → GoesBehind Answers
      → Answers (book_of base) (book_of db)
      → Answers (whole_book all base) (whole_book all db)
  wholly Answers behind it =
      subst (λ b. Answers b (whole_book all db)) (sym whole_was)
      (subst (Answers (with_past (past_in all seal) (book_of base))) (sym whole_is)
      (behind (past_in all seal) (book_of base) (book_of db) it))

-- ---- laws

-- where no line is ever sealed, no tables have a past
pub no_past_of : (db : Trees) → past_of [] db ≡ []
no_past_of db = take_all (seal_in db).count [] (omega arith)

pub none_sealed : NoneSealedIsNoPast
none_sealed = record {
  uncounted = λ all db is. ap (λ n. with_past (take n all) (book_of db)) is;
  none = λ db. ap (λ past. with_past past (book_of db)) (no_past_of db);
}

pub books_are_whole : BooksAreWhole
books_are_whole all seal n part db l =
    let past = past_in all seal in
    let is : whole_book all db ≡ with_past past (book_of db) =
    ap (λ p. with_past p (book_of db)) (past_kept all seal n part db l) in
    record {
      is = is;
      journalled = is_journalled all seal n part db l;
      next =
          numbers_count_all_lines past n part db l
          ∙ ap (λ (b : Book). length b.lines + 1) (sym is);
    }

-- the lines of the whole book are as many as come before the next one
pub all_before : (all : List Line) (seal : Seal) (n count : ℕ) (part : Part) (db : Trees)
    → IsLedgerOf (past_in all seal) n part db → count ≡ n - 1
    → count ≡ length (whole_book all db).lines
all_before all seal n count part db l is =
    let next = (books_are_whole all seal n part db l).next in omega (arith, next, is)
