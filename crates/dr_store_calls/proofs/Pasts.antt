-- Ledgers over a past.
use Rattle.std.proofs.Common.{◌≡◌, ◌+◌, ℕ, List, [], ◌∷◌, ◌++◌, map as mapped, length}
use Rattle.std.proofs.Common.{refl, sym, ap, subst, ◌∙◌, arith, length-append}
use Rattle.std.proofs.lemmas.List.{append-nil, length-map}
use Rattle.std.specs.Cmp.{nat_cmp_total}
use Rattle.std.specs.declared.cmp.Ordering.{Ordering}
use Rattle.std.specs.declared.cmp.Ordering.TheVariants.{Less, Equal, Greater}
use Rattle.std.specs.FinMap as map
use Rattle.std.specs.FinMap.Entries.{by_order, put}
use Rattle.std.specs.Ordering.{nat_cmp}
use Rattle.sqlite.specs.Order.{Row}
use Rattle.sqlite.specs.Tree.{Trees, rowid}
use Rattle.dr_site.specs.Parts.{Part}
use Rattle.dr_ledger.specs.Books.{Book, Line}
use Rattle.dr_ledger.specs.Histories.{IsJournalled}
use Rattle.dr_ledger.specs.SiteRoutes.{site_routing}
use Rattle.dr_ledger_past.specs.Pasts.{with_past}
use Rattle.dr_store_sealed.specs.declared.seal.Seal.{Seal}
use Rattle.dr_store_schema.specs.Books.{AreBelow, all_kept_in, arrivals_in, bodies_by, bodies_of}
use Rattle.dr_store_schema.specs.Books.{book_of, contents_in, items_in, line_in, lines_in, lines_of}
use Rattle.dr_store_schema.specs.Books.{names_in, prints_in, rows_in, wholes_in}
use Rattle.dr_store_schema.specs.Cells.{number_in}
use Rattle.dr_store_schema.proofs.WhatIsWritten.{no_entries}
use Rattle.dr_store_changes.specs.Bringing.{HasCells}
use Rattle.dr_store_changes.specs.Writing.{CountTo, numbers_in}
use Rattle.dr_store_changes.specs.Sealing.{SealsLines, without_lines}
use Rattle.dr_store_changes.proofs.Together.{untouched}
use Rattle.dr_store_calls.specs.Calling.{IsLedgerOf}
use Rattle.dr_store_calls.specs.PastLaws.{LinesMayLeave, NumbersCountAllLines, NumbersGoOnFromTheSeal, SealingsKeepTheBook, SealsCountThePast}

-- ---- as many lines as numbers

module _ {V W : Type 0} where
  -- entries with the same numbers have them still with one more
  put_alike : (k : ℕ) (v : V) (w : W) (es : List (ℕ × V)) (fs : List (ℕ × W))
      → mapped (λ (e : ℕ × V). e.0) es ≡ mapped (λ (f : ℕ × W). f.0) fs
      → mapped (λ (e : ℕ × V). e.0) (put nat_cmp k v es)
      ≡ mapped (λ (f : ℕ × W). f.0) (put nat_cmp k w fs)
  put_alike k v w [] [] same = refl
  put_alike k v w [] (f ∷ fs) same = absurd cc
  put_alike k v w (e ∷ es) [] same = absurd cc
  put_alike k v w (e ∷ es) (f ∷ fs) same =
      let head : e.0 ≡ f.0 = cc in
      let rest : mapped (λ (x : ℕ × V). x.0) es ≡ mapped (λ (x : ℕ × W). x.0) fs = cc in
      go head rest (put_alike k v w es fs rest) (nat_cmp k e.0)
      ∙ ap (λ o. mapped (λ (x : ℕ × W). x.0) (by_order o ((k, w) ∷ f ∷ fs) ((f.0, w) ∷ fs) (f ∷ put nat_cmp k w fs))) (ap (nat_cmp k) head)
    where
      go : e.0 ≡ f.0 → mapped (λ (x : ℕ × V). x.0) es ≡ mapped (λ (x : ℕ × W). x.0) fs
          → mapped (λ (x : ℕ × V). x.0) (put nat_cmp k v es) ≡ mapped (λ (x : ℕ × W). x.0) (put nat_cmp k w fs)
          → (o : Ordering)
          → mapped (λ (x : ℕ × V). x.0) (by_order o ((k, v) ∷ e ∷ es) ((e.0, v) ∷ es) (e ∷ put nat_cmp k v es))
          ≡ mapped (λ (x : ℕ × W). x.0) (by_order o ((k, w) ∷ f ∷ fs) ((f.0, w) ∷ fs) (f ∷ put nat_cmp k w fs))
      go head rest later Less = λ i. k ∷ head i ∷ rest i
      go head rest later Equal = λ i. head i ∷ rest i
      go head rest later Greater = λ i. head i ∷ later i

  numbers_alike : (v : Row → V) (w : Row → W) (rows : List Row)
      → map.keys (map.from_entries {R = nat_cmp} (mapped (λ (r : Row). (number_in (rowid r), v r)) rows))
      ≡ map.keys (map.from_entries {R = nat_cmp} (mapped (λ (r : Row). (number_in (rowid r), w r)) rows))
  numbers_alike v w [] =
      ap (mapped (λ (e : ℕ × V). e.0)) (no_entries nat_cmp V)
      ∙ sym (ap (mapped (λ (e : ℕ × W). e.0)) (no_entries nat_cmp W))
  numbers_alike v w (r ∷ rows) =
      let k = number_in (rowid r) in
      let ones = map.from_entries {R = nat_cmp} (mapped (λ (x : Row). (number_in (rowid x), v x)) rows) in
      let others = map.from_entries {R = nat_cmp} (mapped (λ (x : Row). (number_in (rowid x), w x)) rows) in
      ap (mapped (λ (e : ℕ × V). e.0)) (map.entries-insert nat_cmp_total ones k (v r))
      ∙ put_alike k (v r) (w r) (map.entries ones) (map.entries others) (numbers_alike v w rows)
      ∙ sym (ap (mapped (λ (e : ℕ × W). e.0)) (map.entries-insert nat_cmp_total others k (w r)))

as_many : (db : Trees) → length (lines_of db) ≡ length (numbers_in (db 11))
as_many db =
    let all = map.from_entries {R = nat_cmp} (mapped (λ (r : Row). (number_in (rowid r), line_in (db 12) r)) (db 11)) in
    length-map (map.entries all) (λ (e : ℕ × Line). e.1)
    ∙ sym (length-map (map.entries all) (λ (e : ℕ × Line). e.0))
    ∙ ap length (numbers_alike (line_in (db 12)) (λ r. tt) (db 11))

how_many : (n first : ℕ) (numbers : List ℕ) → CountTo n first numbers → n ≡ first + length numbers
how_many n first [] all = omega (arith, all)
how_many n first (number ∷ numbers) all =
    let rest = how_many n (first + 1) numbers all.1 in omega (arith, rest)

pub numbers_count_all_lines : NumbersCountAllLines
numbers_count_all_lines past n part db l =
    let many = how_many n (length past + 1) (numbers_in (db 11)) l.numbered.count in
    let lines = as_many db in
    let both = length-append past (lines_of db) in
    omega (arith, many, lines, both)

pub numbers_go_on_from_the_seal : NumbersGoOnFromTheSeal
numbers_go_on_from_the_seal past n part db l =
    let many = how_many n (length past + 1) (numbers_in (db 11)) l.numbered.count in
    let lines = as_many db in
    let counted = l.counted in
    omega (arith, many, lines, counted)

pub seals_count_the_past : SealsCountThePast
seals_count_the_past past n last part other base db it l =
    let all = numbers_go_on_from_the_seal past n other db l in
    let none = ap (λ (b : Book). length b.lines) it.book in
    let count = ap (λ (s : Seal). s.count) it.seal in
    (l.counted ∙ count, omega (arith, all, none, count))

-- ---- lines that leave

no_lines : lines_in [] [] ≡ []
no_lines = ap (mapped (λ (e : ℕ × Line). e.1)) (no_entries nat_cmp Line)

no_numbers : numbers_in [] ≡ []
no_numbers = ap (mapped (λ (e : ℕ × Unit {0}). e.0)) (no_entries nat_cmp (Unit {0}))

module _ (past : List Line) (plan : List ℕ) (old new : Trees) (w : SealsLines plan old new) where
  left_lines : lines_of new ≡ []
  left_lines = (λ i. lines_in (w.targets i) (w.journal i)) ∙ no_lines

  all_lines : (past ++ lines_of old) ++ lines_of new ≡ past ++ lines_of old
  all_lines =
      ap (λ ls. (past ++ lines_of old) ++ ls) left_lines ∙ append-nil (past ++ lines_of old)

  same_book : with_past (past ++ lines_of old) (book_of new) ≡ with_past past (book_of old)
  same_book i = record {
    items = items_in (prints_in (w.prints i)) (w.items i);
    arrivals = arrivals_in (w.arrivals i);
    kept = all_kept_in (w.kept i);
    rows = rows_in (w.queue i);
    lines = all_lines i;
  }

  -- the book that was there, without its lines
  abbrev without : Book
  without = record {
    items = (book_of old).items;
    arrivals = (book_of old).arrivals;
    kept = (book_of old).kept;
    rows = (book_of old).rows;
    lines = lines_of new;
  }

  is_without : without ≡ book_of new
  is_without i = record {
    items = items_in (prints_in (sym w.prints i)) (sym w.items i);
    arrivals = arrivals_in (sym w.arrivals i);
    kept = all_kept_in (sym w.kept i);
    rows = rows_in (sym w.queue i);
    lines = lines_of new;
  }

  same_bodies : bodies_of new ≡ bodies_of old
  same_bodies i = bodies_by (contents_in (w.items i)) (wholes_in (w.prints i))

  still_bodied : HasCells (book_of old) (bodies_of old) → HasCells (book_of new) (bodies_of new)
  still_bodied has =
      subst (λ b. HasCells b (bodies_of new)) is_without
      (subst (HasCells without) (sym same_bodies) (record { there = has.there }))

pub lines_may_leave : LinesMayLeave
lines_may_leave past n part plan old new l w owned counts =
    let first = length (past ++ lines_of old) + 1 in
    let is : n ≡ first = numbers_count_all_lines past n part old l in
    let book = same_book past plan old new w in (
      record {
        owned = owned;
        counted = omega (arith, is, counts);
        together = untouched old new w.items w.prints l.together;
        numbered = record {
          below = subst (AreBelow n) (sym w.journal) tt;
          count =
              subst (λ rows. CountTo n first (numbers_in rows)) (sym w.journal)
              (subst (CountTo n first) (sym no_numbers) is);
        };
        ahead = λ m later. ap (λ rows. names_in rows m) w.targets;
        journalled = subst (IsJournalled (site_routing part)) (sym book) l.journalled;
        bodied = still_bodied past plan old new w l.bodied;
      },
      book,
    )

pub sealings_keep_the_book : SealingsKeepTheBook
sealings_keep_the_book past last part base db it =
    let all = past ++ lines_of base in
    let b = book_of base in
    ap (with_past all) it.book
    ∙ (λ i. record {
      items = b.items;
      arrivals = b.arrivals;
      kept = b.kept;
      rows = b.rows;
      lines = append-nil all i;
    })
