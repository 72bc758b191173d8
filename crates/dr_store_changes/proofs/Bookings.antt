-- What the calls that write make of the book.
use Rattle.std.proofs.Common.{◌≡◌, ◌≢◌, ◌↔◌, inl, inr, ℕ, pos, List, [], ◌∷◌, ◌++◌, Bool, true, false, cond, Option, Some, None, refl, sym, ap, subst, ◌∙◌, true≢false}
use Rattle.std.specs.Cmp.Lexicographic.{nat_list_cmp_total}
use Rattle.std.specs.FinMap as map
use Rattle.std.specs.FinSet as set
use Rattle.std.specs.Ordering.{eq_by_cmp, is_eq}
use Rattle.std.proofs.lemmas.Cmp.{tied_itself}
use Rattle.std.proofs.lemmas.Map.Lookups.{exact_bytes}
use Rattle.sqlite.specs.declared.types.Value.TheVariants.{Int}
use Rattle.sqlite.specs.Order.{Row}
use Rattle.sqlite.specs.Tree.{Trees}
use Rattle.dr_base.specs.Texts.{Text, text_cmp}
use Rattle.dr_ledger.specs.declared.item.Instance.{Instance}
use Rattle.dr_ledger.specs.declared.item.Progress.{Progress}
use Rattle.dr_ledger.specs.declared.item.Progress.TheVariants.{Waiting}
use Rattle.dr_ledger.specs.Bodies.{IsNeeded}
use Rattle.dr_ledger.specs.Books.{Book, Repeat, Settling, Requeuing, after, row_after, settled_row, requeued_row}
use Rattle.dr_ledger.specs.Pairs.{Pair, pair_cmp}
use Rattle.dr_store_schema.specs.Books.{AreBelow, all_kept_in, arrivals_in, bodies_by, bodies_of, book_of, contents_in, instance_in, items_in, items_of, line_in, lines_in, lines_of, prints_in, rows_in, rows_of, wholes_in}
use Rattle.dr_store_schema.proofs.WhatIsWritten.{cells_say_what_was_written, outcome_back}
use Rattle.dr_store_writes.specs.Effects.{arrived_line, requeued_line, settled_line}
use Rattle.dr_store_writes.proofs.Keys.{pairs_total, pairs_exact}
use Rattle.dr_store_writes.proofs.Maps.{equal}
use Rattle.dr_store_changes.specs.Changes.{MovesOn}
use Rattle.dr_store_changes.proofs.Numbers.{lines_put}
use Rattle.dr_store_changes.specs.Laws.{GoesWhereNeededNoMore, RepeatsRepeat, RequeuingsRequeue, SettlingsSettle, WhatIsNeededStays}

-- where only a row moves on, the book has these lines
lines_moved : (old new : Trees) (at : Pair) (to : Progress) (n : ℕ) (rest : Row) (lets_go : Bool) → AreBelow n (old 11) → MovesOn at to (Int (pos n) ∷ rest) lets_go old new
    → lines_of new ≡ lines_of old ++ line_in (old 12) (Int (pos n) ∷ rest) ∷ []
lines_moved old new at to n rest lets_go below w = (λ i. lines_in (w.targets i) (w.journal i)) ∙ lines_put (old 12) n rest (old 11) below

book_moved : (old new : Trees) (at : Pair) (to : Progress) (line : Row) (lets_go : Bool) (made : Book) → MovesOn at to line lets_go old new
    → items_of old ≡ made.items → arrivals_in (old 5) ≡ made.arrivals → all_kept_in (old 7) ≡ made.kept → rows_of new ≡ made.rows → lines_of new ≡ made.lines → book_of new ≡ made
book_moved old new at to line lets_go made w items arrivals kept rows lines = λ i. record {
  items = (w.items ∙ items) i;
  arrivals = (ap arrivals_in w.arrivals ∙ arrivals) i;
  kept = (ap all_kept_in w.kept ∙ kept) i;
  rows = rows i;
  lines = lines i;
}

pub settlings_settle : SettlingsSettle
settlings_settle old new n uid dest tries due what now lets_go below waits w =
    let to = row_after tries what now in
    let line : Row = settled_line n uid dest what now in
    let made = after (Settling uid dest what now) (book_of old) in
    book_moved old new (uid, dest) to line lets_go made w refl refl refl
    (w.rows ∙ ap (λ o. settled_row (rows_of old) (uid, dest) o what now) (sym waits))
    (lines_moved old new (uid, dest) to n _ lets_go below w ∙ ap (λ what'. lines_of old ++ Settling uid dest what' now ∷ []) (outcome_back what))

pub requeuings_requeue : RequeuingsRequeue
requeuings_requeue old new n moment uid dest why lets_go below held w =
    let line : Row = requeued_line n moment uid dest in
    let made = after (Requeuing uid dest) (book_of old) in
    book_moved old new (uid, dest) (Waiting 0 0) line lets_go made w refl refl refl
    (w.rows ∙ ap (λ o. requeued_row (rows_of old) (uid, dest) o) (sym held))
    (lines_moved old new (uid, dest) (Waiting 0 0) n _ lets_go below w)

-- the line of an arrival has what came
pub came : (item : Instance) (n : ℕ) (moment : Option ℕ) (kind : ℕ) (caller : Text) → instance_in (arrived_line n moment kind caller item) ≡ item
came item n moment kind caller = λ i. record item { key = record item.key { syntax = cells_say_what_was_written.syntax item.key.syntax i } }

pub repeats_repeat : RepeatsRepeat
repeats_repeat old new n moment caller item below w =
    let lines : lines_of new ≡ lines_of old ++ Repeat caller item ∷ [] =
    (λ i. lines_in (w.targets i) (w.journal i)) ∙ lines_put (old 12) n _ (old 11) below ∙ ap (λ it. lines_of old ++ Repeat caller it ∷ []) (came item n moment 1 caller) in (
      λ i. record {
        items = items_in (prints_in (w.prints i)) (w.items i);
        arrivals = arrivals_in (w.arrivals i);
        kept = all_kept_in (w.kept i);
        rows = rows_in (w.queue i);
        lines = lines i;
      },
      λ i. bodies_by (contents_in (w.items i)) (wholes_in (w.prints i)),
    )

-- ---- data sets

-- a row of another instance is as it was
other_row : (old new : Trees) (at : Pair) (to : Progress) (line : Row) (lets_go : Bool) (q dest : Text) → MovesOn at to line lets_go old new → q ≢ at.0
    → map.get (rows_of new) (q, dest) ≡ map.get (rows_of old) (q, dest)
other_row old new at to line lets_go q dest w other =
    ap (λ rows. map.get rows (q, dest)) w.rows ∙ map.get-insert pairs_total (rows_of old) at to (q, dest) ∙ ap (λ b. cond b (Some to) (map.get (rows_of old) (q, dest))) (differs (eq_by_cmp pair_cmp (q, dest) at) refl)
  where
    differs : (b : Bool) → eq_by_cmp pair_cmp (q, dest) at ≡ b → eq_by_cmp pair_cmp (q, dest) at ≡ false
    differs true is = absurd (other (ap (λ (p : Pair). p.0) (pairs_exact (q, dest) at (equal _ is))))
    differs false is = is

other_needed : (old new : Trees) (at : Pair) (to : Progress) (line : Row) (lets_go : Bool) (q : Text) → MovesOn at to line lets_go old new → q ≢ at.0 → IsNeeded (book_of new) q ↔ IsNeeded (book_of old) q
other_needed old new at to line lets_go q w other = (
  λ needed. elim needed [
    | inl kept ↦ inl (sym (ap (λ rows. set.contains (all_kept_in rows) q) w.kept) ∙ kept)
    | inr row ↦ inr (row.0, row.1, sym (other_row old new at to line lets_go q row.0 w other) ∙ row.2, row.3)
  ],
  λ needed. elim needed [
    | inl kept ↦ inl (ap (λ rows. set.contains (all_kept_in rows) q) w.kept ∙ kept)
    | inr row ↦ inr (row.0, row.1, other_row old new at to line lets_go q row.0 w other ∙ row.2, row.3)
  ],
)

body_stays : (old new : Trees) (at : Pair) (to : Progress) (line : Row) (lets_go : Bool) (q : Text) → MovesOn at to line lets_go old new → q ≢ at.0 → map.get (bodies_of new) q ≡ map.get (bodies_of old) q
body_stays old new at to line true q w other = ap (λ b. map.get b q) w.bodies ∙ map.get-remove nat_list_cmp_total (bodies_of old) at.0 q ∙ ap (λ b. cond b None (map.get (bodies_of old) q)) (differs (eq_by_cmp text_cmp q at.0) refl)
  where
    differs : (b : Bool) → eq_by_cmp text_cmp q at.0 ≡ b → eq_by_cmp text_cmp q at.0 ≡ false
    differs true is = absurd (other (exact_bytes q at.0 (equal _ is)))
    differs false is = is
body_stays old new at to line false q w other = ap (λ b. map.get b q) w.bodies

itself : (uid : Text) → eq_by_cmp text_cmp uid uid ≡ true
itself uid = ap is_eq (tied_itself nat_list_cmp_total uid)

abbrev IsThere : Trees → Text → Type 0
IsThere db q = (body : List ℕ) × (map.get (bodies_of db) q ≡ Some body)

none_some : {A B : Type 0} {x : Option A} {a : A} → x ≡ None → x ≡ Some a → B
none_some e f = absurd (let h = sym e ∙ f in cc)

own_there : (old new : Trees) (at : Pair) (to : Progress) (line : Row) (lets_go : Bool) → IsThere old at.0 → MovesOn at to line lets_go old new → GoesWhereNeededNoMore lets_go new at.0
    → IsThere new at.0 ↔ IsNeeded (book_of new) at.0
own_there old new at to line true was w goes = (
  λ there. none_some (ap (λ b. map.get b at.0) w.bodies ∙ map.get-remove nat_list_cmp_total (bodies_of old) at.0 at.0 ∙ ap (λ b. cond b None (map.get (bodies_of old) at.0)) (itself at.0)) there.1,
  λ needed. absurd (goes needed),
)
own_there old new at to line false was w goes = (λ there. goes, λ needed. (was.0, ap (λ b. map.get b at.0) w.bodies ∙ was.1))

pub body_was : (old new : Trees) (at : Pair) (to : Progress) (line : Row) (lets_go : Bool) (q : Text) (body : List ℕ) → MovesOn at to line lets_go old new → map.get (bodies_of new) q ≡ Some body → map.get (bodies_of old) q ≡ Some body
body_was old new at to line true q body w h = go (eq_by_cmp text_cmp q at.0) refl
  where
    is : map.get (bodies_of new) q ≡ cond (eq_by_cmp text_cmp q at.0) None (map.get (bodies_of old) q)
    is = ap (λ b. map.get b q) w.bodies ∙ map.get-remove nat_list_cmp_total (bodies_of old) at.0 q

    go : (b : Bool) → eq_by_cmp text_cmp q at.0 ≡ b → map.get (bodies_of old) q ≡ Some body
    go true e = none_some (is ∙ ap (λ b. cond b None (map.get (bodies_of old) q)) e) h
    go false e = sym (is ∙ ap (λ b. cond b None (map.get (bodies_of old) q)) e) ∙ h
body_was old new at to line false q body w h = sym (ap (λ b. map.get b q) w.bodies) ∙ h

pub what_is_needed_stays : WhatIsNeededStays
what_is_needed_stays old new uid dest was to line lets_go has needed w goes = record {
  there = λ q. at q (eq_by_cmp text_cmp q uid) refl;
}
  where
    at : (q : Text) (b : Bool) → eq_by_cmp text_cmp q uid ≡ b → IsThere new q ↔ IsNeeded (book_of new) q
    at q true is = subst (λ x. IsThere new x ↔ IsNeeded (book_of new) x) (sym (exact_bytes q uid (equal _ is))) (own_there old new (uid, dest) to line lets_go ((has.there uid).1 needed) w goes)
    at q false is =
        let other : q ≢ uid = λ same. true≢false (sym (itself uid) ∙ ap (λ x. eq_by_cmp text_cmp x uid) (sym same) ∙ is) in
        let stays = body_stays old new (uid, dest) to line lets_go q w other in
        let alike = other_needed old new (uid, dest) to line lets_go q w other in (
          λ there. alike.1 ((has.there q).0 (there.0, sym stays ∙ there.1)),
          λ needs. let it = (has.there q).1 (alike.0 needs) in (it.0, stays ∙ it.1),
        )
