-- Rows that are dropped.
use Rattle.std.proofs.Common.{◌≡◌, ◌==◌, ℕ, Bool, true, false, cond, filter, IsSome, refl, sym, ap}
use Rattle.std.proofs.Common.{subst, ◌∙◌, arith}
use Rattle.std.specs.FinMap as map
use Rattle.sqlite.specs.Order.{Row}
use Rattle.sqlite.specs.State.{State}
use Rattle.sqlite.specs.Tree.{Trees, put_row}
use Rattle.dr_base.specs.Texts.{Text}
use Rattle.dr_ledger.specs.declared.item.Progress.TheVariants.{Dropped}
use Rattle.dr_ledger.specs.Books.{dropped_row, is_other}
use Rattle.dr_ledger.specs.Pairs.{Pair}
use Rattle.dr_store_schema.specs.Books.{all_kept_in, arrival_in, arrivals_in, bodies_by, bodies_of}
use Rattle.dr_store_schema.specs.Books.{contents_in, items_in, items_of, lines_in, prints_in}
use Rattle.dr_store_schema.specs.Books.{rows_in, rows_of, wholes_in}
use Rattle.dr_store_writes.specs.Effects.{DropsOf, GoesOn, dropped_line, is_of_other}
use Rattle.dr_store_writes.proofs.Keys.{pairs_exact, pairs_total}
use Rattle.dr_store_changes.specs.Changes.{GivenUp, GivesUp, HasBoth, LetsGo, Moved, MovesOn}
use Rattle.dr_store_changes.specs.Laws.{DroppingsDrop, GoesWhereNeededNoMore}
use Rattle.dr_store_changes.specs.Laws.{WhatIsNeededStaysAtADropping}
use Rattle.dr_store_changes.specs.Writing.{IsMade}
use Rattle.dr_store_changes.proofs.Bookings.{what_is_needed_stays}
use Rattle.dr_store_changes.proofs.Forgotten.{set_left}
use Rattle.dr_store_changes.proofs.Movements.{goes_over}
use Rattle.dr_store_changes.proofs.Numbers.{lines_put}
use Rattle.dr_store_changes.proofs.Together.{untouched}

-- ---- the statements

pub row_moved : (at : Pair) (line : Row) (old mid : State)
    → Moved at Dropped line old mid
    → GoesOn old mid × Unit {0}
row_moved at line old mid m = (m.goes_on, tt)

pub arrivals_gone : (uid dest : Text) (now n : ℕ) (old mid new : State)
    → Moved (uid, dest) Dropped (dropped_line n uid dest now) old mid
    → DropsOf 5 2 uid mid new
    → GivenUp uid dest now n old new
arrivals_gone uid dest now n old mid new m d =
    let o = d.others in
    record {
      goes_on = goes_over old mid new m.goes_on d.goes_on;
      rows = ap rows_in (o.queue (omega arith)) ∙ m.rows;
      journal = o.journal (omega arith) ∙ m.journal;
      arrivals = d.rows ∙ ap (filter (is_of_other 2 uid)) m.arrivals;
      site = o.site (omega arith) ∙ m.site;
      items = o.items (omega arith) ∙ m.items;
      prints = o.prints (omega arith) ∙ m.prints;
      kept = o.kept (omega arith) ∙ m.kept;
      targets = o.targets (omega arith) ∙ m.targets;
    }

module _ (uid dest : Text) (now n : ℕ) (old mid : State) (m : GivenUp uid dest now n old mid) where
  same_items : items_of mid.now.trees ≡ items_of old.now.trees
  same_items i = items_in (prints_in (m.prints i)) (m.items i)

  same_bodies : bodies_of mid.now.trees ≡ bodies_of old.now.trees
  same_bodies i = bodies_by (contents_in (m.items i)) (wholes_in (m.prints i))

  -- the item and its print are there still
  pub both_still : HasBoth uid old.now.trees → GoesOn old mid × HasBoth uid mid.now.trees
  both_still both = (
    m.goes_on,
    (
      subst (λ rows. IsSome (map.get (contents_in rows) uid)) (sym m.items) both.0,
      subst (λ rows. IsSome (map.get (wholes_in rows) uid)) (sym m.prints) both.1,
    ),
  )

  -- a row was dropped, and no data set went
  pub given_up_staying : IsMade n (GivesUp uid dest now n false) old mid
  given_up_staying = record {
    goes_on = m.goes_on;
    line = record { row = dropped_line n uid dest now; numbered = refl; journal = m.journal };
    made = record {
      rows = m.rows;
      arrivals = m.arrivals;
      journal = m.journal;
      items = same_items;
      bodies = same_bodies;
      together = untouched old.now.trees mid.now.trees m.items m.prints;
      site = m.site;
      kept = m.kept;
      targets = m.targets;
    };
  }

  -- a row was dropped, and then its data set went
  pub given_up_going : (new : State)
      → GoesOn mid new × LetsGo uid mid.now.trees new.now.trees
      → IsMade n (GivesUp uid dest now n true) old new
  given_up_going new gone =
      let g = gone.1 in
      let journal : new.now.trees 11 ≡ put_row (dropped_line n uid dest now) (old.now.trees 11) =
      g.journal ∙ m.journal in
      record {
        goes_on = goes_over old mid new m.goes_on gone.0;
        line = record { row = dropped_line n uid dest now; numbered = refl; journal = journal };
        made = record {
          rows = ap rows_in g.queue ∙ m.rows;
          arrivals = g.arrivals ∙ m.arrivals;
          journal = journal;
          items = g.items ∙ same_items;
          bodies = g.bodies ∙ ap (λ b. map.remove b uid) same_bodies;
          together = λ both.
              g.together (untouched old.now.trees mid.now.trees m.items m.prints both);
          site = g.site ∙ m.site;
          kept = g.kept ∙ m.kept;
          targets = g.targets ∙ m.targets;
        };
      }

-- ---- the book

pub droppings_drop : DroppingsDrop
droppings_drop old new n uid dest why now lets_go below held w = λ i. record {
  items = w.items i;
  arrivals = (ap arrivals_in w.arrivals
      ∙ set_left pairs_total pairs_exact (λ (at : Pair). is_other uid at.1) arrival_in (old 5)) i;
  kept = all_kept_in (w.kept i);
  rows = (w.rows ∙ ap (λ o. dropped_row (rows_of old) (uid, dest) o) (sym held)) i;
  lines = ((λ j. lines_in (w.targets j) (w.journal j)) ∙ lines_put (old 12) n _ (old 11) below) i;
}

-- ---- the data sets

-- the tables after a dropping, but with the arrivals from before
abbrev pub but_arrivals : Trees → Trees → Trees
but_arrivals old new tree = cond (tree == 5) (old 5) (new tree)

-- but for the arrivals, a row moved on
pub moves_on : (uid dest : Text) (now n : ℕ) (lets_go : Bool) (old new : Trees)
    → GivesUp uid dest now n lets_go old new
    → MovesOn (uid, dest) Dropped (dropped_line n uid dest now) lets_go old (but_arrivals old new)
moves_on uid dest now n lets_go old new w = record {
  rows = w.rows;
  journal = w.journal;
  items = w.items;
  bodies = w.bodies;
  together = w.together;
  site = w.site;
  arrivals = refl;
  kept = w.kept;
  targets = w.targets;
}

-- what is needed doesn't rest on arrivals
goes_so : (old new : Trees) (uid : Text) (lets_go : Bool)
    → GoesWhereNeededNoMore lets_go new uid
    → GoesWhereNeededNoMore lets_go (but_arrivals old new) uid
goes_so old new uid true goes = goes
goes_so old new uid false goes = goes

pub goes_as_well : (old new : Trees) (uid : Text) (lets_go : Bool)
    → GoesWhereNeededNoMore lets_go (but_arrivals old new) uid
    → GoesWhereNeededNoMore lets_go new uid
goes_as_well old new uid true goes = goes
goes_as_well old new uid false goes = goes

pub what_is_needed_stays_at_a_dropping : WhatIsNeededStaysAtADropping
what_is_needed_stays_at_a_dropping old new n uid dest now lets_go has needed w goes =
    let h = what_is_needed_stays old (but_arrivals old new) uid dest Dropped Dropped
    (dropped_line n uid dest now) lets_go has needed (moves_on uid dest now n lets_go old new w)
    (goes_so old new uid lets_go goes) in
    record { there = h.there }
