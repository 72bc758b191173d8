-- Rows that move on.
use Rattle.std.proofs.Common.{◌≡◌, ℕ, pos, true, false, IsSome, sym, ap, subst, ◌∙◌, arith}
use Rattle.std.specs.FinMap as map
use Rattle.sqlite.specs.declared.types.Value.TheVariants.{Int}
use Rattle.sqlite.specs.Order.{Row}
use Rattle.sqlite.specs.State.{State}
use Rattle.sqlite.specs.Tree.{put_row, rowid}
use Rattle.dr_ledger.specs.declared.item.Progress.{Progress}
use Rattle.dr_ledger.specs.Pairs.{Pair}
use Rattle.dr_store_schema.specs.Books.{bodies_by, bodies_of, contents_in, items_in, items_of, prints_in, rows_in, wholes_in}
use Rattle.dr_store_writes.specs.Effects.{AddsRow, GoesOn, SetsRow}
use Rattle.dr_store_changes.specs.Changes.{HasBoth, LetsGo, Moved, MovesOn}
use Rattle.dr_store_changes.specs.Writing.{IsMade}
use Rattle.dr_store_changes.proofs.Together.{untouched}

pub goes_over : (old mid new : State) → GoesOn old mid → GoesOn mid new → GoesOn old new
goes_over old mid new one two = record { ledger = two.ledger; mode = two.mode; committed = two.committed ∙ one.committed; is_open = two.is_open }

pub row_goes : (at : Pair) (to : Progress) (old mid : State) → SetsRow at to old mid → GoesOn old mid × Unit {0}
row_goes at to old mid row = (row.goes_on, tt)

pub moved : (at : Pair) (to : Progress) (line : Row) (old mid new : State) → SetsRow at to old mid → AddsRow 11 line mid new → Moved at to line old new
moved at to line old mid new row more =
    let r = row.others in
    let m = more.others in
    record {
      goes_on = goes_over old mid new row.goes_on more.goes_on;
      rows = ap rows_in (m.queue (omega arith)) ∙ row.rows;
      journal = more.rows ∙ ap (put_row line) (r.journal (omega arith));
      site = m.site (omega arith) ∙ r.site (omega arith);
      items = m.items (omega arith) ∙ r.items (omega arith);
      prints = m.prints (omega arith) ∙ r.prints (omega arith);
      arrivals = m.arrivals (omega arith) ∙ r.arrivals (omega arith);
      kept = m.kept (omega arith) ∙ r.kept (omega arith);
      targets = m.targets (omega arith) ∙ r.targets (omega arith);
    }

same_items : (at : Pair) (to : Progress) (line : Row) (old new : State) → Moved at to line old new → items_of new.now.trees ≡ items_of old.now.trees
same_items at to line old new m = λ i. items_in (prints_in (m.prints i)) (m.items i)

same_bodies : (at : Pair) (to : Progress) (line : Row) (old new : State) → Moved at to line old new → bodies_of new.now.trees ≡ bodies_of old.now.trees
same_bodies at to line old new m = λ i. bodies_by (contents_in (m.items i)) (wholes_in (m.prints i))

-- the item and its print are there still
pub both_there : (at : Pair) (to : Progress) (line : Row) (old mid : State) → HasBoth at.0 old.now.trees → Moved at to line old mid → GoesOn old mid × HasBoth at.0 mid.now.trees
both_there at to line old mid both m = (
  m.goes_on,
  (subst (λ rows. IsSome (map.get (contents_in rows) at.0)) (sym m.items) both.0, subst (λ rows. IsSome (map.get (wholes_in rows) at.0)) (sym m.prints) both.1),
)

-- a row moved on, and no data set went
pub made_of : (n : ℕ) (at : Pair) (to : Progress) (line : Row) (old new : State) → rowid line ≡ Int (pos n) → Moved at to line old new → IsMade n (MovesOn at to line false) old new
made_of n at to line old new numbered m = record {
  goes_on = m.goes_on;
  line = record { row = line; numbered = numbered; journal = m.journal };
  made = record {
    rows = m.rows;
    journal = m.journal;
    items = same_items at to line old new m;
    bodies = same_bodies at to line old new m;
    together = untouched old.now.trees new.now.trees m.items m.prints;
    site = m.site;
    arrivals = m.arrivals;
    kept = m.kept;
    targets = m.targets;
  };
}

-- a row moved on, and then its data set went
pub made_going : (n : ℕ) (at : Pair) (to : Progress) (line : Row) (old mid new : State) → rowid line ≡ Int (pos n) → Moved at to line old mid → GoesOn mid new × LetsGo at.0 mid.now.trees new.now.trees
    → IsMade n (MovesOn at to line true) old new
made_going n at to line old mid new numbered m gone =
    let g = gone.1 in
    let journal : new.now.trees 11 ≡ put_row line (old.now.trees 11) = g.journal ∙ m.journal in
    record {
      goes_on = goes_over old mid new m.goes_on gone.0;
      line = record { row = line; numbered = numbered; journal = journal };
      made = record {
        rows = ap rows_in g.queue ∙ m.rows;
        journal = journal;
        items = g.items ∙ same_items at to line old mid m;
        bodies = g.bodies ∙ ap (λ b. map.remove b at.0) (same_bodies at to line old mid m);
        together = λ both. g.together (untouched old.now.trees mid.now.trees m.items m.prints both);
        site = g.site ∙ m.site;
        arrivals = g.arrivals ∙ m.arrivals;
        kept = g.kept ∙ m.kept;
        targets = g.targets ∙ m.targets;
      };
    }
