-- Sealings: lines leave the tables, and nothing else.
use Rattle.std.proofs.Common.{◌≡◌, ◌<◌, pos, ℕ, List, [], map as mapped, IsTrue, sym, ap, subst, refl, ◌∙◌, arith}
use Rattle.std.specs.Ordering.{nat_cmp}
use Rattle.sqlite.specs.declared.types.Value.TheVariants.{Int}
use Rattle.sqlite.specs.Order.{Row}
use Rattle.sqlite.specs.State.{State}
use Rattle.sqlite.specs.Tree.{rowid}
use Rattle.sqlite_trees.specs.View.{is_int}
use Rattle.sqlite_trees.proofs.ListLemmas.{all_weaker}
use Rattle.dr_ledger.specs.Books.{Line}
use Rattle.dr_store_schema.specs.Books.{AreBelow, all_kept_in, arrivals_in, bodies_by, contents_in, items_in, lines_in, prints_in, rows_in, wholes_in}
use Rattle.dr_store_schema.proofs.WhatIsWritten.{no_entries}
use Rattle.dr_store_writes.specs.Effects.{DropsAll, GoesOn, HasSite, HaveNumbers, SetsPlan}
use Rattle.dr_store_writes.proofs.Emptied.{no_target_left}
use Rattle.dr_store_changes.specs.Sealing.{CanBeSealed, SealingsTakeJustLines, SealsLines}
use Rattle.dr_store_changes.specs.Writing.{IsReady}
use Rattle.dr_store_changes.proofs.Movements.{goes_over}
use Rattle.dr_store_changes.proofs.Together.{untouched}
use Rattle.dr_store_changes.proofs.Transactions.{IsDone}

-- ---- the statements

pub numbered_below : (n : ℕ) (rows : List Row) → AreBelow n rows → HaveNumbers rows
numbered_below n rows = all_weaker (λ row. (m : ℕ) × (rowid row ≡ Int (pos m)) × (m < n)) (λ row. IsTrue (is_int (rowid row))) (λ row h. subst (λ v. IsTrue (is_int v)) (sym h.1) refl) rows

-- where names of destinations have left, lines can leave
pub sealed_still : (old mid : State) → CanBeSealed old.now.trees → DropsAll 12 old mid → GoesOn old mid × CanBeSealed mid.now.trees
sealed_still old mid can d = (
  d.goes_on,
  ((can.0.0, can.0.1, d.others.site (omega arith) ∙ can.0.2), subst HaveNumbers (sym (d.others.journal (omega arith))) can.1),
)

-- and then site can have another plan
pub sited_still : (old mid : State) → CanBeSealed old.now.trees → DropsAll 11 old mid → GoesOn old mid × HasSite mid.now.trees
sited_still old mid can d = (d.goes_on, (can.0.0, can.0.1, d.others.site (omega arith) ∙ can.0.2))

-- the first two of the statements
pub record BothLeft (old new : State) : Type 0 where
  pub goes_on : GoesOn old new
  pub site : HasSite new.now.trees
  pub journal : new.now.trees 11 ≡ []
  pub same : new.now.trees 0 ≡ old.now.trees 0
  pub items : new.now.trees 1 ≡ old.now.trees 1
  pub prints : new.now.trees 3 ≡ old.now.trees 3
  pub arrivals : new.now.trees 5 ≡ old.now.trees 5
  pub kept : new.now.trees 7 ≡ old.now.trees 7
  pub queue : new.now.trees 9 ≡ old.now.trees 9

pub both_left : (old mid new : State) → CanBeSealed old.now.trees → DropsAll 12 old mid → DropsAll 11 mid new → BothLeft old new
both_left old mid new can names lines =
    let a = names.others in
    let b = lines.others in
    let still = (sealed_still old mid can names).1 in
    record {
      goes_on = goes_over old mid new names.goes_on lines.goes_on;
      site = (sited_still mid new still lines).1;
      journal = lines.rows still.1;
      same = b.site (omega arith) ∙ a.site (omega arith);
      items = b.items (omega arith) ∙ a.items (omega arith);
      prints = b.prints (omega arith) ∙ a.prints (omega arith);
      arrivals = b.arrivals (omega arith) ∙ a.arrivals (omega arith);
      kept = b.kept (omega arith) ∙ a.kept (omega arith);
      queue = b.queue (omega arith) ∙ a.queue (omega arith);
    }

-- all three
pub lines_sealed : (plan : List ℕ) (old mid new : State) → BothLeft old mid → SetsPlan plan mid new → GoesOn old new × SealsLines plan old.now.trees new.now.trees
lines_sealed plan old mid new l p =
    let o = p.others in
    let on = goes_over old mid new l.goes_on p.goes_on in
    let journal : new.now.trees 11 ≡ [] = o.journal (omega arith) ∙ l.journal in (
      on,
      record {
        journal = journal;
        targets = no_target_left new.now on.ledger journal;
        site = λ node was is. p.site node was (l.same ∙ is);
        items = o.items (omega arith) ∙ l.items;
        prints = o.prints (omega arith) ∙ l.prints;
        arrivals = o.arrivals (omega arith) ∙ l.arrivals;
        kept = o.kept (omega arith) ∙ l.kept;
        queue = o.queue (omega arith) ∙ l.queue;
      },
    )

-- ---- the transaction

pub can_be_sealed : (n : ℕ) (old : State) → IsReady n old → HasSite old.now.trees → CanBeSealed old.now.trees
can_be_sealed n old ready site = (site, numbered_below n (old.now.trees 11) ready.below)

pub sealing_done : (plan : List ℕ) (n : ℕ) (begun mid : State) → GoesOn begun mid × SealsLines plan begun.now.trees mid.now.trees → IsDone n (SealsLines plan) begun mid
sealing_done plan n begun mid done = record { goes_on = done.0; below = subst (AreBelow n) (sym done.1.journal) tt; made = done.1 }

-- ---- the law

pub sealings_take_just_lines : SealingsTakeJustLines
sealings_take_just_lines = record {
  book = λ plan old new w i. record {
    items = items_in (prints_in (w.prints i)) (w.items i);
    arrivals = arrivals_in (w.arrivals i);
    kept = all_kept_in (w.kept i);
    rows = rows_in (w.queue i);
    lines = no_lines (new 11) (new 12) w.journal w.targets i;
  };
  bodies = λ plan old new w i. bodies_by (contents_in (w.items i)) (wholes_in (w.prints i));
  together = λ plan old new w. untouched old new w.items w.prints;
}
  where
    no_lines : (rows targets : List Row) → rows ≡ [] → targets ≡ [] → lines_in targets rows ≡ []
    no_lines rows targets none nowhere = (λ i. lines_in (nowhere i) (none i)) ∙ ap (mapped (λ (e : ℕ × Line). e.1)) (no_entries nat_cmp Line)
