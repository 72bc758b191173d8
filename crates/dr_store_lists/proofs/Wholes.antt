-- The queries of whole tables as commands, by computation.
use Rattle.std.proofs.Common.{codes, ℕ, List, [], ◌∷◌, refl, None, false, pos, negsuc}
use Rattle.sqlite.specs.Collation.TheVariants.{Binary}
use Rattle.sqlite.specs.declared.types.Value.TheVariants.{Int}
use Rattle.sqlite.specs.Listing.{understood}
use Rattle.sqlite.specs.Query.{Query, inner, end}
use Rattle.sqlite.specs.Term.{Term, lit, col}
use Rattle.sqlite_tied.specs.Compute.{everything}
use Rattle.sqlite_value.specs.declared.keys.Key.{Key}
use Rattle.sqlite_value.specs.Keys.{ascending}
use Rattle.dr_store_schema.specs.Statements as text
use Rattle.dr_store_reads.proofs.Selects.{Is}

-- all rows of a table, in an order
abbrev pub listing : ℕ → List Term → List (Term × Key) → Query
listing tree shown order = record {
  from = inner tree end;
  filter = [];
  group = None;
  project = shown;
  distinct = false;
  collations = [];
  order = order;
  limit = lit (Int (negsuc 0));
  offset = lit (Int (pos 0));
}

abbrev pub all_items_shown : List Term
all_items_shown = col 1 1 ∷ col 1 2 ∷ col 1 3 ∷ col 1 4 ∷ col 1 5 ∷ []

abbrev pub all_items_order : List (Term × Key)
all_items_order = (col 1 1, ascending Binary) ∷ []

pub all_items : Is text.all_items (listing 1 all_items_shown all_items_order) (codes "uid" ∷ codes "class" ∷ codes "syntax" ∷ codes "modality" ∷ codes "station" ∷ [])
unfolding understood everything
all_items = record { command = refl; listing = refl; plain = (refl, refl) }

abbrev pub all_prints_shown : List Term
all_prints_shown = col 1 1 ∷ col 1 2 ∷ col 1 3 ∷ col 1 4 ∷ []

abbrev pub all_prints_order : List (Term × Key)
all_prints_order = (col 1 1, ascending Binary) ∷ []

pub all_prints : Is text.all_prints (listing 3 all_prints_shown all_prints_order) (codes "uid" ∷ codes "length" ∷ codes "sha256" ∷ codes "whole" ∷ [])
unfolding understood everything
all_prints = record { command = refl; listing = refl; plain = (refl, refl) }

abbrev pub all_arrivals_shown : List Term
all_arrivals_shown = col 1 1 ∷ col 1 2 ∷ []

abbrev pub all_arrivals_order : List (Term × Key)
all_arrivals_order = (col 1 1, ascending Binary) ∷ (col 1 2, ascending Binary) ∷ []

pub all_arrivals : Is text.all_arrivals (listing 5 all_arrivals_shown all_arrivals_order) (codes "caller" ∷ codes "uid" ∷ [])
unfolding understood everything
all_arrivals = record { command = refl; listing = refl; plain = (refl, refl) }

abbrev pub all_kept_shown : List Term
all_kept_shown = col 1 1 ∷ []

abbrev pub all_kept_order : List (Term × Key)
all_kept_order = (col 1 1, ascending Binary) ∷ []

pub all_kept : Is text.all_kept (listing 7 all_kept_shown all_kept_order) (codes "uid" ∷ [])
unfolding understood everything
all_kept = record { command = refl; listing = refl; plain = (refl, refl) }

abbrev pub all_rows_shown : List Term
all_rows_shown = col 1 1 ∷ col 1 2 ∷ col 1 3 ∷ col 1 4 ∷ col 1 5 ∷ col 1 6 ∷ []

abbrev pub all_rows_order : List (Term × Key)
all_rows_order = (col 1 1, ascending Binary) ∷ (col 1 2, ascending Binary) ∷ []

pub all_rows : Is text.all_rows (listing 9 all_rows_shown all_rows_order) (codes "uid" ∷ codes "dest" ∷ codes "state" ∷ codes "tries" ∷ codes "due" ∷ codes "cause" ∷ [])
unfolding understood everything
all_rows = record { command = refl; listing = refl; plain = (refl, refl) }

abbrev pub all_lines_shown : List Term
all_lines_shown =
    col 1 0 ∷ col 1 2 ∷ col 1 3 ∷ col 1 4 ∷ col 1 5 ∷ col 1 6 ∷ col 1 7 ∷ col 1 8 ∷ col 1 9 ∷ col 1 10 ∷ col 1 11 ∷ col 1 12 ∷ col 1 13
    ∷ []

abbrev pub all_lines_order : List (Term × Key)
all_lines_order = (col 1 0, ascending Binary) ∷ []

pub all_lines : Is text.all_lines (listing 11 all_lines_shown all_lines_order) (codes "n" ∷ codes "kind" ∷ codes "caller" ∷ codes "uid" ∷ codes "dest" ∷ codes "outcome" ∷ codes "moment" ∷ codes "class" ∷ codes "syntax" ∷ codes "modality" ∷ codes "station" ∷ codes "length" ∷ codes "sha256" ∷ [])
unfolding understood everything
all_lines = record { command = refl; listing = refl; plain = (refl, refl) }

abbrev pub all_targets_shown : List Term
all_targets_shown = col 1 1 ∷ col 1 2 ∷ []

abbrev pub all_targets_order : List (Term × Key)
all_targets_order = (col 1 1, ascending Binary) ∷ (col 1 2, ascending Binary) ∷ []

pub all_targets : Is text.all_targets (listing 12 all_targets_shown all_targets_order) (codes "n" ∷ codes "dest" ∷ [])
unfolding understood everything
all_targets = record { command = refl; listing = refl; plain = (refl, refl) }

abbrev pub item_rowids_shown : List Term
item_rowids_shown = col 1 0 ∷ []

abbrev pub item_rowids_order : List (Term × Key)
item_rowids_order = (col 1 0, ascending Binary) ∷ []

pub item_rowids : Is text.item_rowids (listing 1 item_rowids_shown item_rowids_order) (codes "rowid" ∷ [])
unfolding understood everything
item_rowids = record { command = refl; listing = refl; plain = (refl, refl) }

abbrev pub print_rowids_shown : List Term
print_rowids_shown = col 1 0 ∷ []

abbrev pub print_rowids_order : List (Term × Key)
print_rowids_order = (col 1 0, ascending Binary) ∷ []

pub print_rowids : Is text.print_rowids (listing 3 print_rowids_shown print_rowids_order) (codes "rowid" ∷ [])
unfolding understood everything
print_rowids = record { command = refl; listing = refl; plain = (refl, refl) }

abbrev pub arrival_rowids_shown : List Term
arrival_rowids_shown = col 1 0 ∷ []

abbrev pub arrival_rowids_order : List (Term × Key)
arrival_rowids_order = (col 1 0, ascending Binary) ∷ []

pub arrival_rowids : Is text.arrival_rowids (listing 5 arrival_rowids_shown arrival_rowids_order) (codes "rowid" ∷ [])
unfolding understood everything
arrival_rowids = record { command = refl; listing = refl; plain = (refl, refl) }

abbrev pub queue_rowids_shown : List Term
queue_rowids_shown = col 1 0 ∷ []

abbrev pub queue_rowids_order : List (Term × Key)
queue_rowids_order = (col 1 0, ascending Binary) ∷ []

pub queue_rowids : Is text.queue_rowids (listing 9 queue_rowids_shown queue_rowids_order) (codes "rowid" ∷ [])
unfolding understood everything
queue_rowids = record { command = refl; listing = refl; plain = (refl, refl) }

abbrev pub journal_rowids_shown : List Term
journal_rowids_shown = col 1 0 ∷ []

abbrev pub journal_rowids_order : List (Term × Key)
journal_rowids_order = (col 1 0, ascending Binary) ∷ []

pub journal_rowids : Is text.journal_rowids (listing 11 journal_rowids_shown journal_rowids_order) (codes "n" ∷ [])
unfolding understood everything
journal_rowids = record { command = refl; listing = refl; plain = (refl, refl) }
