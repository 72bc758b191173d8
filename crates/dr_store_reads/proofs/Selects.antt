-- The queries by key as commands, by computation.
use Rattle.std.proofs.Common.{codes, ◌≡◌, ℕ, List, [], ◌∷◌, refl, None, false, pos}
use Rattle.sqlite.specs.Collation.TheVariants.{Binary}
use Rattle.sqlite.specs.Command.TheVariants.{Select}
use Rattle.sqlite.specs.declared.types.Value.TheVariants.{Int}
use Rattle.sqlite.specs.Listing.{understood, reads_listing}
use Rattle.sqlite.specs.Query.{Query, inner, end}
use Rattle.sqlite.specs.Term.{Term, lit, col, op2}
use Rattle.sqlite.proofs.Callers.{IsPlain, command_of}
use Rattle.sqlite_sql.specs.declared.ops.BinaryOp.TheVariants.{Compare}
use Rattle.sqlite_sql.specs.declared.ops.CompareOp.TheVariants.{Eq, Le, Lt, Ne}
use Rattle.sqlite_tied.specs.Compute.{everything}
use Rattle.sqlite_value.specs.Keys.{ascending}
use Rattle.dr_store_schema.specs.Statements as text
use Rattle.dr_store_schema.specs.Tables.{tables}
use Rattle.dr_store_writes.proofs.Commands.{by_key, by_uid, over}

-- the statement is that query, with these names for its columns; it doesn't read the list of tables, has no RETURNING, and doesn't read the clock
pub record Is (sql : List ℕ) (q : Query) (names : List (List ℕ)) : Type 0 where
  pub command : command_of (understood tables sql) ≡ Select (record { lets = []; body = q }) names
  pub listing : reads_listing tables sql ≡ false
  pub plain : IsPlain (understood tables sql)

-- ---- one instance

abbrev pub key_shown : List Term
key_shown = col 1 2 ∷ col 1 3 ∷ col 1 4 ∷ col 1 5 ∷ []

pub find_key : Is text.find_key (over 1 by_uid key_shown) (codes "class" ∷ codes "syntax" ∷ codes "modality" ∷ codes "station" ∷ [])
unfolding understood everything
find_key = record { command = refl; listing = refl; plain = (refl, refl) }

abbrev pub job_shown : List Term
job_shown = col 1 2 ∷ col 1 3 ∷ col 1 4 ∷ col 1 5 ∷ col 1 6 ∷ []

pub find_item : Is text.find_item (over 1 by_uid job_shown) (codes "class" ∷ codes "syntax" ∷ codes "modality" ∷ codes "station" ∷ codes "body" ∷ [])
unfolding understood everything
find_item = record { command = refl; listing = refl; plain = (refl, refl) }

abbrev pub print_shown : List Term
print_shown = col 1 2 ∷ col 1 3 ∷ col 1 4 ∷ []

pub find_print : Is text.find_print (over 3 by_uid print_shown) (codes "length" ∷ codes "sha256" ∷ codes "whole" ∷ [])
unfolding understood everything
find_print = record { command = refl; listing = refl; plain = (refl, refl) }

-- ---- who brought it, and whether it is kept

abbrev pub arrival_shown : List Term
arrival_shown = col 1 2 ∷ []

pub find_arrival : Is text.find_arrival (over 5 by_key arrival_shown) (codes "uid" ∷ [])
unfolding understood everything
find_arrival = record { command = refl; listing = refl; plain = (refl, refl) }

abbrev pub kept_shown : List Term
kept_shown = col 1 1 ∷ []

pub find_kept : Is text.find_kept (over 7 by_uid kept_shown) (codes "uid" ∷ [])
unfolding understood everything
find_kept = record { command = refl; listing = refl; plain = (refl, refl) }

-- ---- its rows

abbrev pub row_shown : List Term
row_shown = col 1 3 ∷ col 1 4 ∷ col 1 5 ∷ col 1 6 ∷ []

pub find_row : Is text.find_row (over 9 by_key row_shown) (codes "state" ∷ codes "tries" ∷ codes "due" ∷ codes "cause" ∷ [])
unfolding understood everything
find_row = record { command = refl; listing = refl; plain = (refl, refl) }

-- WHERE uid = ?1 AND dest <> ?2 AND state < 2
abbrev pub open_elsewhere : List Term
open_elsewhere =
    op2 (Compare Eq Binary) (col 1 1) (col 0 0) ∷ op2 (Compare Ne Binary) (col 1 2) (col 0 1) ∷ op2 (Compare Lt Binary) (col 1 3) (lit (Int (pos 2))) ∷ []

abbrev pub open_shown : List Term
open_shown = col 1 2 ∷ []

pub find_open : Is text.find_open (over 9 open_elsewhere open_shown) (codes "dest" ∷ [])
unfolding understood everything
find_open = record { command = refl; listing = refl; plain = (refl, refl) }

-- WHERE uid = ?1 AND state < 2
abbrev pub any_open : List Term
any_open = op2 (Compare Eq Binary) (col 1 1) (col 0 0) ∷ op2 (Compare Lt Binary) (col 1 3) (lit (Int (pos 2))) ∷ []

pub find_any_open : Is text.find_any_open (over 9 any_open open_shown) (codes "dest" ∷ [])
unfolding understood everything
find_any_open = record { command = refl; listing = refl; plain = (refl, refl) }

-- WHERE dest = ?1 AND state = 0 AND due <= ?2
abbrev pub due_at_dest : List Term
due_at_dest =
    op2 (Compare Eq Binary) (col 1 2) (col 0 0) ∷ op2 (Compare Eq Binary) (col 1 3) (lit (Int (pos 0))) ∷ op2 (Compare Le Binary) (col 1 5) (col 0 1) ∷ []

-- ORDER BY due, uid LIMIT 1
abbrev pub next_query : Query
next_query = record {
  from = inner 9 end;
  filter = due_at_dest;
  group = None;
  project = col 1 1 ∷ [];
  distinct = false;
  collations = [];
  order = (col 1 5, ascending Binary) ∷ (col 1 1, ascending Binary) ∷ [];
  limit = lit (Int (pos 1));
  offset = lit (Int (pos 0));
}

pub find_next : Is text.find_next next_query (codes "uid" ∷ [])
unfolding understood everything
find_next = record { command = refl; listing = refl; plain = (refl, refl) }

-- ---- whose ledger it is, and the numbers in queue

abbrev pub site_shown : List Term
site_shown = col 1 0 ∷ col 1 2 ∷ col 1 3 ∷ []

pub the_site : Is text.the_site (over 0 [] site_shown) (codes "id" ∷ codes "node" ∷ codes "plan" ∷ [])
unfolding understood everything
the_site = record { command = refl; listing = refl; plain = (refl, refl) }

abbrev pub counts_shown : List Term
counts_shown = col 1 3 ∷ col 1 5 ∷ []

pub queue_counts : Is text.queue_counts (over 9 [] counts_shown) (codes "state" ∷ codes "due" ∷ [])
unfolding understood everything
queue_counts = record { command = refl; listing = refl; plain = (refl, refl) }
