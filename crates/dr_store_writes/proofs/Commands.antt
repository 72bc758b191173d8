-- The statements as commands, by computation.
use Rattle.std.proofs.Common.{◌≡◌, ℕ, List, [], ◌∷◌, refl, None, false, pos, negsuc}
use Rattle.sqlite.specs.Collation.TheVariants.{Binary}
use Rattle.sqlite.specs.Command.{Command}
use Rattle.sqlite.specs.Command.TheVariants.{Insert, Update, Delete}
use Rattle.sqlite.specs.declared.types.Value.TheVariants.{Null, Int}
use Rattle.sqlite.specs.Listing.{understood}
use Rattle.sqlite.specs.Query.{Query, inner, end}
use Rattle.sqlite.specs.Source.TheVariants.{Values}
use Rattle.sqlite.specs.Term.{Term, lit, col, op2}
use Rattle.sqlite.proofs.Callers.{IsPlain, command_of}
use Rattle.sqlite_sql.specs.declared.ops.BinaryOp.TheVariants.{Compare}
use Rattle.sqlite_sql.specs.declared.ops.CompareOp.TheVariants.{Eq, Ge}
use Rattle.sqlite_tied.specs.Compute.{everything}
use Rattle.dr_store_schema.specs.Statements as text
use Rattle.dr_store_schema.specs.Tables.{tables}

-- the statement is that command, without RETURNING, and doesn't read the clock
abbrev pub Is : List ℕ → Command → Type 0
Is sql command = (command_of (understood tables sql) ≡ command) × IsPlain (understood tables sql)

-- ---- INSERT: the rowid is chosen where its value is NULL

abbrev pub item_terms : List Term
item_terms = col 0 0 ∷ col 0 1 ∷ col 0 2 ∷ col 0 3 ∷ col 0 4 ∷ col 0 5 ∷ col 0 6 ∷ []

pub insert_item : Is text.insert_item (Insert 1 (Values item_terms 7))
unfolding understood everything
insert_item = (refl, (refl, refl))

abbrev pub print_terms : List Term
print_terms = lit Null ∷ col 0 0 ∷ col 0 1 ∷ col 0 2 ∷ col 0 3 ∷ []

pub insert_print : Is text.insert_print (Insert 2 (Values print_terms 5))
unfolding understood everything
insert_print = (refl, (refl, refl))

abbrev pub arrival_terms : List Term
arrival_terms = lit Null ∷ col 0 0 ∷ col 0 1 ∷ []

pub insert_arrival : Is text.insert_arrival (Insert 3 (Values arrival_terms 3))
unfolding understood everything
insert_arrival = (refl, (refl, refl))

abbrev pub kept_terms : List Term
kept_terms = lit Null ∷ col 0 0 ∷ []

pub insert_kept : Is text.insert_kept (Insert 4 (Values kept_terms 2))
unfolding understood everything
insert_kept = (refl, (refl, refl))

abbrev pub row_terms : List Term
row_terms = lit Null ∷ col 0 0 ∷ col 0 1 ∷ lit (Int (pos 0)) ∷ lit (Int (pos 0)) ∷ lit (Int (pos 0)) ∷ lit Null ∷ []

pub insert_row : Is text.insert_row (Insert 5 (Values row_terms 7))
unfolding understood everything
insert_row = (refl, (refl, refl))

-- no instance comes by the line
abbrev nothing_came : List Term
nothing_came = lit Null ∷ lit Null ∷ lit Null ∷ lit Null ∷ lit Null ∷ lit Null ∷ []

abbrev pub arrived_terms : List Term
arrived_terms = col 0 0 ∷ lit Null ∷ col 0 1 ∷ col 0 2 ∷ col 0 3 ∷ lit Null ∷ col 0 1 ∷ col 0 4 ∷ col 0 5 ∷ col 0 6 ∷ col 0 7 ∷ col 0 8 ∷ col 0 9 ∷ col 0 10 ∷ []

pub insert_arrived : Is text.insert_arrived (Insert 6 (Values arrived_terms 14))
unfolding understood everything
insert_arrived = (refl, (refl, refl))

abbrev pub settled_terms : List Term
settled_terms = col 0 0 ∷ lit Null ∷ lit (Int (pos 2)) ∷ lit Null ∷ col 0 1 ∷ col 0 2 ∷ col 0 3 ∷ col 0 4 ∷ nothing_came

pub insert_settled : Is text.insert_settled (Insert 6 (Values settled_terms 14))
unfolding understood everything
insert_settled = (refl, (refl, refl))

abbrev pub requeued_terms : List Term
requeued_terms = col 0 0 ∷ lit Null ∷ lit (Int (pos 3)) ∷ lit Null ∷ col 0 1 ∷ col 0 2 ∷ lit Null ∷ col 0 3 ∷ nothing_came

pub insert_requeued : Is text.insert_requeued (Insert 6 (Values requeued_terms 14))
unfolding understood everything
insert_requeued = (refl, (refl, refl))

abbrev pub dropped_terms : List Term
dropped_terms = col 0 0 ∷ lit Null ∷ lit (Int (pos 6)) ∷ lit Null ∷ col 0 1 ∷ col 0 2 ∷ lit Null ∷ col 0 3 ∷ nothing_came

pub insert_dropped : Is text.insert_dropped (Insert 6 (Values dropped_terms 14))
unfolding understood everything
insert_dropped = (refl, (refl, refl))

abbrev pub adopted_terms : List Term
adopted_terms = col 0 0 ∷ lit Null ∷ lit (Int (pos 4)) ∷ lit Null ∷ lit Null ∷ lit Null ∷ lit Null ∷ col 0 1 ∷ nothing_came

pub insert_adopted : Is text.insert_adopted (Insert 6 (Values adopted_terms 14))
unfolding understood everything
insert_adopted = (refl, (refl, refl))

abbrev pub forgotten_terms : List Term
forgotten_terms = col 0 0 ∷ lit Null ∷ lit (Int (pos 5)) ∷ lit Null ∷ col 0 1 ∷ lit Null ∷ lit Null ∷ col 0 2 ∷ nothing_came

pub insert_forgotten : Is text.insert_forgotten (Insert 6 (Values forgotten_terms 14))
unfolding understood everything
insert_forgotten = (refl, (refl, refl))

abbrev pub target_terms : List Term
target_terms = lit Null ∷ col 0 0 ∷ col 0 1 ∷ []

pub insert_target : Is text.insert_target (Insert 7 (Values target_terms 3))
unfolding understood everything
insert_target = (refl, (refl, refl))

abbrev pub site_terms : List Term
site_terms = lit (Int (pos 1)) ∷ lit Null ∷ col 0 0 ∷ col 0 1 ∷ []

pub insert_site : Is text.insert_site (Insert 0 (Values site_terms 4))
unfolding understood everything
insert_site = (refl, (refl, refl))

-- ---- UPDATE: the rowid, and then the new row

-- WHERE uid = ?1, where the uid is in that column
abbrev pub by_uid_at : ℕ → List Term
by_uid_at at = op2 (Compare Eq Binary) (col 1 at) (col 0 0) ∷ []

-- and where it is in the first
abbrev pub by_uid : List Term
by_uid = by_uid_at 1

-- WHERE uid = ?1 AND dest = ?2
abbrev pub by_key : List Term
by_key = op2 (Compare Eq Binary) (col 1 1) (col 0 0) ∷ op2 (Compare Eq Binary) (col 1 2) (col 0 1) ∷ []

-- a query over one table
abbrev pub over : ℕ → List Term → List Term → Query
over tree conditions shown = record {
  from = inner tree end;
  filter = conditions;
  group = None;
  project = shown;
  distinct = false;
  collations = [];
  order = [];
  limit = lit (Int (negsuc 0));
  offset = lit (Int (pos 0));
}

abbrev pub set_row_shown : List Term
set_row_shown = col 1 0 ∷ col 1 0 ∷ col 1 1 ∷ col 1 2 ∷ col 0 2 ∷ col 0 3 ∷ col 0 4 ∷ col 0 5 ∷ []

pub set_row : Is text.set_row (Update 5 (record { lets = []; body = over 9 by_key set_row_shown }))
unfolding understood everything
set_row = (refl, (refl, refl))

abbrev pub set_body_shown : List Term
set_body_shown = col 1 0 ∷ col 1 0 ∷ col 1 1 ∷ col 1 2 ∷ col 1 3 ∷ col 1 4 ∷ col 1 5 ∷ col 0 1 ∷ []

pub set_body : Is text.set_body (Update 1 (record { lets = []; body = over 1 by_uid set_body_shown }))
unfolding understood everything
set_body = (refl, (refl, refl))

abbrev pub set_whole_shown : List Term
set_whole_shown = col 1 0 ∷ col 1 0 ∷ col 1 1 ∷ col 1 2 ∷ col 1 3 ∷ col 0 1 ∷ []

pub set_whole : Is text.set_whole (Update 2 (record { lets = []; body = over 3 by_uid set_whole_shown }))
unfolding understood everything
set_whole = (refl, (refl, refl))

-- WHERE id = 1
abbrev pub by_one : List Term
by_one = op2 (Compare Eq Binary) (col 1 0) (lit (Int (pos 1))) ∷ []

abbrev pub set_plan_shown : List Term
set_plan_shown = col 1 0 ∷ col 1 0 ∷ lit Null ∷ col 1 2 ∷ col 0 0 ∷ []

pub set_plan : Is text.set_plan (Update 0 (record { lets = []; body = over 0 by_one set_plan_shown }))
unfolding understood everything
set_plan = (refl, (refl, refl))

-- ---- DELETE: the rowids

abbrev pub dropped_shown : List Term
dropped_shown = col 1 0 ∷ []

pub drop_arrivals : Is text.drop_arrivals (Delete 3 (record { lets = []; body = over 5 [] dropped_shown }))
unfolding understood everything
drop_arrivals = (refl, (refl, refl))

abbrev pub is_over : List Term
is_over = op2 (Compare Ge Binary) (col 1 3) (lit (Int (pos 2))) ∷ []

pub drop_over : Is text.drop_over (Delete 5 (record { lets = []; body = over 9 is_over dropped_shown }))
unfolding understood everything
drop_over = (refl, (refl, refl))

pub drop_arrivals_of : Is text.drop_arrivals_of (Delete 3 (record { lets = []; body = over 5 (by_uid_at 2) dropped_shown }))
unfolding understood everything
drop_arrivals_of = (refl, (refl, refl))

pub drop_rows_of : Is text.drop_rows_of (Delete 5 (record { lets = []; body = over 9 (by_uid_at 1) dropped_shown }))
unfolding understood everything
drop_rows_of = (refl, (refl, refl))

pub drop_print : Is text.drop_print (Delete 2 (record { lets = []; body = over 3 (by_uid_at 1) dropped_shown }))
unfolding understood everything
drop_print = (refl, (refl, refl))

pub drop_item : Is text.drop_item (Delete 1 (record { lets = []; body = over 1 (by_uid_at 1) dropped_shown }))
unfolding understood everything
drop_item = (refl, (refl, refl))

pub drop_targets : Is text.drop_targets (Delete 7 (record { lets = []; body = over 12 [] dropped_shown }))
unfolding understood everything
drop_targets = (refl, (refl, refl))

pub drop_lines : Is text.drop_lines (Delete 6 (record { lets = []; body = over 11 [] dropped_shown }))
unfolding understood everything
drop_lines = (refl, (refl, refl))
