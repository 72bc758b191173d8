-- The queries as commands, by computation.
use Rattle.std.proofs.Common.{codes, ℕ, List, [], ◌∷◌, refl, None, false, pos, negsuc}
use Rattle.sqlite.specs.Collation.TheVariants.{Binary}
use Rattle.sqlite.specs.declared.types.Value.TheVariants.{Int}
use Rattle.sqlite.specs.Listing.{understood}
use Rattle.sqlite.specs.Query.{Query, inner, end}
use Rattle.sqlite.specs.Term.{Term, lit, col, op2}
use Rattle.sqlite_sql.specs.declared.ops.BinaryOp.TheVariants.{Compare}
use Rattle.sqlite_sql.specs.declared.ops.CompareOp.TheVariants.{Eq, Ge, Gt, Le}
use Rattle.sqlite_tied.specs.Compute.{everything}
use Rattle.sqlite_tied.specs.Listing.{count_rows}
use Rattle.sqlite_value.specs.declared.keys.Key.{Key}
use Rattle.sqlite_value.specs.Keys.{ascending}
use Rattle.dr_store_views.specs.Statements as text
use Rattle.dr_store_views.specs.Origins.{line_query, moment_query}
use Rattle.dr_store_reads.proofs.Selects.{Is}
use Rattle.dr_store_lists.proofs.Wholes.{all_lines_order, all_lines_shown, all_targets_order, all_targets_shown}

-- how many rows of a table the conditions hold of
abbrev pub counted : ℕ → List Term → Query
counted tree conditions = record {
  from = inner tree end;
  filter = conditions;
  group = count_rows;
  project = col 1 0 ∷ [];
  distinct = false;
  collations = [];
  order = [];
  limit = lit (Int (negsuc 0));
  offset = lit (Int (pos 0));
}

-- the rows of queue that the conditions hold of, in an order, as many as are wanted
abbrev pub ordered : List Term → List Term → List (Term × Key) → Term → Query
ordered conditions shown order limit = record {
  from = inner 9 end;
  filter = conditions;
  group = None;
  project = shown;
  distinct = false;
  collations = [];
  order = order;
  limit = limit;
  offset = lit (Int (pos 0));
}

pub count_arrivals : Is text.count_arrivals (counted 5 []) (codes "COUNT(*)" ∷ [])
unfolding understood everything
count_arrivals = record { command = refl; listing = refl; plain = (refl, refl) }

-- WHERE dest = ?1 AND state = ?2
abbrev pub at_state : List Term
at_state = op2 (Compare Eq Binary) (col 1 2) (col 0 0) ∷ op2 (Compare Eq Binary) (col 1 3) (col 0 1) ∷ []

pub count_at_state : Is text.count_rows (counted 9 at_state) (codes "COUNT(*)" ∷ [])
unfolding understood everything
count_at_state = record { command = refl; listing = refl; plain = (refl, refl) }

-- WHERE dest = ?1 AND state = 0
abbrev pub waiting : List Term
waiting = op2 (Compare Eq Binary) (col 1 2) (col 0 0) ∷ op2 (Compare Eq Binary) (col 1 3) (lit (Int (pos 0))) ∷ []

abbrev pub first_query : Query
first_query = ordered waiting (col 1 5 ∷ []) ((col 1 5, ascending Binary) ∷ []) (lit (Int (pos 1)))

pub first_moment : Is text.first_moment first_query (codes "due" ∷ [])
unfolding understood everything
first_moment = record { command = refl; listing = refl; plain = (refl, refl) }

abbrev pub entry_shown : List Term
entry_shown = col 1 1 ∷ col 1 2 ∷ col 1 3 ∷ col 1 4 ∷ col 1 5 ∷ col 1 6 ∷ []

abbrev pub names : List (List ℕ)
names = codes "uid" ∷ codes "dest" ∷ codes "state" ∷ codes "tries" ∷ codes "due" ∷ codes "cause" ∷ []

-- WHERE uid = ?1
abbrev pub of_uid : List Term
of_uid = op2 (Compare Eq Binary) (col 1 1) (col 0 0) ∷ []

abbrev pub rows_query : Query
rows_query = ordered of_uid entry_shown ((col 1 2, ascending Binary) ∷ []) (lit (Int (negsuc 0)))

pub rows_of : Is text.rows_of rows_query names
unfolding understood everything
rows_of = record { command = refl; listing = refl; plain = (refl, refl) }

-- WHERE uid = ?1, of arrivals
abbrev pub of_uid_brought : List Term
of_uid_brought = op2 (Compare Eq Binary) (col 1 2) (col 0 0) ∷ []

-- their callers, in order
abbrev pub callers_query : Query
callers_query = record {
  from = inner 5 end;
  filter = of_uid_brought;
  group = None;
  project = col 1 1 ∷ [];
  distinct = false;
  collations = [];
  order = (col 1 1, ascending Binary) ∷ [];
  limit = lit (Int (negsuc 0));
  offset = lit (Int (pos 0));
}

pub callers_of : Is text.callers_of callers_query (codes "caller" ∷ [])
unfolding understood everything
callers_of = record { command = refl; listing = refl; plain = (refl, refl) }

-- WHERE dest = ?1 AND state >= ?2 AND state <= ?3 AND uid > ?4
abbrev pub behind : List Term
behind =
    op2 (Compare Eq Binary) (col 1 2) (col 0 0) ∷ op2 (Compare Ge Binary) (col 1 3) (col 0 1) ∷ op2 (Compare Le Binary) (col 1 3) (col 0 2)
    ∷ op2 (Compare Gt Binary) (col 1 1) (col 0 3) ∷ []

abbrev pub page_query : Query
page_query = ordered behind entry_shown ((col 1 1, ascending Binary) ∷ []) (col 0 4)

pub page : Is text.page page_query names
unfolding understood everything
page = record { command = refl; listing = refl; plain = (refl, refl) }

-- WHERE n > ?1 AND n <= ?2, of the column that has a line's number
abbrev pub in_span : ℕ → List Term
in_span place = op2 (Compare Gt Binary) (col 1 place) (col 0 0) ∷ op2 (Compare Le Binary) (col 1 place) (col 0 1) ∷ []

-- the rows of a table in that span
abbrev pub spanned : ℕ → ℕ → List Term → List (Term × Key) → Query
spanned tree place shown order = record {
  from = inner tree end;
  filter = in_span place;
  group = None;
  project = shown;
  distinct = false;
  collations = [];
  order = order;
  limit = lit (Int (negsuc 0));
  offset = lit (Int (pos 0));
}

pub lines_behind : Is text.lines_behind (spanned 11 0 all_lines_shown all_lines_order) (codes "n" ∷ codes "kind" ∷ codes "caller" ∷ codes "uid" ∷ codes "dest" ∷ codes "outcome" ∷ codes "moment" ∷ codes "class" ∷ codes "syntax" ∷ codes "modality" ∷ codes "station" ∷ codes "length" ∷ codes "sha256" ∷ [])
unfolding understood everything
lines_behind = record { command = refl; listing = refl; plain = (refl, refl) }

pub targets_behind : Is text.targets_behind (spanned 12 1 all_targets_shown all_targets_order) (codes "n" ∷ codes "dest" ∷ [])
unfolding understood everything
targets_behind = record { command = refl; listing = refl; plain = (refl, refl) }

-- ---- where an instance is from

pub line_of : Is text.line_of line_query (codes "rowid" ∷ codes "class" ∷ [])
unfolding understood everything
line_of = record { command = refl; listing = refl; plain = (refl, refl) }

pub moment_of : Is text.moment_of moment_query (codes "moment" ∷ [])
unfolding understood everything
moment_of = record { command = refl; listing = refl; plain = (refl, refl) }
