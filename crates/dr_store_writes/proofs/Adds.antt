-- Each INSERT is a row more.
use Rattle.std.proofs.Common.{inl, inr, ℕ, ℤ, pos, List, [], ◌∷◌, Option, Ok, Err, Result, OnOk, refl, arith}
use Rattle.sqlite.specs.declared.error.Error.{Error}
use Rattle.sqlite.specs.declared.types.Value.TheVariants.{Blob, Int, Text}
use Rattle.sqlite.specs.Edit.{next_rowid}
use Rattle.sqlite.specs.Order.{Row}
use Rattle.sqlite.specs.State.{State, ExecutesInside}
use Rattle.dr_base.specs.Texts as texts
use Rattle.dr_ledger.specs.declared.item.Instance.{Instance}
use Rattle.dr_ledger.specs.declared.item.Outcome.{Outcome}
use Rattle.dr_ledger.specs.Pairs.{Pair}
use Rattle.dr_route.specs.declared.key.Key.{Key}
use Rattle.dr_store_schema.specs.Cells.{moment_value, outcome_value}
use Rattle.dr_store_schema.specs.Ledgers.{IsCounted, IsLedger}
use Rattle.dr_store_schema.specs.Statements as text
use Rattle.dr_store_schema.specs.Tables as table
use Rattle.dr_store_writes.specs.Effects.{AddsRow, AddsCells, item_row, print_cells, arrival_cells, kept_cells, new_cells, target_cells, arrived_line, dropped_line, settled_line, requeued_line, adopted_line, forgotten_line, instance_cells, site_row}
use Rattle.dr_store_writes.proofs.Casts.{cast_null, cast_int, cast_moment, cast_outcome}
use Rattle.dr_store_writes.proofs.Commands as command
use Rattle.dr_store_writes.proofs.Inserted.{adds}

under_its_id : (tree : ℕ) (id : ℤ) (cells : Row) (old new : State) (sql : List ℕ) (params : Row) (r : Result ℕ Error)
    → ((count : ℕ) → ExecutesInside 0 sql params old new (Ok count) → AddsRow tree (Int id ∷ cells) old new) → ExecutesInside 0 sql params old new r → OnOk r (AddsCells tree cells old new)
under_its_id tree id cells old new sql params (Ok count) f h = record { id = id; adds = f count h }
under_its_id tree id cells old new sql params (Err e) f h = tt

under_its_number : (tree : ℕ) (row : Row) (old new : State) (sql : List ℕ) (params : Row) (r : Result ℕ Error)
    → ((count : ℕ) → ExecutesInside 0 sql params old new (Ok count) → AddsRow tree row old new) → ExecutesInside 0 sql params old new r → OnOk r (AddsRow tree row old new)
under_its_number tree row old new sql params (Ok count) f h = f count h
under_its_number tree row old new sql params (Err e) f h = tt

pub item_added : (old new : State) (n : ℕ) (uid : texts.Text) (key : Key) (body : List ℕ) (r : Result ℕ Error) → IsLedger old.now → ExecutesInside 0 text.insert_item (item_row n uid key body) old new r → OnOk r (AddsRow 1 (item_row n uid key body) old new)
item_added old new n uid key body r has = under_its_number 1 (item_row n uid key body) old new text.insert_item (item_row n uid key body) r (λ count h.
    adds old new text.insert_item (item_row n uid key body) 1 command.item_terms 7 table.item_table (item_row n uid key body) count has command.insert_item.0 command.insert_item.1 refl (rw (cast_int (pos n))) refl refl (inr refl) (inl (omega arith)) (inl (omega arith)) (inl (omega arith)) (λ e. absurd (omega (arith, e))) h)

pub print_added : (old new : State) (uid : texts.Text) (size : ℕ) (digest : List ℕ) (whole : ℕ) (r : Result ℕ Error) → IsLedger old.now → ExecutesInside 0 text.insert_print ((print_cells uid size digest whole)) old new r → OnOk r (AddsCells 3 (print_cells uid size digest whole) old new)
print_added old new uid size digest whole r has = under_its_id 3 (next_rowid (old.now.trees 3)) (print_cells uid size digest whole) old new text.insert_print ((print_cells uid size digest whole)) r (λ count h.
    adds old new text.insert_print ((print_cells uid size digest whole)) 2 command.print_terms 5 table.print_table (Int (next_rowid (old.now.trees 3)) ∷ print_cells uid size digest whole) count has command.insert_print.0 command.insert_print.1 refl (rw (cast_null, cast_int (pos size), cast_int (pos whole))) refl refl (inl (omega arith)) (inr refl) (inl (omega arith)) (inl (omega arith)) (λ e. absurd (omega (arith, e))) h)

pub arrival_added : (old new : State) (at : Pair) (r : Result ℕ Error) → IsLedger old.now → ExecutesInside 0 text.insert_arrival (arrival_cells at) old new r → OnOk r (AddsCells 5 (arrival_cells at) old new)
arrival_added old new at r has = under_its_id 5 (next_rowid (old.now.trees 5)) (arrival_cells at) old new text.insert_arrival (arrival_cells at) r (λ count h.
    adds old new text.insert_arrival (arrival_cells at) 3 command.arrival_terms 3 table.arrival_table (Int (next_rowid (old.now.trees 5)) ∷ arrival_cells at) count has command.insert_arrival.0 command.insert_arrival.1 refl (rw (cast_null)) refl refl (inl (omega arith)) (inl (omega arith)) (inr refl) (inl (omega arith)) (λ e. absurd (omega (arith, e))) h)

pub kept_added : (old new : State) (uid : texts.Text) (r : Result ℕ Error) → IsLedger old.now → ExecutesInside 0 text.insert_kept (kept_cells uid) old new r → OnOk r (AddsCells 7 (kept_cells uid) old new)
kept_added old new uid r has = under_its_id 7 (next_rowid (old.now.trees 7)) (kept_cells uid) old new text.insert_kept (kept_cells uid) r (λ count h.
    adds old new text.insert_kept (kept_cells uid) 4 command.kept_terms 2 table.kept_table (Int (next_rowid (old.now.trees 7)) ∷ kept_cells uid) count has command.insert_kept.0 command.insert_kept.1 refl (rw (cast_null)) refl refl (inl (omega arith)) (inl (omega arith)) (inl (omega arith)) (inl (omega arith)) (λ e. absurd (omega (arith, e))) h)

new_counted : (id : ℤ) (at : Pair) → IsCounted (Int id ∷ new_cells at)
new_counted id at = record { state = 0; due = 0; state_is = refl; due_is = refl; known = omega arith; fits = omega arith }

pub row_added : (old new : State) (at : Pair) (r : Result ℕ Error) → IsLedger old.now → ExecutesInside 0 text.insert_row ((Text at.0 ∷ Text at.1 ∷ [])) old new r → OnOk r (AddsCells 9 (new_cells at) old new)
row_added old new at r has = under_its_id 9 (next_rowid (old.now.trees 9)) (new_cells at) old new text.insert_row ((Text at.0 ∷ Text at.1 ∷ [])) r (λ count h.
    adds old new text.insert_row ((Text at.0 ∷ Text at.1 ∷ [])) 5 command.row_terms 7 table.queue_table (Int (next_rowid (old.now.trees 9)) ∷ new_cells at) count has command.insert_row.0 command.insert_row.1 refl (rw (cast_null, cast_int (pos 0))) refl refl (inl (omega arith)) (inl (omega arith)) (inl (omega arith)) (inr refl) (λ _. new_counted (next_rowid (old.now.trees 9)) at) h)

pub target_added : (old new : State) (n : ℕ) (dest : texts.Text) (r : Result ℕ Error) → IsLedger old.now → ExecutesInside 0 text.insert_target (target_cells n dest) old new r → OnOk r (AddsCells 12 (target_cells n dest) old new)
target_added old new n dest r has = under_its_id 12 (next_rowid (old.now.trees 12)) (target_cells n dest) old new text.insert_target (target_cells n dest) r (λ count h.
    adds old new text.insert_target (target_cells n dest) 7 command.target_terms 3 table.target_table (Int (next_rowid (old.now.trees 12)) ∷ target_cells n dest) count has command.insert_target.0 command.insert_target.1 refl (rw (cast_null, cast_int (pos n))) refl refl (inl (omega arith)) (inl (omega arith)) (inl (omega arith)) (inl (omega arith)) (λ e. absurd (omega (arith, e))) h)

abbrev pub arrived_params : ℕ → Option ℕ → ℕ → texts.Text → Instance → Row
arrived_params n moment kind caller item = Int (pos n) ∷ Int (pos kind) ∷ Text caller ∷ Text item.uid ∷ moment_value moment ∷ instance_cells item

pub arrived_added : (old new : State) (n : ℕ) (moment : Option ℕ) (kind : ℕ) (caller : texts.Text) (item : Instance) (r : Result ℕ Error) → IsLedger old.now → ExecutesInside 0 text.insert_arrived (arrived_params n moment kind caller item) old new r → OnOk r (AddsRow 11 (arrived_line n moment kind caller item) old new)
arrived_added old new n moment kind caller item r has = under_its_number 11 (arrived_line n moment kind caller item) old new text.insert_arrived (arrived_params n moment kind caller item) r (λ count h.
    adds old new text.insert_arrived (arrived_params n moment kind caller item) 6 command.arrived_terms 14 table.journal_table (arrived_line n moment kind caller item) count has command.insert_arrived.0 command.insert_arrived.1 refl (rw (cast_null, cast_int (pos n), cast_int (pos kind), cast_int (pos item.size), cast_moment moment)) refl refl (inl (omega arith)) (inl (omega arith)) (inl (omega arith)) (inl (omega arith)) (λ e. absurd (omega (arith, e))) h)

pub settled_added : (old new : State) (n : ℕ) (uid dest : texts.Text) (what : Outcome) (now : ℕ) (r : Result ℕ Error) → IsLedger old.now → ExecutesInside 0 text.insert_settled (Int (pos n) ∷ Text uid ∷ Text dest ∷ outcome_value what ∷ Int (pos now) ∷ []) old new r → OnOk r (AddsRow 11 (settled_line n uid dest what now) old new)
settled_added old new n uid dest what now r has = under_its_number 11 (settled_line n uid dest what now) old new text.insert_settled (Int (pos n) ∷ Text uid ∷ Text dest ∷ outcome_value what ∷ Int (pos now) ∷ []) r (λ count h.
    adds old new text.insert_settled (Int (pos n) ∷ Text uid ∷ Text dest ∷ outcome_value what ∷ Int (pos now) ∷ []) 6 command.settled_terms 14 table.journal_table (settled_line n uid dest what now) count has command.insert_settled.0 command.insert_settled.1 refl (rw (cast_null, cast_int (pos n), cast_int (pos 2), cast_int (pos now), cast_outcome what)) refl refl (inl (omega arith)) (inl (omega arith)) (inl (omega arith)) (inl (omega arith)) (λ e. absurd (omega (arith, e))) h)

pub requeued_added : (old new : State) (n : ℕ) (moment : Option ℕ) (uid dest : texts.Text) (r : Result ℕ Error) → IsLedger old.now → ExecutesInside 0 text.insert_requeued (Int (pos n) ∷ Text uid ∷ Text dest ∷ moment_value moment ∷ []) old new r → OnOk r (AddsRow 11 (requeued_line n moment uid dest) old new)
requeued_added old new n moment uid dest r has = under_its_number 11 (requeued_line n moment uid dest) old new text.insert_requeued (Int (pos n) ∷ Text uid ∷ Text dest ∷ moment_value moment ∷ []) r (λ count h.
    adds old new text.insert_requeued (Int (pos n) ∷ Text uid ∷ Text dest ∷ moment_value moment ∷ []) 6 command.requeued_terms 14 table.journal_table (requeued_line n moment uid dest) count has command.insert_requeued.0 command.insert_requeued.1 refl (rw (cast_null, cast_int (pos n), cast_int (pos 3), cast_moment moment)) refl refl (inl (omega arith)) (inl (omega arith)) (inl (omega arith)) (inl (omega arith)) (λ e. absurd (omega (arith, e))) h)

pub dropped_added : (old new : State) (n : ℕ) (uid dest : texts.Text) (now : ℕ) (r : Result ℕ Error) → IsLedger old.now → ExecutesInside 0 text.insert_dropped (Int (pos n) ∷ Text uid ∷ Text dest ∷ Int (pos now) ∷ []) old new r → OnOk r (AddsRow 11 (dropped_line n uid dest now) old new)
dropped_added old new n uid dest now r has = under_its_number 11 (dropped_line n uid dest now) old new text.insert_dropped (Int (pos n) ∷ Text uid ∷ Text dest ∷ Int (pos now) ∷ []) r (λ count h.
    adds old new text.insert_dropped (Int (pos n) ∷ Text uid ∷ Text dest ∷ Int (pos now) ∷ []) 6 command.dropped_terms 14 table.journal_table (dropped_line n uid dest now) count has command.insert_dropped.0 command.insert_dropped.1 refl (rw (cast_null, cast_int (pos n), cast_int (pos 6), cast_int (pos now))) refl refl (inl (omega arith)) (inl (omega arith)) (inl (omega arith)) (inl (omega arith)) (λ e. absurd (omega (arith, e))) h)

pub adopted_added : (old new : State) (n : ℕ) (moment : Option ℕ) (r : Result ℕ Error) → IsLedger old.now → ExecutesInside 0 text.insert_adopted (Int (pos n) ∷ moment_value moment ∷ []) old new r → OnOk r (AddsRow 11 (adopted_line n moment) old new)
adopted_added old new n moment r has = under_its_number 11 (adopted_line n moment) old new text.insert_adopted (Int (pos n) ∷ moment_value moment ∷ []) r (λ count h.
    adds old new text.insert_adopted (Int (pos n) ∷ moment_value moment ∷ []) 6 command.adopted_terms 14 table.journal_table (adopted_line n moment) count has command.insert_adopted.0 command.insert_adopted.1 refl (rw (cast_null, cast_int (pos n), cast_int (pos 4), cast_moment moment)) refl refl (inl (omega arith)) (inl (omega arith)) (inl (omega arith)) (inl (omega arith)) (λ e. absurd (omega (arith, e))) h)

pub forgotten_added : (old new : State) (n : ℕ) (moment : Option ℕ) (uid : texts.Text) (r : Result ℕ Error) → IsLedger old.now → ExecutesInside 0 text.insert_forgotten (Int (pos n) ∷ Text uid ∷ moment_value moment ∷ []) old new r → OnOk r (AddsRow 11 (forgotten_line n moment uid) old new)
forgotten_added old new n moment uid r has = under_its_number 11 (forgotten_line n moment uid) old new text.insert_forgotten (Int (pos n) ∷ Text uid ∷ moment_value moment ∷ []) r (λ count h.
    adds old new text.insert_forgotten (Int (pos n) ∷ Text uid ∷ moment_value moment ∷ []) 6 command.forgotten_terms 14 table.journal_table (forgotten_line n moment uid) count has command.insert_forgotten.0 command.insert_forgotten.1 refl (rw (cast_null, cast_int (pos n), cast_int (pos 5), cast_moment moment)) refl refl (inl (omega arith)) (inl (omega arith)) (inl (omega arith)) (inl (omega arith)) (λ e. absurd (omega (arith, e))) h)

pub site_added : (old new : State) (node : texts.Text) (plan : List ℕ) (r : Result ℕ Error) → IsLedger old.now → ExecutesInside 0 text.insert_site (Text node ∷ Blob plan ∷ []) old new r → OnOk r (AddsRow 0 (site_row node plan) old new)
site_added old new node plan r has = under_its_number 0 (site_row node plan) old new text.insert_site (Text node ∷ Blob plan ∷ []) r (λ count h.
    adds old new text.insert_site (Text node ∷ Blob plan ∷ []) 0 command.site_terms 4 table.site_table (site_row node plan) count has command.insert_site.0 command.insert_site.1 refl (rw (cast_null, cast_int (pos 1))) refl refl (inl (omega arith)) (inl (omega arith)) (inl (omega arith)) (inl (omega arith)) (λ e. absurd (omega (arith, e))) h)
