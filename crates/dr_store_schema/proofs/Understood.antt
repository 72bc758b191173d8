-- What the texts mean, by computation.
use Rattle.std.proofs.Common.{◌≡◌, Ok, refl}
use Rattle.sqlite.specs.Compile.{table_defined_by}
use Rattle.sqlite.specs.Given.{IsPlain}
use Rattle.sqlite.specs.Listing.{understood}
use Rattle.sqlite_tied.specs.Compute.{everything}
use Rattle.dr_store_schema.specs.Laws.{StatementsAreUnderstood, TextsMakeTables}
use Rattle.dr_store_schema.specs.Statements as text
use Rattle.dr_store_schema.specs.Tables as table
use Rattle.dr_store_schema.specs.Tables.{tables}

site_made : table_defined_by text.create_site ≡ Ok table.site
unfolding understood everything
site_made = refl

item_made : table_defined_by text.create_item ≡ Ok table.item
unfolding understood everything
item_made = refl

print_made : table_defined_by text.create_print ≡ Ok table.print
unfolding understood everything
print_made = refl

arrival_made : table_defined_by text.create_arrival ≡ Ok table.arrival
unfolding understood everything
arrival_made = refl

kept_made : table_defined_by text.create_kept ≡ Ok table.kept
unfolding understood everything
kept_made = refl

queue_made : table_defined_by text.create_queue ≡ Ok table.queue
unfolding understood everything
queue_made = refl

journal_made : table_defined_by text.create_journal ≡ Ok table.journal
unfolding understood everything
journal_made = refl

target_made : table_defined_by text.create_target ≡ Ok table.target
unfolding understood everything
target_made = refl

pub texts_make_tables : TextsMakeTables
texts_make_tables = record {
  site = site_made;
  item = item_made;
  print = print_made;
  arrival = arrival_made;
  kept = kept_made;
  queue = queue_made;
  journal = journal_made;
  target = target_made;
}

pub insert_item_plain : IsPlain (understood tables text.insert_item)
unfolding understood everything
insert_item_plain = (refl, refl)

pub insert_print_plain : IsPlain (understood tables text.insert_print)
unfolding understood everything
insert_print_plain = (refl, refl)

pub insert_arrival_plain : IsPlain (understood tables text.insert_arrival)
unfolding understood everything
insert_arrival_plain = (refl, refl)

pub insert_kept_plain : IsPlain (understood tables text.insert_kept)
unfolding understood everything
insert_kept_plain = (refl, refl)

pub insert_row_plain : IsPlain (understood tables text.insert_row)
unfolding understood everything
insert_row_plain = (refl, refl)

pub insert_arrived_plain : IsPlain (understood tables text.insert_arrived)
unfolding understood everything
insert_arrived_plain = (refl, refl)

pub insert_target_plain : IsPlain (understood tables text.insert_target)
unfolding understood everything
insert_target_plain = (refl, refl)

pub set_row_plain : IsPlain (understood tables text.set_row)
unfolding understood everything
set_row_plain = (refl, refl)

pub insert_settled_plain : IsPlain (understood tables text.insert_settled)
unfolding understood everything
insert_settled_plain = (refl, refl)

pub insert_requeued_plain : IsPlain (understood tables text.insert_requeued)
unfolding understood everything
insert_requeued_plain = (refl, refl)

pub insert_dropped_plain : IsPlain (understood tables text.insert_dropped)
unfolding understood everything
insert_dropped_plain = (refl, refl)

pub set_body_plain : IsPlain (understood tables text.set_body)
unfolding understood everything
set_body_plain = (refl, refl)

pub set_whole_plain : IsPlain (understood tables text.set_whole)
unfolding understood everything
set_whole_plain = (refl, refl)

pub drop_arrivals_plain : IsPlain (understood tables text.drop_arrivals)
unfolding understood everything
drop_arrivals_plain = (refl, refl)

pub drop_over_plain : IsPlain (understood tables text.drop_over)
unfolding understood everything
drop_over_plain = (refl, refl)

pub insert_adopted_plain : IsPlain (understood tables text.insert_adopted)
unfolding understood everything
insert_adopted_plain = (refl, refl)

pub drop_arrivals_of_plain : IsPlain (understood tables text.drop_arrivals_of)
unfolding understood everything
drop_arrivals_of_plain = (refl, refl)

pub drop_rows_of_plain : IsPlain (understood tables text.drop_rows_of)
unfolding understood everything
drop_rows_of_plain = (refl, refl)

pub drop_print_plain : IsPlain (understood tables text.drop_print)
unfolding understood everything
drop_print_plain = (refl, refl)

pub drop_item_plain : IsPlain (understood tables text.drop_item)
unfolding understood everything
drop_item_plain = (refl, refl)

pub insert_forgotten_plain : IsPlain (understood tables text.insert_forgotten)
unfolding understood everything
insert_forgotten_plain = (refl, refl)

pub insert_site_plain : IsPlain (understood tables text.insert_site)
unfolding understood everything
insert_site_plain = (refl, refl)

pub set_plan_plain : IsPlain (understood tables text.set_plan)
unfolding understood everything
set_plan_plain = (refl, refl)

pub drop_targets_plain : IsPlain (understood tables text.drop_targets)
unfolding understood everything
drop_targets_plain = (refl, refl)

pub drop_lines_plain : IsPlain (understood tables text.drop_lines)
unfolding understood everything
drop_lines_plain = (refl, refl)

pub the_site_plain : IsPlain (understood tables text.the_site)
unfolding understood everything
the_site_plain = (refl, refl)

pub find_key_plain : IsPlain (understood tables text.find_key)
unfolding understood everything
find_key_plain = (refl, refl)

pub find_item_plain : IsPlain (understood tables text.find_item)
unfolding understood everything
find_item_plain = (refl, refl)

pub find_print_plain : IsPlain (understood tables text.find_print)
unfolding understood everything
find_print_plain = (refl, refl)

pub find_arrival_plain : IsPlain (understood tables text.find_arrival)
unfolding understood everything
find_arrival_plain = (refl, refl)

pub find_kept_plain : IsPlain (understood tables text.find_kept)
unfolding understood everything
find_kept_plain = (refl, refl)

pub find_row_plain : IsPlain (understood tables text.find_row)
unfolding understood everything
find_row_plain = (refl, refl)

pub find_open_plain : IsPlain (understood tables text.find_open)
unfolding understood everything
find_open_plain = (refl, refl)

pub find_any_open_plain : IsPlain (understood tables text.find_any_open)
unfolding understood everything
find_any_open_plain = (refl, refl)

pub find_next_plain : IsPlain (understood tables text.find_next)
unfolding understood everything
find_next_plain = (refl, refl)

pub all_items_plain : IsPlain (understood tables text.all_items)
unfolding understood everything
all_items_plain = (refl, refl)

pub all_prints_plain : IsPlain (understood tables text.all_prints)
unfolding understood everything
all_prints_plain = (refl, refl)

pub all_arrivals_plain : IsPlain (understood tables text.all_arrivals)
unfolding understood everything
all_arrivals_plain = (refl, refl)

pub all_kept_plain : IsPlain (understood tables text.all_kept)
unfolding understood everything
all_kept_plain = (refl, refl)

pub all_rows_plain : IsPlain (understood tables text.all_rows)
unfolding understood everything
all_rows_plain = (refl, refl)

pub all_lines_plain : IsPlain (understood tables text.all_lines)
unfolding understood everything
all_lines_plain = (refl, refl)

pub all_targets_plain : IsPlain (understood tables text.all_targets)
unfolding understood everything
all_targets_plain = (refl, refl)

pub item_rowids_plain : IsPlain (understood tables text.item_rowids)
unfolding understood everything
item_rowids_plain = (refl, refl)

pub print_rowids_plain : IsPlain (understood tables text.print_rowids)
unfolding understood everything
print_rowids_plain = (refl, refl)

pub arrival_rowids_plain : IsPlain (understood tables text.arrival_rowids)
unfolding understood everything
arrival_rowids_plain = (refl, refl)

pub journal_rowids_plain : IsPlain (understood tables text.journal_rowids)
unfolding understood everything
journal_rowids_plain = (refl, refl)

pub queue_counts_plain : IsPlain (understood tables text.queue_counts)
unfolding understood everything
queue_counts_plain = (refl, refl)

pub queue_rowids_plain : IsPlain (understood tables text.queue_rowids)
unfolding understood everything
queue_rowids_plain = (refl, refl)

pub statements_are_understood : StatementsAreUnderstood
statements_are_understood = record {
  insert_item = insert_item_plain;
  insert_print = insert_print_plain;
  insert_arrival = insert_arrival_plain;
  insert_kept = insert_kept_plain;
  insert_row = insert_row_plain;
  insert_arrived = insert_arrived_plain;
  insert_target = insert_target_plain;
  set_row = set_row_plain;
  insert_settled = insert_settled_plain;
  insert_requeued = insert_requeued_plain;
  insert_dropped = insert_dropped_plain;
  set_body = set_body_plain;
  set_whole = set_whole_plain;
  drop_arrivals = drop_arrivals_plain;
  drop_over = drop_over_plain;
  insert_adopted = insert_adopted_plain;
  drop_arrivals_of = drop_arrivals_of_plain;
  drop_rows_of = drop_rows_of_plain;
  drop_print = drop_print_plain;
  drop_item = drop_item_plain;
  insert_forgotten = insert_forgotten_plain;
  insert_site = insert_site_plain;
  set_plan = set_plan_plain;
  drop_targets = drop_targets_plain;
  drop_lines = drop_lines_plain;
  the_site = the_site_plain;
  find_key = find_key_plain;
  find_item = find_item_plain;
  find_print = find_print_plain;
  find_arrival = find_arrival_plain;
  find_kept = find_kept_plain;
  find_row = find_row_plain;
  find_open = find_open_plain;
  find_any_open = find_any_open_plain;
  find_next = find_next_plain;
  all_items = all_items_plain;
  all_prints = all_prints_plain;
  all_arrivals = all_arrivals_plain;
  all_kept = all_kept_plain;
  all_rows = all_rows_plain;
  all_lines = all_lines_plain;
  all_targets = all_targets_plain;
  item_rowids = item_rowids_plain;
  print_rowids = print_rowids_plain;
  arrival_rowids = arrival_rowids_plain;
  journal_rowids = journal_rowids_plain;
  queue_counts = queue_counts_plain;
  queue_rowids = queue_rowids_plain;
}
