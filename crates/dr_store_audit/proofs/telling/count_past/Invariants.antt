use Rattle.std.proofs.Common.{◌≢◌, ◌≤◌, ◌<◌, ℕ, slice_index_or, take}
use Rattle.dr_store_lists.specs.declared.listing.JournalRow.{JournalRow}
use Rattle.dr_store_lists.specs.declared.listing.JournalRow.TheVariants as note
use Rattle.dr_store_audit.specs.Telling.{EndsAtAdoption}
use Rattle.dr_store_audit.proofs.telling.count_past.Given as goal

abbrev pub invariant-loop-i : goal.invariant-loop-i
invariant-loop-i l = (l.end ≤ l.i) × EndsAtAdoption (take l.end l.notes)
    × ((k : ℕ) (d : ℕ × JournalRow) → l.end ≤ k → k < l.i → (slice_index_or l.notes k d).1 ≢ note.Adoption)
