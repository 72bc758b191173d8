use Rattle.std.proofs.Common.{◌≡◌, Ok, false, take, ℕ}
use Rattle.sqlite.specs.Held.{state}
use Rattle.dr_site.specs.Parts.{Part}
use Rattle.dr_store_schema.specs.Books.{rows_of}
use Rattle.dr_store_calls.specs.Calling.{Looked}
use Rattle.dr_store_calls.specs.Knowing.{chosen}
use Rattle.dr_store_calls.proofs.receiving.chosen_from.Given as goal

abbrev pub invariant-loop-dest : goal.invariant-loop-dest
invariant-loop-dest g l = ((n : ℕ) (part : Part) → Looked n part (Ok l.dests) (state g.S.Store l.fn.conn) (state g.S.Store l.conn) (λ base dests. dests ≡ chosen l.dropped (rows_of base) l.uid (take l.dest-index l.to)))
    × (l.fn.conn.in_transaction ≡ false → l.conn.in_transaction ≡ false)
