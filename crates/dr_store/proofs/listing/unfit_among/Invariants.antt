use Rattle.std.proofs.Common.{All, take}
use Rattle.dr_store.specs.Listing.{FitsAmong}
use Rattle.dr_store.proofs.listing.unfit_among.Given as goal

abbrev pub invariant-loop-row : goal.invariant-loop-row
invariant-loop-row l = All (FitsAmong l.next.plan l.name l.keys) (take l.row-index l.rows)
