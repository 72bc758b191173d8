use Rattle.std.proofs.Common.{take}
use Rattle.dr_store.specs.Listing.{AreSized}
use Rattle.dr_store.proofs.listing.with_sizes.Given as goal

abbrev pub invariant-loop-uid : goal.invariant-loop-uid
invariant-loop-uid l = AreSized l.prints (take l.uid-index l.kept) l.all
