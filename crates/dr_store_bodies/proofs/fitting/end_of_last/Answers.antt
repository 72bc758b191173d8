use Rattle.std.proofs.Common.{sym}
use Rattle.dr_store_bodies.proofs.GapLemmas.{ends_last}
use Rattle.dr_store_bodies.proofs.fitting.end_of_last.Goals as goal

pub returns-in-Some-clause-within : goal.returns-in-Some-clause-within
returns-in-Some-clause-within c =
    ends_last c.args.extents.now c.in-Some.extent.now c.requires.apart (sym c.in-Some.ensures.value)
