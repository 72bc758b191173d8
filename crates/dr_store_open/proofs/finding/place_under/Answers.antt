use Rattle.std.proofs.Common.{◌≡◌, rules}
use Rattle.dr_store_sealed.specs.InTables.{seal_said}
use Rattle.dr_store_calls.proofs.Owners.{never}
use Rattle.dr_store_open.proofs.Wholly.{under_seal}
use Rattle.dr_store_open.proofs.finding.place_under.Goals as goal

pub returns-then-not-counts_none : goal.returns-then-not-counts_none
returns-then-not-counts_none c text marked none =
    never c.counts_none.result (c.counts_none.ensures text) c.if-not-counts_none.true none

pub returns : goal.returns
returns c text =
    under_seal c.args.mark.now ((seal_said c.args.seal.now).count ≡ 0) c.place_in.result
    ((c.counts_none.ensures text).0 c.if-not-counts_none.false) c.place_in.ensures
