use Rattle.std.proofs.Common.{rules}
use Rattle.std.proofs.lemmas.Fn.{always_returns_same}
use Rattle.dr_ledger_views.proofs.Searching.{searched}
use Rattle.dr_ledger_views.proofs.table.place.Goals as goal

pub returns-clause-found : goal.returns-clause-found
returns-clause-found g c sorted =
    let facts = c.binary_search_by.ensures in
    let by_key = facts.position (λ e. g.K.Ord.cmp e.0 c.args.key.now) (always_returns_same _ _ _ (λ a r f called. (search rules, search rules))) in
    searched g.met.K.Ord.total c.args.key.now c.args.entries.now sorted _ facts.bound by_key
