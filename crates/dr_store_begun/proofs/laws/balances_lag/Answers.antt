use Rattle.dr_store_begun.proofs.Lagging.{beyond_is_wrong, none_keep_nothing, none_make_nothing, stays_right}
use Rattle.dr_store_begun.proofs.laws.balances_lag.Goals as goal

pub returns-clause-lag : goal.returns-clause-lag
returns-clause-lag c = stays_right

pub returns-clause-beyond : goal.returns-clause-beyond
returns-clause-beyond c = beyond_is_wrong

pub returns-clause-none : goal.returns-clause-none
returns-clause-none c = none_make_nothing

pub returns-clause-nothing : goal.returns-clause-nothing
returns-clause-nothing c = none_keep_nothing
