use Rattle.std.proofs.Common.{inl, inr}
use Rattle.dr_store_open.proofs.laws.a_crash_leaves_the_old_or_the_new.Goals as goal

pub returns : goal.returns
returns g c left is_open db may = elim (left db may) [
  | inl before ↦ inl (g.met.S.Store.settled c.args.before.now.store db is_open before)
  | inr committed ↦ inr committed
]
