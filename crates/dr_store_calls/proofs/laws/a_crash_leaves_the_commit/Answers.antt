use Rattle.dr_store_calls.proofs.laws.a_crash_leaves_the_commit.Goals as goal

pub returns : goal.returns
returns g c is_open db left = g.met.S.Store.settled c.args._conn.now.store db is_open left
