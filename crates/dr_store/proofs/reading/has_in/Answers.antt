use Rattle.std.proofs.Common.{◌≡◌, Bool}
use Rattle.std.specs.FinMap as map
use Rattle.sqlite.specs.Held.{state}
use Rattle.sqlite.specs.Tree.{Trees}
use Rattle.dr_store_schema.specs.Books.{items_of}
use Rattle.dr_store.proofs.Looks.{looked_shut}
use Rattle.dr_store.proofs.reading.has_in.Goals as goal

pub returns-then-not-may_be_used-clause-looked : goal.returns-then-not-may_be_used-clause-looked
returns-then-not-may_be_used-clause-looked g c n part =
    looked_shut n part (state g.S.Store c.args.conn.now) (λ base (there : Bool). there ≡ map.contains_key (items_of base) c.args.uid.now)
