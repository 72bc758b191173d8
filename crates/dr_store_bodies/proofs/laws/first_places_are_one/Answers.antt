use Rattle.std.proofs.Common.{arith}
use Rattle.dr_store_bodies.proofs.laws.first_places_are_one.Goals as goal

pub returns : goal.returns
returns c extents size index at other place here first there also =
    omega (arith, first other place there, also index at here)
