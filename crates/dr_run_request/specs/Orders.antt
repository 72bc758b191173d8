-- What a node is told to do by the form of a request.
use Rattle.std.specs.Prelude.{◌≡◌, Option, None, Some, codes}
use Rattle.dr_base.specs.Texts.{Text}
use Rattle.dr_run_request.specs.Forms.{NamesRow, value_in}
use Rattle.dr_run_request.specs.declared.order.Order.{Order}
use Rattle.dr_run_request.specs.declared.order.Order.TheVariants as order
use Rattle.dr_run_request.specs.declared.route.Route.{Route}
use Rattle.dr_run_request.specs.declared.route.Route.TheVariants as route

-- the form tells it, asked at that route; without a UID all held rows to a node are meant
abbrev pub IsAsked : Order → Route → Text → Type 0
IsAsked (order.Requeue row) asked form = (asked ≡ route.Requeue) × NamesRow form row
IsAsked (order.RequeueAll dest) asked form =
    (asked ≡ route.Requeue)
    × (value_in form (codes "uid") ≡ None)
    × (value_in form (codes "dest") ≡ Some dest)
IsAsked (order.GiveUp row) asked form = (asked ≡ route.GiveUp) × NamesRow form row
IsAsked (order.Forget uid) asked form =
    (asked ≡ route.Forget) × (value_in form (codes "uid") ≡ Some uid)
IsAsked (order.Visit dest) asked form =
    (asked ≡ route.Visit) × (value_in form (codes "dest") ≡ Some dest)
