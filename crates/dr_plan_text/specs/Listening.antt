-- What the fields of a node say of where it listens.
use Rattle.std.specs.Prelude.{◌≡◌, Bool, true, false, Option, Some, None, codes}
use Rattle.toml.specs.Data.{Data, boolean, Members, get_member}
use Rattle.dr_plan_model.specs.Formed.{IsAddress}
use Rattle.dr_plan_model.specs.declared.listens.Listens.{Listens}
use Rattle.dr_plan_model.specs.declared.listens.Listens.TheVariants.{Nowhere, At}
use Rattle.dr_plan_text.specs.Fields.{SaysFlag, SaysFormed, SaysSome, Given, GivenOr}

-- the node only calls: `listens = false`
abbrev pub CallsOnly : Members → Type 0
CallsOnly fields = get_member (codes "listens") fields ≡ Some (boolean false)

-- that a node listens goes without saying; `listens = true` says it too, where it may be said
abbrev pub SaysListens : Bool → Option Data → Type 0
SaysListens false value = value ≡ None
SaysListens true value = GivenOr true SaysFlag value true

-- Where a node listens: nowhere, and then neither an address nor `bind` is given; or at an address,
-- which has to be given, and bound to another one where that is given. The first argument is
-- whether `listens = true` may be said.
abbrev pub IsListens : Bool → Members → Listens → Type 0
IsListens may_say fields Nowhere =
    CallsOnly fields
    × (get_member (codes "address") fields ≡ None)
    × (get_member (codes "bind") fields ≡ None)
IsListens may_say fields (At address bind) =
    SaysListens may_say (get_member (codes "listens") fields)
    × Given (SaysFormed IsAddress) (get_member (codes "address") fields) address
    × GivenOr None (SaysSome (SaysFormed IsAddress)) (get_member (codes "bind") fields) bind
