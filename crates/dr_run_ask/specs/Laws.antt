-- Laws of what a node is asked and told: the node's own reader reads it as what is meant.
use Rattle.std.specs.Prelude.{◌≡◌, ◌<◌, ℕ, All, List, None, Some, codes}
use Rattle.std.specs.Borrow.{Bor}
use Rattle.dr_base.specs.Texts.{Text}
use Rattle.dr_run_request.specs.Asking as asked
use Rattle.dr_run_request.specs.declared.route.Route.{Route}
use Rattle.dr_run_request.specs.declared.route.Route.TheVariants as routes
use Rattle.dr_run_request.specs.Forms.{value_in}
use Rattle.dr_run_ask.specs.Calls.{copy_form, dest_form, is_act, method_of, path_of, reason_form}
use Rattle.dr_run_ask.specs.Calls.{row_form, rows_form, uid_form}
use Rattle.dr_run_ask.specs.declared.call.HttpCall.{HttpCall}
use Rattle.dr_run_ask.specs.declared.call.HttpCall.TheVariants as calls

-- it has the path and the method of that route, and is an act where that is one
abbrev pub IsOfRoute : HttpCall → Route → Type 0
IsOfRoute call route =
    (path_of call ≡ asked.path_of route)
    × (method_of call ≡ asked.method_of route)
    × (is_act call ≡ asked.is_act route)

-- each call is of the route of the node that it means, whatever its form
abbrev pub CallsAreRoutes : Type 0
CallsAreRoutes =
    IsOfRoute calls.Status routes.Status
    × IsOfRoute calls.Stop routes.Stop
    × ((form : Bor (List ℕ)) → IsOfRoute (calls.Rows form) routes.Rows)
    × ((form : Bor (List ℕ)) → IsOfRoute (calls.Journal form) routes.Journal)
    × ((form : Bor (List ℕ)) → IsOfRoute (calls.Requeue form) routes.Requeue)
    × ((form : Bor (List ℕ)) → IsOfRoute (calls.GiveUp form) routes.GiveUp)
    × ((form : Bor (List ℕ)) → IsOfRoute (calls.Forget form) routes.Forget)
    × ((form : Bor (List ℕ)) → IsOfRoute (calls.Visit form) routes.Visit)
    × ((form : Bor (List ℕ)) → IsOfRoute (calls.Backup form) routes.Backup)

-- a text is of bytes
abbrev pub AreBytes : Text → Type 0
AreBytes text = All (λ b. b < 256) text

-- the form of these two fields is read so
abbrev pub ReadsTwo : Text → Text → Text → Text → Text → Type 0
ReadsTwo form one first two second =
    (value_in form one ≡ Some first) × (value_in form two ≡ Some second)

-- the node's reader of forms reads in each what was written into it; where all rows to a node are
-- meant, no stage, and where all held ones are, no UID; and no reason where none was given
abbrev pub FormsAreRead : Type 0
FormsAreRead =
    ((uid dest : Text) → AreBytes uid → AreBytes dest
    → ReadsTwo (row_form uid dest) (codes "uid") uid (codes "dest") dest
    × (value_in (row_form uid dest) (codes "reason") ≡ None))
    × ((uid dest reason : Text) → AreBytes uid → AreBytes dest → AreBytes reason
    → ReadsTwo (reason_form uid dest reason) (codes "uid") uid (codes "dest") dest
    × (value_in (reason_form uid dest reason) (codes "reason") ≡ Some reason))
    × ((dest after : Text) → AreBytes dest → AreBytes after
    → ReadsTwo (rows_form dest after) (codes "dest") dest (codes "after") after
    × (value_in (rows_form dest after) (codes "state") ≡ None))
    × ((dest : Text) → AreBytes dest
    → (value_in (dest_form dest) (codes "uid") ≡ None)
    × (value_in (dest_form dest) (codes "dest") ≡ Some dest))
    × ((uid : Text) → AreBytes uid → value_in (uid_form uid) (codes "uid") ≡ Some uid)
    × ((path : Text) → AreBytes path → value_in (copy_form path) (codes "copy") ≡ Some path)
