-- What a node that runs is asked and told, and the bytes of the requests.
use Rattle.std.specs.Prelude.{ℕ, Bool, List, [], ◌∷◌, ◌++◌, codes, decimal}
use Rattle.std.specs.Prelude.{length}
use Rattle.std.specs.Prelude.{Option, None, Some, option_map, if◌then◌else◌}
use Rattle.form_urlencoded.specs.Form.{extend_pairs}
use Rattle.http1.specs.Fields.{Header}
use Rattle.http1.specs.Head.{request_text}
use Rattle.dr_base.specs.Texts.{Text}
use Rattle.dr_run_request.specs.Asking as asked
use Rattle.dr_run_request.specs.declared.route.Route.{Route}
use Rattle.dr_run_request.specs.declared.route.Route.TheVariants as routes
use Rattle.dr_run_ask.specs.declared.call.HttpCall.{HttpCall}
use Rattle.dr_run_ask.specs.declared.call.HttpCall.TheVariants.{Status, Rows, Journal, Requeue}
use Rattle.dr_run_ask.specs.declared.call.HttpCall.TheVariants.{GiveUp, Forget}
use Rattle.dr_run_ask.specs.declared.call.HttpCall.TheVariants.{Visit, Backup, Stop}

-- what it means at the node
abbrev pub route_of : HttpCall → Route
route_of Status = routes.Status
route_of (Rows form) = routes.Rows
route_of (Journal form) = routes.Journal
route_of (Requeue form) = routes.Requeue
route_of (GiveUp form) = routes.GiveUp
route_of (Forget form) = routes.Forget
route_of (Visit form) = routes.Visit
route_of (Backup form) = routes.Backup
route_of Stop = routes.Stop

abbrev pub path_of : HttpCall → Text
path_of call = asked.path_of (route_of call)

-- it changes something
abbrev pub is_act : HttpCall → Bool
is_act call = asked.is_act (route_of call)

-- what it is about
abbrev pub form_of : HttpCall → Text
form_of Status = []
form_of (Rows form) = form.now
form_of (Journal form) = form.now
form_of (Requeue form) = form.now
form_of (GiveUp form) = form.now
form_of (Forget form) = form.now
form_of (Visit form) = form.now
form_of (Backup form) = form.now
form_of Stop = []

-- an act is told by POST, and all else is asked by GET
abbrev pub method_of : HttpCall → Text
method_of call = asked.method_of (route_of call)

-- the forms of a row, of a row with a reason, of a node, of an instance, of a copy, and of the rows
-- to a node behind a UID
abbrev pub row_form : Text → Text → Text
row_form uid dest = extend_pairs [] ((codes "uid", uid) ∷ (codes "dest", dest) ∷ [])

abbrev pub reason_form : Text → Text → Text → Text
reason_form uid dest reason =
    extend_pairs []
    ((codes "uid", uid) ∷ (codes "dest", dest) ∷ (codes "reason", reason) ∷ [])

abbrev pub dest_form : Text → Text
dest_form dest = extend_pairs [] ((codes "dest", dest) ∷ [])

abbrev pub uid_form : Text → Text
uid_form uid = extend_pairs [] ((codes "uid", uid) ∷ [])

abbrev pub copy_form : Text → Text
copy_form path = extend_pairs [] ((codes "copy", path) ∷ [])

abbrev pub rows_form : Text → Text → Text
rows_form dest after = extend_pairs [] ((codes "dest", dest) ∷ (codes "after", after) ∷ [])

-- the form of the lines of a journal behind a number
abbrev pub journal_form : ℕ → Text
journal_form after = extend_pairs [] ((codes "after", decimal after) ∷ [])

-- the form stands behind the path of what is asked, and in the body of what is told
abbrev pub query_of : Text → Text
query_of [] = []
query_of (byte ∷ form) = codes "?" ++ (byte ∷ form)

abbrev pub target_of : HttpCall → Text
target_of call = if is_act call then path_of call else path_of call ++ query_of (form_of call)

abbrev pub body_of : HttpCall → Text
body_of call = if is_act call then form_of call else []

-- what a field with a token says (RFC 6750 2.1)
abbrev pub bearer_of : Text → Text
bearer_of token = codes "Bearer " ++ token

-- that field, where there is one
abbrev pub bearer_fields : Option Text → List Header
bearer_fields None = []
bearer_fields (Some bearer) = (codes "authorization", bearer) ∷ []

-- that a body is a form, of so many bytes
abbrev pub form_fields : Text → List Header
form_fields size =
    (codes "content-type", codes "application/x-www-form-urlencoded")
    ∷ (codes "content-length", size) ∷ []

-- what is said of what is told
abbrev pub fields_of_body : HttpCall → List Header
fields_of_body call =
    if is_act call then form_fields (decimal (length (form_of call))) else []

-- the fields of a request: the node's address, that the connection is for one request, the token,
-- where one is given, and what is said of the body
abbrev pub fields_of : Text → Option Text → HttpCall → List Header
fields_of host bearer call =
    ((codes "host", host) ∷ (codes "connection", codes "close") ∷ [])
    ++ bearer_fields bearer ++ fields_of_body call

-- the bytes of a request of HTTP/1.1
abbrev pub request_of : Text → Option Text → HttpCall → Text
request_of host token call =
    request_text (method_of call) (target_of call) 1
    (fields_of host (option_map bearer_of token) call) ++ body_of call
