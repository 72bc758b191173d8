-- What a request of a node's control connection asks for, and who may.
use Rattle.std.specs.Prelude.{◌≡◌, ◌⊎◌, ℕ, ◌++◌, ◌||◌, Bool, true, false, List, Contains, codes}
use Rattle.std.specs.Prelude.{Option, None, Some, option_map, Result, Ok, Err, if◌then◌else◌}
use Rattle.base64.specs.GeneralPurpose.{encode_of}
use Rattle.base64.specs.Engines.{standard}
use Rattle.form_urlencoded.specs.Form.{raw_pairs}
use Rattle.http.specs.declared.request.Parts.{Parts}
use Rattle.http_header.specs.HeaderMap.{get}
use Rattle.http_uri.specs.Uri.{uri_path}
use Rattle.dr_base.specs.Texts.{Text}
use Rattle.dr_run_request.specs.Forms.{first_value}
use Rattle.dr_run_request.specs.declared.admission.Access.{Access}
use Rattle.dr_run_request.specs.declared.admission.Refused.{Refused}
use Rattle.dr_run_request.specs.declared.admission.Refused.TheVariants as refused
use Rattle.dr_run_request.specs.declared.browser.Browser.{Browser}
use Rattle.dr_run_request.specs.declared.route.Route.{Route}
use Rattle.dr_run_request.specs.declared.route.Route.TheVariants.{Page, Status, Rows, Instance}
use Rattle.dr_run_request.specs.declared.route.Route.TheVariants.{Journal, Metrics, Health, Requeue}
use Rattle.dr_run_request.specs.declared.route.Route.TheVariants.{GiveUp, Forget, Visit, Backup}
use Rattle.dr_run_request.specs.declared.route.Route.TheVariants.{Stop}

-- the path of a route; of an instance, what stands before its UID
abbrev pub path_of : Route → Text
path_of Page = codes "/"
path_of Status = codes "/status"
path_of Rows = codes "/rows"
path_of Instance = codes "/instance/"
path_of Journal = codes "/journal"
path_of Metrics = codes "/metrics"
path_of Health = codes "/health"
path_of Requeue = codes "/requeue"
path_of GiveUp = codes "/drop"
path_of Forget = codes "/forget"
path_of Visit = codes "/visit"
path_of Backup = codes "/backup"
path_of Stop = codes "/stop"

-- it changes something
abbrev pub is_act : Route → Bool
is_act Page = false
is_act Status = false
is_act Rows = false
is_act Instance = false
is_act Journal = false
is_act Metrics = false
is_act Health = false
is_act Requeue = true
is_act GiveUp = true
is_act Forget = true
is_act Visit = true
is_act Backup = true
is_act Stop = true

-- its path goes on with a UID
abbrev pub goes_on : Route → Bool
goes_on Page = false
goes_on Status = false
goes_on Rows = false
goes_on Instance = true
goes_on Journal = false
goes_on Metrics = false
goes_on Health = false
goes_on Requeue = false
goes_on GiveUp = false
goes_on Forget = false
goes_on Visit = false
goes_on Backup = false
goes_on Stop = false

-- the path is that one, or goes on behind it
abbrev pub Follows : Bool → Text → Text → Type 0
Follows true own path = (uid : Text) × (path ≡ own ++ uid)
Follows false own path = path ≡ own

-- the route is asked at that path
abbrev pub IsAt : Route → Text → Type 0
IsAt route path = Follows (goes_on route) (path_of route) path

-- what is read is asked by GET, and an act by POST: no link and no image of a page is one
abbrev pub method_of : Route → Text
method_of route = if is_act route then codes "POST" else codes "GET"

-- the first value of a field of the request
abbrev pub field_of : Parts → Text → Option Text
field_of head name = option_map (λ value. value.bytes) (get head.headers name)

-- it names a host that is allowed: a browser that a foreign name led here names that one
abbrev pub IsHosted : Access → Parts → Type 0
IsHosted access head =
    (host : Text) × (field_of head (codes "host") ≡ Some host) × Contains access.hosts host

-- the origin of the pages of such a host, reached so (RFC 6454 6.2)
abbrev pub IsOriginBy : Access → Text → Text → Type 0
IsOriginBy access scheme origin =
    (host : Text) × (origin ≡ scheme ++ host) × Contains access.hosts host

abbrev pub IsOriginOf : Access → Text → Type 0
IsOriginOf access origin =
    IsOriginBy access (codes "http://") origin ⊎ IsOriginBy access (codes "https://") origin

-- no page sent it, or one of the node: a browser tells from which page a form comes
abbrev pub IsFromHere : Access → Parts → Type 0
IsFromHere access head =
    (origin : Text) → field_of head (codes "origin") ≡ Some origin → IsOriginOf access origin

-- it has that token, as a program gives it (RFC 6750 2.1)
abbrev pub IsProgram : Text → Parts → Type 0
IsProgram token head =
    field_of head (codes "authorization") ≡ Some (codes "Bearer " ++ token)

-- what a browser gives that was told the name `operator` and the token (RFC 7617 2)
abbrev pub credentials_of : Text → Text
credentials_of token = encode_of standard (codes "operator:" ++ token)

-- it has the token as a browser gives it
abbrev pub IsBrowser : Option Browser → Parts → Type 0
IsBrowser None head = ⊥
IsBrowser (Some browser) head =
    field_of head (codes "authorization") ≡ Some (codes "Basic " ++ browser.credentials)

-- its form is one of this run's page
abbrev pub HasKey : Option Browser → Text → Type 0
HasKey None form = ⊥
HasKey (Some browser) form = first_value (raw_pairs form) (codes "key") ≡ Some browser.key

-- it has the token, one way or the other
abbrev pub HasToken : Option Browser → Text → Parts → Type 0
HasToken browser token head = IsProgram token head ⊎ IsBrowser browser head

-- A browser that was told the token once sends it with whatever any page has it ask for. So an act
-- is a program's, or has the key, which no other page can read.
abbrev pub IsMeant : Option Browser → Text → Parts → Text → Type 0
IsMeant browser token head form = IsProgram token head ⊎ HasKey browser form

-- each act needs a token; to read, only where that is said
abbrev pub needs_token : Access → Route → Bool
needs_token access route = access.is_guarded || is_act route

-- it comes to a host that is allowed, and from no other page than the node's
abbrev pub IsWelcome : Access → Parts → Type 0
IsWelcome access head = IsHosted access head × IsFromHere access head

-- it asks this so, by the method of that
abbrev pub AsksFor : Access → Parts → Route → Type 0
AsksFor access head route =
    IsWelcome access head
    × IsAt route (uri_path head.uri)
    × (head.method ≡ method_of route)

-- it needs a token, and the node has one
abbrev pub NeedsTheToken : Access → Route → Text → Type 0
NeedsTheToken access route token =
    (needs_token access route ≡ true) × (access.token ≡ Some token)

-- What comes of a request, with the form in its body: what it asks for, where it may; or the first
-- cause that it mayn't.
abbrev pub AdmitsRequest : Access → Option Browser → Parts → Text → Result Route Refused → Type 0
AdmitsRequest access browser head form (Ok route) =
    AsksFor access head route
    × (needs_token access route ≡ true
    → (token : Text) × (access.token ≡ Some token) × HasToken browser token head
    × (is_act route ≡ true → IsMeant browser token head form))
AdmitsRequest access browser head form (Err refused.Host) = IsHosted access head → ⊥
AdmitsRequest access browser head form (Err refused.Origin) =
    IsHosted access head × (IsFromHere access head → ⊥)
AdmitsRequest access browser head form (Err refused.Path) =
    IsWelcome access head × ((route : Route) → IsAt route (uri_path head.uri) → ⊥)
AdmitsRequest access browser head form (Err refused.Method) =
    IsWelcome access head
    × ((route : Route)
    × IsAt route (uri_path head.uri)
    × (head.method ≡ method_of route → ⊥))
AdmitsRequest access browser head form (Err refused.Closed) =
    (route : Route)
    × AsksFor access head route
    × (needs_token access route ≡ true)
    × (access.token ≡ None)
AdmitsRequest access browser head form (Err refused.Token) =
    (route : Route) × (token : Text)
    × AsksFor access head route
    × NeedsTheToken access route token
    × (HasToken browser token head → ⊥)
AdmitsRequest access browser head form (Err refused.Key) =
    (route : Route) × (token : Text)
    × AsksFor access head route
    × NeedsTheToken access route token
    × HasToken browser token head
    × (is_act route ≡ true)
    × (IsMeant browser token head form → ⊥)
