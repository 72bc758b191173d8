-- Laws of requests.
use Rattle.std.specs.Prelude.{◌≡◌, ◌≤◌, ℕ, true, ◌++◌, codes, Option, None, Some, Result, Ok}
use Rattle.http.specs.declared.request.Parts.{Parts}
use Rattle.dr_base.specs.Texts.{Text}
use Rattle.dr_run_request.specs.declared.admission.Access.{Access}
use Rattle.dr_run_request.specs.declared.admission.Refused.{Refused}
use Rattle.dr_run_request.specs.declared.browser.Browser.{Browser}
use Rattle.dr_run_request.specs.declared.route.Route.{Route}
use Rattle.dr_run_request.specs.Asking.{AdmitsRequest, HasToken, IsAt, IsFromHere, IsHosted}
use Rattle.dr_run_request.specs.Asking.{IsMeant, IsProgram, is_act}
use Rattle.dr_run_request.specs.Forms.{LimitOf, Wants}
use Rattle.dr_run_request.specs.Orders.{IsAsked}
use Rattle.dr_run_request.specs.declared.order.Order.{Order}
use Rattle.dr_run_request.specs.declared.wanted.Wanted.{Wanted}

-- a request is answered in one way
abbrev pub IsAnsweredOnce : Type 0
IsAnsweredOnce =
    (access : Access) (browser : Option Browser) (head : Parts) (form : Text)
    (one other : Result Route Refused)
    → AdmitsRequest access browser head form one
    → AdmitsRequest access browser head form other
    → one ≡ other

-- whatever acts is a POST, to a host that is allowed and from no other page, with the token that
-- the node has, of a program or with the key of the page
abbrev pub OnlyPostsAct : Type 0
OnlyPostsAct =
    (access : Access) (browser : Option Browser) (head : Parts) (form : Text) (route : Route)
    → AdmitsRequest access browser head form (Ok route)
    → is_act route ≡ true
    → (head.method ≡ codes "POST")
    × IsHosted access head
    × IsFromHere access head
    × ((token : Text) × (access.token ≡ Some token) × HasToken browser token head
    × IsMeant browser token head form)

-- where no browser is answered, a program alone acts
abbrev pub ElseProgramsAct : Type 0
ElseProgramsAct =
    (access : Access) (head : Parts) (form : Text) (route : Route)
    → AdmitsRequest access None head form (Ok route)
    → is_act route ≡ true
    → (token : Text) × (access.token ≡ Some token) × IsProgram token head

-- each path is of one route
abbrev pub PathsDiffer : Type 0
PathsDiffer = (one other : Route) (path : Text) → IsAt one path → IsAt other path → one ≡ other

-- what a form orders is one thing
abbrev pub OrdersDiffer : Type 0
OrdersDiffer =
    (one other : Order) (route : Route) (form : Text)
    → IsAsked one route form → IsAsked other route form → one ≡ other

-- what a form asks for is one thing
abbrev pub WantsDiffer : Type 0
WantsDiffer = (one other : Wanted) (form : Text) → Wants form one → Wants form other → one ≡ other

-- a page has a row at least, and 1,000 at most, whatever a form says
abbrev pub PagesAreBounded : Type 0
PagesAreBounded =
    (form : Text) (wanted : Wanted)
    → Wants form wanted → (1 ≤ wanted.limit) × (wanted.limit ≤ 1000)

-- figures: each number from 1 to 1,000 as it is written, and neither 0, 1,001, nor another spelling
abbrev pub LimitsAreRight : Type 0
LimitsAreRight =
    LimitOf (Some (codes "1")) 1
    × LimitOf (Some (codes "1000")) 1000
    × LimitOf None 1000
    × ((n : ℕ) → LimitOf (Some (codes "0")) n → ⊥)
    × ((n : ℕ) → LimitOf (Some (codes "1001")) n → ⊥)
    × ((n : ℕ) → LimitOf (Some (codes "007")) n → ⊥)
    × ((n : ℕ) → LimitOf (Some (codes "")) n → ⊥)
