-- A request is answered in one way.
use Rattle.std.specs.Prelude.{◌≡◌, ◌++◌, Bool, true, false, Contains, codes, List, ◌⊎◌}
use Rattle.std.specs.Prelude.{Option, None, Some, Result, Ok, Err}
use Rattle.std.proofs.Common.{refl, sym, ap, subst, ◌∙◌, inl, inr}
use Rattle.std.proofs.lemmas.Bool.{false≢true}
use Rattle.http.specs.declared.request.Parts.{Parts}
use Rattle.http_uri.specs.Uri.{uri_path}
use Rattle.dr_base.specs.Texts.{Text}
use Rattle.dr_run_request.specs.Asking.{AdmitsRequest, AsksFor, HasToken, IsAt, IsMeant, is_act, method_of, needs_token}
use Rattle.dr_run_request.specs.Laws.{PathsDiffer}
use Rattle.dr_run_request.specs.declared.admission.Access.{Access}
use Rattle.dr_run_request.specs.declared.admission.Refused.{Refused}
use Rattle.dr_run_request.specs.declared.admission.Refused.TheVariants as refused
use Rattle.dr_run_request.specs.declared.browser.Browser.{Browser}
use Rattle.dr_run_request.specs.declared.route.Route.{Route}

abbrev is_there : Option Text → Bool
is_there None = false
is_there (Some text) = true

abbrev text_of : Option Text → Text
text_of None = codes ""
text_of (Some text) = text

none_is_some : (found : Option Text) (text : Text) → found ≡ None → found ≡ Some text → ⊥
none_is_some found text none some = false≢true (ap is_there (sym none ∙ some))

one_text : (found : Option Text) (one other : Text) → found ≡ Some one → found ≡ Some other → one ≡ other
one_text found one other first second = ap text_of (sym first ∙ second)

module _ (differ : PathsDiffer) (access : Access) (browser : Option Browser) (head : Parts) (form : Text) where
  -- what the one who may act gives
  abbrev Gives : Route → Type 0
  Gives route = needs_token access route ≡ true → (token : Text) × (access.token ≡ Some token) × HasToken browser token head × (is_act route ≡ true → IsMeant browser token head form)

  same : (one other : Route) → AsksFor access head one → AsksFor access head other → one ≡ other
  same one other first second = differ one other (uri_path head.uri) first.1 second.1

  other_method : (one other : Route) → IsAt one (uri_path head.uri) → (head.method ≡ method_of one → ⊥) → AsksFor access head other → ⊥
  other_method one other at deny asks = deny (subst (λ (route : Route). head.method ≡ method_of route) (sym (differ one other (uri_path head.uri) at asks.1)) asks.2)

  no_token : (one other : Route) → AsksFor access head one → needs_token access one ≡ true → access.token ≡ None → AsksFor access head other → Gives other → ⊥
  no_token one other first needs none second gives =
      let has = gives (subst (λ (route : Route). needs_token access route ≡ true) (same one other first second) needs) in
      none_is_some access.token has.0 none has.1

  another_token : (one other : Route) (token : Text) → AsksFor access head one → needs_token access one ≡ true → access.token ≡ Some token → (HasToken browser token head → ⊥) → AsksFor access head other → Gives other → ⊥
  another_token one other token first needs some deny second gives =
      let has = gives (subst (λ (route : Route). needs_token access route ≡ true) (same one other first second) needs) in
      deny (subst (λ (given : Text). HasToken browser given head) (one_text access.token has.0 token has.1 some) has.2)

  without_key : (one other : Route) (token : Text) → AsksFor access head one → needs_token access one ≡ true → access.token ≡ Some token → is_act one ≡ true → (IsMeant browser token head form → ⊥)
      → AsksFor access head other → Gives other → ⊥
  without_key one other token first needs some act deny second gives =
      let is = same one other first second in
      let has = gives (subst (λ (route : Route). needs_token access route ≡ true) is needs) in
      deny (subst (λ (given : Text). IsMeant browser given head form) (one_text access.token has.0 token has.1 some)
      (has.3 (subst (λ (route : Route). is_act route ≡ true) is act)))

  host_origin : AdmitsRequest access browser head form (Err refused.Host) → AdmitsRequest access browser head form (Err refused.Origin) → ⊥
  host_origin a b = a b.0

  host_path : AdmitsRequest access browser head form (Err refused.Host) → AdmitsRequest access browser head form (Err refused.Path) → ⊥
  host_path a b = a b.0.0

  host_method : AdmitsRequest access browser head form (Err refused.Host) → AdmitsRequest access browser head form (Err refused.Method) → ⊥
  host_method a b = a b.0.0

  host_closed : AdmitsRequest access browser head form (Err refused.Host) → AdmitsRequest access browser head form (Err refused.Closed) → ⊥
  host_closed a b = a b.1.0.0

  host_token : AdmitsRequest access browser head form (Err refused.Host) → AdmitsRequest access browser head form (Err refused.Token) → ⊥
  host_token a b = a b.2.0.0

  host_key : AdmitsRequest access browser head form (Err refused.Host) → AdmitsRequest access browser head form (Err refused.Key) → ⊥
  host_key a b = a b.2.0.0

  host_ok : (route : Route) → AdmitsRequest access browser head form (Err refused.Host) → AdmitsRequest access browser head form (Ok route) → ⊥
  host_ok route a b = a b.0.0.0

  origin_path : AdmitsRequest access browser head form (Err refused.Origin) → AdmitsRequest access browser head form (Err refused.Path) → ⊥
  origin_path a b = a.1 b.0.1

  origin_method : AdmitsRequest access browser head form (Err refused.Origin) → AdmitsRequest access browser head form (Err refused.Method) → ⊥
  origin_method a b = a.1 b.0.1

  origin_closed : AdmitsRequest access browser head form (Err refused.Origin) → AdmitsRequest access browser head form (Err refused.Closed) → ⊥
  origin_closed a b = a.1 b.1.0.1

  origin_token : AdmitsRequest access browser head form (Err refused.Origin) → AdmitsRequest access browser head form (Err refused.Token) → ⊥
  origin_token a b = a.1 b.2.0.1

  origin_key : AdmitsRequest access browser head form (Err refused.Origin) → AdmitsRequest access browser head form (Err refused.Key) → ⊥
  origin_key a b = a.1 b.2.0.1

  origin_ok : (route : Route) → AdmitsRequest access browser head form (Err refused.Origin) → AdmitsRequest access browser head form (Ok route) → ⊥
  origin_ok route a b = a.1 b.0.0.1

  path_method : AdmitsRequest access browser head form (Err refused.Path) → AdmitsRequest access browser head form (Err refused.Method) → ⊥
  path_method a b = a.1 b.1.0 b.1.1

  path_closed : AdmitsRequest access browser head form (Err refused.Path) → AdmitsRequest access browser head form (Err refused.Closed) → ⊥
  path_closed a b = a.1 b.0 b.1.1

  path_token : AdmitsRequest access browser head form (Err refused.Path) → AdmitsRequest access browser head form (Err refused.Token) → ⊥
  path_token a b = a.1 b.0 b.2.1

  path_key : AdmitsRequest access browser head form (Err refused.Path) → AdmitsRequest access browser head form (Err refused.Key) → ⊥
  path_key a b = a.1 b.0 b.2.1

  path_ok : (route : Route) → AdmitsRequest access browser head form (Err refused.Path) → AdmitsRequest access browser head form (Ok route) → ⊥
  path_ok route a b = a.1 route b.0.1

  method_closed : AdmitsRequest access browser head form (Err refused.Method) → AdmitsRequest access browser head form (Err refused.Closed) → ⊥
  method_closed a b = other_method a.1.0 b.0 a.1.1 a.1.2 b.1

  method_token : AdmitsRequest access browser head form (Err refused.Method) → AdmitsRequest access browser head form (Err refused.Token) → ⊥
  method_token a b = other_method a.1.0 b.0 a.1.1 a.1.2 b.2

  method_key : AdmitsRequest access browser head form (Err refused.Method) → AdmitsRequest access browser head form (Err refused.Key) → ⊥
  method_key a b = other_method a.1.0 b.0 a.1.1 a.1.2 b.2

  method_ok : (route : Route) → AdmitsRequest access browser head form (Err refused.Method) → AdmitsRequest access browser head form (Ok route) → ⊥
  method_ok route a b = other_method a.1.0 route a.1.1 a.1.2 b.0

  closed_token : AdmitsRequest access browser head form (Err refused.Closed) → AdmitsRequest access browser head form (Err refused.Token) → ⊥
  closed_token a b = none_is_some access.token b.1 a.3 b.3.1

  closed_key : AdmitsRequest access browser head form (Err refused.Closed) → AdmitsRequest access browser head form (Err refused.Key) → ⊥
  closed_key a b = none_is_some access.token b.1 a.3 b.3.1

  closed_ok : (route : Route) → AdmitsRequest access browser head form (Err refused.Closed) → AdmitsRequest access browser head form (Ok route) → ⊥
  closed_ok route a b = no_token a.0 route a.1 a.2 a.3 b.0 b.1

  token_key : AdmitsRequest access browser head form (Err refused.Token) → AdmitsRequest access browser head form (Err refused.Key) → ⊥
  token_key a b = a.4 (subst (λ (given : Text). HasToken browser given head) (one_text access.token b.1 a.1 b.3.1 a.3.1) b.4)

  token_ok : (route : Route) → AdmitsRequest access browser head form (Err refused.Token) → AdmitsRequest access browser head form (Ok route) → ⊥
  token_ok route a b = another_token a.0 route a.1 a.2 a.3.0 a.3.1 a.4 b.0 b.1

  key_ok : (route : Route) → AdmitsRequest access browser head form (Err refused.Key) → AdmitsRequest access browser head form (Ok route) → ⊥
  key_ok route a b = without_key a.0 route a.1 a.2 a.3.0 a.3.1 a.5 a.6 b.0 b.1

  pub once : (one other : Result Route Refused) → AdmitsRequest access browser head form one → AdmitsRequest access browser head form other → one ≡ other
  once (Err refused.Host) (Err refused.Host) a b = refl
  once (Err refused.Host) (Err refused.Origin) a b = absurd (host_origin a b)
  once (Err refused.Host) (Err refused.Path) a b = absurd (host_path a b)
  once (Err refused.Host) (Err refused.Method) a b = absurd (host_method a b)
  once (Err refused.Host) (Err refused.Closed) a b = absurd (host_closed a b)
  once (Err refused.Host) (Err refused.Token) a b = absurd (host_token a b)
  once (Err refused.Host) (Err refused.Key) a b = absurd (host_key a b)
  once (Err refused.Host) (Ok other) a b = absurd (host_ok other a b)
  once (Err refused.Origin) (Err refused.Host) a b = absurd (host_origin b a)
  once (Err refused.Origin) (Err refused.Origin) a b = refl
  once (Err refused.Origin) (Err refused.Path) a b = absurd (origin_path a b)
  once (Err refused.Origin) (Err refused.Method) a b = absurd (origin_method a b)
  once (Err refused.Origin) (Err refused.Closed) a b = absurd (origin_closed a b)
  once (Err refused.Origin) (Err refused.Token) a b = absurd (origin_token a b)
  once (Err refused.Origin) (Err refused.Key) a b = absurd (origin_key a b)
  once (Err refused.Origin) (Ok other) a b = absurd (origin_ok other a b)
  once (Err refused.Path) (Err refused.Host) a b = absurd (host_path b a)
  once (Err refused.Path) (Err refused.Origin) a b = absurd (origin_path b a)
  once (Err refused.Path) (Err refused.Path) a b = refl
  once (Err refused.Path) (Err refused.Method) a b = absurd (path_method a b)
  once (Err refused.Path) (Err refused.Closed) a b = absurd (path_closed a b)
  once (Err refused.Path) (Err refused.Token) a b = absurd (path_token a b)
  once (Err refused.Path) (Err refused.Key) a b = absurd (path_key a b)
  once (Err refused.Path) (Ok other) a b = absurd (path_ok other a b)
  once (Err refused.Method) (Err refused.Host) a b = absurd (host_method b a)
  once (Err refused.Method) (Err refused.Origin) a b = absurd (origin_method b a)
  once (Err refused.Method) (Err refused.Path) a b = absurd (path_method b a)
  once (Err refused.Method) (Err refused.Method) a b = refl
  once (Err refused.Method) (Err refused.Closed) a b = absurd (method_closed a b)
  once (Err refused.Method) (Err refused.Token) a b = absurd (method_token a b)
  once (Err refused.Method) (Err refused.Key) a b = absurd (method_key a b)
  once (Err refused.Method) (Ok other) a b = absurd (method_ok other a b)
  once (Err refused.Closed) (Err refused.Host) a b = absurd (host_closed b a)
  once (Err refused.Closed) (Err refused.Origin) a b = absurd (origin_closed b a)
  once (Err refused.Closed) (Err refused.Path) a b = absurd (path_closed b a)
  once (Err refused.Closed) (Err refused.Method) a b = absurd (method_closed b a)
  once (Err refused.Closed) (Err refused.Closed) a b = refl
  once (Err refused.Closed) (Err refused.Token) a b = absurd (closed_token a b)
  once (Err refused.Closed) (Err refused.Key) a b = absurd (closed_key a b)
  once (Err refused.Closed) (Ok other) a b = absurd (closed_ok other a b)
  once (Err refused.Token) (Err refused.Host) a b = absurd (host_token b a)
  once (Err refused.Token) (Err refused.Origin) a b = absurd (origin_token b a)
  once (Err refused.Token) (Err refused.Path) a b = absurd (path_token b a)
  once (Err refused.Token) (Err refused.Method) a b = absurd (method_token b a)
  once (Err refused.Token) (Err refused.Closed) a b = absurd (closed_token b a)
  once (Err refused.Token) (Err refused.Token) a b = refl
  once (Err refused.Token) (Err refused.Key) a b = absurd (token_key a b)
  once (Err refused.Token) (Ok other) a b = absurd (token_ok other a b)
  once (Err refused.Key) (Err refused.Host) a b = absurd (host_key b a)
  once (Err refused.Key) (Err refused.Origin) a b = absurd (origin_key b a)
  once (Err refused.Key) (Err refused.Path) a b = absurd (path_key b a)
  once (Err refused.Key) (Err refused.Method) a b = absurd (method_key b a)
  once (Err refused.Key) (Err refused.Closed) a b = absurd (closed_key b a)
  once (Err refused.Key) (Err refused.Token) a b = absurd (token_key b a)
  once (Err refused.Key) (Err refused.Key) a b = refl
  once (Err refused.Key) (Ok other) a b = absurd (key_ok other a b)
  once (Ok one) (Err refused.Host) a b = absurd (host_ok one b a)
  once (Ok one) (Err refused.Origin) a b = absurd (origin_ok one b a)
  once (Ok one) (Err refused.Path) a b = absurd (path_ok one b a)
  once (Ok one) (Err refused.Method) a b = absurd (method_ok one b a)
  once (Ok one) (Err refused.Closed) a b = absurd (closed_ok one b a)
  once (Ok one) (Err refused.Token) a b = absurd (token_ok one b a)
  once (Ok one) (Err refused.Key) a b = absurd (key_ok one b a)
  once (Ok one) (Ok other) a b = ap (λ (route : Route). Ok route) (same one other a.0 b.0)
