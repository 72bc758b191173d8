-- Walks, and one further step at their end.
use Rattle.std.specs.Prelude.{◌≡◌, List, [], ◌∷◌, ◌++◌}
use Rattle.std.proofs.Common.{sym, ap, subst}
use Rattle.dr_base.specs.Texts.{Text}
use Rattle.dr_route.specs.Routes.{local}
use Rattle.dr_route.specs.declared.key.Key.{Key}
use Rattle.dr_plan_model.specs.Networks.{Network}
use Rattle.dr_plan_model.specs.Walks.{Sends, IsWalk, last_place, IsReached, Goes, IsDestination}

module _ (plan : Network) (key : Key) where
  pub walk_on : (over : List Text) (caller name : Text) (last : Text × Text) (to : Text) → IsWalk plan key caller name over → last_place caller name over ≡ last → Sends plan last.1 last.0 key to →
      IsWalk plan key caller name (over ++ to ∷ [])
  walk_on [] caller name last to walk is sends = (subst (λ (p : Text × Text). Sends plan p.1 p.0 key to) (sym is) sends, tt)
  walk_on (next ∷ over) caller name last to walk is sends = (walk.0, walk_on over name next last to walk.1 is sends)

  pub last_on : (over : List Text) (caller name : Text) (last : Text × Text) (to : Text) → last_place caller name over ≡ last → last_place caller name (over ++ to ∷ []) ≡ (last.1, to)
  last_on [] caller name last to is = ap (λ (p : Text × Text). (p.1, to)) is
  last_on (next ∷ over) caller name last to is = last_on over name next last to is

  -- the pair after a step of a walk from an entry is on one too
  pub reached_on : (caller name to : Text) → IsReached plan key caller name → Sends plan name caller key to → IsReached plan key name to
  reached_on caller name to r sends = (r.0, r.1 ++ to ∷ [], r.2, walk_on r.1 local r.0 (caller, name) to r.3 r.4 sends, last_on r.1 local r.0 (caller, name) to r.4)

  pub goes_reached : (from to : Text) → Goes plan key from to → IsReached plan key from to
  goes_reached from to g = reached_on g.0 from to g.1 g.2

  -- one step, and then a destination
  pub destination_before : (caller name to dest : Text) → Sends plan name caller key to → IsDestination plan name to key dest → IsDestination plan caller name key dest
  destination_before caller name to dest sends d = (to ∷ d.0, (sends, d.1), d.2, d.3)
