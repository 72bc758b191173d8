-- What has to be compared so that journals are known to match: three lists of instances, each with
-- the nodes from which and to which it went, read off the journals line by line.
use Rattle.std.specs.Prelude.{◌≡◌, ◌↔◌, true, cond, List, [], ◌∷◌, ◌++◌, Contains, Option}
use Rattle.std.specs.Prelude.{None, Some, map as mapped}
use Rattle.std.specs.FinMap as map
use Rattle.dr_base.specs.Texts.{Text}
use Rattle.dr_route.specs.Routes.{local}
use Rattle.dr_plan_model.specs.Networks.{Network}
use Rattle.dr_ledger.specs.declared.item.Instance.{Instance}
use Rattle.dr_ledger.specs.declared.item.Outcome.{Outcome}
use Rattle.dr_ledger.specs.declared.item.Outcome.TheVariants.{Status, Broken, NoContext, Unreadable}
use Rattle.dr_ledger.specs.declared.item.Progress.{Progress}
use Rattle.dr_ledger.specs.Books.{Book, Line, Arrival, Repeat, Settling, Requeuing, Dropping}
use Rattle.dr_ledger.specs.Books.{Forgetting, Adoption, Fold, after, is_success, since_adoption}
use Rattle.dr_ledger.specs.Pairs.{Pair}
use Rattle.dr_ledger.specs.PlanRoutes.{plan_routing}
use Rattle.dr_ledger.specs.Routings.{Routing}
use Rattle.dr_world_model.specs.Among.{Ours}
use Rattle.dr_world_journals.specs.Journals.{AreHistories, ArrivalsHaveReasons, NodeBooks}
use Rattle.dr_world_journals.specs.Journals.{SuccessesArrived, until_adoption}

-- an instance on its way from the one node to the other
abbrev pub Hop : Type 0
Hop = Text × Text × Instance

-- ---- what the lines since the last adoption say

-- what a line says that came to the node
abbrev pub came_by : Text → Line → List Hop
came_by name (Arrival caller item to keep) = (caller, name, item) ∷ []
came_by name (Repeat caller item) = (caller, name, item) ∷ []
came_by name (Settling uid dest outcome now) = []
came_by name (Requeuing uid dest) = []
came_by name (Dropping uid dest now) = []
came_by name (Forgetting uid) = []
came_by name Adoption = []

-- what the lines say that came to the node
abbrev pub came : Text → List Line → List Hop
came name [] = []
came name (line ∷ lines) = came_by name line ++ came name lines

-- the item, from the node to each of these
abbrev pub to_each : Text → Instance → List Text → List Hop
to_each name item to = mapped (λ (next : Text). (name, next, item)) to

-- what a line says that is to go on from the node: to the targets of an arrival
abbrev pub went_by : Routing → Text → Line → List Hop
went_by routing name (Arrival caller item to keep) = to_each name item to
went_by routing name (Repeat caller item) =
    to_each name item (routing.targets caller item.key)
went_by routing name (Settling uid dest outcome now) = []
went_by routing name (Requeuing uid dest) = []
went_by routing name (Dropping uid dest now) = []
went_by routing name (Forgetting uid) = []
went_by routing name Adoption = []

-- what the lines say that is to go on from the node
abbrev pub went : Routing → Text → List Line → List Hop
went routing name [] = []
went routing name (line ∷ lines) = went_by routing name line ++ went routing name lines

-- the item that the book has, if it has one, on its way
abbrev pub hop_of : Text → Text → Option Instance → List Hop
hop_of from to None = []
hop_of from to (Some item) = (from, to, item) ∷ []

-- where the outcome is a success
abbrev pub if_success : Outcome → List Hop → List Hop
if_success (Status status) hops = cond (is_success status) hops []
if_success Broken hops = []
if_success NoContext hops = []
if_success Unreadable hops = []

-- what a line says that was answered with success: of the item that the book has then
abbrev pub done_by : Text → Book → Line → List Hop
done_by name b (Arrival caller item to keep) = []
done_by name b (Repeat caller item) = []
done_by name b (Settling uid dest outcome now) =
    if_success outcome (hop_of name dest (map.get b.items uid))
done_by name b (Requeuing uid dest) = []
done_by name b (Dropping uid dest now) = []
done_by name b (Forgetting uid) = []
done_by name b Adoption = []

-- what the lines say that was answered with success, from this book on
abbrev pub done : Text → Book → List Line → List Hop
done name b [] = []
done name b (line ∷ lines) = done_by name b line ++ done name (after line b) lines

-- ---- what stood at the last adoption

-- the uid of each arrival, with each node to which it went on
abbrev pub goals_by : Line → List Pair
goals_by (Arrival caller item to keep) = mapped (λ (next : Text). (item.uid, next)) to
goals_by (Repeat caller item) = []
goals_by (Settling uid dest outcome now) = []
goals_by (Requeuing uid dest) = []
goals_by (Dropping uid dest now) = []
goals_by (Forgetting uid) = []
goals_by Adoption = []

-- the goals of all lines
abbrev pub goals : List Line → List Pair
goals [] = []
goals (line ∷ lines) = goals_by line ++ goals lines

-- the item, where the row is there
abbrev pub if_row : Option Progress → Option Instance → Option Instance
if_row None item = None
if_row (Some row) item = item

-- the row that stands for one of these goals, with its item
abbrev pub stands_at : Text → Book → Pair → List Hop
stands_at name b at = hop_of name at.1 (if_row (map.get b.rows at) (map.get b.items at.0))

-- the rows that stand for these goals, each with its item
abbrev pub standing : Text → Book → List Pair → List Hop
standing name b [] = []
standing name b (at ∷ more) = stands_at name b at ++ standing name b more

-- ---- a journal

-- what came to the node under the plan in force
abbrev pub came_to : Text → List Line → List Hop
came_to name lines = came name (since_adoption lines)

-- what is to go on from the node under the plan in force, with what stood
abbrev pub sent_from : Routing → Text → List Line → List Hop
sent_from routing name lines =
    standing name (Fold (until_adoption lines)) (goals (until_adoption lines))
    ++ went routing name (since_adoption lines)

-- what the node notes that was answered with success under the plan in force
abbrev pub done_at : Text → List Line → List Hop
done_at name lines = done name (Fold (until_adoption lines)) (since_adoption lines)

-- ---- the laws

-- Where the journals are histories they match in what was answered just where each hop that one of
-- ours notes as done to another is one that came there; and in what arrived just where each hop
-- that came from another of ours is one that was to go on there.
pub record MatchingIsByHops (ours : Ours) (plan : Network) (books : NodeBooks) : Type 0 where
  pub successes : SuccessesArrived ours books
      ↔ ((name to : Text) (item : Instance)
      → ours name ≡ true → ours to ≡ true
      → Contains (done_at name (books name).lines) (name, to, item)
      → Contains (came_to to (books to).lines) (name, to, item))
  pub arrivals : ArrivalsHaveReasons ours plan books
      ↔ ((name caller : Text) (item : Instance)
      → ours name ≡ true → ours caller ≡ true
      → (caller ≡ local → ⊥)
      → Contains (came_to name (books name).lines) (caller, name, item)
      → Contains (sent_from (plan_routing plan caller) caller (books caller).lines)
      (caller, name, item))

-- Who compares lists of hops knows whether journals match.
abbrev pub HopsDecide : Type 0
HopsDecide =
    (ours : Ours) (plan : Network) (books : NodeBooks)
    → AreHistories ours plan books
    → MatchingIsByHops ours plan books
