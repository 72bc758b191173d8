-- What the journals of our nodes say by themselves: without time, without links, and without any
-- order between the lines of one journal and those of another.
use Rattle.std.specs.Prelude.{◌≡◌, ℕ, ◌-◌, ◌⊎◌, true, false, List, Contains, length, take}
use Rattle.std.specs.FinMap as map
use Rattle.std.specs.FinSet as set
use Rattle.dr_base.specs.Texts.{Text}
use Rattle.dr_route.specs.Routes.{local}
use Rattle.dr_plan_model.specs.Networks.{Network}
use Rattle.dr_plan_model.specs.Walks.{Goes, Sends}
use Rattle.dr_ledger.specs.declared.item.Instance.{Instance}
use Rattle.dr_ledger.specs.declared.item.Outcome.{Outcome}
use Rattle.dr_ledger.specs.Books.{Book, Line, Settling, Fold, empty_book, since_adoption}
use Rattle.dr_ledger.specs.Histories.{IsSince}
use Rattle.dr_ledger.specs.OneNode.{HasSucceededSince, WasTaken}
use Rattle.dr_ledger.specs.PlanRoutes.{plan_routing}
use Rattle.dr_world_model.specs.Among.{Ours}
use Rattle.dr_world_model.specs.Claims.{IsFairOutcome, IsToSend}
use Rattle.dr_world_model.specs.Worlds.{World}

-- What is seen of nodes that stand still: the book of each, with its journal. Names that aren't
-- ours have the empty book.
abbrev pub NodeBooks : Type 0
NodeBooks = Text → Book

-- the lines of a journal up to its last adoption, none where there was none
abbrev pub until_adoption : List Line → List Line
until_adoption lines = take (length lines - length (since_adoption lines)) lines

-- the book that a journal had at its last adoption
abbrev pub stood : Book → Book
stood b = Fold (until_adoption b.lines)

-- The message world of these books: nothing is under way in it.
abbrev pub world_of : NodeBooks → World
world_of books = record {
  time = 0;
  books = books;
  stood = λ name. stood (books name);
  armed = set.empty;
  links = map.empty;
  opened = 0;
}

-- ---- each journal by itself

-- Each journal of ours is one that a node of the plan writes: what it has since its last adoption
-- is a history under the plan in force, and the book is what the journal makes.
abbrev pub EachIsAHistory : Ours → Network → NodeBooks → Type 0
EachIsAHistory ours plan books =
    (name : Text) → ours name ≡ true
    → IsSince (plan_routing plan name) (until_adoption (books name).lines) (books name)

-- each row that an adoption carried over is of a hop of the plan
abbrev pub WhatStoodGoesOn : Ours → Network → NodeBooks → Type 0
WhatStoodGoesOn ours plan books =
    (name to : Text) (item : Instance)
    → ours name ≡ true
    → IsToSend (stood (books name)) item to
    → Goes plan item.key name to

-- nothing is seen of others
abbrev pub OthersAreNotSeen : Ours → NodeBooks → Type 0
OthersAreNotSeen ours books =
    (name : Text) → ours name ≡ false → books name ≡ empty_book

-- what each journal of ours shows by itself
pub record AreHistories (ours : Ours) (plan : Network) (books : NodeBooks) : Type 0 where
  pub own : EachIsAHistory ours plan books
  pub fit : WhatStoodGoesOn ours plan books
  pub others : OthersAreNotSeen ours books

-- ---- one journal beside another

-- Each success that one of ours notes of another has, there, an arrival of this very item from
-- here.
abbrev pub SuccessesArrived : Ours → NodeBooks → Type 0
SuccessesArrived ours books =
    (name to : Text) (item : Instance)
    → ours name ≡ true → ours to ≡ true
    → HasSucceededSince (books name).lines item to
    → WasTaken (books to).lines name item

-- Why the node sends the item on to the next one: under the plan in force its journal has a line of
-- an arrival of this very item that goes there, whether or not the node has forgotten it since; or
-- a row of it for there was carried over when the plan was adopted.
abbrev pub IsSentOn : Network → NodeBooks → Text → Instance → Text → Type 0
IsSentOn plan books name item to =
    ((caller : Text)
    × WasTaken (books name).lines caller item
    × Sends plan name caller item.key to)
    ⊎ IsToSend (stood (books name)) item to

-- each arrival from another of ours has, there, a reason to be sent here
abbrev pub ArrivalsHaveReasons : Ours → Network → NodeBooks → Type 0
ArrivalsHaveReasons ours plan books =
    (name caller : Text) (item : Instance)
    → ours name ≡ true → ours caller ≡ true
    → (caller ≡ local → ⊥)
    → WasTaken (books name).lines caller item
    → IsSentOn plan books caller item name

-- what one of ours was answered by another of ours is fair
abbrev pub AnswersAreFair : Ours → NodeBooks → Type 0
AnswersAreFair ours books =
    (name uid to : Text) (outcome : Outcome) (now : ℕ)
    → ours name ≡ true → ours to ≡ true
    → Contains (books name).lines (Settling uid to outcome now)
    → IsFairOutcome outcome

-- The journals of ours match.
--
-- Nothing here says that a reason came before what it is a reason for: two arrivals that are
-- reasons for one another would match. In a sound plan there are none. A journal is a history under
-- the plan, so the key of each arrival comes to its node, from its caller, by some walk from an
-- entry; from there on no walk is longer than the greatest rank of all entries of the key. Whoever
-- goes back from an arrival to its reason, and from that to its own, makes the walk from there to
-- the first arrival longer by one hop each time. So after so many hops there is an arrival that
-- comes from no other of ours: it entered there, or its row was carried over. This is the place
-- where it began, of the second claim.
pub record Match (ours : Ours) (plan : Network) (books : NodeBooks) : Type 0 where
  pub successes : SuccessesArrived ours books
  pub arrivals : ArrivalsHaveReasons ours plan books
  pub fair : AnswersAreFair ours books
