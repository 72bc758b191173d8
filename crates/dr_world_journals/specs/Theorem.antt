-- The headline of journals alone, and that what runs is seen so.
use Rattle.std.specs.Prelude.{◌≡◌, List}
use Rattle.dr_base.specs.Texts.{Text}
use Rattle.dr_plan_model.specs.Networks.{Network}
use Rattle.dr_plan_sound.specs.Soundness.{IsSound}
use Rattle.dr_world_model.specs.Among.{Act, HeadlineAmong, Ours, RunsAmong, all_ours}
use Rattle.dr_world_model.specs.Claims.{Headline}
use Rattle.dr_world_model.specs.Runs.{Action, Runs}
use Rattle.dr_world_model.specs.Worlds.{World, start}
use Rattle.dr_world_journals.specs.Journals.{AreHistories, NodeBooks, Match, stood, world_of}

-- Over a sound plan, whichever nodes are ours: where each of their journals is a history of its
-- node, and they match, the four claims hold of their books.
abbrev pub MatchingJournalsShowTheHeadline : Type 0
MatchingJournalsShowTheHeadline =
    (ours : Ours) (plan : Network)
    → IsSound plan
    → (books : NodeBooks)
    → AreHistories ours plan books
    → Match ours plan books
    → HeadlineAmong ours plan (world_of books)

-- Where all nodes are ours, it is the headline.
abbrev pub AllJournalsShowTheHeadline : Type 0
AllJournalsShowTheHeadline =
    (plan : Network) → IsSound plan
    → (books : NodeBooks)
    → AreHistories all_ours plan books
    → Match all_ours plan books
    → Headline plan (world_of books)

-- what stood is what the journals say, each journal is a history of its node, and they match
pub record AreSeen (ours : Ours) (plan : Network) (w : World) : Type 0 where
  pub stood_then : (name : Text) → w.stood name ≡ stood (w.books name)
  pub histories : AreHistories ours plan w.books
  pub match : Match ours plan w.books

-- Whatever happens among other makers' products, the journals of ours are histories, and match.
abbrev pub RunsLeaveMatchingJournals : Type 0
RunsLeaveMatchingJournals =
    (ours : Ours) (plan : Network)
    → IsSound plan
    → (acts : List Act) (last : Network) (w : World)
    → RunsAmong ours plan start acts last w
    → AreSeen ours last w

-- Where all nodes are ours, the same of each run of the message world.
abbrev pub AllRunsLeaveMatchingJournals : Type 0
AllRunsLeaveMatchingJournals =
    (plan : Network) → IsSound plan
    → (actions : List Action) (last : Network) (w : World)
    → Runs plan start actions last w
    → AreSeen all_ours last w
