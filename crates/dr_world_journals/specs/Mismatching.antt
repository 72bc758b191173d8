-- For each clause journals that fail it alone, so that none is said of all journals, or follows
-- from the others. They are of the plan of two nodes.
use Rattle.std.specs.Prelude.{◌≡◌, List, [], ◌∷◌, false}
use Rattle.dr_base.specs.Texts.{Text}
use Rattle.dr_base.specs.declared.syntax.Syntax.TheVariants.{Explicit}
use Rattle.dr_route.specs.Routes.{local}
use Rattle.dr_plan_model.specs.Networks.{Network}
use Rattle.dr_plan_sound.specs.Samples.{archive, keep_all, scanner, two_nodes}
use Rattle.dr_base.specs.Standard.{image}
use Rattle.dr_ledger.specs.declared.item.Instance.{Instance}
use Rattle.dr_ledger.specs.declared.item.Outcome.{Outcome}
use Rattle.dr_ledger.specs.declared.item.Outcome.TheVariants.{NoContext, Status}
use Rattle.dr_ledger.specs.Books.{Line, Adoption, Arrival, Forgetting, Settling, Fold, empty_book}
use Rattle.dr_ledger.specs.PlanRoutes.{plan_routing}
use Rattle.dr_ledger.specs.Replies.{arrival_line}
use Rattle.dr_world_model.specs.Among.{all_ours}
use Rattle.dr_world_model.specs.Worlds.{books_with}
use Rattle.dr_world_journals.specs.Journals.{AnswersAreFair, AreHistories, ArrivalsHaveReasons}
use Rattle.dr_world_journals.specs.Journals.{NodeBooks, EachIsAHistory, Match, OthersAreNotSeen}
use Rattle.dr_world_journals.specs.Journals.{SuccessesArrived, WhatStoodGoesOn}

-- the plan of a scanner that sends images to an archive, which keeps them; it is sound
abbrev pub two : Network
two = two_nodes (keep_all ∷ [])

-- one node alone has a journal, of these lines
abbrev pub one_journal : Text → List Line → NodeBooks
one_journal name lines = books_with (λ other. empty_book) name (Fold lines)

-- against the successes: the scanner notes that the archive answered with this outcome, and the
-- archive has no line
abbrev pub settled_alone : Instance → Outcome → NodeBooks
settled_alone item outcome = one_journal scanner
    (arrival_line (plan_routing two scanner) local item ∷ Settling item.uid archive outcome 0 ∷ [])

-- against the reasons: the archive has an arrival from the scanner, which has no line
abbrev pub arrived_alone : Instance → NodeBooks
arrived_alone item =
    one_journal archive (arrival_line (plan_routing two archive) scanner item ∷ [])

-- against the histories: the scanner has forgotten what it never had
abbrev pub forgotten_alone : Instance → NodeBooks
forgotten_alone item = one_journal scanner (Forgetting item.uid ∷ [])

-- against what stood: the archive went over to the plan with a row for the scanner
abbrev pub stood_alone : Instance → NodeBooks
stood_alone item =
    one_journal archive (Arrival local item (scanner ∷ []) false ∷ Adoption ∷ [])

-- each clause fails alone, of some journals
pub record JournalsCanMismatch (item : Instance) : Type 0 where
  pub successes : AreHistories all_ours two (settled_alone item (Status 0))
      × ArrivalsHaveReasons all_ours two (settled_alone item (Status 0))
      × AnswersAreFair all_ours (settled_alone item (Status 0))
      × (SuccessesArrived all_ours (settled_alone item (Status 0)) → ⊥)
  pub fair : AreHistories all_ours two (settled_alone item NoContext)
      × ArrivalsHaveReasons all_ours two (settled_alone item NoContext)
      × SuccessesArrived all_ours (settled_alone item NoContext)
      × (AnswersAreFair all_ours (settled_alone item NoContext) → ⊥)
  pub arrivals : AreHistories all_ours two (arrived_alone item)
      × SuccessesArrived all_ours (arrived_alone item)
      × AnswersAreFair all_ours (arrived_alone item)
      × (ArrivalsHaveReasons all_ours two (arrived_alone item) → ⊥)
  pub histories : Match all_ours two (forgotten_alone item)
      × WhatStoodGoesOn all_ours two (forgotten_alone item)
      × OthersAreNotSeen all_ours (forgotten_alone item)
      × (EachIsAHistory all_ours two (forgotten_alone item) → ⊥)
  pub stood : Match all_ours two (stood_alone item)
      × EachIsAHistory all_ours two (stood_alone item)
      × OthersAreNotSeen all_ours (stood_alone item)
      × (WhatStoodGoesOn all_ours two (stood_alone item) → ⊥)

-- of each image
abbrev pub EachClauseCanFail : Type 0
EachClauseCanFail =
    (item : Instance) → item.key.class ≡ image
    → item.key.syntax ≡ Explicit
    → JournalsCanMismatch item
