-- The journals of a site.
use Rattle.std.specs.Prelude.{◌≡◌, ℕ, ◌==◌, ◌||◌, Bool, true, false, cond, List, [], ◌∷◌, ◌++◌}
use Rattle.std.specs.Prelude.{Contains, Option, None, Some, map as mapped}
use Rattle.dr_base.specs.Texts.{Text}
use Rattle.dr_plan_model.specs.Networks.{Network}
use Rattle.dr_plan_model.specs.Walks.{Goes}
use Rattle.dr_ledger.specs.declared.item.Instance.{Instance}
use Rattle.dr_ledger.specs.declared.item.Outcome.{Outcome}
use Rattle.dr_ledger.specs.declared.item.Outcome.TheVariants.{Status, Broken, NoContext, Unreadable}
use Rattle.dr_ledger.specs.Books.{Line, Arrival, Repeat, Settling, Requeuing, Dropping}
use Rattle.dr_ledger.specs.Books.{Forgetting, Adoption, Fold, empty_book}
use Rattle.dr_ledger.specs.Histories.{IsSince}
use Rattle.dr_ledger.specs.OneNode.{HasSucceededSince, WasTaken}
use Rattle.dr_ledger.specs.PlanRoutes.{plan_routing}
use Rattle.dr_ledger_history.specs.declared.line.JournalLine.{JournalLine}
use Rattle.dr_ledger_history.specs.Lines.{line_of}
use Rattle.dr_world_model.specs.Among.{HeadlineAmong, Ours}
use Rattle.dr_world_model.specs.Claims.{IsFairOutcome, IsToSend}
use Rattle.dr_world_model.specs.Worlds.{same_text}
use Rattle.dr_world_audit.specs.declared.audit.NodeJournal.{NodeJournal}
use Rattle.dr_world_audit.specs.declared.audit.Mismatch.{Mismatch}
use Rattle.dr_world_audit.specs.declared.audit.Mismatch.TheVariants as mismatch
use Rattle.dr_world_audit.specs.declared.audit.AuditVerdict.{AuditVerdict}
use Rattle.dr_world_audit.specs.declared.audit.AuditVerdict.TheVariants as verdict
use Rattle.dr_world_audit.specs.declared.trail.Trail.{Trail}
use Rattle.dr_world_audit.specs.Hops.{Notes}
use Rattle.dr_world_journals.specs.Hops.{Hop, came_to, done_at, sent_from}
use Rattle.dr_world_journals.specs.Journals.{AreHistories, NodeBooks, IsSentOn, Match}
use Rattle.dr_world_journals.specs.Journals.{until_adoption, world_of}

-- the lines of a node's journal
abbrev pub lines_at : NodeJournal → List Line
lines_at node = mapped line_of node.lines

-- the names of the nodes
abbrev pub names : List NodeJournal → List Text
names nodes = mapped (λ (node : NodeJournal). node.name) nodes

-- no two are of one node
abbrev pub AreApart : List NodeJournal → Type 0
AreApart [] = Unit {0}
AreApart (node ∷ nodes) = (Contains (names nodes) node.name → ⊥) × AreApart nodes

-- ours are the nodes whose journals these are
abbrev pub ours_of : List NodeJournal → Ours
ours_of [] name = false
ours_of (node ∷ nodes) name = cond (same_text name node.name) true (ours_of nodes name)

-- the books that these journals make
abbrev pub books_of : List NodeJournal → NodeBooks
books_of [] name = empty_book
books_of (node ∷ nodes) name =
    cond (same_text name node.name) (Fold (lines_at node)) (books_of nodes name)

-- ---- what is fair
-- an outcome that a sound plan leaves room for
abbrev pub is_fair : Outcome → Bool
is_fair (Status status) = (status == 0) || ((status == 0xA700) || (status == 0xC0F1))
is_fair Broken = true
is_fair NoContext = false
is_fair Unreadable = true

-- the line settles a row to one of these by an outcome that isn't fair
abbrev pub IsUnfair : List Text → Line → Type 0
IsUnfair ours (Settling uid dest outcome now) = (is_fair outcome ≡ false) × Contains ours dest
IsUnfair ours (Arrival caller item to keep) = ⊥
IsUnfair ours (Repeat caller item) = ⊥
IsUnfair ours (Requeuing uid dest) = ⊥
IsUnfair ours (Dropping uid dest now) = ⊥
IsUnfair ours (Forgetting uid) = ⊥
IsUnfair ours Adoption = ⊥

-- the one is such a line; or there is none
abbrev pub FirstUnfair : List Text → List JournalLine → Option JournalLine → Type 0
FirstUnfair ours lines (Some line) = Contains lines line × IsUnfair ours (line_of line)
FirstUnfair ours lines None =
    (line : JournalLine) → Contains lines line → IsUnfair ours (line_of line) → ⊥

-- ---- one node
-- what a node's journal shows by itself, where these are ours
pub record ShowsNode (plan : Network) (ours : List Text) (node : NodeJournal) : Type 0 where
  pub own : IsSince (plan_routing plan node.name) (until_adoption (lines_at node))
      (Fold (lines_at node))
  pub fit : (to : Text) (item : Instance)
      → IsToSend (Fold (until_adoption (lines_at node))) item to
      → Goes plan item.key node.name to
  pub fair : (line : Line) → Contains (lines_at node) line → IsUnfair ours line → ⊥

-- what a node's journal says of instances between nodes is noted besides
abbrev pub NotesNode : Network → NodeJournal → Trail → Trail → Type 0
NotesNode plan node old new =
    Notes old (came_to node.name (lines_at node))
    (sent_from (plan_routing plan node.name) node.name (lines_at node))
    (done_at node.name (lines_at node)) new

-- ---- all nodes
-- the hops of each node, one node's after another's
abbrev pub all_of : (NodeJournal → List Hop) → List NodeJournal → List Hop
all_of hops [] = []
all_of hops (node ∷ nodes) = hops node ++ all_of hops nodes

-- what came to each
abbrev pub all_came : List NodeJournal → List Hop
all_came nodes = all_of (λ node. came_to node.name (lines_at node)) nodes

-- what is to go on from each
abbrev pub all_sent : Network → List NodeJournal → List Hop
all_sent plan nodes = all_of
    (λ node. sent_from (plan_routing plan node.name) node.name (lines_at node)) nodes

-- what each notes that was answered with success
abbrev pub all_done : List NodeJournal → List Hop
all_done nodes = all_of (λ node. done_at node.name (lines_at node)) nodes

-- all were read
pub record AreRead (plan : Network) (ours : List Text) (nodes : List NodeJournal)
    (old new : Trail) : Type 0 where
  pub each : (node : NodeJournal) → Contains nodes node → ShowsNode plan ours node
  pub notes : Notes old (all_came nodes) (all_sent plan nodes) (all_done nodes) new

-- ---- what doesn't match
-- a row of the instance to there was carried over, and the plan has no such hop for it
pub record IsAstray (plan : Network) (node : NodeJournal) (uid to : Text) : Type 0 where
  pub item : Instance
  pub named : item.uid ≡ uid
  pub stood : IsToSend (Fold (until_adoption (lines_at node))) item to
  pub nowhere : Goes plan item.key node.name to → ⊥

-- a line settles the row of the instance to there by an outcome that isn't fair
pub record IsNotFair (node : NodeJournal) (uid to : Text) : Type 0 where
  pub outcome : Outcome
  pub now : ℕ
  pub line : Contains (lines_at node) (Settling uid to outcome now)
  pub unfair : IsFairOutcome outcome → ⊥

-- what a mismatch says of a node's journal by itself, where these are ours
abbrev pub TellsNode : Network → List Text → NodeJournal → Mismatch → Type 0
TellsNode plan ours node (mismatch.NoHistory name) =
    (name ≡ node.name)
    × (IsSince (plan_routing plan node.name) (until_adoption (lines_at node))
    (Fold (lines_at node))
    → ⊥)
TellsNode plan ours node (mismatch.NoHop name uid to) =
    (name ≡ node.name) × IsAstray plan node uid to
TellsNode plan ours node (mismatch.NotFair name uid to) =
    (name ≡ node.name) × Contains ours to × IsNotFair node uid to
TellsNode plan ours node (mismatch.NoArrival name uid to) = ⊥
TellsNode plan ours node (mismatch.NoReason name uid from) = ⊥

-- the node notes a success of the instance at another of ours, where it hasn't arrived
pub record IsNotThere (ours : Ours) (books : NodeBooks) (name uid to : Text) : Type 0 where
  pub item : Instance
  pub named : item.uid ≡ uid
  pub own : ours name ≡ true
  pub near : ours to ≡ true
  pub noted : HasSucceededSince (books name).lines item to
  pub missing : WasTaken (books to).lines name item → ⊥

-- the instance arrived from another of ours, where it had no reason to be sent
pub record IsForNoReason (plan : Network) (ours : Ours) (books : NodeBooks)
    (name uid from : Text) : Type 0 where
  pub item : Instance
  pub named : item.uid ≡ uid
  pub own : ours name ≡ true
  pub near : ours from ≡ true
  pub arrived : WasTaken (books name).lines from item
  pub missing : IsSentOn plan books from item name → ⊥

-- what a mismatch says: of one node's journal, or of one journal beside another
abbrev pub Tells : Network → List NodeJournal → Mismatch → Type 0
Tells plan nodes (mismatch.NoArrival name uid to) =
    IsNotThere (ours_of nodes) (books_of nodes) name uid to
Tells plan nodes (mismatch.NoReason name uid from) =
    IsForNoReason plan (ours_of nodes) (books_of nodes) name uid from
Tells plan nodes (mismatch.NoHistory name) =
    (node : NodeJournal)
    × Contains nodes node
    × TellsNode plan (names nodes) node (mismatch.NoHistory name)
Tells plan nodes (mismatch.NoHop name uid to) =
    (node : NodeJournal)
    × Contains nodes node
    × TellsNode plan (names nodes) node (mismatch.NoHop name uid to)
Tells plan nodes (mismatch.NotFair name uid to) =
    (node : NodeJournal)
    × Contains nodes node
    × TellsNode plan (names nodes) node (mismatch.NotFair name uid to)

-- ---- the verdict
-- the journals are histories, and match, and so the four claims hold of their books
pub record DoesHold (plan : Network) (nodes : List NodeJournal) : Type 0 where
  pub histories : AreHistories (ours_of nodes) plan (books_of nodes)
  pub match : Match (ours_of nodes) plan (books_of nodes)
  pub headline : HeadlineAmong (ours_of nodes) plan (world_of (books_of nodes))

-- there is what the mismatch says, and so the journals aren't histories, or don't match
pub record DoesNotHold (plan : Network) (nodes : List NodeJournal)
    (mismatch : Mismatch) : Type 0 where
  pub tells : Tells plan nodes mismatch
  pub fails : AreHistories (ours_of nodes) plan (books_of nodes)
      → Match (ours_of nodes) plan (books_of nodes)
      → ⊥

-- it holds only where the journals are histories and match, and a mismatch is one
abbrev pub Audits : Network → List NodeJournal → AuditVerdict → Type 0
Audits plan nodes verdict.Holds = DoesHold plan nodes
Audits plan nodes (verdict.No mismatch) = DoesNotHold plan nodes mismatch
