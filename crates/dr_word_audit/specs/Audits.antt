-- The audit of a plan's nodes: each ledger is only read, and their journals are compared.
use Rattle.std.specs.Prelude.{◌≡◌, ◌≢◌, ◌⊎◌, ℕ, Bool, true, false, List, [], ◌∷◌, ◌++◌, Contains}
use Rattle.std.specs.Prelude.{length, Option, Result, Ok, Err}
use Rattle.std.specs.FinMap as map
use Rattle.dr_base.specs.Texts.{Text}
use Rattle.dr_plan_model.specs.Networks.{Network}
use Rattle.dr_plan_model.specs.Plans.{NamesNoNode}
use Rattle.dr_cert.specs.Sealing.{Certified}
use Rattle.dr_site.specs.Parts.{Part}
use Rattle.dr_ledger.specs.Books.{Book, Fold}
use Rattle.dr_ledger.specs.Replies.{AreKept}
use Rattle.dr_run_open.specs.Openings.{IsSealedBy, SealsFiles}
use Rattle.dr_run_open.specs.declared.halt.Halt.{Halt}
use Rattle.dr_run_open.specs.declared.halt.Halt.TheVariants.{NoPlan, NoCertificate, NoNode}
use Rattle.dr_run_open.specs.declared.halt.Halt.TheVariants.{NotOpened, NoInstance, Refused}
use Rattle.dr_run_open.specs.declared.halt.Halt.TheVariants.{Receipt, Failed, Memory}
use Rattle.dr_run_open.specs.declared.ledgers.OpenFault.TheVariants as opening
use Rattle.dr_word_line.specs.declared.words.SiteFiles.{SiteFiles}
use Rattle.dr_word_adopt.specs.Changes.{IsOpenedFor}
use Rattle.dr_word_adopt.specs.declared.change.Halted.{Halted}
use Rattle.dr_world_audit.specs.Sites.{AreApart, DoesHold, DoesNotHold, lines_at, names}
use Rattle.dr_world_audit.specs.declared.audit.Mismatch.{Mismatch}
use Rattle.dr_world_audit.specs.declared.audit.NodeJournal.{NodeJournal}
use Rattle.dr_word_audit.specs.Figures.{figures, holds_line, node_line}
use Rattle.dr_word_adopt.specs.Names.{AreNodes}
use Rattle.dr_word_audit.specs.Names.{our_names}
use Rattle.dr_word_audit.specs.Places.{IsLast, lines_named, missing_line, no_line, node_of, says}
use Rattle.dr_word_audit.specs.declared.audited.Audited.{Audited}
use Rattle.dr_word_audit.specs.declared.audited.Audited.TheVariants.{Holds, No}

-- ---- one node

-- the line tells how much the node of this name has, whose book this is
abbrev pub IsNodeLine : List Text → Text → Book → Text → Type 0
IsNodeLine others name b line =
    (kept : List (Text × ℕ))
    × AreKept b kept
    × (line ≡ node_line name (figures others b.lines (length kept) (map.entries b.rows)))

-- The journal is that of a book, whole, and the book is what its lines make; and the line tells how
-- much the node has.
pub record IsShown (others : List Text) (b : Book) (node : NodeJournal) (line : Text) : Type 0 where
  pub lines : lines_at node ≡ b.lines
  pub fold : ∥ b ≡ Fold (lines_at node) ∥₁
  pub told : IsNodeLine others node.name b line

-- ---- what is concluded

-- the journals are of nodes of the plan, each of another one
pub record AreOfNodes (plan : Network) (nodes : List NodeJournal) : Type 0 where
  pub apart : AreApart nodes
  pub known : AreNodes plan (names nodes)

-- the text is the line of the mismatch, with the last line of its node that it speaks of
abbrev pub IsToldOf : Mismatch → List NodeJournal → Text → Type 0
IsToldOf mismatch nodes text =
    (number : Option ℕ)
    × IsLast (says mismatch) (lines_named (node_of mismatch) nodes) number
    × (text ≡ no_line mismatch number)

-- the four claims hold of the books of these journals, and what is told of the nodes is printed; or
-- a mismatch is printed, by which they don't
abbrev pub IsConclusion : Network → List NodeJournal → Text → Audited → Type 0
IsConclusion plan nodes told (Holds text) =
    DoesHold plan nodes × (text ≡ holds_line (length nodes) ++ told)
IsConclusion plan nodes told (No text) =
    (mismatch : Mismatch) × DoesNotHold plan nodes mismatch × IsToldOf mismatch nodes text

-- ---- why there is no answer

-- the ledger isn't opened since it isn't there
abbrev pub is_missing : Halt → Bool
is_missing (NotOpened opening.NoLedger) = true
is_missing (NotOpened opening.OtherSite) = false
is_missing (NotOpened opening.NoData) = false
is_missing (NotOpened opening.InUse) = false
is_missing (NotOpened opening.Store) = false
is_missing (NotOpened opening.IsThere) = false
is_missing (NotOpened opening.DataIsThere) = false
is_missing (NotOpened opening.Memory) = false
is_missing (NoPlan told) = false
is_missing (NoCertificate fault) = false
is_missing NoNode = false
is_missing (NoInstance fault) = false
is_missing (Refused fault) = false
is_missing Receipt = false
is_missing (Failed failure) = false
is_missing Memory = false

-- no node of the plan has one of the names, a ledger that is there isn't opened or can't be read,
-- or want of memory
abbrev pub IsStop : Network → List Text → Halt → Type 0
IsStop plan names NoNode = (name : Text) × Contains names name × NamesNoNode plan name
IsStop plan names (NotOpened fault) = fault ≢ opening.NoLedger
IsStop plan names (Refused fault) = Unit {0}
IsStop plan names Memory = Unit {0}
IsStop plan names (NoPlan told) = ⊥
IsStop plan names (NoCertificate fault) = ⊥
IsStop plan names (NoInstance fault) = ⊥
IsStop plan names Receipt = ⊥
IsStop plan names (Failed failure) = ⊥

-- ---- all nodes

module _ {L : Type 0} (opens : Text → L → Type 0) (site_of : L → Part) (book : L → Book)
    (stands : L → Type 0) (folder : Text) (sealed : Certified) (others : List Text) where
  -- The node's ledger, in the folder and of its site by the sealed plan, was only read: its book is
  -- as it was when it was opened, and this is its journal and what is told of it.
  abbrev pub IsSeen : NodeJournal → Text → Type 0
  IsSeen node line =
      (first last : L)
      × IsOpenedFor opens site_of book stands folder sealed node.name first
      × (site_of last ≡ site_of first)
      × (stands last → (book last ≡ book first) × IsShown others (book first) node line)

  -- each of these nodes, and the lines of all of them
  abbrev pub AreSeen : List NodeJournal → Text → Type 0
  AreSeen [] told = told ≡ []
  AreSeen (node ∷ nodes) told =
      (line rest : Text) × IsSeen node line × AreSeen nodes rest × (told ≡ line ++ rest)

  -- one of these nodes has no ledger, and each before it was read
  abbrev pub IsMissing : List Text → Text → Type 0
  IsMissing all name =
      (before later : List Text) × (nodes : List NodeJournal) × (told : Text)
      × (all ≡ before ++ name ∷ later)
      × (names nodes ≡ before)
      × AreSeen nodes told

  -- What comes of the audit. Each of the others is a node of the plan. The ledgers of all nodes but
  -- these were read, in the order of the plan's text, and this is what is concluded of their
  -- journals; or the first of ours that has no ledger is named. Or why there is no answer.
  abbrev pub AuditsBy : Result Audited Halt → Type 0
  AuditsBy (Ok came) =
      AreNodes sealed.plan others
      × (((nodes : List NodeJournal) × (told : Text)
      × (names nodes ≡ our_names others sealed.plan.nodes)
      × AreSeen nodes told
      × IsConclusion sealed.plan nodes told came)
      ⊎ ((name : Text)
      × IsMissing (our_names others sealed.plan.nodes) name
      × (came ≡ No (missing_line name))))
  AuditsBy (Err halt) = IsStop sealed.plan others halt

-- what is said of an audit that stops: its halt
abbrev pub came_of : Result Audited Halted → Result Audited Halt
came_of (Ok audited) = Ok audited
came_of (Err stop) = Err stop.halt

-- what comes of the audit by the plan in the first file, whose certificate is in the second, of the
-- ledgers in the folder, of all nodes but the others
abbrev pub Audits : {L : Type 0} (holds : Text → Text → Type 0) (opens : Text → L → Type 0)
    (site_of : L → Part) (book : L → Book) (stands : L → Type 0)
    → SiteFiles → List Text → Result Audited Halt → Type 0
Audits holds opens site_of book stands files others came =
    ((sealed : Certified)
    × IsSealedBy (holds files.plan.now) (holds files.certificate.now) sealed
    × AuditsBy opens site_of book stands files.folder.now sealed others came)
    ⊎ ((halt : Halt) × (came ≡ Err halt)
    × SealsFiles (holds files.plan.now) (holds files.certificate.now) (Err halt))
