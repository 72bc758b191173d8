-- What is read of single nodes, before anything is concluded.
use Rattle.std.specs.Prelude.{◌≡◌, ℕ, List, map as mapped}
use Rattle.dr_base.specs.Texts.{Text}
use Rattle.dr_plan_model.specs.Networks.{Network}
use Rattle.dr_plan_model.specs.Plans.{NamesNoNode}
use Rattle.dr_cert.specs.Sealing.{Certified}
use Rattle.dr_site.specs.Parts.{Part}
use Rattle.dr_ledger.specs.Books.{Book, Row}
use Rattle.dr_ledger_history.specs.Lines.{line_of}
use Rattle.dr_ledger_history.specs.declared.line.JournalLine.{JournalLine}
use Rattle.dr_run_open.specs.declared.halt.Halt.{Halt}
use Rattle.dr_run_open.specs.declared.halt.Halt.TheVariants.{NoPlan, NoCertificate, NoNode}
use Rattle.dr_run_open.specs.declared.halt.Halt.TheVariants.{NotOpened, NoInstance, Refused}
use Rattle.dr_run_open.specs.declared.halt.Halt.TheVariants.{Receipt, Failed, Memory}
use Rattle.dr_word_adopt.specs.Changes.{IsOpenedFor}
use Rattle.dr_world_audit.specs.Sites.{names}
use Rattle.dr_world_audit.specs.declared.audit.NodeJournal.{NodeJournal}
use Rattle.dr_word_audit.specs.Audits.{AreSeen, IsMissing, IsSeen, IsShown}
use Rattle.dr_word_audit.specs.Figures.{figures, node_line}
use Rattle.dr_word_audit.specs.declared.reading.Gathering.{Gathering}
use Rattle.dr_word_audit.specs.declared.reading.Gathering.TheVariants.{All, Missing}
use Rattle.dr_word_audit.specs.declared.reading.Seen.{Seen}
use Rattle.dr_word_audit.specs.declared.reading.JournalShown.{JournalShown}

-- why the ledger of the node of that name isn't read
abbrev pub IsUnread : Network → Text → Halt → Type 0
IsUnread plan name NoNode = NamesNoNode plan name
IsUnread plan name (NotOpened fault) = Unit {0}
IsUnread plan name (Refused fault) = Unit {0}
IsUnread plan name Memory = Unit {0}
IsUnread plan name (NoPlan told) = ⊥
IsUnread plan name (NoCertificate fault) = ⊥
IsUnread plan name (NoInstance fault) = ⊥
IsUnread plan name Receipt = ⊥
IsUnread plan name (Failed failure) = ⊥

-- what is shown of a node whose ledger lists these lines, so many kept instances and these rows
pub record IsListed (others : List Text) (name : Text) (lines : List JournalLine) (kept : ℕ)
    (rows : List Row) (shown : JournalShown) : Type 0 where
  pub named : shown.journal.name ≡ name
  pub whole : shown.journal.lines ≡ lines
  pub told : shown.line ≡ node_line name (figures others (mapped line_of lines) kept rows)

-- the ledger was only read, and this is shown of it
pub record IsOnlyRead {L : Type 0} (site_of : L → Part) (book : L → Book) (stands : L → Type 0)
    (others : List Text) (name : Text) (first : L) (seen : Seen L) : Type 0 where
  pub site : site_of seen.ledger ≡ site_of first
  pub named : seen.shown.journal.name ≡ name
  pub same : stands seen.ledger
      → (book seen.ledger ≡ book first)
      × IsShown others (book first) seen.shown.journal seen.shown.line

module _ {L : Type 0} (opens : Text → L → Type 0) (site_of : L → Part) (book : L → Book)
    (stands : L → Type 0) (folder : Text) (sealed : Certified) (others : List Text) where
  -- what a look at the node's ledger shows
  abbrev pub LooksAs : Text → Seen L → Type 0
  LooksAs name seen =
      (seen.shown.journal.name ≡ name)
      × IsSeen opens site_of book stands folder sealed others seen.shown.journal seen.shown.line

  -- what is read of these nodes' ledgers: of all, or that one of them isn't there
  abbrev pub AreGathered : List Text → Gathering L → Type 0
  AreGathered all (All read) =
      (names read.journals.items ≡ all)
      × AreSeen opens site_of book stands folder sealed others read.journals.items read.told.items
  AreGathered all (Missing name) =
      IsMissing opens site_of book stands folder sealed others all name
