-- One node that is read.
use Rattle.std.proofs.Common.{◌≡◌, ◌≢◌, ◌∙◌, ◌⊎◌, inl, inr, ℕ, Bool, true, false, List, Result, Ok, Err, length, map as mapped, refl, sym, ap, subst, true≢false}
use Rattle.std.specs.FinMap as map
use Rattle.std.specs.Prelude.{Contains, MatchResult}
use Rattle.std.proofs.Math.Logic.{∥∥₁_map}
use Rattle.dr_base.specs.Texts.{Text}
use Rattle.dr_cert.specs.Sealing.{Certified}
use Rattle.dr_plan_model.specs.Networks.{Network}
use Rattle.dr_plan_model.specs.Plans.{NamesNoNode}
use Rattle.dr_site.specs.Parts.{Part, IsPartOf}
use Rattle.dr_ledger.specs.Books.{Book, Fold, Line, Row}
use Rattle.dr_ledger.specs.Replies.{AreKept}
use Rattle.dr_ledger_history.specs.Lines.{line_of}
use Rattle.dr_ledger_history.specs.declared.line.JournalLine.{JournalLine}
use Rattle.dr_run_open.specs.Openings.{IsUnopened, Sites}
use Rattle.dr_run_open.specs.declared.halt.Halt.{Halt}
use Rattle.dr_run_open.specs.declared.halt.Halt.TheVariants.{NoPlan, NoCertificate, NoNode, NotOpened, NoInstance, Refused, Receipt, Failed, Memory}
use Rattle.dr_run_open.specs.declared.ledgers.OpenFault.{OpenFault}
use Rattle.dr_run_open.specs.declared.ledgers.OpenFault.TheVariants as opening
use Rattle.dr_word_adopt.specs.Beginnings.{path_in}
use Rattle.dr_word_adopt.specs.Changes.{IsOpenedFor}
use Rattle.dr_world_audit.specs.Sites.{lines_at}
use Rattle.dr_world_audit.specs.declared.audit.NodeJournal.{NodeJournal}
use Rattle.dr_word_audit.specs.Audits.{IsMissing, IsSeen, IsShown, IsStop, is_missing}
use Rattle.dr_word_audit.specs.Figures.{figures, node_line}
use Rattle.dr_word_audit.specs.Readings.{AreGathered, IsListed, IsOnlyRead, IsUnread, LooksAs}
use Rattle.dr_word_adopt.specs.declared.change.Halted.{Halted}
use Rattle.dr_word_audit.specs.declared.reading.Gathering.{Gathering}
use Rattle.dr_word_audit.specs.declared.reading.Gathering.TheVariants.{Missing}
use Rattle.dr_word_audit.specs.declared.reading.Seen.{Seen}
use Rattle.dr_word_audit.specs.declared.reading.JournalShown.{JournalShown}

-- a stop that isn't a ledger's that is missing
pub stops : (plan : Network) (all : List Text) (name : Text) (halt : Halt) → (NamesNoNode plan name → IsStop plan all NoNode) → IsUnread plan name halt → is_missing halt ≡ false → IsStop plan all halt
stops plan all name NoNode known h there = known h
stops plan all name (NotOpened fault) known h there = λ e. (let P : OpenFault → Type 0 = λ f. is_missing (NotOpened f) ≡ false in absurd (true≢false (subst P e there)))
stops plan all name (Refused fault) known h there = tt
stops plan all name Memory known h there = tt
stops plan all name (NoPlan told) known h there = absurd h
stops plan all name (NoCertificate fault) known h there = absurd h
stops plan all name (NoInstance fault) known h there = absurd h
stops plan all name Receipt known h there = absurd h
stops plan all name (Failed failure) known h there = absurd h

module _ (sealed : Certified) (name : Text) where
  -- a node that the plan doesn't have, or for which there is no memory, isn't read
  pub stranger_unread : (halt : Halt) → Sites sealed name (Err halt) → IsUnread sealed.plan name halt
  stranger_unread NoNode h = h
  stranger_unread Memory h = tt
  stranger_unread (NoPlan told) h = absurd h
  stranger_unread (NoCertificate fault) h = absurd h
  stranger_unread (NotOpened fault) h = absurd h
  stranger_unread (NoInstance fault) h = absurd h
  stranger_unread (Refused fault) h = absurd h
  stranger_unread Receipt h = absurd h
  stranger_unread (Failed failure) h = absurd h

  -- nor is one whose ledger isn't opened
  pub unopened_unread : (halt : Halt) → IsUnopened halt → IsUnread sealed.plan name halt
  unopened_unread (NotOpened fault) h = tt
  unopened_unread Memory h = tt
  unopened_unread NoNode h = absurd h
  unopened_unread (NoPlan told) h = absurd h
  unopened_unread (NoCertificate fault) h = absurd h
  unopened_unread (NoInstance fault) h = absurd h
  unopened_unread (Refused fault) h = absurd h
  unopened_unread Receipt h = absurd h
  unopened_unread (Failed failure) h = absurd h

  module _ {L : Type 0} (opens : Text → L → Type 0) (site_of : L → Part) (book : L → Book) (stands : L → Type 0) (folder : Text) where
    -- what an opening by the node's path, for its site, comes to
    pub opened_at : (site : Part) (path : Text) → Sites sealed name (Ok site) → path ≡ path_in folder name → (r : Result L Halt) → MatchResult r (λ l. opens path l × (site_of l ≡ site)) IsUnopened
        → MatchResult r (IsOpenedFor opens site_of book stands folder sealed name) (IsUnread sealed.plan name)
    opened_at site path at way (Ok l) h = record {
      opened = subst (λ (p : Text). opens p l) way h.0;
      at = record {
        part = subst (λ (s : Part). IsPartOf sealed.plan sealed.certificate s) (sym h.1) at.1;
        named = ap (λ (s : Part). s.name) h.1 ∙ at.0;
      };
    }
    opened_at site path at way (Err halt) h = unopened_unread halt h

    -- what a ledger that was opened for the node shows is what a look at the node shows
    pub looked : (others : List Text) (first : L) → IsOpenedFor opens site_of book stands folder sealed name first → (seen : Seen L) → IsOnlyRead site_of book stands others name first seen
        → LooksAs opens site_of book stands folder sealed others name seen
    looked others first opened seen read =
        let P : Text → Type 0 = λ n. IsOpenedFor opens site_of book stands folder sealed n first in
        (read.named, (first, seen.ledger, subst P (sym read.named) opened, read.site, read.same))

    -- what it comes to that the ledger of one of these nodes isn't read
    pub stopped_at : (others all : List Text) → Contains all name → IsMissing opens site_of book stands folder sealed others all name → (halt : Halt) → IsUnread sealed.plan name halt → (r : Result (Gathering L) Halted)
        → MatchResult r (λ gathering. gathering ≡ Missing name) (λ stop. ((stop.halt ≡ halt) × (is_missing halt ≡ false)) ⊎ (stop.halt ≡ Memory))
        → MatchResult r (AreGathered opens site_of book stands folder sealed others all) (λ stop. IsStop sealed.plan all stop.halt)
    stopped_at others all among missing halt unread (Ok gathering) h =
        let P : Gathering L → Type 0 = λ x. AreGathered opens site_of book stands folder sealed others all x in
        subst P (sym h) missing
    stopped_at others all among missing halt unread (Err stop) (inl h) =
        let P : Halt → Type 0 = λ x. IsStop sealed.plan all x in
        subst P (sym h.0) (stops sealed.plan all name halt (λ none. (name, among, none)) unread h.1)
    stopped_at others all among missing halt unread (Err stop) (inr h) =
        let P : Halt → Type 0 = λ x. IsStop sealed.plan all x in
        subst P (sym h) tt

-- what a ledger lists, and what is shown of it
pub shows : (others : List Text) (name : Text) (old mid next : Book) (lines : List JournalLine) (kept : List (Text × ℕ)) (rows : List Row) (count : ℕ) (shown : JournalShown)
    → mapped line_of lines ≡ old.lines → mid ≡ old → AreKept mid kept → next ≡ mid → rows ≡ map.entries next.rows → count ≡ length kept → ∥ old ≡ Fold old.lines ∥₁
    → IsListed others name lines count rows shown → IsShown others old shown.journal shown.line
shows others name old mid next lines kept rows count shown whole same has later all counted fold listed =
    let at : lines_at shown.journal ≡ old.lines = ap (mapped line_of) listed.whole ∙ whole in
    let here : next ≡ old = later ∙ same in
    record {
      lines = at;
      fold = ∥∥₁_map fold (λ made. made ∙ ap Fold (sym at));
      told = (
        kept,
        subst (λ (b : Book). AreKept b kept) same has,
        listed.told
            ∙ ap (λ (n : Text). node_line n (figures others (mapped line_of lines) count rows)) (sym listed.named)
            ∙ ap (λ (ls : List Line). node_line shown.journal.name (figures others ls count rows)) whole
            ∙ ap (λ n. node_line shown.journal.name (figures others old.lines n rows)) counted
            ∙ ap (λ (rs : List Row). node_line shown.journal.name (figures others old.lines (length kept) rs)) (all ∙ ap (λ (b : Book). map.entries b.rows) here),
      );
    }
