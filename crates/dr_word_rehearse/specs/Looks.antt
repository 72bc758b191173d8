-- One node's ledger as it is looked into, and closed again.
use Rattle.std.specs.Prelude.{◌≡◌, ◌⊎◌, List, [], Vec, Result}
use Rattle.std.specs.Global.{Global}
use Rattle.dr_base.specs.Texts.{Text}
use Rattle.dr_cert.specs.Sealing.{Certified}
use Rattle.dr_ledger.specs.Books.{Book}
use Rattle.dr_ledger.specs.Pairs.{Pair}
use Rattle.dr_ledger.specs.Replies.{Reads}
use Rattle.dr_ledger.specs.declared.fault.LedgerFault.{LedgerFault}
use Rattle.dr_ledger_unfit.specs.Unfit.{AreUnfit}
use Rattle.dr_plan_model.specs.Networks.{Network}
use Rattle.dr_run_open.specs.declared.halt.Halt.{Halt}
use Rattle.dr_run_open.specs.declared.halt.Halt.TheVariants.{NoPlan, NoCertificate, NoNode}
use Rattle.dr_run_open.specs.declared.halt.Halt.TheVariants.{NotOpened, NoInstance, Refused}
use Rattle.dr_run_open.specs.declared.halt.Halt.TheVariants.{Receipt, Failed, Memory}
use Rattle.dr_site.specs.Parts.{Part}
use Rattle.dr_word_adopt.specs.Changes.{IsOpenedFor}
use Rattle.dr_word_rehearse.specs.declared.finds.LedgerFound.{LedgerFound}
use Rattle.dr_word_rehearse.specs.declared.finds.LedgerFound.TheVariants as found
use Rattle.dr_word_rehearse.specs.declared.looking.LedgerLook.{LedgerLook}
use Rattle.dr_word_rehearse.specs.declared.looking.LedgerLook.TheVariants.{Nothing, Older, Rows}

-- what is found of that site by a path at which this opens
abbrev pub IsFoundBy : {L : Type 0} → (L → Type 0) → (L → Part) → Part → LedgerFound L → Type 0
IsFoundBy Opens site_of site found.Older = Unit {0}
IsFoundBy Opens site_of site (found.Ledger ledger) = Opens ledger × (site_of ledger ≡ site)

-- why a ledger isn't looked into: it isn't opened, it can't be read, or want of memory
abbrev pub IsUnread : Halt → Type 0
IsUnread (NotOpened fault) = Unit {0}
IsUnread (Refused fault) = Unit {0}
IsUnread Memory = Unit {0}
IsUnread NoNode = ⊥
IsUnread (NoPlan told) = ⊥
IsUnread (NoCertificate fault) = ⊥
IsUnread (NoInstance fault) = ⊥
IsUnread Receipt = ⊥
IsUnread (Failed failure) = ⊥

-- instances and destinations
abbrev pub Places : Type 0
Places = Vec Pair Global

-- what a look shows at what was found of the next plan, which isn't looked into
abbrev pub LooksOver : {L : Type 0} → LedgerFound L → LedgerLook → Type 0
LooksOver found.Older look = look ≡ Older
LooksOver (found.Ledger ledger) look =
    (rows : Places) × (look ≡ Rows rows) × (rows.items ≡ [])

-- what a look shows of a ledger that this opens, of the node's site by the next plan
abbrev pub IsOverAt : {L : Type 0} → (L → Part) → (L → Type 0) → Part → LedgerLook → Type 0
IsOverAt site_of Opens own Nothing = Unit {0}
IsOverAt site_of Opens own Older = Unit {0}
IsOverAt {L = L} site_of Opens own (Rows rows) =
    (ledger : L) × Opens ledger × (site_of ledger ≡ own) × (rows.items ≡ [])

module _ {L : Type 0} (site_of : L → Part) (book : L → Book) (stands : L → Type 0)
    (next : Network) (name : Text) where
  -- The ledger's owner and its book are as they were, and these are all rows of that book with
  -- which the next plan doesn't go on.
  abbrev pub HasJust : L → Places → Type 0
  HasJust first rows =
      (last : L)
      × (site_of last ≡ site_of first)
      × (stands last
      → stands first × (book last ≡ book first) × ∥ AreUnfit next name (book first) rows.items ∥₁)

  -- the same of a look that may fail, which leaves owner and book too
  abbrev pub IsSeen : L → Result Places LedgerFault → Type 0
  IsSeen first result =
      (last : L)
      × (site_of last ≡ site_of first)
      × (stands last
      → stands first × (book last ≡ book first)
      × Reads result (λ rows. ∥ AreUnfit next name (book first) rows.items ∥₁))

  -- what a look shows at what was found of the plan in force
  abbrev pub LooksInto : LedgerFound L → LedgerLook → Type 0
  LooksInto found.Older look = look ≡ Older
  LooksInto (found.Ledger first) look =
      (rows : Places) × (look ≡ Rows rows) × HasJust first rows

  -- what a look shows of a ledger that this opens, of the node's site by the plan in force or by
  -- the next one
  abbrev pub IsLookAt : (L → Type 0) → Part → Part → LedgerLook → Type 0
  IsLookAt Opens site own Nothing = Unit {0}
  IsLookAt Opens site own Older = Unit {0}
  IsLookAt Opens site own (Rows rows) =
      ((first : L) × Opens first × (site_of first ≡ site) × HasJust first rows)
      ⊎ ((ledger : L) × Opens ledger × (site_of ledger ≡ own) × (rows.items ≡ []))

module _ {L : Type 0} (opens : Text → L → Type 0) (site_of : L → Part) (book : L → Book)
    (stands : L → Type 0) (folder : Text) (old next : Certified) where
  -- What a look shows of the node: nothing of a ledger that isn't there, or is of a form from
  -- before; all rows of its ledger in the folder that the next plan doesn't go on with; or none,
  -- where the ledger is of that plan already.
  abbrev pub IsLooked : Text → LedgerLook → Type 0
  IsLooked name Nothing = Unit {0}
  IsLooked name Older = Unit {0}
  IsLooked name (Rows rows) =
      ((first : L)
      × IsOpenedFor opens site_of book stands folder old name first
      × HasJust site_of book stands next.plan name first rows)
      ⊎ ((ledger : L)
      × IsOpenedFor opens site_of book stands folder next name ledger
      × (rows.items ≡ []))
