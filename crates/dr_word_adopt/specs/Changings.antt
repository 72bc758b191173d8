-- One node's ledger as it is changed.
use Rattle.std.specs.Prelude.{◌≡◌, List, ◌∷◌, ◌++◌}
use Rattle.dr_cert.specs.Sealing.{Certified}
use Rattle.dr_ledger.specs.Adopting.{IsFit}
use Rattle.dr_ledger.specs.Books.{Book, Adoption, after}
use Rattle.dr_run_open.specs.declared.halt.Halt.{Halt}
use Rattle.dr_run_open.specs.declared.halt.Halt.TheVariants.{NoPlan, NoCertificate, NoNode}
use Rattle.dr_run_open.specs.declared.halt.Halt.TheVariants.{NotOpened, NoInstance, Refused}
use Rattle.dr_run_open.specs.declared.halt.Halt.TheVariants.{Receipt, Failed, Memory}
use Rattle.dr_site.specs.Parts.{Part, IsPartOf}
use Rattle.dr_word_adopt.specs.declared.standing.Standing.{Standing}
use Rattle.dr_word_adopt.specs.declared.standing.Standing.TheVariants.{Ready, Over}
use Rattle.dr_base.specs.Lists.{Each}

-- why a ledger isn't changed: it refused, or want of memory
abbrev pub LeavesLedger : Halt → Type 0
LeavesLedger (Refused fault) = Unit {0}
LeavesLedger Memory = Unit {0}
LeavesLedger (NoPlan told) = ⊥
LeavesLedger (NoCertificate fault) = ⊥
LeavesLedger NoNode = ⊥
LeavesLedger (NotOpened fault) = ⊥
LeavesLedger (NoInstance fault) = ⊥
LeavesLedger Receipt = ⊥
LeavesLedger (Failed failure) = ⊥

module _ {L : Type 0} (site_of : L → Part) (book : L → Book) (stands : L → Type 0)
    (next : Certified) where
  -- the ledger may adopt the next plan, of which this is the node's part; or there is nothing to do
  abbrev pub MayChange : Standing L → Type 0
  MayChange (Ready ledger own) =
      IsPartOf next.plan next.certificate own
      × (own.name ≡ (site_of ledger).name)
      × (stands ledger → IsFit next.plan own.name (book ledger))
  MayChange (Over ledger) = Unit {0}

  -- the ledger has adopted the next plan; or there was nothing to do
  abbrev pub IsChanged : Standing L → Standing L → Type 0
  IsChanged (Ready ledger own) now =
      (last : L) × (now ≡ Ready last own) × (site_of last ≡ own)
      × (stands last → stands ledger × (book last ≡ after Adoption (book ledger)))
  IsChanged (Over ledger) now = now ≡ Over ledger

  -- the ledger's owner and its book are as they were
  abbrev pub IsKept : Standing L → Standing L → Type 0
  IsKept (Ready ledger own) now =
      (last : L) × (now ≡ Ready last own) × (site_of last ≡ site_of ledger)
      × (stands last → stands ledger × (book last ≡ book ledger))
  IsKept (Over ledger) now = now ≡ Over ledger

  -- The first ones were changed before one refused, which is as it was; those behind it weren't
  -- touched.
  pub record OnlyFirstAreChanged (old new : List (Standing L)) : Type 0 where
    pub done : List (Standing L)
    pub changed : List (Standing L)
    pub one : Standing L
    pub left : Standing L
    pub later : List (Standing L)
    pub was : old ≡ done ++ one ∷ later
    pub is : new ≡ changed ++ left ∷ later
    pub first : Each IsChanged done changed
    pub kept : IsKept one left
