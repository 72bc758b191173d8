-- Lines of a balance, each with what is behind it.
use Rattle.std.specs.Prelude.{ℕ, ◌∷◌, ◌++◌, codes}
use Rattle.dr_base.specs.Texts.{Text}
use Rattle.dr_route.specs.declared.key.Key.{Key}
use Rattle.dr_cert_text.specs.Printable.{IsDigest}
use Rattle.dr_ledger.specs.declared.item.Instance.{Instance}
use Rattle.dr_ledger.specs.declared.item.Progress.{Progress}
use Rattle.dr_ledger.specs.Pairs.{Pair}
use Rattle.dr_ledger_balance.specs.Fields.{FitsField, FitsNumber, FitsProgress, digest_then}
use Rattle.dr_ledger_balance.specs.Fields.{field_then, number_then, progress_then, syntax_then}

-- ---- an instance

abbrev pub key_then : Key → Text → Text
key_then key rest =
    field_then key.class
    (syntax_then key.syntax (field_then key.modality (field_then key.station rest)))

pub record FitsKey (key : Key) : Type 0 where
  pub class : FitsField key.class
  pub modality : FitsField key.modality
  pub station : FitsField key.station

abbrev pub item_then : Instance → Text → Text
item_then item rest =
    codes "instance"
    ++ field_then item.uid
    (key_then item.key (number_then item.size (digest_then item.digest (10 ∷ rest))))

pub record FitsItem (item : Instance) : Type 0 where
  pub uid : FitsField item.uid
  pub key : FitsKey item.key
  pub size : FitsNumber item.size
  pub digest : IsDigest item.digest

-- ---- an arrival: who brought which uid

abbrev pub arrival_then : Pair → Text → Text
arrival_then at rest = codes "arrival" ++ field_then at.0 (field_then at.1 (10 ∷ rest))

abbrev pub FitsArrival : Pair → Type 0
FitsArrival at = FitsField at.0 × FitsField at.1

-- ---- a uid that is kept

abbrev pub kept_then : Text → Text → Text
kept_then uid rest = codes "kept" ++ field_then uid (10 ∷ rest)

-- ---- a row: which uid, where to, and how far it is

abbrev pub row_then : Pair × Progress → Text → Text
row_then row rest =
    codes "row" ++ field_then row.0.0 (field_then row.0.1 (progress_then row.1 (10 ∷ rest)))

abbrev pub FitsRow : Pair × Progress → Type 0
FitsRow row = FitsArrival row.0 × FitsProgress row.1

-- ---- the last line: how many lines of a journal made all this

abbrev pub end_then : ℕ → Text → Text
end_then count rest = codes "lines" ++ number_then count (10 ∷ rest)
