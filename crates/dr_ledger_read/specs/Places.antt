-- Places in a text at which what a line says stands, and the pieces of which they are.
use Rattle.std.specs.Prelude.{◌≡◌, ℕ, ◌<◌, ◌^◌, List, ◌++◌, Bool, codes}
use Rattle.dr_base.specs.Texts.{Text}
use Rattle.dr_base.specs.declared.syntax.Syntax.{Syntax}
use Rattle.dr_base.specs.Syntaxes.{syntax_uid}
use Rattle.dr_route.specs.declared.key.Key.{Key}
use Rattle.dr_ledger.specs.declared.item.Instance.{Instance}
use Rattle.dr_ledger.specs.declared.item.Outcome.{Outcome}
use Rattle.dr_ledger.specs.declared.item.Outcome.TheVariants as outcome
use Rattle.dr_ledger_history.specs.declared.line.JournalLine.{JournalLine}
use Rattle.dr_ledger_history.specs.declared.line.JournalLine.TheVariants as told
use Rattle.dr_ledger_text.specs.Laws.{FitsOutcome}
use Rattle.dr_ledger_text.specs.Members.{flag, word}
use Rattle.dr_ledger_read.specs.Behind.{digest_then, item_then, key_then, kind_of, kind_text}
use Rattle.dr_ledger_read.specs.Behind.{line_then, outcome_then, row_then, said_then}
use Rattle.dr_ledger_read.specs.Held.{IsHeldDigest, IsHeldItem, IsHeldKey, IsHeldLine}
use Rattle.dr_ledger_read.specs.Pieces.{AreBytes, Holds, IsNames, EndsDigits}
use Rattle.dr_ledger_read.specs.declared.places.ItemPlaces.{ItemPlaces}
use Rattle.dr_ledger_read.specs.declared.places.KeyPlaces.{KeyPlaces}
use Rattle.dr_ledger_read.specs.declared.kind.CallKind.{CallKind}
use Rattle.dr_ledger_read.specs.declared.places.LinePlaces.{LinePlaces}
use Rattle.dr_ledger_read.specs.declared.places.LinePlaces.TheVariants as stands

-- ---- pieces, each with what is behind it

abbrev pub IsSyntax : Text → Syntax → Text → Type 0
IsSyntax text syntax rest = text ≡ word (codes "syntax") (syntax_uid syntax) ++ rest

abbrev pub IsKeep : Text → Bool → Text → Type 0
IsKeep text keep rest = text ≡ flag (codes "keep") keep ++ rest

abbrev pub IsDigest : Text → List ℕ → Text → Type 0
IsDigest text digest rest = IsHeldDigest digest × (text ≡ digest_then digest rest)

abbrev pub IsStatus : Text → ℕ → Text → Type 0
IsStatus text status rest =
    (status < 2 ^ 16) × (text ≡ outcome_then (outcome.Status status) rest)

abbrev pub IsOutcome : Text → Outcome → Text → Type 0
IsOutcome text came rest = FitsOutcome came × (text ≡ outcome_then came rest)

abbrev pub IsKind : Text → CallKind → Text → Type 0
IsKind text kind rest = text ≡ kind_text kind ++ rest

abbrev pub IsKey : Text → Key → Text → Type 0
IsKey text key rest = IsHeldKey key × (text ≡ key_then key rest)

abbrev pub IsItem : Text → Instance → Text → Type 0
IsItem text item rest = IsHeldItem item × (text ≡ item_then item rest)

abbrev pub IsRow : Text → Text × Text → Text → Type 0
IsRow text row rest = AreBytes row.0 × AreBytes row.1 × (text ≡ row_then row.0 row.1 rest)

-- where a line ends in a number, no digit follows
abbrev pub EndsAt : JournalLine → Text → Type 0
EndsAt (told.Settling uid dest came now) rest = EndsDigits rest
EndsAt (told.Dropping uid dest now) rest = EndsDigits rest
EndsAt line rest = Unit {0}

-- what a line of that kind says
pub record IsSaid (kind : CallKind) (text : Text) (line : JournalLine) (rest : Text) : Type 0 where
  pub of_kind : kind_of line ≡ kind
  pub held : IsHeldLine line
  pub ends : EndsAt line rest
  pub is : text ≡ said_then line rest

pub record IsLineFirst (text : Text) (line : JournalLine) (rest : Text) : Type 0 where
  pub held : IsHeldLine line
  pub ends : EndsAt line rest
  pub is : text ≡ line_then line rest

-- ---- what places show

pub record ShowsKey (places : KeyPlaces) (key : Key) : Type 0 where
  pub class : Holds places.class.now key.class
  pub syntax : places.syntax ≡ key.syntax
  pub modality : Holds places.modality.now key.modality
  pub station : Holds places.station.now key.station

pub record ShowsItem (places : ItemPlaces) (item : Instance) : Type 0 where
  pub uid : Holds places.uid.now item.uid
  pub key : ShowsKey places.key item.key
  pub size : places.size ≡ item.size
  pub digest : places.digest ≡ item.digest

-- at this place the names stand
abbrev pub HoldsNames : Text → List Text → Type 0
HoldsNames place names = (rest : Text) × IsNames place names rest

abbrev pub ShowsLine : LinePlaces → JournalLine → Type 0
ShowsLine (stands.Arrival caller item to keep) (told.Arrival c i t k) =
    Holds caller.now c × ShowsItem item i × HoldsNames to.now t × (keep ≡ k)
ShowsLine (stands.Repeat caller item) (told.Repeat c i) = Holds caller.now c × ShowsItem item i
ShowsLine (stands.Settling uid dest came now) (told.Settling u d o n) =
    Holds uid.now u × Holds dest.now d × (came ≡ o) × (now ≡ n)
ShowsLine (stands.Requeuing uid dest) (told.Requeuing u d) = Holds uid.now u × Holds dest.now d
ShowsLine (stands.Dropping uid dest now) (told.Dropping u d n) =
    Holds uid.now u × Holds dest.now d × (now ≡ n)
ShowsLine (stands.Forgetting uid) (told.Forgetting u) = Holds uid.now u
ShowsLine stands.Adoption told.Adoption = Unit {0}
ShowsLine places line = ⊥
