-- Names of nodes: which are named, and whose ledgers go over.
use Rattle.std.specs.Prelude.{◌≡◌, ◌⊎◌, ℕ, Bool, List, Contains, filter, not}
use Rattle.std.specs.Borrow.{Bor}
use Rattle.std.specs.List.{list_any}
use Rattle.std.specs.Str.{bytes_eq}
use Rattle.dr_base.specs.Texts.{Text}
use Rattle.dr_plan_model.specs.Networks.{Network}
use Rattle.dr_plan_model.specs.Plans.{AreNames, NamesNoNode}
use Rattle.dr_run_open.specs.declared.halt.Halt.{Halt}
use Rattle.dr_run_open.specs.declared.halt.Halt.TheVariants.{NoPlan, NoCertificate, NoNode}
use Rattle.dr_run_open.specs.declared.halt.Halt.TheVariants.{NotOpened, NoInstance, Refused}
use Rattle.dr_run_open.specs.declared.halt.Halt.TheVariants.{Receipt, Failed, Memory}

-- the other name is this one
abbrev pub is_name : Text → Text → Bool
is_name name other = bytes_eq other name

-- the name is one of these
abbrev pub is_among : List Text → Text → Bool
is_among names name = list_any (is_name name) names

-- the name is none of these
abbrev pub is_besides : List Text → Text → Bool
is_besides names name = not (is_among names name)

-- each of these is the name of a node of the plan
abbrev pub AreNodes : Network → List Text → Type 0
AreNodes plan names = (name : Text) → Contains names name → NamesNoNode plan name → ⊥

-- the bytes of a word
abbrev pub text_of : Bor (List ℕ) → Text
text_of word = word.now

-- The nodes whose ledgers go over from the one plan to the next: those of the one but the others,
-- in the order of the bytes of their names. Each of the others is a node of the one plan, and each
-- node of that is one of the next.
pub record AreOurs (old next : Network) (others ours : List Text) : Type 0 where
  pub names : List Text
  pub are : AreNames old names
  pub stay : AreNodes next names
  pub known : AreNodes old others
  pub besides : ours ≡ filter (is_besides others) names

-- Why it isn't known which they are: one of the others is no node of the one plan; a node of that
-- is none of the next; or want of memory.
abbrev pub IsUnnamed : Network → Network → List Text → Halt → Type 0
IsUnnamed old next others NoNode =
    ((name : Text) × Contains others name × NamesNoNode old name)
    ⊎ ((name : Text) × (names : List Text) × AreNames old names × Contains names name
    × NamesNoNode next name)
IsUnnamed old next others Memory = Unit {0}
IsUnnamed old next others (NotOpened fault) = ⊥
IsUnnamed old next others (Refused fault) = ⊥
IsUnnamed old next others (NoPlan told) = ⊥
IsUnnamed old next others (NoCertificate fault) = ⊥
IsUnnamed old next others (NoInstance fault) = ⊥
IsUnnamed old next others Receipt = ⊥
IsUnnamed old next others (Failed failure) = ⊥
