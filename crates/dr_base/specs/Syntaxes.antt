-- The UIDs of the two transfer syntaxes (PS3.5 A.1 and A.2).
use Rattle.std.specs.Prelude.{◌≡◌, ℕ, List, codes}
use Rattle.dr_base.specs.declared.syntax.Syntax.{Syntax}
use Rattle.dr_base.specs.declared.syntax.Syntax.TheVariants.{Implicit, Explicit}
use Rattle.dr_base.specs.Texts.{Text}

-- the UID of a transfer syntax: Implicit VR Little Endian (PS3.5 A.1) or Explicit VR Little Endian
-- (A.2)
abbrev pub syntax_uid : Syntax → List ℕ
syntax_uid Implicit = codes "1.2.840.10008.1.2"
syntax_uid Explicit = codes "1.2.840.10008.1.2.1"

-- the text is the UID of one of the two transfer syntaxes that are routed
pub record IsSyntax (uid : Text) : Type 0 where
  pub syntax : Syntax
  pub is : uid ≡ syntax_uid syntax

-- the text is the UID of neither of the two transfer syntaxes that are routed
abbrev pub NamesNoSyntax : List ℕ → Type 0
NamesNoSyntax text = (syntax : Syntax) → text ≡ syntax_uid syntax → ⊥
