-- The order of entries: that in which they are printed.
use Rattle.std.specs.Prelude.{◌≡◌, ◌⊎◌, List, AllPairs}
use Rattle.std.specs.declared.cmp.Ordering.TheVariants.{Less}
use Rattle.dr_base.specs.Texts.{Text, text_cmp}
use Rattle.dr_base.specs.Syntaxes.{syntax_uid}
use Rattle.dr_route.specs.declared.cell.OwnedCell.{OwnedCell}
use Rattle.dr_plan_sound.specs.Printed.{printed_field}

-- the one text is less than the other, byte by byte
abbrev pub IsLess : Text → Text → Type 0
IsLess a b = text_cmp a b ≡ Less

-- One entry, a site and a cell, comes before another one: by the site's name; behind the same name
-- by the class; then by the UID of the transfer syntax; then by the part of modality as it is
-- printed; and then by the part of station as it is printed.
abbrev pub ComesBefore : Text → OwnedCell → Text → OwnedCell → Type 0
ComesBefore s c t d = IsLess s t ⊎ ((s ≡ t)
    × (IsLess c.class d.class ⊎ ((c.class ≡ d.class)
    × (IsLess (syntax_uid c.syntax) (syntax_uid d.syntax) ⊎ ((c.syntax ≡ d.syntax)
    × (IsLess (printed_field c.modality) (printed_field d.modality) ⊎ ((c.modality ≡ d.modality)
    × IsLess (printed_field c.station) (printed_field d.station))))))))

-- the items stand in the byte order of what they are printed as: none is less than one that stands
-- before it
abbrev pub IsInPrintedOrder : {X : Type 0} → (X → Text) → List X → Type 0
IsInPrintedOrder text items = AllPairs (λ a b. IsLess (text b) (text a) → ⊥) items
