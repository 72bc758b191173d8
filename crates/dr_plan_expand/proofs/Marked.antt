-- Words that begin with `@`.
use Rattle.std.proofs.Common.{◌≡◌, sym, ◌∙◌, ap, drop, ◌∷◌}
use Rattle.dr_base.specs.Texts.{Text}

-- what follows the mark is one text
pub same_mark : (word a b : Text) → word ≡ 64 ∷ a → word ≡ 64 ∷ b → a ≡ b
same_mark word a b p q = ap (λ (t : Text). drop 1 t) (sym p ∙ q)
