-- What is added to a text, one behind the other.
use Rattle.std.proofs.Common.{◌≡◌, ◌∙◌, ℕ, List, [], ◌∷◌, ◌++◌, sym, ap, append_assoc}
use Rattle.std.proofs.lemmas.List.{append-nil}
use Rattle.dr_base.specs.Texts.{Text}
use Rattle.dr_ledger_balance.specs.Adding.{Adds}
use Rattle.dr_ledger_balance.specs.Pieces.{all_spelled}

pub added : (a b c : Text) (f g : Text → Text) → Adds a b f → Adds b c g → Adds a c (λ x. f (g x))
added a b c f g p q rest = q rest ∙ p (g rest)

-- bytes at the end
pub extended : (a b s : Text) → b ≡ a ++ s → Adds a b (λ x. s ++ x)
extended a b s e rest = ap (λ (t : Text). t ++ rest) e ∙ append_assoc a s rest

pub pushed : (a b : Text) (c : ℕ) → b ≡ a ++ c ∷ [] → Adds a b (λ x. c ∷ x)
pushed a b c e rest = ap (λ (t : Text). t ++ rest) e ∙ append_assoc a (c ∷ []) rest

-- ---- a list, one after the other

module _ {X : Type 0} (spelled : X → Text → Text) (old : Text) (all : List X) where
  -- what is left makes of this what all makes of what was there
  abbrev pub Makes : Text → List X → Type 0
  Makes out left = (rest : Text) → out ++ all_spelled spelled left rest ≡ old ++ all_spelled spelled all rest

  pub one_added : (out new : Text) (x : X) (left more : List X) → Makes out left → left ≡ x ∷ more → Adds out new (spelled x) → Makes new more
  one_added out new x left more so e add rest =
      add (all_spelled spelled more rest) ∙ ap (λ (l : List X). out ++ all_spelled spelled l rest) (sym e) ∙ so rest

  pub all_added : (out : Text) (left : List X) → Makes out left → left ≡ [] → (rest : Text) → out ++ rest ≡ old ++ all_spelled spelled all rest
  all_added out left so e rest = ap (λ (l : List X). out ++ all_spelled spelled l rest) (sym e) ∙ so rest

-- five, one behind the other, from nothing on
pub five_added : (a b c d e f : Text) (one two three four five : Text → Text) → a ≡ [] → Adds a b one → Adds b c two → Adds c d three → Adds d e four → Adds e f five → f ≡ one (two (three (four (five []))))
five_added a b c d e f one two three four five none p q r s t =
    sym (append-nil f) ∙ t [] ∙ s (five []) ∙ r (four (five [])) ∙ q (three (four (five []))) ∙ p (two (three (four (five [])))) ∙ ap (λ (l : Text). l ++ one (two (three (four (five []))))) none
