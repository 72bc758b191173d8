-- Members of which each has one of a few values.
use Rattle.std.proofs.Common.{◌≡◌, ◌∙◌, ◌+◌, ◌*◌, ◌<◌, ◌^◌, ℕ, Bool, true, false, List, [], ◌∷◌, ◌++◌, Option, None, Some, Bor, refl, sym, ap, subst, arith, get_or, codes}
use Rattle.dr_base.specs.Texts.{Text}
use Rattle.dr_base.specs.declared.syntax.Syntax.{Syntax}
use Rattle.dr_base.specs.declared.syntax.Syntax.TheVariants.{Implicit, Explicit}
use Rattle.dr_ledger_text.proofs.Pieces.{behind_same}
use Rattle.dr_ledger_read.specs.Behind.{kind_text}
use Rattle.dr_ledger_read.specs.Cutting.{Cuts, HasNone, IsCut, Same}
use Rattle.dr_ledger_read.specs.Places.{IsKeep, IsKind, IsSyntax}
use Rattle.dr_ledger_read.specs.declared.kind.CallKind.{CallKind}
use Rattle.dr_ledger_read.specs.declared.kind.CallKind.TheVariants as kind

-- ---- the transfer syntax

same_syntax : (s t : Syntax) (text x y : List ℕ) → IsSyntax text s x → IsSyntax text t y → (s ≡ t) × (y ≡ x)
same_syntax Implicit Implicit text x y e f = (refl, sym (behind_same (codes ",\"syntax\":\"1.2.840.10008.1.2\"") x y (sym e ∙ f)))
same_syntax Explicit Explicit text x y e f = (refl, sym (behind_same (codes ",\"syntax\":\"1.2.840.10008.1.2.1\"") x y (sym e ∙ f)))
same_syntax Implicit Explicit text x y e f = let g : 34 ≡ 46 = ap (λ (l : List ℕ). get_or l 28 0) (sym e ∙ f) in absurd (omega (arith, g))
same_syntax Explicit Implicit text x y e f = let g : 46 ≡ 34 = ap (λ (l : List ℕ). get_or l 28 0) (sym e ∙ f) in absurd (omega (arith, g))

pub syntax_cut : (text : List ℕ) (s : Syntax) (rest : Bor (List ℕ)) → IsSyntax text s rest.now → IsCut Syntax Syntax Same (IsSyntax text) (s, rest)
syntax_cut text s rest is = record { value = s; is = is; each = λ t y f. same_syntax s t text rest.now y is f }

pub no_syntax : (text : List ℕ) → ((rest : List ℕ) → IsSyntax text Implicit rest → ⊥) → ((rest : List ℕ) → IsSyntax text Explicit rest → ⊥) → HasNone (IsSyntax text)
no_syntax text a b Implicit rest is = a rest is
no_syntax text a b Explicit rest is = b rest is

-- ---- whether it is kept

same_keep : (s t : Bool) (text x y : List ℕ) → IsKeep text s x → IsKeep text t y → (s ≡ t) × (y ≡ x)
same_keep true true text x y e f = (refl, sym (behind_same (codes ",\"keep\":true") x y (sym e ∙ f)))
same_keep false false text x y e f = (refl, sym (behind_same (codes ",\"keep\":false") x y (sym e ∙ f)))
same_keep true false text x y e f = let g : 116 ≡ 102 = ap (λ (l : List ℕ). get_or l 8 0) (sym e ∙ f) in absurd (omega (arith, g))
same_keep false true text x y e f = let g : 102 ≡ 116 = ap (λ (l : List ℕ). get_or l 8 0) (sym e ∙ f) in absurd (omega (arith, g))

pub keep_cut : (text : List ℕ) (s : Bool) (rest : Bor (List ℕ)) → IsKeep text s rest.now → IsCut Bool Bool Same (IsKeep text) (s, rest)
keep_cut text s rest is = record { value = s; is = is; each = λ t y f. same_keep s t text rest.now y is f }

pub no_keep : (text : List ℕ) → ((rest : List ℕ) → IsKeep text true rest → ⊥) → ((rest : List ℕ) → IsKeep text false rest → ⊥) → HasNone (IsKeep text)
no_keep text a b true rest is = a rest is
no_keep text a b false rest is = b rest is

-- ---- the kind

-- a number by which kinds are told apart: the three letters with which each begins
abbrev kind_number : List ℕ → ℕ
kind_number text = get_or text 9 0 * 65536 + get_or text 10 0 * 256 + get_or text 11 0

same_kind : (s t : CallKind) (text x y : List ℕ) → IsKind text s x → IsKind text t y → (s ≡ t) × (y ≡ x)
same_kind kind.Arrival kind.Arrival text x y e f = (refl, sym (behind_same (kind_text kind.Arrival) x y (sym e ∙ f)))
same_kind kind.Repeat kind.Repeat text x y e f = (refl, sym (behind_same (kind_text kind.Repeat) x y (sym e ∙ f)))
same_kind kind.Settling kind.Settling text x y e f = (refl, sym (behind_same (kind_text kind.Settling) x y (sym e ∙ f)))
same_kind kind.Requeuing kind.Requeuing text x y e f = (refl, sym (behind_same (kind_text kind.Requeuing) x y (sym e ∙ f)))
same_kind kind.Dropping kind.Dropping text x y e f = (refl, sym (behind_same (kind_text kind.Dropping) x y (sym e ∙ f)))
same_kind kind.Forgetting kind.Forgetting text x y e f = (refl, sym (behind_same (kind_text kind.Forgetting) x y (sym e ∙ f)))
same_kind kind.Adoption kind.Adoption text x y e f = (refl, sym (behind_same (kind_text kind.Adoption) x y (sym e ∙ f)))
same_kind s t text x y e f = absurd (omega (arith, ap kind_number (sym e ∙ f)))

pub kind_cut : (text : List ℕ) (s : CallKind) (rest : Bor (List ℕ)) → IsKind text s rest.now → IsCut CallKind CallKind Same (IsKind text) (s, rest)
kind_cut text s rest is = record { value = s; is = is; each = λ t y f. same_kind s t text rest.now y is f }

pub no_kind : (text : List ℕ) → ((rest : List ℕ) → IsKind text kind.Arrival rest → ⊥) → ((rest : List ℕ) → IsKind text kind.Repeat rest → ⊥) → ((rest : List ℕ) → IsKind text kind.Settling rest → ⊥)
    → ((rest : List ℕ) → IsKind text kind.Requeuing rest → ⊥) → ((rest : List ℕ) → IsKind text kind.Dropping rest → ⊥) → ((rest : List ℕ) → IsKind text kind.Forgetting rest → ⊥)
    → ((rest : List ℕ) → IsKind text kind.Adoption rest → ⊥) → HasNone (IsKind text)
no_kind text a b c d e f g kind.Arrival rest is = a rest is
no_kind text a b c d e f g kind.Repeat rest is = b rest is
no_kind text a b c d e f g kind.Settling rest is = c rest is
no_kind text a b c d e f g kind.Requeuing rest is = d rest is
no_kind text a b c d e f g kind.Dropping rest is = e rest is
no_kind text a b c d e f g kind.Forgetting rest is = f rest is
no_kind text a b c d e f g kind.Adoption rest is = g rest is
