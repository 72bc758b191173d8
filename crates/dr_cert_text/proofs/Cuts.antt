-- A text cut at each mark.
use Rattle.std.proofs.Common.{◌≡◌, ◌≢◌, ℕ, false, eqb, List, [], ◌∷◌, ◌++◌, refl, ap, ◌∙◌, eq-eqb, inl, inr}
use Rattle.dr_cert_text.specs.Cuts.{grown, cuts, Lacks}
use Rattle.std.proofs.lemmas.List.Elements.{All-head, All-tail}
use borrow.Author.Tests.{eqb-true}
use Rattle.std.proofs.lemmas.Bool.{cases_Bool}

differs : (x y : ℕ) → x ≢ y → eqb x y ≡ false
differs x y apart = elim (cases_Bool (eqb x y)) [ inl e ↦ absurd (apart (eqb-true x y e)) | inr e ↦ e ]

pub cuts-at : (mark : ℕ) (part rest : List ℕ) → Lacks mark part → cuts mark (part ++ mark ∷ rest) ≡ part ∷ cuts mark rest
unfolding cuts grown
cuts-at mark [] rest none = rw (eq-eqb mark mark refl) refl
cuts-at mark (x ∷ part) rest none =
    rw (differs x mark (All-head (λ b. b ≢ mark) x part none), cuts-at mark part rest (All-tail (λ b. b ≢ mark) x part none)) refl

pub cuts-last : (mark : ℕ) (part : List ℕ) → Lacks mark part → cuts mark part ≡ part ∷ []
unfolding cuts grown
cuts-last mark [] none = refl
cuts-last mark (x ∷ part) none =
    rw (differs x mark (All-head (λ b. b ≢ mark) x part none), cuts-last mark part (All-tail (λ b. b ≢ mark) x part none)) refl

never_grown : (y : ℕ) (parts : List (List ℕ)) → grown y parts ≡ [] → ⊥
unfolding grown
never_grown y [] h = cc
never_grown y (p ∷ parts) h = cc

never_empty : (mark : ℕ) (text : List ℕ) → cuts mark text ≡ [] → ⊥
unfolding cuts
never_empty mark [] h = cc
never_empty mark (y ∷ text) h = elim (cases_Bool (eqb y mark)) [
  | inl here ↦ let h' : [] ∷ cuts mark text ≡ [] = rw here at h in absurd (cc)
  | inr other ↦ let h' : grown y (cuts mark text) ≡ [] = rw other at h in never_grown y (cuts mark text) h'
]

grown_one : (x : ℕ) (p : List ℕ) (parts : List (List ℕ)) (part : List ℕ) → grown x (p ∷ parts) ≡ part ∷ [] → (parts ≡ []) × (x ∷ p ≡ part)
unfolding grown
grown_one x p parts part e = (cc, cc)

one_by_parts : (mark x : ℕ) (text part : List ℕ) → ((p : List ℕ) → cuts mark text ≡ p ∷ [] → text ≡ p) → (parts : List (List ℕ)) → cuts mark text ≡ parts → grown x parts ≡ part ∷ [] → x ∷ text ≡ part
one_by_parts mark x text part again [] is e = absurd (never_empty mark text is)
one_by_parts mark x text part again (p ∷ parts) is e = let h = grown_one x p parts part e in ap (λ (t : List ℕ). x ∷ t) (again p (is ∙ ap (λ (ps : List (List ℕ)). p ∷ ps) h.0)) ∙ h.1

-- a text of one part is that part
pub cuts-one : (mark : ℕ) (text part : List ℕ) → cuts mark text ≡ part ∷ [] → text ≡ part
unfolding cuts
cuts-one mark [] part e = cc
cuts-one mark (x ∷ text) part e = elim (cases_Bool (eqb x mark)) [
  | inl here ↦ let e' : [] ∷ cuts mark text ≡ part ∷ [] = rw here at e in absurd (never_empty mark text (cc))
  | inr other ↦ let e' : grown x (cuts mark text) ≡ part ∷ [] = rw other at e in one_by_parts mark x text part (λ p. cuts-one mark text p) (cuts mark text) refl e'
]
