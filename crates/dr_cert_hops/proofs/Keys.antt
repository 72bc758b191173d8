-- Passages and ends as keys: equal keys are the same.
use Rattle.std.proofs.Common.{◌≡◌, ◌≢◌, ℕ, ◌+◌, ◌⊎◌, inl, inr, refl, sym, ◌∙◌, ap, subst, List, [], ◌∷◌, ◌++◌, length, get_or, Contains, Option, Some, true, false, arith}
use Rattle.std.specs.Prelude.{◌↔◌, ◌&&◌, AllPairs, IsTrue, unwrap_or}
use Rattle.std.specs.declared.cmp.Ordering.{Ordering}
use Rattle.std.specs.declared.cmp.Ordering.TheVariants.{Less, Equal, Greater}
use Rattle.std.specs.Ordering.{ordering_then}
use Rattle.std.specs.BTreeSet.{BTreeSet, contains, Updates}
use Rattle.std.specs.BTreeMap as tree
use Rattle.std.specs.BTreeMap.{BTreeMap, is_at, get}
use Rattle.std.specs.Cmp.{Equal-is, IsTotalOrder}
use Rattle.std.specs.Str.{bytes_eq}
use Rattle.std.proofs.lemmas.Cmp.{tied_itself}
use Rattle.std.proofs.lemmas.Bool.{cases_Bool, false≢true}
use Rattle.std.proofs.lemmas.Slice.Eq.{bytes_eq-Decides}
use Rattle.std.proofs.lemmas.Map.Lookups.{exact_bytes, CmpEqualImpliesEq}
use Rattle.std.proofs.lemmas.Map.Views.{btree_set_contains_iff}
use Rattle.dr_base.specs.Texts.{Text, text_cmp}
use Rattle.dr_base.specs.declared.syntax.Syntax.{Syntax}
use Rattle.dr_base.specs.declared.syntax.Syntax.TheVariants.{Implicit, Explicit}
use Rattle.dr_base.specs.contracts.syntax.SyntaxOrd.TheImpl as syntaxes
use Rattle.dr_cert_hops.specs.declared.hops.Passage.{Passage}
use Rattle.dr_cert_hops.specs.declared.hops.Ends.{Ends}
use Rattle.dr_cert_hops.specs.contracts.hops.PassageOrd.TheImpl.Laws as passage_laws
use Rattle.dr_cert_hops.specs.contracts.hops.EndsOrd.TheImpl.Laws as ends_laws
use Rattle.dr_cert_hops.specs.Numbering.{passage_cmp, ends_cmp, ends_at, goes_over, counted}

pub then_equal : (o p : Ordering) → ordering_then o p ≡ Equal → (o ≡ Equal) × (p ≡ Equal)
then_equal Less p e = absurd (cc e)
then_equal Equal p e = (refl, e)
then_equal Greater p e = absurd (cc e)

syntax_exact : (a b : Syntax) → syntaxes.cmp-value.it a b ≡ Equal → a ≡ b
syntax_exact Implicit Implicit e = refl
syntax_exact Implicit Explicit e = absurd (cc e)
syntax_exact Explicit Implicit e = absurd (cc e)
syntax_exact Explicit Explicit e = refl

pub same_passage : (a b : Passage) → a.from ≡ b.from → a.to ≡ b.to → a.class ≡ b.class → a.syntax ≡ b.syntax → a ≡ b
same_passage a b f t c s =
    let mk : Text → Text → Text → Syntax → Passage = λ w x y z. record { «from» = w; «to» = x; class = y; syntax = z } in
    ap (λ (w : Text). mk w a.to a.class a.syntax) f ∙ (ap (λ (x : Text). mk b.from x a.class a.syntax) t
    ∙ (ap (λ (y : Text). mk b.from b.to y a.syntax) c ∙ ap (λ (z : Syntax). mk b.from b.to b.class z) s))

pub passage_exact : CmpEqualImpliesEq passage_cmp
passage_exact a b e =
    let f = then_equal (text_cmp a.from b.from) _ e in
    let t = then_equal (text_cmp a.to b.to) _ f.1 in
    let c = then_equal (text_cmp a.class b.class) (syntaxes.cmp-value.it a.syntax b.syntax) t.1 in
    same_passage a b (exact_bytes a.from b.from f.0) (exact_bytes a.to b.to t.0) (exact_bytes a.class b.class c.0) (syntax_exact a.syntax b.syntax c.1)

pub ends_exact : CmpEqualImpliesEq ends_cmp
ends_exact a b e =
    let f = then_equal (text_cmp a.from b.from) (text_cmp a.to b.to) e in
    let mk : Text → Text → Ends = λ w x. record { «from» = w; «to» = x } in
    ap (λ (w : Text). mk w a.to) (exact_bytes a.from b.from f.0) ∙ ap (λ (x : Text). mk b.from x) (exact_bytes a.to b.to f.1)

-- ---- a set with one more passage
pub passage_added : (s n : BTreeSet Passage) (k : Passage) → Updates passage_cmp s n k true → (m : Passage) → Contains n.keys m ↔ (Contains s.keys m ⊎ (k ≡ m))
passage_added s n k h m =
    let in_n = btree_set_contains_iff passage_laws.total-law passage_exact n m in
    let in_s = btree_set_contains_iff passage_laws.total-law passage_exact s m in (
      λ had. elim (cases_Bool (is_at (passage_cmp k) m)) [
        | inl here ↦ inr (passage_exact k m ((Equal-is (passage_cmp k m)).0 here))
        | inr apart ↦ inl (in_s.0 (sym (h.2 m apart) ∙ in_n.1 had))
      ],
      λ had. elim had [
        | inl before ↦ in_n.0 (h.0 m ∙ elim (cases_Bool (is_at (passage_cmp k) m)) [
          | inl here ↦ rw here refl
          | inr apart ↦ rw apart (in_s.1 before)
        ])
        | inr same ↦
            let P : Passage → Type 0 = λ x. Contains n.keys x in
            subst P same ((btree_set_contains_iff passage_laws.total-law passage_exact n k).0 h.1)
      ],
    )

-- ---- counts with one more
pub goes_ends : (a b : Text) (q : Passage) → goes_over a b q ≡ true → (let e : Ends = record { «from» = a; «to» = b } in e) ≡ ends_at q
goes_ends a b q e = elim (cases_Bool (bytes_eq a q.from)) [
  | inl f ↦
      let t : bytes_eq b q.to ≡ true = rw f at e in
      let mk : Text → Text → Ends = λ w x. record { «from» = w; «to» = x } in
      ap (λ (w : Text). mk w b) ((bytes_eq-Decides a q.from).0 f) ∙ ap (λ (x : Text). mk q.from x) ((bytes_eq-Decides b q.to).0 t)
  | inr f ↦ absurd (false≢true (rw f at e))
]

pub goes_same : (p q : Passage) → goes_over p.from p.to q ≡ true → ends_at p ≡ ends_at q
goes_same p q e = goes_ends p.from p.to q e

pub goes_itself : (p q : Passage) → ends_at p ≡ ends_at q → goes_over p.from p.to q ≡ true
goes_itself p q same =
    let f : bytes_eq p.from q.from ≡ true = (bytes_eq-Decides p.from q.from).1 (ap (λ (e : Ends). e.from) same) in
    let t : bytes_eq p.to q.to ≡ true = (bytes_eq-Decides p.to q.to).1 (ap (λ (e : Ends). e.to) same) in
    rw f t

pub counted_here : (m n : BTreeMap Ends ℕ) (q : Passage) (count : ℕ) → tree.Updates ends_cmp m n (ends_at q) (Some count) → (p : Passage) → goes_over p.from p.to q ≡ true → counted n p ≡ count
counted_here m n q count h p e =
    let same = goes_same p q e in
    ap (λ (x : Ends). unwrap_or (get ends_cmp n x) 0) same ∙ ap (λ (o : Option ℕ). unwrap_or o 0) h.1

pub counted_elsewhere : (m n : BTreeMap Ends ℕ) (q : Passage) (count : ℕ) → tree.Updates ends_cmp m n (ends_at q) (Some count) → (p : Passage) → goes_over p.from p.to q ≡ false → counted n p ≡ counted m p
counted_elsewhere m n q count h p e =
    let apart : is_at (ends_cmp (ends_at q)) (ends_at p) ≡ false = elim (cases_Bool (is_at (ends_cmp (ends_at q)) (ends_at p))) [
      | inl here ↦ absurd (false≢true (sym e ∙ goes_itself p q (sym (ends_exact (ends_at q) (ends_at p) ((Equal-is (ends_cmp (ends_at q) (ends_at p))).0 here)))))
      | inr other ↦ other
    ] in
    ap (λ (o : Option ℕ). unwrap_or o 0) (h.2 (ends_at p) apart)
