-- Passages and their numbers, counted hop by hop.
use Rattle.std.proofs.Common.{◌≡◌, ◌≢◌, ℕ, zero, suc, ◌+◌, ◌*◌, ◌<◌, ◌≤◌, ◌⊎◌, inl, inr, refl, sym, ◌∙◌, ap, subst, List, [], ◌∷◌, ◌++◌, length, get_or, take, Contains, Option, Some, None, true, false, cond, arith, length-append, append_assoc}
use Rattle.std.specs.Prelude.{◌↔◌, ◌&&◌, Bool, AllPairs, All, filter, map, slice_get}
use Rattle.std.specs.BTreeMap.{BTreeMap, Updates}
use Rattle.std.proofs.lemmas.Bool.{cases_Bool, false≢true}
use Rattle.std.proofs.lemmas.List.Elements.{filter-append, Contains-push, Contains-push_cases, Contains-append_left}
use Rattle.dr_base.specs.Texts.{Text}
use Rattle.dr_base.specs.declared.syntax.Syntax.{Syntax}
use Rattle.dr_route.specs.Routes.{local}
use Rattle.dr_plan_sound.specs.declared.certificate.Stop.{Stop}
use Rattle.dr_plan_sound.specs.declared.certificate.Line.{Line}
use Rattle.dr_cert_hops.specs.declared.hops.Passage.{Passage}
use Rattle.dr_cert_hops.specs.declared.hops.Ends.{Ends}
use Rattle.dr_cert_hops.specs.Numbering.{IsPassage, shown_passage, pair_of, goes_over, count_over, counted, ends_cmp, ends_at}
use Rattle.std.proofs.lemmas.List.{append-nil}
use Rattle.dr_cert_hops.proofs.Keys.{goes_itself, goes_same, goes_ends, same_passage, counted_here, counted_elsewhere}

-- ---- lines, one after another
later : (lines : List Line) (line : Line) (p : Passage) → IsPassage lines p → IsPassage (lines ++ line ∷ []) p
later lines line p h = (h.0, h.1, Contains-append_left lines (line ∷ []) _ h.2, h.3, h.4, h.5, h.6)

pub line_added : (lines : List Line) (line : Line) (s n : List Passage) → line.stop.caller ≢ local → ((p : Passage) → Contains s p ↔ IsPassage lines p) →
    ((p : Passage) → Contains n p ↔ (Contains s p ⊎ (shown_passage line ≡ p))) → (p : Passage) → Contains n p ↔ IsPassage (lines ++ line ∷ []) p
line_added lines line s n other so_far added p = (
  λ had. elim ((added p).0 had) [
    | inl before ↦ later lines line p ((so_far p).0 before)
    | inr same ↦
        let P : Passage → Type 0 = λ x. IsPassage (lines ++ line ∷ []) x in
        subst P same (line.stop, line.rank, Contains-push lines line, refl, refl, other, refl)
  ],
  λ h. elim (Contains-push_cases lines line (record { stop = h.0; rank = h.1 }) h.2) [
    | inl before ↦ (added p).1 (inl ((so_far p).1 (h.0, h.1, before, h.3, h.4, h.5, h.6)))
    | inr same ↦
        let stop : line.stop ≡ h.0 = ap (λ (l : Line). l.stop) same in
        let f : line.stop.caller ≡ p.from = ap (λ (x : Stop). x.caller) stop ∙ h.3 in
        let t : line.stop.node ≡ p.to = ap (λ (x : Stop). x.node) stop ∙ h.4 in
        let pair : (let q : Text × Syntax = (line.stop.cell.class, line.stop.cell.syntax) in q) ≡ pair_of p =
        ap (λ (x : Stop). let q : Text × Syntax = (x.cell.class, x.cell.syntax) in q) stop ∙ sym h.6 in
        (added p).1 (inr (same_passage (shown_passage line) p f t (ap (λ (q : Text × Syntax). q.0) pair) (ap (λ (q : Text × Syntax). q.1) pair)))
  ],
)

pub line_passed_over : (lines : List Line) (line : Line) (s : List Passage) → line.stop.caller ≡ local → ((p : Passage) → Contains s p ↔ IsPassage lines p) →
    (p : Passage) → Contains s p ↔ IsPassage (lines ++ line ∷ []) p
line_passed_over lines line s here so_far p = (
  λ had. later lines line p ((so_far p).0 had),
  λ h. elim (Contains-push_cases lines line (record { stop = h.0; rank = h.1 }) h.2) [
    | inl before ↦ (so_far p).1 (h.0, h.1, before, h.3, h.4, h.5, h.6)
    | inr same ↦ absurd (h.5 (sym h.3 ∙ (ap (λ (l : Line). l.stop.caller) (sym same) ∙ here)))
  ],
)

-- ---- one more passage
count_here : (a b : Text) (done : List Passage) (q : Passage) → goes_over a b q ≡ true → count_over a b (done ++ q ∷ []) ≡ count_over a b done + 1
count_here a b done q e =
    let one : filter (goes_over a b) (q ∷ []) ≡ q ∷ [] = rw e refl in
    ap (λ (ps : List Passage). length ps) (filter-append (goes_over a b) done (q ∷ []) ∙ ap (λ (ps : List Passage). filter (goes_over a b) done ++ ps) one)
    ∙ length-pushed (filter (goes_over a b) done) q
  where
    length-pushed : (xs : List Passage) (x : Passage) → length (xs ++ x ∷ []) ≡ length xs + 1
    length-pushed xs x = simp length-append (omega arith)

count_elsewhere : (a b : Text) (done : List Passage) (q : Passage) → goes_over a b q ≡ false → count_over a b (done ++ q ∷ []) ≡ count_over a b done
count_elsewhere a b done q e =
    let none : filter (goes_over a b) (q ∷ []) ≡ [] = rw e refl in
    ap (λ (ps : List Passage). length ps) (filter-append (goes_over a b) done (q ∷ []) ∙ (ap (λ (ps : List Passage). filter (goes_over a b) done ++ ps) none ∙ append-nil (filter (goes_over a b) done)))

pub one_over : (q : Passage) (done : List Passage) (n : ℕ) → count_over q.from q.to done ≡ n → count_over q.from q.to (done ++ q ∷ []) ≡ n + 1
one_over q done n e = count_here q.from q.to done q (goes_itself q q refl) ∙ ap (λ (m : ℕ). m + 1) e

pub counts_more : (m n : BTreeMap Ends ℕ) (q : Passage) (done : List Passage) (before : ℕ) → before ≡ count_over q.from q.to done → Updates ends_cmp m n (ends_at q) (Some (before + 1)) →
    ((p : Passage) → counted m p ≡ count_over p.from p.to done) → (p : Passage) → counted n p ≡ count_over p.from p.to (done ++ q ∷ [])
counts_more m n q done before count updates so_far p = elim (cases_Bool (goes_over p.from p.to q)) [
  | inl here ↦
      let same : ends_at p ≡ ends_at q = goes_same p q here in
      let P : Ends → Type 0 = λ x. before ≡ count_over x.from x.to done in
      let at_p : before ≡ count_over p.from p.to done = subst P (sym same) count in
      counted_here m n q (before + 1) updates p here ∙ (ap (λ (k : ℕ). k + 1) at_p ∙ sym (count_here p.from p.to done q here))
  | inr other ↦ counted_elsewhere m n q (before + 1) updates p other ∙ (so_far p ∙ sym (count_elsewhere p.from p.to done q other))
]

pub few_more : (q : Passage) (done : List Passage) (before : ℕ) → before ≡ count_over q.from q.to done → before < 128 → ((a b : Text) → count_over a b done ≤ 128) →
    (a b : Text) → count_over a b (done ++ q ∷ []) ≤ 128
few_more q done before count small so_far a b = elim (cases_Bool (goes_over a b q)) [
  | inl here ↦
      let ends = goes_ends a b q here in
      let P : Ends → Type 0 = λ x. before ≡ count_over x.from x.to done in
      let at_ab : before ≡ count_over a b done = subst P (sym ends) count in
      let e = count_here a b done q here in omega arith
  | inr other ↦ (let e = count_elsewhere a b done q other in let few = so_far a b in omega arith)
]
