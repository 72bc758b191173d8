-- A walker goes to one more stop.
use Rattle.std.proofs.Common.{◌≡◌, ◌≢◌, ℕ, zero, suc, ◌<◌, inl, inr, refl, sym, ◌∙◌, ap, subst, List, [], ◌∷◌, ◌++◌, length, get_or, set, Contains, Bool, Some, true, false, arith}
use Rattle.std.specs.Prelude.{AllPairs, slice_get, ◌↔◌}
use Rattle.std.proofs.lemmas.Bool.{cases_eq, false≢true}
use Rattle.std.proofs.lemmas.List.{get_or-set_same, append-nil, length-set}
use Rattle.std.proofs.lemmas.List.Quantifiers.{all_pairs_push}
use Rattle.std.proofs.lemmas.List.Elements.{Contains-push, Contains-push_cases, Contains-append_left, Contains-get_or}
use Rattle.std.proofs.lemmas.Option.{same_Some, slice_get-get_or, slice_get_within}
use Rattle.dr_plan_model.specs.Networks.{Network}
use Rattle.dr_plan_sound.specs.declared.certificate.Stop.{Stop}
use Rattle.dr_plan_sound.specs.declared.certificate.Line.{Line}
use Rattle.dr_plan_model.specs.Plans.{IsWellFormed}
use Rattle.dr_cert.specs.Indexing.{AreSorted, StandsAt}
use Rattle.dr_cert.specs.Walking.{IsWalking, IsFurther, IsComeTo, AfterMark}
use Rattle.dr_cert.specs.declared.walker.Walker.{Walker}

pub set_other : (bs : List Bool) (p q : ℕ) → (q ≡ p → ⊥) → slice_get (set bs p true) q ≡ slice_get bs q
set_other [] p q other = refl
set_other (b ∷ bs) zero zero other = absurd (other refl)
set_other (b ∷ bs) zero (suc q) other = refl
set_other (b ∷ bs) (suc p) zero other = refl
set_other (b ∷ bs) (suc p) (suc q) other = set_other bs p q (λ e. other (ap (λ (n : ℕ). suc n) e))

pub set_here : (bs : List Bool) (p : ℕ) → p < length bs → slice_get (set bs p true) p ≡ Some true
set_here bs p h =
    let n = length-set bs p true in
    slice_get-get_or (set bs p true) p false (omega (arith, n)) ∙ ap (λ (b : Bool). Some b) (get_or-set_same bs p true false h)

pub in_lines : (lines : List Line) (stop : Stop) (place : ℕ) → StandsAt lines stop place → place < length lines
in_lines lines stop place at = slice_get_within lines place at.0 at.1

-- one line stands at a place
pub the_line : (lines : List Line) (stop : Stop) (place : ℕ) (line : Line) → StandsAt lines stop place → slice_get lines place ≡ Some line → line.stop ≡ stop
the_line lines stop place line at here = ap (λ (l : Line). l.stop) (same_Some line at.0 (sym here ∙ at.1)) ∙ at.2

pub unchanged : (w : Walker) → IsFurther w w
unchanged w = record { plan = refl; lines = refl; reached = ([], sym (append-nil w.reached.items)) }

-- the place was reached before
pub marked_before : (w : Walker) (stop : Stop) (place : ℕ) → IsWalking w → StandsAt w.lines.now stop place → get_or w.marks.items place true ≡ true → AfterMark w w stop (Some place)
marked_before w stop place walking at mark =
    let n = walking.long in
    let h = in_lines w.lines.now stop place at in
    let here : slice_get w.marks.items place ≡ Some true = slice_get-get_or w.marks.items place true (omega (arith, n, h)) ∙ ap (λ (b : Bool). Some b) mark in
    (walking, unchanged w, (walking.marked place).0 here, at)

-- it is reached now
pub marked_now : (old new : Walker) (stop : Stop) (place : ℕ) → IsWalking old → IsComeTo old.plan.now stop → StandsAt old.lines.now stop place → get_or old.marks.items place false ≡ false →
    new.plan ≡ old.plan → new.lines ≡ old.lines → new.local ≡ old.local → new.marks.items ≡ set old.marks.items place true → new.reached.items ≡ old.reached.items ++ place ∷ [] →
    AfterMark old new stop (Some place)
marked_now old new stop place walking come at unmarked plan lines local_caller marks reached =
    let n = walking.long in
    let h = in_lines old.lines.now stop place at in
    let in_marks : place < length old.marks.items = omega (arith, n, h) in
    let fresh : Contains old.reached.items place → ⊥ = λ among.
    let e : Some true ≡ Some false = sym ((walking.marked place).1 among) ∙ (slice_get-get_or old.marks.items place false in_marks ∙ ap (λ (b : Bool). Some b) unmarked) in
    false≢true (sym (same_Some true false e)) in
    let same_plan : new.plan.now ≡ old.plan.now = ap (λ p. p.now) plan in
    let same_lines : new.lines.now ≡ old.lines.now = ap (λ p. p.now) lines in (
      record {
        formed = (let P : Network → Type 0 = λ p. IsWellFormed p in subst P (sym same_plan) walking.formed);
        local_caller = ap (λ t. t.now) local_caller ∙ walking.local_caller;
        sorted = (let P : List Line → Type 0 = λ ls. AreSorted ls in subst P (sym same_lines) walking.sorted);
        long = ap (λ (bs : List Bool). length bs) marks ∙ (length-set old.marks.items place true ∙ (n ∙ ap (λ (ls : List Line). length ls) (sym same_lines)));
        marked = λ p.
            let M : List Bool → Type 0 = λ bs. (slice_get bs p ≡ Some true) ↔ Contains new.reached.items p in
            let R : List ℕ → Type 0 = λ rs. (slice_get (set old.marks.items place true) p ≡ Some true) ↔ Contains rs p in
            subst M (sym marks) (subst R (sym reached) (elim (cases_eq p place) [
              | inl same ↦
                  (let Q : ℕ → Type 0 = λ q. (slice_get (set old.marks.items place true) q ≡ Some true) ↔ Contains (old.reached.items ++ place ∷ []) q in
                  subst Q (sym same) (λ e. Contains-push old.reached.items place, λ among. set_here old.marks.items place in_marks))
              | inr other ↦ (
                λ e. Contains-append_left old.reached.items (place ∷ []) p ((walking.marked p).0 (sym (set_other old.marks.items place p other) ∙ e)),
                λ among. elim (Contains-push_cases old.reached.items place p among) [
                  | inl before ↦ set_other old.marks.items place p other ∙ (walking.marked p).1 before
                  | inr same ↦ absurd (other (sym same))
                ],
              )
            ]));
        apart =
            (let P : List ℕ → Type 0 = λ rs. AllPairs (λ a b. a ≢ b) rs in
            subst P (sym reached) (all_pairs_push (λ (a b : ℕ). a ≢ b) old.reached.items place walking.apart
            (λ k d in_k same. (let Q : ℕ → Type 0 = λ q. Contains old.reached.items q in fresh (subst Q same (Contains-get_or old.reached.items k d in_k))))));
        come_to = λ p line among here.
            let Q : List Line → Type 0 = λ ls. slice_get ls p ≡ Some line in
            let before : slice_get old.lines.now p ≡ Some line = subst Q same_lines here in
            let R : List ℕ → Type 0 = λ rs. Contains rs p in
            let S : Network → Type 0 = λ x. IsComeTo x line.stop in
            subst S (sym same_plan) (elim (Contains-push_cases old.reached.items place p (subst R reached among)) [
              | inl earlier ↦ walking.come_to p line earlier before
              | inr same ↦
                  (let T : ℕ → Type 0 = λ q. slice_get old.lines.now q ≡ Some line in
                  let stop_is : line.stop ≡ stop = the_line old.lines.now stop place line at (subst T (sym same) before) in
                  let U : Stop → Type 0 = λ s. IsComeTo old.plan.now s in
                  subst U (sym stop_is) come)
            ]);
      },
      record { plan = same_plan; lines = same_lines; reached = (place ∷ [], reached) },
      (let P : List ℕ → Type 0 = λ rs. Contains rs place in subst P (sym reached) (Contains-push old.reached.items place)),
      at,
    )
