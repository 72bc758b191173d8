-- What lasts through events and adoptions.
use Rattle.std.specs.Prelude.{◌≡◌, true, List, [], ◌∷◌, ◌++◌}
use Rattle.std.proofs.Common.{sym, ap, subst, ◌∙◌}
use Rattle.std.proofs.lemmas.List.{append-nil, append_assoc}
use mathlib.Core.Logic.{inl, inr}
use Rattle.std.specs.FinMap as map
use Rattle.std.specs.FinSet as set
use Rattle.dr_base.specs.Texts.{Text, text_cmp}
use Rattle.dr_plan_model.specs.Networks.{Network}
use Rattle.dr_plan_sound.specs.Soundness.{IsSound}
use Rattle.dr_ledger.specs.Books.{Book, Adoption}
use Rattle.dr_world_model.specs.Worlds.{World, start}
use Rattle.dr_world_model.specs.Runs.{Adopts, Action, Occurs, Adopt, Runs}
use Rattle.dr_world_model.specs.Theorem.{Lasts, KeptStaysKept}
use Rattle.dr_world_model.proofs.Safety.{IsSafe, WorldGrows}
use Rattle.dr_world_model.proofs.EventsKept.{step_kept}
use Rattle.dr_world_model.proofs.AdoptionsKept.{adoption_kept, node_or_not, no_row}
use Rattle.dr_world_model.proofs.FromSafety.{start_safe, run_kept}

lasts_grown : (old new : World) → WorldGrows old new → Lasts old new
lasts_grown old new g = record { items = λ name. (g.books name).items; kept = λ name. (g.books name).kept; journal = λ name. (g.books name).lines }

lasts_same : (w : World) → Lasts w w
lasts_same w = record { items = λ name uid item k h. h; kept = λ name uid h. h; journal = λ name. ([], sym (append-nil (w.books name).lines)) }

lasts_on : (a b c : World) → Lasts a b → Lasts b c → Lasts a c
lasts_on a b c f g = record {
  items = λ name uid item k h. g.items name uid item (f.kept name uid k) (f.items name uid item k h);
  kept = λ name uid h. g.kept name uid (f.kept name uid h);
  journal = λ name.
      let x = f.journal name in
      let y = g.journal name in
      (x.0 ++ y.0, y.1 ∙ (ap (λ l. l ++ y.0) x.1 ∙ append_assoc (a.books name).lines x.0 y.0));
}

adoption_lasts : (plan next : Network) (w new : World) → Adopts plan w next new → Lasts w new
adoption_lasts plan next w new a = record {
  items = λ name uid item k h. elim (node_or_not plan name) [
    | inl y ↦ ap (λ (b : Book). map.get b.items uid) (a.books name y) ∙ h
    | inr n ↦ absurd (no_row item (sym (map.get-empty text_cmp uid) ∙ (ap (λ (b : Book). map.get b.items uid) (sym (a.may.strangers name n)) ∙ h)))
  ];
  kept = λ name uid h. elim (node_or_not plan name) [
    | inl y ↦ ap (λ (b : Book). set.contains b.kept uid) (a.books name y) ∙ h
    | inr n ↦ absurd (none_kept uid (ap (λ (b : Book). set.contains b.kept uid) (sym (a.may.strangers name n)) ∙ h))
  ];
  journal = λ name. elim (node_or_not plan name) [
    | inl y ↦ (Adoption ∷ [], ap (λ (b : Book). b.lines) (a.books name y))
    | inr n ↦ ([], ap (λ (b : Book). b.lines) (a.joined name n ∙ sym (a.may.strangers name n)) ∙ sym (append-nil (w.books name).lines))
  ];
}
  where
    none_kept : (uid : Text) → set.contains (set.empty {R = text_cmp}) uid ≡ true → ⊥
    none_kept uid h = let e = set.contains-empty text_cmp uid in cc

run_lasts : (actions : List Action) (plan last : Network) → IsSound plan → (w new : World) → IsSafe plan w → Runs plan w actions last new → Lasts w new
run_lasts [] plan last sound w new safe r = subst (Lasts w) (sym r.1) (lasts_same w)
run_lasts (Occurs event ∷ actions) plan last sound w new safe r =
    let kept = step_kept plan sound event w r.0 safe r.1 in
    lasts_on w r.0 new (lasts_grown w r.0 kept.grows) (run_lasts actions plan last sound r.0 new kept.safe r.2)
run_lasts (Adopt next ∷ actions) plan last sound w new safe r =
    lasts_on w r.1.0 new (adoption_lasts plan next w r.1.0 r.1.1) (run_lasts actions next last r.0.1 r.1.0 new (adoption_kept plan next w r.1.0 safe r.1.1) r.1.2)

pub kept_stays_kept : KeptStaysKept
kept_stays_kept plan sound actions mid v r more last w t = let k = run_kept actions plan mid sound start v (start_safe plan) r in run_lasts more mid last k.1 v w k.0 t
