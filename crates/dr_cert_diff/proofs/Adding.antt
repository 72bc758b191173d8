-- Changes that are added, cell by cell.
use Rattle.std.proofs.Common.{◌≡◌, ℕ, ◌+◌, ◌<◌, ◌⊎◌, ◌∙◌, inl, inr, refl, sym, ap, subst, None, List, [], ◌∷◌, ◌++◌, length, get_or, take, Contains}
use Rattle.std.proofs.lemmas.List.{take_more}
use Rattle.std.proofs.lemmas.List.Elements.{Contains-push_cases, Contains-push, Contains-append_left}
use Rattle.dr_base.specs.Texts.{Text}
use Rattle.dr_route.specs.declared.key.Key.{Key}
use Rattle.dr_route.specs.declared.cell.OwnedCell.{OwnedCell}
use Rattle.dr_plan_model.specs.Networks.{Network}
use Rattle.dr_plan_model.proofs.Gathered.{nothing_in_nil}
use Rattle.dr_cert_diff.specs.declared.change.RouteChange.{RouteChange}
use Rattle.dr_cert_diff.specs.Comparing.{Compares}
use Rattle.dr_cert_diff.specs.Differing.{IsLost, IsRight, IsInAChange, LiesInBoth}
use Rattle.dr_cert_diff.specs.Going.{Adds, At, Over}

module _ (old new : Network) where
  -- what is told stays told
  told_still : (before after : List RouteChange) → ((c : RouteChange) → Contains before c → Contains after c) → (site : Text) (key : Key) → IsInAChange old new before site key → IsInAChange old new after site key
  told_still before after kept site key told dest differs = let t = told dest differs in (t.0, kept t.0 t.1, t.2, t.3)

  pub adds_none : {X : Type 0} (Q : X → Text → Key → Type 0) (before : List RouteChange) → Adds old new (Over [] Q) before before
  adds_none Q before = record {
    right = λ h. h;
    kept = λ c h. h;
    whole = λ site key over. absurd (nothing_in_nil over.0 over.1);
  }

  pub adds_more : {X : Type 0} (Q : X → Text → Key → Type 0) (xs : List X) (i : ℕ) (x : X) (before mid after : List RouteChange) → i < length xs → x ≡ get_or xs i x →
      Adds old new (Over (take i xs) Q) before mid → Adds old new (Q x) mid after → Adds old new (Over (take (i + 1) xs) Q) before after
  adds_more {X} Q xs i x before mid after lt at first later =
      let pushed : take (i + 1) xs ≡ take i xs ++ x ∷ [] = take_more xs i x lt ∙ ap (λ (e : X). take i xs ++ e ∷ []) (sym at) in
      record {
        right = λ h. later.right (first.right h);
        kept = λ c h. later.kept c (first.kept c h);
        whole = λ site key over. elim (Contains-push_cases (take i xs) x over.0 (subst (λ (ys : List X). Contains ys over.0) pushed over.1)) [
          | inl earlier ↦ told_still mid after later.kept site key (first.whole site key (over.0, earlier, over.2))
          | inr same ↦ later.whole site key (subst (λ (y : X). Q y site key) (sym same) over.2)
        ];
      }

  pub adds_both : (P Q : Text → Key → Type 0) (before mid after : List RouteChange) → Adds old new P before mid → Adds old new Q mid after → Adds old new (λ site key. P site key ⊎ Q site key) before after
  adds_both P Q before mid after first later = record {
    right = λ h. later.right (first.right h);
    kept = λ c h. later.kept c (first.kept c h);
    whole = λ site key either. elim either [
      | inl p ↦ told_still mid after later.kept site key (first.whole site key p)
      | inr q ↦ later.whole site key q
    ];
  }

  pub adds_fewer : (P Q : Text → Key → Type 0) (before after : List RouteChange) → ((site : Text) (key : Key) → Q site key → P site key) → Adds old new P before after → Adds old new Q before after
  adds_fewer P Q before after fewer adds = record {
    right = adds.right;
    kept = adds.kept;
    whole = λ site key q. adds.whole site key (fewer site key q);
  }

  module _ (at : Text) (cell : OwnedCell) (before : List RouteChange) where
    pub adds_nothing : Compares old new at cell None → Adds old new (At old new at cell) before before
    adds_nothing none = record {
      right = λ h. h;
      kept = λ c h. h;
      whole = λ site key here dest differs. absurd (none key here.1 dest (subst (λ (s : Text). IsLost old new s key dest ⊎ IsLost new old s key dest) here.0 differs));
    }

    pub adds_one : (change : RouteChange) → IsRight old new change → change.site ≡ at → change.cell ≡ cell → Adds old new (At old new at cell) before (before ++ change ∷ [])
    adds_one change right is_at is_cell = record {
      right = λ h other among. elim (Contains-push_cases before change other among) [
        | inl earlier ↦ h other earlier
        | inr same ↦ subst (λ (c : RouteChange). IsRight old new c) same right
      ];
      kept = λ c h. Contains-append_left before (change ∷ []) c h;
      whole = λ site key here dest differs. (change, Contains-push before change, is_at ∙ sym here.0, subst (λ (c : OwnedCell). LiesInBoth old new c key) (sym is_cell) here.1);
    }
