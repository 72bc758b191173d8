-- Rows that stood, goal after goal.
use Rattle.std.specs.Prelude.{◌≡◌, List, [], ◌∷◌, ◌++◌, Contains}
use Rattle.std.proofs.Common.{refl, sym, ap, subst, ◌∙◌}
use Rattle.std.proofs.lemmas.List.{append-nil, append_assoc}
use Rattle.std.proofs.lemmas.List.Elements.{Contains-append_cases}
use mathlib.Core.Logic.{inl, inr}
use Rattle.dr_base.specs.Texts.{Text}
use Rattle.dr_plan_model.specs.Networks.{Network}
use Rattle.dr_plan_model.proofs.Gathered.{nothing_in_nil, only_one}
use Rattle.dr_ledger.specs.Books.{Book, Line}
use Rattle.dr_ledger.specs.Pairs.{Pair}
use Rattle.dr_world_audit.specs.declared.hop.AuditHop.{AuditHop as Held}
use Rattle.dr_world_audit.specs.Hops.{grows_by}
use Rattle.dr_world_audit.specs.Standing.{FitsAt}
use Rattle.dr_world_audit.proofs.Lists.{grown, same}
use Rattle.dr_world_journals.specs.Hops.{goals, goals_by, standing, stands_at}

-- what stands for these goals fits, and is noted
abbrev pub AllStand : Network → Text → Book → List Pair → List Held → List Held → Type 0
AllStand plan name b all old new = grows_by old (standing name b all) new × ((at : Pair) → Contains all at → FitsAt plan name b at)

standing_append : (name : Text) (b : Book) (all more : List Pair) → standing name b (all ++ more) ≡ standing name b all ++ standing name b more
standing_append name b [] more = refl
standing_append name b (at ∷ all) more = ap (λ hs. stands_at name b at ++ hs) (standing_append name b all more) ∙ sym (append_assoc (stands_at name b at) (standing name b all) (standing name b more))

module _ (plan : Network) (name : Text) (b : Book) where
  pub none_stand : (held : List Held) → AllStand plan name b [] held held
  none_stand held = (same held held refl, λ at h. absurd (nothing_in_nil at h))

  pub more_stand : (all more : List Pair) (old mid new : List Held) → AllStand plan name b all old mid → AllStand plan name b more mid new → AllStand plan name b (all ++ more) old new
  more_stand all more old mid new f g = (
    subst (λ hs. grows_by old hs new) (sym (standing_append name b all more)) (grown old (standing name b all) mid (standing name b more) new f.0 g.0),
    λ at h. elim (Contains-append_cases all more at h) [ inl was ↦ f.1 at was | inr now ↦ g.1 at now ],
  )

  pub one_stands : (at : Pair) (mid new : List Held) → grows_by mid (stands_at name b at) new → FitsAt plan name b at → AllStand plan name b (at ∷ []) mid new
  one_stands at mid new hops fits = (
    subst (λ hs. grows_by mid hs new) (sym (append-nil (stands_at name b at))) hops,
    λ other h. subst (FitsAt plan name b) (only_one at other h) fits,
  )

-- the goals of one line more
pub goals_push : (lines : List Line) (line : Line) → goals (lines ++ line ∷ []) ≡ goals lines ++ goals_by line
goals_push [] line = append-nil (goals_by line)
goals_push (first ∷ lines) line = ap (λ gs. goals_by first ++ gs) (goals_push lines line) ∙ sym (append_assoc (goals_by first) (goals lines) (goals_by line))
