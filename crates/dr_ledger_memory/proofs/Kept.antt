-- What a ledger in memory promises of its book, whatever was called.
use Rattle.std.proofs.Common.{◌≡◌, ◌∙◌, ap, inl, inr, is_some, refl, Bool, true, false, ℕ, List, [], None, Option, Some, subst, sym}
use Rattle.std.specs.Prelude.{◌↔◌, IsTrue}
use Rattle.std.specs.FinMap as map
use Rattle.std.specs.Map.{keys_of}
use Rattle.std.specs.List.Sorted.{IsStrictlySortedBy}
use mathlib.Core.Logic.{∥∥₁_map}
use Rattle.std.proofs.Math.Logic.{∥∥₁_elim}
use Rattle.std.specs.BTreeMap as tree
use Rattle.dr_base.specs.Texts.{Text, text_cmp}
use Rattle.dr_site.specs.Parts.{Part}
use Rattle.dr_ledger.specs.Bodies.{HasAll, HasBodies, IsNeeded, IsThere}
use Rattle.dr_ledger.specs.Histories.{IsJournalled}
use Rattle.dr_ledger.specs.SiteRoutes.{site_routing}
use Rattle.dr_ledger_memory.specs.declared.held.Held.{Held as Entry}
use Rattle.dr_ledger_memory.specs.declared.parts.Parts.{Parts}
use Rattle.dr_ledger_memory.specs.Contents.{content, data_sets}
use Rattle.dr_ledger_memory.specs.Sound.{PartsAreSound}
use Rattle.dr_ledger.proofs.Needs.{needed_or_not}
use Rattle.dr_ledger_memory.proofs.Whole.{has_all, has_bodies}

pub journal_of : (part : Part) (p : Parts) → ∥ PartsAreSound part p ∥₁ → ∥ IsJournalled (site_routing part) (content p) ∥₁
journal_of part p h = ∥∥₁_map h (λ s. s.journalled)

pub bodies_of : (part : Part) (p : Parts) → tree.IsOrdered text_cmp p.held → ∥ PartsAreSound part p ∥₁ → ∥ HasBodies (content p) (data_sets p) ∥₁
bodies_of part p order h = ∥∥₁_map h (λ s. has_bodies p order s.whole)

-- each data set that is needed is there
pub all_there : (part : Part) (p : Parts) → tree.IsOrdered text_cmp p.held → ∥ PartsAreSound part p ∥₁ → HasAll (content p) (data_sets p)
all_there part p order h uid needed = by_found (map.get (data_sets p) uid) refl
  where
    by_found : (o : Option (List ℕ)) → map.get (data_sets p) uid ≡ o → IsThere (data_sets p) uid
    by_found (Some body) is = (body, is)
    by_found None is = absurd (∥∥₁_elim h (λ x y. absurd x) (λ s.
        let there = has_all p order s.whole uid needed in
        let e : None ≡ Some there.0 = sym is ∙ there.1 in
        absurd (cc e)))

-- a data set is there just where it is needed
pub there_where_needed : (part : Part) (p : Parts) → tree.IsOrdered text_cmp p.held → ∥ PartsAreSound part p ∥₁ → (uid : Text) (b : Bool) → b ≡ map.contains_key (data_sets p) uid
    → IsTrue b ↔ IsNeeded (content p) uid
there_where_needed part p order h uid b is = (λ t. is_needed (map.get (data_sets p) uid) refl (sym is ∙ t), λ n. (let there = all_there part p order h uid n in is ∙ ap is_some there.1))
  where
    is_needed : (o : Option (List ℕ)) → map.get (data_sets p) uid ≡ o → map.contains_key (data_sets p) uid ≡ true → IsNeeded (content p) uid
    is_needed None at t = absurd (let e : ◌≡◌ {A = Bool} false true = sym (ap is_some at) ∙ t in cc e)
    is_needed (Some body) at t = elim (needed_or_not (content p) uid) [
      | inl n ↦ n
      | inr none ↦ absurd (∥∥₁_elim h (λ x y. absurd x) (λ s. none ((has_bodies p order s.whole).there uid body at)))
    ]

-- nothing is in order
pub new_order : (p : Parts) → p.held.entries ≡ [] → tree.IsOrdered text_cmp p.held
unfolding IsStrictlySortedBy
new_order p none =
    let P : List (Text × Entry) → Type 0 = λ es. IsStrictlySortedBy text_cmp (keys_of es) in
    subst P (sym none) tt
