-- Items beside their prints.
use Rattle.std.proofs.Common.{◌≡◌, ℕ, List, Bool, true, false, cond, Option, Some, None, is_some}
use Rattle.std.proofs.Common.{refl, sym, ap, ◌∙◌}
use Rattle.std.specs.Cmp.Lexicographic.{nat_list_cmp_total}
use Rattle.std.specs.FinMap as map
use Rattle.std.specs.Ordering.{eq_by_cmp}
use Rattle.sqlite.specs.Tree.{Trees}
use Rattle.dr_base.specs.Texts.{Text, text_cmp}
use Rattle.dr_store_schema.specs.Books.{contents_in, wholes_in}
use Rattle.dr_store_changes.specs.Changes.{AreTogether}

-- where both tables are as they were
pub untouched : (old new : Trees) → new 1 ≡ old 1 → new 3 ≡ old 3
    → AreTogether old → AreTogether new
untouched old new items prints both uid =
    ap (λ rows. map.contains_key (contents_in rows) uid) items ∙ both uid
    ∙ sym (ap (λ rows. map.contains_key (wholes_in rows) uid) prints)

module _ (old new : Trees) (uid : Text) where
  -- where both have a row for one uid
  pub both_put : (body : List ℕ) (whole : ℕ)
      → contents_in (new 1) ≡ map.insert (contents_in (old 1)) uid body
      → wholes_in (new 3) ≡ map.insert (wholes_in (old 3)) uid whole
      → AreTogether old → AreTogether new
  both_put body whole contents wholes both q =
      ap (λ m. map.contains_key m q) contents
      ∙ ap is_some (map.get-insert nat_list_cmp_total (contents_in (old 1)) uid body q)
      ∙ go (eq_by_cmp text_cmp q uid) (map.get (contents_in (old 1)) q)
      (map.get (wholes_in (old 3)) q) (both q)
      ∙ sym (ap is_some (map.get-insert nat_list_cmp_total (wholes_in (old 3)) uid whole q))
      ∙ sym (ap (λ m. map.contains_key m q) wholes)
    where
      go : (b : Bool) (x : Option (List ℕ)) (y : Option ℕ) → is_some x ≡ is_some y
          → is_some (cond b (Some body) x) ≡ is_some (cond b (Some whole) y)
      go true x y same = refl
      go false x y same = same

  -- where neither has one any more
  pub both_left : contents_in (new 1) ≡ map.remove (contents_in (old 1)) uid
      → wholes_in (new 3) ≡ map.remove (wholes_in (old 3)) uid
      → AreTogether old → AreTogether new
  both_left contents wholes both q =
      ap (λ m. map.contains_key m q) contents
      ∙ ap is_some (map.get-remove nat_list_cmp_total (contents_in (old 1)) uid q)
      ∙ go (eq_by_cmp text_cmp q uid) (map.get (contents_in (old 1)) q)
      (map.get (wholes_in (old 3)) q) (both q)
      ∙ sym (ap is_some (map.get-remove nat_list_cmp_total (wholes_in (old 3)) uid q))
      ∙ sym (ap (λ m. map.contains_key m q) wholes)
    where
      go : (b : Bool) (x : Option (List ℕ)) (y : Option ℕ) → is_some x ≡ is_some y
          → is_some (cond b None x) ≡ is_some (cond b None y)
      go true x y same = refl
      go false x y same = same
