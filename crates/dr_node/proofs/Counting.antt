-- Which links are counted.
use Rattle.std.proofs.Common.{◌≡◌, ℕ, ◌==◌, ◌&&◌, not, Bool, true, false, cond, List, [], ◌∷◌, length, filter, refl, sym, ap, subst, ◌∙◌}
use Rattle.std.specs.declared.cmp.Ordering.{Ordering}
use Rattle.std.specs.declared.cmp.Ordering.TheVariants.{Less, Equal, Greater}
use Rattle.std.specs.Ordering.{nat_cmp}
use Rattle.std.specs.Cmp.{nat_cmp_total, unsigned_Decides}
use Rattle.std.specs.FinMap as map
use Rattle.std.specs.FinMap.{put}
use Rattle.std.specs.FinMap.Entries.{by_order}
use Rattle.dr_node.specs.declared.links.LinkSide.{LinkSide}
use Rattle.dr_node.specs.Laws.{CountsOthersAlone, NewLinksAreNotCounted}
use Rattle.dr_node.specs.Sides.{Sides, is_other, is_taken, others}

-- the link's own side isn't counted
not_own : (link number : ℕ) (side : LinkSide) → number ≡ link → is_other link (number, side) ≡ false
not_own link number side same = ap (λ b. not b && is_taken side) ((unsigned_Decides number link).1 same)

dropped : (p : ℕ × LinkSide → Bool) (e : ℕ × LinkSide) (es : List (ℕ × LinkSide)) → p e ≡ false → filter p (e ∷ es) ≡ filter p es
dropped p e es h = ap (λ b. cond b (e ∷ filter p es) (filter p es)) h

own_put : (link : ℕ) (side : LinkSide) (es : List (ℕ × LinkSide)) → filter (is_other link) (put nat_cmp link side es) ≡ filter (is_other link) es
own_put link side [] = dropped (is_other link) (link, side) [] (not_own link link side refl)
own_put link side (e ∷ es) = by_case (nat_cmp link e.0) refl (own_put link side es)
  where
    by_case : (r : Ordering) → nat_cmp link e.0 ≡ r → filter (is_other link) (put nat_cmp link side es) ≡ filter (is_other link) es →
        filter (is_other link) (by_order r ((link, side) ∷ e ∷ es) ((e.0, side) ∷ es) (e ∷ put nat_cmp link side es)) ≡ filter (is_other link) (e ∷ es)
    by_case Less is later = dropped (is_other link) (link, side) (e ∷ es) (not_own link link side refl)
    by_case Equal is later =
        let same : e.0 ≡ link = sym (map.nat_cmp-IsAntisymmetric link e.0 is) in
        dropped (is_other link) (e.0, side) es (not_own link e.0 side same) ∙ sym (dropped (is_other link) e es (not_own link e.0 e.1 same))
    by_case Greater is later = ap (λ fs. cond (is_other link e) (e ∷ fs) fs) later

pub counts_others_alone : CountsOthersAlone
counts_others_alone link old side = ap (λ es. length (filter (is_other link) es)) (map.entries-insert nat_cmp_total old link side) ∙ ap length (own_put link side (map.entries old))

pub new_links : NewLinksAreNotCounted
new_links site now = refl
