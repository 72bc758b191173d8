-- What ledgers tell of a next plan is what the world asks for at an adoption.
use Rattle.std.proofs.Common.{◌≡◌, ◌≢◌, refl, sym, ap, subst, ◌∙◌, Bool, true, false, None, Some}
use Rattle.std.specs.declared.cmp.Ordering.{Ordering}
use Rattle.std.specs.declared.cmp.Ordering.TheVariants.{Less, Equal, Greater}
use Rattle.std.specs.Ordering.{ordering_then, ordering_reverse}
use Rattle.std.proofs.lemmas.Map.Lookups.{exact_pairs, exact_bytes}
use Rattle.std.proofs.lemmas.Cmp.{nat_list_cmp_total, on_total, then_total}
use mathlib.Core.Logic.{inl, inr}
use Rattle.std.specs.FinMap as map
use Rattle.std.specs.FinSet as set
use Rattle.dr_base.specs.Texts.{Text, text_cmp}
use Rattle.dr_plan_model.specs.Networks.{Network}
use Rattle.dr_route.specs.Routes.{local}
use Rattle.dr_plan_sound.proofs.Hopping.{goes_to}
use Rattle.dr_ledger.specs.Books.{Book}
use Rattle.dr_ledger.specs.Adopting.{IsUnfit, Unfits}
use Rattle.dr_ledger.specs.Pairs.{Pair, pair_cmp}
use Rattle.dr_ledger.proofs.Maps.{IsExact, texts, text_pairs}
use Rattle.dr_ledger.proofs.Ones.{texts_or_not, tied}
use Rattle.dr_world_model.specs.Worlds.{World}
use Rattle.dr_world_model.specs.Fitting.{ArmedNodesForbid, FirstUnfitIsOne, FitBooksMayTurn, LedgersFindTheFirst, OpenLinksForbid, Spot, UnfitRowsForbid, spot_cmp}
use Rattle.dr_world_model.proofs.AdoptionsKept.{no_row}
use Rattle.dr_world_model.proofs.Walking.{goes_reached}

pub fit_books_may_turn : FitBooksMayTurn
fit_books_may_turn next w none fit name uid to row item h queued has = elim (texts_or_not name local) [
  | inr other ↦ goes_to next item.key name to other (fit name (uid, to) row item h queued has)
  | inl is ↦ absurd (no_row row (sym (map.get-empty pair_cmp (uid, to)) ∙ (ap (λ (b : Book). map.get b.rows (uid, to)) (sym none) ∙ (ap (λ (n : Text). map.get (w.books n).rows (uid, to)) (sym is) ∙ h))))
]

pub unfit_rows_forbid : UnfitRowsForbid
unfit_rows_forbid plan w next name at unfit may = unfit.5 (goes_reached next unfit.1.key name at.1 (may.fit name at.0 at.1 unfit.0 unfit.1 unfit.2 unfit.3 unfit.4))

-- ---- the first unfit row
spots : IsExact spot_cmp
spots = record {
  total = then_total (on_total (λ (s : Spot). s.0) nat_list_cmp_total) (on_total (λ (s : Spot). s.1) text_pairs.total);
  exact = exact_pairs text_cmp pair_cmp exact_bytes text_pairs.exact;
}

pub first_unfit_is_one : FirstUnfitIsOne
first_unfit_is_one next w None None u v = refl
first_unfit_is_one next w None (Some at) u v = (let x = v.0 in absurd (x.5 (u at.0 at.1 x.0 x.1 x.2 x.3 x.4)))
first_unfit_is_one next w (Some at) None u v = (let x = u.0 in absurd (x.5 (v at.0 at.1 x.0 x.1 x.2 x.3 x.4)))
first_unfit_is_one next w (Some at) (Some other) u v =
    ap Some (spots.exact at other (tied (spot_cmp at other) (spot_cmp other at) (spots.total.antisymm other at) (u.1 other v.0) (v.1 at u.0)))

module _ (next : Network) (w : World) (name : Text) (at : Pair) (own : Unfits next name (w.books name) (Some at))
    (earlier : (other : Text) → text_cmp other name ≡ Less → Unfits next other (w.books other) None) where
  no_earlier : (other : Spot) → IsUnfit next other.0 (w.books other.0) other.1 → (r : Ordering) → text_cmp name other.0 ≡ r → ordering_then r (pair_cmp at other.1) ≢ Greater
  no_earlier other x Less e = λ g. (let f : ⊥ = cc in f)
  no_earlier other x Equal e = own.1 other.1 (subst (λ n. IsUnfit next n (w.books n) other.1) (sym (texts.exact name other.0 e)) x)
  no_earlier other x Greater e =
      let before : text_cmp other.0 name ≡ Less = texts.total.antisymm other.0 name ∙ ap ordering_reverse e in
      absurd (x.5 (earlier other.0 before other.1 x.0 x.1 x.2 x.3 x.4))

pub ledgers_find_the_first : LedgersFindTheFirst
ledgers_find_the_first next w name at own earlier = (own.0, λ other x. no_earlier next w name at own earlier other x (text_cmp name other.0) refl)

on_and_off : (b : Bool) → b ≡ true → b ≡ false → ⊥
on_and_off b t f = cc

pub open_links_forbid : OpenLinksForbid
open_links_forbid plan w next number link at (inl on) may = on_and_off link.caller_connected on (may.off number link at).0
open_links_forbid plan w next number link at (inr on) may = on_and_off link.receiver_connected on (may.off number link at).1

pub armed_nodes_forbid : ArmedNodesForbid
armed_nodes_forbid plan w next name is armed may = on_and_off (set.contains w.armed name) armed (may.unarmed name is)
