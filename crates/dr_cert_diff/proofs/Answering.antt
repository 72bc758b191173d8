-- What changes for the keys of one cell, by what one of them shows.
use Rattle.std.proofs.Common.{◌≡◌, ◌≢◌, ◌⊎◌, ◌↔◌, inl, inr, refl, sym, subst, None, List, [], Contains}
use Rattle.dr_base.specs.Texts.{Text}
use Rattle.dr_route.specs.Laws.{key_of}
use Rattle.dr_route.specs.Routes.{local}
use Rattle.dr_route.specs.declared.key.Key.{Key}
use Rattle.dr_route.specs.declared.cell.OwnedCell.{OwnedCell}
use Rattle.dr_plan_model.specs.Networks.{Network}
use Rattle.dr_plan_model.specs.Walks.{IsDestination}
use Rattle.dr_plan_model.proofs.Gathered.{nothing_in_nil}
use Rattle.dr_cert_diff.specs.declared.change.RouteChange.{RouteChange}
use Rattle.dr_cert_diff.specs.Comparing.{Compares, IsWithout}
use Rattle.dr_cert_diff.specs.Differing.{IsLost, IsRight, LiesInBoth}
use Rattle.dr_cert_diff.proofs.Refining.{gained_alike, lost_alike}

module _ (old new : Network) (site : Text) (cell : OwnedCell) (lies : LiesInBoth old new cell (key_of cell)) (before after lost gained : List Text)
    (was : (dest : Text) → Contains before dest ↔ IsDestination old local site (key_of cell) dest) (now : (dest : Text) → Contains after dest ↔ IsDestination new local site (key_of cell) dest)
    (lost_is : IsWithout before after lost) (gained_is : IsWithout after before gained) where
  is_lost : (dest : Text) → Contains lost dest ↔ IsLost old new site (key_of cell) dest
  is_lost dest = (
    λ h. (let w = (lost_is dest).0 h in ((was dest).0 w.0, λ kept. w.1 ((now dest).1 kept))),
    λ l. (lost_is dest).1 ((was dest).1 l.0, λ among. l.1 ((now dest).0 among)),
  )

  is_gained : (dest : Text) → Contains gained dest ↔ IsLost new old site (key_of cell) dest
  is_gained dest = (
    λ h. (let w = (gained_is dest).0 h in ((now dest).0 w.0, λ kept. w.1 ((was dest).1 kept))),
    λ l. (gained_is dest).1 ((now dest).1 l.0, λ among. l.1 ((was dest).0 among)),
  )

  pub unchanged : lost ≡ [] → gained ≡ [] → Compares old new site cell None
  unchanged no_lost no_gained key of_key dest (inl l) =
      nothing_in_nil dest (subst (λ (xs : List Text). Contains xs dest) no_lost ((is_lost dest).1 (lost_alike old new cell key (key_of cell) of_key lies site dest l)))
  unchanged no_lost no_gained key of_key dest (inr g) =
      nothing_in_nil dest (subst (λ (xs : List Text). Contains xs dest) no_gained ((is_gained dest).1 (gained_alike old new cell key (key_of cell) of_key lies site dest g)))

  pub changed : (lost ≢ []) ⊎ (gained ≢ []) → IsRight old new (record { site = site; cell = cell; lost = lost; gained = gained })
  changed some = record {
    some_key = lies;
    lost = λ key of_key dest. (
      λ h. lost_alike old new cell (key_of cell) key lies of_key site dest ((is_lost dest).0 h),
      λ l. (is_lost dest).1 (lost_alike old new cell key (key_of cell) of_key lies site dest l),
    );
    gained = λ key of_key dest. (
      λ h. gained_alike old new cell (key_of cell) key lies of_key site dest ((is_gained dest).0 h),
      λ g. (is_gained dest).1 (gained_alike old new cell key (key_of cell) of_key lies site dest g),
    );
    some = some;
  }
