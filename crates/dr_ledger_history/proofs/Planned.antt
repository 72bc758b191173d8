-- What a site's targets are.
use Rattle.std.proofs.Common.{◌≡◌, ◌≢◌, Bool, true, false, not, Contains, List, refl, sym, ◌∙◌}
use Rattle.std.specs.Prelude.{◌↔◌, IsTrue}
use mathlib.Core.Bool.{beq}
use Rattle.std.proofs.lemmas.Bool.{false≢true}
use Rattle.dr_base.specs.Texts.{Text, IsInByteOrder}
use Rattle.dr_route.specs.declared.key.Key.{Key}
use Rattle.dr_site.specs.Parts.{Part}
use Rattle.dr_site.specs.Routing.{HasLineFor, KeepsAt, SendsFrom}
use Rattle.dr_ledger.specs.PlanRoutes.{keeps_by, targets_by}
use Rattle.dr_ledger.specs.SiteRoutes.{site_routing}
use Rattle.dr_ledger.proofs.PlanRouting.{keeps_by_where_kept, one_list, targets_by_are_in_order, targets_by_are_sent_to}

-- what a plan says of an arrival at the site
abbrev pub IsArrivalBy : Part → Text → Key → List Text → Bool → Type 0
IsArrivalBy part caller key to keep = HasLineFor part caller key × (to ≡ (site_routing part).targets caller key) × (keep ≡ (site_routing part).keeps caller key)

both_ways : (a b : Bool) → (IsTrue a → IsTrue b) → (IsTrue b → IsTrue a) → a ≡ b
both_ways true true there back = refl
both_ways true false there back = absurd (false≢true (there refl))
both_ways false true there back = absurd (false≢true (back refl))
both_ways false false there back = refl

targets_are : (part : Part) (caller : Text) (key : Key) (to : List Text) → ((dest : Text) → Contains to dest ↔ SendsFrom part caller key dest) → IsInByteOrder to → to ≡ (site_routing part).targets caller key
targets_are part caller key to says ordered =
    let sent = targets_by_are_sent_to part.flows part.rules part.name caller key in
    one_list to (targets_by part.flows part.rules part.name caller key) ordered (targets_by_are_in_order part.flows part.rules part.name caller key)
    (λ dest. (λ h. (sent dest).1 ((says dest).0 h), λ h. (says dest).1 ((sent dest).0 h)))

keep_is : (part : Part) (caller : Text) (key : Key) (keep : Bool) → (IsTrue keep ↔ KeepsAt part caller key) → keep ≡ (site_routing part).keeps caller key
keep_is part caller key keep says =
    let kept = keeps_by_where_kept part.rules caller key in
    both_ways keep (keeps_by part.rules caller key) (λ h. kept.1 (says.0 h)) (λ h. says.1 (kept.0 h))

pub other_keep : (part : Part) (caller : Text) (key : Key) (to : List Text) (keep kept : Bool) → (IsTrue kept ↔ KeepsAt part caller key) → keep ≢ kept → IsTrue false ↔ IsArrivalBy part caller key to keep
other_keep part caller key to keep kept says differ = (λ h. absurd (false≢true h), λ by. absurd (differ (by.2 ∙ sym (keep_is part caller key kept says))))

pub just_these : (part : Part) (caller : Text) (key : Key) (to targets : List Text) (keep kept b : Bool) → HasLineFor part caller key →
    ((dest : Text) → Contains targets dest ↔ SendsFrom part caller key dest) → IsInByteOrder targets → (IsTrue kept ↔ KeepsAt part caller key) → keep ≡ kept → (IsTrue b ↔ (to ≡ targets)) →
    IsTrue b ↔ IsArrivalBy part caller key to keep
just_these part caller key to targets keep kept b line sends ordered keeps same test =
    let is = targets_are part caller key targets sends ordered in (
      λ h. (line, test.0 h ∙ is, same ∙ keep_is part caller key kept keeps),
      λ by. test.1 (by.1 ∙ sym is),
    )

-- what a test of two truths says
pub differ : (a b : Bool) → not (beq a b) ≡ true → a ≢ b
differ true true h = λ e. let f : ⊥ = cc in f
differ true false h = λ e. let f : ⊥ = cc in f
differ false true h = λ e. let f : ⊥ = cc in f
differ false false h = λ e. let f : ⊥ = cc in f

pub same : (a b : Bool) → not (beq a b) ≡ false → a ≡ b
same true true h = refl
same true false h = absurd (let f : ⊥ = cc in f)
same false true h = absurd (let f : ⊥ = cc in f)
same false false h = refl

pub no_both : (b : Bool) → IsTrue b → b ≡ false → ⊥
no_both true h n = (let f : ⊥ = cc in f)
no_both false h n = false≢true h
