-- Visits in a loop: what has been wanted so far has been visited.
use Rattle.std.proofs.Common.{◌≡◌, ℕ, ◌<◌, length, take, get_or, ◌⊎◌, inl, inr, refl, sym, ◌∙◌, subst, List, [], ◌∷◌, ◌++◌, Contains, Some}
use Rattle.std.specs.Prelude.{slice_get, ◌↔◌, Option, None, is_some, true, false}
use Rattle.std.proofs.lemmas.Option.{same_Some}
use Rattle.std.proofs.lemmas.List.Elements.{Contains-push_cases, All-contains}
use Rattle.dr_base.specs.Texts.{Text}
use Rattle.dr_route.specs.declared.cell.OwnedCell.{OwnedCell}
use Rattle.dr_plan_model.specs.declared.plan.Flow.{Flow}
use Rattle.dr_plan_model.specs.Networks.{Network}
use Rattle.dr_plan_model.proofs.Gathered.{nothing_in_nil}
use Rattle.dr_plan_model.proofs.WalksAlike.{all_from_each}
use Rattle.dr_plan_entries.specs.Entering.{AllBelow, SomeTakes, TakesIn}
use Rattle.dr_plan_entries.specs.InOrder.{IsLess, ComesBefore, IsInPrintedOrder}
use Rattle.dr_plan_entries.proofs.Orders.{stands_before}
use Rattle.dr_plan_entries.specs.Visiting.{VisitorGoesOn, AfterVisits, AfterVisit, IsThis}

-- where no flow is left, nothing is wanted
pub none_takes : (flows : List Flow) (among : List ℕ) (cell : OwnedCell) → among ≡ [] → SomeTakes flows among cell → ⊥
none_takes flows among cell none takes = let P : List ℕ → Type 0 = λ ks. Contains ks takes.0 in nothing_in_nil takes.0 (subst P none takes.1)

-- just the places among those at which S holds of the flow
abbrev pub Picks : List Flow → List ℕ → (Flow → Type 0) → List ℕ → Type 0
Picks flows among S found = (k : ℕ) → Contains found k ↔ (Contains among k × ((flow : Flow) × (slice_get flows k ≡ Some flow) × S flow))

-- the flows of which S holds take in the cells of which it is known
pub picked_takes : (flows : List Flow) (among found : List ℕ) (S : Flow → Type 0) (cell : OwnedCell) → Picks flows among S found →
    ((flow : Flow) → TakesIn flow cell → S flow) → SomeTakes flows among cell → SomeTakes flows found cell
picked_takes flows among found S cell picks speaks takes =
    let flow : Flow = takes.2.0 in
    (takes.0, (picks takes.0).1 (takes.1, (flow, takes.2.1, speaks flow takes.2.2)), takes.2)

-- what flows that were picked take in, some flow among all takes in
pub picked_back : (flows : List Flow) (among found : List ℕ) (S : Flow → Type 0) (cell : OwnedCell) → Picks flows among S found → SomeTakes flows found cell → SomeTakes flows among cell
picked_back flows among found S cell picks takes = (takes.0, ((picks takes.0).0 takes.1).0, takes.2)

pub picked_is : (flows : List Flow) (among found : List ℕ) (S : Flow → Type 0) → Picks flows among S found → (k : ℕ) (flow : Flow) → Contains found k → slice_get flows k ≡ Some flow →
    Contains among k × S flow
picked_is flows among found S picks k flow has at =
    let n = (picks k).0 has in
    let e : n.1.0 ≡ flow = same_Some _ _ (sym n.1.1 ∙ at) in
    (n.0, subst S e n.1.2)

pub picked_below : (flows : List Flow) (among found : List ℕ) (S : Flow → Type 0) → Picks flows among S found → AllBelow among flows → AllBelow found flows
picked_below flows among found S picks below = all_from_each (λ k. k < length flows) found
    (λ k has. All-contains (λ n. n < length flows) among k below ((picks k).0 has).0)

module _ {V F : Type 0} (plan : V → Network) (ready : V → Type 0) (visited : V → Text → OwnedCell → Type 0) (shows : V → F → Text → OwnedCell → Type 0) where
  abbrev Went : (Text → OwnedCell → Type 0) → V → V → Type 0
  Went Wanted old new = VisitorGoesOn plan ready visited shows Wanted old new

  abbrev After : (Text → OwnedCell → Type 0) → V → V → Option F → Type 0
  After Wanted old new found = AfterVisits plan ready visited shows Wanted old new found

  pub stays : (Wanted : Text → OwnedCell → Type 0) (v : V) → ready v → ((s : Text) (c : OwnedCell) → Wanted s c → ⊥) → Went Wanted v v
  stays Wanted v is_ready nothing = record {
    same_plan = refl;
    is_ready = is_ready;
    shown = λ f s c h. h;
    kept = λ s c h. h;
    wanted = λ s c w. absurd (nothing s c w);
  }

  -- visits of the one and then of the other
  pub both_went : (One Other Both : Text → OwnedCell → Type 0) (old mid new : V) → ((s : Text) (c : OwnedCell) → Both s c → One s c ⊎ Other s c) → Went One old mid → Went Other mid new →
      Went Both old new
  both_went One Other Both old mid new either a b = record {
    same_plan = b.same_plan ∙ a.same_plan;
    is_ready = b.is_ready;
    shown = λ f s c h. a.shown f s c (b.shown f s c h);
    kept = λ s c h. b.kept s c (a.kept s c h);
    wanted = λ s c w. elim (either s c w) [ inl x ↦ b.kept s c (a.wanted s c x) | inr x ↦ b.wanted s c x ];
  }

  pub one_more : {X : Type 0} (value : Text → OwnedCell → X) (Outer Inner : Text → OwnedCell → Type 0) (first more : List X) (x : X) (old mid new : V) → more ≡ first ++ x ∷ [] →
      Went (λ s c. Outer s c × Contains first (value s c)) old mid → Went Inner mid new →
      ((s : Text) (c : OwnedCell) → Outer s c → x ≡ value s c → Inner s c) →
      Went (λ s c. Outer s c × Contains more (value s c)) old new
  one_more {X} value Outer Inner first more x old mid new pushed a b inner =
      both_went (λ s c. Outer s c × Contains first (value s c)) Inner (λ s c. Outer s c × Contains more (value s c)) old mid new
      (λ s c w.
      let P : List X → Type 0 = λ xs. Contains xs (value s c) in
      elim (Contains-push_cases first x (value s c) (subst P pushed w.1)) [
        | inl before ↦ inl (w.0, before)
        | inr same ↦ inr (inner s c w.0 same)
      ]) a b

  pub all_of_them : {X : Type 0} (value : Text → OwnedCell → X) (Outer : Text → OwnedCell → Type 0) (all : List X) (old new : V) →
      Went (λ s c. Outer s c × Contains all (value s c)) old new → ((s : Text) (c : OwnedCell) → Outer s c → Contains all (value s c)) →
      Went Outer old new
  all_of_them value Outer all old new a whole = record {
    same_plan = a.same_plan;
    is_ready = a.is_ready;
    shown = a.shown;
    kept = a.kept;
    wanted = λ s c w. a.wanted s c (w, whole s c w);
  }

  pub went_on : (Wanted : Text → OwnedCell → Type 0) (old new : V) (found : Option F) → is_some found ≡ false → After Wanted old new found → Went Wanted old new
  went_on Wanted old new None none after = after
  went_on Wanted old new (Some f) none after = absurd (cc none)

  -- visits of the same entries
  pub wants_alike : (One Other : Text → OwnedCell → Type 0) (old new : V) (found : Option F) → ((s : Text) (c : OwnedCell) → Other s c ↔ One s c) → After One old new found → After Other old new found
  wants_alike One Other old new None same after = record {
    same_plan = after.same_plan;
    is_ready = after.is_ready;
    shown = after.shown;
    kept = after.kept;
    wanted = λ s c w. after.wanted s c ((same s c).0 w);
  }
  wants_alike One Other old new (Some f) same after = record {
    site = after.site;
    cell = after.cell;
    wanted = (same after.site after.cell).1 after.wanted;
    there = after.there;
    earlier = record {
      same_plan = after.earlier.same_plan;
      is_ready = after.earlier.is_ready;
      shown = after.earlier.shown;
      kept = after.earlier.kept;
      wanted = λ s c w. after.earlier.wanted s c ((same s c).0 w.0, w.1);
    };
    shown = after.shown;
  }

  -- Visits of some entries, and then of others, at which something is found: each entry that comes before is one of these or of those.
  pub found_later : (One Other Both : Text → OwnedCell → Type 0) (old mid new : V) (found : Option F) → is_some found ≡ true → Went One old mid → After Other mid new found →
      ((s : Text) (c : OwnedCell) → Other s c → Both s c) →
      ((s t : Text) (c d : OwnedCell) → Both s c → Other t d → ComesBefore s c t d → One s c ⊎ Other s c) → After Both old new found
  found_later One Other Both old mid new None some a b whole earlier = absurd (cc some)
  found_later One Other Both old mid new (Some f) some a b whole earlier = record {
    site = b.site;
    cell = b.cell;
    wanted = whole b.site b.cell b.wanted;
    there = b.there;
    earlier = both_went One (λ s c. Other s c × ComesBefore s c b.site b.cell) (λ s c. Both s c × ComesBefore s c b.site b.cell) old mid b.there
        (λ s c w. elim (earlier s b.site c b.cell w.0 b.wanted w.1) [ inl x ↦ inl x | inr x ↦ inr (x, w.1) ]) a b.earlier;
    shown = b.shown;
  }

  -- the same where nothing was visited yet
  pub found_first : (Other Both : Text → OwnedCell → Type 0) (old new : V) (found : Option F) → is_some found ≡ true → After Other old new found →
      ((s : Text) (c : OwnedCell) → Other s c → Both s c) →
      ((s t : Text) (c d : OwnedCell) → Both s c → Other t d → ComesBefore s c t d → Other s c) → After Both old new found
  found_first Other Both old new None some b whole earlier = absurd (cc some)
  found_first Other Both old new (Some f) some b whole earlier = record {
    site = b.site;
    cell = b.cell;
    wanted = whole b.site b.cell b.wanted;
    there = b.there;
    earlier = record {
      same_plan = b.earlier.same_plan;
      is_ready = b.earlier.is_ready;
      shown = b.earlier.shown;
      kept = b.earlier.kept;
      wanted = λ s c w. b.earlier.wanted s c (earlier s b.site c b.cell w.0 b.wanted w.1, w.1);
    };
    shown = b.shown;
  }

  -- Something is found at an item of a row that stands in printed order: what comes before it stands before it in the row, or is of the same item.
  pub found_in_row : {X : Type 0} (text : X → Text) (value : Text → OwnedCell → X) (Outer Inner : Text → OwnedCell → Type 0) (items : List X) (i : ℕ) (x : X) (old mid new : V) (found : Option F) →
      is_some found ≡ true → IsInPrintedOrder text items → i < length items → get_or items i x ≡ x → Went (λ s c. Outer s c × Contains (take i items) (value s c)) old mid → After Inner mid new found →
      ((s : Text) (c : OwnedCell) → Outer s c → Contains items (value s c)) →
      ((s : Text) (c : OwnedCell) → Outer s c → x ≡ value s c → Inner s c) →
      ((s : Text) (c : OwnedCell) → Inner s c → Outer s c × (value s c ≡ x)) →
      ((s t : Text) (c d : OwnedCell) → Outer s c → Outer t d → ComesBefore s c t d → IsLess (text (value s c)) (text (value t d)) ⊎ (value s c ≡ value t d)) → After Outer old new found
  found_in_row {X} text value Outer Inner items i x old mid new found some ordered below at a b whole into out levels =
      found_later (λ s c. Outer s c × Contains (take i items) (value s c)) Inner Outer old mid new found some a b (λ s c w. (out s c w).0)
      (λ s t c d w other before.
      let is = out t d other in
      let L : X → Type 0 = λ y. IsLess (text (value s c)) (text y) in
      elim (levels s t c d w is.0 before) [
        | inl less ↦ inl (w, stands_before text items i x (value s c) ordered below at (whole s c w) (subst L is.1 less))
        | inr same ↦ inr (into s c w (sym (same ∙ is.1)))
      ])

  -- visits of all of the one, and then of the other
  pub then_more : (One Other Both : Text → OwnedCell → Type 0) (old mid new : V) (found : Option F) → ((s : Text) (c : OwnedCell) → Both s c → One s c ⊎ Other s c) →
      ((s : Text) (c : OwnedCell) → Other s c → Both s c) → Went One old mid → After Other mid new found → After Both old new found
  then_more One Other Both old mid new None either whole a b = both_went One Other Both old mid new either a b
  then_more One Other Both old mid new (Some f) either whole a b = found_later One Other Both old mid new (Some f) refl a b whole (λ s t c d w other before. either s c w)

  -- the visit of one entry, of which it is known that it is the only one that is wanted
  pub the_only_one : (Wanted : Text → OwnedCell → Type 0) (site : Text) (cell : OwnedCell) (old new : V) (found : Option F) → ready old → Wanted site cell →
      ((s : Text) (c : OwnedCell) → Wanted s c → IsThis site cell s c) → (ComesBefore site cell site cell → ⊥) → AfterVisit plan ready visited shows site cell old new found → After Wanted old new found
  the_only_one Wanted site cell old new None is_ready here only apart after = record {
    same_plan = after.same_plan;
    is_ready = after.is_ready;
    shown = after.shown;
    kept = after.kept;
    wanted = λ s c w. after.wanted s c (only s c w);
  }
  the_only_one Wanted site cell old new (Some f) is_ready here only apart after = record {
    site = site;
    cell = cell;
    wanted = here;
    there = old;
    earlier = stays (λ s c. Wanted s c × ComesBefore s c site cell) old is_ready
        (λ s c w.
        let this = only s c w.0 in
        let P : Text → Type 0 = λ x. ComesBefore x cell site cell in
        let Q : OwnedCell → Type 0 = λ x. ComesBefore s x site cell in
        apart (subst P this.0 (subst Q this.1 w.1)));
    shown = after;
  }
