-- What a forgetting leaves.
use Rattle.std.proofs.Common.{◌≡◌, refl, sym, ap, ◌∙◌, inl, inr, Bool, true, false, cond, not, ◌&&◌, Option, None, Some}
use Rattle.std.specs.Ordering.{eq_by_cmp}
use Rattle.std.specs.FinMap as map
use Rattle.std.specs.FinSet as set
use Rattle.dr_base.specs.Texts.{Text, text_cmp}
use Rattle.dr_ledger.specs.declared.item.Instance.{Instance}
use Rattle.dr_ledger.specs.declared.item.Progress.{Progress}
use Rattle.dr_ledger.specs.Books.{Book, Forgetting, after, is_other}
use Rattle.dr_ledger.specs.Pairs.{Pair}
use Rattle.dr_ledger.specs.Replies.{IsOver}
use Rattle.dr_ledger.proofs.Maps.{texts, text_pairs, same_or_not}

abbrev pub Apart : Text → Text → Type 0
Apart uid other = eq_by_cmp text_cmp uid other ≡ false

some_other : {X : Type 0} (t : Bool) (o : Option X) (x : X) → cond (not t) o None ≡ Some x → (t ≡ false) × (o ≡ Some x)
some_other true o x h = absurd (let e : ⊥ = cc in e)
some_other false o x h = (refl, h)

some_left : {X : Type 0} (t : Bool) (o : Option X) (x : X) → cond t None o ≡ Some x → (t ≡ false) × (o ≡ Some x)
some_left true o x h = absurd (let e : ⊥ = cc in e)
some_left false o x h = (refl, h)

both_left : (c t : Bool) → (c && not t) ≡ true → (t ≡ false) × (c ≡ true)
both_left true true h = absurd (let e : ⊥ = cc in e)
both_left true false h = (refl, refl)
both_left false t h = absurd (let e : ⊥ = cc in e)

both_stay : (c t : Bool) → c ≡ true → t ≡ false → (c && not t) ≡ true
both_stay true true c t = absurd (let e : ⊥ = cc in e)
both_stay true false c t = refl
both_stay false u c t = absurd (let e : ⊥ = cc in e)

module _ (b : Book) (uid : Text) where
  pub item_is : (u : Text) → map.get (after (Forgetting uid) b).items u ≡ cond (eq_by_cmp text_cmp u uid) None (map.get b.items u)
  item_is u = map.get-remove texts.total b.items uid u

  pub row_is : (at : Pair) → map.get (after (Forgetting uid) b).rows at ≡ cond (is_other uid at.0) (map.get b.rows at) None
  row_is at = map.get-retain_keys b.rows (λ q. is_other uid q.0) at (λ x tie. ap (λ (q : Pair). is_other uid q.0) (sym (text_pairs.exact at x tie)))

  pub arrival_is : (at : Pair) → set.contains (after (Forgetting uid) b).arrivals at ≡ (set.contains b.arrivals at && is_other uid at.1)
  arrival_is at = set.contains-retain b.arrivals (λ q. is_other uid q.1) at (λ x tie. ap (λ (q : Pair). is_other uid q.1) (sym (text_pairs.exact at x tie)))

  -- what is left is of another uid
  pub item_left : (u : Text) (item : Instance) → map.get (after (Forgetting uid) b).items u ≡ Some item → Apart u uid × (map.get b.items u ≡ Some item)
  item_left u item h = some_left (eq_by_cmp text_cmp u uid) (map.get b.items u) item (sym (item_is u) ∙ h)

  pub row_left : (at : Pair) (row : Progress) → map.get (after (Forgetting uid) b).rows at ≡ Some row → Apart at.0 uid × (map.get b.rows at ≡ Some row)
  row_left at row h = some_other (eq_by_cmp text_cmp at.0 uid) (map.get b.rows at) row (sym (row_is at) ∙ h)

  pub arrival_left : (at : Pair) → set.contains (after (Forgetting uid) b).arrivals at ≡ true → Apart at.1 uid × (set.contains b.arrivals at ≡ true)
  arrival_left at h = both_left (set.contains b.arrivals at) (eq_by_cmp text_cmp at.1 uid) (sym (arrival_is at) ∙ h)

  -- what is of another uid stays
  pub item_stays : (u : Text) (item : Instance) → Apart u uid → map.get b.items u ≡ Some item → map.get (after (Forgetting uid) b).items u ≡ Some item
  item_stays u item apart h = item_is u ∙ (ap (λ (t : Bool). cond t None (map.get b.items u)) apart ∙ h)

  pub row_stays : (at : Pair) (row : Progress) → Apart at.0 uid → map.get b.rows at ≡ Some row → map.get (after (Forgetting uid) b).rows at ≡ Some row
  row_stays at row apart h = row_is at ∙ (ap (λ (t : Bool). cond (not t) (map.get b.rows at) None) apart ∙ h)

  pub arrival_stays : (at : Pair) → Apart at.1 uid → set.contains b.arrivals at ≡ true → set.contains (after (Forgetting uid) b).arrivals at ≡ true
  arrival_stays at apart h = arrival_is at ∙ both_stay (set.contains b.arrivals at) (eq_by_cmp text_cmp at.1 uid) h apart

pub no_way : (t : Bool) → t ≡ true → t ≡ false → ⊥
no_way t h k = cc

-- what is kept is of another uid
pub kept_apart : (b : Book) (uid : Text) → IsOver b uid → (u : Text) → set.contains b.kept u ≡ true → Apart u uid
kept_apart b uid over u h = elim (same_or_not texts u uid) [
  | inr apart ↦ apart
  | inl same ↦ absurd (no_way (set.contains b.kept uid) (ap (set.contains b.kept) (sym same) ∙ h) over.unkept)
]
