-- What a ledger's calls that read show holds where it merely holds.
use Rattle.std.proofs.Common.{◌≡◌, ◌≢◌, ◌↔◌, IsTrue, inl, inr, ℕ, ◌≤◌, Bool, true, List, [], ◌∷◌, length, slice_index_or, Contains, All, map as mapped, Option, Some, None, refl, sym, ap, subst, ◌∙◌}
use Rattle.std.proofs.Math.Logic.{∥∥₁_elim, ∥∥₁_map}
use mathlib.Core.Bool.{Bool-set}
use Rattle.std.specs.Coded.{Coded, coded_list, coded_option, coded_ℕ, le_prop, ×_prop, Unit-prop}
use Rattle.std.specs.declared.cmp.Ordering.{Ordering}
use Rattle.std.specs.declared.cmp.Ordering.TheVariants.{Greater}
use Rattle.std.specs.Ordering.{nat_cmp, ordering_then}
use Rattle.std.specs.FinMap as map
use Rattle.std.specs.FinSet as set
use Rattle.std.specs.FinSet.{FinSet}
use Rattle.std.specs.List.Sorted.{IsStrictlySortedBy, IsStrictlySortedBy-prop}
use Rattle.dr_base.specs.Texts.{Text, text_cmp}
use Rattle.dr_ledger.specs.declared.content.NextRow.{NextRow}
use Rattle.dr_ledger.specs.declared.content.NextRow.TheVariants.{Whole, Unreadable}
use Rattle.dr_ledger.specs.declared.item.Instance.{Instance}
use Rattle.dr_ledger.specs.declared.item.Progress.{Progress}
use Rattle.dr_ledger.specs.declared.item.Progress.TheVariants.{Waiting, Held, Done, Dropped}
use Rattle.dr_ledger.specs.Bodies.{Bodies, IsNeeded, NextsWith}
use Rattle.dr_ledger.specs.Books.{Book}
use Rattle.dr_ledger.specs.Items.{instance_of}
use Rattle.dr_ledger.specs.Replies.{AreKept, Dues, IsDue, IsNext, Lists}
use Rattle.dr_ledger.proofs.Growing.{inside}
use Rattle.dr_ledger.proofs.Needs.{needed_or_not}
use Rattle.dr_ledger.specs.Pairs.{pair_cmp}
use Rattle.dr_ledger_views.specs.Views.{AreCallers, IsLeast}
use Rattle.sqlite.specs.Tree.{Trees}
use Rattle.dr_store.specs.Owning.{bodies_with}
use Rattle.dr_store.specs.Reading.{TellsWhereNeeded}
use Rattle.dr_store.proofs.Sets.{coded_instance, coded_text}
use Rattle.dr_store.proofs.Stable.{Stable, both, by_code, each, is_in, never, of_dec, of_prop, tested}

impossible : Stable ⊥
impossible = of_prop (λ x y. absurd x)

-- ---- what is due

abbrev moment : (tries due : ℕ) → Option Progress → ℕ
moment tries due None = due
moment tries due (Some (Waiting t d)) = d
moment tries due (Some (Held why)) = due
moment tries due (Some Done) = due
moment tries due (Some Dropped) = due

is_next : (b : Book) (dest : Text) (now : ℕ) (item : Instance) → Stable (IsNext b dest now item)
is_next b dest now item = go (map.get b.rows (item.uid, dest)) refl
  where
    go : (o : Option Progress) → map.get b.rows (item.uid, dest) ≡ o → Stable (IsNext b dest now item)
    go None is h = absurd (impossible (∥∥₁_map h (λ n. let e : None ≡ Some (Waiting n.row.0.0 n.due) = sym is ∙ n.row.0.1 in absurd (let f : ⊥ = cc in f))))
    go (Some (Held why)) is h = absurd (impossible (∥∥₁_map h (λ n. let e : Some (Held why) ≡ Some (Waiting n.row.0.0 n.due) = sym is ∙ n.row.0.1 in absurd (let f : ⊥ = cc in f))))
    go (Some Done) is h = absurd (impossible (∥∥₁_map h (λ n. let e : Some Done ≡ Some (Waiting n.row.0.0 n.due) = sym is ∙ n.row.0.1 in absurd (let f : ⊥ = cc in f))))
    go (Some Dropped) is h = absurd (impossible (∥∥₁_map h (λ n. let e : Some Dropped ≡ Some (Waiting n.row.0.0 n.due) = sym is ∙ n.row.0.1 in absurd (let f : ⊥ = cc in f))))
    go (Some (Waiting tries due)) is h =
        let same : (n : IsNext b dest now item) → n.due ≡ due = λ n. ap (moment tries due) (sym n.row.0.1 ∙ is) in
        record {
          due = due;
          row = ((tries, is), of_prop le_prop (∥∥₁_map h (λ n. subst (λ d. d ≤ now) (same n) n.row.1)));
          has = by_code (coded_option coded_instance) (map.get b.items item.uid) (Some item) (∥∥₁_map h (λ n. n.has));
          least = λ uid other due_too later. impossible (∥∥₁_map h (λ n. n.least uid other due_too (subst (λ d. ordering_then (nat_cmp d other) (text_cmp item.uid uid) ≡ Greater) (sym (same n)) later)));
        }

unreadable : (b : Book) (bodies : Bodies) (dest : Text) (now : ℕ) (uid : Text) → Stable (NextsWith b bodies dest now (Some (Unreadable uid)))
unreadable b bodies dest now uid = go (map.get b.items uid) refl
  where
    go : (o : Option Instance) → map.get b.items uid ≡ o → Stable (NextsWith b bodies dest now (Some (Unreadable uid)))
    go None is h = absurd (impossible (∥∥₁_map h (λ n. let e : None ≡ Some n.0 = sym is ∙ (ap (map.get b.items) (sym n.1) ∙ n.2.has) in absurd (let f : ⊥ = cc in f))))
    go (Some item) is h =
        let same : (n : NextsWith b bodies dest now (Some (Unreadable uid))) → n.0 ≡ item = λ n. inside n.0 item (sym n.2.has ∙ (ap (map.get b.items) n.1 ∙ is)) in (
          item,
          by_code coded_text item.uid uid (∥∥₁_map h (λ n. ap (λ (i : Instance). i.uid) (sym (same n)) ∙ n.1)),
          is_next b dest now item (∥∥₁_map h (λ n. subst (IsNext b dest now) (same n) n.2)),
          by_code (coded_option (coded_list coded_ℕ)) (map.get bodies uid) None (∥∥₁_map h (λ n. n.3)),
        )

-- whether a data set is needed can be told
pub needs : (b : Book) (uid : Text) (said : Bool) → Stable (IsTrue said ↔ IsNeeded b uid)
needs b uid said = both (each (λ t. of_dec (elim (needed_or_not b uid) [ inl n ↦ yes n | inr none ↦ no none ]))) (each (λ n. of_prop (Bool-set _ _)))

there_or_not : (found : Option (List ℕ)) → Dec ((body : List ℕ) × (found ≡ Some body))
there_or_not None = no (λ h. let f : ⊥ = cc in f)
there_or_not (Some body) = yes (body, refl)

pub tells_where_needed : (read_of : List ℕ → Option (List ℕ)) (db : Trees) (uid : Text) (told : Bool) → Stable (TellsWhereNeeded read_of db uid told)
tells_where_needed read_of db uid told = each (λ needed. both (each (λ t. of_dec (there_or_not (map.get (bodies_with read_of db) uid)))) (each (λ n. of_prop (Bool-set _ _))))

pub nexts : (b : Book) (bodies : Bodies) (dest : Text) (now : ℕ) (row : Option NextRow) → Stable (NextsWith b bodies dest now row)
nexts b bodies dest now None = each (λ uid. each (λ due. never))
nexts b bodies dest now (Some (Unreadable uid)) = unreadable b bodies dest now uid
nexts b bodies dest now (Some (Whole job)) = both (is_next b dest now (instance_of job)) (by_code (coded_option (coded_list coded_ℕ)) (map.get bodies job.uid) (Some job.body))

module _ (b : Book) (dest : Text) (now : ℕ) (uid : Text) where
  is_first : Stable (Dues b dest now (Some uid))
  is_first = go (map.get b.rows (uid, dest)) refl
    where
      go : (o : Option Progress) → map.get b.rows (uid, dest) ≡ o → Stable (Dues b dest now (Some uid))
      go None is h = absurd (impossible (∥∥₁_map h (λ n. let e : None ≡ Some (Waiting n.1.0.0 n.0) = sym is ∙ n.1.0.1 in absurd (let f : ⊥ = cc in f))))
      go (Some (Held why)) is h = absurd (impossible (∥∥₁_map h (λ n. let e : Some (Held why) ≡ Some (Waiting n.1.0.0 n.0) = sym is ∙ n.1.0.1 in absurd (let f : ⊥ = cc in f))))
      go (Some Done) is h = absurd (impossible (∥∥₁_map h (λ n. let e : Some Done ≡ Some (Waiting n.1.0.0 n.0) = sym is ∙ n.1.0.1 in absurd (let f : ⊥ = cc in f))))
      go (Some Dropped) is h = absurd (impossible (∥∥₁_map h (λ n. let e : Some Dropped ≡ Some (Waiting n.1.0.0 n.0) = sym is ∙ n.1.0.1 in absurd (let f : ⊥ = cc in f))))
      go (Some (Waiting tries due)) is h =
          let same : (n : Dues b dest now (Some uid)) → n.0 ≡ due = λ n. ap (moment tries due) (sym n.1.0.1 ∙ is) in (
            due,
            ((tries, is), of_prop le_prop (∥∥₁_map h (λ n. subst (λ d. d ≤ now) (same n) n.1.1))),
            λ other soon due_too later. impossible (∥∥₁_map h (λ n. n.2 other soon due_too (subst (λ d. ordering_then (nat_cmp d soon) (text_cmp uid other) ≡ Greater) (sym (same n)) later))),
          )

pub dues : (b : Book) (dest : Text) (now : ℕ) (uid : Option Text) → Stable (Dues b dest now uid)
dues b dest now None = each (λ uid. each (λ due. never))
dues b dest now (Some uid) = is_first b dest now uid

-- ---- lists

pub lists : {K : Type 0} → Coded K → {R : K → K → Ordering} (elements : FinSet R) (all : List K) → Stable (Lists R elements all)
lists code {R} elements all h = record {
  ordered = of_prop (IsStrictlySortedBy-prop R all) (∥∥₁_map h (λ l. l.ordered));
  each = λ x. (
    λ there. of_prop (Bool-set _ _) (∥∥₁_map h (λ l. (l.each x).0 there)),
    λ has. of_dec (is_in (tested code) all x) (∥∥₁_map h (λ l. (l.each x).1 has)),
  );
}

pub callers : (arrivals : FinSet pair_cmp) (uid : Text) (all : List Text) → Stable (AreCallers arrivals uid all)
callers arrivals uid all h = record {
  ordered = of_prop (IsStrictlySortedBy-prop text_cmp all) (∥∥₁_map h (λ l. l.ordered));
  each = λ x. (
    λ there. of_prop (Bool-set _ _) (∥∥₁_map h (λ l. (l.each x).0 there)),
    λ has. of_dec (is_in (tested coded_text) all x) (∥∥₁_map h (λ l. (l.each x).1 has)),
  );
}

pub are_kept : (b : Book) (all : List (Text × ℕ)) → Stable (AreKept b all)
are_kept b all h = (
  lists coded_text b.kept (mapped (λ (e : Text × ℕ). e.0) all) (∥∥₁_map h (λ k. k.0)),
  λ i d within. sized (slice_index_or all i d) (∥∥₁_map h (λ k. k.1 i d within)),
)
  where
    sized : (e : Text × ℕ) → Stable ((item : Instance) × (map.get b.items e.0 ≡ Some item) × (item.size ≡ e.1))
    sized e = go (map.get b.items e.0) refl
      where
        go : (o : Option Instance) → map.get b.items e.0 ≡ o → Stable ((item : Instance) × (map.get b.items e.0 ≡ Some item) × (item.size ≡ e.1))
        go None is h = absurd (impossible (∥∥₁_map h (λ s. let e : None ≡ Some s.0 = sym is ∙ s.1 in absurd (let f : ⊥ = cc in f))))
        go (Some item) is h = (item, is, by_code coded_ℕ item.size e.1 (∥∥₁_map h (λ s. ap (λ (i : Instance). i.size) (inside item s.0 (sym is ∙ s.1)) ∙ s.2)))

-- ---- the least of some moments

pub is_least : (moments : List ℕ) (least : Option ℕ) → Stable (IsLeast moments least)
is_least moments None = by_code (coded_list coded_ℕ) moments []
is_least moments (Some least) =
    both (of_dec (is_in (tested coded_ℕ) moments least)) (λ h k d low. of_prop le_prop (∥∥₁_map h (λ all. all k d low)))
