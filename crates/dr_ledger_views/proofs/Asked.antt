-- Counts and moments.
use Rattle.std.proofs.Common.{◌≡◌, ◌⊎◌, inl, inr, ℕ, zero, suc, ◌+◌, ◌≤◌, ◌&&◌, Bool, true, false, cond, T, List, [], ◌∷◌, length, filter, Contains, Option, Some, None, refl, sym, ap, subst, ◌∙◌, arith, true≢false}
use Rattle.std.specs.declared.cmp.Ordering.{Ordering}
use Rattle.std.specs.declared.cmp.Ordering.TheVariants.{Less, Equal, Greater}
use Rattle.std.specs.Cmp.{IsTotalOrder}
use Rattle.std.specs.FinMap as map
use Rattle.std.specs.FinMap.{entries, entries_sorted, find, get-entries, is_sorted}
use Rattle.std.specs.FinMap.Entries.{below_all}
use Rattle.std.specs.Ordering.{eq_by_cmp, is_eq, is_lt}
use Rattle.std.specs.Str.{bytes_eq}
use Rattle.std.specs.List.{cons_option}
use Rattle.std.proofs.lemmas.List.Elements.{All-contains}
use Rattle.std.proofs.lemmas.Cmp.{tied_itself}
use Rattle.std.proofs.lemmas.Slice.Eq.{bytes_eq-Decides}
use Rattle.dr_base.specs.Texts.{Text}
use Rattle.dr_ledger.specs.declared.item.Progress.{Progress}
use Rattle.dr_ledger.specs.declared.item.Progress.TheVariants.{Waiting, Held, Done, Dropped}
use Rattle.dr_ledger.specs.Books.{Book, Row}
use Rattle.dr_ledger.specs.Pairs.{Pair, pair_cmp}
use Rattle.dr_ledger_views.specs.declared.stage.Stage.TheVariants as stage
use Rattle.dr_ledger_views.specs.Laws.{CountsAddUp, FirstsAreDue, LeastIsOne, NoneIsNeverDue}
use Rattle.dr_ledger_views.specs.Views.{due_for, due_of, dues, is_at, is_to}
use Rattle.dr_ledger_views.proofs.Pairs.{pairs_exact, pairs_total}

-- ---- counts

-- one row more is counted at one stage
one_more : (row : Row) (a w h d x : List Row) (b : Bool) (p : Progress) → length a ≡ length w + length h + length d + length x
    → length (cond (b && is_at None p) (row ∷ a) a)
    ≡ length (cond (b && is_at (Some stage.Waiting) p) (row ∷ w) w) + length (cond (b && is_at (Some stage.Held) p) (row ∷ h) h) + length (cond (b && is_at (Some stage.Done) p) (row ∷ d) d)
    + length (cond (b && is_at (Some stage.Dropped) p) (row ∷ x) x)
one_more row a w h d x false p so = so
one_more row a w h d x true (Waiting tries due) so = omega (arith, so)
one_more row a w h d x true (Held why) so = omega (arith, so)
one_more row a w h d x true Done so = omega (arith, so)
one_more row a w h d x true Dropped so = omega (arith, so)

pub counts_add_up : CountsAddUp
counts_add_up [] dest = refl
counts_add_up (row ∷ rows) dest =
    one_more row (filter (is_to dest None) rows) (filter (is_to dest (Some stage.Waiting)) rows) (filter (is_to dest (Some stage.Held)) rows) (filter (is_to dest (Some stage.Done)) rows)
    (filter (is_to dest (Some stage.Dropped)) rows) (bytes_eq row.0.1 dest) row.1 (counts_add_up rows dest)

-- ---- the least

not_empty : (x : ℕ) → Contains [] x → ⊥
not_empty x h = omega (arith, h.1)

same_least : (a b : ℕ) → a ≤ b → b ≤ a → a ≡ b
same_least a b p q = omega (arith, p, q)

pub least_is_one : LeastIsOne
least_is_one moments None None h k = refl
least_is_one moments None (Some b) h k = absurd (not_empty b (subst (λ ms. Contains ms b) h k.0))
least_is_one moments (Some a) None h k = absurd (not_empty a (subst (λ ms. Contains ms a) k h.0))
least_is_one moments (Some a) (Some b) h k = ap Some (same_least a b (All-contains (λ m. a ≤ m) moments b h.1 k.0) (All-contains (λ m. b ≤ m) moments a k.1 h.0))

-- ---- rows that stand among others

abbrev pub Has : {X : Type 0} → List X → X → Type 0
Has [] x = ⊥
Has (y ∷ ys) x = (x ≡ y) ⊎ Has ys x

inside : {X : Type 0} (x y : X) → Some x ≡ Some y → x ≡ y
inside x y e = cc

in_cases : {X : Type 0} (y x : X) (ys : List X) → Contains (y ∷ ys) x → (y ≡ x) ⊎ Contains ys x
in_cases y x ys (zero, within, e) = inl e
in_cases y x ys (suc k, within, e) = inr (k, omega (arith, within), e)

later_in : {X : Type 0} (y x : X) (ys : List X) → Contains ys x → Contains (y ∷ ys) x
later_in y x ys h = (suc h.0, omega (arith, h.1), h.2)

-- a moment is that of a row
pub of_row : (rows : List Row) (dest : Text) (d : ℕ) → Contains (dues rows dest) d → (row : Row) × Has rows row × (due_for dest row ≡ Some d)
of_row [] dest d h = absurd (not_empty d h)
of_row (row ∷ rows) dest d h = go (due_for dest row) refl h (λ k. of_row rows dest d k)
  where
    go : (o : Option ℕ) → due_for dest row ≡ o → Contains (cons_option o (dues rows dest)) d → (Contains (dues rows dest) d → (r : Row) × Has rows r × (due_for dest r ≡ Some d))
        → (r : Row) × Has (row ∷ rows) r × (due_for dest r ≡ Some d)
    go None is k later = let it = later k in (it.0, inr it.1, it.2)
    go (Some m) is k later = elim (in_cases m d (dues rows dest) k) [
      | inl same ↦ (row, inl refl, is ∙ ap Some same)
      | inr more ↦ let it = later more in (it.0, inr it.1, it.2)
    ]

-- and a row's moment is among them
pub to_moment : (rows : List Row) (dest : Text) (row : Row) (d : ℕ) → Has rows row → due_for dest row ≡ Some d → Contains (dues rows dest) d
to_moment [] dest row d h is = absurd h
to_moment (r ∷ rows) dest row d (inl same) is = subst (λ o. Contains (cons_option o (dues rows dest)) d) (sym (ap (due_for dest) (sym same) ∙ is)) (0, omega arith, refl)
to_moment (r ∷ rows) dest row d (inr later) is = go (due_for dest r) (to_moment rows dest row d later is)
  where
    go : (o : Option ℕ) → Contains (dues rows dest) d → Contains (cons_option o (dues rows dest)) d
    go None h = h
    go (Some m) h = later_in m d (dues rows dest) h

-- ---- rows and the map that they are of

first_of : (a b : Bool) → T (a && b) → T a
first_of true b h = tt
first_of false b h = absurd h

second_of : (a b : Bool) → T (a && b) → T b
second_of true b h = h
second_of false b h = absurd h

lesser : (o : Ordering) → T (is_lt o) → is_eq o ≡ true → ⊥
lesser Less h e = true≢false (sym e)
lesser Equal h e = h
lesser Greater h e = h

equal_is : (o : Ordering) → is_eq o ≡ true → o ≡ Equal
equal_is Less h = absurd (true≢false (sym h))
equal_is Equal h = refl
equal_is Greater h = absurd (true≢false (sym h))

module _ {K X : Type 0} {R : K → K → Ordering} (total : IsTotalOrder R) (exact : map.IsAntisymmetric R) where
  -- a key below all isn't among them
  not_below : (k : K) (es : List (K × X)) (e : K × X) → T (below_all R k es) → Has es e → eq_by_cmp R k e.0 ≡ true → ⊥
  not_below k [] e low h same = h
  not_below k (f ∷ es) e low (inl is) same = lesser (R k f.0) (first_of _ _ low) (ap (λ (x : K × X). eq_by_cmp R k x.0) (sym is) ∙ same)
  not_below k (f ∷ es) e low (inr later) same = not_below k es e (second_of (is_lt (R k f.0)) _ low) later same

  -- what stands among the entries is found by its key
  pub entry_found : (es : List (K × X)) (e : K × X) → T (is_sorted R es) → Has es e → find R e.0 es ≡ Some e.1
  entry_found [] e s h = absurd h
  entry_found (f ∷ es) e s (inl is) =
      ap (λ b. cond b (Some f.1) (find R e.0 es)) (ap (λ (x : K × X). eq_by_cmp R e.0 x.0) (sym is) ∙ ap is_eq (tied_itself total e.0)) ∙ ap (λ (x : K × X). Some x.1) (sym is)
  entry_found (f ∷ es) e s (inr later) = go (eq_by_cmp R e.0 f.0) refl (entry_found es e (second_of (below_all R f.0 es) _ s) later)
    where
      go : (b : Bool) → eq_by_cmp R e.0 f.0 ≡ b → find R e.0 es ≡ Some e.1 → cond b (Some f.1) (find R e.0 es) ≡ Some e.1
      go true is found = absurd (not_below f.0 es e (first_of (below_all R f.0 es) _ s) later (ap (λ k. eq_by_cmp R k e.0) (sym (exact e.0 f.0 (equal_is _ is))) ∙ ap is_eq (tied_itself total e.0)))
      go false is found = found

  -- and what is found stands among them
  pub found_entry : (es : List (K × X)) (k : K) (v : X) → find R k es ≡ Some v → Has es (k, v)
  found_entry [] k v h = absurd cc
  found_entry (f ∷ es) k v h = go (eq_by_cmp R k f.0) refl h (λ later. found_entry es k v later)
    where
      go : (b : Bool) → eq_by_cmp R k f.0 ≡ b → cond b (Some f.1) (find R k es) ≡ Some v → (find R k es ≡ Some v → Has es (k, v)) → Has (f ∷ es) (k, v)
      go true is found later = inl (λ i. (exact k f.0 (equal_is _ is) i, sym (inside f.1 v found) i))
      go false is found later = inr (later found)

-- ---- what is due

due_there : (dest : Text) (row : Row) (d : ℕ) → due_for dest row ≡ Some d → (bytes_eq row.0.1 dest ≡ true) × (due_of row.1 ≡ Some d)
due_there dest row d h = go (bytes_eq row.0.1 dest) h
  where
    go : (b : Bool) → cond b (due_of row.1) None ≡ Some d → (b ≡ true) × (due_of row.1 ≡ Some d)
    go true is = (refl, is)
    go false is = absurd cc

waits : (p : Progress) (d : ℕ) → due_of p ≡ Some d → (tries : ℕ) × (p ≡ Waiting tries d)
waits (Waiting tries due) d h = (tries, ap (Waiting tries) (inside due d h))
waits (Held why) d h = absurd cc
waits Done d h = absurd cc
waits Dropped d h = absurd cc

module _ (b : Book) (dest : Text) where
  abbrev rows : List Row
  rows = entries b.rows

  -- a moment is that of a row of the book that waits
  moment_is : (d : ℕ) → Contains (dues rows dest) d → (uid : Text) × (tries : ℕ) × (map.get b.rows (uid, dest) ≡ Some (Waiting tries d))
  moment_is d h =
      let it = of_row rows dest d h in
      let there = due_there dest it.0 d it.2 in
      let wait = waits it.0.1 d there.1 in
      let at : it.0.0 ≡ (it.0.0.0, dest) = λ i. (it.0.0.0, (bytes_eq-Decides it.0.0.1 dest).0 there.0 i) in
      let found : find pair_cmp it.0.0 rows ≡ Some it.0.1 = entry_found pairs_total pairs_exact rows it.0 (entries_sorted b.rows) it.1 in
      (it.0.0.0, wait.0, get-entries b.rows (it.0.0.0, dest) ∙ ap (λ (k : Pair). find pair_cmp k rows) (sym at) ∙ found ∙ ap Some wait.1)

  moment_of : (uid : Text) (tries d : ℕ) → map.get b.rows (uid, dest) ≡ Some (Waiting tries d) → Contains (dues rows dest) d
  moment_of uid tries d h =
      to_moment rows dest ((uid, dest), Waiting tries d) d (found_entry pairs_total pairs_exact rows (uid, dest) (Waiting tries d) (sym (get-entries b.rows (uid, dest)) ∙ h))
      (ap (λ t. cond t (Some d) None) ((bytes_eq-Decides dest dest).1 refl))

pub firsts_are_due : FirstsAreDue
firsts_are_due b dest first h = record {
  from = λ now le none. let it = moment_is b dest first h.0 in none it.0 first ((it.1, it.2), le);
  before = λ now uid lt due.
      let le = All-contains (λ m. first ≤ m) (dues (entries b.rows) dest) due.0 h.1 (moment_of b dest uid due.1.0.0 due.0 due.1.0.1) in
      omega (arith, le, lt, due.1.1);
}

pub none_is_never_due : NoneIsNeverDue
none_is_never_due b dest h now uid due = not_empty due.0 (subst (λ ms. Contains ms due.0) h (moment_of b dest uid due.1.0.0 due.0 due.1.0.1))
