-- Pages in a row.
use Rattle.std.proofs.Common.{◌≡◌, ◌⊎◌, inl, inr, ℕ, zero, suc, ◌&&◌, Bool, true, false, cond, T, List, [], ◌∷◌, ◌++◌, take, Option, refl, sym, ap, subst, ◌∙◌, true≢false}
use Rattle.std.specs.declared.cmp.Ordering.{Ordering}
use Rattle.std.specs.declared.cmp.Ordering.TheVariants.{Less, Equal, Greater}
use Rattle.std.specs.FinMap.{entries, entries_sorted, is_sorted}
use Rattle.std.specs.FinMap.Entries.{below_all}
use Rattle.std.specs.Ordering.{is_lt, ordering_reverse, ordering_then}
use Rattle.std.specs.Str.{bytes_eq}
use Rattle.std.proofs.lemmas.Cmp.{nat_list_cmp_total, tied_itself}
use Rattle.std.proofs.lemmas.Slice.Eq.{bytes_eq-Decides}
use Rattle.dr_base.specs.Texts.{Text, text_cmp}
use Rattle.dr_ledger.specs.Books.{Row}
use Rattle.dr_ledger.specs.Pairs.{pair_cmp}
use Rattle.dr_ledger_views.specs.declared.stage.Stage.{Stage}
use Rattle.dr_ledger_views.specs.Laws.{EmptyPagesAreTheEnd, PagesAreTheWhole, last_uid}
use Rattle.dr_ledger_views.specs.Views.{all_behind, is_at, is_behind, is_to, is_wanted}

first_of : (a b : Bool) → T (a && b) → T a
first_of true b h = tt
first_of false b h = absurd h

second_of : (a b : Bool) → T (a && b) → T b
second_of true b h = h
second_of false b h = absurd h

its_less : (o : Ordering) → T (is_lt o) → o ≡ Less
its_less Less h = refl
its_less Equal h = absurd h
its_less Greater h = absurd h

-- of two pairs with one second text, the first texts decide
first_less : (a b : Text) (same : Text) → pair_cmp (a, same) (b, same) ≡ Less → text_cmp a b ≡ Less
first_less a b same h = go (text_cmp a b) h
  where
    go : (o : Ordering) → ordering_then o (text_cmp same same) ≡ Less → o ≡ Less
    go Less h = refl
    go Equal h = absurd (let e : Equal ≡ Less = sym (tied_itself nat_list_cmp_total same) ∙ h in let f : ⊥ = cc in f)
    go Greater h = absurd cc

not_less_itself : (a : Text) → is_lt (text_cmp a a) ≡ false
not_less_itself a = ap is_lt (tied_itself nat_list_cmp_total a)

greater : (o : Ordering) → o ≡ Less → is_lt (ordering_reverse o) ≡ false
greater Less h = refl
greater Equal h = absurd cc
greater Greater h = absurd cc

module _ (dest : Text) (named : Option Stage) where
  abbrev behind : Text → List Row → List Row
  behind after rows = all_behind rows dest named after

  to_dest : (row : Row) → is_to dest named row ≡ true → row.0.1 ≡ dest
  to_dest row h = go (bytes_eq row.0.1 dest) refl h
    where
      go : (b : Bool) → bytes_eq row.0.1 dest ≡ b → (b && is_at named row.1) ≡ true → row.0.1 ≡ dest
      go true is h = (bytes_eq-Decides row.0.1 dest).0 is
      go false is h = absurd cc

  -- the uids of all rows that go there come behind this one
  abbrev AreBehind : Text → List Row → Type 0
  AreBehind uid [] = Unit {0}
  AreBehind uid (row ∷ rows) = (is_to dest named row ≡ true → text_cmp uid row.0.0 ≡ Less) × AreBehind uid rows

  are_behind : (row : Row) (rows : List Row) → is_to dest named row ≡ true → T (below_all pair_cmp row.0 rows) → AreBehind row.0.0 rows
  are_behind row [] to low = tt
  are_behind row (r ∷ rows) to low = (
    λ too.
        let P : Text → Text → Type 0 = λ x y. pair_cmp (row.0.0, x) (r.0.0, y) ≡ Less in
        let less : pair_cmp row.0 r.0 ≡ Less = its_less _ (first_of (is_lt (pair_cmp row.0 r.0)) _ low) in
        first_less row.0.0 r.0.0 dest (subst (λ x. P x dest) (to_dest row to) (subst (λ y. P row.0.1 y) (to_dest r too) less)),
    are_behind row rows to (second_of (is_lt (pair_cmp row.0 r.0)) _ low),
  )

  all_later : (a uid : Text) (rows : List Row) → text_cmp a uid ≡ Less → AreBehind uid rows → AreBehind a rows
  all_later a uid [] less h = tt
  all_later a uid (row ∷ rows) less h = ((λ to. nat_list_cmp_total.trans a uid row.0.0 less (h.0 to)), all_later a uid rows less h.1)

  -- where all that go there come behind both texts, the same rows come behind each
  same_behind : (a b : Text) (rows : List Row) → AreBehind a rows → AreBehind b rows → behind a rows ≡ behind b rows
  same_behind a b [] p q = refl
  same_behind a b (row ∷ rows) p q = go (is_to dest named row) refl (same_behind a b rows p.1 q.1)
    where
      go : (t : Bool) → is_to dest named row ≡ t → behind a rows ≡ behind b rows
          → cond (t && is_behind a row) (row ∷ behind a rows) (behind a rows) ≡ cond (t && is_behind b row) (row ∷ behind b rows) (behind b rows)
      go true is later =
          ap (λ o. cond (is_lt o) (row ∷ behind a rows) (behind a rows)) (p.0 is) ∙ ap (λ rs. row ∷ rs) later
          ∙ sym (ap (λ o. cond (is_lt o) (row ∷ behind b rows) (behind b rows)) (q.0 is))
      go false is later = later

  -- the last uid of what begins with rows that come behind a text is that text, or comes behind it
  abbrev IsLate : Text → Text → Type 0
  IsLate a u = (u ≡ a) ⊎ (text_cmp a u ≡ Less)

  is_lt_less : (o : Ordering) → is_lt o ≡ true → o ≡ Less
  is_lt_less Less h = refl
  is_lt_less Equal h = absurd cc
  is_lt_less Greater h = absurd cc

  -- a row that comes no later than the text isn't behind what comes late
  not_behind : (row : Row) (u : Text) → IsLate row.0.0 u → is_behind u row ≡ false
  not_behind row u (inl same) = ap (λ x. is_lt (text_cmp x row.0.0)) same ∙ not_less_itself row.0.0
  not_behind row u (inr less) = ap is_lt (nat_list_cmp_total.antisymm u row.0.0) ∙ greater (text_cmp row.0.0 u) less

  no_first : (a b : Bool) → a ≡ false → (a && b) ≡ false
  no_first true b h = absurd (true≢false h)
  no_first false b h = refl

  no_second : (a b : Bool) → b ≡ false → (a && b) ≡ false
  no_second true b h = h
  no_second false b h = refl

  both : (a b : Bool) → a ≡ true → b ≡ true → (a && b) ≡ true
  both true b h k = k
  both false b h k = absurd (true≢false (sym h))

  -- each of these comes behind the text
  abbrev Follow : Text → List Row → Type 0
  Follow low [] = Unit {0}
  Follow low (row ∷ rows) = (text_cmp low row.0.0 ≡ Less) × Follow low rows

  follow : (low after : Text) (rows : List Row) → AreBehind low rows → Follow low (behind after rows)
  follow low after [] h = tt
  follow low after (row ∷ rows) h = go (is_to dest named row) (is_behind after row) refl (follow low after rows h.1)
    where
      go : (t b : Bool) → is_to dest named row ≡ t → Follow low (behind after rows) → Follow low (cond (t && b) (row ∷ behind after rows) (behind after rows))
      go true true is later = (h.0 is, later)
      go true false is later = later
      go false b is later = later

  -- so the last uid of a page of them comes behind it too, or there is none
  last_follows : (low after : Text) (rows : List Row) (n : ℕ) → Follow low rows → (last_uid after (take n rows) ≡ after) ⊎ (text_cmp low (last_uid after (take n rows)) ≡ Less)
  last_follows low after rows zero h = inl refl
  last_follows low after [] (suc n) h = inl refl
  last_follows low after (row ∷ rows) (suc n) h = elim (last_follows low row.0.0 rows n h.1) [
    | inl same ↦ inr (subst (λ u. text_cmp low u ≡ Less) (sym same) h.0)
    | inr less ↦ inr less
  ]

  skipped : (row : Row) (rows : List Row) (x : Text) → is_wanted dest named x row ≡ false → behind x (row ∷ rows) ≡ behind x rows
  skipped row rows x h = ap (λ b. cond b (row ∷ behind x rows) (behind x rows)) h

  taken : (row : Row) (rows : List Row) (x : Text) → is_wanted dest named x row ≡ true → behind x (row ∷ rows) ≡ row ∷ behind x rows
  taken row rows x h = ap (λ b. cond b (row ∷ behind x rows) (behind x rows)) h

  abbrev IsWhole : Text → ℕ → List Row → List Row → Type 0
  IsWhole after n rows found = found ≡ take n found ++ behind (last_uid after (take n found)) rows

  not_wanted : (row : Row) (rows : List Row) (after : Text) (n : ℕ) → is_wanted dest named after row ≡ false
      → is_wanted dest named (last_uid after (take n (behind after rows))) row ≡ false
      → IsWhole after n rows (behind after rows) → IsWhole after n (row ∷ rows) (behind after (row ∷ rows))
  not_wanted row rows after n now then later =
      subst (IsWhole after n (row ∷ rows)) (sym (skipped row rows after now))
      (later ∙ ap (λ rs. take n (behind after rows) ++ rs) (sym (skipped row rows (last_uid after (take n (behind after rows))) then)))

  wanted : (row : Row) (rows : List Row) (after : Text) (n : ℕ) → is_wanted dest named after row ≡ true
      → behind after rows ≡ behind row.0.0 rows
      → is_wanted dest named (last_uid row.0.0 (take n (behind row.0.0 rows))) row ≡ false
      → IsWhole row.0.0 n rows (behind row.0.0 rows) → IsWhole after (suc n) (row ∷ rows) (behind after (row ∷ rows))
  wanted row rows after n now same then later =
      let Q : List Row → Type 0 = λ found. row ∷ found ≡ row ∷ (take n found ++ behind (last_uid row.0.0 (take n found)) (row ∷ rows)) in
      subst (IsWhole after (suc n) (row ∷ rows)) (sym (taken row rows after now))
      (subst Q (sym same)
      (ap (λ rs. row ∷ rs)
      (later ∙ ap (λ rs. take n (behind row.0.0 rows) ++ rs) (sym (skipped row rows (last_uid row.0.0 (take n (behind row.0.0 rows))) then)))))

  whole : (rows : List Row) (after : Text) (n : ℕ) → T (is_sorted pair_cmp rows) → IsWhole after n rows (behind after rows)
  whole [] after zero s = refl
  whole [] after (suc n) s = refl
  whole (row ∷ rows) after n s = go (is_to dest named row) (is_behind after row) n refl refl (λ x m. whole rows x m (second_of (below_all pair_cmp row.0 rows) _ s))
    where
      low : is_to dest named row ≡ true → AreBehind row.0.0 rows
      low to = are_behind row rows to (first_of (below_all pair_cmp row.0 rows) _ s)

      -- the last of a page of the later rows isn't before this row
      late : (x : Text) (m : ℕ) → is_to dest named row ≡ true → is_behind x row ≡ false → is_behind (last_uid x (take m (behind x rows))) row ≡ false
      late x m to not_yet = elim (last_follows row.0.0 x (behind x rows) m (follow row.0.0 x rows (low to))) [
        | inl same ↦ ap (λ u. is_behind u row) same ∙ not_yet
        | inr less ↦ not_behind row (last_uid x (take m (behind x rows))) (inr less)
      ]

      go : (t b : Bool) (m : ℕ) → is_to dest named row ≡ t → is_behind after row ≡ b → ((x : Text) (k : ℕ) → IsWhole x k rows (behind x rows))
          → IsWhole after m (row ∷ rows) (behind after (row ∷ rows))
      go false b m to is more = not_wanted row rows after m (no_first _ _ to) (no_first _ _ to) (more after m)
      go true false m to is more = not_wanted row rows after m (no_second _ _ is) (no_second _ _ (late after m to is)) (more after m)
      go true true zero to is more = refl
      go true true (suc m) to is more =
          let less : text_cmp after row.0.0 ≡ Less = is_lt_less _ is in
          wanted row rows after m (both _ _ to is) (same_behind after row.0.0 rows (all_later after row.0.0 rows less (low to)) (low to))
          (no_second _ _ (late row.0.0 m to (not_less_itself row.0.0))) (more row.0.0 m)

pub pages_are_the_whole : PagesAreTheWhole
pages_are_the_whole b dest named after limit = whole dest named (entries b.rows) after limit (entries_sorted b.rows)

pub empty_pages_are_the_end : EmptyPagesAreTheEnd
empty_pages_are_the_end rows dest named after limit h = go (all_behind rows dest named after) h
  where
    go : (all : List Row) → take (suc limit) all ≡ [] → all ≡ []
    go [] h = refl
    go (row ∷ more) h = absurd cc
