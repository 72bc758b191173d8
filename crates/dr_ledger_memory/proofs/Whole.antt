-- Data sets that are there exactly where they are needed.
use Rattle.std.proofs.Common.{◌≡◌, ◌⊎◌, T, ℕ, Bool, true, false, cond, ◌&&◌, ◌||◌, List, [], ◌∷◌, Option, None, Some, is_some, unwrap_or, refl, sym, ap, subst, ◌∙◌, inl, inr}
use Rattle.std.specs.declared.cmp.Ordering.{Ordering}
use Rattle.std.specs.declared.cmp.Ordering.TheVariants.{Less, Equal, Greater}
use Rattle.std.specs.Ordering.{eq_by_cmp, is_eq, is_lt, ordering_reverse}
use Rattle.std.specs.List.{filter, list_any}
use Rattle.std.specs.BTreeMap as tree
use Rattle.std.specs.FinMap.{find, is_sorted, put}
use Rattle.std.specs.FinMap.Entries.{below_all}
use Rattle.std.proofs.lemmas.Map.Views.{tells_apart}
use Rattle.dr_base.specs.Texts.{Text, text_cmp}
use Rattle.dr_ledger.specs.declared.content.Job.{Job}
use Rattle.dr_ledger.specs.declared.item.Progress.{Progress}
use Rattle.dr_ledger.specs.Bodies.{HasAll, HasBodies, IsNeeded}
use Rattle.dr_ledger.specs.Books.{is_queued}
use Rattle.dr_ledger.specs.Items.{IsItem, instance_of}
use Rattle.dr_ledger.proofs.Growing.{inside}
use Rattle.dr_ledger.proofs.Maps.{texts, cases_of, ties_itself}
use Rattle.dr_ledger_memory.specs.declared.held.Held.{Held as Entry}
use Rattle.dr_ledger_memory.specs.declared.parts.Parts.{Parts}
use Rattle.dr_ledger_memory.specs.Changes.{IsPrunedIn, IsPutAt, PrunesAll, Tree, at}
use Rattle.dr_ledger_memory.specs.Contents.{content, data_sets}
use Rattle.dr_ledger_memory.specs.Entries.{IsMovedOn, IsPruned, IsTakenAgain, OwnRow, body_in, instance_in, is_kept_in, is_open, let_go, needs, row_in}
use Rattle.dr_ledger_memory.specs.Sound.{AreWhole, EntryIsWhole}
use Rattle.dr_ledger_memory.proofs.Lookups.{body_at, item_at, kept_at, row_at}

-- ---- booleans
pub nothing_found : {X : Type 0} (x : X) → None ≡ Some x → ⊥
nothing_found x e = cc

pub no_both : (b : Bool) → b ≡ true → b ≡ false → ⊥
no_both b t f = cc

pub t_left : (a b : Bool) → T (a && b) → T a
t_left true b h = tt
t_left false b h = absurd h

pub t_right : (a b : Bool) → T (a && b) → T b
t_right true b h = h
t_right false b h = absurd h

one_of : (a b : Bool) → (a || b) ≡ true → (a ≡ true) ⊎ (b ≡ true)
one_of true b h = inl refl
one_of false b h = inr h

or_later : (a b : Bool) → b ≡ true → (a || b) ≡ true
or_later true b h = refl
or_later false b h = h

or_now : (a b : Bool) → a ≡ true → (a || b) ≡ true
or_now true b h = refl
or_now false b h = absurd (let e : ⊥ = cc in e)

less : (r : Ordering) → T (is_lt r) → r ≡ Less
less Less h = refl
less Equal h = absurd h
less Greater h = absurd h

-- ---- rows that are still queued
-- a key that is found among keys above x is above x
pub above : (x k : Text) (v : Progress) (es : List OwnRow) → T (below_all text_cmp x es) → find text_cmp k es ≡ Some v → eq_by_cmp text_cmp k x ≡ false
above x k v [] h f = absurd (nothing_found v f)
above x k v (e ∷ es) h f = elim (cases_of (eq_by_cmp text_cmp k e.0)) [
  | inl t ↦
      (let same : k ≡ e.0 = tells_apart texts.exact k e.0 t in
      let lower : text_cmp x e.0 ≡ Less = less (text_cmp x e.0) (t_left _ _ h) in
      let higher : text_cmp e.0 x ≡ Greater = texts.total.antisymm e.0 x ∙ ap ordering_reverse lower in
      ap (λ q. is_eq (text_cmp q x)) same ∙ ap is_eq higher)
  | inr t ↦ above x k v es (t_right _ _ h) (sym (ap (λ b. cond b (Some e.1) (find text_cmp k es)) t) ∙ f)
]

some_row : (rows : List OwnRow) → T (is_sorted text_cmp rows) → list_any is_open rows ≡ true → (dest : Text) × (row : Progress) × (find text_cmp dest rows ≡ Some row) × (is_queued row ≡ true)
some_row [] h a = absurd (let e : ⊥ = cc in e)
some_row (e ∷ es) h a = elim (one_of (is_open e) (list_any is_open es) a) [
  | inl now ↦ (e.0, e.1, ap (λ b. cond b (Some e.1) (find text_cmp e.0 es)) (ties_itself texts e.0), now)
  | inr later ↦
      (let r = some_row es (t_right _ _ h) later in
      (r.0, r.1, ap (λ b. cond b (Some e.1) (find text_cmp r.0 es)) (above e.0 r.0 r.1 es (t_left _ _ h) r.2) ∙ r.2, r.3))
]

pub row_some : (dest : Text) (row : Progress) (rows : List OwnRow) → find text_cmp dest rows ≡ Some row → is_queued row ≡ true → list_any is_open rows ≡ true
row_some dest row [] f n = absurd (nothing_found row f)
row_some dest row (e ∷ es) f n = elim (cases_of (eq_by_cmp text_cmp dest e.0)) [
  | inl t ↦
      (let is : e.1 ≡ row = inside e.1 row (sym (ap (λ b. cond b (Some e.1) (find text_cmp dest es)) t) ∙ f) in
      or_now (is_open e) (list_any is_open es) (ap is_queued is ∙ n))
  | inr t ↦ or_later (is_open e) _ (row_some dest row es (sym (ap (λ b. cond b (Some e.1) (find text_cmp dest es)) t) ∙ f) n)
]

-- ---- where each entry is whole, the book has its data sets
abbrev pub needs_in : Option Entry → Bool
needs_in None = false
needs_in (Some entry) = needs entry.is_kept entry.rows.items

module _ (p : Parts) (order : tree.IsOrdered text_cmp p.held) where
  abbrev pub IsNeededIn : Option Entry → Type 0
  IsNeededIn o = (is_kept_in o ≡ true) ⊎ ((dest : Text) × (row : Progress) × (row_in o dest ≡ Some row) × (is_queued row ≡ true))

  pub so_needed : (o : Option Entry) → needs_in o ≡ true → IsNeededIn o
  so_needed None h = absurd (let e : ⊥ = cc in e)
  so_needed (Some entry) h = elim (one_of entry.is_kept (list_any is_open entry.rows.items) h) [
    | inl kept ↦ inl kept
    | inr row ↦ inr (some_row entry.rows.items entry.ordered row)
  ]

  pub needed_so : (o : Option Entry) → IsNeededIn o → needs_in o ≡ true
  needed_so None (inl h) = absurd (let e : ⊥ = cc in e)
  needed_so None (inr h) = absurd (nothing_found h.1 h.2)
  needed_so (Some entry) (inl h) = or_now entry.is_kept _ h
  needed_so (Some entry) (inr h) = or_later entry.is_kept _ (row_some h.0 h.1 entry.rows.items h.2 h.3)

  pub to_book : (uid : Text) → IsNeededIn (at p.held uid) → IsNeeded (content p) uid
  to_book uid (inl h) = inl (kept_at p order uid ∙ h)
  to_book uid (inr h) = inr (h.0, h.1, row_at p order uid h.0 ∙ h.2, h.3)

  pub of_book : (uid : Text) → IsNeeded (content p) uid → IsNeededIn (at p.held uid)
  of_book uid (inl h) = inl (sym (kept_at p order uid) ∙ h)
  of_book uid (inr h) = inr (h.0, h.1, sym (row_at p order uid h.0) ∙ h.2, h.3)

module _ (p : Parts) (order : tree.IsOrdered text_cmp p.held) (whole : AreWhole p.held) where
  has_some : (o : Option (List ℕ)) → is_some o ≡ true → (body : List ℕ) × (o ≡ Some body)
  has_some None h = absurd (let e : ⊥ = cc in e)
  has_some (Some body) h = (body, refl)

  body_needed : (uid : Text) (body : List ℕ) (o : Option Entry) → at p.held uid ≡ o → body_in o ≡ Some body → needs_in o ≡ true
  body_needed uid body None is h = absurd (nothing_found body h)
  body_needed uid body (Some entry) is h = sym (whole uid entry is).there ∙ ap is_some h

  needed_body : (uid : Text) (o : Option Entry) → at p.held uid ≡ o → needs_in o ≡ true → (body : List ℕ) × (body_in o ≡ Some body)
  needed_body uid None is h = absurd (let e : ⊥ = cc in e)
  needed_body uid (Some entry) is h = has_some entry.body ((whole uid entry is).there ∙ h)

  own_item : (uid : Text) (body : List ℕ) (o : Option Entry) → at p.held uid ≡ o → body_in o ≡ Some body →
      (item : Job) × IsItem item × (item.body ≡ body) × (instance_in o ≡ Some (instance_of item))
  own_item uid body None is h = absurd (nothing_found body h)
  own_item uid body (Some entry) is h = (let i = (whole uid entry is).own body h in (i.0, i.1, i.2, ap Some i.3))

  pub has_all : HasAll (content p) (data_sets p)
  has_all uid n = let b = needed_body uid (at p.held uid) refl (needed_so p order (at p.held uid) (of_book p order uid n)) in (b.0, body_at p order uid ∙ b.1)

  pub has_bodies : HasBodies (content p) (data_sets p)
  has_bodies = record {
    there = λ uid body h. to_book p order uid (so_needed p order (at p.held uid) (body_needed uid body (at p.held uid) refl (sym (body_at p order uid) ∙ h)));
    own = λ uid body h. (let i = own_item uid body (at p.held uid) refl (sym (body_at p order uid) ∙ h) in (i.0, i.1, i.2, item_at p order uid ∙ i.3));
  }

-- ---- changes
pub put_whole : (p q : Tree) (uid : Text) (after : Entry) → IsPutAt p uid after q → EntryIsWhole after → AreWhole p → AreWhole q
put_whole p q uid after put own whole u entry is = elim (cases_of (eq_by_cmp text_cmp u uid)) [
  | inl t ↦ subst EntryIsWhole (inside after entry (sym (put u ∙ ap (λ b. cond b (Some after) (at p u)) t) ∙ is)) own
  | inr n ↦ whole u entry (sym (put u ∙ ap (λ b. cond b (Some after) (at p u)) n) ∙ is)
]

taken_there : (n : Bool) (x : List ℕ) → is_some (let_go n (Some x)) ≡ n
taken_there true x = refl
taken_there false x = refl

taken_body : (n : Bool) (x body : List ℕ) → let_go n (Some x) ≡ Some body → x ≡ body
taken_body true x body h = inside x body h
taken_body false x body h = absurd (nothing_found body h)

pub taken_whole : (o : Option Entry) (item : Job) (rows : List OwnRow) (keep : Bool) (after : Entry) → IsTakenAgain o (instance_of item) rows keep item.body after → IsItem item →
    ((entry : Entry) → o ≡ Some entry → EntryIsWhole entry) → ((entry : Entry) → o ≡ Some entry → entry.instance ≡ instance_of item) → EntryIsWhole after
taken_whole None item rows keep after t is whole same = record {
  there = ap is_some t.body_is ∙ taken_there (needs after.is_kept after.rows.items) item.body;
  own = λ body h. (item, is, taken_body (needs after.is_kept after.rows.items) item.body body (sym t.body_is ∙ h), t.instance_is);
}
taken_whole (Some entry) item rows keep after t is whole same = record {
  there = ap is_some t.body_is ∙ taken_there (needs after.is_kept after.rows.items) (unwrap_or entry.body item.body);
  own = λ body h. kept_own entry.body refl body (taken_body (needs after.is_kept after.rows.items) (unwrap_or entry.body item.body) body (sym t.body_is ∙ h));
}
  where
    kept_own : (b : Option (List ℕ)) → entry.body ≡ b → (body : List ℕ) → unwrap_or b item.body ≡ body → (i : Job) × IsItem i × (i.body ≡ body) × (after.instance ≡ instance_of i)
    kept_own None e body h = (item, is, h, t.instance_is ∙ same entry refl)
    kept_own (Some had) e body h = (let w = (whole entry refl).own had e in (w.0, w.1, w.2 ∙ h, t.instance_is ∙ w.3))

moved_there : (n : Bool) (o : Option (List ℕ)) → is_some o ≡ true → is_some (let_go n o) ≡ n
moved_there true o h = h
moved_there false o h = refl

moved_body : (n : Bool) (o : Option (List ℕ)) (body : List ℕ) → let_go n o ≡ Some body → o ≡ Some body
moved_body true o body h = h
moved_body false o body h = absurd (nothing_found body h)

pub moved_whole : (before after : Entry) (dest : Text) (progress was : Progress) → IsMovedOn before dest progress after → find text_cmp dest before.rows.items ≡ Some was → is_queued was ≡ true → EntryIsWhole before → EntryIsWhole after
moved_whole before after dest progress was m is isnt w = record {
  there = ap is_some m.body_is ∙ moved_there (needs after.is_kept after.rows.items) before.body (w.there ∙ or_later before.is_kept _ (row_some dest was before.rows.items is isnt));
  own = λ body h. (let i = w.own body (moved_body (needs after.is_kept after.rows.items) before.body body (sym m.body_is ∙ h)) in (i.0, i.1, i.2, m.instance_is ∙ i.3));
}

still_open : (rows : List OwnRow) → list_any is_open (filter is_open rows) ≡ list_any is_open rows
still_open [] = refl
still_open (row ∷ rows) = elim (cases_of (is_open row)) [
  | inl t ↦ ap (λ b. list_any is_open (cond b (row ∷ filter is_open rows) (filter is_open rows))) t ∙ (or_now (is_open row) _ t ∙ sym (or_now (is_open row) _ t))
  | inr f ↦ ap (λ b. list_any is_open (cond b (row ∷ filter is_open rows) (filter is_open rows))) f ∙ (still_open rows ∙ sym (ap (λ b. b || list_any is_open rows) f))
]

pub pruned_whole : (before after : Entry) → IsPruned before after → EntryIsWhole before → EntryIsWhole after
pruned_whole before after r w = record {
  there = ap is_some r.body_is ∙ (w.there ∙ (λ j. sym r.kept j || sym (ap (list_any is_open) r.rows_are ∙ still_open before.rows.items) j));
  own = λ body h. (let i = w.own body (sym r.body_is ∙ h) in (i.0, i.1, i.2, r.instance_is ∙ i.3));
}

pub all_pruned_whole : (p q : Tree) → PrunesAll p q → AreWhole p → AreWhole q
all_pruned_whole p q prunes whole uid entry is = at_uid (at p uid) refl (prunes uid)
  where
    at_uid : (o : Option Entry) → at p uid ≡ o → IsPrunedIn o (at q uid) → EntryIsWhole entry
    at_uid None e r = absurd (nothing_found entry (sym r ∙ is))
    at_uid (Some before) e r = subst EntryIsWhole (inside r.0 entry (sym r.1 ∙ is)) (pruned_whole before r.0 r.2 (whole uid before e))

-- ---- rows in order
both_so : (a b : Bool) → T a → T b → T (a && b)
both_so true b h k = k
both_so false b h k = h

below_filter : (p : OwnRow → Bool) (x : Text) (es : List OwnRow) → T (below_all text_cmp x es) → T (below_all text_cmp x (filter p es))
below_filter p x [] h = tt
below_filter p x (e ∷ es) h = kept (p e) (below_filter p x es (t_right _ _ h))
  where
    kept : (b : Bool) → T (below_all text_cmp x (filter p es)) → T (below_all text_cmp x (cond b (e ∷ filter p es) (filter p es)))
    kept true later = both_so (is_lt (text_cmp x e.0)) _ (t_left _ _ h) later
    kept false later = later

pub sorted_filter : (p : OwnRow → Bool) (es : List OwnRow) → T (is_sorted text_cmp es) → T (is_sorted text_cmp (filter p es))
sorted_filter p [] h = tt
sorted_filter p (e ∷ es) h = kept (p e) (sorted_filter p es (t_right _ _ h))
  where
    kept : (b : Bool) → T (is_sorted text_cmp (filter p es)) → T (is_sorted text_cmp (cond b (e ∷ filter p es) (filter p es)))
    kept true later = both_so (below_all text_cmp e.0 (filter p es)) _ (below_filter p e.0 es (t_left _ _ h)) later
    kept false later = later
