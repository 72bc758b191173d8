-- The first row that is unfit.
use Rattle.std.proofs.Common.{◌≡◌, ◌≢◌, ◌⊎◌, T, Bool, true, false, cond, List, [], ◌∷◌, Option, None, Some, refl, sym, ap, subst, ◌∙◌, inl, inr}
use Rattle.std.specs.declared.cmp.Ordering.{Ordering}
use Rattle.std.specs.declared.cmp.Ordering.TheVariants.{Less, Equal, Greater}
use Rattle.std.specs.Ordering.{eq_by_cmp, is_eq, is_lt, ordering_reverse, ordering_then}
use Rattle.std.specs.List.{AllByRecursion}
use Rattle.std.specs.Map.{keys_of}
use Rattle.std.specs.BTreeMap as tree
use Rattle.std.specs.FinMap as map
use Rattle.std.specs.FinMap.{find, is_sorted}
use Rattle.std.specs.FinMap.Entries.{below_all}
use Rattle.std.proofs.lemmas.Map.Views.{tells_apart}
use Rattle.dr_base.specs.Texts.{Text, text_cmp}
use Rattle.dr_plan_model.specs.Networks.{Network}
use Rattle.dr_plan_model.specs.Walks.{IsReached}
use Rattle.dr_ledger.specs.declared.item.Instance.{Instance}
use Rattle.dr_ledger.specs.declared.item.Progress.{Progress}
use Rattle.dr_ledger.specs.Adopting.{Unfits}
use Rattle.dr_ledger.specs.Pairs.{Pair, pair_cmp}
use Rattle.dr_ledger.proofs.Growing.{inside}
use Rattle.dr_ledger.proofs.Maps.{texts, cases_of, ties_itself}
use Rattle.dr_ledger_memory.specs.declared.held.Held.{Held as Entry}
use Rattle.dr_ledger_memory.specs.declared.parts.Parts.{Parts}
use Rattle.dr_ledger_memory.specs.Changes.{at}
use Rattle.dr_ledger_memory.specs.Contents.{content}
use Rattle.dr_ledger_memory.specs.Entries.{OwnRow, instance_in, row_in}
use Rattle.dr_ledger_memory.specs.Unfits.{AllFit, RowFits, IsUnfitRow, UnfitsIn}
use Rattle.dr_ledger_memory.proofs.Lookups.{Es, In, IsInOrder, head_of, item_at, rest_of, row_at}
use Rattle.dr_ledger_memory.proofs.Whole.{above, nothing_found, t_left, t_right}

not_greater : (r : Ordering) → r ≡ Less → r ≢ Greater
not_greater r h e = let f : ⊥ = cc in f

is_not_greater : (r : Ordering) → r ≡ Equal → r ≢ Greater
is_not_greater r h e = let f : ⊥ = cc in f

is_equal : (r : Ordering) → is_eq r ≡ true → r ≡ Equal
is_equal Less h = absurd (let f : ⊥ = cc in f)
is_equal Equal h = refl
is_equal Greater h = absurd (let f : ⊥ = cc in f)

less : (r : Ordering) → T (is_lt r) → r ≡ Less
less Less h = refl
less Equal h = absurd h
less Greater h = absurd h

tied : (a b : Text) → a ≡ b → text_cmp a b ≡ Equal
tied a b e = is_equal (text_cmp a b) (ap (λ x. is_eq (text_cmp x b)) e ∙ ties_itself texts b)

-- a key that is found among keys above x
higher : (x k : Text) (v : Progress) (es : List OwnRow) → T (below_all text_cmp x es) → find text_cmp k es ≡ Some v → text_cmp x k ≡ Less
higher x k v [] h f = absurd (nothing_found v f)
higher x k v (e ∷ es) h f = elim (cases_of (eq_by_cmp text_cmp k e.0)) [
  | inl t ↦ ap (text_cmp x) (tells_apart texts.exact k e.0 t) ∙ less (text_cmp x e.0) (t_left _ _ h)
  | inr t ↦ higher x k v es (t_right _ _ h) (sym (ap (λ b. cond b (Some e.1) (find text_cmp k es)) t) ∙ f)
]

-- ---- the rows of one uid
module _ (next : Network) (name : Text) (entry : Entry) where
  -- those that are still to be looked at
  pub record IsLeft (rest : List OwnRow) : Type 0 where
    pub sorted : T (is_sorted text_cmp rest)
    pub seen : (dest : Text) (row : Progress) → find text_cmp dest entry.rows.items ≡ Some row → RowFits next name entry dest row ⊎ (find text_cmp dest rest ≡ Some row)
    pub own : (dest : Text) (row : Progress) → find text_cmp dest rest ≡ Some row → find text_cmp dest entry.rows.items ≡ Some row

  pub all_left : IsLeft entry.rows.items
  all_left = record { sorted = entry.ordered; seen = λ dest row h. inr h; own = λ dest row h. h }

  apart : (r : OwnRow) (rest : List OwnRow) → T (is_sorted text_cmp (r ∷ rest)) → (dest : Text) (row : Progress) → find text_cmp dest rest ≡ Some row → find text_cmp dest (r ∷ rest) ≡ Some row
  apart r rest s dest row h = ap (λ b. cond b (Some r.1) (find text_cmp dest rest)) (above r.0 dest row rest (t_left _ _ s) h) ∙ h

  pub less_left : (r : OwnRow) (rest : List OwnRow) → IsLeft (r ∷ rest) → RowFits next name entry r.0 r.1 → IsLeft rest
  less_left r rest l fits = record {
    sorted = t_right _ _ l.sorted;
    seen = λ dest row h. elim (l.seen dest row h) [ inl f ↦ inl f | inr there ↦ by_case dest row (eq_by_cmp text_cmp dest r.0) refl there ];
    own = λ dest row h. l.own dest row (apart r rest l.sorted dest row h);
  }
    where
      by_case : (dest : Text) (row : Progress) (b : Bool) → eq_by_cmp text_cmp dest r.0 ≡ b → cond b (Some r.1) (find text_cmp dest rest) ≡ Some row → RowFits next name entry dest row ⊎ (find text_cmp dest rest ≡ Some row)
      by_case dest row true t h =
          (let P : OwnRow → Type 0 = λ x. RowFits next name entry x.0 x.1 in
          let d : r.0 ≡ dest = sym (tells_apart texts.exact dest r.0 t) in
          let e : r.1 ≡ row = inside r.1 row h in
          inl (subst P (λ j. (d j, e j)) fits))
      by_case dest row false t h = inr h

  pub none_left : IsLeft [] → UnfitsIn next name entry None
  none_left l dest row h = elim (l.seen dest row h) [ inl f ↦ f | inr there ↦ absurd (nothing_found row there) ]

  pub first_left : (r : OwnRow) (rest : List OwnRow) → IsLeft (r ∷ rest) → IsUnfitRow next name entry r.0 r.1 → UnfitsIn next name entry (Some r.0)
  first_left r rest l unfit = (
    (r.1, l.own r.0 r.1 (ap (λ b. cond b (Some r.1) (find text_cmp r.0 rest)) (ties_itself texts r.0)), unfit),
    λ other its h u. elim (l.seen other its h) [ inl f ↦ absurd (u.1 (f u.0)) | inr there ↦ by_case other its (eq_by_cmp text_cmp other r.0) refl there ],
  )
    where
      by_case : (other : Text) (its : Progress) (b : Bool) → eq_by_cmp text_cmp other r.0 ≡ b → cond b (Some r.1) (find text_cmp other rest) ≡ Some its → text_cmp r.0 other ≢ Greater
      by_case other its true t h = is_not_greater (text_cmp r.0 other) (tied r.0 other (sym (tells_apart texts.exact other r.0 t)))
      by_case other its false t h = not_greater (text_cmp r.0 other) (higher r.0 other its rest (t_left _ _ l.sorted) h)

-- ---- all uids
higher_uid : (x uid : Text) (e : Entry) (es : Es) → AllByRecursion (λ y. text_cmp x y ≡ Less) (keys_of es) → In uid es ≡ Some e → text_cmp x uid ≡ Less
higher_uid x uid e [] h f = absurd (nothing_found e f)
higher_uid x uid e (y ∷ ys) h f = elim (cases_of (eq_by_cmp text_cmp uid y.0)) [
  | inl t ↦ ap (text_cmp x) (tells_apart texts.exact uid y.0 t) ∙ h.0
  | inr t ↦ higher_uid x uid e ys h.1 (sym (ap (λ b. cond b (Some y.1) (In uid ys)) t) ∙ f)
]

not_it : (x uid : Text) → text_cmp x uid ≡ Less → eq_by_cmp text_cmp uid x ≡ false
not_it x uid h = ap is_eq (texts.total.antisymm uid x ∙ ap ordering_reverse h)

module _ (next : Network) (name : Text) (p : Parts) (sp : tree.IsOrdered text_cmp p.held) where
  pub record AreLeft (rest : Es) : Type 0 where
    pub sorted : IsInOrder rest
    pub seen : (uid : Text) (e : Entry) → at p.held uid ≡ Some e → AllFit next name e ⊎ (In uid rest ≡ Some e)
    pub own : (uid : Text) (e : Entry) → In uid rest ≡ Some e → at p.held uid ≡ Some e

  pub all_of : AreLeft p.held.entries
  all_of = record { sorted = sp; seen = λ uid e h. inr h; own = λ uid e h. h }

  pub fewer : (x : Text × Entry) (rest : Es) → AreLeft (x ∷ rest) → AllFit next name x.1 → AreLeft rest
  fewer x rest l fits = record {
    sorted = rest_of x rest l.sorted;
    seen = λ uid e h. elim (l.seen uid e h) [ inl f ↦ inl f | inr there ↦ by_case uid e (eq_by_cmp text_cmp uid x.0) refl there ];
    own = λ uid e h. l.own uid e (ap (λ b. cond b (Some x.1) (In uid rest)) (not_it x.0 uid (higher_uid x.0 uid e rest (head_of x rest l.sorted) h)) ∙ h);
  }
    where
      by_case : (uid : Text) (e : Entry) (b : Bool) → eq_by_cmp text_cmp uid x.0 ≡ b → cond b (Some x.1) (In uid rest) ≡ Some e → AllFit next name e ⊎ (In uid rest ≡ Some e)
      by_case uid e true t h = inl (subst (λ (y : Entry). AllFit next name y) (inside x.1 e h) fits)
      by_case uid e false t h = inr h

  -- what a row of the book is in its entry
  in_entry : (k : Pair) (row : Progress) (item : Instance) (o : Option Entry) → at p.held k.0 ≡ o → map.get (content p).rows k ≡ Some row → map.get (content p).items k.0 ≡ Some item →
      (e : Entry) × (at p.held k.0 ≡ Some e) × (find text_cmp k.1 e.rows.items ≡ Some row) × (e.instance ≡ item)
  in_entry k row item None is r i = absurd (nothing_found row (sym (ap (λ o. row_in o k.1) is) ∙ (sym (row_at p sp k.0 k.1) ∙ r)))
  in_entry k row item (Some e) is r i = (
    e,
    is,
    sym (ap (λ o. row_in o k.1) is) ∙ (sym (row_at p sp k.0 k.1) ∙ r),
    inside e.instance item (sym (ap instance_in is) ∙ (sym (item_at p sp k.0) ∙ i)),
  )

  pub none_unfit : AreLeft [] → Unfits next name (content p) None
  none_unfit l k row item r undone i =
      let e = in_entry k row item (at p.held k.0) refl r i in
      elim (l.seen k.0 e.0 e.1) [
        | inl fits ↦ subst (λ (x : Instance). IsReached next x.key name k.1) e.3 (fits k.1 row e.2 undone)
        | inr there ↦ absurd (nothing_found e.0 there)
      ]

  pub first_unfit : (x : Text × Entry) (rest : Es) (dest : Text) → AreLeft (x ∷ rest) → UnfitsIn next name x.1 (Some dest) → Unfits next name (content p) (Some (x.0, dest))
  first_unfit x rest dest l u =
      let here : at p.held x.0 ≡ Some x.1 = l.own x.0 x.1 (ap (λ b. cond b (Some x.1) (In x.0 rest)) (ties_itself texts x.0)) in (
        (u.0.0, x.1.instance, row_at p sp x.0 dest ∙ (ap (λ o. row_in o dest) here ∙ u.0.1), u.0.2.0, item_at p sp x.0 ∙ ap instance_in here, u.0.2.1),
        λ other v.
            let e = in_entry other v.0 v.1 (at p.held other.0) refl v.2 v.4 in
            let away : IsReached next e.0.instance.key name other.1 → ⊥ = λ r. v.5 (subst (λ (i : Instance). IsReached next i.key name other.1) e.3 r) in
            elim (l.seen other.0 e.0 e.1) [
              | inl fits ↦ absurd (away (fits other.1 v.0 e.2 v.3))
              | inr there ↦ by_case other e.0 v.0 (eq_by_cmp text_cmp other.0 x.0) refl there e.2 (v.3, away)
            ],
      )
    where
      then_not : (r s : Ordering) → r ≡ Equal → s ≢ Greater → ordering_then r s ≢ Greater
      then_not r s e h = subst (λ y. ordering_then y s ≢ Greater) (sym e) h

      by_case : (other : Pair) (e : Entry) (row : Progress) (b : Bool) → eq_by_cmp text_cmp other.0 x.0 ≡ b → cond b (Some x.1) (In other.0 rest) ≡ Some e → find text_cmp other.1 e.rows.items ≡ Some row →
          IsUnfitRow next name e other.1 row → pair_cmp (x.0, dest) other ≢ Greater
      by_case other e row true t h f unfit =
          (let same : e ≡ x.1 = sym (inside x.1 e h) in
          let P : Entry → Type 0 = λ y. find text_cmp other.1 y.rows.items ≡ Some row in
          let Q : Entry → Type 0 = λ y. IsUnfitRow next name y other.1 row in
          then_not (text_cmp x.0 other.0) (text_cmp dest other.1) (tied x.0 other.0 (sym (tells_apart texts.exact other.0 x.0 t))) (u.1 other.1 row (subst P same f) (subst Q same unfit)))
      by_case other e row false t h f unfit = not_greater (pair_cmp (x.0, dest) other) (ap (λ r. ordering_then r (text_cmp dest other.1)) (higher_uid x.0 other.0 e rest (head_of x rest l.sorted) h))
