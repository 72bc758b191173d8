-- What stands at each uid after a change of one.
use Rattle.std.proofs.Common.{◌≡◌, ◌⊎◌, inl, inr, ℕ, Result, Ok, Err, Bool, true, false, cond, not, ◌&&◌, ◌||◌, List, [], ◌∷◌, Option, None, Some, refl, sym, ap, subst, ◌∙◌}
use Rattle.std.specs.declared.cmp.Ordering.{Ordering}
use Rattle.std.specs.Prelude.{IsSome, OnOk, OnErr, Contains}
use Rattle.std.specs.Ordering.{eq_by_cmp}
use Rattle.std.specs.FinMap.{find, put}
use Rattle.std.specs.FinMap.Entries.{find-put}
use Rattle.std.specs.List.{filter, list_any}
use Rattle.std.specs.Map.{lookup}
use Rattle.std.specs.Map.Calls.{RetainsPairs}
use Rattle.std.specs.BTreeMap as tree
use Rattle.std.proofs.lemmas.Map.Lookups.{btree_map_from_get}
use Rattle.std.proofs.lemmas.Map.Views.{tells_apart}
use Rattle.dr_plan_model.proofs.Gathered.{Contains-here, Contains-there}
use Rattle.std.specs.Cmp.{IsTotalOrder, eq_by_cmp_equiv}
use Rattle.std.specs.BTreeMap.{is_at}
use Rattle.std.specs.BTreeSet as sorted
use Rattle.dr_base.specs.Texts.{Text, text_cmp}
use Rattle.dr_ledger.specs.declared.item.Instance.{Instance}
use Rattle.dr_ledger.specs.Pairs.{Pair, pair_cmp}
use Rattle.dr_ledger.specs.declared.item.Progress.{Progress}
use Rattle.dr_ledger.specs.declared.item.Progress.TheVariants.{Waiting}
use Rattle.dr_ledger.proofs.Growing.{inside}
use Rattle.dr_ledger.proofs.Maps.{texts, text_pairs, cases_of}
use Rattle.dr_ledger_memory.specs.declared.held.Held.{Held as Entry}
use Rattle.dr_ledger_memory.specs.Changes.{IsPrunedIn, IsPutAt, Tree, at}
use Rattle.dr_ledger_memory.specs.Dues.{Covers, Due, Grows, due_cmp}
use Rattle.dr_ledger_memory.specs.Entries.{IsPruned, IsTakenAgain, OwnRow, row_in}

pub put_at : (m n : Tree) (uid : Text) (w : Entry) → ((q : Text) → at n q ≡ cond (is_at (text_cmp uid) q) (Some w) (at m q)) → IsPutAt m uid w n
put_at m n uid w u q = u q ∙ ap (λ b. cond b (Some w) (at m q)) ((eq_by_cmp_equiv texts.total).symm uid q)

either : (b c : Bool) → cond b true c ≡ (b || c)
either true c = refl
either false c = refl

pub set_put : {K : Type 0} {R : K → K → Ordering} → IsTotalOrder R → (s n : sorted.BTreeSet K) (k : K) → ((q : K) → sorted.contains R n q ≡ cond (is_at (R k) q) true (sorted.contains R s q)) →
    (q : K) → sorted.contains R n q ≡ (eq_by_cmp R q k || sorted.contains R s q)
set_put {R = R} o s n k u q = u q ∙ (either (is_at (R k) q) (sorted.contains R s q) ∙ ap (λ b. b || sorted.contains R s q) ((eq_by_cmp_equiv o).symm k q))

-- the instance that was there stays
pub known_taken : (o : Option Entry) (before : Entry) (instance : Instance) (rows : List OwnRow) (keep : Bool) (body : List ℕ) (after : Entry) → o ≡ Some before →
    IsTakenAgain (Some before) before.instance rows keep body after → IsTakenAgain o instance rows keep body after
known_taken o before instance rows keep body after e t =
    let P : Option Entry → Type 0 = λ x. IsTakenAgain x instance rows keep body after in
    subst P (sym e) (record { instance_is = t.instance_is; kept = t.kept; rows_are = t.rows_are; body_is = t.body_is })

-- a new uid that is taken out again leaves what was there
pub undone : (p n q : Tree) (uid gone : Text) (entry : Entry) → gone ≡ uid → at p uid ≡ None → ((k : Text) → at n k ≡ cond (is_at (text_cmp uid) k) (Some entry) (at p k)) →
    ((k : Text) → at q k ≡ cond (is_at (text_cmp gone) k) None (at n k)) → tree.IsOrdered text_cmp p → tree.IsOrdered text_cmp q → q.entries ≡ p.entries
undone p n q uid gone entry same none put out sp sq = btree_map_from_get texts.total q p sq sp each texts.exact
  where
    by_case : (b : Bool) (k : Text) → is_at (text_cmp uid) k ≡ b → cond b None (cond b (Some entry) (at p k)) ≡ at p k
    by_case true k t = sym none ∙ ap (at p) (tells_apart texts.exact uid k t)
    by_case false k t = refl

    each : (k : Text) → at q k ≡ at p k
    each k = out k ∙ (ap (λ g. cond (is_at (text_cmp g) k) None (at n k)) same ∙ (ap (cond (is_at (text_cmp uid) k) None) (put k) ∙ by_case (is_at (text_cmp uid) k) k refl))

pub on_ok : {A E : Type 0} {P Q : Type 0} (r : Result A E) → (P → Q) → OnOk r P → OnOk r Q
on_ok (Ok value) f h = f h
on_ok (Err why) f h = h

pub either_way : {A E : Type 0} {P Q : Type 0} (r : Result A E) → OnOk r P → OnErr r Q → P ⊎ Q
either_way (Ok value) ok err = inl ok
either_way (Err why) ok err = inr err

pub in_list : (k : Text) (v : Progress) (es : List OwnRow) → find text_cmp k es ≡ Some v → Contains es (k, v)
in_list k v [] f = absurd (let e : ⊥ = cc in e)
in_list k v (e ∷ es) f = elim (cases_of (eq_by_cmp text_cmp k e.0)) [
  | inl t ↦
      (let same : k ≡ e.0 = tells_apart texts.exact k e.0 t in
      let is : e.1 ≡ v = inside e.1 v (sym (ap (λ b. cond b (Some e.1) (find text_cmp k es)) t) ∙ f) in
      let P : OwnRow → Type 0 = λ x. Contains (e ∷ es) x in
      subst P (λ j. (sym same j, is j)) (Contains-here e es))
  | inr t ↦ Contains-there e es (k, v) (in_list k v es (sym (ap (λ b. cond b (Some e.1) (find text_cmp k es)) t) ∙ f))
]

-- ---- keys of waiting rows
pub covers_put : (w v : sorted.BTreeSet Due) (p q : Tree) (uid : Text) (after : Entry) → Grows w v → IsPutAt p uid after q →
    ((dest : Text) (tries due : ℕ) → find text_cmp dest after.rows.items ≡ Some (Waiting tries due) → sorted.contains due_cmp v (dest, (due, uid)) ≡ true) → Covers w p → Covers v q
covers_put w v p q uid after grows put own covers u dest tries due h = elim (cases_of (eq_by_cmp text_cmp u uid)) [
  | inl t ↦
      (let P : Text → Type 0 = λ x. sorted.contains due_cmp v (dest, (due, x)) ≡ true in
      subst P (sym (tells_apart texts.exact u uid t)) (own dest tries due (ap (λ o. row_in o dest) (sym (put u ∙ ap (λ b. cond b (Some after) (at p u)) t)) ∙ h)))
  | inr n ↦ grows (dest, (due, u)) (covers u dest tries due (ap (λ o. row_in o dest) (sym (put u ∙ ap (λ b. cond b (Some after) (at p u)) n)) ∙ h))
]

pub covers_same : (w v : sorted.BTreeSet Due) (p q : Tree) → Grows w v → q.entries ≡ p.entries → Covers w p → Covers v q
covers_same w v p q grows same covers u dest tries due h =
    grows (dest, (due, u)) (covers u dest tries due (ap (λ es. row_in (lookup (is_at (text_cmp u)) es) dest) (sym same) ∙ h))

moved_case : (b : Bool) (progress : Progress) (old row : Option Progress) (X : Type 0) → cond b (Some progress) old ≡ row → (b ≡ true → Some progress ≡ row → X) → (b ≡ false → old ≡ row → X) → X
moved_case true progress old row X e f g = f refl e
moved_case false progress old row X e f g = g refl e

-- the rows of a uid, of which one has moved on
pub moved_own : (w v : sorted.BTreeSet Due) (uid dest : Text) (progress : Progress) (rows : List OwnRow) → Grows w v →
    ((tries due : ℕ) → progress ≡ Waiting tries due → sorted.contains due_cmp v (dest, (due, uid)) ≡ true) →
    ((d : Text) (tries due : ℕ) → find text_cmp d rows ≡ Some (Waiting tries due) → sorted.contains due_cmp w (d, (due, uid)) ≡ true) →
    (d : Text) (tries due : ℕ) → find text_cmp d (put text_cmp dest progress rows) ≡ Some (Waiting tries due) → sorted.contains due_cmp v (d, (due, uid)) ≡ true
moved_own w v uid dest progress rows grows new old d tries due h =
    moved_case (eq_by_cmp text_cmp d dest) progress (find text_cmp d rows) (Some (Waiting tries due)) (sorted.contains due_cmp v (d, (due, uid)) ≡ true) (sym (find-put text_cmp texts.total d dest progress rows) ∙ h)
    (λ t e. let P : Text → Type 0 = λ x. sorted.contains due_cmp v (x, (due, uid)) ≡ true in subst P (sym (tells_apart texts.exact d dest t)) (new tries due (inside progress (Waiting tries due) e)))
    (λ n e. grows (d, (due, uid)) (old d tries due e))

-- ---- done rows leave
pub retained : {F : Type 0} (T : F → Text → Entry → Bool → Entry → F → Type 0) → ((f : F) (k : Text) (v : Entry) (b : Bool) (w : Entry) (g : F) → T f k v b w g → (b ≡ true) × IsPruned v w) →
    (f : F) (es kept : List (Text × Entry)) → RetainsPairs T f es kept → (uid : Text) → IsPrunedIn (lookup (is_at (text_cmp uid)) es) (lookup (is_at (text_cmp uid)) kept)
retained T each f [] kept r uid = ap (lookup (is_at (text_cmp uid))) r
retained T each f (e ∷ es) kept r uid =
    let w = r.1 in
    let rest = r.3 in
    let call = each f e.0 e.1 r.0 w r.2 r.4 in
    let is : kept ≡ (e.0, w) ∷ rest = r.6 ∙ ap (λ b. cond b ((e.0, w) ∷ rest) rest) call.0 in
    let P : List (Text × Entry) → Type 0 = λ x. IsPrunedIn (lookup (is_at (text_cmp uid)) (e ∷ es)) (lookup (is_at (text_cmp uid)) x) in
    subst P (sym is) (step (is_at (text_cmp uid) e.0) e.1 w (lookup (is_at (text_cmp uid)) es) (lookup (is_at (text_cmp uid)) rest) call.1 (retained T each r.2 es rest r.5 uid))
  where
    step : (b : Bool) (v w : Entry) (old new : Option Entry) → IsPruned v w → IsPrunedIn old new → IsPrunedIn (cond b (Some v) old) (cond b (Some w) new)
    step true v w old new h later = (w, refl, h)
    step false v w old new h later = later

pub same_keys : (s n : sorted.BTreeSet Pair) → n.keys ≡ s.keys → (key : Pair) → sorted.contains pair_cmp n key ≡ sorted.contains pair_cmp s key
same_keys s n e key = ap (list_any (is_at (pair_cmp key))) e

-- where there is a row there is an entry
pub has_entry : (o : Option Entry) (dest : Text) → IsSome (row_in o dest) → IsSome o
has_entry None dest h = h
has_entry (Some entry) dest h = refl

-- the keys of a uid's rows are there
pub brought_covers : (w v : sorted.BTreeSet Due) (p q : Tree) (uid : Text) (rows : List OwnRow) (after : Entry) → Grows w v → IsPutAt p uid after q → after.rows.items ≡ rows →
    ((dest : Text) (tries due : ℕ) → Contains rows (dest, Waiting tries due) → sorted.contains due_cmp v (dest, (due, uid)) ≡ true) → Covers w p → Covers v q
brought_covers w v p q uid rows after grows put is there = covers_put w v p q uid after grows put
    (λ dest tries due f. there dest tries due (in_list dest (Waiting tries due) rows (ap (find text_cmp dest) (sym is) ∙ f)))

-- what is in a set stays there
pub still_in : (b c : Bool) → c ≡ true → cond b true c ≡ true
still_in true c h = refl
still_in false c h = h

-- ---- keys that leave
any_of : {X : Type 0} (t : X → Bool) (b : Bool) (x : X) (xs : List X) → list_any t (cond b (x ∷ xs) xs) ≡ ((b && t x) || list_any t xs)
any_of t true x xs = refl
any_of t false x xs = refl

and_none : (b : Bool) → (b && false) ≡ false
and_none true = refl
and_none false = refl

left_one : (t p w a b : Bool) → (t ≡ true → p ≡ w) → a ≡ (b && w) → ((p && t) || a) ≡ ((t || b) && w)
left_one true p true a b same is = ap (λ q. (q && true) || a) (same refl)
left_one true p false a b same is = ap (λ q. (q && true) || a) (same refl) ∙ (is ∙ and_none b)
left_one false true w a b same is = is
left_one false false w a b same is = is

any_left : {X : Type 0} (t p : X → Bool) (w : Bool) → ((x : X) → t x ≡ true → p x ≡ w) → (xs : List X) → list_any t (filter p xs) ≡ (list_any t xs && w)
any_left t p w same [] = refl
any_left t p w same (x ∷ xs) = any_of t (p x) x (filter p xs) ∙ left_one (t x) (p x) w (list_any t (filter p xs)) (list_any t xs) (same x) (any_left t p w same xs)

-- of the arrivals those of other uids are left
pub others_left : (uid : Text) (s n : sorted.BTreeSet Pair) → n.keys ≡ filter (λ x. not (eq_by_cmp text_cmp x.1 uid)) s.keys →
    (key : Pair) → sorted.contains pair_cmp n key ≡ (sorted.contains pair_cmp s key && not (eq_by_cmp text_cmp key.1 uid))
others_left uid s n h key =
    let test : Pair → Bool = λ x. not (eq_by_cmp text_cmp x.1 uid) in
    ap (list_any (is_at (pair_cmp key))) h
    ∙ any_left (is_at (pair_cmp key)) test (test key) (λ x t. ap test (sym (tells_apart text_pairs.exact key x t))) s.keys
