-- What changes of the parts make of the book.
use Rattle.std.proofs.Common.{◌≡◌, T, ℕ, Bool, true, false, cond, not, ◌&&◌, ◌||◌, List, [], ◌∷◌, ◌++◌, Option, None, Some, unwrap_or, refl, sym, ap, ◌∙◌}
use Rattle.std.specs.Ordering.{eq_by_cmp}
use Rattle.std.specs.List.{filter, list_any}
use Rattle.std.specs.BTreeMap as tree
use Rattle.std.specs.BTreeSet as sorted
use Rattle.std.specs.FinMap as map
use Rattle.std.specs.FinMap.{FinMap, find, is_sorted, put}
use Rattle.std.specs.FinMap.Entries.{below_all, find-put}
use Rattle.std.specs.FinSet as set
use Rattle.std.specs.FinSet.{FinSet}
use Rattle.std.proofs.lemmas.Map.Views.{tells_apart}
use Rattle.dr_base.specs.Texts.{Text, text_cmp}
use Rattle.dr_ledger.specs.declared.item.Cause.{Cause}
use Rattle.dr_ledger.specs.declared.item.Instance.{Instance}
use Rattle.dr_ledger.specs.declared.item.Outcome.{Outcome}
use Rattle.dr_ledger.specs.declared.item.Progress.{Progress}
use Rattle.dr_ledger.specs.declared.item.Progress.TheVariants.{Waiting, Held, Done, Dropped}
use Rattle.dr_ledger.specs.Books.{Line, Arrival, Repeat, Settling, Requeuing, Dropping, Forgetting, Adoption, after, arrived_row, is_other, is_over_row, is_queued, not_over, row_after, with_rows}
use Rattle.dr_ledger.specs.Pairs.{Pair, pair_cmp}
use Rattle.dr_ledger.proofs.Forgotten.{arrival_is, item_is, row_is}
use Rattle.std.specs.Cmp.{eq_by_cmp_equiv}
use Rattle.dr_ledger.proofs.Growing.{dropped_is, not_over_is, requeued_is, settled_is}
use Rattle.dr_ledger.proofs.Maps.{texts, text_pairs, ties_itself}
use Rattle.dr_ledger_history.specs.declared.line.JournalLine.{JournalLine}
use Rattle.dr_ledger_history.specs.declared.line.JournalLine.TheVariants as note
use Rattle.dr_ledger_history.specs.Lines.{line_of, lines_of}
use Rattle.dr_ledger_memory.specs.declared.held.Held.{Held as Entry}
use Rattle.dr_ledger_memory.specs.declared.parts.Parts.{Parts}
use Rattle.dr_ledger_memory.specs.Changes.{IsAdoptedInParts, IsDroppedInParts, IsForgottenInParts, IsMoved, IsNoted, IsPrunedIn, IsPutAt, AreSameParts, MovesAt, at}
use Rattle.dr_ledger_memory.specs.Contents.{all_rows, collected, content, data_sets, kept_mark, keys}
use Rattle.dr_ledger_memory.specs.Entries.{OwnRow, filled, filled_at, instance_in, is_kept_in, is_open, row_in, rows_in}
use Rattle.dr_ledger_memory.proofs.Lookups.{arrival_at, item_at, kept_at, pair_ties, row_at}
use Rattle.dr_ledger_memory.proofs.Whole.{above, nothing_found, no_both, t_left, t_right}

pub pushed : (notes : List JournalLine) (note : JournalLine) → lines_of (notes ++ note ∷ []) ≡ lines_of notes ++ line_of note ∷ []
pushed [] note = refl
pushed (first ∷ notes) note = ap (λ ls. line_of first ∷ ls) (pushed notes note)

lines_with : (p q : Parts) (note : JournalLine) (line : Line) → q.notes.items ≡ p.notes.items ++ note ∷ [] → line_of note ≡ line → (content q).lines ≡ (content p).lines ++ line ∷ []
lines_with p q note line notes is = ap lines_of notes ∙ (pushed p.notes.items note ∙ ap (λ x. lines_of p.notes.items ++ x ∷ []) is)

arrivals_alike : (p q : Parts) → ((key : Pair) → sorted.contains pair_cmp q.arrivals key ≡ sorted.contains pair_cmp p.arrivals key) → (content q).arrivals ≡ (content p).arrivals
arrivals_alike p q alike = set.same_set text_pairs.total text_pairs.exact (content q).arrivals (content p).arrivals (λ k. arrival_at q k ∙ (alike k ∙ sym (arrival_at p k)))

-- ---- where only the room has changed
pub same_content : (p q : Parts) → AreSameParts p q → content q ≡ content p
same_content p q s = λ j. record {
  items = map.from_entries (collected (λ entry. Some entry.instance) (s.held j));
  arrivals = arrivals_alike p q s.arrivals j;
  kept = set.from_list (keys (collected kept_mark (s.held j)));
  rows = map.from_entries (all_rows (s.held j));
  lines = lines_of (s.notes j);
}

pub same_data_sets : (p q : Parts) → q.held.entries ≡ p.held.entries → data_sets q ≡ data_sets p
same_data_sets p q same = ap (λ es. map.from_entries (collected (λ entry. entry.body) es)) same

-- ---- a line alone
pub repeated_is : (p q : Parts) (caller : Text) (item : Instance) (note : JournalLine) → IsNoted p note q → line_of note ≡ Repeat caller item → content q ≡ after (Repeat caller item) (content p)
repeated_is p q caller item note n is = λ j. record {
  items = map.from_entries (collected (λ entry. Some entry.instance) (n.held j));
  arrivals = arrivals_alike p q n.arrivals j;
  kept = set.from_list (keys (collected kept_mark (n.held j)));
  rows = map.from_entries (all_rows (n.held j));
  lines = lines_with p q note (Repeat caller item) n.notes is j;
}

-- ---- a first arrival
instance_put : (b : Bool) (entry : Entry) (o : Option Entry) → instance_in (cond b (Some entry) o) ≡ cond b (Some entry.instance) (instance_in o)
instance_put true entry o = refl
instance_put false entry o = refl

kept_put : (b : Bool) (entry : Entry) (o : Option Entry) → is_kept_in (cond b (Some entry) o) ≡ cond b entry.is_kept (is_kept_in o)
kept_put true entry o = refl
kept_put false entry o = refl

row_put : (b : Bool) (entry : Entry) (o : Option Entry) (dest : Text) → row_in (cond b (Some entry) o) dest ≡ cond b (find text_cmp dest entry.rows.items) (row_in o dest)
row_put true entry o dest = refl
row_put false entry o dest = refl

or_true : (b : Bool) → (b || true) ≡ true
or_true true = refl
or_true false = refl

or_false : (b : Bool) → (b || false) ≡ b
or_false true = refl
or_false false = refl

own_row : (o : Option Entry) (dest : Text) → row_in o dest ≡ find text_cmp dest (rows_in o)
own_row None dest = refl
own_row (Some entry) dest = refl

stood : (rows : List OwnRow) (to dest : Text) (row : Progress) → find text_cmp to rows ≡ Some row → find text_cmp dest rows ≡ cond (eq_by_cmp text_cmp dest to) (Some row) (find text_cmp dest rows)
stood rows to dest row h = by_case (eq_by_cmp text_cmp dest to) refl
  where
    by_case : (b : Bool) → eq_by_cmp text_cmp dest to ≡ b → find text_cmp dest rows ≡ cond b (Some row) (find text_cmp dest rows)
    by_case true t = ap (λ d. find text_cmp d rows) (tells_apart texts.exact dest to t) ∙ h
    by_case false t = refl

filled_find : (rows : List OwnRow) (to dest : Text) (o : Option Progress) → find text_cmp to rows ≡ o →
    find text_cmp dest (filled_at rows to o) ≡ cond (eq_by_cmp text_cmp dest to) (Some (arrived_row o)) (find text_cmp dest rows)
filled_find rows to dest None h = find-put text_cmp texts.total dest to (Waiting 0 0) rows
filled_find rows to dest (Some Dropped) h = find-put text_cmp texts.total dest to (Waiting 0 0) rows
filled_find rows to dest (Some Done) h = stood rows to dest Done h
filled_find rows to dest (Some (Held why)) h = stood rows to dest (Held why) h
filled_find rows to dest (Some (Waiting tries due)) h = stood rows to dest (Waiting tries due) h

three : {X : Type 0} (a b : Bool) (x f g : X) → cond (a && b) x (cond a f g) ≡ cond a (cond b x f) g
three true b x f g = refl
three false b x f g = refl

rows_fill : (tos : List Text) (m : FinMap pair_cmp Progress) (rows : List OwnRow) (g : Text → Text → Option Progress) (uid : Text) →
    ((u d : Text) → map.get m (u, d) ≡ cond (eq_by_cmp text_cmp u uid) (find text_cmp d rows) (g u d)) →
    (u d : Text) → map.get (with_rows m uid tos) (u, d) ≡ cond (eq_by_cmp text_cmp u uid) (find text_cmp d (filled rows tos)) (g u d)
unfolding with_rows
rows_fill [] m rows g uid has u d = has u d
rows_fill (to ∷ tos) m rows g uid has u d =
    let own : map.get m (uid, to) ≡ find text_cmp to rows = has uid to ∙ ap (λ b. cond b (find text_cmp to rows) (g uid to)) (ties_itself texts uid) in
    let value : Progress = arrived_row (map.get m (uid, to)) in
    rows_fill tos (map.insert m (uid, to) value) (filled_at rows to (find text_cmp to rows)) g uid (λ u d.
    map.get-insert text_pairs.total m (uid, to) value (u, d)
    ∙ (ap (λ b. cond b (Some value) (map.get m (u, d))) (pair_ties (text_cmp u uid) (text_cmp d to))
    ∙ ((λ j. cond (eq_by_cmp text_cmp u uid && eq_by_cmp text_cmp d to) (Some (arrived_row (own j))) (has u d j))
    ∙ (three (eq_by_cmp text_cmp u uid) (eq_by_cmp text_cmp d to) (Some (arrived_row (find text_cmp to rows))) (find text_cmp d rows) (g u d)
    ∙ ap (λ x. cond (eq_by_cmp text_cmp u uid) x (g u d)) (sym (filled_find rows to d (find text_cmp to rows) refl)))))) u d

module _ (p q : Parts) (sp : tree.IsOrdered text_cmp p.held) (sq : tree.IsOrdered text_cmp q.held) where
  -- the item's entry is put in, the rest stays
  pub brought_is : (caller : Text) (item : Instance) (to : List Text) (keep : Bool) (note : JournalLine) (entry : Entry) →
      entry.instance ≡ unwrap_or (instance_in (at p.held item.uid)) item → entry.is_kept ≡ (is_kept_in (at p.held item.uid) || keep) →
      entry.rows.items ≡ filled (rows_in (at p.held item.uid)) to → IsPutAt p.held item.uid entry q.held →
      ((key : Pair) → sorted.contains pair_cmp q.arrivals key ≡ (eq_by_cmp pair_cmp key (caller, item.uid) || sorted.contains pair_cmp p.arrivals key)) →
      q.notes.items ≡ p.notes.items ++ note ∷ [] → line_of note ≡ Arrival caller item to keep → content q ≡ after (Arrival caller item to keep) (content p)
  brought_is caller item to keep note entry instance kept rows put arrivals notes line = λ j. record {
    items = same_items j;
    arrivals = same_arrivals j;
    kept = same_kept keep refl j;
    rows = same_rows j;
    lines = lines_with p q note (Arrival caller item to keep) notes line j;
  }
    where
      b : Text → Bool
      b u = eq_by_cmp text_cmp u item.uid

      known : map.get (content p).items item.uid ≡ instance_in (at p.held item.uid)
      known = item_at p sp item.uid

      same_items : (content q).items ≡ map.insert (content p).items item.uid (unwrap_or (map.get (content p).items item.uid) item)
      same_items = map.same_map texts.total texts.exact (content q).items (map.insert (content p).items item.uid (unwrap_or (map.get (content p).items item.uid) item)) (λ u.
          item_at q sq u ∙ (ap instance_in (put u) ∙ (instance_put (eq_by_cmp text_cmp u item.uid) entry (at p.held u)
          ∙ ((λ j. cond (eq_by_cmp text_cmp u item.uid) (Some ((instance ∙ ap (λ o. unwrap_or o item) (sym known)) j)) (sym (item_at p sp u) j))
          ∙ sym (map.get-insert texts.total (content p).items item.uid (unwrap_or (map.get (content p).items item.uid) item) u)))))

      same_arrivals : (content q).arrivals ≡ set.insert (content p).arrivals (caller, item.uid)
      same_arrivals = set.same_set text_pairs.total text_pairs.exact (content q).arrivals (set.insert (content p).arrivals (caller, item.uid)) (λ k.
          arrival_at q k ∙ (arrivals k ∙ (ap (λ x. eq_by_cmp pair_cmp k (caller, item.uid) || x) (sym (arrival_at p k)) ∙ sym (set.contains-insert text_pairs.total (content p).arrivals (caller, item.uid) k))))

      kept_now : (u : Text) → set.contains (content q).kept u ≡ cond (eq_by_cmp text_cmp u item.uid) (is_kept_in (at p.held item.uid) || keep) (is_kept_in (at p.held u))
      kept_now u = kept_at q sq u ∙ (ap is_kept_in (put u) ∙ (kept_put (eq_by_cmp text_cmp u item.uid) entry (at p.held u) ∙ ap (λ k. cond (eq_by_cmp text_cmp u item.uid) k (is_kept_in (at p.held u))) kept))

      added : (u : Text) (t : Bool) → cond t (is_kept_in (at p.held item.uid) || true) (is_kept_in (at p.held u)) ≡ (t || set.contains (content p).kept u)
      added u true = or_true (is_kept_in (at p.held item.uid))
      added u false = sym (kept_at p sp u)

      stayed : (u : Text) (t : Bool) → eq_by_cmp text_cmp u item.uid ≡ t → cond t (is_kept_in (at p.held item.uid) || false) (is_kept_in (at p.held u)) ≡ set.contains (content p).kept u
      stayed u true e = or_false (is_kept_in (at p.held item.uid)) ∙ (ap (λ x. is_kept_in (at p.held x)) (sym (tells_apart texts.exact u item.uid e)) ∙ sym (kept_at p sp u))
      stayed u false e = sym (kept_at p sp u)

      same_kept : (k : Bool) → keep ≡ k → (content q).kept ≡ cond keep (set.insert (content p).kept item.uid) (content p).kept
      same_kept true e = set.same_set texts.total texts.exact (content q).kept (set.insert (content p).kept item.uid) (λ u.
          kept_now u ∙ (ap (λ k. cond (eq_by_cmp text_cmp u item.uid) (is_kept_in (at p.held item.uid) || k) (is_kept_in (at p.held u))) e
          ∙ (added u (eq_by_cmp text_cmp u item.uid) ∙ sym (set.contains-insert texts.total (content p).kept item.uid u)))) ∙ ap (λ k. cond k (set.insert (content p).kept item.uid) (content p).kept) (sym e)
      same_kept false e = set.same_set texts.total texts.exact (content q).kept (content p).kept (λ u.
          kept_now u ∙ (ap (λ k. cond (eq_by_cmp text_cmp u item.uid) (is_kept_in (at p.held item.uid) || k) (is_kept_in (at p.held u))) e
          ∙ stayed u (eq_by_cmp text_cmp u item.uid) refl)) ∙ ap (λ k. cond k (set.insert (content p).kept item.uid) (content p).kept) (sym e)

      had_case : (u d : Text) (t : Bool) → eq_by_cmp text_cmp u item.uid ≡ t → row_in (at p.held u) d ≡ cond t (find text_cmp d (rows_in (at p.held item.uid))) (row_in (at p.held u) d)
      had_case u d true e = ap (λ x. row_in (at p.held x) d) (tells_apart texts.exact u item.uid e) ∙ own_row (at p.held item.uid) d
      had_case u d false e = refl

      had : (u d : Text) → map.get (content p).rows (u, d) ≡ cond (eq_by_cmp text_cmp u item.uid) (find text_cmp d (rows_in (at p.held item.uid))) (row_in (at p.held u) d)
      had u d = row_at p sp u d ∙ had_case u d (eq_by_cmp text_cmp u item.uid) refl

      same_rows : (content q).rows ≡ with_rows (content p).rows item.uid to
      same_rows = map.same_map text_pairs.total text_pairs.exact (content q).rows (with_rows (content p).rows item.uid to) (λ k.
          row_at q sq k.0 k.1 ∙ (ap (λ o. row_in o k.1) (put k.0) ∙ (row_put (eq_by_cmp text_cmp k.0 item.uid) entry (at p.held k.0) k.1
          ∙ (ap (λ rs. cond (eq_by_cmp text_cmp k.0 item.uid) (find text_cmp k.1 rs) (row_in (at p.held k.0) k.1)) rows
          ∙ sym (rows_fill to (content p).rows (rows_in (at p.held item.uid)) (λ u d. row_in (at p.held u) d) item.uid had k.0 k.1)))))

-- ---- a row that moves
two : {X : Type 0} (a b : Bool) (x f g : X) → cond a (cond b x f) g ≡ cond (a && b) x (cond a f g)
two true b x f g = refl
two false b x f g = refl

module _ (p q : Parts) (sp : tree.IsOrdered text_cmp p.held) (sq : tree.IsOrdered text_cmp q.held) (uid dest : Text) (progress : Progress) (m : MovesAt p.held uid dest progress q.held) where
  was_put : (t : Bool) (u : Text) → eq_by_cmp text_cmp u uid ≡ t → {X : Type 0} (f : Option Entry → X) → f (Some m.1) ≡ f (Some m.0) → f (cond t (Some m.1) (at p.held u)) ≡ f (at p.held u)
  was_put true u e f same = same ∙ (ap f (sym m.2) ∙ ap (λ x. f (at p.held x)) (sym (tells_apart texts.exact u uid e)))
  was_put false u e f same = refl

  same_in : {X : Type 0} (f : Option Entry → X) → f (Some m.1) ≡ f (Some m.0) → (u : Text) → f (at q.held u) ≡ f (at p.held u)
  same_in f same u = ap f (m.4 u) ∙ was_put (eq_by_cmp text_cmp u uid) u refl f same

  moved_rows : (u d : Text) → row_in (at q.held u) d ≡ cond (eq_by_cmp pair_cmp (u, d) (uid, dest)) (Some progress) (row_in (at p.held u) d)
  moved_rows u d =
      ap (λ o. row_in o d) (m.4 u) ∙ (row_put (eq_by_cmp text_cmp u uid) m.1 (at p.held u) d
      ∙ (ap (λ rs. cond (eq_by_cmp text_cmp u uid) (find text_cmp d rs) (row_in (at p.held u) d)) m.3.rows_are
      ∙ (ap (λ x. cond (eq_by_cmp text_cmp u uid) x (row_in (at p.held u) d)) (find-put text_cmp texts.total d dest progress m.0.rows.items)
      ∙ (two (eq_by_cmp text_cmp u uid) (eq_by_cmp text_cmp d dest) (Some progress) (find text_cmp d m.0.rows.items) (row_in (at p.held u) d)
      ∙ (ap (cond (eq_by_cmp text_cmp u uid && eq_by_cmp text_cmp d dest) (Some progress)) (was (eq_by_cmp text_cmp u uid) refl)
      ∙ ap (λ b. cond b (Some progress) (row_in (at p.held u) d)) (sym (pair_ties (text_cmp u uid) (text_cmp d dest))))))))
    where
      was : (t : Bool) → eq_by_cmp text_cmp u uid ≡ t → cond t (find text_cmp d m.0.rows.items) (row_in (at p.held u) d) ≡ row_in (at p.held u) d
      was true e = ap (λ o. row_in o d) (sym m.2) ∙ ap (λ x. row_in (at p.held x) d) (sym (tells_apart texts.exact u uid e))
      was false e = refl

  moved_as : (arrivals : FinSet pair_cmp) (note : JournalLine) (line : Line) → (content q).arrivals ≡ arrivals → q.notes.items ≡ p.notes.items ++ note ∷ [] → line_of note ≡ line →
      content q ≡ record { items = (content p).items; arrivals = arrivals; kept = (content p).kept; rows = map.insert (content p).rows (uid, dest) progress; lines = (content p).lines ++ line ∷ [] }
  moved_as arrivals note line alike notes is = λ j. record {
    items = map.same_map texts.total texts.exact (content q).items (content p).items (λ u.
        item_at q sq u ∙ (same_in instance_in (ap Some m.3.instance_is) u ∙ sym (item_at p sp u))) j;
    arrivals = alike j;
    kept = set.same_set texts.total texts.exact (content q).kept (content p).kept (λ u. kept_at q sq u ∙ (same_in is_kept_in m.3.kept u ∙ sym (kept_at p sp u))) j;
    rows = map.same_map text_pairs.total text_pairs.exact (content q).rows (map.insert (content p).rows (uid, dest) progress) (λ k.
        row_at q sq k.0 k.1 ∙ (moved_rows k.0 k.1 ∙ (ap (cond (eq_by_cmp pair_cmp k (uid, dest)) (Some progress)) (sym (row_at p sp k.0 k.1))
        ∙ sym (map.get-insert text_pairs.total (content p).rows (uid, dest) progress k)))) j;
    lines = lines_with p q note line notes is j;
  }

module _ (p q : Parts) (sp : tree.IsOrdered text_cmp p.held) (sq : tree.IsOrdered text_cmp q.held) (uid dest : Text) (progress : Progress) (note : JournalLine) (m : IsMoved p uid dest progress note q) where
  moved_is : (line : Line) → line_of note ≡ line →
      content q ≡ record { items = (content p).items; arrivals = (content p).arrivals; kept = (content p).kept; rows = map.insert (content p).rows (uid, dest) progress; lines = (content p).lines ++ line ∷ [] }
  moved_is line is = moved_as p q sp sq uid dest progress m.held (content p).arrivals note line (arrivals_alike p q m.arrivals) m.notes is

  pub settled_so : (outcome : Outcome) (now tries due : ℕ) → map.get (content p).rows (uid, dest) ≡ Some (Waiting tries due) → progress ≡ row_after tries outcome now →
      line_of note ≡ Settling uid dest outcome now → content q ≡ after (Settling uid dest outcome now) (content p)
  settled_so outcome now tries due waits is line =
      moved_is (Settling uid dest outcome now) line
      ∙ (ap (λ (x : Progress). record { items = (content p).items; arrivals = (content p).arrivals; kept = (content p).kept; rows = map.insert (content p).rows (uid, dest) x; lines = (content p).lines ++ Settling uid dest outcome now ∷ [] }) is
      ∙ sym (settled_is uid dest outcome now tries due (content p) waits))

  pub requeued_so : (why : Cause) → map.get (content p).rows (uid, dest) ≡ Some (Held why) → progress ≡ Waiting 0 0 → line_of note ≡ Requeuing uid dest →
      content q ≡ after (Requeuing uid dest) (content p)
  requeued_so why held is line =
      moved_is (Requeuing uid dest) line
      ∙ (ap (λ (x : Progress). record { items = (content p).items; arrivals = (content p).arrivals; kept = (content p).kept; rows = map.insert (content p).rows (uid, dest) x; lines = (content p).lines ++ Requeuing uid dest ∷ [] }) is
      ∙ sym (requeued_is uid dest why (content p) held))

-- ---- a dropping
pub dropped_so : (p q : Parts) (sp : tree.IsOrdered text_cmp p.held) (sq : tree.IsOrdered text_cmp q.held) (uid dest : Text) (note : JournalLine) → IsDroppedInParts p uid dest note q → (now : ℕ) (why : Cause) →
    map.get (content p).rows (uid, dest) ≡ Some (Held why) → line_of note ≡ Dropping uid dest now → content q ≡ after (Dropping uid dest now) (content p)
dropped_so p q sp sq uid dest note d now why held line =
    let left : FinSet pair_cmp = set.retain (content p).arrivals (λ at. is_other uid at.1) in
    moved_as p q sp sq uid dest Dropped d.held left note (Dropping uid dest now)
    (set.same_set text_pairs.total text_pairs.exact (content q).arrivals left (λ k.
    arrival_at q k ∙ (d.arrivals k ∙ (ap (λ b. b && not (eq_by_cmp text_cmp k.1 uid)) (sym (arrival_at p k)) ∙ sym (arrival_is (content p) uid k)))))
    d.notes line
    ∙ sym (dropped_is uid dest now why (content p) held)

-- ---- an adoption
abbrev opened : Option Progress → Option Progress
opened None = None
opened (Some row) = cond (is_queued row) (Some row) None

none_below : (k x : Text) (es : List OwnRow) → T (below_all text_cmp x es) → eq_by_cmp text_cmp k x ≡ true → find text_cmp k es ≡ None
none_below k x es h t = at_found (find text_cmp k es) refl
  where
    at_found : (o : Option Progress) → find text_cmp k es ≡ o → find text_cmp k es ≡ None
    at_found None e = e
    at_found (Some v) e = absurd (no_both _ t (above x k v es h e))

find_open : (dest : Text) (rows : List OwnRow) → T (is_sorted text_cmp rows) → find text_cmp dest (filter is_open rows) ≡ opened (find text_cmp dest rows)
find_open dest [] h = refl
find_open dest (e ∷ es) h = by_case (find_open dest es (t_right _ _ h)) (eq_by_cmp text_cmp dest e.0) refl (is_open e) refl
  where
    by_case : find text_cmp dest (filter is_open es) ≡ opened (find text_cmp dest es) → (t : Bool) → eq_by_cmp text_cmp dest e.0 ≡ t → (b : Bool) → is_open e ≡ b →
        find text_cmp dest (cond (is_open e) (e ∷ filter is_open es) (filter is_open es)) ≡ opened (cond (eq_by_cmp text_cmp dest e.0) (Some e.1) (find text_cmp dest es))
    by_case later true t true b =
        ap (λ x. find text_cmp dest (cond x (e ∷ filter is_open es) (filter is_open es))) b ∙ (ap (λ x. cond x (Some e.1) (find text_cmp dest (filter is_open es))) t
        ∙ (sym (ap (λ x. cond x (Some e.1) None) b) ∙ sym (ap (λ x. opened (cond x (Some e.1) (find text_cmp dest es))) t)))
    by_case later true t false b =
        ap (λ x. find text_cmp dest (cond x (e ∷ filter is_open es) (filter is_open es))) b ∙ (later ∙ (ap opened (none_below dest e.0 es (t_left _ _ h) t)
        ∙ (sym (ap (λ x. cond x (Some e.1) None) b) ∙ sym (ap (λ x. opened (cond x (Some e.1) (find text_cmp dest es))) t))))
    by_case later false t true b =
        ap (λ x. find text_cmp dest (cond x (e ∷ filter is_open es) (filter is_open es))) b ∙ (ap (λ x. cond x (Some e.1) (find text_cmp dest (filter is_open es))) t
        ∙ (later ∙ sym (ap (λ x. opened (cond x (Some e.1) (find text_cmp dest es))) t)))
    by_case later false t false b =
        ap (λ x. find text_cmp dest (cond x (e ∷ filter is_open es) (filter is_open es))) b ∙ (later ∙ sym (ap (λ x. opened (cond x (Some e.1) (find text_cmp dest es))) t))

pub opened_some : (o : Option Progress) (row : Progress) → opened o ≡ Some row → o ≡ Some row
opened_some None row h = absurd (nothing_found row h)
opened_some (Some had) row h = by_case (is_queued had) h
  where
    by_case : (b : Bool) → cond b (Some had) None ≡ Some row → Some had ≡ Some row
    by_case true e = e
    by_case false e = absurd (nothing_found row e)

twice : (b : Bool) → b ≡ not (not b)
twice true = refl
twice false = refl

opened_is : (o : Option Progress) → opened o ≡ cond (not (is_over_row o)) o None
opened_is None = refl
opened_is (Some row) = ap (λ b. cond b (Some row) None) (twice (is_queued row))

pub pruned_row : (old new : Option Entry) (dest : Text) → IsPrunedIn old new → row_in new dest ≡ opened (row_in old dest)
pruned_row None new dest h = ap (λ o. row_in o dest) h
pruned_row (Some before) new dest h = ap (λ o. row_in o dest) h.1 ∙ (ap (find text_cmp dest) h.2.rows_are ∙ find_open dest before.rows.items before.ordered)

pruned_instance : (old new : Option Entry) → IsPrunedIn old new → instance_in new ≡ instance_in old
pruned_instance None new h = ap instance_in h
pruned_instance (Some before) new h = ap instance_in h.1 ∙ ap Some h.2.instance_is

pruned_kept : (old new : Option Entry) → IsPrunedIn old new → is_kept_in new ≡ is_kept_in old
pruned_kept None new h = ap is_kept_in h
pruned_kept (Some before) new h = ap is_kept_in h.1 ∙ h.2.kept

pub adopted_is : (p q : Parts) → tree.IsOrdered text_cmp p.held → tree.IsOrdered text_cmp q.held → IsAdoptedInParts p q → content q ≡ after Adoption (content p)
adopted_is p q sp sq a = λ j. record {
  items = map.same_map texts.total texts.exact (content q).items (content p).items (λ u. item_at q sq u ∙ (pruned_instance (at p.held u) (at q.held u) (a.held u) ∙ sym (item_at p sp u))) j;
  arrivals = set.same_set text_pairs.total text_pairs.exact (content q).arrivals set.empty (λ k. set.contains-from_list text_pairs.total q.arrivals.keys k ∙ (ap (list_any (eq_by_cmp pair_cmp k)) a.arrivals ∙ sym (set.contains-empty pair_cmp k))) j;
  kept = set.same_set texts.total texts.exact (content q).kept (content p).kept (λ u. kept_at q sq u ∙ (pruned_kept (at p.held u) (at q.held u) (a.held u) ∙ sym (kept_at p sp u))) j;
  rows = map.same_map text_pairs.total text_pairs.exact (content q).rows (not_over (content p).rows) (λ k.
      row_at q sq k.0 k.1 ∙ (pruned_row (at p.held k.0) (at q.held k.0) k.1 (a.held k.0) ∙ (ap opened (sym (row_at p sp k.0 k.1)) ∙ (opened_is (map.get (content p).rows k) ∙ sym (not_over_is (content p).rows k))))) j;
  lines = lines_with p q note.Adoption Adoption a.notes refl j;
}

-- ---- a forgetting
none_instance : (b : Bool) (o : Option Entry) → instance_in (cond b None o) ≡ cond b None (instance_in o)
none_instance true o = refl
none_instance false o = refl

none_kept : (b : Bool) (o : Option Entry) → is_kept_in (cond b None o) ≡ cond b false (is_kept_in o)
none_kept true o = refl
none_kept false o = refl

none_row : (b : Bool) (o : Option Entry) (dest : Text) → row_in (cond b None o) dest ≡ cond (not b) (row_in o dest) None
none_row true o dest = refl
none_row false o dest = refl

no_mark : (b m : Bool) → (b ≡ true → m ≡ false) → cond b false m ≡ m
no_mark true m h = sym (h refl)
no_mark false m h = refl

module _ (p q : Parts) (sp : tree.IsOrdered text_cmp p.held) (sq : tree.IsOrdered text_cmp q.held) (uid : Text) (note : JournalLine) (f : IsForgottenInParts p uid note q) where
  pub left_at : (u : Text) → at q.held u ≡ cond (eq_by_cmp text_cmp u uid) None (at p.held u)
  left_at u = f.held u ∙ ap (λ b. cond b None (at p.held u)) ((eq_by_cmp_equiv texts.total).symm uid u)

  pub forgotten_is : set.contains (content p).kept uid ≡ false → line_of note ≡ Forgetting uid → content q ≡ after (Forgetting uid) (content p)
  forgotten_is unkept line = λ j. record {
    items = map.same_map texts.total texts.exact (content q).items (map.remove (content p).items uid) (λ u.
        item_at q sq u ∙ (ap instance_in (left_at u) ∙ (none_instance (eq_by_cmp text_cmp u uid) (at p.held u)
        ∙ (ap (cond (eq_by_cmp text_cmp u uid) None) (sym (item_at p sp u)) ∙ sym (item_is (content p) uid u))))) j;
    arrivals = set.same_set text_pairs.total text_pairs.exact (content q).arrivals (after (Forgetting uid) (content p)).arrivals (λ k.
        arrival_at q k ∙ (f.arrivals k ∙ (ap (λ b. b && not (eq_by_cmp text_cmp k.1 uid)) (sym (arrival_at p k)) ∙ sym (arrival_is (content p) uid k)))) j;
    kept = set.same_set texts.total texts.exact (content q).kept (content p).kept (λ u.
        kept_at q sq u ∙ (ap is_kept_in (left_at u) ∙ (none_kept (eq_by_cmp text_cmp u uid) (at p.held u)
        ∙ (no_mark (eq_by_cmp text_cmp u uid) (is_kept_in (at p.held u)) (λ t. ap (λ x. is_kept_in (at p.held x)) (tells_apart texts.exact u uid t) ∙ (sym (kept_at p sp uid) ∙ unkept)) ∙ sym (kept_at p sp u))))) j;
    rows = map.same_map text_pairs.total text_pairs.exact (content q).rows (after (Forgetting uid) (content p)).rows (λ k.
        row_at q sq k.0 k.1 ∙ (ap (λ o. row_in o k.1) (left_at k.0) ∙ (none_row (eq_by_cmp text_cmp k.0 uid) (at p.held k.0) k.1
        ∙ (ap (λ r. cond (not (eq_by_cmp text_cmp k.0 uid)) r None) (sym (row_at p sp k.0 k.1)) ∙ sym (row_is (content p) uid k))))) j;
    lines = lines_with p q note (Forgetting uid) f.notes line j;
  }
