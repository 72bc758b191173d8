-- The steps of the search: a stop is entered, a target of it is done, and it is finished.
use Rattle.std.proofs.Common.{◌≡◌, ◌≢◌, ℕ, ◌+◌, ◌-◌, ◌<◌, ◌≤◌, ◌⊎◌, max, inl, inr, refl, sym, ◌∙◌, ap, subst, List, [], ◌∷◌, ◌++◌, length, Contains, Some, None, get_or, take, arith, below_more, length-append}
use Rattle.std.specs.Prelude.{AllPairs}
use Rattle.std.specs.BTreeMap.{btree_map_len, keys, IsOrdered}
use Rattle.std.proofs.Math.Logic.{⊎_elim}
use Rattle.std.proofs.lemmas.Bool.{cases_lt}
use Rattle.std.proofs.lemmas.Grind.{common_steps}
use Rattle.std.proofs.lemmas.List.{get_or_default}
use Rattle.std.proofs.lemmas.Map.Entries.{length-keys_of}
use Rattle.std.proofs.lemmas.List.Kept.{AllPairs-cons}
use Rattle.std.proofs.lemmas.List.Quantifiers.{all_pairs_push}
use Rattle.std.proofs.lemmas.List.Elements.{Contains-get_or, Contains-push, Contains-push_cases, Contains-append_left, All-cons}
use Rattle.dr_base.specs.Texts.{Text}
use Rattle.dr_route.specs.Routes.{local}
use Rattle.dr_route.specs.Laws.{key_of}
use Rattle.dr_route.specs.declared.key.Key.{Key}
use Rattle.dr_route.specs.declared.cell.OwnedCell.{OwnedCell}
use Rattle.dr_plan_model.specs.Networks.{Network}
use Rattle.dr_plan_model.specs.Plans.{IsWellFormed, LiesIn}
use Rattle.dr_plan_model.specs.Laws.{IsCellOf}
use Rattle.dr_plan_model.specs.Walks.{Accepts, IsReached}
use Rattle.dr_plan_model.proofs.Gathered.{nothing_in_nil}
use Rattle.dr_plan_model.proofs.WalksAlike.{cell_has_a_key}
use Rattle.dr_plan_sound.specs.declared.certificate.Stop.{Stop}
use Rattle.dr_plan_sound.specs.declared.certificate.Line.{Line}
use Rattle.dr_plan_sound.specs.Ranked.{line_at, IsRanked}
use Rattle.dr_check.specs.Shown.{IsTooLarge}
use Rattle.dr_check.specs.declared.search.Search.{Search}
use Rattle.dr_check.specs.declared.search.Mark.{Mark}
use Rattle.dr_check.specs.declared.search.Mark.TheVariants.{Open, Finished}
use Rattle.dr_plan_sound.specs.Stops.{stop_cmp}
use Rattle.dr_check.specs.Searching.{mark_at, stop_at, pairs_from, IsTrail, IsSearching, IsTaken, IsSearchedThrough, IsNew, IsInside, IsRankedBy}
use Rattle.dr_plan_sound.proofs.SameStops.{same_stop_or_not}
use Rattle.dr_check.proofs.Marking.{Marks-set, open_is_not_finished, none_is_not_some, finished_same, unmarked, keys_apart, keys_marked}
use Rattle.dr_check.proofs.Trails.{trail_pairs, trail_reaches}

-- ---- too many stops
pub too_large : (plan : Network) → IsWellFormed plan → (cell : OwnedCell) → IsCellOf plan cell → (s : Search) → IsSearching plan cell s →
    (nodes : List Text) (caller node : Text) → IsTrail plan (key_of cell) nodes caller node → mark_at s.marks (stop_at caller node cell) ≡ None →
    IsOrdered stop_cmp s.marks → btree_map_len s.marks ≡ 65536 → IsTooLarge plan
too_large plan formed cell is s searching nodes caller node trail fresh ordered len =
    let here : Stop = stop_at caller node cell in
    let R : Stop → Type 0 = λ stop. (key : Key) × LiesIn plan stop.cell key × IsReached plan key stop.caller stop.node in
    let long : length (keys s.marks) ≡ 65536 = length-keys_of s.marks.entries ∙ len in
    record {
      stops = here ∷ keys s.marks;
      apart = AllPairs-cons (λ (a b : Stop). a ≢ b) here (keys s.marks)
          (λ k d h same.
          let m = keys_marked s.marks ordered k d h in
          none_is_not_some (ap (λ (x : Stop). mark_at s.marks x) (sym same) ∙ fresh) m.1)
          (keys_apart s.marks ordered);
      each = All-cons R here (keys s.marks) (key_of cell, cell_has_a_key plan formed cell is, trail_reaches plan (key_of cell) nodes caller node trail)
          (λ k d h.
          let m = keys_marked s.marks ordered k d h in
          let known = searching.known (get_or (keys s.marks) k d) m.0 m.1 in
          (key_of (get_or (keys s.marks) k d).cell, cell_has_a_key plan formed (get_or (keys s.marks) k d).cell known.0, known.1));
      many = omega arith;
    }

-- ---- a line that is added changes none of the others
IsRanked-grows : (plan : Network) (old new : List Line) (stop : Stop) (r : ℕ) → ((line : Line) → Contains old line → Contains new line) → IsRanked plan old stop r → IsRanked plan new stop r
IsRanked-grows plan old new stop r grows h = record {
  lower = λ to sent. let l = h.lower to sent in (l.0, (l.1.0, grows _ l.1.1, l.1.2));
  next = ⊎_elim (λ e. inl e) (λ x. inr (x.0, x.1, x.2, grows _ x.3, x.4)) h.next;
  goes_on = h.goes_on;
}

length-pushed : {X : Type 0} (xs : List X) (x : X) → length (xs ++ x ∷ []) ≡ length xs + 1
length-pushed xs x = simp length-append (omega arith)

-- ---- a stop is entered
pub entered : (plan : Network) (cell : OwnedCell) → IsCellOf plan cell → (old new : Search) (caller node : Text) →
    IsSearching plan cell old → IsTrail plan (key_of cell) (old.path.items ++ node ∷ []) caller node →
    mark_at old.marks (stop_at caller node cell) ≡ None → btree_map_len old.marks ≢ 65536 →
    new.path.items ≡ old.path.items ++ node ∷ [] → new.lines ≡ old.lines → btree_map_len new.marks ≡ btree_map_len old.marks + 1 →
    Marks-set old.marks new.marks (stop_at caller node cell) Open → IsInside plan cell caller node old new
entered plan cell is old new caller node h trail none room path lines grown put =
    let here : Stop = stop_at caller node cell in
    let len : length new.path.items ≡ length old.path.items + 1 = ap (λ (ns : List Text). length ns) path ∙ length-pushed old.path.items node in
    let same_lines : new.lines.items ≡ old.lines.items = ap (λ v. v.items) lines in
    let count : length new.lines.items ≡ length old.lines.items = ap (λ (ls : List Line). length ls) same_lines in
    let extends : (stop : Stop) (m : Mark) → mark_at old.marks stop ≡ Some m → mark_at new.marks stop ≡ Some m =
    λ stop m e. put.apart stop (λ same. none_is_not_some none (ap (λ (x : Stop). mark_at old.marks x) (sym same) ∙ e)) ∙ e in
    let small : btree_map_len old.marks ≤ 65536 = h.within in
    let roomy : length old.lines.items + length old.path.items ≤ btree_map_len old.marks = h.room in
    let pairs : pairs_from local new.path.items ≡ pairs_from local old.path.items ++ (caller, node) ∷ [] =
    ap (λ (ns : List Text). pairs_from local ns) path ∙ trail_pairs plan (key_of cell) old.path.items caller node trail in
    let L : List Line → Stop → ℕ → Type 0 = λ ls stop r. Contains ls (record { stop = stop; rank = r }) in
    let back : (stop : Stop) (r : ℕ) → L new.lines.items stop r → L old.lines.items stop r = λ stop r e. let P : List Line → Type 0 = λ ls. L ls stop r in subst P same_lines e in
    let forth : (line : Line) → Contains old.lines.items line → Contains new.lines.items line = λ line e. let P : List Line → Type 0 = λ ls. Contains ls line in subst P (sym same_lines) e in
    record {
      searching = record {
        marked = λ stop r e. elim (same_stop_or_not stop here) [
          | inl same ↦ absurd (open_is_not_finished put.here (ap (λ (x : Stop). mark_at new.marks x) (sym same) ∙ e))
          | inr other ↦ forth _ (h.marked stop r (sym (put.apart stop other) ∙ e))
        ];
        listed = λ stop r e. extends stop (Finished r) (h.listed stop r (back stop r e));
        ranked = λ stop r e. IsRanked-grows plan old.lines.items new.lines.items stop r forth (h.ranked stop r (back stop r e));
        counted = λ stop r e. let below = h.counted stop r (back stop r e) in omega (arith, below);
        known = λ stop m e. elim (same_stop_or_not stop here) [
          | inl same ↦
              let P : Stop → Type 0 = λ x. IsCellOf plan x.cell × IsReached plan (key_of x.cell) x.caller x.node in
              subst P (sym same) (is, trail_reaches plan (key_of cell) (old.path.items ++ node ∷ []) caller node trail)
          | inr other ↦ h.known stop m (sym (put.apart stop other) ∙ e)
        ];
        on_path = λ stop e. elim (same_stop_or_not stop here) [
          | inl same ↦
              let P : Stop → Type 0 = λ x. (x.cell ≡ cell) × Contains (pairs_from local new.path.items) (x.caller, x.node) in
              let Q : List (Text × Text) → Type 0 = λ ps. Contains ps (caller, node) in
              subst P (sym same) (refl, subst Q (sym pairs) (Contains-push (pairs_from local old.path.items) (caller, node)))
          | inr other ↦
              let before = h.on_path stop (sym (put.apart stop other) ∙ e) in
              let Q : List (Text × Text) → Type 0 = λ ps. Contains ps (stop.caller, stop.node) in
              (before.0, subst Q (sym pairs) (Contains-append_left (pairs_from local old.path.items) ((caller, node) ∷ []) (stop.caller, stop.node) before.1))
        ];
        room = omega arith;
        within = omega arith;
        apart = let P : List Line → Type 0 = λ ls. AllPairs (λ a b. a ≢ b) ls in subst P (sym same_lines) h.apart;
      };
      later = record { marks = extends; lines = forth; longer = omega arith };
      more = omega arith;
      path = path;
      here = put.here;
      fresh = none;
    }

-- ---- one more target has its line
pub ranked_more : (plan : Network) (cell : OwnedCell) (node : Text) (lines : List Line) (targets : List Text) (i rank below : ℕ) →
    node ≢ local → IsRankedBy plan cell node lines targets i rank → Contains lines (line_at node (get_or targets i []) cell below) →
    IsTaken plan cell node (get_or targets i []) → IsRankedBy plan cell node lines targets (i + 1) (max rank (below + 1))
ranked_more plan cell node lines targets i rank below other ranked line taken = record {
  lower = below_more _ _
      (λ k h. let l = ranked.lower k h in (l.0, (l.1.0, l.1.1, (let lt : l.1.0 < rank = l.1.2 in omega arith)))) (
        ⊎_elim (λ same. absurd (other same)) (λ accepted. accepted) taken,
        (below, line, omega arith),
      );
  next = elim (cases_lt rank (below + 1)) [
    | inl more ↦ inr (i, below, omega arith, line, omega arith)
    | inr less ↦ ⊎_elim
        (λ zero. absurd (omega arith))
        (λ x. inr (x.0, x.1, (let a : x.0 < i = x.2 in omega arith), x.3, (let b : rank ≡ x.1 + 1 = x.4 in omega arith)))
        ranked.next
  ];
}

-- ---- what was right stays right while lines are added
pub ranked_later : (plan : Network) (cell : OwnedCell) (node : Text) (old new : List Line) (targets : List Text) (i rank : ℕ) →
    ((line : Line) → Contains old line → Contains new line) → IsRankedBy plan cell node old targets i rank → IsRankedBy plan cell node new targets i rank
ranked_later plan cell node old new targets i rank grows ranked = record {
  lower = λ k h. let l = ranked.lower k h in (l.0, (l.1.0, grows _ l.1.1, l.1.2));
  next = ⊎_elim (λ e. inl e) (λ x. inr (x.0, x.1, x.2, grows _ x.3, x.4)) ranked.next;
}

pub inside_later : (plan : Network) (cell : OwnedCell) (caller node : Text) (start old new : Search) (from to : Text) (rank : ℕ) →
    IsInside plan cell caller node start old → IsSearchedThrough plan cell from to rank old new → IsInside plan cell caller node start new
inside_later plan cell caller node start old new from to rank inside done = record {
  searching = done.searching;
  later = record {
    marks = λ stop m e. done.later.marks stop m (inside.later.marks stop m e);
    lines = λ line e. done.later.lines line (inside.later.lines line e);
    longer = let a = inside.later.longer in let b = done.later.longer in omega arith;
  };
  more = let a = inside.more in let b = done.later.longer in omega arith;
  path = done.path ∙ inside.path;
  here = done.later.marks _ Open inside.here;
  fresh = inside.fresh;
}

-- ---- all targets are done
pub finished : (plan : Network) (cell : OwnedCell) (old s new : Search) (caller node : Text) (stop : Stop) (targets : List Text) (rank : ℕ) →
    IsTrail plan (key_of cell) (old.path.items ++ node ∷ []) caller node →
    IsInside plan cell caller node old s → IsNew plan cell caller node stop targets old → IsRankedBy plan cell node s.lines.items targets (length targets) rank →
    new.path.items ≡ old.path.items → new.lines.items ≡ s.lines.items ++ (line_at caller node cell rank) ∷ [] →
    btree_map_len new.marks ≡ btree_map_len s.marks → Marks-set s.marks new.marks (stop_at caller node cell) (Finished rank) →
    IsSearchedThrough plan cell caller node rank old new
finished plan cell old s new caller node stop targets rank trail inside fresh ranked path lines len put =
    let here : Stop = stop_at caller node cell in
    let line : Line = line_at caller node cell rank in
    let shorter : length new.path.items + 1 ≡ length s.path.items =
    ap (λ (ns : List Text). length ns + 1) path ∙ sym (ap (λ (ns : List Text). length ns) inside.path ∙ length-pushed old.path.items node) in
    let longer : length new.lines.items ≡ length s.lines.items + 1 = ap (λ (ls : List Line). length ls) lines ∙ length-pushed s.lines.items line in
    let L : List Line → Stop → ℕ → Type 0 = λ ls x r. Contains ls (record { stop = x; rank = r }) in
    let grows : (l : Line) → Contains s.lines.items l → Contains new.lines.items l =
    λ l e. let P : List Line → Type 0 = λ ls. Contains ls l in subst P (sym lines) (Contains-append_left s.lines.items (line ∷ []) l e) in
    let added : Contains new.lines.items line = let P : List Line → Type 0 = λ ls. Contains ls line in subst P (sym lines) (Contains-push s.lines.items line) in
    let cases : (x : Stop) (r : ℕ) → L new.lines.items x r → L s.lines.items x r ⊎ ((x ≡ here) × (r ≡ rank)) =
    λ x r e.
    let P : List Line → Type 0 = λ ls. L ls x r in
    elim (Contains-push_cases s.lines.items line (record { stop = x; rank = r }) (subst P lines e)) [
      | inl before ↦ inl before
      | inr same ↦ inr (sym (ap (λ (l : Line). l.stop) same), sym (ap (λ (l : Line). l.rank) same))
    ] in
    let keeps : (x : Stop) (r : ℕ) → mark_at s.marks x ≡ Some (Finished r) → mark_at new.marks x ≡ Some (Finished r) =
    λ x r e. put.apart x (λ same. open_is_not_finished inside.here (ap (λ (y : Stop). mark_at s.marks y) (sym same) ∙ e)) ∙ e in
    let counted : rank ≤ length s.lines.items = ⊎_elim
    (λ zero. omega arith)
    (λ x. let below = inside.searching.counted _ _ x.3 in let b : rank ≡ x.1 + 1 = x.4 in omega (arith, below)) ranked.next in
    let right : IsRanked plan new.lines.items here rank = record {
      lower = λ to sent.
          let among : Contains targets to = (fresh.named to).1 sent in
          let at : get_or targets among.0 [] ≡ to = get_or_default targets among.0 [] to among.1 ∙ among.2 in
          let l = ranked.lower among.0 among.1 in
          let P : Text → Type 0 = λ t. Accepts plan t node cell.class cell.syntax in
          let Q : Text → Type 0 = λ t. Contains s.lines.items (line_at node t cell l.1.0) in
          (subst P at l.0, (l.1.0, grows _ (subst Q at l.1.1), l.1.2));
      next = ⊎_elim (λ e. inl e)
          (λ x. inr (get_or targets x.0 [], x.1, (fresh.named _).0 (Contains-get_or targets x.0 [] x.2), grows _ x.3, x.4)) ranked.next;
      goes_on = fresh.goes_on;
    } in
    let pairs = trail_pairs plan (key_of cell) old.path.items caller node trail in
    record {
      searching = record {
        marked = λ x r e. elim (same_stop_or_not x here) [
          | inl same ↦
              let q : rank ≡ r = finished_same put.here (ap (λ (y : Stop). mark_at new.marks y) (sym same) ∙ e) in
              let P : Stop → Type 0 = λ y. L new.lines.items y r in
              let Q : ℕ → Type 0 = λ n. L new.lines.items here n in
              subst P (sym same) (subst Q q added)
          | inr other ↦ grows _ (inside.searching.marked x r (sym (put.apart x other) ∙ e))
        ];
        listed = λ x r e. elim (cases x r e) [
          | inl before ↦ keeps x r (inside.searching.listed x r before)
          | inr new_one ↦
              let P : Stop → Type 0 = λ y. mark_at new.marks y ≡ Some (Finished r) in
              let Q : ℕ → Type 0 = λ n. mark_at new.marks here ≡ Some (Finished n) in
              subst P (sym new_one.0) (subst Q (sym new_one.1) put.here)
        ];
        ranked = λ x r e. elim (cases x r e) [
          | inl before ↦ IsRanked-grows plan s.lines.items new.lines.items x r grows (inside.searching.ranked x r before)
          | inr new_one ↦
              let P : Stop → Type 0 = λ y. IsRanked plan new.lines.items y r in
              let Q : ℕ → Type 0 = λ n. IsRanked plan new.lines.items here n in
              subst P (sym new_one.0) (subst Q (sym new_one.1) right)
        ];
        counted = λ x r e. elim (cases x r e) [
          | inl before ↦ (let below = inside.searching.counted x r before in omega (arith, below))
          | inr new_one ↦ (let q : r ≡ rank = new_one.1 in omega arith)
        ];
        known = λ x m e. elim (same_stop_or_not x here) [
          | inl same ↦ inside.searching.known x Open (ap (λ (y : Stop). mark_at s.marks y) same ∙ inside.here)
          | inr other ↦ inside.searching.known x m (sym (put.apart x other) ∙ e)
        ];
        on_path = λ x e. elim (same_stop_or_not x here) [
          | inl same ↦ absurd (open_is_not_finished (ap (λ (y : Stop). mark_at new.marks y) (sym same) ∙ e) put.here)
          | inr other ↦
              let before = inside.searching.on_path x (sym (put.apart x other) ∙ e) in
              let P : List Text → Type 0 = λ ns. Contains (pairs_from local ns) (x.caller, x.node) in
              let Q : List (Text × Text) → Type 0 = λ ps. Contains ps (x.caller, x.node) in
              elim (Contains-push_cases (pairs_from local old.path.items) (caller, node) (x.caller, x.node) (subst Q pairs (subst P inside.path before.1))) [
                | inl earlier ↦ (before.0, subst P (sym path) earlier)
                | inr same ↦ absurd (other (stop_from (x.caller) (x.node) (x.cell) caller node cell
                    (sym (ap (λ (p : Text × Text). p.0) same)) (sym (ap (λ (p : Text × Text). p.1) same)) before.0))
              ]
        ];
        room = let a = inside.searching.room in omega arith;
        within = let a = inside.searching.within in omega arith;
        apart = let P : List Line → Type 0 = λ ls. AllPairs (λ a b. a ≢ b) ls in
            subst P (sym lines) (all_pairs_push (λ (a b : Line). a ≢ b) s.lines.items line inside.searching.apart
            (λ k d h same.
            let among : Contains s.lines.items line = let Q : Line → Type 0 = λ l. Contains s.lines.items l in subst Q same (Contains-get_or s.lines.items k d h) in
            open_is_not_finished inside.here (inside.searching.listed here rank among)));
      };
      later = record {
        marks = λ x m e. put.apart x (λ same. none_is_not_some inside.fresh (ap (λ (y : Stop). mark_at old.marks y) (sym same) ∙ e)) ∙ inside.later.marks x m e;
        lines = λ l e. grows l (inside.later.lines l e);
        longer = let a = inside.more in omega arith;
      };
      path = path;
      rank = put.here;
      taken = fresh.taken;
    }
  where
    stop_from : (a b : Text) (x : OwnedCell) (c d : Text) (y : OwnedCell) → a ≡ c → b ≡ d → x ≡ y → stop_at a b x ≡ stop_at c d y
    stop_from a b x c d y e f g = ap (λ (t : Text). stop_at t b x) e ∙ (ap (λ (t : Text). stop_at c t x) f ∙ ap (λ (z : OwnedCell). stop_at c d z) g)

-- ---- what was pushed is popped again
take_pushed : (xs : List Text) (x : Text) (k : ℕ) → k ≡ length xs → take k (xs ++ x ∷ []) ≡ xs
take_pushed xs x k e = rw e (grind (arith, common_steps))

pub popped : (node : Text) (old path rest : List Text) (n : ℕ) → path ≡ old ++ node ∷ [] → n ≡ length path → rest ≡ take (n - 1) path → rest ≡ old
popped node old path rest n pushed len taken =
    let l = length-pushed old node in
    let m : length path ≡ length old + 1 = ap (λ (ns : List Text). length ns) pushed ∙ l in
    taken ∙ rw pushed (take_pushed old node (n - 1) (omega arith))

-- ---- a search that stands on no walk can go on with any cell
pub any_cell : (plan : Network) (cell other : OwnedCell) (s : Search) → s.path.items ≡ [] → IsSearching plan cell s → IsSearching plan other s
any_cell plan cell other s none h = record {
  marked = h.marked;
  listed = h.listed;
  ranked = h.ranked;
  counted = h.counted;
  known = h.known;
  on_path = λ stop e.
      let P : List Text → Type 0 = λ ns. Contains (pairs_from local ns) (stop.caller, stop.node) in
      absurd (nothing_in_nil (stop.caller, stop.node) (subst P none (h.on_path stop e).1));
  room = h.room;
  within = h.within;
  apart = h.apart;
}

-- nothing is searched yet
pub started : (plan : Network) (cell : OwnedCell) (s : Search) → s.path.items ≡ [] → s.marks.entries ≡ [] → s.lines.items ≡ [] → IsSearching plan cell s
started plan cell s path marks lines =
    let none : btree_map_len s.marks ≡ 0 = ap (λ es. length es) marks in
    let short : length s.path.items ≡ 0 = ap (λ (ns : List Text). length ns) path in
    let few : length s.lines.items ≡ 0 = ap (λ (ls : List Line). length ls) lines in
    let no_line : (line : Line) → Contains s.lines.items line → ⊥ = λ line e. let P : List Line → Type 0 = λ ls. Contains ls line in nothing_in_nil line (subst P lines e) in
    record {
      marked = λ stop r e. absurd (none_is_not_some (unmarked s.marks marks stop) e);
      listed = λ stop r e. absurd (no_line _ e);
      ranked = λ stop r e. absurd (no_line _ e);
      counted = λ stop r e. absurd (no_line _ e);
      known = λ stop m e. absurd (none_is_not_some (unmarked s.marks marks stop) e);
      on_path = λ stop e. absurd (none_is_not_some (unmarked s.marks marks stop) e);
      room = omega arith;
      within = omega arith;
      apart = λ i j d a b. absurd (omega arith);
    }
