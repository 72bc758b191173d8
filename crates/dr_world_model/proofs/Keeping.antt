-- What holds of each book, and what an accepted call keeps of it.
use Rattle.std.specs.Prelude.{◌≡◌, ◌≢◌, ◌⊎◌, ℕ, Bool, true, false, cond, List, [], ◌∷◌, ◌++◌, Contains, Some}
use Rattle.std.proofs.Common.{refl, sym, ap, subst, ◌∙◌}
use Rattle.std.proofs.lemmas.List.{append-nil, append_assoc}
use Rattle.std.proofs.lemmas.List.Elements.{Contains-push_cases}
use mathlib.Core.Logic.{inl, inr}
use Rattle.std.specs.Ordering.{eq_by_cmp}
use Rattle.std.specs.FinMap as map
use Rattle.std.specs.FinSet as set
use Rattle.std.specs.FinSet.{FinSet}
use Rattle.dr_base.specs.Texts.{Text, text_cmp}
use Rattle.dr_plan_model.specs.Networks.{Network}
use Rattle.dr_plan_model.specs.Walks.{Goes, Sends, Keeps, IsReached}
use Rattle.dr_ledger.specs.declared.item.Instance.{Instance}
use Rattle.dr_ledger.specs.declared.item.Progress.{Progress}
use Rattle.dr_ledger.specs.declared.item.Progress.TheVariants.{Waiting, Held, Done, Dropped}
use Rattle.dr_ledger.specs.Books.{Book, Line, Arrival, Repeat, Dropping, Forgetting, after, is_queued}
use Rattle.dr_ledger.specs.OneNode.{WasTaken}
use Rattle.dr_ledger.specs.PlanRoutes.{plan_routing, targets, keeps}
use Rattle.dr_ledger.specs.Replies.{IsAdmitted, IsOver, arrival_line}
use Rattle.dr_ledger.specs.Routings.{Routing}
use Rattle.dr_ledger.proofs.Forgotten.{Apart, item_left, row_left, arrival_left, item_stays, row_stays}
use Rattle.dr_ledger.proofs.Growing.{rows_stay, rows_made, rows_from, row_put, given_up}
use Rattle.dr_ledger.proofs.Since.{Acknowledges, IsPlain, taken_still, taken_now, taken_from}
use Rattle.dr_world_model.specs.Claims.{IsFairLine, IsQueued, IsToSend}
use Rattle.dr_ledger.proofs.Maps.{texts, text_pairs, same_or_not, ties_itself, contains_new, still_contains, contained, get_new, get_other, got, filled_keeps, filled_is, filled_got}
use Rattle.dr_ledger.proofs.PlanRouting.{targets_are_sent_to as targets_sent, keeps_where_it_keeps as keeps_kept}
use Rattle.dr_world_model.proofs.GivenUp.{arrival_to}

-- the node acknowledged the item to the caller under the plan in force
abbrev pub Took : Book → Text → Instance → Type 0
Took b caller item = WasTaken b.lines caller item

-- the caller's arrival is noted, of this very item
pub record Noted (b : Book) (caller : Text) (item : Instance) : Type 0 where
  pub arrival : set.contains b.arrivals (caller, item.uid) ≡ true
  pub item_is : map.get b.items item.uid ≡ Some item

-- the book has the item, and its row for the next node is queued
pub record GoesOn (b : Book) (item : Instance) (to : Text) : Type 0 where
  pub row : Progress
  pub queued : IsQueued row
  pub at : map.get b.rows (item.uid, to) ≡ Some row
  pub has : map.get b.items item.uid ≡ Some item

-- why there is a row
pub record HasReason (plan : Network) (name : Text) (stood : Book) (b : Book) (uid to : Text) : Type 0 where
  pub item : Instance
  pub named : item.uid ≡ uid
  pub has : map.get b.items item.uid ≡ Some item
  pub goes : Goes plan item.key name to
  pub why : ((caller : Text) × Took b caller item × Sends plan name caller item.key to) ⊎ IsToSend stood item to

-- what holds of the book of a node by itself
pub record IsRight (plan : Network) (name : Text) (stood : Book) (b : Book) : Type 0 where
  pub named : (uid : Text) (item : Instance) → map.get b.items uid ≡ Some item → item.uid ≡ uid
  pub known : (caller uid : Text) → set.contains b.arrivals (caller, uid) ≡ true → (item : Instance) × (map.get b.items uid ≡ Some item)
  pub noted : (caller : Text) (item : Instance) → Noted b caller item → Took b caller item
  pub reached : (caller : Text) (item : Instance) → Took b caller item → IsReached plan item.key caller name
  pub kept : (caller : Text) (item : Instance) → Took b caller item → Keeps plan name caller item.key → (set.contains b.kept item.uid ≡ true) × (map.get b.items item.uid ≡ Some item)
  pub from : (uid to : Text) (row : Progress) → map.get b.rows (uid, to) ≡ Some row → HasReason plan name stood b uid to
  -- of what is noted no row was given up
  pub undropped : (caller to : Text) (item : Instance) → Noted b caller item → Sends plan name caller item.key to → (row : Progress) × (map.get b.rows (item.uid, to) ≡ Some row) × (row ≢ Dropped)

-- what is kept and what was acknowledged stays so
pub record Grows (old new : Book) : Type 0 where
  pub items : (uid : Text) (item : Instance) → set.contains old.kept uid ≡ true → map.get old.items uid ≡ Some item → map.get new.items uid ≡ Some item
  pub kept : (uid : Text) → set.contains old.kept uid ≡ true → set.contains new.kept uid ≡ true
  pub took : (caller : Text) (item : Instance) → Took old caller item → Took new caller item
  pub lines : (more : List Line) × (new.lines ≡ old.lines ++ more)

-- what stands behind a row stays
abbrev pub Holds : Book → Book → Type 0
Holds old new = (item : Instance) → map.get old.items item.uid ≡ Some item → map.get new.items item.uid ≡ Some item

pub grows_same : (b : Book) → Grows b b
grows_same b = record { items = λ u i k h. h; kept = λ u h. h; took = λ c i h. h; lines = ([], sym (append-nil b.lines)) }

pub grows_on : (a b c : Book) → Grows a b → Grows b c → Grows a c
grows_on a b c f g = record {
  items = λ u i k h. g.items u i (f.kept u k) (f.items u i k h);
  kept = λ u h. g.kept u (f.kept u h);
  took = λ q i h. g.took q i (f.took q i h);
  lines = (f.lines.0 ++ g.lines.0, g.lines.1 ∙ (ap (λ l. l ++ g.lines.0) f.lines.1 ∙ append_assoc a.lines f.lines.0 g.lines.0));
}

-- a reason lasts while the item does
pub reason_still : (plan : Network) (name : Text) (stood : Book) (old new : Book) (uid to : Text) → Grows old new → (r : HasReason plan name stood old uid to) → map.get new.items r.item.uid ≡ Some r.item →
    HasReason plan name stood new uid to
reason_still plan name stood old new uid to g r has = record {
  item = r.item;
  named = r.named;
  has = has;
  goes = r.goes;
  why = elim r.why [ inl a ↦ inl (a.0, g.took a.0 r.item a.1, a.2) | inr s ↦ inr s ];
}

-- a row is done, was given up, or is queued
pub which_row : (row : Progress) → (row ≡ Done) ⊎ ((row ≡ Dropped) ⊎ IsQueued row)
which_row Done = inl refl
which_row Dropped = inr (inl refl)
which_row (Waiting tries due) = inr (inr refl)
which_row (Held why) = inr (inr refl)

-- a row that wasn't given up is done, or is queued
pub done_or_queued : (row : Progress) → row ≢ Dropped → (row ≡ Done) ⊎ IsQueued row
done_or_queued row kept = elim (which_row row) [ inl done ↦ inl done | inr (inl given) ↦ absurd (kept given) | inr (inr queued) ↦ inr queued ]

queued_not_dropped : (row : Progress) → IsQueued row → row ≢ Dropped
queued_not_dropped row q e = (let f : false ≡ true = ap is_queued (sym e) ∙ q in cc f)

queued_not_over : (row : Progress) → IsQueued row → is_queued row ≡ false → ⊥
queued_not_over row q n = (let f : true ≡ false = sym q ∙ n in cc f)

-- of a book with a further line, each line was there, or is fair
pub fair_push : (lines : List Line) (last : Line) → IsFairLine last → (line : Line) → Contains (lines ++ last ∷ []) line → Contains lines line ⊎ IsFairLine line
fair_push lines last is line h = elim (Contains-push_cases lines last line h) [ inl i ↦ inl i | inr e ↦ inr (subst IsFairLine e is) ]

-- ---- an arrival
some_inside : {X : Type 0} (x y : X) → Some x ≡ Some y → x ≡ y
some_inside x y e = cc

still_kept : (k : Bool) (kept : FinSet text_cmp) (new uid : Text) → set.contains kept uid ≡ true → set.contains (cond k (set.insert kept new) kept) uid ≡ true
still_kept true kept new uid h = still_contains texts kept new uid h
still_kept false kept new uid h = h

now_kept : (k : Bool) (kept : FinSet text_cmp) (new : Text) → k ≡ true → set.contains (cond k (set.insert kept new) kept) new ≡ true
now_kept true kept new h = contains_new texts kept new
now_kept false kept new h = absurd (let e : ⊥ = cc in e)

acknowledged : (routing : Routing) (c caller : Text) (i item : Instance) → Acknowledges (arrival_line routing caller item) c i → (c ≡ caller) × (i ≡ item)
acknowledged routing c caller i item h = arrival_to c caller i item (routing.targets caller item.key) (routing.keeps caller item.key) h

module _ (plan : Network) (name caller : Text) (item : Instance) (stood : Book) (b : Book) (right : IsRight plan name stood b) (admitted : IsAdmitted (plan_routing plan name) caller item b) where
  abbrev pub arrived : Book
  arrived = after (arrival_line (plan_routing plan name) caller item) b

  abbrev line : Line
  line = arrival_line (plan_routing plan name) caller item

  pub arrived_holds : Holds b arrived
  arrived_holds i h = filled_keeps texts b.items item.uid item i.uid i h

  pub arrived_grows : Grows b arrived
  arrived_grows = record {
    items = λ uid i k h. filled_keeps texts b.items item.uid item uid i h;
    kept = λ uid h. still_kept (keeps plan name caller item.key) b.kept item.uid uid h;
    took = λ c i h. taken_still b.lines line c i (λ since. refl) h;
    lines = (line ∷ [], refl);
  }

  pub arrived_has : map.get arrived.items item.uid ≡ Some item
  arrived_has = filled_is texts b.items item.uid item admitted.same

  pub arrived_took : Took arrived caller item
  arrived_took = taken_now b.lines line caller item (λ since. refl) (inl (targets plan name caller item.key, keeps plan name caller item.key, refl))

  -- what was acknowledged was before, or is this
  pub arrived_from : (c : Text) (i : Instance) → Took arrived c i → Took b c i ⊎ ((c ≡ caller) × (i ≡ item))
  arrived_from c i h = elim (taken_from b.lines line c i (λ since. refl) h) [
    | inl was ↦ inl was
    | inr now ↦ inr (acknowledged (plan_routing plan name) c caller i item now)
  ]

  pub arrived_done : (at : Text × Text) → map.get arrived.rows at ≡ Some Done → map.get b.rows at ≡ Some Done
  arrived_done at h = elim (rows_from (targets plan name caller item.key) b.rows item.uid at Done h) [
    | inl was ↦ was.0
    | inr made ↦ absurd (let e : Done ≡ Waiting 0 0 = made.2 in cc)
  ]

  pub arrived_goes_on : (i : Instance) (to : Text) → GoesOn b i to → GoesOn arrived i to
  arrived_goes_on i to g = record { row = g.row; queued = g.queued; at = rows_stay (targets plan name caller item.key) b.rows item.uid (i.uid, to) g.row g.at (queued_not_dropped g.row g.queued); has = arrived_holds i g.has }

  -- each target has a row, which isn't given up
  pub arrived_row : (to : Text) → Sends plan name caller item.key to → (row : Progress) × (map.get arrived.rows (item.uid, to) ≡ Some row) × (row ≢ Dropped)
  arrived_row to sent = rows_made (targets plan name caller item.key) b.rows item.uid to ((targets_sent plan name caller item.key to).1 sent)

  -- an item that the book has now, and whose row it had, it had
  pub arrived_had : (i : Instance) (to : Text) (row : Progress) → map.get b.rows (i.uid, to) ≡ Some row → map.get arrived.items i.uid ≡ Some i → map.get b.items i.uid ≡ Some i
  arrived_had i to row at h =
      let f = right.from i.uid to row at in
      let had : map.get b.items i.uid ≡ Some f.item = ap (map.get b.items) (sym f.named) ∙ f.has in
      had ∙ (sym (filled_keeps texts b.items item.uid item i.uid f.item had) ∙ h)

  pub arrived_right : IsRight plan name stood arrived
  arrived_right = record {
    named = λ uid i h. elim (filled_got texts b.items item.uid item uid i h) [
      | inl was ↦ right.named uid i was
      | inr is ↦ ap (λ (j : Instance). j.uid) is.1 ∙ sym is.0
    ];
    known = λ c uid h. elim (contained text_pairs b.arrivals (caller, item.uid) (c, uid) h) [
      | inl e ↦ (item, ap (λ (p : Text × Text). map.get arrived.items p.1) e ∙ arrived_has)
      | inr was ↦ let old = right.known c uid was in (old.0, filled_keeps texts b.items item.uid item uid old.0 old.1)
    ];
    noted = λ c i h. elim (contained text_pairs b.arrivals (caller, item.uid) (c, i.uid) h.arrival) [
      | inl e ↦ (
          let same : i ≡ item = some_inside i item (sym h.item_is ∙ (ap (λ (p : Text × Text). map.get arrived.items p.1) e ∙ arrived_has)) in
          let P : Text × Instance → Type 0 = λ p. Took arrived p.0 p.1 in
          subst P (λ j. (sym (ap (λ (p : Text × Text). p.0) e) j, sym same j)) arrived_took
          )
      | inr was ↦ (
          let old = right.known c i.uid was in
          let same : old.0 ≡ i = some_inside old.0 i (sym (filled_keeps texts b.items item.uid item i.uid old.0 old.1) ∙ h.item_is) in
          arrived_grows.took c i (right.noted c i (record { arrival = was; item_is = old.1 ∙ ap Some same }))
          )
    ];
    reached = λ c i h. elim (arrived_from c i h) [
      | inl was ↦ right.reached c i was
      | inr is ↦ subst (λ (p : Text × Instance). IsReached plan p.1.key p.0 name) (λ j. (sym is.0 j, sym is.1 j)) admitted.line
    ];
    kept = λ c i h k. elim (arrived_from c i h) [
      | inl was ↦ (let old = right.kept c i was k in (still_kept (keeps plan name caller item.key) b.kept item.uid i.uid old.0, arrived_holds i old.1))
      | inr is ↦
          let keeping : Keeps plan name caller item.key = subst (λ (p : Text × Instance). Keeps plan name p.0 p.1.key) (λ j. (is.0 j, is.1 j)) k in
          let P : Instance → Type 0 = λ x. (set.contains arrived.kept x.uid ≡ true) × (map.get arrived.items x.uid ≡ Some x) in
          subst P (sym is.1) (now_kept (keeps plan name caller item.key) b.kept item.uid ((keeps_kept plan name caller item.key).1 keeping), arrived_has)
    ];
    from = λ uid to row h. elim (rows_from (targets plan name caller item.key) b.rows item.uid (uid, to) row h) [
      | inl was ↦ (let r = right.from uid to row was.0 in reason_still plan name stood b arrived uid to arrived_grows r (arrived_holds r.item r.has))
      | inr made ↦ record {
        item = item;
        named = sym made.0;
        has = arrived_has;
        goes = (caller, admitted.line, (targets_sent plan name caller item.key to).0 made.1);
        why = inl (caller, arrived_took, (targets_sent plan name caller item.key to).0 made.1);
      }
    ];
    undropped = λ c to i h sends. elim (contained text_pairs b.arrivals (caller, item.uid) (c, i.uid) h.arrival) [
      | inl e ↦ (
          let same : i ≡ item = some_inside i item (sym h.item_is ∙ (ap (λ (p : Text × Text). map.get arrived.items p.1) e ∙ arrived_has)) in
          let P : Text × Instance → Type 0 = λ p. Sends plan name p.0 p.1.key to in
          let Q : Instance → Type 0 = λ x. (row : Progress) × (map.get arrived.rows (x.uid, to) ≡ Some row) × (row ≢ Dropped) in
          subst Q (sym same) (arrived_row to (subst P (λ j. (ap (λ (p : Text × Text). p.0) e j, same j)) sends))
          )
      | inr was ↦ (
          let old = right.known c i.uid was in
          let same : old.0 ≡ i = some_inside old.0 i (sym (filled_keeps texts b.items item.uid item i.uid old.0 old.1) ∙ h.item_is) in
          let there = right.undropped c to i (record { arrival = was; item_is = old.1 ∙ ap Some same }) sends in
          (there.0, rows_stay (targets plan name caller item.key) b.rows item.uid (i.uid, to) there.0 there.1 there.2, there.2)
          )
    ];
  }

-- ---- one row changes
module _ (plan : Network) (name : Text) (stood : Book) (b : Book) (at : Text × Text) (old row : Progress) (line : Line) (right : IsRight plan name stood b) (was : map.get b.rows at ≡ Some old) (fresh : row ≢ Dropped) (plain : IsPlain line) (silent : (c : Text) (i : Instance) → Acknowledges line c i → ⊥) where
  pub row_set_grows : Grows b (row_put b at row line)
  row_set_grows = record { items = λ u i k h. h; kept = λ u h. h; took = λ c i h. taken_still b.lines line c i plain h; lines = (line ∷ [], refl) }

  pub row_set_from : (c : Text) (i : Instance) → Took (row_put b at row line) c i → Took b c i
  row_set_from c i h = elim (taken_from b.lines line c i plain h) [ inl is ↦ is | inr now ↦ absurd (silent c i now) ]

  pub row_set_done : (q : Text × Text) → map.get (row_put b at row line).rows q ≡ Some Done → (map.get b.rows q ≡ Some Done) ⊎ ((q ≡ at) × (row ≡ Done))
  row_set_done q h = elim (got text_pairs b.rows at row q Done h) [ inl e ↦ inr (e.0, sym e.1) | inr n ↦ inl n.1 ]

  -- what is queued stays so, or was this row, and is done
  pub row_set_goes_on : (i : Instance) (to : Text) → GoesOn b i to → GoesOn (row_put b at row line) i to ⊎ (((i.uid, to) ≡ at) × (row ≡ Done))
  row_set_goes_on i to g = elim (same_or_not text_pairs (i.uid, to) at) [
    | inr n ↦ inl (record { row = g.row; queued = g.queued; at = get_other text_pairs b.rows at row (i.uid, to) n ∙ g.at; has = g.has })
    | inl e ↦ elim (done_or_queued row fresh) [
      | inl done ↦ inr (e, done)
      | inr still ↦ inl (record { row = row; queued = still; at = ap (map.get (map.insert b.rows at row)) e ∙ get_new text_pairs b.rows at row; has = g.has })
    ]
  ]

  pub row_set_right : IsRight plan name stood (row_put b at row line)
  row_set_right = record {
    named = right.named;
    known = right.known;
    noted = λ c i h. taken_still b.lines line c i plain (right.noted c i (record { arrival = h.arrival; item_is = h.item_is }));
    reached = λ c i h. right.reached c i (row_set_from c i h);
    kept = λ c i h k. right.kept c i (row_set_from c i h) k;
    from = λ uid to r h.
        let there : (r' : Progress) × (map.get b.rows (uid, to) ≡ Some r') = elim (got text_pairs b.rows at row (uid, to) r h) [
          | inl e ↦ (old, ap (map.get b.rows) e.0 ∙ was)
          | inr n ↦ (r, n.1)
        ] in
        let f = right.from uid to there.0 there.1 in
        reason_still plan name stood b (row_put b at row line) uid to row_set_grows f f.has;
    undropped = λ c to i h sends.
        let there = right.undropped c to i (record { arrival = h.arrival; item_is = h.item_is }) sends in
        elim (same_or_not text_pairs (i.uid, to) at) [
          | inl e ↦ (row, ap (map.get (map.insert b.rows at row)) e ∙ get_new text_pairs b.rows at row, fresh)
          | inr n ↦ (there.0, get_other text_pairs b.rows at row (i.uid, to) n ∙ there.1, there.2)
        ];
  }

-- ---- a line alone
module _ (plan : Network) (name caller : Text) (item : Instance) (stood : Book) (b : Book) (right : IsRight plan name stood b) (known : Noted b caller item) where
  abbrev repeated : Book
  repeated = after (Repeat caller item) b

  pub line_grows : Grows b (after (Repeat caller item) b)
  line_grows = record { items = λ u i k h. h; kept = λ u h. h; took = λ c i h. taken_still b.lines (Repeat caller item) c i (λ since. refl) h; lines = (Repeat caller item ∷ [], refl) }

  pub line_from : (c : Text) (i : Instance) → Took (after (Repeat caller item) b) c i → Took b c i
  line_from c i h = elim (taken_from b.lines (Repeat caller item) c i (λ since. refl) h) [
    | inl is ↦ is
    | inr now ↦ elim now [
      | inl a ↦ absurd (let e : Repeat caller item ≡ Arrival c i a.0 a.1 = a.2 in cc)
      | inr r ↦ (
          let same : (caller ≡ c) × (item ≡ i) = inside r in
          let P : Text × Instance → Type 0 = λ p. Took b p.0 p.1 in
          subst P (λ j. (same.0 j, same.1 j)) (right.noted caller item known)
          )
    ]
  ]
    where
      inside : Repeat caller item ≡ Repeat c i → (caller ≡ c) × (item ≡ i)
      inside e = (cc, cc)

  pub line_took : Took (after (Repeat caller item) b) caller item
  line_took = taken_now b.lines (Repeat caller item) caller item (λ since. refl) (inr refl)

  pub line_right : IsRight plan name stood (after (Repeat caller item) b)
  line_right = record {
    named = right.named;
    known = right.known;
    noted = λ c i h. taken_still b.lines (Repeat caller item) c i (λ since. refl) (right.noted c i (record { arrival = h.arrival; item_is = h.item_is }));
    reached = λ c i h. right.reached c i (line_from c i h);
    kept = λ c i h k. right.kept c i (line_from c i h) k;
    from = λ uid to r h. (let f = right.from uid to r h in reason_still plan name stood b (after (Repeat caller item) b) uid to line_grows f f.has);
    undropped = λ c to i h sends. right.undropped c to i (record { arrival = h.arrival; item_is = h.item_is }) sends;
  }

-- ---- a dropping
module _ (plan : Network) (name uid dest : Text) (now : ℕ) (stood : Book) (b : Book) (right : IsRight plan name stood b) where
  abbrev line_of : Line
  line_of = Dropping uid dest now

  pub given_silent : (c : Text) (i : Instance) → Acknowledges line_of c i → ⊥
  given_silent c i (inl a) = (let e : Dropping uid dest now ≡ Arrival c i a.0 a.1 = a.2 in cc e)
  given_silent c i (inr r) = (let e : Dropping uid dest now ≡ Repeat c i = r in cc e)

  pub given_grows : Grows b (given_up b uid dest now)
  given_grows = record { items = λ u i k h. h; kept = λ u h. h; took = λ c i h. taken_still b.lines line_of c i (λ since. refl) h; lines = (line_of ∷ [], refl) }

  pub given_from : (c : Text) (i : Instance) → Took (given_up b uid dest now) c i → Took b c i
  given_from c i h = elim (taken_from b.lines line_of c i (λ since. refl) h) [ inl is ↦ is | inr said ↦ absurd (given_silent c i said) ]

  -- a row that is done was so before
  pub given_done : (q : Text × Text) → map.get (given_up b uid dest now).rows q ≡ Some Done → map.get b.rows q ≡ Some Done
  given_done q h = elim (got text_pairs b.rows (uid, dest) Dropped q Done h) [
    | inl e ↦ absurd (let f : Done ≡ Dropped = e.1 in cc f)
    | inr n ↦ n.1
  ]

  -- what is queued stays so, or is this row
  pub given_goes_on : (i : Instance) (to : Text) → GoesOn b i to → GoesOn (given_up b uid dest now) i to ⊎ ◌≡◌ {A = Text × Text} (i.uid, to) (uid, dest)
  given_goes_on i to g = elim (same_or_not text_pairs (i.uid, to) (uid, dest)) [
    | inr n ↦ inl (record { row = g.row; queued = g.queued; at = get_other text_pairs b.rows (uid, dest) Dropped (i.uid, to) n ∙ g.at; has = g.has })
    | inl e ↦ inr e
  ]

  -- what is noted still is of another uid
  given_left : (q : Text × Text) → set.contains (given_up b uid dest now).arrivals q ≡ true → Apart q.1 uid × (set.contains b.arrivals q ≡ true)
  given_left q h = arrival_left b uid q h

  pub given_right : (was : (row : Progress) × (map.get b.rows (uid, dest) ≡ Some row)) → IsRight plan name stood (given_up b uid dest now)
  given_right was = record {
    named = right.named;
    known = λ c u h. right.known c u (given_left (c, u) h).1;
    noted = λ c i h. given_grows.took c i (right.noted c i (record { arrival = (given_left (c, i.uid) h.arrival).1; item_is = h.item_is }));
    reached = λ c i h. right.reached c i (given_from c i h);
    kept = λ c i h k. right.kept c i (given_from c i h) k;
    from = λ u to r h.
        let there : (r' : Progress) × (map.get b.rows (u, to) ≡ Some r') = elim (got text_pairs b.rows (uid, dest) Dropped (u, to) r h) [
          | inl e ↦ (was.0, ap (map.get b.rows) e.0 ∙ was.1)
          | inr n ↦ (r, n.1)
        ] in
        let f = right.from u to there.0 there.1 in
        reason_still plan name stood b (given_up b uid dest now) u to given_grows f f.has;
    undropped = λ c to i h sends.
        let left = given_left (c, i.uid) h.arrival in
        let there = right.undropped c to i (record { arrival = left.1; item_is = h.item_is }) sends in
        elim (same_or_not text_pairs (i.uid, to) (uid, dest)) [
          | inl e ↦ absurd (let f : true ≡ false = sym (ties_itself texts uid) ∙ (ap (λ (p : Text × Text). eq_by_cmp text_cmp p.0 uid) (sym e) ∙ left.0) in cc f)
          | inr n ↦ (there.0, get_other text_pairs b.rows (uid, dest) Dropped (i.uid, to) n ∙ there.1, there.2)
        ];
  }

-- ---- a forgetting
module _ (plan : Network) (name uid : Text) (stood : Book) (b : Book) (right : IsRight plan name stood b) (over : IsOver b uid) where
  abbrev pub forgotten : Book
  forgotten = after (Forgetting uid) b

  no_way : (t : Bool) → t ≡ true → t ≡ false → ⊥
  no_way t h k = cc

  -- what is kept is of another uid
  kept_apart : (u : Text) → set.contains b.kept u ≡ true → Apart u uid
  kept_apart u h = elim (same_or_not texts u uid) [
    | inr apart ↦ apart
    | inl same ↦ absurd (no_way (set.contains b.kept uid) (ap (set.contains b.kept) (sym same) ∙ h) over.unkept)
  ]

  pub forgotten_grows : Grows b forgotten
  forgotten_grows = record {
    items = λ u i k h. item_stays b uid u i (kept_apart u k) h;
    kept = λ u h. h;
    took = λ c i h. taken_still b.lines (Forgetting uid) c i (λ since. refl) h;
    lines = (Forgetting uid ∷ [], refl);
  }

  pub forgotten_from : (c : Text) (i : Instance) → Took forgotten c i → Took b c i
  forgotten_from c i h = elim (taken_from b.lines (Forgetting uid) c i (λ since. refl) h) [
    | inl is ↦ is
    | inr now ↦ elim now [
      | inl a ↦ absurd (let e : Forgetting uid ≡ Arrival c i a.0 a.1 = a.2 in cc)
      | inr r ↦ absurd (let e : Forgetting uid ≡ Repeat c i = r in cc)
    ]
  ]

  -- what is queued is of another uid, and stays
  pub forgotten_goes_on : (i : Instance) (to : Text) → GoesOn b i to → GoesOn forgotten i to
  forgotten_goes_on i to g = elim (same_or_not texts i.uid uid) [
    | inl same ↦ absurd (queued_not_over g.row g.queued (over.unqueued to g.row (ap (λ (u : Text). map.get b.rows (u, to)) (sym same) ∙ g.at)))
    | inr apart ↦ record { row = g.row; queued = g.queued; at = row_stays b uid (i.uid, to) g.row apart g.at; has = item_stays b uid i.uid i apart g.has }
  ]

  pub forgotten_right : IsRight plan name stood forgotten
  forgotten_right = record {
    named = λ u i h. right.named u i (item_left b uid u i h).1;
    known = λ c u h. (let was = arrival_left b uid (c, u) h in let old = right.known c u was.1 in (old.0, item_stays b uid u old.0 was.0 old.1));
    noted = λ c i h. forgotten_grows.took c i (right.noted c i (record { arrival = (arrival_left b uid (c, i.uid) h.arrival).1; item_is = (item_left b uid i.uid i h.item_is).1 }));
    reached = λ c i h. right.reached c i (forgotten_from c i h);
    kept = λ c i h k. (let old = right.kept c i (forgotten_from c i h) k in (old.0, item_stays b uid i.uid i (kept_apart i.uid old.0) old.1));
    from = λ u to row h. (
        let was = row_left b uid (u, to) row h in
        let f = right.from u to row was.1 in
        let P : Text → Type 0 = λ x. Apart x uid in
        reason_still plan name stood b forgotten u to forgotten_grows f (item_stays b uid f.item.uid f.item (subst P (sym f.named) was.0) f.has)
        );
    undropped = λ c to i h sends. (
        let left = arrival_left b uid (c, i.uid) h.arrival in
        let there = right.undropped c to i (record { arrival = left.1; item_is = (item_left b uid i.uid i h.item_is).1 }) sends in
        (there.0, row_stays b uid (i.uid, to) there.0 left.0 there.1, there.2)
        );
  }
