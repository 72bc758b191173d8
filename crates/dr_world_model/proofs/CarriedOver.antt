-- What enters at a node stands there when a plan is adopted.
use Rattle.std.specs.Prelude.{◌≡◌, false, not, cond, Option, None, Some}
use Rattle.std.proofs.Common.{refl, sym, ap, subst, ◌∙◌}
use mathlib.Core.Logic.{inl, inr}
use Rattle.std.specs.Ordering.{nat_cmp}
use Rattle.std.specs.FinMap as map
use Rattle.std.specs.FinSet as set
use Rattle.dr_base.specs.Texts.{Text, text_cmp}
use Rattle.dr_route.specs.Routes.{local}
use Rattle.dr_plan_model.specs.Networks.{Network}
use Rattle.dr_plan_model.specs.Walks.{Sends, IsReached, Goes}
use Rattle.dr_plan_sound.proofs.Hopping.{reached_entry}
use Rattle.dr_ledger.specs.declared.item.Instance.{Instance}
use Rattle.dr_ledger.specs.declared.item.Progress.{Progress}
use Rattle.dr_ledger.specs.declared.item.Progress.TheVariants.{Waiting}
use Rattle.dr_ledger.specs.Pairs.{pair_cmp}
use Rattle.dr_ledger.specs.Books.{Book, after, empty_book, is_over_row, not_over}
use Rattle.dr_ledger.specs.PlanRoutes.{plan_routing, targets}
use Rattle.dr_ledger.specs.Replies.{IsAdmitted, arrival_line}
use Rattle.dr_ledger.proofs.PlanRouting.{targets_are_sent_to}
use Rattle.dr_ledger.proofs.Maps.{texts, same_or_not}
use Rattle.dr_ledger.proofs.Growing.{inside, rows_made, rows_from, not_over_is}
use Rattle.dr_world_model.specs.Worlds.{World, start, same_text, with_book, with_armed}
use Rattle.dr_world_model.specs.Events.{HasNode}
use Rattle.dr_world_model.specs.Runs.{MayAdopt}
use Rattle.dr_world_model.specs.Claims.{IsToSend}
use Rattle.dr_world_model.specs.Happening.{AnAdoptionRuns}
use Rattle.dr_world_model.proofs.Keeping.{arrived_has}
use Rattle.dr_world_model.proofs.Safety.{book_here, book_there}
use Rattle.dr_world_model.proofs.AdoptionsKept.{empty_right, no_row}
use Rattle.dr_world_model.proofs.Possible.{flow_of}
use Rattle.dr_world_model.proofs.Restarting.{adoptions_happen}

module _ (plan next : Network) (stay : (name : Text) → HasNode plan name → HasNode next name) (node to : Text) (item : Instance) (here : HasNode plan node)
    (sends : Sends plan node local item.key to) (goes_on : (dest : Text) → Sends plan node local item.key dest → Goes next item.key node dest) where
  reached : IsReached plan item.key local node
  reached = reached_entry plan item.key node (flow_of plan node to item sends)

  admitted : IsAdmitted (plan_routing plan node) local item empty_book
  admitted = record { line = reached; same = λ held h. absurd (no_row held (sym (map.get-empty text_cmp item.uid) ∙ h)) }

  abbrev brought : Book
  brought = after (arrival_line (plan_routing plan node) local item) empty_book

  abbrev taken : World
  taken = with_armed (with_book start node brought) set.empty

  at_node : taken.books node ≡ brought
  at_node = book_here start.books node brought

  elsewhere : (name : Text) → same_text name node ≡ false → taken.books name ≡ empty_book
  elsewhere name other = book_there start.books node brought name other

  has_item : map.get brought.items item.uid ≡ Some item
  has_item = arrived_has plan node local item empty_book empty_book (empty_right plan node empty_book) admitted

  new_row : (uid dest : Text) (row : Progress) → map.get brought.rows (uid, dest) ≡ Some row → (uid ≡ item.uid) × Goes next item.key node dest × (row ≡ Waiting 0 0)
  new_row uid dest row h = elim (rows_from (targets plan node local item.key) map.empty item.uid (uid, dest) row h) [
    | inl was ↦ absurd (no_row row (sym (map.get-empty pair_cmp (uid, dest)) ∙ was.0))
    | inr made ↦ (made.0, goes_on dest ((targets_are_sent_to plan node local item.key dest).0 made.1), made.2)
  ]

  row_there : map.get brought.rows (item.uid, to) ≡ Some (Waiting 0 0)
  row_there =
      let made = rows_made (targets plan node local item.key) map.empty item.uid to ((targets_are_sent_to plan node local item.key to).1 sends) in
      made.1 ∙ ap Some (new_row item.uid to made.0 made.1).2

  fits : (name uid dest : Text) (row : Progress) (i : Instance) → map.get (taken.books name).rows (uid, dest) ≡ Some row → map.get (taken.books name).items uid ≡ Some i → Goes next i.key name dest
  fits name uid dest row i h g = elim (same_or_not texts name node) [
    | inl same ↦
        (let book : taken.books name ≡ brought = ap taken.books same ∙ at_node in
        let r = new_row uid dest row (ap (λ (b : Book). map.get b.rows (uid, dest)) (sym book) ∙ h) in
        let is : item ≡ i = inside item i (sym has_item ∙ (ap (map.get brought.items) (sym r.0) ∙ (ap (λ (b : Book). map.get b.items uid) (sym book) ∙ g))) in
        let P : Instance × Text → Type 0 = λ p. Goes next p.0.key p.1 dest in
        subst P (λ j. (is j, sym same j)) r.1)
    | inr other ↦ absurd (no_row row (sym (map.get-empty pair_cmp (uid, dest)) ∙ (ap (λ (b : Book). map.get b.rows (uid, dest)) (sym (elsewhere name other)) ∙ h)))
  ]

  may : MayAdopt plan taken next
  may = record {
    off = λ number link at. absurd (no_row link (sym (map.get-empty nat_cmp number) ∙ at));
    unarmed = λ name is. set.contains-empty text_cmp name;
    stay = stay;
    fit = λ name uid dest row i h queued g. fits name uid dest row i h g;
    strangers = λ name stranger. elim (same_or_not texts name node) [
      | inl same ↦ absurd (stranger (subst (HasNode plan) (sym same) here))
      | inr other ↦ elsewhere name other
    ];
  }

  -- a waiting row stands
  stands : (book : Book) → book ≡ brought → map.get (not_over book.rows) (item.uid, to) ≡ Some (Waiting 0 0)
  stands book e =
      let row : map.get book.rows (item.uid, to) ≡ Some (Waiting 0 0) = ap (λ (b : Book). map.get b.rows (item.uid, to)) e ∙ row_there in
      not_over_is book.rows (item.uid, to) ∙ ap (λ (o : Option Progress). cond (not (is_over_row o)) o None) row

pub an_adoption_runs : AnAdoptionRuns
an_adoption_runs plan next adoptable stay node to item here sends goes_on =
    let w = taken plan next stay node to item here sends goes_on in
    let a = adoptions_happen plan w next (may plan next stay node to item here sends goes_on) in
    let row = stands plan next stay node to item here sends goes_on (w.books node) (at_node plan next stay node to item here sends goes_on) in (
      a.0,
      ((
        w,
        (
          here,
          record {
            book = brought plan next stay node to item here sends goes_on;
            call = (admitted plan next stay node to item here sends goes_on, set.contains-empty pair_cmp (local, item.uid), refl);
            called = record { armed = set.empty; store = (set.contains-empty text_cmp node, refl); is = refl };
          },
        ),
        (adoptable, (a.0, a.1, (refl, refl))),
      )
          ),
      (
          let P : (Text → Book) → Type 0 = λ stood. IsToSend (stood node) item to in
          let Q : Book → Type 0 = λ b. IsToSend b item to in
          let has : map.get (w.books node).items item.uid ≡ Some item = ap (λ (b : Book). map.get b.items item.uid) (at_node plan next stay node to item here sends goes_on) ∙ has_item plan next stay node to item here sends goes_on in
          subst P (sym a.1.stood) (subst Q (sym (a.1.books node here)) (record { row = Waiting 0 0; at = row; has = has }))
          ),
      ap (λ (b : Book). map.get b.rows (item.uid, to)) (a.1.books node here) ∙ row,
    )
