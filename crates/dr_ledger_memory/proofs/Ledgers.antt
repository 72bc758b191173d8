-- What a ledger in memory keeps.
use Rattle.std.specs.Prelude.{◌↔◌, IsSome, IsTrue}
use Rattle.std.proofs.Common.{◌≡◌, ◌⊎◌, ℕ, ◌≤◌, ◌^◌, Bool, true, false, cond, not, ◌||◌, List, [], ◌∷◌, ◌++◌, Contains, Option, None, Some, Ok, unwrap_or, refl, sym, ap, subst, ◌∙◌, inl, inr}
use mathlib.Core.Logic.{∥∥₁_map}
use Rattle.std.specs.Ordering.{eq_by_cmp}
use Rattle.std.specs.Cmp.{both_ways}
use Rattle.std.specs.BTreeMap as tree
use Rattle.std.specs.BTreeSet as sorted
use Rattle.std.specs.FinMap as map
use Rattle.std.specs.FinMap.{find}
use Rattle.std.specs.FinSet as set
use Rattle.std.specs.Map.{lookup}
use Rattle.std.proofs.lemmas.Map.Views.{tells_apart}
use Rattle.std.specs.BTreeMap.{is_at}
use Rattle.dr_base.specs.Texts.{Text, IsInByteOrder, text_cmp}
use Rattle.dr_route.specs.declared.key.Key.{Key}
use Rattle.dr_route.specs.declared.rule.Targets.{Targets}
use Rattle.dr_site.specs.Parts.{Part}
use Rattle.dr_site.specs.Routing.{KeepsAt, SendsFrom}
use Rattle.dr_ledger.specs.declared.content.Job.{Job}
use Rattle.dr_ledger.specs.declared.item.Arrived.TheVariants.{Again, New}
use Rattle.dr_ledger.specs.declared.item.Cause.{Cause}
use Rattle.dr_ledger.specs.declared.item.Instance.{Instance}
use Rattle.dr_ledger.specs.declared.item.Outcome.{Outcome}
use Rattle.dr_ledger.specs.declared.item.Progress.{Progress}
use Rattle.dr_ledger.specs.declared.item.Progress.TheVariants.{Waiting, Held, Dropped}
use Rattle.dr_ledger.specs.Bodies.{Bodies, OnlyLetsGo, OnlyTakes}
use Rattle.dr_ledger.specs.Books.{Book, Line, Adoption, Arrival, Repeat, Settling, Requeuing, Dropping, Forgetting, after, empty_book, is_queued, row_after}
use Rattle.dr_ledger.specs.Histories.{IsJournalled, IsSince}
use Rattle.dr_ledger.specs.Items.{instance_of}
use Rattle.dr_ledger.specs.Pairs.{pair_cmp}
use Rattle.dr_ledger.specs.PlanRoutes.{keeps_by, targets_by}
use Rattle.dr_ledger.specs.Replies.{Arrives, HasConflict, IsAdmitted, IsOver, arrival_line}
use Rattle.dr_ledger.specs.Routings.{Routing}
use Rattle.dr_ledger.specs.SiteRoutes.{site_routing}
use Rattle.dr_ledger.proofs.Folding.{adoptions_are_journalled, arrivals_are_journalled, droppings_are_journalled, empty_is_journalled, forgettings_are_journalled, requeuings_are_journalled, settlings_are_journalled}
use Rattle.dr_ledger.proofs.Growing.{inside}
use Rattle.dr_ledger.proofs.Maps.{texts, cases_of}
use Rattle.dr_ledger.proofs.PlanRouting.{keeps_by_where_kept, one_list, targets_by_are_in_order, targets_by_are_sent_to}
use Rattle.dr_ledger_history.specs.declared.line.JournalLine.{JournalLine}
use Rattle.dr_ledger_history.specs.Lines.{line_of, lines_of}
use Rattle.dr_ledger_memory.specs.declared.held.Held.{Held as Entry}
use Rattle.dr_ledger_memory.specs.declared.parts.Bringing.{Bringing}
use Rattle.dr_ledger_memory.specs.declared.parts.Parts.{Parts}
use Rattle.dr_ledger_memory.specs.Bringings.{IsFor}
use Rattle.dr_ledger_memory.specs.Changes.{IsAdoptedInParts, HasBrought, IsDroppedInParts, IsForgottenInParts, IsMoved, IsNoted, IsPrunedIn, IsPutAt, AreSameParts, MovesAt, PrunesAll, Tree, at}
use Rattle.dr_ledger_memory.specs.Contents.{all_rows, collected, content, data_sets, kept_mark, keys}
use Rattle.dr_ledger_memory.specs.Dues.{Covers, Due, due_cmp}
use Rattle.dr_ledger_memory.specs.Entries.{IsTakenAgain, body_in, instance_in, is_kept_in, needs, let_go, row_in, rows_in}
use Rattle.dr_ledger_memory.specs.Sound.{AreWhole, PartsAreSound}
use Rattle.dr_ledger_memory.proofs.Content.{adopted_is, dropped_so, forgotten_is, left_at, brought_is, opened_some, pruned_row, repeated_is, requeued_so, same_content, same_data_sets, settled_so}
use Rattle.dr_ledger_memory.proofs.Lookups.{body_at, item_at, row_at}
use Rattle.dr_ledger_memory.proofs.Whole.{all_pruned_whole, moved_whole, needed_so, needs_in, nothing_found, of_book, put_whole, so_needed, taken_whole, to_book}

journal_on : (routing : Routing) (old new : Book) → ((past : List Line) → IsSince routing past old → IsSince routing past new) → IsJournalled routing old → IsJournalled routing new
journal_on routing old new f j = (j.0, f j.0 j.1)

journal_same : (routing : Routing) (old new : Book) → new ≡ old → IsJournalled routing old → IsJournalled routing new
journal_same routing old new is j = subst (λ (b : Book). IsJournalled routing b) (sym is) j

whole_same : (p q : Tree) → q.entries ≡ p.entries → AreWhole p → AreWhole q
whole_same p q same whole uid entry is = whole uid entry (ap (lookup (is_at (text_cmp uid))) (sym same) ∙ is)

-- ---- nothing is there yet
module _ (p : Parts) (held : p.held.entries ≡ []) (arrivals : p.arrivals.keys ≡ []) (notes : p.notes.items ≡ []) where
  pub nothing_in : content p ≡ empty_book
  nothing_in = λ j. record {
    items = map.from_entries (collected (λ entry. Some entry.instance) (held j));
    arrivals = set.from_list (arrivals j);
    kept = set.from_list (keys (collected kept_mark (held j)));
    rows = map.from_entries (all_rows (held j));
    lines = lines_of (notes j);
  }

  pub new_sound : (part : Part) → PartsAreSound part p
  new_sound part = record {
    journalled = subst (λ (b : Book). IsJournalled (site_routing part) b) (sym nothing_in) ([], empty_is_journalled (site_routing part));
    whole = λ uid entry is. absurd (nothing_found entry (sym (ap (lookup (is_at (text_cmp uid))) held) ∙ is));
    covered = λ uid dest tries due h. absurd (nothing_found (Waiting tries due) (sym (ap (λ es. row_in (lookup (is_at (text_cmp uid)) es) dest) held) ∙ h));
  }

-- ---- where nothing but the keys and the room has changed
pub same_sound : (part : Part) (p q : Parts) → AreSameParts p q → (Covers p.waiting p.held → Covers q.waiting q.held) → PartsAreSound part p → PartsAreSound part q
same_sound part p q s covers h = record {
  journalled = journal_same (site_routing part) (content p) (content q) (same_content p q s) h.journalled;
  whole = whole_same p.held q.held s.held h.whole;
  covered = covers h.covered;
}

-- ---- another arrival
pub repeat_sound : (part : Part) (p q : Parts) (caller : Text) (item : Instance) (note : JournalLine) → IsNoted p note q → line_of note ≡ Repeat caller item → IsAdmitted (site_routing part) caller item (content p) →
    set.contains (content p).arrivals (caller, item.uid) ≡ true → q.held ≡ p.held → q.waiting ≡ p.waiting → PartsAreSound part p → PartsAreSound part q
repeat_sound part p q caller item note n line admitted again held waiting h = record {
  journalled = journal_on (site_routing part) (content p) (content q) (λ past j. arrivals_are_journalled (site_routing part) past caller item (content p) (content q) (Ok Again) j
      (admitted, again, repeated_is p q caller item note n line)) h.journalled;
  whole = whole_same p.held q.held n.held h.whole;
  covered = (λ uid dest tries due r.
      subst (λ w. sorted.contains due_cmp w (dest, (due, uid)) ≡ true) (sym waiting) (h.covered uid dest tries due (ap (λ t. row_in (at t uid) dest) (sym held) ∙ r)));
}

-- ---- what a site's targets are
targets_are : (part : Part) (caller : Text) (key : Key) (t : Targets) → ((to : Text) → Contains t.to to ↔ SendsFrom part caller key to) → IsInByteOrder t.to →
    t.to ≡ (site_routing part).targets caller key
targets_are part caller key t to ordered =
    let sent = targets_by_are_sent_to part.flows part.rules part.name caller key in
    one_list t.to (targets_by part.flows part.rules part.name caller key) ordered (targets_by_are_in_order part.flows part.rules part.name caller key)
    (λ x. (λ h. (sent x).1 ((to x).0 h), λ h. (to x).1 ((sent x).0 h)))

keep_is : (part : Part) (caller : Text) (key : Key) (keep : Bool) → (IsTrue keep ↔ KeepsAt part caller key) → keep ≡ (site_routing part).keeps caller key
keep_is part caller key keep h =
    let k = keeps_by_where_kept part.rules caller key in
    both_ways keep (keeps_by part.rules caller key) (λ t. k.1 (h.0 t)) (λ t. h.1 (k.0 t))

-- ---- a first arrival
module _ (part : Part) (p q : Parts) (sp : tree.IsOrdered text_cmp p.held) (sq : tree.IsOrdered text_cmp q.held) (caller : Text) (job : Job) (targets : Targets) (new : Bringing)
    (sends : (to : Text) → Contains targets.to to ↔ SendsFrom part caller job.key to) (ordered : IsInByteOrder targets.to) (keeps : IsTrue targets.keep ↔ KeepsAt part caller job.key)
    (f : IsFor caller job targets (rows_in (at p.held job.uid)) new) (admitted : IsAdmitted (site_routing part) caller (instance_of job) (content p))
    (first : set.contains (content p).arrivals (caller, job.uid) ≡ false) (b : HasBrought p new q) where
  put : IsPutAt p.held job.uid b.after q.held
  put other = b.held other ∙ ap (λ u. cond (eq_by_cmp text_cmp other u) (Some b.after) (at p.held other)) f.uid

  book_is : content q ≡ after (arrival_line (site_routing part) caller (instance_of job)) (content p)
  book_is =
      brought_is p q sp sq caller (instance_of job) targets.to targets.keep new.note b.after
      (b.taken.instance_is ∙ (λ j. unwrap_or (instance_in (at p.held (f.uid j))) (f.instance j)))
      (b.taken.kept ∙ (λ j. is_kept_in (at p.held (f.uid j)) || f.keep j))
      (b.taken.rows_are ∙ f.rows_are)
      put
      (λ k. b.arrivals k ∙ ap (λ a. eq_by_cmp pair_cmp k a || sorted.contains pair_cmp p.arrivals k) f.arrival)
      b.notes
      (ap line_of f.note)
      ∙ (λ j. after (Arrival caller (instance_of job) (targets_are part caller job.key targets sends ordered j) (keep_is part caller job.key targets.keep keeps j)) (content p))

  pub taken : Arrives (site_routing part) caller (instance_of job) (content p) (Ok New) (content q)
  taken = (admitted, first, book_is)

  its_taken : IsTakenAgain (at p.held job.uid) (instance_of job) b.after.rows.items targets.keep job.body b.after
  its_taken = record {
    instance_is = b.taken.instance_is ∙ (λ j. unwrap_or (instance_in (at p.held (f.uid j))) (f.instance j));
    kept = b.taken.kept ∙ (λ j. is_kept_in (at p.held (f.uid j)) || f.keep j);
    rows_are = refl;
    body_is = b.taken.body_is ∙ (λ j. let_go (needs b.after.is_kept b.after.rows.items) (Some (unwrap_or (body_in (at p.held (f.uid j))) (f.body j))));
  }

  pub taken_sound : (Covers p.waiting p.held → Covers q.waiting q.held) → PartsAreSound part p → PartsAreSound part q
  taken_sound covers h = record {
    journalled = journal_on (site_routing part) (content p) (content q) (λ past j. arrivals_are_journalled (site_routing part) past caller (instance_of job) (content p) (content q) (Ok New) j taken) h.journalled;
    whole = put_whole p.held q.held job.uid b.after put
        (taken_whole (at p.held job.uid) job b.after.rows.items targets.keep b.after its_taken f.is_item (λ entry is. h.whole job.uid entry is)
        (λ entry is. admitted.same entry.instance (item_at p sp job.uid ∙ ap instance_in is))) h.whole;
    covered = covers h.covered;
  }

  took : (n : Bool) (o : Option (List ℕ)) (x body : List ℕ) → let_go n (Some (unwrap_or o x)) ≡ Some body → (o ≡ Some body) ⊎ (body ≡ x)
  took true None x body h = inr (sym (inside x body h))
  took true (Some had) x body h = inl h
  took false o x body h = absurd (nothing_found body h)

  pub takes : OnlyTakes job (data_sets p) (data_sets q)
  takes u body h = elim (cases_of (eq_by_cmp text_cmp u job.uid)) [
    | inl t ↦
        (let same : u ≡ job.uid = tells_apart texts.exact u job.uid t in
        let has : b.after.body ≡ Some body = sym (ap body_in (put u ∙ ap (λ x. cond x (Some b.after) (at p.held u)) t)) ∙ (sym (body_at q sq u) ∙ h) in
        elim (took (needs b.after.is_kept b.after.rows.items) (body_in (at p.held job.uid)) job.body body (sym its_taken.body_is ∙ has)) [
          | inl was ↦ inl (body_at p sp u ∙ (ap (λ x. body_in (at p.held x)) same ∙ was))
          | inr own ↦ inr (same, own)
        ])
    | inr n ↦ inl (body_at p sp u ∙ (sym (ap body_in (put u ∙ ap (λ x. cond x (Some b.after) (at p.held u)) n)) ∙ (sym (body_at q sq u) ∙ h)))
  ]

-- ---- a row that moves
module _ (part : Part) (p q : Parts) (sp : tree.IsOrdered text_cmp p.held) (sq : tree.IsOrdered text_cmp q.held) (uid dest : Text) (progress was : Progress)
    (row : map.get (content p).rows (uid, dest) ≡ Some was) (queued : is_queued was ≡ true) (m : MovesAt p.held uid dest progress q.held) where
  before_row : find text_cmp dest m.0.rows.items ≡ Some was
  before_row = sym (ap (λ o. row_in o dest) m.2) ∙ (sym (row_at p sp uid dest) ∙ row)

  moved_all_whole : AreWhole p.held → AreWhole q.held
  moved_all_whole whole = put_whole p.held q.held uid m.1 m.4 (moved_whole m.0 m.1 dest progress was m.3 before_row queued (whole uid m.0 m.2)) whole

  went : (n : Bool) (o : Option (List ℕ)) (body : List ℕ) → let_go n o ≡ Some body → o ≡ Some body
  went true o body h = h
  went false o body h = absurd (nothing_found body h)

  pub only_lets_go : OnlyLetsGo (data_sets p) (data_sets q)
  only_lets_go u body h = body_at p sp u ∙ elim (cases_of (eq_by_cmp text_cmp u uid)) [
    | inl t ↦
        (let same : u ≡ uid = tells_apart texts.exact u uid t in
        let has : m.1.body ≡ Some body = sym (ap body_in (m.4 u ∙ ap (λ x. cond x (Some m.1) (at p.held u)) t)) ∙ (sym (body_at q sq u) ∙ h) in
        ap (λ x. body_in (at p.held x)) same ∙ (ap body_in m.2 ∙ went (needs m.1.is_kept m.1.rows.items) m.0.body body (sym m.3.body_is ∙ has)))
    | inr n ↦ sym (ap body_in (m.4 u ∙ ap (λ x. cond x (Some m.1) (at p.held u)) n)) ∙ (sym (body_at q sq u) ∙ h)
  ]

pub same_lets_go : (p q : Parts) → q.held.entries ≡ p.held.entries → OnlyLetsGo (data_sets p) (data_sets q)
same_lets_go p q same u body h = ap (λ (b : Bodies). map.get b u) (sym (same_data_sets p q same)) ∙ h

pub settled_sound : (part : Part) (p q : Parts) (sp : tree.IsOrdered text_cmp p.held) (sq : tree.IsOrdered text_cmp q.held) (uid dest : Text) (progress : Progress) (note : JournalLine) (outcome : Outcome) (now tries due : ℕ) →
    map.get (content p).rows (uid, dest) ≡ Some (Waiting tries due) → now ≤ 2 ^ 62 → progress ≡ row_after tries outcome now → line_of note ≡ Settling uid dest outcome now → IsMoved p uid dest progress note q →
    (Covers p.waiting p.held → Covers q.waiting q.held) → PartsAreSound part p → PartsAreSound part q
settled_sound part p q sp sq uid dest progress note outcome now tries due row early is line m covers h = record {
  journalled = journal_on (site_routing part) (content p) (content q) (λ past j. settlings_are_journalled (site_routing part) past uid dest outcome now (content p) (content q) (Ok tt) early j
      ((tries, due, row), settled_so p q sp sq uid dest progress note m outcome now tries due row is line)) h.journalled;
  whole = moved_all_whole part p q sp sq uid dest progress (Waiting tries due) row refl m.held h.whole;
  covered = covers h.covered;
}

pub requeued_sound : (part : Part) (p q : Parts) (sp : tree.IsOrdered text_cmp p.held) (sq : tree.IsOrdered text_cmp q.held) (uid dest : Text) (progress : Progress) (note : JournalLine) (why : Cause) →
    map.get (content p).rows (uid, dest) ≡ Some (Held why) → progress ≡ Waiting 0 0 → line_of note ≡ Requeuing uid dest → IsMoved p uid dest progress note q →
    (Covers p.waiting p.held → Covers q.waiting q.held) → PartsAreSound part p → PartsAreSound part q
requeued_sound part p q sp sq uid dest progress note why row is line m covers h = record {
  journalled = journal_on (site_routing part) (content p) (content q) (λ past j. requeuings_are_journalled (site_routing part) past uid dest (content p) (content q) (Ok tt) j
      ((why, row), requeued_so p q sp sq uid dest progress note m why row is line)) h.journalled;
  whole = moved_all_whole part p q sp sq uid dest progress (Held why) row refl m.held h.whole;
  covered = covers h.covered;
}

pub dropped_sound : (part : Part) (p q : Parts) (sp : tree.IsOrdered text_cmp p.held) (sq : tree.IsOrdered text_cmp q.held) (uid dest : Text) (note : JournalLine) (now : ℕ) (why : Cause) →
    map.get (content p).rows (uid, dest) ≡ Some (Held why) → now ≤ 2 ^ 62 → line_of note ≡ Dropping uid dest now → IsDroppedInParts p uid dest note q →
    (Covers p.waiting p.held → Covers q.waiting q.held) → PartsAreSound part p → PartsAreSound part q
dropped_sound part p q sp sq uid dest note now why row early line d covers h = record {
  journalled = journal_on (site_routing part) (content p) (content q) (λ past j. droppings_are_journalled (site_routing part) past uid dest now (content p) (content q) (Ok tt) early j
      ((why, row), dropped_so p q sp sq uid dest note d now why row line)) h.journalled;
  whole = moved_all_whole part p q sp sq uid dest Dropped (Held why) row refl d.held h.whole;
  covered = covers h.covered;
}

-- ---- an adoption
pruned_covers : (p q : Tree) (w : sorted.BTreeSet Due) → PrunesAll p q → Covers w p → Covers w q
pruned_covers p q w prunes covers uid dest tries due h = covers uid dest tries due (still (at p uid) (at q uid) (prunes uid) h)
  where
    still : (old new : Option Entry) → IsPrunedIn old new → row_in new dest ≡ Some (Waiting tries due) → row_in old dest ≡ Some (Waiting tries due)
    still old new r is = opened_some (row_in old dest) (Waiting tries due) (sym (pruned_row old new dest r) ∙ is)

pub adopted_sound : (part next : Part) (p q : Parts) (sp : tree.IsOrdered text_cmp p.held) (sq : tree.IsOrdered text_cmp q.held) → IsAdoptedInParts p q → q.waiting ≡ p.waiting → PartsAreSound part p → PartsAreSound next q
adopted_sound part next p q sp sq a waiting h = record {
  journalled = subst (λ (b : Book). IsJournalled (site_routing next) b) (sym (adopted_is p q sp sq a))
      ((content p).lines ++ Adoption ∷ [], adoptions_are_journalled (site_routing part) (site_routing next) h.journalled.0 (content p) h.journalled.1);
  whole = all_pruned_whole p.held q.held a.held h.whole;
  covered = (let P : sorted.BTreeSet Due → Type 0 = λ w. Covers w q.held in subst P (sym waiting) (pruned_covers p.held q.held p.waiting a.held h.covered));
}

pub adopted_lets_go : (p q : Parts) (sp : tree.IsOrdered text_cmp p.held) (sq : tree.IsOrdered text_cmp q.held) → IsAdoptedInParts p q → OnlyLetsGo (data_sets p) (data_sets q)
adopted_lets_go p q sp sq a u body h = body_at p sp u ∙ (sym (pruned_body (at p.held u) (at q.held u) (a.held u)) ∙ (sym (body_at q sq u) ∙ h))
  where
    pruned_body : (old new : Option Entry) → IsPrunedIn old new → body_in new ≡ body_in old
    pruned_body None new r = ap body_in r
    pruned_body (Some before) new r = ap body_in r.1 ∙ r.2.body_is

-- ---- whether an item may arrive
module _ (routing : Routing) (p : Parts) (sp : tree.IsOrdered text_cmp p.held) (caller : Text) (item : Instance) where
  pub admitted_new : routing.HasLine caller item.key → at p.held item.uid ≡ None → IsAdmitted routing caller item (content p)
  admitted_new line none = record { line = line; same = λ held h. absurd (nothing_found held (sym (ap instance_in none) ∙ (sym (item_at p sp item.uid) ∙ h))) }

  pub admitted_same : (entry : Entry) → routing.HasLine caller item.key → at p.held item.uid ≡ Some entry → entry.instance ≡ item → IsAdmitted routing caller item (content p)
  admitted_same entry line there is = record { line = line; same = λ other h. inside other entry.instance (sym h ∙ (item_at p sp item.uid ∙ ap instance_in there)) ∙ is }

  pub conflicting : (entry : Entry) → at p.held item.uid ≡ Some entry → (entry.instance ≡ item → ⊥) → HasConflict (content p) item
  conflicting entry there differ = (entry.instance, item_at p sp item.uid ∙ ap instance_in there, differ)

-- ---- a call that went through, or for which there was no memory
pub repeat_kept : (part : Part) (p q : Parts) (caller : Text) (item : Instance) (note : JournalLine) → IsNoted p note q ⊎ AreSameParts p q → line_of note ≡ Repeat caller item → IsAdmitted (site_routing part) caller item (content p) →
    set.contains (content p).arrivals (caller, item.uid) ≡ true → q.held ≡ p.held → q.waiting ≡ p.waiting → ∥ PartsAreSound part p ∥₁ → ∥ PartsAreSound part q ∥₁
repeat_kept part p q caller item note change line admitted again held waiting h = elim change [
  | inl n ↦ ∥∥₁_map h (repeat_sound part p q caller item note n line admitted again held waiting)
  | inr s ↦ ∥∥₁_map h (same_sound part p q s (λ covers uid dest tries due r.
      subst (λ w. sorted.contains due_cmp w (dest, (due, uid)) ≡ true) (sym waiting) (covers uid dest tries due (ap (λ t. row_in (at t uid) dest) (sym held) ∙ r))))
]

pub bring_kept : (part : Part) (p q : Parts) (sp : tree.IsOrdered text_cmp p.held) (sq : tree.IsOrdered text_cmp q.held) (caller : Text) (job : Job) (targets : Targets) (new : Bringing)
    (sends : (to : Text) → Contains targets.to to ↔ SendsFrom part caller job.key to) (ordered : IsInByteOrder targets.to) (keeps : IsTrue targets.keep ↔ KeepsAt part caller job.key)
    (f : IsFor caller job targets (rows_in (at p.held job.uid)) new) (admitted : IsAdmitted (site_routing part) caller (instance_of job) (content p))
    (first : set.contains (content p).arrivals (caller, job.uid) ≡ false) → HasBrought p new q ⊎ AreSameParts p q → (Covers p.waiting p.held → Covers q.waiting q.held) → ∥ PartsAreSound part p ∥₁ → ∥ PartsAreSound part q ∥₁
bring_kept part p q sp sq caller job targets new sends ordered keeps f admitted first change covers h = elim change [
  | inl b ↦ ∥∥₁_map h (taken_sound part p q sp sq caller job targets new sends ordered keeps f admitted first b covers)
  | inr s ↦ ∥∥₁_map h (same_sound part p q s covers)
]

pub settle_kept : (part : Part) (p q : Parts) (sp : tree.IsOrdered text_cmp p.held) (sq : tree.IsOrdered text_cmp q.held) (uid dest : Text) (progress : Progress) (note : JournalLine) (outcome : Outcome) (now tries due : ℕ) →
    map.get (content p).rows (uid, dest) ≡ Some (Waiting tries due) → now ≤ 2 ^ 62 → progress ≡ row_after tries outcome now → line_of note ≡ Settling uid dest outcome now →
    IsMoved p uid dest progress note q ⊎ AreSameParts p q → (Covers p.waiting p.held → Covers q.waiting q.held) → ∥ PartsAreSound part p ∥₁ → ∥ PartsAreSound part q ∥₁
settle_kept part p q sp sq uid dest progress note outcome now tries due row early is line change covers h = elim change [
  | inl m ↦ ∥∥₁_map h (settled_sound part p q sp sq uid dest progress note outcome now tries due row early is line m covers)
  | inr s ↦ ∥∥₁_map h (same_sound part p q s covers)
]

pub requeue_kept : (part : Part) (p q : Parts) (sp : tree.IsOrdered text_cmp p.held) (sq : tree.IsOrdered text_cmp q.held) (uid dest : Text) (progress : Progress) (note : JournalLine) (why : Cause) →
    map.get (content p).rows (uid, dest) ≡ Some (Held why) → progress ≡ Waiting 0 0 → line_of note ≡ Requeuing uid dest →
    IsMoved p uid dest progress note q ⊎ AreSameParts p q → (Covers p.waiting p.held → Covers q.waiting q.held) → ∥ PartsAreSound part p ∥₁ → ∥ PartsAreSound part q ∥₁
requeue_kept part p q sp sq uid dest progress note why row is line change covers h = elim change [
  | inl m ↦ ∥∥₁_map h (requeued_sound part p q sp sq uid dest progress note why row is line m covers)
  | inr s ↦ ∥∥₁_map h (same_sound part p q s covers)
]

pub drop_kept : (part : Part) (p q : Parts) (sp : tree.IsOrdered text_cmp p.held) (sq : tree.IsOrdered text_cmp q.held) (uid dest : Text) (note : JournalLine) (now : ℕ) (why : Cause) →
    map.get (content p).rows (uid, dest) ≡ Some (Held why) → now ≤ 2 ^ 62 → line_of note ≡ Dropping uid dest now →
    IsDroppedInParts p uid dest note q ⊎ AreSameParts p q → (Covers p.waiting p.held → Covers q.waiting q.held) → ∥ PartsAreSound part p ∥₁ → ∥ PartsAreSound part q ∥₁
drop_kept part p q sp sq uid dest note now why row early line change covers h = elim change [
  | inl d ↦ ∥∥₁_map h (dropped_sound part p q sp sq uid dest note now why row early line d covers)
  | inr s ↦ ∥∥₁_map h (same_sound part p q s covers)
]

pub adopt_kept : (part next : Part) (p q : Parts) (sp : tree.IsOrdered text_cmp p.held) (sq : tree.IsOrdered text_cmp q.held) → IsAdoptedInParts p q → q.waiting ≡ p.waiting → ∥ PartsAreSound part p ∥₁ → ∥ PartsAreSound next q ∥₁
adopt_kept part next p q sp sq a waiting h = ∥∥₁_map h (adopted_sound part next p q sp sq a waiting)

pub unadopted_kept : (part : Part) (p q : Parts) → AreSameParts p q → q.waiting ≡ p.waiting → ∥ PartsAreSound part p ∥₁ → ∥ PartsAreSound part q ∥₁
unadopted_kept part p q s waiting h = ∥∥₁_map h (same_sound part p q s (λ covers uid dest tries due r.
    subst (λ w. sorted.contains due_cmp w (dest, (due, uid)) ≡ true) (sym waiting) (covers uid dest tries due (ap (λ es. row_in (lookup (is_at (text_cmp uid)) es) dest) (sym s.held) ∙ r))))

-- the row that is to move is there
pub row_there : (p : Parts) (sp : tree.IsOrdered text_cmp p.held) (uid dest : Text) (row : Progress) → map.get (content p).rows (uid, dest) ≡ Some row → IsSome (row_in (at p.held uid) dest)
row_there p sp uid dest row h = subst IsSome (sym (sym (row_at p sp uid dest) ∙ h)) refl

pub adopt_either : (part : Part) (p q : Parts) (sp : tree.IsOrdered text_cmp p.held) (sq : tree.IsOrdered text_cmp q.held) → IsAdoptedInParts p q ⊎ AreSameParts p q → q.waiting ≡ p.waiting → ∥ PartsAreSound part p ∥₁ → ∥ PartsAreSound part q ∥₁
adopt_either part p q sp sq change waiting h = elim change [
  | inl a ↦ adopt_kept part part p q sp sq a waiting h
  | inr s ↦ unadopted_kept part p q s waiting h
]

-- ---- a forgetting
module _ (p q : Parts) (sp : tree.IsOrdered text_cmp p.held) (sq : tree.IsOrdered text_cmp q.held) (uid : Text) (note : JournalLine) (f : IsForgottenInParts p uid note q) where
  was_there : {X : Type 0} (b : Bool) (o : Option X) (x : X) → cond b None o ≡ Some x → o ≡ Some x
  was_there true o x h = absurd (nothing_found x h)
  was_there false o x h = h

  was_row : (b : Bool) (o : Option Entry) (dest : Text) (row : Progress) → row_in (cond b None o) dest ≡ Some row → row_in o dest ≡ Some row
  was_row true o dest row h = absurd (nothing_found row h)
  was_row false o dest row h = h

  was_body : (b : Bool) (o : Option Entry) (body : List ℕ) → body_in (cond b None o) ≡ Some body → body_in o ≡ Some body
  was_body true o body h = absurd (nothing_found body h)
  was_body false o body h = h

  pub forgotten_lets_go : OnlyLetsGo (data_sets p) (data_sets q)
  forgotten_lets_go u body h =
      body_at p sp u ∙ was_body (eq_by_cmp text_cmp u uid) (at p.held u) body (sym (ap body_in (left_at p q sp sq uid note f u)) ∙ (sym (body_at q sq u) ∙ h))

  pub forgotten_sound : (part : Part) → IsOver (content p) uid → line_of note ≡ Forgetting uid → q.waiting ≡ p.waiting → PartsAreSound part p → PartsAreSound part q
  forgotten_sound part over line waiting h = record {
    journalled = journal_on (site_routing part) (content p) (content q) (λ past j. forgettings_are_journalled (site_routing part) past uid (content p) (content q) (Ok tt) j
        (over, forgotten_is p q sp sq uid note f over.unkept line)) h.journalled;
    whole = λ u entry is. h.whole u entry (was_there (eq_by_cmp text_cmp u uid) (at p.held u) entry (sym (left_at p q sp sq uid note f u) ∙ is));
    covered = λ u dest tries due r. subst (λ w. sorted.contains due_cmp w (dest, (due, u)) ≡ true) (sym waiting)
        (h.covered u dest tries due (was_row (eq_by_cmp text_cmp u uid) (at p.held u) dest (Waiting tries due) (sym (ap (λ o. row_in o dest) (left_at p q sp sq uid note f u)) ∙ r)));
  }

pub forget_kept : (part : Part) (p q : Parts) (sp : tree.IsOrdered text_cmp p.held) (sq : tree.IsOrdered text_cmp q.held) (uid : Text) (note : JournalLine) → IsOver (content p) uid → line_of note ≡ Forgetting uid →
    IsForgottenInParts p uid note q ⊎ AreSameParts p q → q.waiting ≡ p.waiting → ∥ PartsAreSound part p ∥₁ → ∥ PartsAreSound part q ∥₁
forget_kept part p q sp sq uid note over line change waiting h = elim change [
  | inl f ↦ ∥∥₁_map h (forgotten_sound p q sp sq uid note f part over line waiting)
  | inr s ↦ unadopted_kept part p q s waiting h
]

-- ---- whether all is over with a uid
found_none : (b : Bool) (P : Type 0) → b ≡ false → b ≡ true → P
found_none b P f t = absurd (let e : ⊥ = cc in e)

pub not_false : (b : Bool) → IsTrue (not b) → b ≡ false
not_false true h = absurd (let e : ⊥ = cc in e)
not_false false h = refl

pub so_not : (b : Bool) → (b ≡ true → ⊥) → IsTrue (not b)
so_not true h = absurd (h refl)
so_not false h = refl

module _ (p : Parts) (sp : tree.IsOrdered text_cmp p.held) (uid : Text) where
  pub over_there : (entry : Entry) → at p.held uid ≡ Some entry → needs entry.is_kept entry.rows.items ≡ false → IsOver (content p) uid
  over_there entry there unneeded = record {
    there = (entry.instance, item_at p sp uid ∙ ap instance_in there);
    unkept = elim (cases_of (set.contains (content p).kept uid)) [
      | inr none ↦ none
      | inl kept ↦ found_none _ _ unneeded (sym (ap needs_in there) ∙ needed_so p sp (at p.held uid) (of_book p sp uid (inl kept)))
    ];
    unqueued = λ dest row h. elim (cases_of (is_queued row)) [
      | inr over ↦ over
      | inl owed ↦ found_none _ _ unneeded (sym (ap needs_in there) ∙ needed_so p sp (at p.held uid) (of_book p sp uid (inr (dest, row, h, owed))))
    ];
  }

  pub needed_not_over : (entry : Entry) → at p.held uid ≡ Some entry → IsOver (content p) uid → needs entry.is_kept entry.rows.items ≡ true → ⊥
  needed_not_over entry there over needed = elim (to_book p sp uid (so_needed p sp (at p.held uid) (ap needs_in there ∙ needed))) [
    | inl kept ↦ found_none (set.contains (content p).kept uid) ⊥ over.unkept kept
    | inr row ↦ found_none (is_queued row.1) ⊥ (over.unqueued row.0 row.1 row.2) row.3
  ]

  pub none_not_over : at p.held uid ≡ None → IsOver (content p) uid → ⊥
  none_not_over none over = nothing_found over.there.0 (sym (ap instance_in none) ∙ (sym (item_at p sp uid) ∙ over.there.1))
