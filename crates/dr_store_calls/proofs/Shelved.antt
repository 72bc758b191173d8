-- Arrivals of items.
use Rattle.std.proofs.Common.{◌≡◌, ◌≢◌, ◌<◌, ◌⊎◌, inl, inr, ℕ, List, [], ◌∷◌, length, true, false, Option, Some, None, Ok, Err, Result, refl, sym, ap, subst, ◌∙◌, true≢false, arith}
use Rattle.sqlite.specs.State.{State}
use Rattle.sqlite.specs.Tree.{Trees}
use Rattle.dr_base.specs.declared.syntax.Syntax.{Syntax}
use Rattle.dr_base.specs.Texts.{Text}
use Rattle.dr_base.specs.Uids.{IsUid}
use Rattle.dr_dataset.specs.declared.values.Attributes.{Attributes}
use Rattle.dr_dataset.specs.DataSet.{Scans, value_at}
use Rattle.dr_dataset.proofs.OneAnswerLemmas.{one_reading}
use Rattle.dr_site.specs.Parts.{Part}
use Rattle.dr_site.specs.Routing.{HasLineFor}
use Rattle.dr_ledger.specs.declared.content.Job.{Job}
use Rattle.dr_ledger.specs.declared.fault.LedgerFault.{LedgerFault}
use Rattle.dr_ledger.specs.declared.fault.LedgerFault.TheVariants as fault
use Rattle.dr_ledger.specs.declared.item.Arrived.{Arrived}
use Rattle.dr_ledger.specs.declared.item.Instance.{Instance}
use Rattle.dr_ledger.specs.Items.{IsItem, instance_of, values_of}
use Rattle.dr_ledger.specs.Replies.{Arrives, LastsAfter}
use Rattle.dr_ledger.specs.SiteRoutes.{site_routing}
use Rattle.dr_store_shelf.specs.declared.fault.ShelfFault.{ShelfFault}
use Rattle.dr_store_shelf.specs.declared.fault.ShelfFault.TheVariants as shelf
use Rattle.dr_store_schema.specs.Books.{book_of}
use Rattle.dr_store_changes.specs.declared.first.Taking.{Taking}
use Rattle.dr_store_calls.specs.Calling.{Called, IsOwnFault, Nothing, advanced}
use Rattle.dr_store_calls.specs.Receiving.{AcceptsOne, AnswersWith, IsAccounted, IsCellTaken, TakesOn, comes}
use Rattle.dr_store_calls.specs.Shelving.{AcceptsItem, AnswersTo, IsPut, TakesItem, fault_of_shelf}
use Rattle.dr_store_calls.proofs.Calls.{said_as, still_called}

-- ---- an item has bytes

-- a data set without bytes has no uid
read_some : (s : Syntax) (body : List ℕ) (values : Attributes) → Scans s body (Ok values) → IsUid values.instance → 0 < length body
read_some s [] values scans is =
    let none = one_reading s [] scans.0 [] scans.1 refl in
    let nothing : values.instance ≡ [] = scans.3 ∙ ap (value_at 0x0008 0x0018) none in
    let some = is.0 in
    absurd (omega (arith, some, ap length nothing))
read_some s (byte ∷ more) values scans is = omega arith

pub has_bytes : (item : Job) → IsItem item → 0 < length item.body
has_bytes item is = read_some item.key.syntax item.body (values_of item) is.read is.instance

-- ---- the shelf's faults

pub own_fault : (why : ShelfFault) → IsOwnFault (fault_of_shelf why)
own_fault (shelf.Io error) = inl refl
own_fault shelf.Memory = inr refl
own_fault shelf.Unusable = inl refl
own_fault shelf.Full = inl refl
own_fault shelf.NoCell = inl refl
own_fault shelf.Unreadable = inl refl

-- ---- what is put

module _ (Same : Type 0) (Used Uses : List ℕ → Type 0) (Stands Apart : List ℕ → List ℕ → Type 0) (body : List ℕ) (how : Taking) (cell : List ℕ) where
  -- where no data set comes, none is put
  pub no_place : Same → comes how ≡ false → (came : Option (List ℕ)) → IsCellTaken how cell came → IsPut Same Used Uses Stands Apart body came
  no_place same none None is = same
  no_place same none (Some there) is = absurd (true≢false (sym is.0 ∙ none))

  -- where one comes, it came by the cell that was put
  pub one_place : comes how ≡ true → IsPut Same Used Uses Stands Apart body (Some cell) → (came : Option (List ℕ)) → IsCellTaken how cell came → IsPut Same Used Uses Stands Apart body came
  one_place some put None is = absurd (true≢false (sym some ∙ is))
  one_place some put (Some there) is = subst (λ x. IsPut Same Used Uses Stands Apart body (Some x)) (sym is.1) put

-- ---- an item

module _ (Comes : List ℕ → Option (List ℕ) → Type 0) where
  takes_item : (item : Job) (base db : Trees) → IsItem item → TakesOn (Comes item.body) (instance_of item) base db → TakesItem Comes item base db
  takes_item item base db is takes uid there h = elim (takes uid there h) [
    | inl was ↦ inl was
    | inr new ↦ inr (new.0, new.1, is, new.2)
  ]

  pub received_item : (n : ℕ) (part : Part) (caller : Text) (item : Job) (instance : Instance) (body : List ℕ) (r : Result Arrived LedgerFault) (old new : State) → IsItem item → instance ≡ instance_of item → body ≡ item.body
      → Called n (advanced r n) part r old new Nothing (AnswersWith (Comes body) part caller instance r) (AcceptsOne (Comes body) part caller instance)
      → Called n (advanced r n) part r old new Nothing (AnswersTo Comes part caller item r) (AcceptsItem Comes part caller item)
  received_item n part caller item instance body r old new is same own received =
      let P : Instance → List ℕ → Type 0 = λ i b. Called n (advanced r n) part r old new Nothing (AnswersWith (Comes b) part caller i r) (AcceptsOne (Comes b) part caller i) in
      said_as n (advanced r n) part r old new Nothing Nothing
      (AnswersWith (Comes item.body) part caller (instance_of item) r) (AnswersTo Comes part caller item r)
      (AcceptsOne (Comes item.body) part caller (instance_of item)) (AcceptsItem Comes part caller item)
      (λ past db l any. any) (λ base db it. (it.0, takes_item item base db is it.1, it.2)) (λ base db it. (it.0, takes_item item base db is it.1))
      (subst (λ b. P (instance_of item) b) own (subst (λ i. P i body) same received))

  -- where nothing is done
  still : (n : ℕ) (part : Part) (caller : Text) (item : Job) (e : LedgerFault) (s : State) → ((db : Trees) → Arrives (site_routing part) caller (instance_of item) (book_of db) (Err e) (book_of db)) → ((db : Trees) → IsAccounted (Comes item.body) (Err e) item.uid db)
      → ((P : Type 0) → P → LastsAfter {A = Arrived} (Err e) P)
      → Called {A = Arrived} n n part (Err e) s s Nothing (AnswersTo Comes part caller item (Err e)) (AcceptsItem Comes part caller item)
  still n part caller item e s arrives accounted lasts =
      still_called {A = Arrived} n part (Err e) s Nothing (AnswersTo Comes part caller item (Err e)) (AcceptsItem Comes part caller item) (λ db any. (arrives db, λ uid there h. inl h, accounted db)) lasts

  pub no_line : (n : ℕ) (part : Part) (caller : Text) (item : Job) (s : State) → Comes item.body None → (HasLineFor part caller item.key → ⊥)
      → Called {A = Arrived} n n part (Err fault.NoLine) s s Nothing (AnswersTo Comes part caller item (Err fault.NoLine)) (AcceptsItem Comes part caller item)
  no_line n part caller item s same none = still n part caller item fault.NoLine s (λ db. (none, refl)) (λ db. same) (λ P p. p)

  pub no_memory : (n : ℕ) (part : Part) (caller : Text) (item : Job) (s : State) → HasLineFor part caller item.key
      → Called {A = Arrived} n n part (Err fault.Memory) s s Nothing (AnswersTo Comes part caller item (Err fault.Memory)) (AcceptsItem Comes part caller item)
  no_memory n part caller item s line = still n part caller item fault.Memory s (λ db. (line, refl)) (λ db. tt) (λ P p. tt)
