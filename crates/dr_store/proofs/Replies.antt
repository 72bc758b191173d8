-- What a ledger's calls answer holds where it merely holds: each part can be tested, or has one proof at most.
use Rattle.std.proofs.Common.{◌≡◌, ◌≢◌, ◌⊎◌, ◌↔◌, inl, inr, ℕ, Bool, IsTrue, true, false, List, [], ◌∷◌, Contains, Option, Some, None, Result, Ok, Err, refl, sym, ap, subst, ◌∙◌, true≢false}
use Rattle.std.proofs.Math.Logic.{∥∥₁_elim, ∥∥₁_map}
use mathlib.Core.Bool.{Bool-set}
use Rattle.std.specs.Coded.{Coded}
use Rattle.std.specs.FinMap as map
use Rattle.std.specs.FinSet as set
use Rattle.dr_base.specs.Texts.{Text}
use Rattle.dr_base.specs.contracts.syntax.Syntax as syntax_row
use Rattle.dr_route.specs.declared.cell.FieldValues.{FieldValues}
use Rattle.dr_route.specs.declared.cell.Literals.{Literals}
use Rattle.dr_route.specs.declared.cell.OwnedCell.{OwnedCell}
use Rattle.dr_route.specs.declared.cell.OwnedField.{OwnedField}
use Rattle.dr_route.specs.declared.cell.OwnedField.TheVariants.{Literal, Prefix, Rest}
use Rattle.dr_route.specs.declared.key.Key.{Key}
use Rattle.dr_route.specs.Cells.{InCell, InField}
use Rattle.dr_route.proofs.Agreement.{some_part, one_part}
use Rattle.dr_plan_sound.specs.declared.certificate.Line.{Line as Ranked}
use Rattle.dr_site.specs.Parts.{Part}
use Rattle.dr_site.specs.Routing.{HasLineFor}
use Rattle.dr_ledger.specs.declared.content.Job.{Job}
use Rattle.dr_ledger.specs.declared.fault.LedgerFault.{LedgerFault}
use Rattle.dr_ledger.specs.declared.fault.LedgerFault.TheVariants as fault
use Rattle.dr_ledger.specs.declared.item.Arrived.{Arrived}
use Rattle.dr_ledger.specs.declared.item.Arrived.TheVariants.{New, Again}
use Rattle.dr_ledger.specs.declared.item.Instance.{Instance}
use Rattle.dr_ledger.specs.declared.item.Outcome.{Outcome}
use Rattle.dr_ledger.specs.declared.item.Progress.{Progress}
use Rattle.dr_ledger.specs.declared.item.Progress.TheVariants.{Waiting, Held, Done, Dropped}
use Rattle.dr_ledger.specs.Adopting.{Adopting}
use Rattle.dr_ledger.specs.Bodies.{IsThere, LosesNone, Bodies, OnlyLetsGo, OnlyTakes}
use Rattle.dr_ledger.specs.Books.{Book}
use Rattle.sqlite.specs.Tree.{Trees}
use Rattle.dr_store_schema.specs.Books.{book_of}
use Rattle.dr_store.specs.Owning.{LetsGoOf, bodies_with}
use Rattle.dr_ledger.specs.Replies.{Admits, Arrives, Drops, Forgets, HasConflict, IsAdmitted, IsHeld, IsOver, IsWaiting, Requeues, Settles}
use Rattle.dr_ledger.specs.SiteRoutes.{site_routing}
use Rattle.dr_ledger.proofs.Growing.{inside}
use Rattle.dr_store_calls.specs.Knowing.{IsAccepted}
use Rattle.dr_store.proofs.Sets.{coded_bodies, coded_book, coded_instance, coded_text}
use Rattle.dr_store.proofs.Stable.{Stable, both, by_code, each, either, first_in, later_in, in_cases, never, not_in_none, of_dec, of_prop, tested, three}
use Rattle.std.specs.Coded.{coded_list, coded_option, coded_ℕ}

nothing : {P : Type 0} → Stable ⊥ → ∥ P ∥₁ → (P → ⊥) → ⊥
nothing s h f = s (∥∥₁_map h f)

impossible : Stable ⊥
impossible = of_prop (λ x y. absurd x)

-- ---- a site's lines

in_both : {P Q : Type 0} → Dec P → Dec Q → Dec (P × Q)
in_both (yes p) (yes q) = yes (p, q)
in_both (yes p) (no n) = no (λ x. n x.1)
in_both (no n) q = no (λ x. n x.0)

refuted : {P : Type 0} → Dec P → Dec (P → ⊥)
refuted (yes p) = no (λ n. n p)
refuted (no n) = yes n

abbrev IsLiteralPart : OwnedField → Type 0
IsLiteralPart (Literal l) = Unit {0}
IsLiteralPart (Prefix p) = ⊥
IsLiteralPart Rest = ⊥

abbrev IsRestPart : OwnedField → Type 0
IsRestPart (Literal l) = ⊥
IsRestPart (Prefix p) = ⊥
IsRestPart Rest = Unit {0}

abbrev text_in : OwnedField → Text
text_in (Literal l) = l
text_in (Prefix p) = p
text_in Rest = []

same_part : (a b : OwnedField) → Dec (a ≡ b)
same_part (Literal a) (Literal b) = go (tested coded_text a b)
  where
    go : Dec (a ≡ b) → Dec (Literal a ≡ Literal b)
    go (yes h) = yes (ap (λ (t : Text). Literal t) h)
    go (no n) = no (λ e. n (ap text_in e))
same_part (Literal a) (Prefix b) = no (λ e. subst IsLiteralPart e tt)
same_part (Literal a) Rest = no (λ e. subst IsLiteralPart e tt)
same_part (Prefix a) (Literal b) = no (λ e. subst IsLiteralPart (sym e) tt)
same_part (Prefix a) (Prefix b) = go (tested coded_text a b)
  where
    go : Dec (a ≡ b) → Dec (Prefix a ≡ Prefix b)
    go (yes h) = yes (ap (λ (t : Text). Prefix t) h)
    go (no n) = no (λ e. n (ap text_in e))
same_part (Prefix a) Rest = no (λ e. subst IsRestPart (sym e) tt)
same_part Rest (Literal b) = no (λ e. subst IsLiteralPart (sym e) tt)
same_part Rest (Prefix b) = no (λ e. subst IsRestPart e tt)
same_part Rest Rest = yes refl

-- a value lies in one part, so that it lies in another where that is the same
in_field : (values : FieldValues) (part : OwnedField) (value : Text) → Dec (InField values part value)
in_field values part value = go (some_part values value)
  where
    decided : (own : OwnedField) → InField values own value → Dec (own ≡ part) → Dec (InField values part value)
    decided own lies (yes same) = yes (let P : OwnedField → Type 0 = λ p. InField values p value in subst P same lies)
    decided own lies (no other) = no (λ there. other (one_part values own part value lies there))

    go : (own : OwnedField) × InField values own value → Dec (InField values part value)
    go found = decided found.0 found.1 (same_part found.0 part)

in_cell : (literals : Literals) (cell : OwnedCell) (key : Key) → Dec (InCell literals cell key)
in_cell literals cell key = go (in_both (tested coded_text cell.class key.class) (in_both (tested syntax_row.the_row.coded cell.syntax key.syntax)
    (in_both (in_field literals.modalities cell.modality key.modality) (in_field literals.stations cell.station key.station))))
  where
    go : Dec ((cell.class ≡ key.class) × ((cell.syntax ≡ key.syntax) × (InField literals.modalities cell.modality key.modality × InField literals.stations cell.station key.station))) → Dec (InCell literals cell key)
    go (yes h) = yes (record { class = h.0; syntax = h.1.0; modality = h.1.1.0; station = h.1.1.1 })
    go (no n) = no (λ c. n (c.class, (c.syntax, (c.modality, c.station))))

some_in : {A : Type 0} {P : A → Type 0} → ((x : A) → Dec (P x)) → (xs : List A) → Dec ((x : A) × (Contains xs x × P x))
some_in test [] = no (λ h. not_in_none h.0 h.1.0)
some_in {A} {P} test (x ∷ xs) = go (test x) (some_in test xs)
  where
    go : Dec (P x) → Dec ((y : A) × (Contains xs y × P y)) → Dec ((y : A) × (Contains (x ∷ xs) y × P y))
    go (yes p) later = yes (x, (first_in x x xs refl, p))
    go (no n) (yes h) = yes (h.0, (later_in x h.0 xs h.1.0, h.1.1))
    go (no n) (no m) = no (λ h. elim (in_cases x h.0 xs h.1.0) [ inl e ↦ n (subst P (sym e) h.1.1) | inr l ↦ m (h.0, (l, h.1.1)) ])

abbrev IsFor : Part → Text → Key → Ranked → Type 0
IsFor part caller key line = (line.stop.caller ≡ caller) × ((line.stop.node ≡ part.name) × InCell part.literals line.stop.cell key)

line_tested : (part : Part) (caller : Text) (key : Key) → Dec (HasLineFor part caller key)
line_tested part caller key = go (some_in (λ (line : Ranked). in_both (tested coded_text line.stop.caller caller) (in_both (tested coded_text line.stop.node part.name) (in_cell part.literals line.stop.cell key))) part.lines)
  where
    go : Dec ((line : Ranked) × (Contains part.lines line × IsFor part caller key line)) → Dec (HasLineFor part caller key)
    go (yes h) = yes (h.0, h.1.0, h.1.1.0, h.1.1.1.0, h.1.1.1.1)
    go (no n) = no (λ h. n (h.0, (h.1, (h.2, (h.3, h.4)))))

pub has_line : (part : Part) (caller : Text) (key : Key) → Stable (HasLineFor part caller key)
has_line part caller key = of_dec (line_tested part caller key)

-- ---- arrivals

pub same_book : (b d : Book) → Stable (b ≡ d)
same_book = by_code coded_book

module _ (part : Part) (caller : Text) (item : Instance) where
  admitted : (b : Book) → Stable (IsAdmitted (site_routing part) caller item b)
  admitted b h = record {
    line = has_line part caller item.key (∥∥₁_map h (λ a. a.line));
    same = each (λ held. each (λ is. by_code coded_instance held item)) (∥∥₁_map h (λ a. a.same));
  }

  conflicts : (b : Book) → Stable (HasConflict b item)
  conflicts b = go (map.get b.items item.uid) refl
    where
      go : (o : Option Instance) → map.get b.items item.uid ≡ o → Stable (HasConflict b item)
      go None is h = absurd (nothing impossible h (λ c. absurd (let e : None ≡ Some c.0 = sym is ∙ c.1 in cc)))
      go (Some held) is h = (held, is, λ e. nothing impossible h (λ c. c.2 (sym (inside held c.0 (sym is ∙ c.1)) ∙ e)))

  pub arrives : (old : Book) (r : Result Arrived LedgerFault) (new : Book) → Stable (Arrives (site_routing part) caller item old r new)
  arrives old (Ok New) new = three (admitted old) (of_prop (Bool-set _ _)) (same_book _ _)
  arrives old (Ok Again) new = three (admitted old) (of_prop (Bool-set _ _)) (same_book _ _)
  arrives old (Err fault.NoLine) new = both never (same_book _ _)
  arrives old (Err fault.Conflict) new = three (has_line part caller item.key) (conflicts old) (same_book _ _)
  arrives old (Err fault.Store) new = both (has_line part caller item.key) (same_book _ _)
  arrives old (Err fault.Memory) new = both (has_line part caller item.key) (same_book _ _)
  arrives old (Err fault.NotWaiting) new = impossible
  arrives old (Err fault.NotHeld) new = impossible
  arrives old (Err fault.NotOver) new = impossible

  pub admits : (b : Book) (r : Result (Unit {0}) LedgerFault) → Stable (Admits (site_routing part) caller item b r)
  admits b (Ok done) = admitted b
  admits b (Err fault.NoLine) = never
  admits b (Err fault.Conflict) = both (has_line part caller item.key) (conflicts b)
  admits b (Err fault.Store) = has_line part caller item.key
  admits b (Err fault.Memory) = has_line part caller item.key
  admits b (Err fault.NotWaiting) = impossible
  admits b (Err fault.NotHeld) = impossible
  admits b (Err fault.NotOver) = impossible

  -- which of the two an accepted arrival is, is known by the arrivals
  pub accepted : (old new : Book) → Stable (IsAccepted part caller item old new)
  accepted old new = go (set.contains old.arrivals (caller, item.uid)) refl
    where
      go : (b : Bool) → set.contains old.arrivals (caller, item.uid) ≡ b → Stable (IsAccepted part caller item old new)
      go true is h = (Again, arrives old (Ok Again) new (∥∥₁_map h (λ a. again a.0 a.1)))
        where
          again : (answer : Arrived) → Arrives (site_routing part) caller item old (Ok answer) new → Arrives (site_routing part) caller item old (Ok Again) new
          again Again a = a
          again New a = absurd (true≢false (sym is ∙ a.1))
      go false is h = (New, arrives old (Ok New) new (∥∥₁_map h (λ a. first a.0 a.1)))
        where
          first : (answer : Arrived) → Arrives (site_routing part) caller item old (Ok answer) new → Arrives (site_routing part) caller item old (Ok New) new
          first New a = a
          first Again a = absurd (true≢false (sym a.1 ∙ is))

-- ---- rows

module _ (b : Book) (uid dest : Text) where
  pub waits : Stable (IsWaiting b uid dest)
  waits = go (map.get b.rows (uid, dest)) refl
    where
      go : (o : Option Progress) → map.get b.rows (uid, dest) ≡ o → Stable (IsWaiting b uid dest)
      go None is h = absurd (nothing impossible h (λ w. absurd (let e : None ≡ Some (Waiting w.0 w.1) = sym is ∙ w.2 in cc)))
      go (Some (Waiting tries due)) is h = (tries, due, is)
      go (Some (Held why)) is h = absurd (nothing impossible h (λ w. absurd (let e : Some (Held why) ≡ Some (Waiting w.0 w.1) = sym is ∙ w.2 in cc)))
      go (Some Done) is h = absurd (nothing impossible h (λ w. absurd (let e : Some Done ≡ Some (Waiting w.0 w.1) = sym is ∙ w.2 in cc)))
      go (Some Dropped) is h = absurd (nothing impossible h (λ w. absurd (let e : Some Dropped ≡ Some (Waiting w.0 w.1) = sym is ∙ w.2 in cc)))

  pub is_held : Stable (IsHeld b uid dest)
  is_held = go (map.get b.rows (uid, dest)) refl
    where
      go : (o : Option Progress) → map.get b.rows (uid, dest) ≡ o → Stable (IsHeld b uid dest)
      go None is h = absurd (nothing impossible h (λ w. absurd (let e : None ≡ Some (Held w.0) = sym is ∙ w.1 in cc)))
      go (Some (Waiting tries due)) is h = absurd (nothing impossible h (λ w. absurd (let e : Some (Waiting tries due) ≡ Some (Held w.0) = sym is ∙ w.1 in cc)))
      go (Some (Held why)) is h = (why, is)
      go (Some Done) is h = absurd (nothing impossible h (λ w. absurd (let e : Some Done ≡ Some (Held w.0) = sym is ∙ w.1 in cc)))
      go (Some Dropped) is h = absurd (nothing impossible h (λ w. absurd (let e : Some Dropped ≡ Some (Held w.0) = sym is ∙ w.1 in cc)))

pub settles : (uid dest : Text) (outcome : Outcome) (now : ℕ) (old : Book) (r : Result (Unit {0}) LedgerFault) (new : Book) → Stable (Settles uid dest outcome now old r new)
settles uid dest outcome now old (Ok done) new = both (waits old uid dest) (same_book _ _)
settles uid dest outcome now old (Err fault.NotWaiting) new = both never (same_book _ _)
settles uid dest outcome now old (Err fault.Store) new = same_book _ _
settles uid dest outcome now old (Err fault.Memory) new = same_book _ _
settles uid dest outcome now old (Err fault.NoLine) new = impossible
settles uid dest outcome now old (Err fault.Conflict) new = impossible
settles uid dest outcome now old (Err fault.NotHeld) new = impossible
settles uid dest outcome now old (Err fault.NotOver) new = impossible

pub requeues : (uid dest : Text) (old : Book) (r : Result (Unit {0}) LedgerFault) (new : Book) → Stable (Requeues uid dest old r new)
requeues uid dest old (Ok done) new = both (is_held old uid dest) (same_book _ _)
requeues uid dest old (Err fault.NotHeld) new = both never (same_book _ _)
requeues uid dest old (Err fault.NotOver) new = impossible
requeues uid dest old (Err fault.Store) new = same_book _ _
requeues uid dest old (Err fault.Memory) new = same_book _ _
requeues uid dest old (Err fault.NoLine) new = impossible
requeues uid dest old (Err fault.Conflict) new = impossible
requeues uid dest old (Err fault.NotWaiting) new = impossible

pub drops : (uid dest : Text) (now : ℕ) (old : Book) (r : Result (Unit {0}) LedgerFault) (new : Book) → Stable (Drops uid dest now old r new)
drops uid dest now old (Ok done) new = both (is_held old uid dest) (same_book _ _)
drops uid dest now old (Err fault.NotHeld) new = both never (same_book _ _)
drops uid dest now old (Err fault.NotOver) new = impossible
drops uid dest now old (Err fault.Store) new = same_book _ _
drops uid dest now old (Err fault.Memory) new = same_book _ _
drops uid dest now old (Err fault.NoLine) new = impossible
drops uid dest now old (Err fault.Conflict) new = impossible
drops uid dest now old (Err fault.NotWaiting) new = impossible

-- ---- what is over

module _ (b : Book) (uid : Text) where
  item_there : (o : Option Instance) → map.get b.items uid ≡ o → Stable ((item : Instance) × (map.get b.items uid ≡ Some item))
  item_there None is h = absurd (nothing impossible h (λ t. absurd (let e : None ≡ Some t.0 = sym is ∙ t.1 in cc)))
  item_there (Some item) is h = (item, is)

  is_over : Stable (IsOver b uid)
  is_over h = record {
    there = item_there (map.get b.items uid) refl (∥∥₁_map h (λ o. o.there));
    unkept = of_prop (Bool-set _ _) (∥∥₁_map h (λ o. o.unkept));
    unqueued = each (λ dest. each (λ row. each (λ at. of_prop (Bool-set _ _)))) (∥∥₁_map h (λ o. o.unqueued));
  }

  -- whether it is
  pub over_told : (over : Bool) → Stable (IsTrue over ↔ IsOver b uid)
  over_told over = both (each (λ told. is_over)) (each (λ is. of_prop (Bool-set _ _)))

pub forgets : (uid : Text) (old : Book) (r : Result (Unit {0}) LedgerFault) (new : Book) → Stable (Forgets uid old r new)
forgets uid old (Ok done) new = both (is_over old uid) (same_book _ _)
forgets uid old (Err fault.NotOver) new = both never (same_book _ _)
forgets uid old (Err fault.Store) new = same_book _ _
forgets uid old (Err fault.Memory) new = same_book _ _
forgets uid old (Err fault.NoLine) new = impossible
forgets uid old (Err fault.Conflict) new = impossible
forgets uid old (Err fault.NotWaiting) new = impossible
forgets uid old (Err fault.NotHeld) new = impossible

pub adopting : (old : Book) (r : Result (Unit {0}) LedgerFault) (new : Book) → Stable (Adopting old r new)
adopting old (Ok done) new = same_book _ _
adopting old (Err fault.Store) new = same_book _ _
adopting old (Err fault.Memory) new = same_book _ _
adopting old (Err fault.NoLine) new = impossible
adopting old (Err fault.Conflict) new = impossible
adopting old (Err fault.NotWaiting) new = impossible
adopting old (Err fault.NotHeld) new = impossible
adopting old (Err fault.NotOver) new = impossible

-- ---- data sets

body_tested : (x y : Option (List ℕ)) → Dec (x ≡ y)
body_tested = tested (coded_option (coded_list coded_ℕ))

pub lets_go : (old new : Bodies) → Stable (OnlyLetsGo old new)
lets_go old new = each (λ uid. each (λ body. each (λ there. of_dec (body_tested _ _))))

pub takes : (item : Job) (old new : Bodies) → Stable (OnlyTakes item old new)
takes item old new = each (λ uid. each (λ body. each (λ there. either (body_tested _ _) (both (by_code coded_text uid item.uid) (by_code (coded_list coded_ℕ) body item.body)))))

-- a data set is there, or it isn't
is_there : (bodies : Bodies) (uid : Text) → Stable (IsThere bodies uid)
is_there bodies uid h = go (map.get bodies uid) refl
  where
    go : (o : Option (List ℕ)) → map.get bodies uid ≡ o → IsThere bodies uid
    go (Some body) is = (body, is)
    go None is = absurd (∥∥₁_elim h (λ x y. absurd x) (λ it. let e : None ≡ Some it.0 = sym is ∙ it.1 in (let f : ⊥ = cc in f)))

pub loses : (before : Book) (old : Bodies) (b : Book) (new : Bodies) → Stable (LosesNone before old b new)
loses before old b new = each (λ uid. each (λ needed. each (λ had. is_there new uid)))

pub lets_go_of : (was_of read_of : List ℕ → Option (List ℕ)) (base db : Trees) → Stable (LetsGoOf was_of read_of base db)
lets_go_of was_of read_of base db h = record {
  lets = lets_go (bodies_with was_of base) (bodies_with read_of db) (∥∥₁_map h (λ it. it.lets));
  none_lost = loses (book_of base) (bodies_with was_of base) (book_of db) (bodies_with read_of db) (∥∥₁_map h (λ it. it.none_lost));
}
