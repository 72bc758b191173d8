-- What telling a line makes of what was told.
use Rattle.std.proofs.Common.{◌≡◌, ◌≤◌, ◌^◌, ℕ, Bool, cond, List, [], ◌∷◌, ◌++◌, Option, Some, Ok, Err, refl, sym, ap, subst, ◌∙◌}
use Rattle.std.proofs.lemmas.List.{append-nil, append_assoc}
use Rattle.std.specs.FinMap as map
use Rattle.std.specs.FinSet as set
use Rattle.dr_base.specs.Texts.{Text}
use Rattle.dr_ledger.specs.declared.item.Cause.{Cause}
use Rattle.dr_ledger.specs.declared.item.Instance.{Instance}
use Rattle.dr_ledger.specs.declared.item.Outcome.{Outcome}
use Rattle.dr_ledger.specs.declared.item.Progress.{Progress}
use Rattle.dr_ledger.specs.declared.item.Progress.TheVariants.{Waiting, Held, Dropped}
use Rattle.dr_ledger.specs.Books.{Book, Line, Arrival, Repeat, Settling, Requeuing, Dropping, Forgetting, Adoption, Fold, after, dropped_row, empty_book, folded, is_other, requeued_row, row_after, settled_row}
use Rattle.dr_ledger.specs.Histories.{IsCall, IsHistory, IsPast, IsSomeCall}
use Rattle.dr_ledger.specs.Routings.{Routing}
use Rattle.dr_ledger.proofs.Folding.{folded_append, folded_push, folds_have_their_lines, history_push, some_call}
use Rattle.dr_ledger_history.specs.Contents.{Content, book_of, content, content_of}
use Rattle.dr_ledger_history.specs.declared.history.History.{History}
use Rattle.dr_ledger_history.specs.Laws.{AllButTheLines, PastIsOver, ToldHasOneContent, ToldIsJournalled}
use Rattle.dr_ledger_history.specs.Takings.{IsBy, TakesLine}
use Rattle.dr_ledger_history.specs.Told.{IsTold, IsToldSince, Tells, TellsSince}
use Rattle.dr_ledger_history.specs.declared.line.HistoryFault.{HistoryFault}
use Rattle.dr_ledger_history.specs.declared.line.HistoryFault.TheVariants as fault

-- ---- what a call asks of a book, and what it makes of it, doesn't depend on the book's lines
after_content : (line : Line) (b : Book) → content_of (after line (book_of (content_of b))) ≡ content_of (after line b)
after_content (Arrival caller item to keep) b = refl
after_content (Repeat caller item) b = refl
after_content (Settling uid dest outcome now) b = refl
after_content (Requeuing uid dest) b = refl
after_content (Dropping uid dest now) b = refl
after_content (Forgetting uid) b = refl
after_content Adoption b = refl

asked : (line : Line) (b : Book) → IsSomeCall line (book_of (content_of b)) → IsSomeCall line b
asked (Arrival caller item to keep) b h = h
asked (Repeat caller item) b h = h
asked (Settling uid dest outcome now) b h = h
asked (Requeuing uid dest) b h = h
asked (Dropping uid dest now) b h = h
asked (Forgetting uid) b h = record { there = h.there; unkept = h.unkept; unqueued = h.unqueued }
asked Adoption b h = h

asks : (line : Line) (b : Book) → IsSomeCall line b → IsSomeCall line (book_of (content_of b))
asks (Arrival caller item to keep) b h = h
asks (Repeat caller item) b h = h
asks (Settling uid dest outcome now) b h = h
asks (Requeuing uid dest) b h = h
asks (Dropping uid dest now) b h = h
asks (Forgetting uid) b h = record { there = h.there; unkept = h.unkept; unqueued = h.unqueued }
asks Adoption b h = h

-- ---- one line more
past_push : (lines : List Line) (line : Line) (b : Book) → IsPast lines b → IsSomeCall line (folded b lines) → IsPast (lines ++ line ∷ []) b
past_push [] line b h call = (call, tt)
past_push (first ∷ lines) line b h call = (h.0, past_push lines line (after first b) h.1 call)

past_last : (lines : List Line) (line : Line) (b : Book) → IsPast (lines ++ line ∷ []) b → IsSomeCall line (folded b lines)
past_last [] line b h = h.0
past_last (first ∷ lines) line b h = past_last lines line (after first b) h.1

history_last : (routing : Routing) (lines : List Line) (line : Line) (b : Book) → IsHistory routing (lines ++ line ∷ []) b → IsCall routing line (folded b lines)
history_last routing [] line b h = h.0
history_last routing (first ∷ lines) line b h = history_last routing lines line (after first b) h.1

-- what is told goes on where the call is one that is accepted
taken_on : (lines : List Line) (line : Line) (old new : Content) → old ≡ content_of (Fold lines) → new ≡ content_of (after line (book_of old)) → new ≡ content_of (Fold (lines ++ line ∷ []))
taken_on lines line old new fold is =
    is ∙ (ap (λ c. content_of (after line (book_of c))) fold ∙ (after_content line (Fold lines) ∙ ap content_of (sym (folded_push lines line empty_book))))

asked_at : (line : Line) (old : Content) (b : Book) → old ≡ content_of b → IsSomeCall line (book_of old) → IsSomeCall line b
asked_at line old b is h = (let P : Content → Type 0 = λ c. IsSomeCall line (book_of c) in asked line b (subst P is h))

asks_at : (line : Line) (old : Content) (b : Book) → old ≡ content_of b → IsSomeCall line b → IsSomeCall line (book_of old)
asks_at line old b is h = (let P : Content → Type 0 = λ c. IsSomeCall line (book_of c) in subst P (sym is) (asks line b h))

pub told_on : (lines : List Line) (line : Line) (old : Content) (new : History) → TakesLine line old (Ok tt) (content new.parts) → IsTold lines old → Tells lines line (Ok new)
told_on lines line old new take told = record {
  past = past_push lines line empty_book told.past (asked_at line old (Fold lines) told.fold take.0);
  fold = taken_on lines line old (content new.parts) told.fold take.1;
}

pub refused_past : (lines : List Line) (line : Line) (old new : Content) (why : HistoryFault) → TakesLine line old (Err why) new → IsTold lines old → Tells lines line (Err why)
refused_past lines line old new fault.NoCall take told = λ h. take (asks_at line old (Fold lines) told.fold (past_last lines line empty_book h))
refused_past lines line old new fault.Memory take told = tt

-- ---- since the last adoption
call_by : (routing : Routing) (line : Line) (b : Book) → IsBy routing line → IsSomeCall line b → IsCall routing line b
call_by routing (Arrival caller item to keep) b by call = (record { line = by.0; same = call.0 }, call.1, by.1, by.2)
call_by routing (Repeat caller item) b by call = (record { line = by; same = call.0 }, call.1)
call_by routing (Settling uid dest outcome now) b by call = call
call_by routing (Requeuing uid dest) b by call = call
call_by routing (Dropping uid dest now) b by call = call
call_by routing (Forgetting uid) b by call = call
call_by routing Adoption b by call = absurd by

by_call : (routing : Routing) (line : Line) (b : Book) → IsCall routing line b → IsBy routing line
by_call routing (Arrival caller item to keep) b call = (call.0.line, call.2, call.3)
by_call routing (Repeat caller item) b call = call.0.line
by_call routing (Settling uid dest outcome now) b call = tt
by_call routing (Requeuing uid dest) b call = tt
by_call routing (Dropping uid dest now) b call = tt
by_call routing (Forgetting uid) b call = tt
by_call routing Adoption b call = absurd call

module _ (routing : Routing) (past since : List Line) (line : Line) (old : Content) (told : IsToldSince routing past since old) where
  -- the book that all that was told makes is what those since the adoption make of the one before
  goes_on : Fold (past ++ since) ≡ folded (Fold past) since
  goes_on = folded_append past since empty_book

  is_then : old ≡ content_of (folded (Fold past) since)
  is_then = told.fold ∙ ap content_of goes_on

  pub told_since : (new : History) → IsBy routing line → TakesLine line old (Ok tt) (content new.parts) → TellsSince routing past since line (Ok new)
  told_since new by take = record {
    before = told.before;
    accepted = told.accepted;
    history = history_push routing since line (Fold past) told.history (call_by routing line (folded (Fold past) since) by (asked_at line old (folded (Fold past) since) is_then take.0));
    fold = taken_on (past ++ since) line old (content new.parts) told.fold take.1 ∙ ap (λ lines. content_of (Fold lines)) (append_assoc past since (line ∷ []));
  }

  pub refused_since : (new : Content) (why : HistoryFault) → TakesLine line old (Err why) new → TellsSince routing past since line (Err why)
  refused_since new fault.NoCall take = λ h.
      take (asks_at line old (folded (Fold past) since) is_then (some_call routing line (folded (Fold past) since) (history_last routing since line (Fold past) h)))
  refused_since new fault.Memory take = tt

  pub not_by : (IsBy routing line → ⊥) → TellsSince routing past since line (Err fault.NoCall)
  not_by none = λ h. none (by_call routing line (folded (Fold past) since) (history_last routing since line (Fold past) h))

-- ---- laws
pub past_is_over : (routing : Routing) → PastIsOver routing
past_is_over routing past c told over = record {
  before = over;
  accepted = told.past;
  history = tt;
  fold = told.fold ∙ ap (λ lines. content_of (Fold lines)) (sym (append-nil past));
}

pub told_is_journalled : (routing : Routing) → ToldIsJournalled routing
told_is_journalled routing past since c told =
    let lines = folds_have_their_lines (past ++ since) in (
      (
        past,
        record {
          since = since;
          lines = lines;
          before = told.before;
          accepted = told.accepted;
          history = told.history;
          fold = sym (ap Fold lines);
        },
      ),
      told.fold,
    )

pub told_has_one_content : (routing : Routing) → ToldHasOneContent routing
told_has_one_content routing past since c told b journalled lines = ap content_of (journalled.1.fold ∙ ap Fold lines) ∙ sym told.fold

pub all_but_the_lines : AllButTheLines
all_but_the_lines b other same lines = λ j. record {
  items = (same j).items;
  arrivals = (same j).arrivals;
  kept = (same j).kept;
  rows = (same j).rows;
  lines = lines j;
}

-- ---- what each line makes
pub brought : (c new : Content) (caller : Text) (item : Instance) (to : List Text) (keep : Bool) → new.items ≡ (content_of (after (Arrival caller item to keep) (book_of c))).items →
    new.arrivals ≡ set.insert c.arrivals (caller, item.uid) → new.kept ≡ cond keep (set.insert c.kept item.uid) c.kept → new.rows ≡ (content_of (after (Arrival caller item to keep) (book_of c))).rows →
    new ≡ content_of (after (Arrival caller item to keep) (book_of c))
brought c new caller item to keep items arrivals kept rows = λ j. record { items = items j; arrivals = arrivals j; kept = kept j; rows = rows j }

pub settled : (c new : Content) (uid dest : Text) (tries due : ℕ) (outcome : Outcome) (now : ℕ) → map.get c.rows (uid, dest) ≡ Some (Waiting tries due) → now ≤ 2 ^ 62 →
    new.items ≡ c.items → new.arrivals ≡ c.arrivals → new.kept ≡ c.kept → new.rows ≡ map.insert c.rows (uid, dest) (row_after tries outcome now) → TakesLine (Settling uid dest outcome now) c (Ok tt) new
settled c new uid dest tries due outcome now waits early items arrivals kept rows = (
  ((tries, due, waits), early),
  λ j. record {
    items = items j;
    arrivals = arrivals j;
    kept = kept j;
    rows = (rows ∙ sym (ap (λ o. settled_row c.rows (uid, dest) o outcome now) waits)) j;
  },
)

pub requeued : (c new : Content) (uid dest : Text) (why : Cause) → map.get c.rows (uid, dest) ≡ Some (Held why) →
    new.items ≡ c.items → new.arrivals ≡ c.arrivals → new.kept ≡ c.kept → new.rows ≡ map.insert c.rows (uid, dest) (Waiting 0 0) → TakesLine (Requeuing uid dest) c (Ok tt) new
requeued c new uid dest why held items arrivals kept rows = (
  (why, held),
  λ j. record { items = items j; arrivals = arrivals j; kept = kept j; rows = (rows ∙ sym (ap (λ o. requeued_row c.rows (uid, dest) o) held)) j },
)

-- a row that is something else doesn't wait, and isn't held
pub not_waiting : (c : Content) (uid dest : Text) (o : Option Progress) → map.get c.rows (uid, dest) ≡ o → ((tries due : ℕ) → o ≡ Some (Waiting tries due) → ⊥) →
    (outcome : Outcome) (now : ℕ) (new : Content) → TakesLine (Settling uid dest outcome now) c (Err fault.NoCall) new
not_waiting c uid dest o is none outcome now new = λ h. none h.0.0 h.0.1 (sym is ∙ h.0.2)

pub not_held : (c : Content) (uid dest : Text) (o : Option Progress) → map.get c.rows (uid, dest) ≡ o → ((why : Cause) → o ≡ Some (Held why) → ⊥) →
    (new : Content) → TakesLine (Requeuing uid dest) c (Err fault.NoCall) new
not_held c uid dest o is none new = λ h. none h.0 (sym is ∙ h.1)

pub dropped : (c new : Content) (uid dest : Text) (now : ℕ) (why : Cause) → map.get c.rows (uid, dest) ≡ Some (Held why) → now ≤ 2 ^ 62 →
    new.items ≡ c.items → new.arrivals ≡ set.retain c.arrivals (λ at. is_other uid at.1) → new.kept ≡ c.kept → new.rows ≡ map.insert c.rows (uid, dest) Dropped → TakesLine (Dropping uid dest now) c (Ok tt) new
dropped c new uid dest now why held early items arrivals kept rows = (
  ((why, held), early),
  λ j. record { items = items j; arrivals = arrivals j; kept = kept j; rows = (rows ∙ sym (ap (λ o. dropped_row c.rows (uid, dest) o) held)) j },
)

pub not_dropped : (c : Content) (uid dest : Text) (o : Option Progress) → map.get c.rows (uid, dest) ≡ o → ((why : Cause) → o ≡ Some (Held why) → ⊥) →
    (now : ℕ) (new : Content) → TakesLine (Dropping uid dest now) c (Err fault.NoCall) new
not_dropped c uid dest o is none now new = λ h. none h.0.0 (sym is ∙ h.0.1)
