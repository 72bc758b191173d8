-- Journals that go on from what a past made.
use Rattle.std.proofs.Common.{◌≡◌, ◌≤◌, ◌^◌, ℕ, refl, sym, ap, subst, ◌∙◌, inl, inr, List, []}
use Rattle.std.proofs.Common.{◌∷◌, ◌++◌, Result}
use Rattle.std.proofs.lemmas.List.{append-nil, append_assoc}
use Rattle.dr_base.specs.Texts.{Text}
use Rattle.dr_ledger.specs.declared.fault.LedgerFault.{LedgerFault}
use Rattle.dr_ledger.specs.declared.item.Arrived.{Arrived}
use Rattle.dr_ledger.specs.declared.item.Instance.{Instance}
use Rattle.dr_ledger.specs.declared.item.Outcome.{Outcome}
use Rattle.dr_ledger.specs.Books.{Book, Line, Adoption, Fold, after, empty_book, folded}
use Rattle.dr_ledger.specs.Histories.{IsBeforeAdoption, IsHistory, IsJournalled, IsPast, IsSince}
use Rattle.dr_ledger.specs.Replies.{Arrives, Drops, Forgets, Requeues, Settles}
use Rattle.dr_ledger.specs.Routings.{Routing}
use Rattle.dr_ledger.proofs.Folding.{adoptions_are_journalled, arrivals_are_journalled}
use Rattle.dr_ledger.proofs.Folding.{droppings_are_journalled, folded_append, folded_push}
use Rattle.dr_ledger.proofs.Folding.{folds_have_their_lines, forgettings_are_journalled}
use Rattle.dr_ledger.proofs.Folding.{journal_is_past, requeuings_are_journalled}
use Rattle.dr_ledger.proofs.Folding.{settlings_are_journalled}
use Rattle.dr_ledger.proofs.Solid.{journals_are_solid}
use Rattle.dr_ledger_history.specs.Contents.{book_of, content_of}
use Rattle.dr_ledger_history.specs.Told.{IsTold}
use Rattle.dr_ledger_past.specs.Laws.{AdoptionsGoOn, CallsGoOn, JournalsGoOn}
use Rattle.dr_ledger_past.specs.Laws.{JournalsWithPastsAreSolid, WhatWasMadeCounts}
use Rattle.dr_ledger_past.specs.Pasts.{AdoptsAmong, Follow, GoesOnFrom, with_past}
use Rattle.dr_ledger_past.proofs.Alike.{arrives_alike, drops_alike, forgets_alike, history_alike}
use Rattle.dr_ledger_past.proofs.Alike.{past_alike, requeues_alike, settles_alike, solid_alike}
use Rattle.dr_ledger_past.proofs.Before.{books_stay_apart, folds_go_on, made_with_past}
use Rattle.dr_ledger_past.proofs.Before.{one_line_more}
use Rattle.dr_ledger_past.proofs.Splits.{cut_at, ends_adopting, history_behind, history_both}
use Rattle.dr_ledger_past.proofs.Splits.{history_front, past_behind, past_both, past_front}

-- what a past made, and no lines
abbrev pub made_by : List Line → Book
made_by past = book_of (content_of (Fold past))

-- ---- from what a past made, and from the past's book

module _ (past lines : List Line) where
  past_to_made : IsPast lines (Fold past) → IsPast lines (made_by past)
  past_to_made h =
      (past_alike lines past (made_by past)).0 (subst (IsPast lines) (sym (made_with_past past)) h)

  past_from_made : IsPast lines (made_by past) → IsPast lines (Fold past)
  past_from_made h =
      subst (IsPast lines) (made_with_past past) ((past_alike lines past (made_by past)).1 h)

  module _ (routing : Routing) where
    to_made : IsHistory routing lines (Fold past) → IsHistory routing lines (made_by past)
    to_made h =
        (history_alike routing lines past (made_by past)).0
        (subst (IsHistory routing lines) (sym (made_with_past past)) h)

    from_made : IsHistory routing lines (made_by past) → IsHistory routing lines (Fold past)
    from_made h =
        subst (IsHistory routing lines) (made_with_past past)
        ((history_alike routing lines past (made_by past)).1 h)

-- the book after lines up to an adoption, and after it
adopted_at : (past earlier : List Line)
    → Fold (past ++ (earlier ++ Adoption ∷ []))
    ≡ with_past past (after Adoption (folded (made_by past) earlier))
adopted_at past earlier =
    folds_go_on past (earlier ++ Adoption ∷ [])
    ∙ ap (with_past past) (folded_push earlier Adoption (made_by past))

lines_at : (earlier since : List Line)
    → (earlier ++ Adoption ∷ []) ++ since ≡ earlier ++ Adoption ∷ since
lines_at earlier since = append_assoc earlier (Adoption ∷ []) since

-- ---- a book that is journalled with its past goes on from it

module _ (routing : Routing) (past : List Line) (b : Book)
    (j : IsJournalled routing (with_past past b)) where
  all_past : IsPast (past ++ b.lines) empty_book
  all_past = journal_is_past routing j.0 (with_past past b) j.1

  told : IsTold past (content_of (Fold past))
  told = record { past = past_front past b.lines empty_book all_past; fold = refl }

  it_folds : b ≡ folded (made_by past) b.lines
  it_folds =
      books_stay_apart past b (folded (made_by past) b.lines)
      (j.1.fold ∙ folds_go_on past b.lines)

  -- the last adoption is in the past, or none is in either
  follows_past : (mid : List Line) → past ≡ j.0 ++ mid → j.1.since ≡ mid ++ b.lines
      → Follow routing past b.lines (made_by past)
  follows_past mid before behind =
      let whole : IsHistory routing (mid ++ b.lines) (Fold j.0) =
      subst (λ (ls : List Line). IsHistory routing ls (Fold j.0)) behind j.1.history in
      let its : Fold past ≡ folded (Fold j.0) mid =
      ap Fold before ∙ folded_append j.0 mid empty_book in
      let since : IsSince routing j.0 (Fold past) = record {
        since = mid;
        lines = folds_have_their_lines past ∙ before;
        before = j.1.before;
        accepted = j.1.accepted;
        history = history_front routing mid b.lines (Fold j.0) whole;
        fold = sym (ap Fold (folds_have_their_lines past));
      } in
      inl (
        (j.0, since),
        to_made past b.lines routing
            (subst (IsHistory routing b.lines) (sym its)
            (history_behind routing mid b.lines (Fold j.0) whole)),
      )

  -- the last adoption is among the book's own lines
  adopts_after : (x : Line) (rest : List Line) → j.0 ≡ past ++ x ∷ rest
      → b.lines ≡ (x ∷ rest) ++ j.1.since
      → Follow routing past b.lines (made_by past)
  adopts_after x rest behind lines =
      let ends = ends_adopting past x rest (subst IsBeforeAdoption behind j.1.before) in
      let at : j.0 ≡ past ++ (ends.0 ++ Adoption ∷ []) =
      behind ∙ ap (λ (ls : List Line). past ++ ls) ends.1 in
      let accepted : IsPast (past ++ (ends.0 ++ Adoption ∷ [])) empty_book =
      subst (λ (ls : List Line). IsPast ls empty_book) at j.1.accepted in
      let then : Fold j.0 ≡ with_past past (after Adoption (folded (made_by past) ends.0)) =
      ap Fold at ∙ adopted_at past ends.0 in
      let adopts : AdoptsAmong routing b.lines (made_by past) = record {
        earlier = ends.0;
        since = j.1.since;
        are =
            lines
            ∙ ap (λ (ls : List Line). ls ++ j.1.since) ends.1
            ∙ lines_at ends.0 j.1.since;
        accepted =
            past_to_made past ends.0
            (past_front ends.0 (Adoption ∷ []) (Fold past)
            (past_behind past (ends.0 ++ Adoption ∷ []) empty_book accepted));
        history =
            (history_alike routing j.1.since past
            (after Adoption (folded (made_by past) ends.0))).0
            (subst (IsHistory routing j.1.since) then j.1.history);
      } in
      inr adopts

  by_mid : (mid : List Line) → j.0 ≡ past ++ mid → b.lines ≡ mid ++ j.1.since
      → Follow routing past b.lines (made_by past)
  by_mid [] behind lines =
      follows_past []
      (sym (append-nil past) ∙ sym behind ∙ sym (append-nil j.0)) (sym lines)
  by_mid (x ∷ rest) behind lines = adopts_after x rest behind lines

  pub goes_on : GoesOnFrom routing past b
  goes_on = record {
    made = content_of (Fold past);
    told = told;
    follow = elim (cut_at past b.lines j.0 j.1.since j.1.lines) [
      | inl c ↦ by_mid c.0 c.1 c.2
      | inr c ↦ follows_past c.0 c.1 c.2
    ];
    fold = it_folds;
  }

-- ---- and one that goes on from it is journalled with it

module _ (routing : Routing) (past : List Line) (b : Book)
    (accepted : IsPast past empty_book) (fold : b ≡ folded (made_by past) b.lines) where
  all_folds : with_past past b ≡ Fold (past ++ b.lines)
  all_folds = ap (with_past past) fold ∙ sym (folds_go_on past b.lines)

  by_history : (past_is : IsJournalled routing (Fold past)) → IsHistory routing b.lines (Fold past)
      → IsSince routing past_is.0 (with_past past b)
  by_history j h =
      let its : past ≡ j.0 ++ j.1.since = sym (folds_have_their_lines past) ∙ j.1.lines in
      let then : Fold past ≡ folded (Fold j.0) j.1.since =
      ap Fold its ∙ folded_append j.0 j.1.since empty_book in
      record {
        since = j.1.since ++ b.lines;
        lines =
            ap (λ (ls : List Line). ls ++ b.lines) its
            ∙ append_assoc j.0 j.1.since b.lines;
        before = j.1.before;
        accepted = j.1.accepted;
        history =
            history_both routing j.1.since b.lines (Fold j.0) j.1.history
            (subst (IsHistory routing b.lines) then h);
        fold = all_folds;
      }

  by_adoption : (a : AdoptsAmong routing b.lines (made_by past))
      → IsSince routing (past ++ (a.earlier ++ Adoption ∷ [])) (with_past past b)
  by_adoption a =
      let whole : b.lines ≡ (a.earlier ++ Adoption ∷ []) ++ a.since =
      a.are ∙ sym (lines_at a.earlier a.since) in
      record {
        since = a.since;
        lines =
            ap (λ (ls : List Line). past ++ ls) whole
            ∙ sym (append_assoc past (a.earlier ++ Adoption ∷ []) a.since);
        before =
            inr (past ++ a.earlier, sym (append_assoc past a.earlier (Adoption ∷ [])));
        accepted =
            past_both past (a.earlier ++ Adoption ∷ []) empty_book accepted
            (past_both a.earlier (Adoption ∷ []) (Fold past)
            (past_from_made past a.earlier a.accepted) (tt, tt));
        history =
            subst (IsHistory routing a.since) (sym (adopted_at past a.earlier))
            ((history_alike routing a.since past
            (after Adoption (folded (made_by past) a.earlier))).1 a.history);
        fold = all_folds;
      }

  pub journalled : Follow routing past b.lines (made_by past)
      → IsJournalled routing (with_past past b)
  journalled (inl f) = (f.0.0, by_history f.0 (from_made past b.lines routing f.1))
  journalled (inr a) = (past ++ (a.earlier ++ Adoption ∷ []), by_adoption a)

-- what it goes on from is what any past made that made the same
module _ (routing : Routing) (past other : List Line) (b : Book) (g : GoesOnFrom routing past b)
    (same : content_of (Fold other) ≡ content_of (Fold past)) (accepted : IsPast other empty_book)
    (under : IsJournalled routing (Fold past) → IsJournalled routing (Fold other)) where
  made : book_of g.made ≡ made_by other
  made = ap book_of (g.told.fold ∙ sym same)

  by_either : Follow routing past b.lines (book_of g.made)
      → Follow routing other b.lines (made_by other)
  by_either (inl f) = inl (under f.0, subst (IsHistory routing b.lines) made f.1)
  by_either (inr a) = inr (subst (AdoptsAmong routing b.lines) made a)

  pub journalled_on : IsJournalled routing (with_past other b)
  journalled_on =
      journalled routing other b accepted
      (subst (λ (x : Book). b ≡ folded x b.lines) made g.fold) (by_either g.follow)

pub journals_go_on : (routing : Routing) → JournalsGoOn routing
journals_go_on routing past b = (
  goes_on routing past b,
  λ g. journalled_on routing past past b g refl g.told.past (λ j. j),
)

pub what_was_made_counts : (routing : Routing) → WhatWasMadeCounts routing
what_was_made_counts routing past other b j same accepted under =
    journalled_on routing past other b (goes_on routing past b j) same accepted under

-- ---- calls

pub arrivals_go_on : (routing : Routing) (past : List Line) (caller : Text) (item : Instance)
    (old new : Book) (r : Result Arrived LedgerFault)
    → IsJournalled routing (with_past past old)
    → Arrives routing caller item old r new
    → IsJournalled routing (with_past past new)
arrivals_go_on routing past caller item old new r j answer = (
  j.0,
  arrivals_are_journalled routing j.0 caller item (with_past past old) (with_past past new) r j.1
      ((arrives_alike routing caller item r past old new).1 answer),
)

pub settlings_go_on : (routing : Routing) (past : List Line) (uid dest : Text) (outcome : Outcome)
    (now : ℕ) (old new : Book) (r : Result (Unit {0}) LedgerFault)
    → now ≤ 2 ^ 62
    → IsJournalled routing (with_past past old)
    → Settles uid dest outcome now old r new
    → IsJournalled routing (with_past past new)
settlings_go_on routing past uid dest outcome now old new r early j answer = (
  j.0,
  settlings_are_journalled routing j.0 uid dest outcome now (with_past past old)
      (with_past past new) r early j.1
      ((settles_alike uid dest outcome now r past old new).1 answer),
)

pub requeuings_go_on : (routing : Routing) (past : List Line) (uid dest : Text) (old new : Book)
    (r : Result (Unit {0}) LedgerFault)
    → IsJournalled routing (with_past past old)
    → Requeues uid dest old r new
    → IsJournalled routing (with_past past new)
requeuings_go_on routing past uid dest old new r j answer = (
  j.0,
  requeuings_are_journalled routing j.0 uid dest (with_past past old) (with_past past new) r j.1
      ((requeues_alike uid dest r past old new).1 answer),
)

pub droppings_go_on : (routing : Routing) (past : List Line) (uid dest : Text) (now : ℕ)
    (old new : Book) (r : Result (Unit {0}) LedgerFault)
    → now ≤ 2 ^ 62
    → IsJournalled routing (with_past past old)
    → Drops uid dest now old r new
    → IsJournalled routing (with_past past new)
droppings_go_on routing past uid dest now old new r early j answer = (
  j.0,
  droppings_are_journalled routing j.0 uid dest now (with_past past old) (with_past past new) r
      early j.1 ((drops_alike uid dest now r past old new).1 answer),
)

pub forgettings_go_on : (routing : Routing) (past : List Line) (uid : Text) (old new : Book)
    (r : Result (Unit {0}) LedgerFault)
    → IsJournalled routing (with_past past old)
    → Forgets uid old r new
    → IsJournalled routing (with_past past new)
forgettings_go_on routing past uid old new r j answer = (
  j.0,
  forgettings_are_journalled routing j.0 uid (with_past past old) (with_past past new) r j.1
      ((forgets_alike uid r past old new).1 answer),
)

pub calls_go_on : (routing : Routing) → CallsGoOn routing
calls_go_on routing = record {
  arrive = arrivals_go_on routing;
  settle = settlings_go_on routing;
  requeue = requeuings_go_on routing;
  drops = droppings_go_on routing;
  forget = forgettings_go_on routing;
}

pub adoptions_go_on : (routing next : Routing) → AdoptionsGoOn routing next
adoptions_go_on routing next past b j = (
  (past ++ b.lines) ++ Adoption ∷ [],
  subst (IsSince next ((past ++ b.lines) ++ Adoption ∷ [])) (one_line_more past Adoption b)
      (adoptions_are_journalled routing next j.0 (with_past past b) j.1),
)

pub journals_with_pasts_are_solid : (routing : Routing) → JournalsWithPastsAreSolid routing
journals_with_pasts_are_solid routing past b j =
    (solid_alike past b).0 (journals_are_solid routing j.0 (with_past past b) j.1)
