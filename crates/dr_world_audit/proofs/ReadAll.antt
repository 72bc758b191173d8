-- A journal that is read to its end, or why it isn't.
use Rattle.std.specs.Prelude.{◌≡◌, List, [], ◌∷◌, ◌++◌, Contains, Err}
use Rattle.std.proofs.Common.{refl, sym, ap, subst, ◌∙◌}
use Rattle.std.proofs.lemmas.List.{append-nil, append_cancel_left}
use Rattle.dr_base.specs.Texts.{Text}
use Rattle.dr_plan_model.specs.Networks.{Network}
use Rattle.dr_site.specs.Parts.{Part}
use Rattle.dr_ledger.specs.declared.item.Instance.{Instance}
use Rattle.dr_ledger.specs.Books.{Book, Line, Fold, empty_book, since_adoption}
use Rattle.dr_ledger.specs.Histories.{IsBeforeAdoption, IsHistory, IsPast, IsSince}
use Rattle.dr_ledger.specs.Pairs.{Pair}
use Rattle.dr_ledger.specs.SiteRoutes.{site_routing}
use Rattle.dr_ledger.proofs.Folding.{folds_have_their_lines}
use Rattle.dr_ledger.proofs.Since.{since_is}
use Rattle.dr_ledger_history.specs.declared.line.HistoryFault.{HistoryFault}
use Rattle.dr_ledger_history.specs.declared.line.HistoryFault.TheVariants as history
use Rattle.dr_ledger_history.specs.Contents.{Content, book_of, content_of}
use Rattle.dr_ledger_history.specs.Told.{IsTold, IsToldSince}
use Rattle.dr_world_audit.specs.declared.fault.JournalFault.{JournalFault}
use Rattle.dr_world_audit.specs.declared.fault.JournalFault.TheVariants as fault
use Rattle.dr_world_audit.specs.declared.hop.AuditHop.{AuditHop as Held}
use Rattle.dr_world_audit.specs.declared.trail.Trail.{Trail}
use Rattle.dr_world_audit.specs.Hops.{Notes, held}
use Rattle.dr_world_audit.specs.Readings.{IsJournal, IsRead, Reads}
use Rattle.dr_world_audit.specs.Replays.{NotesAll, TellsAll, TellsAllSince}
use Rattle.dr_world_audit.specs.Standing.{FitsAt, Stands, StandsOf, UnfitAt, as_read}
use Rattle.dr_world_audit.proofs.Lists.{grown}
use Rattle.dr_world_audit.proofs.Stood.{AllStand}
use Rattle.dr_world_journals.specs.Hops.{Hop, came, done, goals, standing, stands_at, went}
use Rattle.dr_world_journals.specs.Journals.{until_adoption}

standing_same : (name : Text) (b : Book) (all : List Pair) → standing name (book_of (content_of b)) all ≡ standing name b all
standing_same name b [] = refl
standing_same name b (at ∷ all) = ap (λ hs. stands_at name b at ++ hs) (standing_same name b all)

module _ (plan : Network) (site : Part) (lines past since : List Line) (all : lines ≡ past ++ since) (until : until_adoption lines ≡ past) (before : IsBeforeAdoption past) where
  -- a book with these lines goes by what comes after that past
  journal_by : IsPast past empty_book → IsHistory (site_routing site) since (Fold past) → IsSince (site_routing site) past (Fold lines)
  journal_by accepted history =
      let fold = folds_have_their_lines lines in
      record { since = since; lines = fold ∙ all; before = before; accepted = accepted; history = history; fold = ap Fold (sym fold) }

  pub journal : IsPast past empty_book → IsHistory (site_routing site) since (Fold past) → IsJournal site lines
  journal accepted history = (let P : List Line → Type 0 = λ p. IsSince (site_routing site) p (Fold lines) in subst P (sym until) (journal_by accepted history))

  since_same : IsPast past empty_book → IsHistory (site_routing site) since (Fold past) → since_adoption lines ≡ since
  unfolding journal_by
  since_same accepted history = ap since_adoption (sym (folds_have_their_lines lines)) ∙ since_is (site_routing site) past (Fold lines) (journal_by accepted history)

  -- what a journal says of its past and of what came since
  pub past_of : IsJournal site lines → IsPast past empty_book
  past_of j = (let P : List Line → Type 0 = λ p. IsPast p empty_book in subst P until j.accepted)

  pub since_of : IsJournal site lines → IsHistory (site_routing site) since (Fold past)
  since_of j =
      let Q : List Line → Type 0 = λ p. (Fold lines).lines ≡ p ++ j.since in
      let same : j.since ≡ since = append_cancel_left past j.since since (sym (subst Q until j.lines) ∙ (folds_have_their_lines lines ∙ all)) in
      let P : List Line × List Line → Type 0 = λ p. IsHistory (site_routing site) p.1 (Fold p.0) in
      subst P (λ i. (until i, same i)) j.history

  pub begun : (c : Content) → IsTold past c → IsToldSince (site_routing site) past [] c
  begun c told = record { before = before; accepted = told.past; history = tt; fold = told.fold ∙ ap (λ (p : List Line). content_of (Fold p)) (sym (append-nil past)) }

  -- what stands by the content stands by the lines
  stands_by : (c : Content) → IsTold past c → (at : Pair) (item : Instance) → StandsOf (Fold past) at item → StandsOf (book_of c) at item
  stands_by c told at item s =
      let P : Content → Type 0 = λ x. StandsOf (book_of x) at item in
      subst P (sym told.fold) (record { row = s.row; at_goal = s.at_goal; has = s.has })

  stood_by : (c : Content) → IsTold past c → (at : Pair) (item : Instance) → StandsOf (book_of c) at item → StandsOf (Fold past) at item
  stood_by c told at item s =
      let P : Content → Type 0 = λ x. StandsOf (book_of x) at item in
      let t = subst P told.fold s in
      record { row = t.row; at_goal = t.at_goal; has = t.has }

  pub read_all : (c last : Content) (old mid new : Trail) → IsTold past c → AllStand plan site.name (book_of c) (goals past) old.sent.items mid.sent.items → mid.came.items ≡ old.came.items → mid.done.items ≡ old.done.items →
      IsToldSince (site_routing site) past since last → NotesAll site past since mid new → IsRead plan site lines old new
  read_all c last old mid new told stand came_same done_same t notes =
      let routing = site_routing site in
      let name = site.name in
      let same = since_same told.past t.history in
      let stood : standing name (book_of c) (goals past) ≡ standing name (Fold past) (goals past) = ap (λ (x : Content). standing name (book_of x) (goals past)) told.fold ∙ standing_same name (Fold past) (goals past) in
      let P : List Line × List Line → Type 0 = λ p. Notes old (came name p.1) (standing name (Fold p.0) (goals p.0) ++ went routing name p.1) (done name (Fold p.0) p.1) new in
      let F : List Line → Type 0 = λ p. (at : Pair) → Contains (goals p) at → FitsAt plan name (Fold p) at in
      record {
        own = journal told.past t.history;
        fit = subst F (sym until) (λ at h item s. stand.1 at h item (stands_by c told at item s));
        notes = subst P (λ j. (sym until j, sym same j)) (record {
          arrivals = (let Q : List Held → Type 0 = λ hs. new.came.items ≡ hs ++ held (came name since) in subst Q came_same notes.arrivals);
          reasons = grown old.sent.items (standing name (Fold past) (goals past)) mid.sent.items (went routing name since) new.sent.items
              (let Q : List Hop → Type 0 = λ hs. mid.sent.items ≡ old.sent.items ++ held hs in subst Q stood stand.0) notes.reasons;
          successes = (let Q : List Held → Type 0 = λ hs. new.done.items ≡ hs ++ held (done name (Fold past) since) in subst Q done_same notes.successes);
        });
      }

  pub unfit_there : (c : Content) → IsTold past c → (at : Pair) → UnfitAt plan site.name (book_of c) at → UnfitAt plan site.name (Fold (until_adoption lines)) at
  unfit_there c told at u =
      let P : List Line → Type 0 = λ p. UnfitAt plan site.name (Fold p) at in
      subst P (sym until) (u.0, stood_by c told at u.0 u.1, u.2)

  -- ---- where it isn't read
  pub past_fails : (why : HistoryFault) (old new : Trail) → TellsAll past (Err why) → Reads plan site lines old new (Err (as_read why))
  past_fails history.NoCall old new fails = λ j. fails (past_of j)
  past_fails history.Memory old new fails = tt

  pub since_fails : (why : HistoryFault) (old mid new : Trail) → TellsAllSince site past since mid new (Err why) → Reads plan site lines old new (Err (as_read why))
  since_fails history.NoCall old mid new fails = λ j. fails (since_of j)
  since_fails history.Memory old mid new fails = tt

  pub stand_fails : (c : Content) (why : JournalFault) (hops : List Held) (old new : Trail) → IsTold past c → Stands plan site.name (book_of c) (goals past) old.sent.items hops (Err why) → Reads plan site lines old new (Err why)
  stand_fails c (fault.Unfit uid to) hops old new told u = (
    (let P : List Line → Type 0 = λ p. IsPast p empty_book in subst P (sym until) told.past),
    unfit_there c told (uid, to) u,
  )
  stand_fails c fault.NoCall hops old new told none = absurd none
  stand_fails c fault.Memory hops old new told s = tt
