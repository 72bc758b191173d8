-- What a walk over all lines has found: from single lines to all keys and all walks.
use Rattle.std.proofs.Common.{◌≡◌, ℕ, suc, ◌+◌, ◌<◌, ◌≤◌, ◌⊎◌, inl, inr, refl, sym, subst, List, [], ◌∷◌, length, get_or, Contains, Some, arith}
use Rattle.std.specs.Prelude.{slice_get}
use Rattle.std.proofs.Math.Logic.{⊎_elim}
use Rattle.std.proofs.lemmas.Option.{slice_get-get_or}
use Rattle.dr_base.specs.Texts.{Text}
use Rattle.dr_base.specs.declared.syntax.Syntax.{Syntax}
use Rattle.dr_route.specs.Routes.{local}
use Rattle.dr_route.specs.Laws.{key_of}
use Rattle.dr_route.specs.declared.key.Key.{Key}
use Rattle.dr_route.specs.declared.cell.OwnedCell.{OwnedCell}
use Rattle.dr_plan_model.specs.Networks.{Network}
use Rattle.dr_plan_model.specs.Plans.{IsWellFormed, LiesIn}
use Rattle.dr_plan_model.specs.Walks.{Sends, Keeps, Accepts, IsWalk, last_place, IsReached}
use Rattle.dr_plan_model.proofs.WalksAlike.{send_alike, keep_alike, walk_alike, cell_has_a_key}
use Rattle.dr_plan_sound.specs.declared.certificate.Stop.{Stop}
use Rattle.dr_plan_sound.specs.declared.certificate.Line.{Line}
use Rattle.dr_plan_sound.specs.Soundness.{IsRank}
use Rattle.dr_plan_sound.specs.Ranked.{line_at, SendsOn, AreRanked}
use Rattle.dr_plan_sound.proofs.RankedLines.{some_cell}
use Rattle.dr_plan_sound.proofs.Hopping.{last_hop, reached_next, reached_not_local}
use Rattle.dr_plan_entries.specs.Visiting.{IsEntryCell}
use Rattle.dr_plan_entries.proofs.Entries.{cell_that_lies}
use Rattle.dr_cert.specs.Conditions.{IsReachedStop, HasEachLine, HasALine, AcceptsEachHop, GoesOnEverywhere, ReachesEachLine, HasRightRanks}
use Rattle.dr_cert.specs.Indexing.{AreSorted}
use Rattle.dr_cert.specs.Surveying.{EachAt, IsLetIn, IsGoingOn, IsRankedAmong}
use Rattle.dr_cert.specs.Walking.{IsComeTo, IsMarked, IsFollowed, next_stop}
use Rattle.dr_cert.proofs.Following.{come_to_is_reached, line_there, stands_there}
use Rattle.dr_cert.proofs.Looking.{one_place, one_rank_there, stands_of}

-- ---- right ranks are right among the others
module _ (plan : Network) (formed : IsWellFormed plan) (lines : List Line) (right : HasRightRanks plan lines) where
  -- the rank of a line is that of each key of its cell
  pub rank_for : (line : Line) → Contains lines line → (key : Key) → LiesIn plan line.stop.cell key → IsRank plan key line.stop.caller line.stop.node line.rank
  rank_for line among key lies =
      let has = right line among in
      let cell : OwnedCell = line.stop.cell in
      record {
        longest = (has.3.longest.0, walk_alike plan cell has.0 key has.1 lies line.stop.caller line.stop.node has.3.longest.0 has.3.longest.1, has.3.longest.2);
        greatest = λ over walk. has.3.greatest over (walk_alike plan cell key has.0 lies has.1 line.stop.caller line.stop.node over walk);
      }

  pub right_is_ranked : (line : Line) → Contains lines line → ((to : Text) → SendsOn plan line.stop to → HasALine lines (next_stop line.stop to)) → IsRankedAmong plan lines line
  right_is_ranked line among next =
      let has = right line among in
      let stop : Stop = line.stop in
      let key : Key = has.0 in
      let lies : LiesIn plan stop.cell key = has.1 in
      let back : LiesIn plan stop.cell (key_of stop.cell) = cell_has_a_key plan formed stop.cell (cell_that_lies plan stop.cell key lies) in
      let lower : (to : Text) → SendsOn plan stop to → (s : ℕ) × Contains lines (line_at stop.node to stop.cell s) × (s < line.rank) =
      λ to sent.
      let there = next to sent in
      let rank = rank_for (line_at stop.node to stop.cell there.0) there.1 key lies in
      let far = rank.longest in
      let long : length far.0 ≡ there.0 = far.2 in
      let walked : length (to ∷ far.0) ≤ line.rank = has.3.greatest (to ∷ far.0) (send_alike plan stop.cell (key_of stop.cell) key back lies stop.node stop.caller to sent, far.1) in
      (there.0, there.1, omega arith) in
      record { lower = lower; next = just_above lower key lies back has.3.longest.0 has.3.longest.1 has.3.longest.2 }
    where
      just_above : ((to : Text) → SendsOn plan line.stop to → (s : ℕ) × Contains lines (line_at line.stop.node to line.stop.cell s) × (s < line.rank)) → (key : Key) → LiesIn plan line.stop.cell key →
          LiesIn plan line.stop.cell (key_of line.stop.cell) → (over : List Text) → IsWalk plan key line.stop.caller line.stop.node over → length over ≡ line.rank →
          (line.rank ≡ 0) ⊎ ((to : Text) × (s : ℕ) × SendsOn plan line.stop to × Contains lines (line_at line.stop.node to line.stop.cell s) × (line.rank ≡ s + 1))
      just_above lower key lies back [] walk long = inl (omega arith)
      just_above lower key lies back (to ∷ rest) walk long =
          let sent : SendsOn plan line.stop to = send_alike plan line.stop.cell key (key_of line.stop.cell) lies back line.stop.node line.stop.caller to walk.0 in
          let there = lower to sent in
          let below : there.0 < line.rank = there.2 in
          let rank = rank_for (line_at line.stop.node to line.stop.cell there.0) there.1 key lies in
          let most : length rest ≤ there.0 = rank.greatest rest walk.1 in
          let whole : suc (length rest) ≡ line.rank = long in
          inr (to, there.0, sent, there.1, omega arith)

-- ---- a walk over lines that is closed
module _ (plan : Network) (formed : IsWellFormed plan) (lines : List Line) (sorted : AreSorted lines) (reached : List ℕ)
    (come : EachAt lines reached (λ line. IsComeTo plan line.stop))
    (entered : (site : Text) (cell : OwnedCell) → IsEntryCell plan site cell → IsMarked lines reached (record { caller = local; node = site; cell = cell }))
    (followed : EachAt lines reached (IsFollowed plan lines reached)) where
  -- what is sent on from a stop that is marked comes to one that is
  marked_next : (key : Key) (cell : OwnedCell) → LiesIn plan cell key → (caller name to : Text) → IsMarked lines reached (record { caller = caller; node = name; cell = cell }) → Sends plan name caller key to →
      IsMarked lines reached (record { caller = name; node = to; cell = cell })
  marked_next key cell lies caller name to marked sent =
      let line : Line = marked.2.0 in
      let here : slice_get lines marked.0 ≡ Some line = marked.2.1 in
      let same : line.stop ≡ record { caller = caller; node = name; cell = cell } = marked.2.2 in
      let back : LiesIn plan cell (key_of cell) = cell_has_a_key plan formed cell (cell_that_lies plan cell key lies) in
      let on : SendsOn plan (record { caller = caller; node = name; cell = cell }) to = send_alike plan cell key (key_of cell) lies back name caller to sent in
      let P : Stop → Type 0 = λ s. SendsOn plan s to in
      let Q : Stop → Type 0 = λ s. IsMarked lines reached (next_stop s to) in
      subst Q same (followed marked.0 line marked.1 here to (subst P (sym same) on))

  marked_along : (key : Key) (cell : OwnedCell) → LiesIn plan cell key → (caller name : Text) (over : List Text) → IsMarked lines reached (record { caller = caller; node = name; cell = cell }) →
      IsWalk plan key caller name over → IsMarked lines reached (record { caller = (last_place caller name over).0; node = (last_place caller name over).1; cell = cell })
  marked_along key cell lies caller name [] marked walk = marked
  marked_along key cell lies caller name (next ∷ rest) marked walk = marked_along key cell lies name next rest (marked_next key cell lies caller name next marked walk.0) walk.1

  -- each stop to which a walk comes is marked
  pub all_marked : (stop : Stop) → IsReachedStop plan stop → IsMarked lines reached stop
  all_marked stop r =
      let walk = r.2 in
      let start = entered walk.0 stop.cell (r.0, r.1, walk.2) in
      let end = marked_along r.0 stop.cell r.1 local walk.0 walk.1 start walk.3 in
      let P : Text × Text → Type 0 = λ p. IsMarked lines reached (record { caller = p.0; node = p.1; cell = stop.cell }) in
      subst P walk.4 end

  -- so what holds of the lines at the places, holds of its line
  at_stop : (P : Stop → Type 0) → EachAt lines reached (λ line. P line.stop) → (stop : Stop) → IsReachedStop plan stop → P stop
  at_stop P each stop r =
      let marked = all_marked stop r in
      subst P marked.2.2 (each marked.0 marked.2.0 marked.1 marked.2.1)

  pub has_each : HasEachLine plan lines
  has_each stop r =
      let marked = all_marked stop r in
      (marked.2.0.rank, stands_there lines stop marked.0 marked.2.0 marked.2 marked.2.1)

  pub reaches_from : ((place : ℕ) → place < length lines → Contains reached place) → ReachesEachLine plan lines
  reaches_from all line among = come_to_is_reached plan formed line.stop (come among.0 line (all among.0 among.1) (stands_of lines line among))

  pub reaches_to : ReachesEachLine plan lines → (place : ℕ) → place < length lines → Contains reached place
  reaches_to reaches place h = there lines refl place h
    where
      there : (ls : List Line) → ls ≡ lines → (place : ℕ) → place < length ls → Contains reached place
      there [] same place h = absurd (omega arith)
      there (l ∷ ls) same place h =
          let line : Line = get_or lines place l in
          let P : List Line → Type 0 = λ xs. place < length xs in
          let in_lines : place < length lines = subst P same h in
          let here : slice_get lines place ≡ Some line = slice_get-get_or lines place l in_lines in
          let marked = all_marked line.stop (reaches line (line_there lines place line here)) in
          let one : marked.0 ≡ place = one_place lines line.stop marked.0 place sorted marked.2 (line, here, refl) in
          let Q : ℕ → Type 0 = λ p. Contains reached p in
          subst Q one marked.1

  pub accepts_from : EachAt lines reached (IsLetIn plan) → AcceptsEachHop plan
  accepts_from each key from to goes =
      let cell = some_cell plan key in
      let stop : Stop = record { caller = from; node = to; cell = cell.0 } in
      let r : IsReachedStop plan stop = (key, cell.1, reached_next plan key goes.0 from to goes.1 goes.2) in
      let let_in = at_stop (λ s. (s.caller ≡ local) ⊎ Accepts plan s.node s.caller s.cell.class s.cell.syntax) each stop r in
      let P : Text → Type 0 = λ class. Accepts plan to from class key.syntax in
      let Q : Syntax → Type 0 = λ syntax. Accepts plan to from cell.0.class syntax in
      ⊎_elim
      (λ same. absurd (reached_not_local plan formed key goes.0 from goes.1 same))
      (λ accepted. subst P cell.1.class (subst Q cell.1.syntax accepted))
      let_in

  pub accepts_to : AcceptsEachHop plan → EachAt lines reached (IsLetIn plan)
  accepts_to accepts place line among here =
      let stop : Stop = line.stop in
      let r : IsReached plan (key_of stop.cell) stop.caller stop.node = (come place line among here).1 in
      ⊎_elim
      (λ none. inl (sym none.1))
      (λ more. inr (accepts (key_of stop.cell) stop.caller stop.node (more.1, (r.0, more.0, r.2, more.2, more.3), more.4)))
      (last_hop plan (key_of stop.cell) local r.0 r.1 stop.caller stop.node r.3 r.4)

  pub goes_on_from : EachAt lines reached (IsGoingOn plan) → GoesOnEverywhere plan
  goes_on_from each key caller name r =
      let cell = some_cell plan key in
      let stop : Stop = record { caller = caller; node = name; cell = cell.0 } in
      let back : LiesIn plan cell.0 (key_of cell.0) = cell_has_a_key plan formed cell.0 (cell_that_lies plan cell.0 key cell.1) in
      let on = at_stop (λ s. Keeps plan s.node s.caller (key_of s.cell) ⊎ ((to : Text) × SendsOn plan s to)) each stop (key, cell.1, r) in
      ⊎_elim
      (λ kept. inl (keep_alike plan cell.0 (key_of cell.0) key back cell.1 name caller kept))
      (λ sent. inr (sent.0, send_alike plan cell.0 (key_of cell.0) key back cell.1 name caller sent.0 sent.1))
      on

  pub goes_on_to : GoesOnEverywhere plan → EachAt lines reached (IsGoingOn plan)
  goes_on_to goes place line among here = goes (key_of line.stop.cell) line.stop.caller line.stop.node (come place line among here).1

  pub ranked_from : HasRightRanks plan lines → EachAt lines reached (IsRankedAmong plan lines)
  ranked_from right place line among here = right_is_ranked plan formed lines right line (line_there lines place line here)
      (λ to sent. (let marked = followed place line among here to sent in (marked.2.0.rank, stands_there lines (next_stop line.stop to) marked.0 marked.2.0 marked.2 marked.2.1)))

  pub are_ranked : ((place : ℕ) → place < length lines → Contains reached place) → AcceptsEachHop plan → GoesOnEverywhere plan → EachAt lines reached (IsRankedAmong plan lines) → AreRanked plan lines
  are_ranked all accepts goes each =
      let at : (stop : Stop) (rank : ℕ) → Contains lines (record { stop = stop; rank = rank }) → IsComeTo plan stop =
      λ stop rank among. (let line : Line = record { stop = stop; rank = rank } in come among.0 line (all among.0 among.1) (stands_of lines line among)) in
      record {
        each = λ stop rank among.
            let line : Line = record { stop = stop; rank = rank } in
            let r = (at stop rank among).1 in
            let ranked = each among.0 line (all among.0 among.1) (stands_of lines line among) in
            record {
              lower = λ to sent. (accepts (key_of stop.cell) stop.node to (stop.caller, r, sent), ranked.lower to sent);
              next = ranked.next;
              goes_on = goes (key_of stop.cell) stop.caller stop.node r;
            };
        cells = λ stop rank among. (at stop rank among).0;
        reached = λ stop rank among. (at stop rank among).1;
        one = one_rank_there lines sorted;
        entries = λ key cell site lies entry.
            let stop : Stop = record { caller = local; node = site; cell = cell } in
            has_each stop (key, lies, (site, [], entry, tt, refl));
      }
