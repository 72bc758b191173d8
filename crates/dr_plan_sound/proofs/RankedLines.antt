-- Lines that are right one by one are right for all walks: ranks fall along a walk, so they are the greatest and no pair
-- stands in a walk twice.
use Rattle.std.proofs.Common.{◌≡◌, ◌≢◌, ℕ, zero, suc, ◌+◌, ◌<◌, ◌≤◌, ◌⊎◌, inl, inr, refl, sym, subst, List, [], ◌∷◌, length, Contains, arith}
use Rattle.std.specs.Prelude.{All, AllPairs, ◌↔◌}
use Rattle.std.proofs.Math.Logic.{⊎_elim}
use Rattle.std.proofs.lemmas.List.Kept.{AllPairs-cons}
use Rattle.std.proofs.lemmas.List.Elements.{All-nil, All-cons}
use Rattle.dr_base.specs.Texts.{Text}
use Rattle.dr_base.specs.declared.syntax.Syntax.{Syntax}
use Rattle.dr_route.specs.Routes.{local}
use Rattle.dr_route.specs.Laws.{key_of}
use Rattle.dr_route.specs.declared.key.Key.{Key}
use Rattle.dr_route.specs.declared.cell.OwnedCell.{OwnedCell}
use Rattle.dr_route.proofs.Agreement.{some_part}
use Rattle.dr_plan_model.specs.Networks.{Network}
use Rattle.dr_plan_model.specs.Plans.{LiesIn, IsWellFormed, literals_of}
use Rattle.dr_plan_model.specs.Walks.{Sends, Keeps, Accepts, IsWalk, places, last_place, IsReached}
use Rattle.dr_plan_model.proofs.WalksAlike.{send_alike, keep_alike, cell_has_a_key}
use Rattle.dr_plan_sound.specs.declared.certificate.Line.{Line}
use Rattle.dr_plan_sound.specs.Soundness.{IsRank}
use Rattle.dr_plan_sound.specs.Certificates.{HasLine}
use Rattle.dr_plan_sound.specs.Ranked.{line_at, AreRanked}

-- each key lies in some cell
pub some_cell : (plan : Network) (key : Key) → (cell : OwnedCell) × LiesIn plan cell key
some_cell plan key =
    let modality = some_part (literals_of plan).modalities key.modality in
    let station = some_part (literals_of plan).stations key.station in (
      record { class = key.class; syntax = key.syntax; modality = modality.0; station = station.0 },
      record { class = refl; syntax = refl; modality = modality.1; station = station.1 },
    )

module _ (plan : Network) (formed : IsWellFormed plan) (lines : List Line) (all : AreRanked plan lines) (key : Key) (cell : OwnedCell) (lies : LiesIn plan cell key) where
  -- the stop of this cell has a line with that rank
  abbrev Has : Text → Text → ℕ → Type 0
  Has caller name rank = Contains lines (line_at caller name cell rank)

  -- what holds of the key of the cell that stands for it, holds of this one, and the other way round
  lies_too : (caller name : Text) (rank : ℕ) → Has caller name rank → LiesIn plan cell (key_of cell)
  lies_too caller name rank line = cell_has_a_key plan formed cell (all.cells (record { caller = caller; node = name; cell = cell }) rank line)

  lower : (caller name : Text) (rank : ℕ) → Has caller name rank → (to : Text) → Sends plan name caller key to →
      Accepts plan to name cell.class cell.syntax × ((s : ℕ) × Has name to s × (s < rank))
  lower caller name rank line to sent =
      (all.each (record { caller = caller; node = name; cell = cell }) rank line).lower to
      (send_alike plan cell key (key_of cell) lies (lies_too caller name rank line) name caller to sent)

  -- the ranks fall along a walk
  pub falls : (caller name : Text) (over : List Text) (rank : ℕ) → Has caller name rank → IsWalk plan key caller name over →
      (s : ℕ) × Has (last_place caller name over).0 (last_place caller name over).1 s × (s + length over ≤ rank)
  falls caller name [] rank line walk = (rank, line, omega arith)
  falls caller name (next ∷ rest) rank line walk =
      let l = (lower caller name rank line next walk.0).1 in
      let further = falls name next rest l.0 l.1 walk.1 in
      let a : l.0 < rank = l.2 in
      let b : further.0 + length rest ≤ l.0 = further.2 in
      (further.0, further.1, omega arith)

  -- there is a walk as long as the rank
  pub longest : (rank : ℕ) (caller name : Text) → Has caller name rank → (over : List Text) × IsWalk plan key caller name over × (length over ≡ rank)
  longest zero caller name line = ([], tt, refl)
  longest (suc n) caller name line =
      ⊎_elim
      (λ none. absurd (omega arith))
      (λ x.
      let same : x.1 ≡ n = (let h : suc n ≡ x.1 + 1 = x.4 in omega arith) in
      let rest = longest n name x.0 (rw same at x.3) in (
        x.0 ∷ rest.0,
        (send_alike plan cell (key_of cell) key (lies_too caller name (suc n) line) lies name caller x.0 x.2, rest.1),
        (let l : length rest.0 ≡ n = rest.2 in omega arith),
      ))
      (all.each (record { caller = caller; node = name; cell = cell }) (suc n) line).next

  pub rank_holds : (caller name : Text) (rank : ℕ) → Has caller name rank → IsRank plan key caller name rank
  rank_holds caller name rank line = record {
    longest = longest rank caller name line;
    greatest = λ over walk. let f = falls caller name over rank line walk in let h : f.0 + length over ≤ rank = f.2 in omega arith;
  }

  -- each place that the key comes to has a line
  pub reached_has_line : (caller name : Text) → IsReached plan key caller name → (rank : ℕ) × Has caller name rank
  reached_has_line caller name r =
      let entry = all.entries key cell r.0 lies r.2 in
      let f = falls local r.0 r.1 entry.0 entry.1 r.3 in
      let P : Text × Text → Type 0 = λ p. Has p.0 p.1 f.0 in
      (f.0, subst P r.4 f.1)

  -- the ranks of all places of a walk are at most that of its start
  along : (caller name : Text) (over : List Text) (rank : ℕ) → Has caller name rank → IsWalk plan key caller name over →
      All (λ p. (s : ℕ) × Has p.0 p.1 s × (s ≤ rank)) (places caller name over)
  along caller name [] rank line walk = All-cons (λ (p : Text × Text). (s : ℕ) × Has p.0 p.1 s × (s ≤ rank)) (caller, name) [] (rank, line, omega arith) (All-nil _)
  along caller name (next ∷ rest) rank line walk =
      let l = (lower caller name rank line next walk.0).1 in
      let a : l.0 < rank = l.2 in
      let later = along name next rest l.0 l.1 walk.1 in
      All-cons (λ (p : Text × Text). (s : ℕ) × Has p.0 p.1 s × (s ≤ rank)) (caller, name) (places name next rest) (rank, line, omega arith)
      (λ k d h. let x = later k d h in let b : x.0 ≤ l.0 = x.2 in (x.0, x.1, omega arith))

  pub no_pair_twice : (caller name : Text) (over : List Text) (rank : ℕ) → Has caller name rank → IsWalk plan key caller name over → AllPairs (λ p q. p ≢ q) (places caller name over)
  no_pair_twice caller name [] rank line walk = AllPairs-cons (λ (p q : Text × Text). p ≢ q) (caller, name) [] (All-nil _) (λ i j d a b. absurd (omega arith))
  no_pair_twice caller name (next ∷ rest) rank line walk =
      let l = (lower caller name rank line next walk.0).1 in
      let a : l.0 < rank = l.2 in
      let later = along name next rest l.0 l.1 walk.1 in
      AllPairs-cons (λ (p q : Text × Text). p ≢ q) (caller, name) (places name next rest)
      (λ k d h same.
      let x = later k d h in
      let P : Text × Text → Type 0 = λ p. Has p.0 p.1 x.0 in
      let again : Has caller name x.0 = subst P (sym same) x.1 in
      let e : rank ≡ x.0 = all.one (record { caller = caller; node = name; cell = cell }) rank x.0 line again in
      let b : x.0 ≤ l.0 = x.2 in
      omega arith)
      (no_pair_twice name next rest l.0 l.1 walk.1)

  pub accepted_on : (caller name : Text) → IsReached plan key caller name → (to : Text) → Sends plan name caller key to → Accepts plan to name key.class key.syntax
  accepted_on caller name r to sent =
      let line = reached_has_line caller name r in
      let P : Text → Type 0 = λ class. Accepts plan to name class key.syntax in
      let Q : Syntax → Type 0 = λ syntax. Accepts plan to name cell.class syntax in
      subst P lies.class (subst Q lies.syntax (lower caller name line.0 line.1 to sent).0)

  pub goes_on : (caller name : Text) → IsReached plan key caller name → Keeps plan name caller key ⊎ ((to : Text) × Sends plan name caller key to)
  goes_on caller name r =
      let line = reached_has_line caller name r in
      let back = lies_too caller name line.0 line.1 in
      ⊎_elim
      (λ kept. inl (keep_alike plan cell (key_of cell) key back lies name caller kept))
      (λ sent. inr (sent.0, send_alike plan cell (key_of cell) key back lies name caller sent.0 sent.1))
      (all.each (record { caller = caller; node = name; cell = cell }) line.0 line.1).goes_on

-- two ranks of a place are equal
pub one_rank : (plan : Network) (key : Key) (caller name : Text) (r s : ℕ) → IsRank plan key caller name r → IsRank plan key caller name s → r ≡ s
one_rank plan key caller name r s a b =
    let la = a.longest in
    let lb = b.longest in
    let x : length la.0 ≤ s = b.greatest la.0 la.1 in
    let y : length lb.0 ≤ r = a.greatest lb.0 lb.1 in
    let e : length la.0 ≡ r = la.2 in
    let f : length lb.0 ≡ s = lb.2 in
    omega arith

-- the lines are exactly those of the plan
pub lines_are_the_lines : (plan : Network) → IsWellFormed plan → (lines : List Line) → AreRanked plan lines → (line : Line) → Contains lines line ↔ HasLine plan line
lines_are_the_lines plan formed lines all line = (
  λ among.
      let lies : LiesIn plan line.stop.cell (key_of line.stop.cell) = cell_has_a_key plan formed line.stop.cell (all.cells line.stop line.rank among) in (
        key_of line.stop.cell,
        lies,
        all.reached line.stop line.rank among,
        rank_holds plan formed lines all (key_of line.stop.cell) line.stop.cell lies line.stop.caller line.stop.node line.rank among,
      ),
  λ has.
      let found = reached_has_line plan formed lines all has.0 line.stop.cell has.1 line.stop.caller line.stop.node has.2 in
      let rank : found.0 ≡ line.rank = one_rank plan has.0 line.stop.caller line.stop.node found.0 line.rank
      (rank_holds plan formed lines all has.0 line.stop.cell has.1 line.stop.caller line.stop.node found.0 found.1) has.3 in
      let P : ℕ → Type 0 = λ r. Contains lines (line_at line.stop.caller line.stop.node line.stop.cell r) in
      subst P rank found.1,
)
