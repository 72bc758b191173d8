-- Steps behind one that only made room.
use Rattle.std.proofs.Common.{◌≡◌, ◌∙◌, ◌++◌, ◌∷◌, [], ℕ, Bool, List, Result, Ok, Err, ap, subst, sym}
use Rattle.std.specs.Prelude.{OnErr, T}
use Rattle.std.specs.FinMap.{is_sorted}
use Rattle.std.specs.BTreeSet as sorted
use Rattle.dr_base.specs.Texts.{Text, text_cmp}
use Rattle.dr_route.specs.declared.rule.Targets.{Targets}
use Rattle.dr_ledger.specs.declared.content.Job.{Job}
use Rattle.dr_ledger.specs.declared.item.Progress.{Progress}
use Rattle.dr_ledger.specs.Pairs.{Pair, pair_cmp}
use Rattle.dr_ledger_history.specs.declared.line.JournalLine.{JournalLine}
use Rattle.dr_ledger_history.specs.declared.line.JournalLine.TheVariants as note
use Rattle.dr_ledger_memory.specs.declared.bringing.Copies.{Copies}
use Rattle.dr_ledger_memory.specs.declared.parts.Bringing.{Bringing}
use Rattle.dr_ledger_memory.specs.declared.parts.Parts.{Parts}
use Rattle.dr_ledger_memory.specs.declared.parts.FurtherArrival.{FurtherArrival}
use Rattle.dr_ledger_memory.specs.Bringings.{AreCopies, IsFor, IsJoined}
use Rattle.dr_ledger_memory.specs.Changes.{AreAlike, HasBrought, IsMoved, IsOneMore, IsPutAt, IsRest, AreSameParts, MovesAt, TakesAt, Tree, at}
use Rattle.dr_ledger_memory.specs.Entries.{IsTakenAgain, OwnRow}

pub on_err : {A E : Type 0} {P Q : Type 0} (r : Result A E) → (P → Q) → OnErr r P → OnErr r Q
on_err (Ok value) f h = h
on_err (Err why) f h = f h

-- what was copied, with what the item and the targets have
pub is_for : (caller : Text) (item : Job) (targets : Targets) (rows : List OwnRow) (copies : Copies) (new : Bringing) → AreCopies caller item targets.to rows copies → IsJoined item targets copies new →
    IsFor caller item targets rows new
is_for caller item targets rows copies new a j = record {
  is_item = j.is_item;
  arrival = j.arrival ∙ a.arrival;
  uid = j.uid;
  instance = j.instance ∙ a.instance;
  rows_are = j.rows ∙ a.rows_are;
  sorted = (let P : List OwnRow → Type 0 = λ es. T (is_sorted text_cmp es) in subst P (sym j.rows) a.sorted);
  keep = j.keep;
  body = j.body;
  note = j.note ∙ (λ i. note.Arrival (a.line.caller_is i) (a.line.instance i) targets.to targets.keep);
}

-- the rest says what the whole said
pub rested : (old new : Tree) (b : Bringing) (rest : FurtherArrival) → IsRest b rest → TakesAt old rest.uid rest.rows.items rest.keep rest.body new → TakesAt old b.uid b.rows.items b.keep b.body new
rested old new b rest is t =
    let U : Text → Type 0 = λ x. TakesAt old x b.rows.items b.keep b.body new in
    let R : List OwnRow → Type 0 = λ x. TakesAt old rest.uid x b.keep b.body new in
    let K : Bool → Type 0 = λ x. TakesAt old rest.uid rest.rows.items x b.body new in
    let B : List ℕ → Type 0 = λ x. TakesAt old rest.uid rest.rows.items rest.keep x new in
    subst U is.uid (subst R is.rows (subst K is.keep (subst B is.body t)))

-- ---- m is p with more keys of waiting rows, or more room
module _ (p m q : Parts) (held : m.held ≡ p.held) (arrivals : m.arrivals ≡ p.arrivals) (notes : m.notes.items ≡ p.notes.items) where
  pub roomed_same : AreSameParts p m
  roomed_same = record { held = ap (λ (t : Tree). t.entries) held; arrivals = λ key. ap (λ s. sorted.contains pair_cmp s key) arrivals; notes = notes }

  pub same_from : AreSameParts m q → AreSameParts p q
  same_from s =
      let A : sorted.BTreeSet Pair → Type 0 = λ x. AreAlike x q.arrivals in
      record { held = s.held ∙ ap (λ (t : Tree). t.entries) held; arrivals = subst A arrivals s.arrivals; notes = s.notes ∙ notes }

  pub brought_from : (new : Bringing) → HasBrought m new q → HasBrought p new q
  brought_from new b =
      let K : Tree → Type 0 = λ x. IsTakenAgain (at x new.uid) new.instance new.rows.items new.keep new.body b.after in
      let P : Tree → Type 0 = λ x. IsPutAt x new.uid b.after q.held in
      let A : sorted.BTreeSet Pair → Type 0 = λ x. IsOneMore x new.arrival q.arrivals in
      record { after = b.after; taken = subst K held b.taken; held = subst P held b.held; arrivals = subst A arrivals b.arrivals; notes = b.notes ∙ ap (λ (ns : List JournalLine). ns ++ new.note ∷ []) notes }

  pub moved_from : (uid dest : Text) (progress : Progress) (note : JournalLine) → IsMoved m uid dest progress note q → IsMoved p uid dest progress note q
  moved_from uid dest progress note h =
      let M : Tree → Type 0 = λ x. MovesAt x uid dest progress q.held in
      let A : sorted.BTreeSet Pair → Type 0 = λ x. AreAlike x q.arrivals in
      record { held = subst M held h.held; arrivals = subst A arrivals h.arrivals; notes = h.notes ∙ ap (λ (ns : List JournalLine). ns ++ note ∷ []) notes }
