use Rattle.std.proofs.Common.{◌≡◌, ◌+◌, List, ℕ, Ok, Option, Some, sym, subst}
use Rattle.sqlite.specs.Held.{state}
use Rattle.sqlite.specs.State.{HasCleanDisk}
use Rattle.sqlite.specs.Tree.{Trees}
use Rattle.dr_ledger.specs.Bodies.{OnlyTakes}
use Rattle.dr_ledger.specs.Items.{instance_of}
use Rattle.dr_ledger.specs.Replies.{Arrives}
use Rattle.dr_ledger.specs.SiteRoutes.{site_routing}
use Rattle.dr_ledger_past.proofs.Alike.{arrives_alike}
use Rattle.dr_store_past.specs.Lines.{past_in}
use Rattle.dr_store_calls.specs.Calling.{IsSafe, advanced}
use Rattle.dr_store_calls.specs.Knowing.{IsAccepted}
use Rattle.dr_store_calls.specs.Shelving.{AcceptsItem, AnswersTo, IsPut}
use Rattle.dr_store.specs.Owning.{IsCovered, KeepsOwn, LosesNoneOf, Survives, bodies_with}
use Rattle.dr_store.proofs.Owns.{arrived, arrived_only, if_failed, left_by_arrival, loses_none, stood_read, survives}
use Rattle.dr_store.proofs.Replies.{arrives, loses, takes}
use Rattle.dr_store.proofs.Stable.{three}
use Rattle.dr_store.specs.Surviving.{MakesLedger}
use Rattle.dr_store.specs.Pasts.{whole_book}
use Rattle.dr_store.proofs.Wholes.{wholly}
use Rattle.dr_store.proofs.Writes.{answering, called, called_whole, covered, still_kept, wrote}
use Rattle.dr_store.proofs.ledger.SqlLedger.arrive_in.Goals as goal

pub invariant_of-self : goal.invariant_of-self
invariant_of-self g c = record {
  idle = c.arrive-answer.ensures.idle;
  kept = λ clean. still clean;
}
  where
    still : g.B.Shelf.is_clean c.arrive-answer.new.shelf × g.P.LedgerPast.is_clean c.args.self.now.past → IsSafe (state g.S.Store c.arrive-answer.new.conn)
        → ∥ KeepsOwn (past_in g.P.LedgerPast.all_lines (g.P.LedgerPast.reach c.args.self.now.past)) (g.B.Shelf.uses c.arrive-answer.new.shelf) (g.B.Shelf.apart (g.B.Shelf.named c.arrive-answer.new.shelf)) c.next_after-self.result c.args.self.now.site (state g.S.Store c.arrive-answer.new.conn) ∥₁
    still clean =
        let n = c.args.self.now.next in
        let part = c.args.self.now.site in
        let all = g.P.LedgerPast.all_lines in
        let seal = g.P.LedgerPast.reach c.args.self.now.past in
        let past = past_in all seal in
        let caller = c.args.caller.now in
        let item = c.args.item in
        let r = c.arrive-answer.result in
        let old = state g.S.Store c.args.self.now.conn in
        let new = state g.S.Store c.arrive-answer.new.conn in
        let base = old.committed.trees in
        let later = new.committed.trees in
        let was = c.args.self.now.shelf in
        let shelf = c.arrive-answer.new.shelf in
        let Apart = g.B.Shelf.apart (g.B.Shelf.named was) in
        let Used = g.B.Shelf.uses was in
        let Stood = g.B.Shelf.stands was in
        let Uses = g.B.Shelf.uses shelf in
        let Stands = g.B.Shelf.stands shelf in
        let was_of = g.B.Shelf.read_of was in
        let read_of = g.B.Shelf.read_of shelf in
        let Same : Type 0 = shelf ≡ was in
        let Comes : List ℕ → Option (List ℕ) → Type 0 = IsPut Same Used Uses Stands Apart in
        let Cells : Trees → Trees → Type 0 = AnswersTo Comes part caller item r in
        let Makes : Trees → Trees → Type 0 = AcceptsItem Comes part caller item in
        let done = called past Used Apart n (advanced r n) part r old new Cells Makes c.arrive-answer.ensures.called in
        let kept = c.args.self.now.kept (c.arrive-answer.ensures.clean clean.0, clean.1) in
        let keeps = c.arrive-answer.ensures.keeps in
        let alike = c.arrive-answer.ensures.reads clean.0 in
        let swaps = g.B.Shelf.swaps (g.B.Shelf.named was) in
        let stood : (cell bytes : List ℕ) → Stands cell bytes → read_of cell ≡ Some bytes =
        λ cell bytes stands. stood_read (g.B.Shelf.passes shelf cell) (read_of cell) (g.B.Shelf.body_of shelf cell) bytes (g.B.Shelf.reads shelf cell) (g.B.Shelf.only shelf cell bytes stands) (g.B.Shelf.passed shelf cell bytes stands) in
        subst (λ m. IsSafe new → ∥ KeepsOwn past Uses (g.B.Shelf.apart (g.B.Shelf.named shelf)) m part new ∥₁) (sym c.next_after-self.ensures)
        (subst (λ places. IsSafe new → ∥ KeepsOwn past Uses (g.B.Shelf.apart places) (advanced r n) part new ∥₁) (sym c.arrive-answer.ensures.named)
        (still_kept n (advanced r n) part part r old new Cells Makes kept done Uses
        (λ k it own. (arrived {Used = Used} {Stood = Stood} {Uses = Uses} {Stands = Stands} {Apart = Apart} {was_of = was_of} {read_of = read_of} keeps alike stood swaps Same part caller item base later r it own).own)))

pub returns-clause-wrote : goal.returns-clause-wrote
returns-clause-wrote g c clean =
    let n = c.args.self.now.next in
    let part = c.args.self.now.site in
    let all = g.P.LedgerPast.all_lines in
    let seal = g.P.LedgerPast.reach c.args.self.now.past in
    let past = past_in all seal in
    let caller = c.args.caller.now in
    let item = c.args.item in
    let r = c.arrive-answer.result in
    let old = state g.S.Store c.args.self.now.conn in
    let new = state g.S.Store c.arrive-answer.new.conn in
    let base = old.committed.trees in
    let later = new.committed.trees in
    let was = c.args.self.now.shelf in
    let shelf = c.arrive-answer.new.shelf in
    let Apart = g.B.Shelf.apart (g.B.Shelf.named was) in
    let Used = g.B.Shelf.uses was in
    let Stood = g.B.Shelf.stands was in
    let Uses = g.B.Shelf.uses shelf in
    let Stands = g.B.Shelf.stands shelf in
    let was_of = g.B.Shelf.read_of was in
    let read_of = g.B.Shelf.read_of shelf in
    let Same : Type 0 = shelf ≡ was in
    let Comes : List ℕ → Option (List ℕ) → Type 0 = IsPut Same Used Uses Stands Apart in
    let Cells : Trees → Trees → Type 0 = AnswersTo Comes part caller item r in
    let Makes : Trees → Trees → Type 0 = AcceptsItem Comes part caller item in
    let kept = c.args.self.now.kept (c.arrive-answer.ensures.clean clean.0, clean.1) in
    let keeps = c.arrive-answer.ensures.keeps in
    let alike = c.arrive-answer.ensures.reads clean.0 in
    let swaps = g.B.Shelf.swaps (g.B.Shelf.named was) in
    let stood : (cell bytes : List ℕ) → Stands cell bytes → read_of cell ≡ Some bytes =
    λ cell bytes stands. stood_read (g.B.Shelf.passes shelf cell) (read_of cell) (g.B.Shelf.body_of shelf cell) bytes (g.B.Shelf.reads shelf cell) (g.B.Shelf.only shelf cell bytes stands) (g.B.Shelf.passed shelf cell bytes stands) in
    let Answers : Trees → Trees → Type 0 = λ base db. Arrives (site_routing part) caller (instance_of item) (whole_book all base) r (whole_book all db) × OnlyTakes item (bodies_with was_of base) (bodies_with read_of db) × LosesNoneOf was_of read_of base db in
    let Less : Trees → Trees → Type 0 = λ base db. IsAccepted part caller (instance_of item) (whole_book all base) (whole_book all db) in
    let done =
    called_whole all seal Used Apart n (advanced r n) part r old new Cells Makes Less
    (λ db had has it. wholly all seal n (n + 1) part part base db had has (λ b c. IsAccepted part caller (instance_of item) b c) (λ p b c it. (it.0, (arrives_alike (site_routing part) caller (instance_of item) (Ok it.0) p b c).1 it.1)) it.0) c.arrive-answer.ensures.called in
    let told =
    answering past Used Apart n (advanced r n) part part r old new Cells Answers (MakesLedger all part Less)
    (λ had has own it. (
      wholly all seal n (advanced r n) part part base later had has (λ b c. Arrives (site_routing part) caller (instance_of item) b r c) (λ p b c. (arrives_alike (site_routing part) caller (instance_of item) r p b c).1) it.0,
      arrived_only {Used = Used} {Stood = Stood} {Uses = Uses} {Stands = Stands} {Apart = Apart} {was_of = was_of} {read_of = read_of} keeps alike stood swaps Same part caller item base later r it own,
      loses_none was_of read_of base later had.bodied has.bodied (arrived {Used = Used} {Stood = Stood} {Uses = Uses} {Stands = Stands} {Apart = Apart} {was_of = was_of} {read_of = read_of} keeps alike stood swaps Same part caller item base later r it own).none_lost,
    )) done in
    wrote n (advanced r n) part part r old new Answers (MakesLedger all part Less) kept told
    (λ db is_open left. g.met.S.Store.settled c.args.self.now.conn.store db is_open left)
    (λ db is_open left. g.met.S.Store.settled c.arrive-answer.new.conn.store db is_open left)
    (three (arrives part caller (instance_of item) (whole_book all base) r (whole_book all later)) (takes item (bodies_with was_of base) (bodies_with read_of later)) (loses (whole_book all base) (bodies_with was_of base) (whole_book all later) (bodies_with read_of later)))

pub returns-clause-covered : goal.returns-clause-covered
returns-clause-covered g c clean =
    let n = c.args.self.now.next in
    let part = c.args.self.now.site in
    let all = g.P.LedgerPast.all_lines in
    let seal = g.P.LedgerPast.reach c.args.self.now.past in
    let past = past_in all seal in
    let caller = c.args.caller.now in
    let item = c.args.item in
    let r = c.arrive-answer.result in
    let old = state g.S.Store c.args.self.now.conn in
    let new = state g.S.Store c.arrive-answer.new.conn in
    let base = old.committed.trees in
    let later = new.committed.trees in
    let was = c.args.self.now.shelf in
    let shelf = c.arrive-answer.new.shelf in
    let Apart = g.B.Shelf.apart (g.B.Shelf.named was) in
    let Used = g.B.Shelf.uses was in
    let Stood = g.B.Shelf.stands was in
    let Uses = g.B.Shelf.uses shelf in
    let Stands = g.B.Shelf.stands shelf in
    let was_of = g.B.Shelf.read_of was in
    let read_of = g.B.Shelf.read_of shelf in
    let Same : Type 0 = shelf ≡ was in
    let Comes : List ℕ → Option (List ℕ) → Type 0 = IsPut Same Used Uses Stands Apart in
    let Cells : Trees → Trees → Type 0 = AnswersTo Comes part caller item r in
    let Makes : Trees → Trees → Type 0 = AcceptsItem Comes part caller item in
    let done = called past Used Apart n (advanced r n) part r old new Cells Makes c.arrive-answer.ensures.called in
    let kept = c.args.self.now.kept (c.arrive-answer.ensures.clean clean.0, clean.1) in
    let keeps = c.arrive-answer.ensures.keeps in
    let alike = c.arrive-answer.ensures.reads clean.0 in
    let swaps = g.B.Shelf.swaps (g.B.Shelf.named was) in
    let stood : (cell bytes : List ℕ) → Stands cell bytes → read_of cell ≡ Some bytes =
    λ cell bytes stands. stood_read (g.B.Shelf.passes shelf cell) (read_of cell) (g.B.Shelf.body_of shelf cell) bytes (g.B.Shelf.reads shelf cell) (g.B.Shelf.only shelf cell bytes stands) (g.B.Shelf.passed shelf cell bytes stands) in
    subst (λ places. HasCleanDisk new → IsSafe old → IsCovered Uses Stands (g.B.Shelf.apart places) was_of read_of base new.may_leave) (sym c.arrive-answer.ensures.named)
    (covered n (advanced r n) part part r old new Cells Makes kept done
    (λ db is_open left. g.met.S.Store.settled c.args.self.now.conn.store db is_open left)
    (λ db is_open left. g.met.S.Store.settled c.arrive-answer.new.conn.store db is_open left)
    (Survives Uses Stands Apart was_of read_of base)
    (λ k it own. survives was_of read_of base later (λ cell bytes used is. g.B.Shelf.held shelf cell bytes clean.0 used is) (arrived {Used = Used} {Stood = Stood} {Uses = Uses} {Stands = Stands} {Apart = Apart} {was_of = was_of} {read_of = read_of} keeps alike stood swaps Same part caller item base later r it own))
    (if_failed r (λ k own db may. survives was_of read_of base db (λ cell bytes used is. g.B.Shelf.held shelf cell bytes clean.0 used is) (left_by_arrival {Used = Used} {Stood = Stood} {Uses = Uses} {Stands = Stands} {Apart = Apart} {was_of = was_of} {read_of = read_of} keeps alike stood swaps Same part caller item base db may own))))

pub returns-clause-clean : goal.returns-clause-clean
returns-clause-clean g c clean = (c.arrive-answer.ensures.clean clean.0, clean.1)
