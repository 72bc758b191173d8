use Rattle.std.proofs.Common.{Bool, ◌∙◌, subst, sym}
use Rattle.std.proofs.Math.Logic.{∥∥₁_map}
use Rattle.sqlite.specs.Held.{state}
use Rattle.sqlite.specs.Tree.{Trees}
use Rattle.dr_store_past.specs.Lines.{past_in}
use Rattle.dr_store_calls.specs.Calling.{IsSafe}
use Rattle.dr_store.specs.Owning.{KeepsOwn, bodies_with}
use Rattle.dr_store.specs.Reading.{IsToldOf, TellsWhereNeeded}
use Rattle.dr_store.proofs.Nexts.{told_where_needed}
use Rattle.dr_store.proofs.Owns.{same_bodies}
use Rattle.dr_store.proofs.Sets.{coded_bodies}
use Rattle.dr_store.proofs.Shown.{tells_where_needed}
use Rattle.dr_store.proofs.Stable.{by_code}
use Rattle.dr_store.proofs.Writes.{looked_books, looked_kept_by, looked_lasting_by, looked_safe, looked_says}
use Rattle.dr_store.proofs.ledger.SqlLedger.can_read.Goals as goal

pub invariant_of-self : goal.invariant_of-self
invariant_of-self g c =
    let n = c.args.self.now.next in
    let part = c.args.self.now.site in
    let uid = c.args.uid.now in
    let r = c.read_row-answer.result in
    let old = state g.S.Store c.args.self.now.conn in
    let new = state g.S.Store c.read_row-answer.new.conn in
    let was = c.args.self.now.shelf in
    let shelf = c.read_row-answer.new.shelf in
    let Shows : Trees → Bool → Type 0 = λ base told. g.B.Shelf.is_clean shelf → IsToldOf (g.B.Shelf.uses was) (g.B.Shelf.read_of was) base uid told in
    record {
      idle = c.read_row-answer.ensures.idle c.args.self.now.idle;
      kept = λ clean. subst (λ places. IsSafe new → ∥ KeepsOwn (past_in g.P.LedgerPast.all_lines (g.P.LedgerPast.reach c.args.self.now.past)) (g.B.Shelf.uses shelf) (g.B.Shelf.apart places) n part new ∥₁) (sym c.read_row-answer.ensures.named) (looked_kept_by n part r old new Shows (c.args.self.now.kept (c.read_row-answer.ensures.clean clean.0, clean.1)) (c.read_row-answer.ensures.looked n part) (g.B.Shelf.uses shelf) (λ own. record { used = λ uid cell h. (c.read_row-answer.ensures.keeps cell (own.used uid cell h)).0; apart = own.apart }));
    }

pub returns-clause-reply : goal.returns-clause-reply
returns-clause-reply g c clean safe =
    let n = c.args.self.now.next in
    let part = c.args.self.now.site in
    let uid = c.args.uid.now in
    let r = c.read_row-answer.result in
    let old = state g.S.Store c.args.self.now.conn in
    let new = state g.S.Store c.read_row-answer.new.conn in
    let was = c.args.self.now.shelf in
    let shelf = c.read_row-answer.new.shelf in
    let was_of = g.B.Shelf.read_of was in
    let Shows : Trees → Bool → Type 0 = λ base told. g.B.Shelf.is_clean shelf → IsToldOf (g.B.Shelf.uses was) was_of base uid told in
    looked_says n part r old new Shows (c.args.self.now.kept (c.read_row-answer.ensures.clean clean.0, clean.1)) (c.read_row-answer.ensures.looked n part) (TellsWhereNeeded was_of old.committed.trees uid)
    (λ k told shown. told_where_needed (g.B.Shelf.uses was) was_of old.committed.trees uid k.kept.ledger.bodied k.own.used told (shown clean.0)) (tells_where_needed was_of old.committed.trees uid) safe

pub returns-clause-leaves : goal.returns-clause-leaves
returns-clause-leaves g c =
    let n = c.args.self.now.next in
    let part = c.args.self.now.site in
    let uid = c.args.uid.now in
    let r = c.read_row-answer.result in
    let old = state g.S.Store c.args.self.now.conn in
    let new = state g.S.Store c.read_row-answer.new.conn in
    let was = c.args.self.now.shelf in
    let shelf = c.read_row-answer.new.shelf in
    let was_of = g.B.Shelf.read_of was in
    let read_of = g.B.Shelf.read_of shelf in
    let Shows : Trees → Bool → Type 0 = λ base told. g.B.Shelf.is_clean shelf → IsToldOf (g.B.Shelf.uses was) was_of base uid told in
    let kept = c.args.self.now.kept in
    let looked = c.read_row-answer.ensures.looked n part in
    let Was : Type 0 = g.B.Shelf.is_clean was × g.P.LedgerPast.is_clean c.args.self.now.past in
    let Is : Type 0 = g.B.Shelf.is_clean shelf × g.P.LedgerPast.is_clean c.args.self.now.past in
    let clean : Is → Was = λ is. (c.read_row-answer.ensures.clean is.0, is.1) in
    record {
      same = λ is safe.
          let books = looked_books n part r old new Shows (kept (clean is)) looked g.P.LedgerPast.all_lines read_of safe in (
            books.0,
            books.1 ∙ by_code coded_bodies (bodies_with read_of old.committed.trees) (bodies_with was_of old.committed.trees)
                (∥∥₁_map (kept (clean is) (looked_safe n part r old new Shows (kept (clean is)) looked safe)) (λ k. same_bodies {Used = g.B.Shelf.uses was} {was_of = was_of} {read_of = read_of} (c.read_row-answer.ensures.reads is.0) old.committed.trees k.own.used)),
          );
      stood = λ is safe. (looked_safe n part r old new Shows (kept (clean is)) looked safe, clean is);
      lasts = looked_lasting_by n part r old new Shows Was Is clean kept looked;
      counts = c.counted-self.ensures.counts;
    }
