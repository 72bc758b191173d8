use Rattle.std.proofs.Common.{◌↔◌, Bool, IsTrue, refl}
use Rattle.sqlite.specs.Held.{state}
use Rattle.sqlite.specs.Tree.{Trees}
use Rattle.dr_ledger.specs.Replies.{IsOver}
use Rattle.dr_ledger_past.proofs.Alike.{over_alike, reads_alike}
use Rattle.dr_store_schema.specs.Books.{book_of}
use Rattle.dr_store.specs.Pasts.{past_of, whole_book}
use Rattle.dr_store.proofs.Replies.{over_told}
use Rattle.dr_store.proofs.Writes.{looked_books, looked_kept, looked_lasting, looked_reads, looked_safe}
use Rattle.dr_store.proofs.ledger.SqlLedgerLetsGo.is_over.Goals as goal

pub invariant_of-self : goal.invariant_of-self
invariant_of-self g c =
    let n = c.args.self.now.next in
    let part = c.args.self.now.site in
    let uid = c.args.uid.now in
    let r = c.is_over-answer.result in
    let old = state g.S.Store c.args.self.now.conn in
    let new = state g.S.Store c.is_over-answer.new.conn in
    let Shows : Trees → Bool → Type 0 = λ base over. IsTrue over ↔ IsOver (book_of base) uid in
    record {
      idle = c.is_over-answer.ensures.idle c.args.self.now.idle;
      kept = λ clean. looked_kept n part r old new Shows (c.args.self.now.kept clean) (c.is_over-answer.ensures.looked n part);
    }

-- by hand: the search loses itself in what the trait asks
pub returns : goal.returns
returns g c =
    let n = c.args.self.now.next in
    let part = c.args.self.now.site in
    let uid = c.args.uid.now in
    let r = c.is_over-answer.result in
    let old = state g.S.Store c.args.self.now.conn in
    let new = state g.S.Store c.is_over-answer.new.conn in
    let Shows : Trees → Bool → Type 0 = λ base over. IsTrue over ↔ IsOver (book_of base) uid in
    let kept = c.args.self.now.kept in
    let looked = c.is_over-answer.ensures.looked n part in
    let base = old.committed.trees in
    let all = g.P.LedgerPast.all_lines in
    record {
      reply = λ safe.
          (reads_alike r (λ over. IsTrue over ↔ IsOver (whole_book all base) uid) (Shows base) (λ over.
          let asks = over_alike uid (past_of all base) (book_of base) in (
            λ told. (λ yes. asks.0 (told.0 yes), λ is. told.1 (asks.1 is)),
            λ told. (λ yes. asks.1 (told.0 yes), λ is. told.1 (asks.0 is)),
          ))).1 (looked_reads n part r old new Shows (kept safe.1) looked (λ over. over_told (book_of base) uid over) safe.0);
      same = λ safe. looked_books n part r old new Shows (kept safe.1) looked g.P.LedgerPast.all_lines (g.B.Shelf.read_of c.args.self.now.shelf) safe.0;
      counts = c.counted-self.ensures.counts;
      armed = refl;
      stood = λ safe. (looked_safe n part r old new Shows (kept safe.1) looked safe.0, safe.1);
      lasts = looked_lasting n part r old new Shows (g.B.Shelf.is_clean c.args.self.now.shelf × g.P.LedgerPast.is_clean c.args.self.now.past) kept looked;
      site = refl;
    }
