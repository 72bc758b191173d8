use Rattle.std.proofs.Common.{◌≡◌, ◌↔◌, Bool, IsTrue, refl}
use Rattle.sqlite.specs.Held.{state}
use Rattle.sqlite.specs.Tree.{Trees}
use Rattle.std.specs.FinMap as map
use Rattle.dr_store_schema.specs.Books.{bodies_of, book_of}
use Rattle.dr_ledger.specs.Bodies.{IsNeeded}
use Rattle.dr_store.proofs.Nexts.{needed_told}
use Rattle.dr_store.proofs.Shown.{needs}
use Rattle.dr_store.proofs.Writes.{looked_books, looked_kept, looked_lasting, looked_safe, looked_says}
use Rattle.dr_store.proofs.ledger.SqlLedgerLedger.has_body.Goals as goal

pub invariant_of-self : goal.invariant_of-self
invariant_of-self g c =
    let n = c.args.self.now.next in
    let part = c.args.self.now.site in
    let uid = c.args.uid.now in
    let r = c.has_data_set-answer.result in
    let old = state g.S.Store c.args.self.now.conn in
    let new = state g.S.Store c.has_data_set-answer.new.conn in
    let Shows : Trees → Bool → Type 0 = λ base there. there ≡ map.contains_key (bodies_of base) uid in
    record {
      idle = c.has_data_set-answer.ensures.idle c.args.self.now.idle;
      kept = λ clean. looked_kept n part r old new Shows (c.args.self.now.kept clean) (c.has_data_set-answer.ensures.looked n part);
    }

-- by hand: the search loses itself in what the trait asks
pub returns : goal.returns
returns g c =
    let n = c.args.self.now.next in
    let part = c.args.self.now.site in
    let uid = c.args.uid.now in
    let r = c.has_data_set-answer.result in
    let old = state g.S.Store c.args.self.now.conn in
    let new = state g.S.Store c.has_data_set-answer.new.conn in
    let Shows : Trees → Bool → Type 0 = λ base there. there ≡ map.contains_key (bodies_of base) uid in
    let kept = c.args.self.now.kept in
    let looked = (c.has_data_set-answer.ensures.looked n part) in
    record {
      reply = λ safe. looked_says n part r old new Shows (kept safe.1) looked (λ needed. IsTrue needed ↔ IsNeeded (book_of old.committed.trees) uid)
          (λ k there shown. needed_told old.committed.trees uid there k.kept.ledger.bodied shown) (needs (book_of old.committed.trees) uid) safe.0;
      same = λ safe. looked_books n part r old new Shows (kept safe.1) looked g.P.LedgerPast.all_lines (g.B.Shelf.read_of c.args.self.now.shelf) safe.0;
      counts = c.counted-self.ensures.counts;
      armed = refl;
      stood = λ safe. (looked_safe n part r old new Shows (kept safe.1) looked safe.0, safe.1);
      lasts = looked_lasting n part r old new Shows (g.B.Shelf.is_clean c.args.self.now.shelf × g.P.LedgerPast.is_clean c.args.self.now.past) kept looked;
      site = refl;
    }
