use Rattle.std.proofs.Common.{Option, refl, ◌∙◌, subst, sym}
use Rattle.std.proofs.Math.Logic.{∥∥₁_map}
use Rattle.sqlite.specs.Held.{state}
use Rattle.sqlite.specs.Tree.{Trees}
use Rattle.dr_ledger.specs.declared.content.NextRow.{NextRow}
use Rattle.dr_ledger.specs.Bodies.{NextsWith}
use Rattle.dr_ledger.specs.SiteRoutes.{site_routing}
use Rattle.dr_ledger_past.proofs.Alike.{answers_alike}
use Rattle.dr_store_past.specs.Lines.{past_in}
use Rattle.dr_store_schema.specs.Books.{book_of}
use Rattle.dr_store_calls.specs.Calling.{IsSafe}
use Rattle.dr_store.specs.Owning.{KeepsOwn, bodies_with}
use Rattle.dr_store.specs.Pasts.{past_of, whole_book}
use Rattle.dr_store.specs.Reading.{NextsRead}
use Rattle.dr_store.proofs.Nexts.{next_of}
use Rattle.dr_store.proofs.Owns.{same_bodies}
use Rattle.dr_store.proofs.Sets.{coded_bodies}
use Rattle.dr_store.proofs.Shown.{nexts}
use Rattle.dr_store.proofs.Stable.{by_code}
use Rattle.dr_store.proofs.Writes.{looked_books, looked_kept_by, looked_lasting_by, looked_safe, looked_says}
use Rattle.dr_store.proofs.ledger.SqlLedgerLedger.next.Goals as goal

pub invariant_of-self : goal.invariant_of-self
invariant_of-self g c =
    let n = c.args.self.now.next in
    let part = c.args.self.now.site in
    let dest = c.args.dest.now in
    let now = c.args.now in
    let r = c.next_job-answer.result in
    let old = state g.S.Store c.args.self.now.conn in
    let new = state g.S.Store c.next_job-answer.new.conn in
    let was = c.args.self.now.shelf in
    let shelf = c.next_job-answer.new.shelf in
    let Shows : Trees → Option NextRow → Type 0 = λ base row. g.B.Shelf.is_clean shelf → NextsRead (g.B.Shelf.uses was) (g.B.Shelf.read_of was) base dest now row in
    record {
      idle = c.next_job-answer.ensures.idle c.args.self.now.idle;
      kept = λ clean. subst (λ places. IsSafe new → ∥ KeepsOwn (past_in g.P.LedgerPast.all_lines (g.P.LedgerPast.reach c.args.self.now.past)) (g.B.Shelf.uses shelf) (g.B.Shelf.apart places) n part new ∥₁) (sym c.next_job-answer.ensures.named) (looked_kept_by n part r old new Shows (c.args.self.now.kept (c.next_job-answer.ensures.clean clean.0, clean.1)) (c.next_job-answer.ensures.looked n part) (g.B.Shelf.uses shelf) (λ own. record { used = λ uid cell h. (c.next_job-answer.ensures.keeps cell (own.used uid cell h)).0; apart = own.apart }));
    }

-- by hand: the search loses itself in what the trait asks
pub returns : goal.returns
returns g c =
    let n = c.args.self.now.next in
    let part = c.args.self.now.site in
    let dest = c.args.dest.now in
    let now = c.args.now in
    let r = c.next_job-answer.result in
    let old = state g.S.Store c.args.self.now.conn in
    let new = state g.S.Store c.next_job-answer.new.conn in
    let was = c.args.self.now.shelf in
    let shelf = c.next_job-answer.new.shelf in
    let was_of = g.B.Shelf.read_of was in
    let read_of = g.B.Shelf.read_of shelf in
    let Shows : Trees → Option NextRow → Type 0 = λ base row. g.B.Shelf.is_clean shelf → NextsRead (g.B.Shelf.uses was) was_of base dest now row in
    let kept = c.args.self.now.kept in
    let looked = c.next_job-answer.ensures.looked n part in
    let Was : Type 0 = g.B.Shelf.is_clean was × g.P.LedgerPast.is_clean c.args.self.now.past in
    let Is : Type 0 = g.B.Shelf.is_clean shelf × g.P.LedgerPast.is_clean c.args.self.now.past in
    let clean : Is → Was = λ is. (c.next_job-answer.ensures.clean is.0, is.1) in
    let base = old.committed.trees in
    let all = g.P.LedgerPast.all_lines in
    record {
      reply = λ safe. looked_says n part r old new Shows (kept (clean safe.1)) looked (NextsWith (whole_book all base) (bodies_with was_of base) dest now)
          (λ k row read. ((answers_alike (site_routing part)).next (bodies_with was_of base) dest now row (past_of all base) (book_of base)).1 (next_of (g.B.Shelf.uses was) was_of base dest now k.kept.ledger.bodied k.own.used row (read safe.1.0)))
          (nexts (whole_book all base) (bodies_with was_of base) dest now) safe.0;
      same = λ safe.
          let books = looked_books n part r old new Shows (kept (clean safe.1)) looked all read_of safe.0 in (
            books.0,
            books.1 ∙ by_code coded_bodies (bodies_with read_of old.committed.trees) (bodies_with was_of old.committed.trees)
                (∥∥₁_map (kept (clean safe.1) (looked_safe n part r old new Shows (kept (clean safe.1)) looked safe.0)) (λ k. same_bodies {Used = g.B.Shelf.uses was} {was_of = was_of} {read_of = read_of} (c.next_job-answer.ensures.reads safe.1.0) old.committed.trees k.own.used)),
          );
      counts = c.counted-self.ensures.counts;
      armed = refl;
      stood = λ safe. (looked_safe n part r old new Shows (kept (clean safe.1)) looked safe.0, clean safe.1);
      lasts = looked_lasting_by n part r old new Shows Was Is clean kept looked;
      site = refl;
    }
