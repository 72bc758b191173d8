use Rattle.std.proofs.Common.{◌≡◌, refl, sym, subst, ap}
use Rattle.sqlite.specs.Held.{state}
use Rattle.sqlite.specs.Tree.{Trees}
use Rattle.sqlite_trees.specs.Props.{Trees-set}
use Rattle.dr_ledger.specs.Items.{instance_of}
use Rattle.dr_ledger.specs.Replies.{Admits}
use Rattle.dr_ledger.specs.SiteRoutes.{site_routing}
use Rattle.dr_ledger_past.proofs.Alike.{answers_alike}
use Rattle.dr_store_past.specs.Lines.{past_in}
use Rattle.dr_store_schema.specs.Books.{book_of}
use Rattle.dr_store_calls.specs.Calling.{IsSafe}
use Rattle.dr_store.specs.Owning.{HaveOwn, bodies_with}
use Rattle.dr_store.specs.Pasts.{past_of, whole_book}
use Rattle.dr_store.proofs.Replies.{admits}
use Rattle.dr_store.proofs.Stable.{both, of_prop}
use Rattle.dr_store.proofs.Writes.{answered, called, lasting, still_kept, was_safe, with_shelf}
use Rattle.dr_store.proofs.ledger.SqlLedgerLedger.admits.Goals as goal

pub invariant_of-self : goal.invariant_of-self
invariant_of-self g c =
    let n = c.args.self.now.next in
    let part = c.args.self.now.site in
    let caller = c.args.caller.now in
    let item = instance_of c.args.item.now in
    let r = c.admit-answer.result in
    let old = state g.S.Store c.args.self.now.conn in
    let new = state g.S.Store c.admit-answer.new.conn in
    let Answers : Trees → Trees → Type 0 = λ base db. (db ≡ base) × Admits (site_routing part) caller item (book_of base) r in
    let None : Trees → Trees → Type 0 = λ base db. ⊥ in
    let done = called (past_in g.P.LedgerPast.all_lines (g.P.LedgerPast.reach c.args.self.now.past)) (g.B.Shelf.uses c.args.self.now.shelf) (g.B.Shelf.apart (g.B.Shelf.named c.args.self.now.shelf)) n n part r old new Answers None (c.admit-answer.ensures.called n) in
    let kept = c.args.self.now.kept in
    record { idle = c.admit-answer.ensures.idle c.args.self.now.idle; kept = λ clean. still_kept n n part part r old new Answers None (kept clean) done (g.B.Shelf.uses c.args.self.now.shelf) (λ k it own. subst (HaveOwn (g.B.Shelf.uses c.args.self.now.shelf) (g.B.Shelf.apart (g.B.Shelf.named c.args.self.now.shelf))) (sym it.0) own) }

-- by hand: the search loses itself in what the trait asks
pub returns : goal.returns
returns g c =
    let n = c.args.self.now.next in
    let part = c.args.self.now.site in
    let caller = c.args.caller.now in
    let item = instance_of c.args.item.now in
    let r = c.admit-answer.result in
    let old = state g.S.Store c.args.self.now.conn in
    let new = state g.S.Store c.admit-answer.new.conn in
    let Answers : Trees → Trees → Type 0 = λ base db. (db ≡ base) × Admits (site_routing part) caller item (book_of base) r in
    let None : Trees → Trees → Type 0 = λ base db. ⊥ in
    let done = called (past_in g.P.LedgerPast.all_lines (g.P.LedgerPast.reach c.args.self.now.past)) (g.B.Shelf.uses c.args.self.now.shelf) (g.B.Shelf.apart (g.B.Shelf.named c.args.self.now.shelf)) n n part r old new Answers None (c.admit-answer.ensures.called n) in
    let kept = c.args.self.now.kept in
    let Clean : Type 0 = g.B.Shelf.is_clean c.args.self.now.shelf × g.P.LedgerPast.is_clean c.args.self.now.past in
    let base = old.committed.trees in
    let all = g.P.LedgerPast.all_lines in
    let told : Clean → IsSafe new → Answers old.committed.trees new.committed.trees = λ clean. answered n n part part r old new Answers None (kept clean) done (both (of_prop (Trees-set _ _)) (admits part caller item (book_of old.committed.trees) r)) in
    record {
      reply = λ safe. ((answers_alike (site_routing part)).admits caller item r (past_of all base) (book_of base)).1 (told safe.1 safe.0).1;
      same = λ safe. (ap (whole_book all) (told safe.1 safe.0).0, ap (bodies_with (g.B.Shelf.read_of c.args.self.now.shelf)) (told safe.1 safe.0).0);
      counts = c.counted-self.ensures.counts;
      armed = refl;
      stood = λ safe. (was_safe n n part part r old new Answers None (kept safe.1) done safe.0, safe.1);
      lasts = with_shelf r _ _ _ _ _ _ (λ clean. clean) (λ clean. lasting n n part part r old new Answers None (kept clean) done);
      site = refl;
    }
