use Rattle.std.proofs.Common.{◌≡◌, length, Ok, refl}
use Rattle.std.proofs.Math.Logic.{∥∥₁_map}
use Rattle.std.specs.Coded.{coded_ℕ}
use Rattle.sqlite.specs.Held.{state}
use Rattle.dr_store.specs.Pasts.{whole_book}
use Rattle.dr_store.proofs.Stable.{by_code}
use Rattle.dr_store.proofs.Unreadables.{counted_so}
use Rattle.dr_store.proofs.Wholes.{all_before}
use Rattle.dr_store.proofs.ledger.SqlLedgerViews.line_count.Goals as goal

-- by hand: the search loses itself in what the trait asks
pub returns : goal.returns
returns g c =
    let l = c.args.self.now in
    let all = g.P.LedgerPast.all_lines in
    let seal = g.P.LedgerPast.reach l.past in
    let base = (state g.S.Store l.conn).committed.trees in
    let count = c.lines_before.result in
    record {
      reply = λ safe. by_code coded_ℕ count (length (whole_book all base).lines)
          (∥∥₁_map (l.kept safe.1 safe.0) (λ k. all_before all seal l.next count l.site base k.kept.ledger c.lines_before.ensures));
      same = λ safe. (refl, refl);
      counts = counted_so (Ok count) l.failures l.failures refl (λ stored. let f : ⊥ = cc in f);
      armed = refl;
      stood = λ safe. safe;
      lasts = record { trusted = λ trusts. trusts; lasts = λ trusts stands. stands };
      site = refl;
    }
