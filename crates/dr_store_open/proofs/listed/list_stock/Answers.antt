use Rattle.std.proofs.Common.{◌≡◌}
use Rattle.std.specs.FinMap as map
use Rattle.sqlite.specs.Effect.{Database}
use Rattle.sqlite.specs.Held.{state}
use Rattle.dr_ledger.specs.Pairs.{pair_cmp}
use Rattle.dr_ledger.specs.Replies.{Lists}
use Rattle.dr_store_schema.specs.Books.{arrivals_in}
use Rattle.dr_store_lists.specs.Lists.{keys_of, whole_prints_of}
use Rattle.dr_store_reads.proofs.Outcomes.{refused}
use Rattle.dr_store_open.specs.Listed.{IsStockOf}
use Rattle.dr_store_open.proofs.Chains.{of_ledger, then_failed, two_asked}
use Rattle.dr_store_open.proofs.listed.list_stock.Goals as goal

pub returns-in_err-keys : goal.returns-in_err-keys
returns-in_err-keys g c =
    record { asked = refused c.from_residual.ensures (λ has. has.schema) c.in_err-keys.ensures.asked }

pub returns-in_err-prints : goal.returns-in_err-prints
returns-in_err-prints g c =
    let old = state g.S.Store c.args.conn.now in
    let mid = state g.S.Store c.all_keys.new.conn in
    let new = state g.S.Store c.all_prints.new.conn in
    record {
      asked = refused c.from_residual-in_err-prints.ensures (λ has. has)
          (then_failed old mid new c.in_ok-keys.keys
          (λ db all. all.items ≡ map.entries (keys_of db.trees))
          (λ db all. all.items ≡ map.entries (whole_prints_of db.trees))
          (of_ledger old mid _ _ c.in_ok-keys.ensures.asked)
          (of_ledger mid new _ _ c.in_err-prints.ensures.asked));
    }

pub returns-in_err-arrivals : goal.returns-in_err-arrivals
returns-in_err-arrivals g c =
    let old = state g.S.Store c.args.conn.now in
    let one = state g.S.Store c.all_keys.new.conn in
    let mid = state g.S.Store c.all_prints.new.conn in
    let new = state g.S.Store c.all_arrivals.new.conn in
    let keys = c.in_ok-keys.keys in
    let prints = c.in_ok-prints.prints in
    let Two : Database → Unit {0} → Type 0 =
    λ db done. (keys.items ≡ map.entries (keys_of db.trees))
    × (prints.items ≡ map.entries (whole_prints_of db.trees)) in
    record {
      asked = refused c.from_residual-in_err-arrivals.ensures (λ has. has)
          (then_failed old mid new tt Two
          (λ db all. Lists pair_cmp (arrivals_in (db.trees 5)) all.items)
          (two_asked old one mid keys prints tt
          (λ db all. all.items ≡ map.entries (keys_of db.trees))
          (λ db all. all.items ≡ map.entries (whole_prints_of db.trees))
          Two (λ db a b. (a, b))
          (of_ledger old one _ _ c.in_ok-keys.ensures.asked)
          (of_ledger one mid _ _ c.in_ok-prints.ensures.asked))
          (of_ledger mid new _ _ c.in_err-arrivals.ensures.asked));
    }

pub returns : goal.returns
returns g c =
    let old = state g.S.Store c.args.conn.now in
    let one = state g.S.Store c.all_keys.new.conn in
    let mid = state g.S.Store c.all_prints.new.conn in
    let new = state g.S.Store c.all_arrivals.new.conn in
    let keys = c.in_ok-keys.keys in
    let prints = c.in_ok-prints.prints in
    let arrivals = c.in_ok-arrivals.arrivals in
    let Two : Database → Unit {0} → Type 0 =
    λ db done. (keys.items ≡ map.entries (keys_of db.trees))
    × (prints.items ≡ map.entries (whole_prints_of db.trees)) in
    record {
      asked = two_asked old mid new tt arrivals
          (record { keys = keys; prints = prints; arrivals = arrivals }) Two
          (λ db all. Lists pair_cmp (arrivals_in (db.trees 5)) all.items)
          (λ db stock. IsStockOf db.trees stock)
          (λ db both third. record { keys = both.0; prints = both.1; arrivals = third })
          (two_asked old one mid keys prints tt
          (λ db all. all.items ≡ map.entries (keys_of db.trees))
          (λ db all. all.items ≡ map.entries (whole_prints_of db.trees))
          Two (λ db a b. (a, b))
          (of_ledger old one _ _ c.in_ok-keys.ensures.asked)
          (of_ledger one mid _ _ c.in_ok-prints.ensures.asked))
          (of_ledger mid new _ _ c.in_ok-arrivals.ensures.asked);
    }
