use Rattle.std.proofs.Common.{◌≡◌, ◌++◌, ◌-◌, ◌<◌, ◌≤◌, ◌^◌, ℕ, List, drop, take, max, map as mapped, sym, subst, ap, arith, ◌∙◌}
use Rattle.sqlite.specs.Held.{state}
use Rattle.sqlite.specs.Tree.{Trees}
use Rattle.dr_ledger_history.specs.Lines.{line_of, lines_of}
use Rattle.dr_ledger_history.specs.declared.line.JournalLine.{JournalLine}
use Rattle.dr_ledger_views.specs.Numbers.{counted, last_of, lines_within}
use Rattle.dr_ledger_views.proofs.Numbered.{last_fits}
use Rattle.dr_store_sealed.specs.declared.seal.Seal.{Seal}
use Rattle.dr_store_past.specs.Lines.{past_in}
use Rattle.dr_store_calls.proofs.Reading.{reads_as}
use Rattle.dr_store_views.specs.Spans.{numbered_of}
use Rattle.dr_store.specs.Pasts.{AreBothWithin}
use Rattle.dr_store.proofs.Looks.{failed_as, looked_more}
use Rattle.dr_store.proofs.Numbered.{room_is}
use Rattle.dr_store.proofs.telling.tell_behind.Goals as goal

pub tell_within-requires : goal.tell_within-requires
tell_within-requires g c = subst (λ (n : ℕ). n < 2 ^ 63) (sym c.last_behind-last.ensures) (last_fits c.args.after c.args.limit)

pub returns-in-Ok-clause-looked : goal.returns-in-Ok-clause-looked
returns-in-Ok-clause-looked g c n part =
    let after = c.args.after in
    let limit = c.args.limit in
    let all = g.P.LedgerPast.all_lines in
    let seal = g.P.LedgerPast.reach c.args.past.now in
    let past = past_in all seal in
    let from = c.max-from.result in
    let last = c.last_behind-last.result in
    let old = state g.S.Store c.args.conn.now in
    let new = state g.S.Store c.tell_within.new.conn in
    let r = c.tell_before.result in
    let own = lines_of c.in-Ok.own in
    let Clean : Type 0 = g.P.LedgerPast.is_clean c.tell_before.new.past in
    let Shows : Trees → List JournalLine → Type 0 = λ base own. counted from (mapped line_of own) ≡ lines_within from last (numbered_of base) in
    let Says : Trees → List JournalLine → Type 0 = λ base told. Clean → AreBothWithin past seal.count after (last_of after limit) base (lines_of told) in
    let from_is : from ≡ max after seal.count = c.max-from.ensures ∙ ap (λ (s : Seal). max after s.count) c.seal.ensures in
    let many : c.room.result ≡ last_of after limit - after = c.room.ensures ∙ room_is after limit last c.last_behind-last.ensures in
    looked_more n part old new Shows c.in-Ok.own r Says (c.in-Ok.ensures.looked n part)
    (λ base p l shown. reads_as r (λ (told : List JournalLine). Clean → lines_of told ≡ take c.room.result (drop after past) ++ own) (Says base)
    (λ told is clean. record {
      own = own;
      are = is clean ∙ ap (λ (k : ℕ). take k (drop after past) ++ own) many;
      told =
          subst (λ (k : ℕ). counted k own ≡ lines_within k (last_of after limit) (numbered_of base)) from_is
          (subst (λ (k : ℕ). counted from own ≡ lines_within from k (numbered_of base)) c.last_behind-last.ensures shown);
    }) c.tell_before.ensures.told)

pub returns-in-Err-clause-looked : goal.returns-in-Err-clause-looked
returns-in-Err-clause-looked g c n part =
    let after = c.args.after in
    let seal = g.P.LedgerPast.reach c.args.past.now in
    let past = past_in g.P.LedgerPast.all_lines seal in
    let from = c.max-from.result in
    let last = c.last_behind-last.result in
    let old = state g.S.Store c.args.conn.now in
    let new = state g.S.Store c.tell_within.new.conn in
    let Shows : Trees → List JournalLine → Type 0 = λ base own. counted from (mapped line_of own) ≡ lines_within from last (numbered_of base) in
    let Says : Trees → List JournalLine → Type 0 = λ base told. g.P.LedgerPast.is_clean c.args.past.now → AreBothWithin past seal.count after (last_of after c.args.limit) base (lines_of told) in
    failed_as n part c.in-Err.fault old new Shows Says (c.in-Err.ensures.looked n part)
