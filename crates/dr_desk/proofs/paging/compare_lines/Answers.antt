use Rattle.std.proofs.Common.{◌≤◌, ◌<◌, ℕ, List, All, Contains, length, map as mapped, sym, ap, subst, ◌∙◌, arith}
use Rattle.std.specs.List.{AllByRecursion}
use Rattle.std.proofs.lemmas.List.{length-map}
use Rattle.dr_ledger.specs.Books.{Book}
use Rattle.dr_ledger.specs.Replies.{entry_of}
use Rattle.dr_desk.specs.Paging.{IsOfLineWithin}
use Rattle.dr_desk.proofs.Paged.{counted, ends, goes_on, other_line}
use Rattle.dr_desk.proofs.Taken.{both}
use Rattle.dr_desk.proofs.paging.compare_lines.Goals as goal

pub returns-then-next-eq0-clause-fault : goal.returns-then-next-eq0-clause-fault
returns-then-next-eq0-clause-fault g c = λ s. other_line c.other_line.result _ _ _ _ c.other_line.ensures (λ of.
    let lines = (g.L.Ledger.book c.loop-next.ledger).lines in
    let among = subst (λ (ns : List ℕ). Contains ns c.in-Some.next) c.requires.all c.in-Some.ensures.1 in
    let fits = counted (λ p. p.receipts.items) (mapped entry_of lines) c.args.passes.now of c.in-Some.next among in
    let none = c.if-next-eq0.true in omega (arith, fits.0, none))

pub returns-then-next-count-clause-fault : goal.returns-then-next-count-clause-fault
returns-then-next-count-clause-fault g c = λ s. other_line c.other_line-then-next-count.result _ _ _ _ c.other_line-then-next-count.ensures (λ of.
    let same = c.loop-next.invariant.same in
    let lines = (g.L.Ledger.book c.loop-next.ledger).lines in
    let among = subst (λ (ns : List ℕ). Contains ns c.in-Some.next) c.requires.all c.in-Some.ensures.1 in
    let fits = counted (λ p. p.receipts.items) (mapped entry_of lines) c.args.passes.now of c.in-Some.next among in
    let is = c.requires.count (same.stood s) ∙ ap (λ (b : Book). length b.lines) (sym (same.same s)) in
    let long = length-map lines entry_of in
    let beyond = c.if-next-count.true in omega (arith, fits.1, is, long, beyond))

pub loop-next-preserved : goal.loop-next-preserved
loop-next-preserved g c =
    let e = c.in-Ok.ensures in
    let inv = c.loop-next.invariant in
    let passes = c.args.passes.now in
    record {
      same = both g.L.Ledger.site g.L.Ledger.book g.L.Ledger.bodies g.L.Ledger.stands g.L.Ledger.failed c.args.ledger.now c.loop-next.ledger c.compare_page.new.ledger inv.same e.same;
      so_far = λ s. goes_on (λ p. p.receipts.items) (mapped entry_of (g.L.Ledger.book c.compare_page.new.ledger).lines) c.loop-next.from c.in-Some.next c.in-Ok.behind passes
          (subst (λ (ns : List ℕ). All (λ n. c.loop-next.from ≤ n → c.in-Some.next ≤ n) ns) c.requires.all c.in-Some.ensures.2)
          (subst (λ (b : Book). AllByRecursion (λ p. All (IsOfLineWithin 0 c.loop-next.from (mapped entry_of b.lines)) p.receipts.items) passes) (sym (e.same.same s)) (inv.so_far (e.same.stood s)))
          (e.of_lines s);
    }

pub returns-clause-of_lines : goal.returns-clause-of_lines
returns-clause-of_lines g c = λ s. ends (λ p. p.receipts.items) (mapped entry_of (g.L.Ledger.book c.loop-next.ledger).lines) c.loop-next.from c.args.passes.now
    (subst (λ (ns : List ℕ). All (λ n. n < c.loop-next.from) ns) c.requires.all c.in_default.ensures) (c.loop-next.invariant.so_far s)
