-- No response that is noted is lost, and each counts once.
use Rattle.std.proofs.Common.{◌≡◌, ◌+◌, ◌-◌, ◌<◌, ◌≤◌, ◌&&◌, ℕ, Bool, true, false, List, [], ◌∷◌, length, Option, Some, None, refl, sym, ap, subst, ◌∙◌, arith, bytes_eq, sum_by}
use Rattle.std.specs.Prelude.{nat_eq}
use Rattle.std.specs.List.{IsDistinct}
use Rattle.std.proofs.lemmas.List.Sums.{sum_by-cons}
use Rattle.dr_base.specs.Texts.{Text}
use Rattle.dr_run_answer.specs.Intakes.{if_so, most}
use Rattle.dr_run_answer.specs.Responses.{AreResponses, CountsStatus, IsCountedUnder, Response, counted_as, counted_for, is_line_of, same_status, sent_as, sent_to}
use Rattle.dr_run_answer.specs.declared.responses.ResponseCount.{ResponseCount}

pub nothing_was_sent : AreResponses [] []
unfolding IsDistinct
nothing_was_sent = record {
  apart = tt;
  few = λ caller. omega arith;
  whole = λ caller. refl;
  own = λ caller status. omega arith;
  all_own = λ caller none status. refl;
}

-- ---- bounds

one_at_most : (b : Bool) → if_so b 1 ≤ 1
one_at_most true = omega arith
one_at_most false = omega arith

ones : (test : Response → Bool) (all : List Response) → sum_by (λ r. if_so (test r) 1) all ≤ length all
ones test [] = omega arith
ones test (r ∷ all) =
    let f : Response → ℕ = λ r. if_so (test r) 1 in
    let cons = sum_by-cons f r all in
    let one = one_at_most (test r) in
    let later = ones test all in
    omega (arith, cons, one, later)

-- what is counted for a status is part of what is counted for its caller
part_of : (caller : Text) (status : Option ℕ) (lines : List ResponseCount) → counted_as caller status lines ≤ counted_for caller lines
part_of caller status [] = omega arith
part_of caller status (line ∷ lines) =
    let f : ResponseCount → ℕ = λ line. if_so (is_line_of caller status line) line.count in
    let g : ResponseCount → ℕ = λ line. if_so (bytes_eq line.caller caller) line.count in
    let cons = sum_by-cons f line lines in
    let whole = sum_by-cons g line lines in
    let one = no_more (bytes_eq line.caller caller) (same_status line.status status) line.count in
    let later = part_of caller status lines in
    omega (arith, cons, whole, one, later)
  where
    no_more : (a b : Bool) (n : ℕ) → if_so (a && b) n ≤ if_so a n
    no_more true true n = omega arith
    no_more true false n = omega arith
    no_more false b n = omega arith

-- ---- one response more

-- it counts for its own status, or for none that has a line
not_for_another : (named : Bool) (caller : Text) (own : ℕ) (old : List ResponseCount) (under : Option ℕ) (status : ℕ) → IsCountedUnder caller own old under
    → if_so (named && same_status under (Some status)) 1 ≤ if_so (named && nat_eq own status) 1
not_for_another true caller own old None status rule = omega arith
not_for_another true caller own old (Some it) status rule = let e : if_so (nat_eq it status) 1 ≡ if_so (nat_eq own status) 1 = ap (λ n. if_so (nat_eq n status) 1) rule.0 in omega (arith, e)
not_for_another false caller own old under status rule = omega arith

-- and for its own, where it doesn't count among the others
for_its_own : (named : Bool) (caller : Text) (own : ℕ) (old : List ResponseCount) (under : Option ℕ) (status : ℕ) → IsCountedUnder caller own old under → if_so (named && same_status under None) 1 ≡ 0
    → if_so (named && same_status under (Some status)) 1 ≡ if_so (named && nat_eq own status) 1
for_its_own true caller own old None status rule none = absurd (omega (arith, none))
for_its_own true caller own old (Some it) status rule none = ap (λ n. if_so (nat_eq n status) 1) rule.0
for_its_own false caller own old under status rule none = refl

module _ (all : List Response) (r : Response) (old new : List ResponseCount) (countable : length (r ∷ all) ≤ most) (before : AreResponses all old) (counts : CountsStatus r.caller r.status old new) where
  whole : (caller : Text) → counted_for caller new ≡ sent_to caller (r ∷ all)
  whole caller =
      let test : Response → Bool = λ r. bytes_eq r.caller caller in
      let f : Response → ℕ = λ r. if_so (test r) 1 in
      let so_far = before.whole caller in
      let few = ones test all in
      let one = one_at_most (test r) in
      let grown = counts.whole caller (omega (arith, so_far, few, one, countable)) in
      let cons = sum_by-cons f r all in
      omega (arith, grown, so_far, cons)

  -- a figure has room for one more
  room : (caller : Text) (kind : Option ℕ) → counted_as caller kind old + if_so (bytes_eq r.caller caller && same_status counts.under kind) 1 ≤ most
  room caller kind =
      let part = part_of caller kind old in
      let so_far = before.whole caller in
      let few = ones (λ r. bytes_eq r.caller caller) all in
      let one = one_at_most (bytes_eq r.caller caller && same_status counts.under kind) in
      omega (arith, part, so_far, few, one, countable)

  grown : (caller : Text) (kind : Option ℕ) → counted_as caller kind new ≡ counted_as caller kind old + if_so (bytes_eq r.caller caller && same_status counts.under kind) 1
  grown caller kind = counts.one caller kind (room caller kind)

  sent : (caller : Text) (status : ℕ) → sent_as caller status (r ∷ all) ≡ if_so (bytes_eq r.caller caller && nat_eq r.status status) 1 + sent_as caller status all
  sent caller status = sum_by-cons (λ (r : Response). if_so (bytes_eq r.caller caller && nat_eq r.status status) 1) r all

  own : (caller : Text) (status : ℕ) → counted_as caller (Some status) new ≤ sent_as caller status (r ∷ all)
  own caller status =
      let so_far = before.own caller status in
      let more = grown caller (Some status) in
      let one = not_for_another (bytes_eq r.caller caller) r.caller r.status old counts.under status counts.rule in
      let cons = sent caller status in
      omega (arith, so_far, more, one, cons)

  all_own : (caller : Text) → counted_as caller None new ≡ 0 → (status : ℕ) → counted_as caller (Some status) new ≡ sent_as caller status (r ∷ all)
  all_own caller none status =
      let others = grown caller None in
      let so_far = before.all_own caller (omega (arith, others, none)) status in
      let more = grown caller (Some status) in
      let one = for_its_own (bytes_eq r.caller caller) r.caller r.status old counts.under status counts.rule (omega (arith, others, none)) in
      let cons = sent caller status in
      omega (arith, so_far, more, one, cons)

pub responded_is_counted : (all : List Response) (r : Response) (old new : List ResponseCount) → length (r ∷ all) ≤ most → AreResponses all old → CountsStatus r.caller r.status old new → AreResponses (r ∷ all) new
responded_is_counted all r old new countable before counts = record {
  apart = counts.apart before.apart;
  few = λ caller. counts.few caller (before.few caller);
  whole = whole all r old new countable before counts;
  own = own all r old new countable before counts;
  all_own = all_own all r old new countable before counts;
}
