-- What is noted counts.
use Rattle.std.proofs.Common.{◌≡◌, ◌+◌, ◌-◌, ◌<◌, ◌≤◌, ◌&&◌, ℕ, zero, suc, Bool, true, false, cond, List, [], ◌∷◌, filter, length, nat_lt, not, refl, sym, ap, subst, ◌∙◌, arith, bytes_eq, sum_by}
use Rattle.std.specs.List.{IsDistinct}
use Rattle.std.proofs.lemmas.Bool.{le-ltb, lt-ltb, ltb-true}
use Rattle.std.proofs.lemmas.List.Sums.{sum_by-cons}
use Rattle.dr_base.specs.Texts.{Text}
use Rattle.dr_run_answer.specs.Intakes.{AreRecent, AreTotals, CountsMinute, CountsOne, KeepHours, Notice, answers_to, bytes_from, came_within, if_so, is_again, is_by, is_of_hour, is_refused, is_stored, is_within, most, said_by, said_of, said_within}
use Rattle.dr_ledger.specs.Replies.{Reply}
use Rattle.dr_run_answer.specs.Laws.{AreCountable, NotedIsCounted, NotedIsKept, NothingIsCounted, OldIsLetGo, RecentIsWhatCame}
use Rattle.dr_run_answer.specs.declared.intake.Brought.{Brought}
use Rattle.dr_run_answer.specs.declared.intake.Recent.{Recent}
use Rattle.dr_run_answer.specs.declared.noted.Minute.{Minute}

pub nothing_is_counted : NothingIsCounted
unfolding IsDistinct
nothing_is_counted = (
  record { apart = tt; stored = λ caller. refl; again = λ caller. refl; refused = λ caller. refl; bytes = λ caller. refl },
  (λ from. record { taken = λ caller modality now late. refl; refused = λ caller modality now late. refl }),
)

-- ---- bounds

nested : (a b : Bool) (n : ℕ) → if_so a (if_so b n) ≡ if_so (a && b) n
nested true b n = refl
nested false b n = refl

no_more : (b : Bool) (n : ℕ) → if_so b n ≤ n
no_more true n = omega arith
no_more false n = omega arith

ones : (test : Notice → Bool) (all : List Notice) → sum_by (λ n. if_so (test n) 1) all ≤ length all
ones test [] = omega arith
ones test (n ∷ all) =
    let f : Notice → ℕ = λ n. if_so (test n) 1 in
    let cons = sum_by-cons f n all in
    let one = no_more (test n) 1 in
    let later = ones test all in
    omega (arith, cons, one, later)

parts : (test : Notice → Bool) (all : List Notice) → sum_by (λ n. if_so (test n) n.size) all ≤ sum_by (λ (n : Notice). n.size) all
parts test [] = omega arith
parts test (n ∷ all) =
    let f : Notice → ℕ = λ n. if_so (test n) n.size in
    let cons = sum_by-cons f n all in
    let whole = sum_by-cons (λ (n : Notice). n.size) n all in
    let one = no_more (test n) n.size in
    let later = parts test all in
    omega (arith, cons, whole, one, later)

-- ---- by caller

module _ (all : List Notice) (n : Notice) (countable : AreCountable (n ∷ all)) where
  -- one figure, which grows by what the instance adds to it
  counted : (figure : Brought → ℕ) (such : Reply → Bool) (old new : List Brought) → ((caller : Text) → said_of figure caller old ≡ answers_to such caller all)
      → ((other : Text) → said_of figure other old + if_so (bytes_eq n.caller other) (if_so (such n.answer) 1) ≤ most → said_of figure other new ≡ said_of figure other old + if_so (bytes_eq n.caller other) (if_so (such n.answer) 1))
      → (caller : Text) → said_of figure caller new ≡ answers_to such caller (n ∷ all)
  counted figure such old new before grows caller =
      let test : Notice → Bool = λ n. bytes_eq n.caller caller && such n.answer in
      let f : Notice → ℕ = λ n. if_so (test n) 1 in
      let so_far = before caller in
      let few = ones test all in
      let same = nested (bytes_eq n.caller caller) (such n.answer) 1 in
      let one = no_more (test n) 1 in
      let small : said_of figure caller old + if_so (bytes_eq n.caller caller) (if_so (such n.answer) 1) ≤ most = let room = countable.0 in omega (arith, so_far, few, same, one, room) in
      let grown = grows caller small in
      let cons = sum_by-cons f n all in
      omega (arith, grown, so_far, same, cons)

  weighed : (old new : List Brought) → ((caller : Text) → said_of (λ b. b.bytes) caller old ≡ bytes_from caller all)
      → ((other : Text) → said_of (λ b. b.bytes) other old + if_so (bytes_eq n.caller other) (if_so (is_stored n.answer) n.size) ≤ most → said_of (λ b. b.bytes) other new ≡ said_of (λ b. b.bytes) other old + if_so (bytes_eq n.caller other) (if_so (is_stored n.answer) n.size))
      → (caller : Text) → said_of (λ b. b.bytes) caller new ≡ bytes_from caller (n ∷ all)
  weighed old new before grows caller =
      let test : Notice → Bool = λ n. bytes_eq n.caller caller && is_stored n.answer in
      let f : Notice → ℕ = λ n. if_so (test n) n.size in
      let so_far = before caller in
      let few = parts test all in
      let same = nested (bytes_eq n.caller caller) (is_stored n.answer) n.size in
      let one = no_more (test n) n.size in
      let whole = sum_by-cons (λ (n : Notice). n.size) n all in
      let small : said_of (λ b. b.bytes) caller old + if_so (bytes_eq n.caller caller) (if_so (is_stored n.answer) n.size) ≤ most = let room = countable.1 in omega (arith, so_far, few, same, one, whole, room) in
      let grown = grows caller small in
      let cons = sum_by-cons f n all in
      omega (arith, grown, so_far, same, cons)

pub noted_is_counted : NotedIsCounted
noted_is_counted all n old new countable before counts = record {
  apart = counts.apart before.apart;
  stored = counted all n countable (λ b. b.stored) is_stored old new before.stored counts.stored;
  again = counted all n countable (λ b. b.again) is_again old new before.again counts.again;
  refused = counted all n countable (λ b. b.refused) is_refused old new before.refused counts.refused;
  bytes = weighed all n countable old new before.bytes counts.bytes;
}

-- ---- by minute

regrouped : (a b c : Bool) (n : ℕ) → if_so (a && b) (if_so c n) ≡ if_so (a && (b && c)) n
regrouped true true c n = refl
regrouped true false c n = refl
regrouped false b c n = refl

module _ (from : ℕ) (all : List Notice) (n : Notice) (countable : AreCountable (n ∷ all)) where
  kept : (figure : Recent → ℕ) (such : Reply → Bool) (old new : List Minute)
      → ((caller modality : Text) (now : ℕ) → from ≤ now → said_within figure caller modality now old ≡ came_within such caller modality now all)
      → ((other kind : Text) (now : ℕ) → said_within figure other kind now old + if_so (is_of_hour now n.minute && (bytes_eq n.caller other && bytes_eq n.modality kind)) (if_so (such n.answer) 1) ≤ most
      → said_within figure other kind now new ≡ said_within figure other kind now old + if_so (is_of_hour now n.minute && (bytes_eq n.caller other && bytes_eq n.modality kind)) (if_so (such n.answer) 1))
      → (caller modality : Text) (now : ℕ) → from ≤ now → said_within figure caller modality now new ≡ came_within such caller modality now (n ∷ all)
  kept figure such old new before grows caller modality now late =
      let test : Notice → Bool = λ n. is_of_hour now n.minute && ((bytes_eq n.caller caller && bytes_eq n.modality modality) && such n.answer) in
      let f : Notice → ℕ = λ n. if_so (test n) 1 in
      let so_far = before caller modality now late in
      let few = ones test all in
      let same = regrouped (is_of_hour now n.minute) (bytes_eq n.caller caller && bytes_eq n.modality modality) (such n.answer) 1 in
      let one = no_more (test n) 1 in
      let small : said_within figure caller modality now old + if_so (is_of_hour now n.minute && (bytes_eq n.caller caller && bytes_eq n.modality modality)) (if_so (such n.answer) 1) ≤ most =
      let room = countable.0 in omega (arith, so_far, few, same, one, room) in
      let grown = grows caller modality now small in
      let cons = sum_by-cons f n all in
      omega (arith, grown, so_far, same, cons)

twice_not : (b : Bool) → not (not b) ≡ b
twice_not true = refl
twice_not false = refl

pub noted_is_kept : NotedIsKept
noted_is_kept from all n old new countable before counts =
    let P : Bool → Type 0 = λ b. (other kind : Text) (now : ℕ)
    → said_within (λ r. r.refused) other kind now old + if_so (is_of_hour now n.minute && (bytes_eq n.caller other && bytes_eq n.modality kind)) (if_so b 1) ≤ most
    → said_within (λ r. r.refused) other kind now new ≡ said_within (λ r. r.refused) other kind now old + if_so (is_of_hour now n.minute && (bytes_eq n.caller other && bytes_eq n.modality kind)) (if_so b 1) in
    record {
      taken = kept from all n countable (λ r. r.stored) (λ answer. not (is_refused answer)) old new before.taken counts.stored;
      refused = kept from all n countable (λ r. r.refused) is_refused old new before.refused (subst P (twice_not (is_refused n.answer)) counts.refused);
    }

-- ---- what is old is let go

module _ (figure : Recent → ℕ) (caller modality : Text) (now later : ℕ) (late : now ≤ later) where
  abbrev said : Minute → ℕ
  said one = if_so (is_within caller modality later one) (figure one.recent)

  -- a minute that isn't of this hour is of no later one
  too_old : (minute : ℕ) → is_of_hour now minute ≡ false → is_of_hour later minute ≡ false
  too_old minute old = go (nat_lt (later - minute) 60) refl
    where
      go : (b : Bool) → nat_lt (later - minute) 60 ≡ b → b ≡ false
      go true is = let less : later - minute < 60 = ltb-true (later - minute) 60 is in sym (lt-ltb (now - minute) 60 (omega (arith, less, late))) ∙ old
      go false is = refl

  still : (lines : List Minute) → sum_by said (filter (λ (one : Minute). is_of_hour now one.minute) lines) ≡ sum_by said lines
  still [] = refl
  still (one ∷ lines) = go (is_of_hour now one.minute) refl (still lines)
    where
      go : (b : Bool) → is_of_hour now one.minute ≡ b → sum_by said (filter (λ (x : Minute). is_of_hour now x.minute) lines) ≡ sum_by said lines
          → sum_by said (cond b (one ∷ filter (λ (x : Minute). is_of_hour now x.minute) lines) (filter (λ (x : Minute). is_of_hour now x.minute) lines)) ≡ sum_by said (one ∷ lines)
      go true is same = sum_by-cons said one (filter (λ (x : Minute). is_of_hour now x.minute) lines) ∙ ap (λ k. said one + k) same ∙ sym (sum_by-cons said one lines)
      go false is same =
          let gone : said one ≡ 0 = ap (λ b. if_so (b && is_by caller modality one.recent) (figure one.recent)) (too_old one.minute is) in
          let cons = sum_by-cons said one lines in
          omega (arith, gone, cons, same)

pub old_is_let_go : OldIsLetGo
old_is_let_go from now all lines late before = record {
  taken = λ caller modality later is. still (λ r. r.stored) caller modality now later is lines ∙ before.taken caller modality later (omega (arith, late, is));
  refused = λ caller modality later is. still (λ r. r.refused) caller modality now later is lines ∙ before.refused caller modality later (omega (arith, late, is));
}

-- ---- what the lines say

pub recent_is_what_came : RecentIsWhatCame
recent_is_what_came from now all minutes lines countable late keeps are caller modality =
    let taken = keeps.taken caller modality now late in
    let refused = keeps.refused caller modality now late in
    let few = ones (λ n. is_of_hour now n.minute && ((bytes_eq n.caller caller && bytes_eq n.modality modality) && not (is_refused n.answer))) all in
    let other = ones (λ n. is_of_hour now n.minute && ((bytes_eq n.caller caller && bytes_eq n.modality modality) && is_refused n.answer)) all in
    let room = countable.0 in (
      are.stored caller modality (omega (arith, taken, few, room)) ∙ taken,
      are.refused caller modality (omega (arith, refused, other, room)) ∙ refused,
    )
