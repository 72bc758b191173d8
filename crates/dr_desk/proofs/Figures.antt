-- Receipts that agree with a journal of two lines, and such that don't.
use Rattle.std.proofs.Common.{◌≡◌, ◌<◌, ◌+◌, ℕ, Bool, true, false, [], ◌∷◌, Option, None, Some, refl, sym, ap, subst, arith, slice_index_or, nat_eq, true≢false}
use Rattle.std.specs.List.{IsDistinct}
use Rattle.std.proofs.lemmas.List.Elements.{All-cons, All-nil}
use Rattle.dr_route.specs.declared.key.Key.{Key}
use Rattle.dr_ledger.specs.declared.item.Arrived.TheVariants.{New, Again}
use Rattle.dr_ledger.specs.declared.item.Entry.{Entry}
use Rattle.dr_ledger.specs.declared.item.Entry.TheVariants as entry
use Rattle.dr_desk.specs.declared.receipt.Receipt.{Receipt}
use Rattle.dr_desk.specs.declared.receipt.Reply.{Reply}
use Rattle.dr_desk.specs.declared.receipt.Reply.TheVariants as reply
use Rattle.dr_desk.specs.Agreeing.{IsOfLine}
use Rattle.dr_desk.specs.Laws.{ReceiptFiguresAreRight, arrival_at, two_lines}
use Rattle.dr_desk.specs.Receipts.{Records}

abbrev is_again : Reply → Bool
is_again (reply.Arrived New) = false
is_again (reply.Arrived Again) = true
is_again reply.Done = false

abbrev some_is : Entry → Option Entry → Entry
some_is x None = x
some_is x (Some y) = y

first : (key : Key) → IsOfLine (two_lines key) (arrival_at key 1 New)
first key = record { line = entry.Arrival (65 ∷ []) (49 ∷ []) key 8 [] true; counted = omega arith; stands = refl; records = (refl, refl) }

second : (key : Key) → IsOfLine (two_lines key) (arrival_at key 2 Again)
second key = record { line = entry.Repeat (65 ∷ []) (49 ∷ []) key 8; counted = omega arith; stands = refl; records = (refl, refl) }

other_reply : (key : Key) → IsOfLine (two_lines key) (arrival_at key 2 New) → ⊥
other_reply key h =
    let line : entry.Repeat (65 ∷ []) (49 ∷ []) key 8 ≡ h.line = ap (some_is h.line) h.stands in
    let P : Entry → Type 0 = λ l. Records l (arrival_at key 2 New).call (arrival_at key 2 New).reply in
    true≢false (sym (ap is_again (subst P (sym line) h.records).1))

other_number : (key : Key) → IsOfLine (two_lines key) (arrival_at key 1 Again) → ⊥
other_number key h =
    let line : entry.Arrival (65 ∷ []) (49 ∷ []) key 8 [] true ≡ h.line = ap (some_is h.line) h.stands in
    let P : Entry → Type 0 = λ l. Records l (arrival_at key 1 Again).call (arrival_at key 1 Again).reply in
    true≢false (ap is_again (subst P (sym line) h.records).1)

abbrev is_some : Option Entry → Bool
is_some None = false
is_some (Some line) = true

behind : (key : Key) → IsOfLine (two_lines key) (arrival_at key 3 Again) → ⊥
behind key h = true≢false (sym (ap is_some h.stands))

twice : IsDistinct nat_eq (1 ∷ 1 ∷ []) → ⊥
unfolding IsDistinct
twice h = true≢false h.0.0

apart : IsDistinct nat_eq (1 ∷ 2 ∷ [])
unfolding IsDistinct
apart = ((refl, tt), (tt, tt))

abbrev at_place : Key → ℕ → Receipt → Receipt
at_place key n d = slice_index_or (arrival_at key 1 New ∷ arrival_at key 2 Again ∷ []) n d

pub figures : ReceiptFiguresAreRight
figures key = record {
  both = All-cons (IsOfLine (two_lines key)) _ (arrival_at key 2 Again ∷ []) (first key) (All-cons (IsOfLine (two_lines key)) _ [] (second key) (All-nil (IsOfLine (two_lines key))));
  rise = λ k d below. let zero : k ≡ 0 = omega arith in let P : ℕ → Type 0 = λ n. (at_place key n d).number < (at_place key (n + 1) d).number in subst P (sym zero) (omega arith);
  apart = apart;
  other_reply = other_reply key;
  other_number = other_number key;
  no_number = λ h. let c = h.counted in omega arith;
  behind = behind key;
  twice = twice;
  falling = λ h. let f = h 0 (arrival_at key 2 Again) (omega arith) in omega arith;
}
