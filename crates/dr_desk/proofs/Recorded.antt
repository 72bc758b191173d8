-- Receipts and the lines that they are of.
use Rattle.std.proofs.Common.{◌≡◌, ◌-◌, List, Option, None, Some, refl, sym, ap, ◌∙◌, subst, length, drop, arith, slice_get}
use Rattle.std.proofs.lemmas.List.{length-drop}
use Rattle.dr_ledger.specs.declared.item.Arrived.TheVariants.{New, Again}
use Rattle.dr_ledger.specs.declared.item.Entry.{Entry}
use Rattle.dr_ledger.specs.declared.item.Entry.TheVariants as entry
use Rattle.dr_ledger.specs.Books.{Book, Line}
use Rattle.dr_ledger.specs.Books as books
use Rattle.dr_ledger.specs.Items.{instance_of}
use Rattle.dr_ledger.specs.Replies.{arrival_line}
use Rattle.dr_ledger.specs.Routings.{Routing}
use Rattle.dr_desk.specs.Laws.{ArrivalsAreRecorded, DroppingsAreRecorded, FewAreHeld, ForgettingsAreRecorded, LinesAreOfOneCall, NoMoreAreHeld, ReceiptsAreOne, RequeuingsAreRecorded, SettlingsAreRecorded}
use Rattle.dr_desk.specs.Receipts.{Records, receipt}

abbrev lines_of : Book → List Line
lines_of b = b.lines

pub arrivals_are_recorded : (routing : Routing) → ArrivalsAreRecorded routing
arrivals_are_recorded routing caller item old new New h = (arrival_line routing caller (instance_of item), ap lines_of h.2, (refl, refl))
arrivals_are_recorded routing caller item old new Again h = (books.Repeat caller (instance_of item), ap lines_of h.2, (refl, refl))

pub settlings_are_recorded : SettlingsAreRecorded
settlings_are_recorded uid dest outcome now old new h = (books.Settling uid dest outcome now, ap lines_of h.1, (refl, refl))

pub requeuings_are_recorded : RequeuingsAreRecorded
requeuings_are_recorded uid dest old new h = (books.Requeuing uid dest, ap lines_of h.1, (refl, refl))

pub droppings_are_recorded : DroppingsAreRecorded
droppings_are_recorded uid dest now old new h = (books.Dropping uid dest now, ap lines_of h.1, (refl, refl))

pub forgettings_are_recorded : ForgettingsAreRecorded
forgettings_are_recorded uid old new h = (books.Forgetting uid, ap lines_of h.1, (refl, refl))

pub lines_are_of_one_call : LinesAreOfOneCall
lines_are_of_one_call (entry.Arrival caller uid key long to keep) call other answer another h k = (h.0 ∙ sym k.0, h.1 ∙ sym k.1)
lines_are_of_one_call (entry.Repeat caller uid key long) call other answer another h k = (h.0 ∙ sym k.0, h.1 ∙ sym k.1)
lines_are_of_one_call (entry.Settling uid dest outcome now) call other answer another h k = (h.0 ∙ sym k.0, h.1 ∙ sym k.1)
lines_are_of_one_call (entry.Requeuing uid dest) call other answer another h k = (h.0 ∙ sym k.0, h.1 ∙ sym k.1)
lines_are_of_one_call (entry.Dropping uid dest now) call other answer another h k = (h.0 ∙ sym k.0, h.1 ∙ sym k.1)
lines_are_of_one_call (entry.Forgetting uid) call other answer another h k = (h.0 ∙ sym k.0, h.1 ∙ sym k.1)
lines_are_of_one_call entry.Adoption call other answer another h k = absurd h

abbrev some_is : {X : Type 0} → X → Option X → X
some_is x None = x
some_is x (Some y) = y

pub receipts_are_one : ReceiptsAreOne
receipts_are_one lines one other h k n =
    let same : h.line ≡ k.line = ap (some_is h.line) (sym h.stands ∙ (ap (λ m. slice_get lines (m - 1)) n ∙ k.stands)) in
    let P : Entry → Type 0 = λ line. Records line other.call other.reply in
    let both = lines_are_of_one_call h.line one.call other.call one.reply other.reply h.records (subst P (sym same) k.records) in
    ap (λ m. receipt m one.call one.reply) n ∙ (ap (λ c. receipt other.number c one.reply) both.0 ∙ ap (receipt other.number other.call) both.1)

pub few_are_held : FewAreHeld
few_are_held receipts few = ap (λ n. drop n receipts) (let none : length receipts - 1024 ≡ 0 = omega arith in none)

pub no_more_are_held : NoMoreAreHeld
no_more_are_held receipts = let l = length-drop (length receipts - 1024) receipts in omega arith
