-- Laws of journals that are cut.
use Rattle.std.proofs.Common.{◌≡◌, Bool, true, false, ◌&&◌, ◌||◌, drop, length, refl, sym, arith}
use Rattle.std.proofs.lemmas.List.{take-append-drop, take_all}
use Rattle.std.proofs.lemmas.Slice.Eq.{bytes_eq-Decides}
use Rattle.std.specs.Str.{bytes_eq}
use Rattle.dr_base.specs.Texts.{Text}
use Rattle.dr_word_audit_at.specs.Laws.{CutsBegin, MendingIsRight, TheWholeIsACut}

pub cuts_begin : CutsBegin
cuts_begin n node = (drop n node.lines, sym (take-append-drop n node.lines))

pub whole_is_a_cut : TheWholeIsACut
whole_is_a_cut node = λ i. record { name = node.name; lines = take_all (length node.lines) node.lines (omega arith) i }

same : (text : Text) → bytes_eq text text ≡ true
same text = (bytes_eq-Decides text text).1 refl

no_and : (b : Bool) → (b && false) ≡ false
no_and true = refl
no_and false = refl

pub mending_is_right : MendingIsRight
mending_is_right from to item keep = (
  λ i. same item.uid i && same from i,
  λ i. same item.uid i && (same to i || false),
  no_and (bytes_eq item.uid item.uid),
  refl,
)
