-- The words are told apart by how they are spelled.
use Rattle.std.proofs.Common.{◌≡◌, Bool, true, false, refl, sym, ap, ◌∙◌}
use Rattle.std.proofs.lemmas.Bool.{false≢true}
use Rattle.std.specs.Prelude.{codes, if◌then◌else◌, Option, Some}
use Rattle.std.specs.Str.{bytes_eq}
use Rattle.dr_base.specs.Texts.{Text}
use Rattle.dr_world_script.specs.declared.foreign.ForeignWord.{ForeignWord}
use Rattle.dr_world_script.specs.declared.foreign.ForeignWord.TheVariants as called
use Rattle.dr_world_script.specs.declared.step.Word.{Word}
use Rattle.dr_world_script.specs.declared.step.Word.TheVariants.{Submit, Open, Away, Push, Move, Abort, Release, Close, Late, Restart, Requeue, Drop, Forget, Tick, Refuse}
use Rattle.dr_world_script.specs.Scripts.{adopt_word, bytes_word, foreign_spelled, spelled}

word_in : Text → Option Word
word_in text =
    if bytes_eq text (codes "submit") then Some Submit else
    if bytes_eq text (codes "open") then Some Open else
    if bytes_eq text (codes "away") then Some Away else
    if bytes_eq text (codes "push") then Some Push else
    if bytes_eq text (codes "move") then Some Move else
    if bytes_eq text (codes "abort") then Some Abort else
    if bytes_eq text (codes "release") then Some Release else
    if bytes_eq text (codes "close") then Some Close else
    if bytes_eq text (codes "late") then Some Late else
    if bytes_eq text (codes "restart") then Some Restart else
    if bytes_eq text (codes "requeue") then Some Requeue else
    if bytes_eq text (codes "drop") then Some Drop else
    if bytes_eq text (codes "forget") then Some Forget else
    if bytes_eq text (codes "tick") then Some Tick else
    Some Refuse

known : (w : Word) → word_in (spelled w) ≡ Some w
unfolding word_in
known Submit = refl
known Open = refl
known Away = refl
known Push = refl
known Move = refl
known Abort = refl
known Release = refl
known Close = refl
known Late = refl
known Restart = refl
known Requeue = refl
known Drop = refl
known Forget = refl
known Tick = refl
known Refuse = refl

pub spelled_one : (a b : Word) → spelled a ≡ spelled b → a ≡ b
spelled_one a b e = let same : ◌≡◌ {A = Option Word} (Some a) (Some b) = sym (known a) ∙ ap word_in e ∙ known b in cc

-- and none as that of a change of plan
abbrev is_adopting : Text → Bool
is_adopting text = bytes_eq text (codes "adopt")

no_adoption : (w : Word) → is_adopting (spelled w) ≡ false
no_adoption Submit = refl
no_adoption Open = refl
no_adoption Away = refl
no_adoption Push = refl
no_adoption Move = refl
no_adoption Abort = refl
no_adoption Release = refl
no_adoption Close = refl
no_adoption Late = refl
no_adoption Restart = refl
no_adoption Requeue = refl
no_adoption Drop = refl
no_adoption Forget = refl
no_adoption Tick = refl
no_adoption Refuse = refl

pub spelled_apart : (w : Word) → spelled w ≡ adopt_word → ⊥
spelled_apart w e =
    let is : is_adopting adopt_word ≡ true = refl in
    false≢true (sym (no_adoption w) ∙ (ap is_adopting e ∙ is))

-- nor as that of what another product writes
abbrev is_writing : Text → Bool
is_writing text = bytes_eq text (codes "bytes")

no_writing : (w : Word) → is_writing (spelled w) ≡ false
no_writing Submit = refl
no_writing Open = refl
no_writing Away = refl
no_writing Push = refl
no_writing Move = refl
no_writing Abort = refl
no_writing Release = refl
no_writing Close = refl
no_writing Late = refl
no_writing Restart = refl
no_writing Requeue = refl
no_writing Drop = refl
no_writing Forget = refl
no_writing Tick = refl
no_writing Refuse = refl

pub spelled_beside : (w : Word) → spelled w ≡ bytes_word → ⊥
spelled_beside w e =
    let is : is_writing bytes_word ≡ true = refl in
    false≢true (sym (no_writing w) ∙ (ap is_writing e ∙ is))

-- these two are two words
pub words_apart : adopt_word ≡ bytes_word → ⊥
words_apart e =
    let isnt : is_writing adopt_word ≡ false = refl in
    let is : is_writing bytes_word ≡ true = refl in
    false≢true (sym isnt ∙ (ap is_writing e ∙ is))

-- ---- what concerns other makers' products

foreign_in : Text → Option ForeignWord
foreign_in text =
    if bytes_eq text (codes "foreign") then Some called.Node else
    if bytes_eq text (codes "store") then Some called.Store else
    Some called.Answer

foreign_known : (w : ForeignWord) → foreign_in (foreign_spelled w) ≡ Some w
unfolding foreign_in
foreign_known called.Node = refl
foreign_known called.Store = refl
foreign_known called.Answer = refl

pub foreign_one : (a b : ForeignWord) → foreign_spelled a ≡ foreign_spelled b → a ≡ b
foreign_one a b e = let same : ◌≡◌ {A = Option ForeignWord} (Some a) (Some b) = sym (foreign_known a) ∙ ap foreign_in e ∙ foreign_known b in cc

is_foreign : Text → Bool
is_foreign text =
    if bytes_eq text (codes "foreign") then true else
    if bytes_eq text (codes "store") then true else
    bytes_eq text (codes "answer")

is_one : (w : ForeignWord) → is_foreign (foreign_spelled w) ≡ true
unfolding is_foreign
is_one called.Node = refl
is_one called.Store = refl
is_one called.Answer = refl

no_foreign : (w : Word) → is_foreign (spelled w) ≡ false
unfolding is_foreign
no_foreign Submit = refl
no_foreign Open = refl
no_foreign Away = refl
no_foreign Push = refl
no_foreign Move = refl
no_foreign Abort = refl
no_foreign Release = refl
no_foreign Close = refl
no_foreign Late = refl
no_foreign Restart = refl
no_foreign Requeue = refl
no_foreign Drop = refl
no_foreign Forget = refl
no_foreign Tick = refl
no_foreign Refuse = refl

-- no word of a step is one of these
pub foreign_apart : (w : Word) (v : ForeignWord) → spelled w ≡ foreign_spelled v → ⊥
foreign_apart w v e = false≢true (sym (no_foreign w) ∙ (ap is_foreign e ∙ is_one v))

-- nor is that of a change of plan
pub adopt_foreign : (v : ForeignWord) → adopt_word ≡ foreign_spelled v → ⊥
unfolding is_foreign
adopt_foreign v e =
    let isnt : is_foreign adopt_word ≡ false = refl in
    false≢true (sym isnt ∙ (ap is_foreign e ∙ is_one v))

-- nor that of what another product writes
pub bytes_foreign : (v : ForeignWord) → bytes_word ≡ foreign_spelled v → ⊥
unfolding is_foreign
bytes_foreign v e =
    let isnt : is_foreign bytes_word ≡ false = refl in
    false≢true (sym isnt ∙ (ap is_foreign e ∙ is_one v))
