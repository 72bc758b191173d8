-- A value has one answer, but for want of memory.
use Rattle.std.proofs.Common.{◌≡◌, ◌≢◌, ℕ, Bool, true, false, List, [], ◌∷◌, ◌++◌, length, Option, Some, None, Result, Ok, Err, refl, sym, ap, subst, ◌∙◌, arith, inl, inr}
use Rattle.dr_pdu.specs.declared.pdu.Pdv.{Pdv}
use Rattle.dr_dimse.specs.declared.message.Message.{Message}
use Rattle.dr_dimse.specs.declared.message.Awaited.{Awaited}
use Rattle.dr_dimse.specs.declared.command.Command.{Command}
use Rattle.dr_dimse.specs.declared.fault.DimseFault.{DimseFault}
use Rattle.dr_dimse.specs.declared.fault.DimseFault.TheVariants.{OutOfPlace, MixedContext, BadCommand, TooLong, Memory}
use Rattle.dr_dimse.specs.Commands.{IsCommand, announces}
use Rattle.dr_dimse.specs.Messages.{is_last, IsMessage}
use Rattle.dr_dimse.specs.Taking.{MessageStage, Idle, InCommand, InData, wants_command, IsAwaited, EndsCommand, BeginsMessage, TakesData, TakesValue, Waits}
use Rattle.dr_dimse.proofs.OneCommand.{one_command}
use Rattle.dr_dimse.proofs.MessageLemmas.{fault_stays}
use Rattle.dr_dimse.proofs.GivenLemmas.{is_given}

-- true isn't false
clash : (b : Bool) → b ≡ true → b ≡ false → ⊥
clash b p q = absurd (cc)

one_message : (p : Pdv) (c : Command) (m n : Option Message) (s t : MessageStage) → BeginsMessage p.id c m s → BeginsMessage p.id c n t → (m ≡ n) × (s ≡ t)
one_message p c None None s t h k = (refl, h.1 ∙ sym k.1)
one_message p c (Some m) (Some n) s t h k = (ap Some (h.1 ∙ sym k.1), h.2 ∙ sym k.2)
one_message p c None (Some n) s t h k = absurd (clash (announces c) h.0 k.0)
one_message p c (Some m) None s t h k = absurd (clash (announces c) k.0 h.0)

one_data : (u : MessageStage) (p : Pdv) (m n : Option Message) (s t : MessageStage) → TakesData u p m s → TakesData u p n t → (m ≡ n) × (s ≡ t)
one_data (InData id c body) p None None s t h k = (refl, h.1 ∙ sym k.1)
one_data (InData id c body) p (Some m) (Some n) s t h k = (ap Some (h.1 ∙ sym k.1), h.2 ∙ sym k.2)
one_data (InData id c body) p None (Some n) s t h k = absurd (clash (is_last p) k.0 h.0)
one_data (InData id c body) p (Some m) None s t h k = absurd (clash (is_last p) h.0 k.0)
one_data Idle p m n s t h k = absurd h
one_data (InCommand id text) p m n s t h k = absurd h

-- the same text, so the same command
same_command : (u : MessageStage) (p : Pdv) (x y : List ℕ) (c d : Command) → EndsCommand u p x → EndsCommand u p y → IsCommand x c → IsCommand y d → c ≡ d
same_command u p x y c d e f h k = one_command y c d (subst (λ (t : List ℕ). IsCommand t c) (e.2 ∙ sym f.2) h) k

taken_once : (a : Awaited) (u : MessageStage) (p : Pdv) (m n : Option Message) (s t : MessageStage) → TakesValue a u p (Ok m) s → TakesValue a u p (Ok n) t → (m ≡ n) × (s ≡ t)
taken_once a u p m n s t (inl h) (inl k) = one_data u p m n s t h.2 k.2
taken_once a u p m n s t (inr (inl h)) (inr (inl k)) = (h.2 ∙ sym k.2, h.3 ∙ sym k.3)
taken_once a u p m n s t (inr (inr h)) (inr (inr k)) =
    let same = same_command u p h.0 k.0 h.1 k.1 h.2 k.2 h.3 k.3 in
    one_message p k.1 m n s t (subst (λ (c : Command). BeginsMessage p.id c m s) same h.5) k.5
taken_once a u p m n s t (inl h) (inr (inl k)) = absurd (clash (wants_command u) k.0.1 h.1)
taken_once a u p m n s t (inl h) (inr (inr k)) = absurd (clash (wants_command u) k.2.0.1 h.1)
taken_once a u p m n s t (inr (inl h)) (inl k) = absurd (clash (wants_command u) h.0.1 k.1)
taken_once a u p m n s t (inr (inr h)) (inl k) = absurd (clash (wants_command u) h.2.0.1 k.1)
taken_once a u p m n s t (inr (inl h)) (inr (inr k)) = absurd (clash (is_last p) k.2.1 h.1)
taken_once a u p m n s t (inr (inr h)) (inr (inl k)) = absurd (clash (is_last p) h.2.1 k.1)

-- what is taken shows no fault
no_fault : (a : Awaited) (u : MessageStage) (p : Pdv) (m : Option Message) (f : DimseFault) (s t : MessageStage) → f ≢ Memory → TakesValue a u p (Ok m) s → TakesValue a u p (Err f) t → ⊥
no_fault a u p m Memory s t other h k = other refl
no_fault a u p m MixedContext s t other (inl h) k = k.1 h.0.0
no_fault a u p m MixedContext s t other (inr (inl h)) k = k.1 h.0.0.0
no_fault a u p m MixedContext s t other (inr (inr h)) k = k.1 h.2.0.0.0
no_fault a u p m OutOfPlace s t other (inl h) (e, inl k) = k.1 h.0.1
no_fault a u p m OutOfPlace s t other (inr (inl h)) (e, inl k) = k.1 h.0.0.1
no_fault a u p m OutOfPlace s t other (inr (inr h)) (e, inl k) = k.1 h.2.0.0.1
no_fault a u p m OutOfPlace s t other (inl h) (e, inr k) = clash (wants_command u) k.2.0.1 h.1
no_fault a u p m OutOfPlace s t other (inr (inl h)) (e, inr k) = clash (is_last p) k.2.1 h.1
no_fault a u p m OutOfPlace s t other (inr (inr h)) (e, inr k) = k.4 (subst (λ (c : Command). IsAwaited a c) (same_command u p h.0 k.0 h.1 k.1 h.2 k.2 h.3 k.3) h.4)
no_fault a u p m TooLong s t other (inl h) k = clash (wants_command u) k.2 h.1
no_fault a u p m TooLong s t other (inr (inl h)) k = omega (arith, h.0.2, k.3)
no_fault a u p m TooLong s t other (inr (inr h)) k = omega (arith, h.2.0.2, k.3)
no_fault a u p m BadCommand s t other (inl h) k = clash (wants_command u) k.1.1.0.1 h.1
no_fault a u p m BadCommand s t other (inr (inl h)) k = clash (is_last p) k.1.1.1 h.1
no_fault a u p m BadCommand s t other (inr (inr h)) k = k.1.2 h.1 (subst (λ (x : List ℕ). IsCommand x h.1) (h.2.2 ∙ sym k.1.1.2) h.3)

-- the order of the faults: an earlier one excludes a later one
earlier : (a : Awaited) (u : MessageStage) (p : Pdv) (f g : DimseFault) → Type 0
earlier a u p f g = (s t : MessageStage) → TakesValue a u p (Err f) s → TakesValue a u p (Err g) t → ⊥

mixed_kind : (a : Awaited) (u : MessageStage) (p : Pdv) → earlier a u p MixedContext OutOfPlace
unfolding earlier
mixed_kind a u p s t h (e, inl k) = h.1 k.0
mixed_kind a u p s t h (e, inr k) = h.1 k.2.0.0.0

mixed_long : (a : Awaited) (u : MessageStage) (p : Pdv) → earlier a u p MixedContext TooLong
unfolding earlier
mixed_long a u p s t h k = h.1 k.1.0

mixed_bad : (a : Awaited) (u : MessageStage) (p : Pdv) → earlier a u p MixedContext BadCommand
unfolding earlier
mixed_bad a u p s t h k = h.1 k.1.1.0.0.0

kind_long : (a : Awaited) (u : MessageStage) (p : Pdv) → earlier a u p OutOfPlace TooLong
unfolding earlier
kind_long a u p s t (e, inl h) k = h.1 k.1.1
kind_long a u p s t (e, inr h) k = omega (arith, h.2.0.2, k.3, ap (λ (x : List ℕ). length x) h.2.2)

kind_bad : (a : Awaited) (u : MessageStage) (p : Pdv) → earlier a u p OutOfPlace BadCommand
unfolding earlier
kind_bad a u p s t (e, inl h) k = h.1 k.1.1.0.0.1
kind_bad a u p s t (e, inr h) k = k.1.2 h.1 (subst (λ (x : List ℕ). IsCommand x h.1) (h.2.2 ∙ sym k.1.1.2) h.3)

long_bad : (a : Awaited) (u : MessageStage) (p : Pdv) → earlier a u p TooLong BadCommand
unfolding earlier
long_bad a u p s t h k = omega (arith, h.3, k.1.1.0.2)

one_fault : (a : Awaited) (u : MessageStage) (p : Pdv) (f g : DimseFault) (s t : MessageStage) → f ≢ Memory → g ≢ Memory → TakesValue a u p (Err f) s → TakesValue a u p (Err g) t → f ≡ g
unfolding earlier
one_fault a u p Memory g s t x y h k = absurd (x refl)
one_fault a u p MixedContext Memory s t x y h k = absurd (y refl)
one_fault a u p OutOfPlace Memory s t x y h k = absurd (y refl)
one_fault a u p TooLong Memory s t x y h k = absurd (y refl)
one_fault a u p BadCommand Memory s t x y h k = absurd (y refl)
one_fault a u p MixedContext MixedContext s t x y h k = refl
one_fault a u p OutOfPlace OutOfPlace s t x y h k = refl
one_fault a u p TooLong TooLong s t x y h k = refl
one_fault a u p BadCommand BadCommand s t x y h k = refl
one_fault a u p MixedContext OutOfPlace s t x y h k = absurd (mixed_kind a u p s t h k)
one_fault a u p MixedContext TooLong s t x y h k = absurd (mixed_long a u p s t h k)
one_fault a u p MixedContext BadCommand s t x y h k = absurd (mixed_bad a u p s t h k)
one_fault a u p OutOfPlace MixedContext s t x y h k = absurd (mixed_kind a u p t s k h)
one_fault a u p OutOfPlace TooLong s t x y h k = absurd (kind_long a u p s t h k)
one_fault a u p OutOfPlace BadCommand s t x y h k = absurd (kind_bad a u p s t h k)
one_fault a u p TooLong MixedContext s t x y h k = absurd (mixed_long a u p t s k h)
one_fault a u p TooLong OutOfPlace s t x y h k = absurd (kind_long a u p t s k h)
one_fault a u p TooLong BadCommand s t x y h k = absurd (long_bad a u p s t h k)
one_fault a u p BadCommand MixedContext s t x y h k = absurd (mixed_bad a u p t s k h)
one_fault a u p BadCommand OutOfPlace s t x y h k = absurd (kind_bad a u p t s k h)
one_fault a u p BadCommand TooLong s t x y h k = absurd (long_bad a u p t s k h)

pub one_take : (a : Awaited) (u : MessageStage) (p : Pdv) (r q : Result (Option Message) DimseFault) (s t : MessageStage) → r ≢ Err Memory → q ≢ Err Memory → TakesValue a u p r s → TakesValue a u p q t → (r ≡ q) × (s ≡ t)
one_take a u p (Ok m) (Ok n) s t x y h k = let one = taken_once a u p m n s t h k in (ap Ok one.0, one.1)
one_take a u p (Err f) (Err g) s t x y h k =
    (ap Err (one_fault a u p f g s t (λ e. x (ap Err e)) (λ e. y (ap Err e)) h k), fault_stays a u p f s h ∙ sym (fault_stays a u p g t k))
one_take a u p (Ok m) (Err g) s t x y h k = absurd (no_fault a u p m g s t (λ e. y (ap Err e)) h k)
one_take a u p (Err f) (Ok n) s t x y h k = absurd (no_fault a u p n f t s (λ e. x (ap Err e)) k h)

-- ---- after a fault no message goes on from there

-- where the values before are taken, a run that gives a message takes the next one too
goes_on : (a : Awaited) (ps : List Pdv) (p : Pdv) (more front : List Pdv) (final : Pdv) (m : Message) (old mid end : MessageStage) → ps ++ p ∷ more ≡ front ++ final ∷ [] → Waits a old ps mid
    → (wait : MessageStage) × Waits a old front wait × TakesValue a wait final (Ok (Some m)) end → (r : Option Message) × (new : MessageStage) × TakesValue a mid p (Ok r) new
goes_on a [] p more [] final m old mid end e w (wait, v, t) =
    let same : p ≡ final = cc in
    (Some m, end, subst (λ (q : Pdv). TakesValue a mid q (Ok (Some m)) end) (sym same) (subst (λ (u : MessageStage). TakesValue a u final (Ok (Some m)) end) (sym v ∙ w) t))
goes_on a [] p more (x ∷ front) final m old mid end e w (wait, v, t) =
    let same : p ≡ x = cc in
    (None, v.0, subst (λ (q : Pdv). TakesValue a mid q (Ok None) v.0) (sym same) (subst (λ (u : MessageStage). TakesValue a u x (Ok None) v.0) w v.1))
goes_on a (q ∷ ps) p more [] final m old mid end e w (wait, v, t) = absurd (too_long ps e)
  where
    too_long : (ps : List Pdv) → q ∷ (ps ++ p ∷ more) ≡ final ∷ [] → ⊥
    too_long [] e = absurd (cc)
    too_long (y ∷ ys) e = absurd (cc)
goes_on a (q ∷ ps) p more (x ∷ front) final m old mid end e w (wait, v, t) =
    let same : q ≡ x = cc in
    let rest : ps ++ p ∷ more ≡ front ++ final ∷ [] = cc in
    let here : TakesValue a old q (Ok None) v.0 = subst (λ (z : Pdv). TakesValue a old z (Ok None) v.0) (sym same) v.1 in
    let one = one_take a old q (Ok None) (Ok None) w.0 v.0 (λ e. absurd (cc)) (λ e. absurd (cc)) w.1 here in
    goes_on a ps p more front final m v.0 mid end rest (subst (λ (u : MessageStage). Waits a u ps mid) one.1 w.2) (wait, v.2, t)

pub no_message : (a : Awaited) (ps : List Pdv) (p : Pdv) (f : DimseFault) (mid new : MessageStage) → f ≢ Memory → Waits a Idle ps mid → TakesValue a mid p (Err f) new
    → (more : List Pdv) (m : Message) → IsMessage (ps ++ p ∷ more) m → IsAwaited a m.command → ⊥
no_message a ps p f mid new other w t more m is awaited =
    let (front, final, wait, split, v, ends) = is_given a (ps ++ p ∷ more) m is awaited in
    let on = goes_on a ps p more front final m Idle mid Idle split w (wait, v, ends) in
    no_fault a mid p on.0 f on.1 new other on.2 t
