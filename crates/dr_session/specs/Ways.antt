-- Where each call of a link and of a desk has one answer, a session goes one way.
use Rattle.std.specs.Prelude.{◌≡◌, ℕ, Bool, true, List}
use Rattle.dr_session.specs.declared.ends.Heard.{Heard}
use Rattle.dr_session.specs.declared.wishes.Kind.{Kind}
use Rattle.dr_session.specs.Desks.{DeskCall, DeskAnswer}
use Rattle.dr_session.specs.Links.{EndDoing, Place, Served}

-- a call of the desk has one answer, and leaves one desk
abbrev pub AnswersOneWay : {S : Type 0} → (S → DeskCall → DeskAnswer → S → Type 0) → Type 0
AnswersOneWay {S} step =
    (s t u : S) (call : DeskCall) (a b : DeskAnswer)
    → step s call a t → step s call b u → (a ≡ b) × (t ≡ u)

-- what is heard leaves one link
abbrev pub HearsOneWay : {L : Type 0} → (L → Heard → L → Type 0) → Type 0
HearsOneWay {L} hears = (k l m : L) (came : Heard) → hears k came l → hears k came m → l ≡ m

-- what was sent leaves one link
abbrev pub SendsOneWay : {L : Type 0} → (L → List ℕ → Bool → L → Type 0) → Type 0
SendsOneWay {L} sends =
    (k l m : L) (bytes : List ℕ) → sends k bytes true l → sends k bytes true m → l ≡ m

abbrev pub ClosesOneWay : {L : Type 0} → (L → L → Type 0) → Type 0
ClosesOneWay {L} closes = (k l m : L) → closes k l → closes k m → l ≡ m

-- What a session does is a function of what was heard and asked at its end, each at its moment, and
-- of what its desk answered: of a link and a desk that note their calls it leaves one link, one
-- desk and one end.
abbrev pub SessionsGoOneWay : {L S C : Type 0}
    → (L → Heard → L → Type 0)
    → (L → List ℕ → Bool → L → Type 0)
    → (L → L → Type 0)
    → (S → DeskCall → DeskAnswer → S → Type 0)
    → (C → ℕ → Type 0) → Type 0
SessionsGoOneWay {L} {S} {C} hears sends closes step tells =
    HearsOneWay hears
    → SendsOneWay sends
    → ClosesOneWay closes
    → AnswersOneWay step
    → (clock : C) (others : ℕ) (kind : Kind) (asked told again : ℕ) (old new other : Place L S)
    (xs : List EndDoing)
    → Served hears sends closes step (tells clock) others kind asked old xs told new
    → Served hears sends closes step (tells clock) others kind asked old xs again other
    → (told ≡ again) × (new ≡ other)
