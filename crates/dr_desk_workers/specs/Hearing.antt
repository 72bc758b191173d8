-- What a worker hears of a connection, and what it writes on it.
use Rattle.std.specs.Prelude.{◌≡◌, ◌⊎◌, ℕ, Bool, true, false, List, [], ◌∷◌, ◌++◌, Option, Some}
use Rattle.std.specs.Prelude.{None}
use Rattle.std.specs.List.{AllByRecursion}
use Rattle.dr_session.specs.declared.ends.Heard.{Heard}
use Rattle.dr_session.specs.declared.ends.Heard.TheVariants.{Bytes, Late, Crowded, Fault, Memory}
use Rattle.dr_desk_workers.specs.declared.ahead.Ahead.{Ahead}

-- what is left to be heard, once the first was
abbrev pub later : Ahead → Ahead
later ahead = record { first = ahead.second; second = ahead.third; third = None }

-- What is heard: what came ahead, in its order; behind that what the link hears; where there is no
-- room for it, this; or, where all sessions are to end, a fault.
abbrev pub HearsBehind : {K : Type 0} → (K → Heard → K → Type 0)
    → Ahead → K → Heard → Ahead → K → Type 0
HearsBehind hears ahead k came after l =
    ((ahead.first ≡ Some came) × (after ≡ later ahead) × (l ≡ k))
    ⊎ ((ahead.first ≡ None) × hears k came l)
    ⊎ ((came ≡ Fault) × (after ≡ ahead) × (l ≡ k))
    ⊎ ((came ≡ Crowded) × (after ≡ ahead) × (l ≡ k))

-- The same, of an association that is open or not: hearing lets nobody in, and nobody out.
abbrev pub HearsInside : {K : Type 0} → (K → Heard → K → Type 0)
    → Ahead → K → Bool → Heard → Ahead → K → Bool → Type 0
HearsInside hears ahead k inside came after l now =
    HearsBehind hears ahead k came after l × (now ≡ inside)

-- What hearing makes of a turn at the door, by whether the request was asked for before: it stays
-- for what is heard first, and ends where more is waited for.
abbrev pub KeepsTurn : {T : Type 0} → Bool → Option T → Option T → Type 0
KeepsTurn false before now = now ≡ before
KeepsTurn true before now = now ≡ None

-- the link heard these, one after the other
abbrev pub HearsAll : {K : Type 0} → (K → Heard → K → Type 0) → K → List Heard → K → Type 0
HearsAll hears k [] l = l ≡ k
HearsAll hears k (came ∷ more) l = (m : _) × hears k came m × HearsAll hears m more l

-- the bytes among what was heard, joined
abbrev pub spoken : List Heard → List ℕ
spoken [] = []
spoken (Bytes piece ∷ more) = piece ++ spoken more
spoken (came ∷ more) = spoken more

abbrev pub IsPiece : Heard → Type 0
IsPiece (Bytes piece) = Unit {0}
IsPiece came = ⊥

-- what doesn't end the waiting for a first PDU: bytes, and late marks
abbrev pub IsWaited : Heard → Type 0
IsWaited (Bytes piece) = Unit {0}
IsWaited Late = Unit {0}
IsWaited came = ⊥

abbrev pub listed : Option Heard → List Heard → List Heard
listed None more = more
listed (Some came) more = came ∷ more

-- what was put ahead of a session, in the order in which it is to be heard
abbrev pub told : Ahead → List Heard
told ahead = listed ahead.first (listed ahead.second (listed ahead.third []))

-- a text was put ahead, and behind it what ended the waiting, if anything did
pub record Puts (text : List ℕ) (ended : Option Heard) (ahead : Ahead) : Type 0 where
  pub pieces : List Heard
  pub are : AllByRecursion IsPiece pieces
  pub join : spoken pieces ≡ text
  pub told : told ahead ≡ pieces ++ listed ended []

-- What was heard ahead of a session is what the link heard: all its bytes, in order, and what ended
-- the waiting, if anything did; only late marks are left out.
pub record IsHeard {K : Type 0} (hears : K → Heard → K → Type 0) (k : K) (ahead : Ahead)
    (l : K) : Type 0 where
  pub heard : List Heard
  pub ended : Option Heard
  pub all : HearsAll hears k (heard ++ listed ended []) l
  pub waited : AllByRecursion IsWaited heard
  pub puts : Puts (spoken heard) ended ahead

-- Or the node ends, and the session hears a fault in its place; or there is no memory for it.
abbrev pub IsAhead : {K : Type 0} → (K → Heard → K → Type 0) → K → Ahead → K → Type 0
IsAhead hears k ahead l =
    IsHeard hears k ahead l
    ⊎ (told ahead ≡ Fault ∷ [])
    ⊎ (told ahead ≡ Memory ∷ [])

-- one thing more that was heard ends the waiting, or is one of those that don't
abbrev pub TakesHeard : Heard → List ℕ → Option Ahead → List ℕ → Type 0
TakesHeard came text None new = IsWaited came × (new ≡ text ++ spoken (came ∷ []))
TakesHeard came text (Some ahead) new =
    (IsWaited came × Puts (text ++ spoken (came ∷ [])) None ahead)
    ⊎ Puts text (Some came) ahead

-- a text that begins as an A-ASSOCIATE-AC does (PS3.8 9.3.3)
abbrev pub IsAcceptance : List ℕ → Type 0
IsAcceptance (kind ∷ rest) = kind ≡ 2
IsAcceptance [] = ⊥

-- What is written: the link writes it, or nothing is and that is a failure. An acceptance is
-- written of who was let in alone, and writing lets nobody out.
abbrev pub SendsInside : {K : Type 0} → (K → List ℕ → Bool → K → Type 0)
    → K → Bool → List ℕ → Bool → K → Bool → Type 0
SendsInside sends k inside bytes sent l now =
    (sends k bytes sent l ⊎ ((sent ≡ false) × (l ≡ k)))
    × (IsAcceptance bytes → sent ≡ true → now ≡ true)
    × (inside ≡ true → now ≡ true)
