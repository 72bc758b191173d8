-- What comes over a socket.
use Rattle.std.specs.Prelude.{◌≡◌, ◌⊎◌, ℕ, ◌+◌, ◌<◌, ◌≤◌, Bool, true, false, List, length, Some}
use Rattle.std.specs.Prelude.{None}
use Rattle.std.specs.declared.option.Option.{Option}
use Rattle.std.specs.Io.KnownBytes.{Consumes, IsAtEnd, Keeps}
use Rattle.dr_session.specs.declared.ends.Heard.{Heard}
use Rattle.dr_session.specs.declared.ends.Heard.TheVariants.{Bytes, End, Late, Idle, Crowded}
use Rattle.dr_session.specs.declared.ends.Heard.TheVariants.{Fault, Memory}
use Rattle.dr_run_net.specs.declared.limits.Limits.{Limits}
use Rattle.dr_run_net.specs.declared.window.Window.{Window}

-- the bytes that are still to be read, where they are known, the moment of the last late mark, that
-- since which no message is under way, what came of a message that is, and whether the end was
-- warned that all links are cut
pub record Ear : Type 0 where
  pub left : Option (List ℕ)
  pub marked : ℕ
  pub rested : ℕ
  pub window : Option Window
  pub warned : Bool

abbrev pub ear : Option (List ℕ) → ℕ → ℕ → Option Window → Bool → Ear
ear left marked rested window warned = record {
  left = left;
  marked = marked;
  rested = rested;
  window = window;
  warned = warned;
}

-- a message that is under way has brought enough in time, so far
abbrev pub IsSwift : ℕ → ℕ → Option Window → Type 0
IsSwift limit now None = Unit {0}
IsSwift limit now (Some window) = now < window.since + limit

-- the window after so many bytes more at a moment: with 65,536 of them a new one begins
abbrev pub began : ℕ → Option Window → ℕ
began now None = now
began now (Some window) = window.since

abbrev pub brought : Option Window → ℕ
brought None = 0
brought (Some window) = window.brought

abbrev pub IsWidened : ℕ → ℕ → Option Window → Window → Type 0
IsWidened now count old new =
    ((65536 ≤ brought old + count) × (new.since ≡ now) × (new.brought ≡ 0))
    ⊎ ((brought old + count < 65536)
    × (new.since ≡ began now old)
    × (new.brought ≡ brought old + count))

-- the silence between two messages isn't too long yet
abbrev pub IsAwaited : ℕ → ℕ → ℕ → Option Window → Type 0
IsAwaited limit now rested None = now < rested + limit
IsAwaited limit now rested (Some window) = Unit {0}

-- the other side was silent between two messages for as long as its limit allows
abbrev pub IsSilent : ℕ → ℕ → ℕ → Option Window → Type 0
IsSilent limit now rested None = rested + limit ≤ now
IsSilent limit now rested (Some window) = ⊥

-- a message that is under way brought too little in the time that its limit gives
abbrev pub IsTooSlow : ℕ → ℕ → Option Window → Type 0
IsTooSlow limit now None = ⊥
IsTooSlow limit now (Some window) = window.since + limit ≤ now

-- What is heard at a moment. Bytes and the end come only less than 1,000 ms behind the last late
-- mark, so that a mark comes each second, whatever the other side sends; and only where a message
-- that is under way brought 65,536 bytes within each time that its limit gives. A mark comes where
-- the last one is so far behind, or where nothing came, and that not for too long between two
-- messages; it takes no byte. Silence for too long is heard where the other side was silent, or
-- brought too little of a message, and both begin to count anew; and without either once, as a
-- warning that all links are cut.
abbrev pub HearsAt : Limits → ℕ → Ear → Heard → Ear → Type 0
HearsAt limits now old (Bytes piece) new =
    (now < old.marked + 1000)
    × IsSwift limits.message now old.window
    × Consumes old.left new.left piece
    × (new.marked ≡ old.marked)
    × (new.rested ≡ old.rested)
    × (new.warned ≡ old.warned)
    × ((window : Window)
    × (new.window ≡ Some window)
    × IsWidened now (length piece) old.window window)
HearsAt limits now old End new =
    (now < old.marked + 1000) × IsSwift limits.message now old.window × IsAtEnd new.left
HearsAt limits now old Late new =
    ((old.marked + 1000 ≤ now) ⊎ IsAwaited limits.idle now old.rested old.window)
    × Keeps old.left new.left
    × (new.marked ≡ now)
    × (new.rested ≡ old.rested)
    × (new.window ≡ old.window)
    × (new.warned ≡ old.warned)
HearsAt limits now old Idle new =
    (IsSilent limits.idle now old.rested old.window
    ⊎ IsTooSlow limits.message now old.window
    ⊎ ((old.warned ≡ false) × (new.warned ≡ true)))
    × Keeps old.left new.left
    × (new.rested ≡ now)
    × (new.window ≡ None)
HearsAt limits now old Crowded new = ⊥
HearsAt limits now old Fault new = ⊥
HearsAt limits now old Memory new = ⊥

-- what is heard, at some moment that the clock may tell; of a fault, and of want of memory, nothing
-- is said
abbrev pub Hears : (ℕ → Type 0) → Limits → Ear → Heard → Ear → Type 0
Hears tells limits old Fault new = Unit {0}
Hears tells limits old Memory new = Unit {0}
Hears tells limits old came new = (now : ℕ) × tells now × HearsAt limits now old came new
