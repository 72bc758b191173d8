-- How far the orderly end of a node is.
use Rattle.std.specs.Prelude.{◌≡◌, ◌⊎◌, ◌≤◌, ◌<◌, ◌+◌, ℕ, Bool, true, false}
use Rattle.dr_run_serve.specs.declared.shutting.EndStage.{EndStage}
use Rattle.dr_run_serve.specs.declared.shutting.EndStage.TheVariants.{Serving, Ending, Cut}

-- the node serves
abbrev pub serves : EndStage → Bool
serves Serving = true
serves (Ending since) = false
serves Cut = false

-- a node that serves goes on, or begins to end at that moment
abbrev pub BeginsToEnd : ℕ → EndStage → Type 0
BeginsToEnd now new = (new ≡ Serving) ⊎ (new ≡ Ending now)

-- what was under way when it began to end has 10 s, and is cut then
abbrev pub IsCutThen : ℕ → ℕ → EndStage → Type 0
IsCutThen since now new =
    ((now < since + 10000) × (new ≡ Ending since)) ⊎ ((since + 10000 ≤ now) × (new ≡ Cut))

-- what a stage is followed by at that moment
abbrev pub IsNextStage : EndStage → ℕ → EndStage → Type 0
IsNextStage Serving now new = BeginsToEnd now new
IsNextStage (Ending since) now new = IsCutThen since now new
IsNextStage Cut now new = new ≡ Cut
