-- Bytes that are written behind others.
use Rattle.std.proofs.Common.{◌≡◌, ℕ, List, ◌++◌, Result, Ok, Err, ap, ◌∙◌, append_assoc}
use Rattle.std.specs.Prelude.{OnErr}
use Rattle.dr_base.specs.Texts.{Begins}

-- more behind bytes that stand behind others
pub behind : (a b c more : List ℕ) → Begins a b → c ≡ b ++ more → Begins a c
behind a b c more (first, before) here = (first ++ more, here ∙ ap (λ (t : List ℕ). t ++ more) before ∙ append_assoc a first more)

-- a writer is refused behind what was written before
pub further : {A E : Type 0} (r : Result A E) (a b c first : List ℕ) → b ≡ a ++ first → Begins b c → OnErr r (Begins a c)
further (Ok x) a b c first before rest = tt
further (Err e) a b c first before (more, here) = behind a b c more (first, before) here
