-- Laws and figures of scripts.
use Rattle.std.specs.Prelude.{◌≡◌, ℕ, ◌+◌, List, [], ◌∷◌, ◌++◌, codes, false, length}
use Rattle.dr_base.specs.Texts.{Text}
use Rattle.dr_cert_text.specs.Cuts.{cuts}
use Rattle.dr_world_script.specs.declared.act.Act.{Act}
use Rattle.dr_world_script.specs.declared.act.Act.TheVariants as act
use Rattle.dr_world_script.specs.declared.foreign.Foreign.TheVariants as foreign
use Rattle.dr_world_script.specs.declared.step.Side.TheVariants.{Acceptor}
use Rattle.dr_world_script.specs.declared.step.Step.TheVariants.{Open, Move}
use Rattle.dr_world_script.specs.Scripts.{IsLineAt, IsScriptOf, Tells, is_skipped}

-- a line tells one thing
abbrev pub OneActForALine : Type 0
OneActForALine = (line : Text) (a b : Act) → Tells line a → Tells line b → a ≡ b

-- a text is the script of one list
abbrev pub OneScriptForAText : Type 0
OneScriptForAText =
    (text : Text) (some others : List Act)
    → IsScriptOf text some → IsScriptOf text others → some ≡ others

-- the n-th line, counted from 1, tells this
abbrev pub IsLineOf : Text → ℕ → Act → Type 0
IsLineOf text n a = (before : List Text) × (line : Text) × (later : List Text)
    × (cuts 10 text ≡ before ++ line ∷ later) × (n ≡ length before + 1)
    × (is_skipped line ≡ false)
    × Tells line a

-- the line that is found for a place tells what stands there
abbrev pub LinesAreInOrder : Type 0
LinesAreInOrder =
    (text : Text) (before later : List Act) (a : Act) (n : ℕ)
    → IsScriptOf text (before ++ a ∷ later)
    → IsLineAt text (length before) n
    → IsLineOf text n a

-- `open`, tab, `CT1`, tab, `GATE`
abbrev pub open_line : Text
open_line = codes "open\tCT1\tGATE"

-- `move`, tab, `1`, tab, `acceptor`, tab, `1000000`
abbrev pub move_line : Text
move_line = codes "move\t1\tacceptor\t1000000"

-- `adopt`, tab, `next.toml`, tab, `next`
abbrev pub adopt_line : Text
adopt_line = codes "adopt\tnext.toml\tnext"

-- `bytes`, tab, `1`, tab, `acceptor`, tab, `0a`
abbrev pub bytes_line : Text
bytes_line = codes "bytes\t1\tacceptor\t0a"

-- `foreign`, tab, `CT1`
abbrev pub foreign_line : Text
foreign_line = codes "foreign\tCT1"

-- `answer`, tab, `2`, tab, `A700`
abbrev pub answer_line : Text
answer_line = codes "answer\t2\tA700"

-- what six lines tell, and what a script of them and of lines that are skipped tells
abbrev pub LinesTellSteps : Type 0
LinesTellSteps =
    Tells open_line (act.Step (Open (codes "CT1") (codes "GATE")))
    × Tells move_line (act.Step (Move 1 Acceptor 1000000))
    × Tells adopt_line (act.Adopt (codes "next.toml") (codes "next"))
    × Tells bytes_line (act.Bytes 1 Acceptor (10 ∷ []))
    × Tells foreign_line (act.Foreign (foreign.Node (codes "CT1")))
    × Tells answer_line (act.Foreign (foreign.Answer 2 0xA700))
    × IsScriptOf (codes "# two steps\n\n" ++ open_line ++ (10 ∷ []) ++ move_line ++ (10 ∷ []))
    (act.Step (Open (codes "CT1") (codes "GATE")) ∷ act.Step (Move 1 Acceptor 1000000) ∷ [])
    × (is_skipped (codes " ") ≡ false)

-- an end that isn't one, a word alone, a field too many, a plan without a certificate, an end at
-- which nothing is written, and a status of one byte
abbrev pub LinesTellNone : Type 0
LinesTellNone =
    (a : Act)
    → (Tells (codes "move\t1\tnobody\t1") a → ⊥)
    × (Tells (codes "push") a → ⊥)
    × (Tells (codes "open\tCT1\tGATE\t") a → ⊥)
    × (Tells (codes "adopt\tnext.toml") a → ⊥)
    × (Tells (codes "bytes\t1\tacceptor") a → ⊥)
    × (Tells (codes "answer\t2\t00") a → ⊥)
