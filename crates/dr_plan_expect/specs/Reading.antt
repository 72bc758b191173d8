-- What a text of expectations says as a whole.
use Rattle.std.specs.Prelude.{List, Result, Ok, Err}
use Rattle.toml.specs.Data.{Members}
use Rattle.dr_base.specs.Texts.{Text}
use Rattle.dr_plan_text.specs.Tables.{IsTree}
use Rattle.dr_plan_expect.specs.Tables.{IsExpectRoot}
use Rattle.dr_plan_expect.specs.declared.words.Expectation.{Expectation}
use Rattle.dr_plan_expect.specs.declared.fault.ExpectFault.{ExpectFault}
use Rattle.dr_plan_expect.specs.declared.fault.ExpectFault.TheVariants.{Expect, Memory}

-- the text is one in TOML that writes these rows
abbrev pub WritesExpectations : Text → List Expectation → Type 0
WritesExpectations text rows = (root : Members) × IsTree text root × IsExpectRoot root rows

-- what is read of a text: the rows that it writes, or that it writes none
abbrev pub ReadsExpectations : Text → Result (List Expectation) ExpectFault → Type 0
ReadsExpectations text (Ok rows) = WritesExpectations text rows
ReadsExpectations text (Err (Expect line)) =
    (rows : List Expectation) → WritesExpectations text rows → ⊥
ReadsExpectations text (Err Memory) = Unit {0}
