-- Laws of pages.
use Rattle.std.specs.Prelude.{◌≡◌, [], ◌++◌, ℕ, All, None, Some, codes, ◌<◌}
use Rattle.dr_ledger.specs.declared.item.Cause.TheVariants as cause
use Rattle.dr_ledger.specs.declared.item.Progress.TheVariants.{Held, Waiting}
use Rattle.dr_run_page.specs.Documents.{ago_words, both_buttons, buttons, due_words}
use Rattle.dr_run_page.specs.Documents.{held_row, light_of}
use Rattle.dr_run_page.specs.Markup.{IsHarmlessByte, in_markup, markup_byte}
use Rattle.std.specs.Prelude.{true, false}

-- whatever a byte is, what stands for it is no markup, and prints
abbrev pub IsNoMarkup : Type 0
IsNoMarkup = (b : ℕ) → b < 256 → All IsHarmlessByte (markup_byte b)

-- rows of an instance that is held, and of one that waits; buttons of a row, and none where its UID
-- would be markup; moments and lights
abbrev pub AreWrittenSo : Type 0
AreWrittenSo =
    (held_row None ((codes "1.2", codes "ARCH"), Held (cause.Status 0xC0F1))
    ≡ codes "<tr><td>1.2</td><td>ARCH</td><td>status C0F1</td><td></td></tr>\n")
    × (held_row None ((codes "1.2", codes "ARCH"), Waiting 3 1000) ≡ [])
    × (buttons (Some (codes "7f")) (codes "1.2") (codes "ARCH")
    ≡ both_buttons (codes "7f") (codes "1.2") (codes "ARCH"))
    × (buttons (Some (codes "7f")) (codes "1<2") (codes "ARCH") ≡ [])
    × (ago_words 5000 2000 ≡ codes "3 s ago")
    × (in_markup (codes "<b>&\"'\\") ≡ codes "\\x3cb\\x3e\\x26\\x22\\x27\\x5c")
    × (due_words 5000 (Some 2000) ≡ codes "for 3 s")
    × (due_words 2000 (Some 5000) ≡ codes "in 3 s")
    × (due_words 2000 (Some 0) ≡ codes "not tried")
    × (light_of false false true ≡ codes "amber\">Rows wait")
    × (light_of false true true ≡ codes "red\">Rows are held")
