-- Laws and figures of reports.
use Rattle.std.specs.Prelude.{◌≡◌, [], ◌∷◌, ◌++◌, codes}
use Rattle.dr_ledger.specs.declared.item.Cause.TheVariants as cause
use Rattle.dr_ledger.specs.declared.item.Progress.TheVariants.{Waiting, Held, Done, Dropped}
use Rattle.dr_ledger_report.specs.Reports.{name_line, report_of}

-- the report of a node to which one instance came, which went on, and of the rows that may be
abbrev pub ReportOfANode : Type 0
ReportOfANode =
    (name_line (codes "GATE")
    ++ report_of ((codes "CT1", codes "1.2.3.4") ∷ []) []
    (((codes "1.2.3.4", codes "ARCH"), Done) ∷ []) 2
    ≡ codes "node\tGATE\narrival\tCT1\t1.2.3.4\nrow\t1.2.3.4\tARCH\tdone\nlines\t2\n")
    × (report_of [] ((codes "1.2.3.4", 70) ∷ []) [] 1 ≡ codes "kept\t1.2.3.4\t70\nlines\t1\n")
    × (report_of [] []
    (((codes "9", codes "A"), Waiting 1 1000) ∷ ((codes "9", codes "B"), Held (cause.Status 0xC0F1))
    ∷ ((codes "9", codes "C"), Held cause.NoContext) ∷ []) 0
    ≡ codes
    "row\t9\tA\twaiting\t1\t1000\nrow\t9\tB\theld\tC0F1\nrow\t9\tC\theld\tno-context\nlines\t0\n")
    × (report_of [] [] (((codes "9", codes "A"), Dropped) ∷ []) 3
    ≡ codes "row\t9\tA\tdropped\nlines\t3\n")
