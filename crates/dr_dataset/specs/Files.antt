-- Part 10 files (PS3.10 section 7.1).
use Rattle.std.specs.Prelude.{◌≡◌, ◌≢◌, ℕ, ◌+◌, List, [], ◌++◌, length, Option, Some, option_map}
use Rattle.std.specs.Prelude.{◌⊎◌, Result, Ok, Err, codes}
use Rattle.dr_base.specs.Runs.{Run}
use Rattle.dr_base.specs.declared.syntax.Syntax.{Syntax}
use Rattle.dr_base.specs.declared.syntax.Syntax.TheVariants.{Explicit}
use Rattle.dr_dataset.specs.declared.header.Tag.{Tag}
use Rattle.dr_dataset.specs.declared.values.Part10.{Part10}
use Rattle.dr_dataset.specs.declared.fault.FileFault.{FileFault}
use Rattle.dr_dataset.specs.declared.fault.FileFault.TheVariants.{NotDicom, Meta, OtherSyntax}
use Rattle.dr_dataset.specs.declared.fault.FileFault.TheVariants.{Memory}
use Rattle.dr_dataset.specs.Elements.{Element, StartsTag, StartsElement}
use Rattle.dr_base.specs.Padding.{unpadded}
use Rattle.dr_dataset.specs.DataSet.{first_value}
use Rattle.dr_base.specs.Syntaxes.{syntax_uid}

-- the text begins with a preamble of 128 bytes and DICM, and then the rest follows
abbrev pub IsFile : List ℕ → List ℕ → Type 0
IsFile text rest =
    (preamble : List ℕ) × (length preamble ≡ 128) × (text ≡ preamble ++ (codes "DICM" ++ rest))

-- an element of the file meta information, in Explicit VR Little Endian
abbrev pub StartsMeta : List ℕ → Element → List ℕ → Type 0
StartsMeta text e rest = StartsElement 32 Explicit text e rest × (e.tag.group ≡ 0x0002)

-- the file meta information ends here: with the file, or before a tag of another group
abbrev pub EndsMeta : List ℕ → Type 0
EndsMeta text =
    (text ≡ []) ⊎ ((t : Tag) × (rest : List ℕ) × StartsTag text t rest × (t.group ≢ 0x0002))

-- the transfer syntax UID of the first (0002,0010), without the padding at its end, and empty where
-- its length is undefined
abbrev pub named : List Element → Option (List ℕ)
named es = option_map unpadded (first_value 0x0002 0x0010 es)

-- elements of group 0002, one of which names that transfer syntax, then the data set; the group
-- length isn't looked at
abbrev pub IsMeta : List ℕ → List ℕ → List ℕ → Type 0
IsMeta text name behind =
    (es : List Element) × Run StartsMeta es text behind × EndsMeta behind × (named es ≡ Some name)

-- what reading a file answers: its transfer syntax and where its data set starts, or the fault: no
-- DICM, no file meta information that names a syntax, or a syntax that isn't routed
abbrev pub ReadsFile : List ℕ → Result Part10 FileFault → Type 0
ReadsFile text (Ok p) =
    (rest name behind : List ℕ)
    × IsFile text rest × IsMeta rest name behind
    × (name ≡ syntax_uid p.syntax)
    × (p.start + length behind ≡ length text)
ReadsFile text (Err NotDicom) = (rest : List ℕ) → IsFile text rest → ⊥
ReadsFile text (Err Meta) =
    (rest : List ℕ) × IsFile text rest × ((name behind : List ℕ) → IsMeta rest name behind → ⊥)
ReadsFile text (Err OtherSyntax) =
    (rest name behind : List ℕ)
    × IsFile text rest × IsMeta rest name behind
    × ((s : Syntax) → name ≢ syntax_uid s)
ReadsFile text (Err Memory) = ⊥
