-- UIDs of the standard, but for those of transfer syntaxes.
use Rattle.std.specs.Prelude.{codes}
use Rattle.dr_base.specs.Texts.{Text}

-- the application context of DICOM (PS3.7 annex A.2.1)
abbrev pub application_context : Text
application_context = codes "1.2.840.10008.3.1.1.1"

-- the Verification SOP class (PS3.4 annex A), which each node takes from everybody that may call it
abbrev pub verification : Text
verification = codes "1.2.840.10008.1.1"

-- the CT Image Storage SOP class (PS3.4 B.5)
abbrev pub image : Text
image = codes "1.2.840.10008.5.1.4.1.1.2"
