-- By which names a request may call a node.
use Rattle.std.specs.Prelude.{List, [], ◌∷◌, ◌++◌, Option, None, Some, codes}
use Rattle.dr_base.specs.Texts.{Text}

-- one name more, alone and with the port
abbrev pub more_names : Text → Option Text → List Text
more_names port None = []
more_names port (Some host) = host ∷ (host ++ port) ∷ []

-- the address itself, `localhost` with its port, and one name more, if one is given
abbrev pub names_of : Text → Text → Option Text → List Text
names_of at port host = (at ∷ (codes "localhost" ++ port) ∷ []) ++ more_names port host
