-- What a step of the state table makes of an end without its bytes.
use Rattle.std.specs.Prelude.{Result, Ok, Err}
use Rattle.dr_ulstate.specs.declared.phase.Next.{Next}
use Rattle.dr_ulstate.specs.declared.table.Action.{Action}
use Rattle.dr_session.specs.declared.ends.Core.{Core}

abbrev pub phased : Next → Core → Core
phased phase c = record c { phase = phase }

-- the action and the end in the phase that follows, or the end in the phase that is given back
abbrev pub after_step : Core → Result (Action × Next) Next → Result (Action × Core) Core
after_step c (Ok x) = Ok (x.0, phased x.1 c)
after_step c (Err same) = Err (phased same c)
