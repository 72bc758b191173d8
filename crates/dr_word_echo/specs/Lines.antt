-- The line that is printed of an echo: its fields joined by tabs, and the LF that ends it.
use Rattle.std.specs.Prelude.{ℕ, ◌/◌, ◌%◌, List, [], ◌∷◌, ◌++◌, codes, decimal, None, Some}
use Rattle.std.specs.declared.option.Option.{Option}
use Rattle.hex.specs.Hex.{encode_upper}
use Rattle.dr_base.specs.Texts.{Text}
use Rattle.dr_session.specs.declared.echo_desk.Echoed.{Echoed}
use Rattle.dr_session.specs.declared.ends.Ended.{Ended}
use Rattle.dr_session.specs.declared.ends.Ended.TheVariants.{Rejected, Aborted, Released, Closed}

-- a status as four upper-case hex digits
abbrev pub status_digits : ℕ → Text
status_digits status = encode_upper (status / 256 ∷ status % 256 ∷ [])

-- How an association ended on which no response came: rejected, with the result, source and reason
-- of PS3.8 9.3.4; aborted; released, since its context wasn't accepted; or closed.
abbrev pub ended_fields : Ended → Text
ended_fields (Rejected rj) =
    codes "rejected" ++ (9 ∷ decimal rj.result) ++ (9 ∷ decimal rj.source)
    ++ (9 ∷ decimal rj.reason)
ended_fields Aborted = codes "aborted"
ended_fields Released = codes "no-context"
ended_fields Closed = codes "closed"

-- the status of the response, where one came, else how the association ended
abbrev pub echo_fields : Option ℕ → Ended → Text
echo_fields (Some status) ended = codes "status" ++ (9 ∷ status_digits status)
echo_fields None ended = ended_fields ended

abbrev pub echo_line : Echoed → Text
echo_line echoed = echo_fields echoed.status echoed.ended ++ (10 ∷ [])
