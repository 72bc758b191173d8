-- The commands of the worked figures.
use Rattle.std.proofs.Common.{◌≡◌, List, ℕ, ◌∷◌, ◌++◌, [], drop, refl, subst, arith, inl, inr}
use Rattle.std.specs.Prelude.{codes}
use Rattle.dr_dimse.specs.declared.command.Command.{Command}
use Rattle.dr_dimse.specs.Commands.{CommandElement, IsCommand, AreNumbers, StartsCommandElement}
use Rattle.dr_base.specs.Runs.{Run}
use Rattle.dr_base.specs.Standard.{image}
use Rattle.dr_dimse.specs.Vectors.{echo_request, echo_answer, store_request, moved_text, cancel, cancel_text, cancel_with}
use Rattle.dr_pdu.specs.Vectors.{echo_command}
use Rattle.dr_dimse.specs.Written.{written, CommandFits}
use Rattle.dr_dimse.proofs.OneCommand.{numbers_of}
use Rattle.dr_dimse.proofs.WrittenLemmas.{written_reads}

request_fits : CommandFits echo_request
request_fits = (omega arith, (refl, omega arith))

answer_fits : CommandFits echo_answer
answer_fits = (omega arith, omega arith, (refl, omega arith))

pub request_read : IsCommand echo_command echo_request
request_read = let same : written echo_request ≡ echo_command = refl in subst (λ (t : List ℕ). IsCommand t echo_request) same (written_reads echo_request request_fits)

pub answer_read : IsCommand (written echo_answer) echo_answer
answer_read = written_reads echo_answer answer_fits

-- a request of a move: the elements where they stand, and what they say
pub moved_read : IsCommand (moved_text (9 ∷ 0 ∷ [])) store_request
moved_read =
    let text = moved_text (9 ∷ 0 ∷ []) in
    let elements : List CommandElement = record { number = 0x0002; value = image ++ 0 ∷ [] } ∷ record { number = 0x0100; value = 1 ∷ 0 ∷ [] } ∷ record { number = 0x0110; value = 7 ∷ 0 ∷ [] } ∷ record { number = 0x0700; value = 0 ∷ 0 ∷ [] } ∷ record { number = 0x0800; value = 1 ∷ 0 ∷ [] } ∷ record { number = 0x1000; value = 0x31 ∷ 0x2E ∷ 0x32 ∷ 0x2E ∷ 0x33 ∷ 0 ∷ [] } ∷ record { number = 0x1030; value = codes "GATE            " } ∷ record { number = 0x1031; value = 9 ∷ 0 ∷ [] } ∷ [] in (
      elements,
      (drop 34 text, (omega arith, omega arith, refl), (drop 44 text, (omega arith, omega arith, refl), (drop 54 text, (omega arith, omega arith, refl), (drop 64 text, (omega arith, omega arith, refl), (drop 74 text, (omega arith, omega arith, refl), (drop 88 text, (omega arith, omega arith, refl), (drop 112 text, (omega arith, omega arith, refl), (drop 122 text, (omega arith, omega arith, refl), refl)))))))),
      (refl, refl, tt, refl, refl, tt, refl),
      ((omega arith, refl), (1, (omega arith, refl), refl), inr (inl ((λ e. omega (arith, e)), omega arith, (7, refl, (omega arith, refl)), refl)), (refl, refl, (omega arith, omega arith, ((omega arith, omega arith), ((omega arith, omega arith), ((omega arith, omega arith), ((omega arith, omega arith), ((omega arith, omega arith), ((omega arith, omega arith), ((omega arith, omega arith), ((omega arith, omega arith), ((omega arith, omega arith), ((omega arith, omega arith), ((omega arith, omega arith), ((omega arith, omega arith), ((omega arith, omega arith), ((omega arith, omega arith), ((omega arith, omega arith), ((omega arith, omega arith), ((omega arith, omega arith), ((omega arith, omega arith), ((omega arith, omega arith), ((omega arith, omega arith), ((omega arith, omega arith), ((omega arith, omega arith), ((omega arith, omega arith), ((omega arith, omega arith), ((omega arith, omega arith), tt)))))))))))))))))))))))))), (omega arith, omega arith, ((omega arith, omega arith), ((omega arith, omega arith), ((omega arith, omega arith), ((omega arith, omega arith), ((omega arith, omega arith), tt)))))))),
    )

-- with an originator's message id of four bytes it is none
pub long_id_bad : (c : Command) → IsCommand (moved_text (9 ∷ 0 ∷ 0 ∷ 0 ∷ [])) c → ⊥
long_id_bad c h =
    let text = moved_text (9 ∷ 0 ∷ 0 ∷ 0 ∷ []) in
    let elements : List CommandElement = record { number = 0x0002; value = image ++ 0 ∷ [] } ∷ record { number = 0x0100; value = 1 ∷ 0 ∷ [] } ∷ record { number = 0x0110; value = 7 ∷ 0 ∷ [] } ∷ record { number = 0x0700; value = 0 ∷ 0 ∷ [] } ∷ record { number = 0x0800; value = 1 ∷ 0 ∷ [] } ∷ record { number = 0x1000; value = 0x31 ∷ 0x2E ∷ 0x32 ∷ 0x2E ∷ 0x33 ∷ 0 ∷ [] } ∷ record { number = 0x1030; value = codes "GATE            " } ∷ record { number = 0x1031; value = 9 ∷ 0 ∷ 0 ∷ 0 ∷ [] } ∷ [] in
    let are = numbers_of elements text c (drop 34 text, (omega arith, omega arith, refl), (drop 44 text, (omega arith, omega arith, refl), (drop 54 text, (omega arith, omega arith, refl), (drop 64 text, (omega arith, omega arith, refl), (drop 74 text, (omega arith, omega arith, refl), (drop 88 text, (omega arith, omega arith, refl), (drop 112 text, (omega arith, omega arith, refl), (drop 124 text, (omega arith, omega arith, refl), refl)))))))) h in
    omega (arith, are.6)

pub cancel_read : IsCommand cancel_text cancel
cancel_read =
    let elements : List CommandElement = record { number = 0x0100; value = 0xFF ∷ 0x0F ∷ [] } ∷ record { number = 0x0120; value = 7 ∷ 0 ∷ [] } ∷ record { number = 0x0800; value = 1 ∷ 1 ∷ [] } ∷ [] in (
      elements,
      (drop 10 cancel_text, (omega arith, omega arith, refl), (drop 20 cancel_text, (omega arith, omega arith, refl), (drop 30 cancel_text, (omega arith, omega arith, refl), refl))),
      (refl, tt, refl, tt, refl, tt, tt),
      ((omega arith, refl), (0x0101, (omega arith, refl), refl), inl (refl, refl, refl), ((λ e. omega (arith, e)), (λ e. omega (arith, e)), (λ e. omega (arith, e)), (λ e. omega (arith, e)))),
    )

-- a cancel with other values: its elements
abbrev cancelled : List ℕ → List ℕ → List CommandElement
cancelled to status =
    record { number = 0x0100; value = 0xFF ∷ 0x0F ∷ [] } ∷ record { number = 0x0120; value = to } ∷ record { number = 0x0800; value = 1 ∷ 1 ∷ [] } ∷ record { number = 0x0900; value = status } ∷ []

pub cancelled_read : IsCommand (cancel_with (7 ∷ 0 ∷ []) (0 ∷ 0 ∷ [])) cancel
cancelled_read =
    let text = cancel_with (7 ∷ 0 ∷ []) (0 ∷ 0 ∷ []) in (
      cancelled (7 ∷ 0 ∷ []) (0 ∷ 0 ∷ []),
      (drop 10 text, (omega arith, omega arith, refl), (drop 20 text, (omega arith, omega arith, refl), (drop 30 text, (omega arith, omega arith, refl), (drop 40 text, (omega arith, omega arith, refl), refl)))),
      (refl, tt, refl, tt, refl, refl, tt),
      ((omega arith, refl), (0x0101, (omega arith, refl), refl), inl (refl, refl, refl), ((λ e. omega (arith, e)), (λ e. omega (arith, e)), (λ e. omega (arith, e)), (λ e. omega (arith, e)))),
    )

pub long_id_of_cancel : (c : Command) → IsCommand (cancel_with (7 ∷ 0 ∷ 0 ∷ 0 ∷ []) (0 ∷ 0 ∷ [])) c → ⊥
long_id_of_cancel c h =
    let text = cancel_with (7 ∷ 0 ∷ 0 ∷ 0 ∷ []) (0 ∷ 0 ∷ []) in
    let run : Run StartsCommandElement (cancelled (7 ∷ 0 ∷ 0 ∷ 0 ∷ []) (0 ∷ 0 ∷ [])) text [] = (drop 10 text, (omega arith, omega arith, refl), (drop 22 text, (omega arith, omega arith, refl), (drop 32 text, (omega arith, omega arith, refl), (drop 42 text, (omega arith, omega arith, refl), refl)))) in
    let are : AreNumbers (cancelled (7 ∷ 0 ∷ 0 ∷ 0 ∷ []) (0 ∷ 0 ∷ [])) = numbers_of (cancelled (7 ∷ 0 ∷ 0 ∷ 0 ∷ []) (0 ∷ 0 ∷ [])) text c run h in
    omega (arith, are.2)

pub short_id_of_cancel : (c : Command) → IsCommand (cancel_with (7 ∷ []) (0 ∷ 0 ∷ [])) c → ⊥
short_id_of_cancel c h =
    let text = cancel_with (7 ∷ []) (0 ∷ 0 ∷ []) in
    let run : Run StartsCommandElement (cancelled (7 ∷ []) (0 ∷ 0 ∷ [])) text [] = (drop 10 text, (omega arith, omega arith, refl), (drop 19 text, (omega arith, omega arith, refl), (drop 29 text, (omega arith, omega arith, refl), (drop 39 text, (omega arith, omega arith, refl), refl)))) in
    let are : AreNumbers (cancelled (7 ∷ []) (0 ∷ 0 ∷ [])) = numbers_of (cancelled (7 ∷ []) (0 ∷ 0 ∷ [])) text c run h in
    omega (arith, are.2)

pub no_id_of_cancel : (c : Command) → IsCommand (cancel_with [] (0 ∷ 0 ∷ [])) c → ⊥
no_id_of_cancel c h =
    let text = cancel_with [] (0 ∷ 0 ∷ []) in
    let run : Run StartsCommandElement (cancelled [] (0 ∷ 0 ∷ [])) text [] = (drop 10 text, (omega arith, omega arith, refl), (drop 18 text, (omega arith, omega arith, refl), (drop 28 text, (omega arith, omega arith, refl), (drop 38 text, (omega arith, omega arith, refl), refl)))) in
    let are : AreNumbers (cancelled [] (0 ∷ 0 ∷ [])) = numbers_of (cancelled [] (0 ∷ 0 ∷ [])) text c run h in
    omega (arith, are.2)

pub long_status_of_cancel : (c : Command) → IsCommand (cancel_with (7 ∷ 0 ∷ []) (0 ∷ 0 ∷ 0 ∷ 0 ∷ [])) c → ⊥
long_status_of_cancel c h =
    let text = cancel_with (7 ∷ 0 ∷ []) (0 ∷ 0 ∷ 0 ∷ 0 ∷ []) in
    let run : Run StartsCommandElement (cancelled (7 ∷ 0 ∷ []) (0 ∷ 0 ∷ 0 ∷ 0 ∷ [])) text [] = (drop 10 text, (omega arith, omega arith, refl), (drop 20 text, (omega arith, omega arith, refl), (drop 30 text, (omega arith, omega arith, refl), (drop 42 text, (omega arith, omega arith, refl), refl)))) in
    let are : AreNumbers (cancelled (7 ∷ 0 ∷ []) (0 ∷ 0 ∷ 0 ∷ 0 ∷ [])) = numbers_of (cancelled (7 ∷ 0 ∷ []) (0 ∷ 0 ∷ 0 ∷ 0 ∷ [])) text c run h in
    omega (arith, are.5)

pub short_status_of_cancel : (c : Command) → IsCommand (cancel_with (7 ∷ 0 ∷ []) (0 ∷ [])) c → ⊥
short_status_of_cancel c h =
    let text = cancel_with (7 ∷ 0 ∷ []) (0 ∷ []) in
    let run : Run StartsCommandElement (cancelled (7 ∷ 0 ∷ []) (0 ∷ [])) text [] = (drop 10 text, (omega arith, omega arith, refl), (drop 20 text, (omega arith, omega arith, refl), (drop 30 text, (omega arith, omega arith, refl), (drop 39 text, (omega arith, omega arith, refl), refl)))) in
    let are : AreNumbers (cancelled (7 ∷ 0 ∷ []) (0 ∷ [])) = numbers_of (cancelled (7 ∷ 0 ∷ []) (0 ∷ [])) text c run h in
    omega (arith, are.5)

pub no_status_of_cancel : (c : Command) → IsCommand (cancel_with (7 ∷ 0 ∷ []) []) c → ⊥
no_status_of_cancel c h =
    let text = cancel_with (7 ∷ 0 ∷ []) [] in
    let run : Run StartsCommandElement (cancelled (7 ∷ 0 ∷ []) []) text [] = (drop 10 text, (omega arith, omega arith, refl), (drop 20 text, (omega arith, omega arith, refl), (drop 30 text, (omega arith, omega arith, refl), (drop 38 text, (omega arith, omega arith, refl), refl)))) in
    let are : AreNumbers (cancelled (7 ∷ 0 ∷ []) []) = numbers_of (cancelled (7 ∷ 0 ∷ []) []) text c run h in
    omega (arith, are.5)
