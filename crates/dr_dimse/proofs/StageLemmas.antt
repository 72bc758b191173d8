-- The stage of what an assembly holds, and commands that are refused.
use Rattle.std.proofs.Common.{◌≡◌, ◌≤◌, ℕ, true, List, ◌++◌, length, Option, Some, None, Ok, Err, refl, sym, ap, subst, ◌∙◌, inr}
use Rattle.dr_pdu.specs.declared.pdu.Pdv.{Pdv}
use Rattle.dr_dimse.specs.declared.assembly.UnderWay.{UnderWay}
use Rattle.dr_dimse.specs.declared.assembly.UnderWay.TheVariants.{Nothing, ACommand, ADataSet}
use Rattle.dr_dimse.specs.declared.fault.DimseFault.{DimseFault}
use Rattle.dr_dimse.specs.declared.fault.DimseFault.TheVariants.{OutOfPlace, MixedContext, BadCommand, TooLong, Memory}
use Rattle.dr_dimse.specs.declared.message.Awaited.{Awaited}
use Rattle.dr_dimse.specs.declared.command.Command.{Command}
use Rattle.dr_dimse.specs.declared.message.Body.{Body}
use Rattle.dr_dimse.specs.declared.message.Message.{Message}
use Rattle.dr_dimse.specs.Messages.{is_last}
use Rattle.dr_dimse.specs.Stages.{stage_of, text_held, ReadsAwaited}
use Rattle.dr_dimse.specs.Taking.{BeginsMessage, MessageStage, text_so_far, wants_command, InPlace, EndsCommand, TakesValue}

pub text_is_held : (u : UnderWay) (text : List ℕ) (body : Body) → text_so_far (stage_of u text body) ≡ text_held u text
text_is_held Nothing text body = refl
text_is_held (ACommand id) text body = refl
text_is_held (ADataSet id c) text body = refl

-- without what an earlier command left the stage is the same
pub same_stage : (u : UnderWay) (text : List ℕ) (body : Body) → stage_of u (text_held u text) body ≡ stage_of u text body
same_stage Nothing text body = refl
same_stage (ACommand id) text body = refl
same_stage (ADataSet id c) text body = refl

-- a command that can't be read, or isn't awaited
pub refused_command : (a : Awaited) (s new : MessageStage) (p : Pdv) (fault : DimseFault) (text : List ℕ) → new ≡ s → EndsCommand s p text → ReadsAwaited a text (Err fault) → TakesValue a s p (Err fault) new
refused_command a s new p BadCommand text same ends none = (same, (text, ends, none))
refused_command a s new p OutOfPlace text same ends (c, is, other) = (same, inr (text, c, ends, is, other))
refused_command a s new p Memory text same ends none = same
refused_command a s new p MixedContext text same ends none = absurd none
refused_command a s new p TooLong text same ends none = absurd none

-- the bytes that were held and the fragment make the command's text
pub ends_with : (u : UnderWay) (text : List ℕ) (body : Body) (s : MessageStage) (p : Pdv) (whole : List ℕ) → stage_of u text body ≡ s → InPlace s p → wants_command s ≡ true → is_last p ≡ true
    → whole ≡ text_held u text ++ p.fragment → length whole ≤ 16384 → EndsCommand s p whole
ends_with u text body s p whole is place wants last made short =
    let so_far : text_held u text ≡ text_so_far s = sym (text_is_held u text body) ∙ ap text_so_far is in
    let same : whole ≡ text_so_far s ++ p.fragment = made ∙ ap (λ (t : List ℕ). t ++ p.fragment) so_far in
    ((place, wants, subst (λ (t : List ℕ). length t ≤ 16384) same short), last, same)

-- an awaited command
pub begun : (a : Awaited) (s new : MessageStage) (p : Pdv) (text : List ℕ) (c : Command) (m : Option Message) → EndsCommand s p text → ReadsAwaited a text (Ok c) → BeginsMessage p.id c m new → TakesValue a s p (Ok m) new
begun a s new p text c None ends is b = inr (inr (text, c, ends, is.0, is.1, b))
begun a s new p text c (Some m) ends is b = inr (inr (text, c, ends, is.0, is.1, b))
