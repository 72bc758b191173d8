-- No value is without an answer: each fault is told where what it denies can't be.
use Rattle.std.proofs.Common.{◌≡◌, ◌≢◌, ℕ, ◌<◌, ◌≤◌, Bool, true, false, List, [], ◌∷◌, ◌++◌, length, Option, Some, None, Result, Ok, Err, refl, sym, ap, subst, ◌∙◌, arith, inl, inr}
use Rattle.std.specs.Prelude.{nat_le}
use Rattle.std.proofs.lemmas.Bool.{cases_Bool, leb-true, leb-false}
use Rattle.dr_pdu.specs.declared.pdu.Pdv.{Pdv}
use Rattle.dr_dimse.specs.declared.message.Message.{Message}
use Rattle.dr_dimse.specs.declared.message.Body.{Body}
use Rattle.dr_dimse.specs.declared.message.Body.TheVariants.{Whole}
use Rattle.dr_dimse.specs.declared.message.Awaited.{Awaited}
use Rattle.dr_dimse.specs.declared.command.Command.{Command}
use Rattle.dr_dimse.specs.declared.fault.DimseFault.{DimseFault}
use Rattle.dr_dimse.specs.declared.fault.DimseFault.TheVariants.{OutOfPlace, MixedContext, BadCommand, TooLong, Memory}
use Rattle.dr_dimse.specs.Commands.{IsCommand, announces}
use Rattle.dr_dimse.specs.Messages.{is_command, is_last}
use Rattle.dr_dimse.specs.Taking.{MessageStage, Idle, InCommand, InData, context_of, wants_command, text_so_far, kept, IsAwaited, InContext, InPlace, IsShortEnough, EndsCommand, TakesData, TakesValue}

-- none of the answers is right
abbrev HasNone : Awaited → MessageStage → Pdv → Type 0
HasNone a s p = (r : Result (Option Message) DimseFault) (new : MessageStage) → r ≢ Err Memory → TakesValue a s p r new → ⊥

module _ (a : Awaited) (s : MessageStage) (p : Pdv) (none : HasNone a s p) where
  -- the command is whole
  begins : (text : List ℕ) (c : Command) → EndsCommand s p text → IsCommand text c → IsAwaited a c → ⊥
  begins text c ends is wanted = elim (cases_Bool (announces c)) [
    | inl some ↦ none (Ok None) (InData p.id c (Whole [])) (λ e. cc e) (inr (inr (text, c, ends, is, wanted, (some, refl))))
    | inr alone ↦ none (Ok (Some (record { id = p.id; command = c; body = None }))) Idle (λ e. cc e) (inr (inr (text, c, ends, is, wanted, (alone, refl, refl))))
  ]

  is_read : (text : List ℕ) (c : Command) → EndsCommand s p text → IsCommand text c → ⊥
  is_read text c ends is = none (Err OutOfPlace) s (λ e. cc e) (refl, inr (text, c, ends, is, begins text c ends is))

  of_command : InPlace s p → wants_command s ≡ true → ⊥
  of_command placed wants = elim (cases_Bool (nat_le (length (text_so_far s ++ p.fragment)) 16384)) [
    | inr long ↦ none (Err TooLong) s (λ e. cc e) (refl, placed, wants, leb-false (length (text_so_far s ++ p.fragment)) 16384 long)
    | inl short ↦
        let fits : IsShortEnough s p = (placed, wants, leb-true (length (text_so_far s ++ p.fragment)) 16384 short) in
        elim (cases_Bool (is_last p)) [
          | inr more ↦ none (Ok None) (InCommand p.id (text_so_far s ++ p.fragment)) (λ e. cc e) (inr (inl (fits, more, refl, refl)))
          | inl last ↦
              let ends : EndsCommand s p (text_so_far s ++ p.fragment) = (fits, last, refl) in
              none (Err BadCommand) s (λ e. cc e) (refl, (text_so_far s ++ p.fragment, ends, λ c is. is_read (text_so_far s ++ p.fragment) c ends is))
        ]
  ]

-- a fragment of the data set under way
of_data : (a : Awaited) (id : ℕ) (c : Command) (body : Body) (p : Pdv) → HasNone a (InData id c body) p → InPlace (InData id c body) p → ⊥
of_data a id c body p none placed = elim (cases_Bool (is_last p)) [
  | inl last ↦ none (Ok (Some (record { id = id; command = c; body = Some (kept body p.fragment) }))) Idle (λ e. cc e) (inl (placed, refl, (last, refl, refl)))
  | inr more ↦ none (Ok None) (InData id c (kept body p.fragment)) (λ e. cc e) (inl (placed, refl, (more, refl)))
]

placed : (a : Awaited) (s : MessageStage) (p : Pdv) → HasNone a s p → InPlace s p → ⊥
placed a Idle p none is = of_command a Idle p none is refl
placed a (InCommand id text) p none is = of_command a (InCommand id text) p none is refl
placed a (InData id c body) p none is = of_data a id c body p none is

pub some_take : (awaited : Awaited) (old : MessageStage) (p : Pdv) → ((r : Result (Option Message) DimseFault) (new : MessageStage) → r ≢ Err Memory → TakesValue awaited old p r new → ⊥) → ⊥
some_take a s p none = none (Err MixedContext) s (λ e. cc e) (refl, λ same. none (Err OutOfPlace) s (λ e. cc e) (refl, inl (same, λ kind. placed a s p none (same, kind))))
