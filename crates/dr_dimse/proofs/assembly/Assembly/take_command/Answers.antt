use Rattle.std.proofs.Common.{◌≡◌, ◌≤◌, ◌++◌, ◌∙◌, List, ℕ, true, length, take, sym, ap, subst, arith, Ok, Err}
use Rattle.std.proofs.lemmas.List.{length-append, take_at}
use Rattle.dr_dimse.specs.Messages.{is_last}
use Rattle.dr_dimse.specs.declared.message.Awaited.{Awaited}
use Rattle.dr_dimse.specs.Stages.{so_far, stage_of, text_held, ReadsAwaited}
use Rattle.dr_dimse.specs.Taking.{Assembling}
use Rattle.dr_dimse.proofs.StageLemmas.{same_stage, ends_with, refused_command, begun}
use Rattle.dr_dimse.proofs.assembly.Assembly.take_command.Goals as goal

pub returns-in-Ok-clause-takes : goal.returns-in-Ok-clause-takes
returns-in-Ok-clause-takes c =
    let u = c.self.inside.under_way in
    let t = c.self.inside.text.items in
    let b = so_far c.self.inside.is_too_large c.self.inside.body.items in
    let stage : stage_of u t b ≡ c.args.self.now.stage = ap (λ (a : Assembling). a.stage) c.self.view_is in
    let whole : c.deref.result.now ≡ text_held u t ++ c.args.pdv.fragment =
    c.deref.ensures.value ∙ c.in_ok-extend_from_slice.ensures.items ∙ ap (λ (x : List ℕ). x ++ c.as_bytes.result.now) c.clear_unused.ensures ∙ ap (λ (x : List ℕ). text_held u t ++ x) c.as_bytes.ensures in
    let last : is_last c.args.pdv ≡ true = sym c.is_last.ensures ∙ c.if-not-is_last.false in
    let sizes = ap (λ (x : List ℕ). length x) c.clear_unused.ensures in
    let size = ap (λ (x : List ℕ). length x) whole in
    let short : length c.deref.result.now ≤ 16384 = omega (arith, size, sizes, length-append (text_held u t) c.args.pdv.fragment, c.if-before-len-gt-GREATEST_COMMAND.false, c.len-before.ensures, c.len.ensures, c.clear_unused.new.text.ok) in
    let awaited : c.self.inside.awaited ≡ c.args.self.now.awaited = ap (λ (a : Assembling). a.awaited) c.self.view_is in
    let is = subst (λ (a : Awaited). ReadsAwaited a c.deref.result.now (Ok c.in-Ok.command)) awaited c.in-Ok.ensures in
    begun c.args.self.now.awaited c.args.self.now.stage c.begin.new.self.stage c.args.pdv c.deref.result.now c.in-Ok.command c.begin.result (ends_with u t b c.args.self.now.stage c.args.pdv c.deref.result.now stage c.requires.place c.requires.kind last whole short) is c.begin.ensures.begins

pub returns-clause-takes : goal.returns-clause-takes
returns-clause-takes c =
    let u = c.self.inside.under_way in
    let t = c.self.inside.text.items in
    let b = so_far c.self.inside.is_too_large c.self.inside.body.items in
    let stage : stage_of u t b ≡ c.args.self.now.stage = ap (λ (a : Assembling). a.stage) c.self.view_is in
    let whole : c.deref.result.now ≡ text_held u t ++ c.args.pdv.fragment =
    c.deref.ensures.value ∙ c.in_ok-extend_from_slice.ensures.items ∙ ap (λ (x : List ℕ). x ++ c.as_bytes.result.now) c.clear_unused.ensures ∙ ap (λ (x : List ℕ). text_held u t ++ x) c.as_bytes.ensures in
    let last : is_last c.args.pdv ≡ true = sym c.is_last.ensures ∙ c.if-not-is_last.false in
    let sizes = ap (λ (x : List ℕ). length x) c.clear_unused.ensures in
    let size = ap (λ (x : List ℕ). length x) whole in
    let short : length c.deref.result.now ≤ 16384 = omega (arith, size, sizes, length-append (text_held u t) c.args.pdv.fragment, c.if-before-len-gt-GREATEST_COMMAND.false, c.len-before.ensures, c.len.ensures, c.clear_unused.new.text.ok) in
    let before : length c.clear_unused.new.text.items ≡ c.len-before.result = omega (arith, c.len-before.ensures, c.clear_unused.new.text.ok) in
    let left : c.truncate.new.self.items ≡ text_held u t =
    c.truncate.ensures.items ∙ ap (λ (x : List ℕ). take c.len-before.result x) c.in_ok-extend_from_slice.ensures.items ∙ take_at c.clear_unused.new.text.items c.as_bytes.result.now c.len-before.result before ∙ c.clear_unused.ensures in
    let same : stage_of u c.truncate.new.self.items b ≡ c.args.self.now.stage = ap (λ (x : List ℕ). stage_of u x b) left ∙ same_stage u t b ∙ stage in
    let awaited : c.self.inside.awaited ≡ c.args.self.now.awaited = ap (λ (a : Assembling). a.awaited) c.self.view_is in
    let is = subst (λ (a : Awaited). ReadsAwaited a c.deref.result.now (Err c.in-Err.fault)) awaited c.in-Err.ensures in
    refused_command c.args.self.now.awaited c.args.self.now.stage _ c.args.pdv c.in-Err.fault c.deref.result.now same
    (ends_with u t b c.args.self.now.stage c.args.pdv c.deref.result.now stage c.requires.place c.requires.kind last whole short) is
