-- A line is longer than what is behind it.
use Rattle.std.proofs.Common.{◌<◌, ℕ, ◌∷◌, ◌++◌, arith, length, decimal}
use Rattle.std.proofs.lemmas.List.{length-append}
use Rattle.dr_base.specs.Texts.{Text}
use Rattle.dr_base.specs.Syntaxes.{syntax_uid}
use Rattle.hex.specs.Hex.{encode_lower}
use Rattle.dr_ledger.specs.Pairs.{Pair}
use Rattle.dr_ledger.specs.declared.item.Cause.TheVariants as cause
use Rattle.dr_ledger.specs.declared.item.Instance.{Instance}
use Rattle.dr_ledger.specs.declared.item.Progress.{Progress}
use Rattle.dr_ledger.specs.declared.item.Progress.TheVariants as progress
use Rattle.dr_ledger_balance.specs.Fields.{digest_then, field_then, number_then, progress_then, syntax_then}
use Rattle.dr_ledger_balance.specs.Spelling.{arrival_then, item_then, kept_then, row_then}

number_longer : (n : ℕ) (rest : Text) → length rest < length (number_then n rest)
number_longer n rest = let l = length-append (decimal n) (58 ∷ rest) in omega (arith, l)

field_longer : (text rest : Text) → length rest < length (field_then text rest)
field_longer text rest =
    let l = length-append text rest in
    let m = number_longer (length text) (text ++ rest) in
    omega (arith, l, m)

progress_longer : (p : Progress) (rest : Text) → length rest < length (progress_then p rest)
progress_longer (progress.Waiting tries due) rest =
    let l = number_longer due rest in
    let m = number_longer tries (number_then due rest) in
    omega (arith, l, m)
progress_longer (progress.Held (cause.Status status)) rest = let l = number_longer status rest in omega (arith, l)
progress_longer (progress.Held cause.NoContext) rest = omega arith
progress_longer (progress.Held cause.Unreadable) rest = omega arith
progress_longer progress.Done rest = omega arith
progress_longer progress.Dropped rest = omega arith

pub item_longer : (item : Instance) (rest : Text) → length rest < length (item_then item rest)
item_longer item rest =
    let end = 10 ∷ rest in
    let d = digest_then item.digest end in
    let s = number_then item.size d in
    let t = field_then item.key.station s in
    let m = field_then item.key.modality t in
    let x = syntax_then item.key.syntax m in
    let c = field_then item.key.class x in
    let l1 = field_longer (encode_lower item.digest) end in
    let l2 = number_longer item.size d in
    let l3 = field_longer item.key.station s in
    let l4 = field_longer item.key.modality t in
    let l5 = field_longer (syntax_uid item.key.syntax) m in
    let l6 = field_longer item.key.class x in
    let l7 = field_longer item.uid c in
    omega (arith, l1, l2, l3, l4, l5, l6, l7)

pub arrival_longer : (at : Pair) (rest : Text) → length rest < length (arrival_then at rest)
arrival_longer at rest =
    let l = field_longer at.1 (10 ∷ rest) in
    let m = field_longer at.0 (field_then at.1 (10 ∷ rest)) in
    omega (arith, l, m)

pub kept_longer : (uid rest : Text) → length rest < length (kept_then uid rest)
kept_longer uid rest = let l = field_longer uid (10 ∷ rest) in omega (arith, l)

pub row_longer : (row : Pair × Progress) (rest : Text) → length rest < length (row_then row rest)
row_longer row rest =
    let p = progress_then row.1 (10 ∷ rest) in
    let l1 = progress_longer row.1 (10 ∷ rest) in
    let l2 = field_longer row.0.1 p in
    let l3 = field_longer row.0.0 (field_then row.0.1 p) in
    omega (arith, l1, l2, l3)
