-- A file has one answer.
use Rattle.std.proofs.Common.{◌≡◌, ℕ, ◌+◌, List, [], ◌∷◌, ◌++◌, length, drop, refl, sym, ap, subst, ◌∙◌, arith, Option, Some, Result, Ok, Err}
use Rattle.std.specs.Prelude.{codes}
use Rattle.std.proofs.lemmas.List.{drop_at, append-nil}
use Rattle.dr_base.specs.Runs.{Run}
use Rattle.dr_base.specs.declared.syntax.Syntax.{Syntax}
use Rattle.dr_base.specs.declared.syntax.Syntax.TheVariants.{Implicit, Explicit}
use Rattle.dr_dataset.specs.declared.values.Part10.{Part10}
use Rattle.dr_dataset.specs.declared.fault.FileFault.{FileFault}
use Rattle.dr_dataset.specs.declared.fault.FileFault.TheVariants.{NotDicom, Meta, OtherSyntax, Memory}
use Rattle.dr_dataset.specs.Elements.{Element}
use Rattle.dr_base.specs.Syntaxes.{syntax_uid}
use Rattle.dr_dataset.specs.Files.{IsFile, StartsMeta, IsMeta, named, ReadsFile}
use Rattle.dr_dataset.proofs.FileLemmas.{goes_on, meta_then_end}

one_rest : (text a b : List ℕ) → IsFile text a → IsFile text b → a ≡ b
one_rest text a b (p, len, is) (q, len', is') =
    let e : codes "DICM" ++ a ≡ codes "DICM" ++ b = sym (drop_at p (codes "DICM" ++ a) 128 len) ∙ ap (drop 128) (sym is ∙ is') ∙ drop_at q (codes "DICM" ++ b) 128 len' in
    cc

-- the meta information has one end and one name
one_meta_end : (text m a n b : List ℕ) → IsMeta text m a → IsMeta text n b → (m ≡ n) × (a ≡ b)
one_meta_end text m a n b (es, run, ends, is) (xs, other, stop, has) =
    let on = goes_on es xs text a b run other stop in by_later on.0 on.1 on.2
  where
    by_later : (later : List Element) → xs ≡ es ++ later → Run StartsMeta later a b → (m ≡ n) × (a ≡ b)
    by_later [] e r =
        let same : named xs ≡ named es = ap named (e ∙ append-nil es) in
        let pair : ◌≡◌ {A = Option (List ℕ)} (Some m) (Some n) = sym is ∙ sym same ∙ has in
        (cc pair, r)
    by_later (x ∷ later) e r = absurd (meta_then_end a x r.0 ends r.1)

uids_differ : (s t : Syntax) → syntax_uid s ≡ syntax_uid t → s ≡ t
uids_differ Implicit Implicit e = refl
uids_differ Explicit Explicit e = refl
uids_differ Implicit Explicit e = cc
uids_differ Explicit Implicit e = cc

meta_of : (text rest name behind other : List ℕ) → IsFile text rest → IsMeta rest name behind → IsFile text other → IsMeta other name behind
meta_of text rest name behind other file meta again = subst (λ (x : List ℕ). IsMeta x name behind) (one_rest text rest other file again) meta

same_start : (a b : Part10) (x y z : List ℕ) → x ≡ y → a.start + length x ≡ length z → b.start + length y ≡ length z → a.start ≡ b.start
same_start a b x y z e f g = omega (arith, f, g, ap length e)

pub one_file_answer : (text : List ℕ) (r q : Result Part10 FileFault) → ReadsFile text r → ReadsFile text q → r ≡ q
one_file_answer text (Ok a) (Ok b) (rest, name, behind, file, meta, is, start) (rest', name', behind', file', meta', is', start') =
    let same = one_meta_end rest' name behind name' behind' (meta_of text rest name behind rest' file meta file') meta' in
    let syntax : a.syntax ≡ b.syntax = uids_differ a.syntax b.syntax (sym is ∙ same.0 ∙ is') in
    let starts : a.start ≡ b.start = same_start a b behind behind' text same.1 start start' in
    ap (λ (x : Syntax). Ok (record a { syntax = x })) syntax ∙ ap (λ (x : ℕ). Ok (record b { start = x })) starts
one_file_answer text (Ok a) (Err NotDicom) (rest, name, behind, file, meta, is, start) none = absurd (none rest file)
one_file_answer text (Ok a) (Err Meta) (rest, name, behind, file, meta, is, start) (rest', file', none) = absurd (none name behind (meta_of text rest name behind rest' file meta file'))
one_file_answer text (Ok a) (Err OtherSyntax) (rest, name, behind, file, meta, is, start) (rest', name', behind', file', meta', other) =
    absurd (other a.syntax (sym (one_meta_end rest' name behind name' behind' (meta_of text rest name behind rest' file meta file') meta').0 ∙ is))
one_file_answer text (Err NotDicom) (Ok a) none (rest, name, behind, file, meta, is, start) = absurd (none rest file)
one_file_answer text (Err Meta) (Ok a) (rest', file', none) (rest, name, behind, file, meta, is, start) = absurd (none name behind (meta_of text rest name behind rest' file meta file'))
one_file_answer text (Err OtherSyntax) (Ok a) (rest', name', behind', file', meta', other) (rest, name, behind, file, meta, is, start) =
    absurd (other a.syntax (sym (one_meta_end rest' name behind name' behind' (meta_of text rest name behind rest' file meta file') meta').0 ∙ is))
one_file_answer text (Err NotDicom) (Err NotDicom) r q = refl
one_file_answer text (Err Meta) (Err Meta) r q = refl
one_file_answer text (Err OtherSyntax) (Err OtherSyntax) r q = refl
one_file_answer text (Err NotDicom) (Err Meta) none (rest, file, bad) = absurd (none rest file)
one_file_answer text (Err NotDicom) (Err OtherSyntax) none (rest, name, behind, file, meta, other) = absurd (none rest file)
one_file_answer text (Err Meta) (Err NotDicom) (rest, file, bad) none = absurd (none rest file)
one_file_answer text (Err OtherSyntax) (Err NotDicom) (rest, name, behind, file, meta, other) none = absurd (none rest file)
one_file_answer text (Err Meta) (Err OtherSyntax) (rest', file', none) (rest, name, behind, file, meta, other) = absurd (none name behind (meta_of text rest name behind rest' file meta file'))
one_file_answer text (Err OtherSyntax) (Err Meta) (rest, name, behind, file, meta, other) (rest', file', none) = absurd (none name behind (meta_of text rest name behind rest' file meta file'))
one_file_answer text (Err Memory) q r h = absurd r
one_file_answer text (Ok a) (Err Memory) h r = absurd r
one_file_answer text (Err NotDicom) (Err Memory) h r = absurd r
one_file_answer text (Err Meta) (Err Memory) h r = absurd r
one_file_answer text (Err OtherSyntax) (Err Memory) h r = absurd r
