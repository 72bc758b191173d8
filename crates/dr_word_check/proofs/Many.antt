-- The lines of many faults.
use Rattle.std.proofs.Common.{◌≡◌, ◌≢◌, ℕ, ◌+◌, ◌<◌, sym, ap, subst, ◌∙◌, true, false, List, []}
use Rattle.std.proofs.Common.{◌∷◌, ◌++◌, length, get_or, take}
use Rattle.std.specs.Prelude.{Option, flat_map, ◌==◌}
use Rattle.std.specs.Io.KnownBytes.{Appends}
use Rattle.std.proofs.KnownBytes.{Appends-trans}
use Rattle.std.proofs.lemmas.Grind.{flat_map-append}
use Rattle.std.proofs.lemmas.List.{append-nil, take_more}
use Rattle.dr_base.specs.Texts.{Text}
use Rattle.dr_check.specs.declared.fault.Fault.{Fault}
use Rattle.dr_word_check.specs.Faults.{no_line}

pub one_more : (faults : List Fault) (i : ℕ) (fault : Fault) (old before now : Option (List ℕ))
    → i < length faults
    → fault ≡ get_or faults i fault
    → Appends old before (flat_map no_line (take i faults))
    → Appends before now (no_line fault)
    → Appends old now (flat_map no_line (take (i + 1) faults))
one_more faults i fault old before now lt at so_far line =
    let more : take (i + 1) faults ≡ take i faults ++ fault ∷ [] =
    take_more faults i fault lt ∙ ap (λ (y : Fault). take i faults ++ y ∷ []) (sym at) in
    let lines : flat_map no_line (take (i + 1) faults)
    ≡ flat_map no_line (take i faults) ++ no_line fault =
    ap (λ (ys : List Fault). flat_map no_line ys) more
    ∙ (flat_map-append no_line (take i faults) (fault ∷ [])
    ∙ ap (λ (ys : List ℕ). flat_map no_line (take i faults) ++ ys) (append-nil (no_line fault)))
    in
    subst (Appends old now) (sym lines)
    (Appends-trans old before now (flat_map no_line (take i faults)) (no_line fault) so_far
    line)

-- faults of which there are some
pub some_there : (faults : List Fault) → (length faults == 0) ≡ false → faults ≢ []
some_there faults some none =
    (let e : (length faults == 0) ≡ true = ap (λ (fs : List Fault). length fs == 0) none in
    cc (some, e))
