-- Lines that a file's bytes begin with.
use Rattle.std.proofs.Common.{◌≡◌, ℕ, ◌+◌, ◌<◌, ◌≤◌, nat_le}
use Rattle.std.proofs.Common.{List, [], ◌∷◌, ◌++◌, length, take, drop, All, slice_index, length-take}
use Rattle.std.proofs.Common.{refl, sym, ◌∙◌, ap, subst, inl, inr, arith, take-append-drop, get_or-take}
use Rattle.std.proofs.lemmas.Bool.{cases_lt, le-leb}
use Rattle.std.proofs.lemmas.List.{append_assoc, append-nil, ext_get_or, get_or_append_left, get_or_at, length-append, take-append-le, take_all}
use Rattle.std.proofs.lemmas.List.Elements.{All-head, All-tail}
use Rattle.sqlite_disk.specs.Disk.{Holds}
use Rattle.dr_store_sealed.specs.declared.fault.SealFault.{SealFault}
use Rattle.dr_store_sealed.specs.declared.fault.SealFault.TheVariants as fault
use Rattle.dr_store_sealed.specs.declared.seal.Seal.{Seal}
use Rattle.dr_store_sealed.specs.Files.{HasLines, HasRightLines, Spans}
use Rattle.dr_store_sealed.specs.Lines.{IsOneLine, bytes_of, entry_of, mark_of, next_chain}
use Rattle.dr_store_sealed.specs.Refusals.{BeginsNoLines, IsNoLineIn, IsWhyNoEntry, IsWhyNoLineIn, IsWhyNoLines}
use Rattle.dr_store_sealed.specs.Seals.{full, next_seal, seal_after}
use Rattle.dr_store_sealed.proofs.FileLemmas.{holds_right}
use Rattle.dr_store_sealed.proofs.LawLemmas.{IsPlain, body_of, cons_same, entry_ends, entry_size, never_empty, plain_body, same_body, same_front, same_line, turns}
use Rattle.dr_store_sealed.proofs.SealLemmas.{after_more, bytes_more, count_after, grows, in_step, reaches}

pub front_taken : (body later bytes : List ℕ) → bytes ≡ body ++ 10 ∷ later → take (length body + 1) bytes ≡ body ++ 10 ∷ []
front_taken body later bytes is =
    let size = length-append body (10 ∷ []) in
    let whole : bytes ≡ (body ++ 10 ∷ []) ++ later = is ∙ sym (append_assoc body (10 ∷ []) later) in
    let n : length body + 1 ≡ length (body ++ 10 ∷ []) = omega (arith, size) in
    ap (λ k. take k bytes) n ∙ ap (take (length (body ++ 10 ∷ []))) whole
    ∙ take-append-le (length (body ++ 10 ∷ [])) (body ++ 10 ∷ []) later (omega arith)
    ∙ take_all (length (body ++ 10 ∷ [])) (body ++ 10 ∷ []) (omega arith)

-- lines that begin with others go on behind them
pub prefix : (s : Seal) (done lines : List (List ℕ)) (more : List ℕ) → All IsOneLine done → All IsOneLine lines
    → bytes_of s.chain lines ≡ bytes_of s.chain done ++ more
    → (rest : List (List ℕ)) × (lines ≡ done ++ rest) × All IsOneLine rest × (bytes_of (seal_after s done).chain rest ≡ more)
prefix s [] lines more are are' same = (lines, refl, are', same)
prefix s (d ∷ ds) [] more are are' same =
    absurd (never_empty s.chain d (bytes_of (next_chain s.chain d) ds ++ more)
    (same ∙ append_assoc (entry_of s.chain d) (bytes_of (next_chain s.chain d) ds) more))
prefix s (d ∷ ds) (x ∷ xs) more are are' same =
    let c = s.chain in
    let cd = next_chain c d in
    let cx = next_chain c x in
    let parts = same_line (body_of cx x) (body_of cd d) (bytes_of cx xs) (bytes_of cd ds ++ more)
    (plain_body cx x (All-head IsOneLine x xs are')) (plain_body cd d (All-head IsOneLine d ds are))
    (sym (entry_ends cx x (bytes_of cx xs)) ∙ same ∙ append_assoc (entry_of c d) (bytes_of cd ds) more ∙ entry_ends cd d (bytes_of cd ds ++ more)) in
    let line : x ≡ d = same_body (c ++ x) (c ++ d) x d parts.0 in
    let rest : bytes_of cd xs ≡ bytes_of cd ds ++ more = ap (λ t. bytes_of (next_chain c t) xs) (sym line) ∙ parts.1 in
    let (later, is, all, left) = prefix (next_seal s d) ds xs more (All-tail IsOneLine d ds are) (All-tail IsOneLine x xs are') rest in
    (later, cons_same x d xs (ds ++ later) line is, all, left)

-- the first of some lines ends where the first line ends
pub first_is : (c : List ℕ) (lines : List (List ℕ)) (body rest : List ℕ) → All IsPlain body → All IsOneLine lines
    → bytes_of c lines ≡ (body ++ 10 ∷ []) ++ rest
    → (x : List ℕ) × (xs : List (List ℕ)) × (lines ≡ x ∷ xs) × IsOneLine x × (body ++ 10 ∷ [] ≡ entry_of c x)
first_is c [] body rest plain are same =
    absurd (omega (
      arith,
      length-append (body ++ 10 ∷ []) rest,
      length-append body (10 ∷ []),
      (let e : 0 ≡ length ((body ++ 10 ∷ []) ++ rest) = ap (λ (t : List ℕ). length t) same in e),
    ))
first_is c (x ∷ xs) body rest plain are same =
    let cx = next_chain c x in
    let one = All-head IsOneLine x xs are in
    let parts = same_line (body_of cx x) body (bytes_of cx xs) rest (plain_body cx x one) plain
    (sym (entry_ends cx x (bytes_of cx xs)) ∙ same ∙ append_assoc body (10 ∷ []) rest) in (
      x,
      xs,
      refl,
      one,
      ap (λ t. t ++ 10 ∷ []) (sym parts.0) ∙ sym (entry_ends cx x []) ∙ append-nil (entry_of c x),
    )

pub spans_rest : (s at last : Seal) (done rest : List (List ℕ)) → Spans s done at → Spans s (done ++ rest) last → Spans at rest last
spans_rest s at last done rest first whole =
    record {
      after = whole.after ∙ after_more s done rest ∙ ap (λ (a : Seal). seal_after a rest) (sym first.after);
      one_file = whole.one_file ∙ sym first.one_file;
    }

-- a file that has a line behind the seal isn't full there
pub room : (s last : Seal) (x : List ℕ) (xs : List (List ℕ)) → Spans s (x ∷ xs) last → s.offset < full
room s last x xs spans =
    elim (cases_lt s.offset full) [
      | inl low ↦ low
      | inr over ↦
          let both = turns (nat_le full s.offset) s.number s.offset (le-leb full s.offset over) in
          let same : (seal_after s (x ∷ xs)).number ≡ s.number = sym (ap (λ (a : Seal). a.number) spans.after) ∙ spans.one_file in
          let step : (next_seal s x).number ≡ s.number = (in_step s x xs same).0 in
          absurd (omega (arith, both.0, step))
    ]

pub counts : (s last : Seal) (xs : List (List ℕ)) → Spans s xs last → last.count ≡ s.count + length xs
counts s last xs spans = ap (λ (a : Seal). a.count) spans.after ∙ count_after s xs

-- what a line behind some others is
pub next_is :
    (from at : Seal) (done lines : List (List ℕ)) (last : Seal) (piece rest entry later body more : List ℕ)
    → piece ≡ bytes_of from.chain done ++ rest → Spans from done at → All IsOneLine done
    → rest ≡ entry ++ later → entry ≡ body ++ 10 ∷ [] → All IsPlain body
    → All IsOneLine lines → Spans from lines last → bytes_of from.chain lines ≡ piece ++ more
    → (x : List ℕ) × IsOneLine x × (entry ≡ entry_of at.chain x) × (at.offset < full) × (at.count < last.count)
next_is from at done lines last piece rest entry later body more whole spans done_are parts ends plain are spans' same =
    let tail = later ++ more in
    let begins : bytes_of from.chain lines ≡ bytes_of from.chain done ++ (entry ++ tail) =
    same ∙ ap (λ t. t ++ more) (whole ∙ ap (λ t. bytes_of from.chain done ++ t) parts)
    ∙ append_assoc (bytes_of from.chain done) (entry ++ later) more
    ∙ ap (λ t. bytes_of from.chain done ++ t) (append_assoc entry later more) in
    let (left, is, all, bytes) = prefix from done lines (entry ++ tail) done_are are begins in
    let chain : at.chain ≡ (seal_after from done).chain = ap (λ (s : Seal). s.chain) spans.after in
    let there : bytes_of at.chain left ≡ (body ++ 10 ∷ []) ++ tail =
    ap (λ t. bytes_of t left) chain ∙ bytes ∙ ap (λ t. t ++ tail) ends in
    let (x, xs, first, one, entry_is) = first_is at.chain left body tail plain all there in
    let rests : Spans at left last = spans_rest from at last done left spans (subst (λ ls. Spans from ls last) is spans') in
    let firsts : Spans at (x ∷ xs) last = subst (λ ls. Spans at ls last) first rests in (
      x,
      one,
      ends ∙ entry_is,
      room at last x xs firsts,
      omega (arith, counts at last (x ∷ xs) firsts),
    )

-- why the line behind some others was not read
pub refused_line :
    (from at : Seal) (done : List (List ℕ)) (piece rest entry later body : List ℕ) (why : SealFault)
    → piece ≡ bytes_of from.chain done ++ rest → Spans from done at → All IsOneLine done
    → rest ≡ entry ++ later → entry ≡ body ++ 10 ∷ [] → All IsPlain body
    → IsWhyNoLineIn at entry why → IsWhyNoLines from piece why
refused_line from at done piece rest entry later body (fault.Io error) whole spans are parts ends plain no_line = absurd no_line
refused_line from at done piece rest entry later body fault.Memory whole spans are parts ends plain no_line = tt
refused_line from at done piece rest entry later body fault.Unusable whole spans are parts ends plain no_line = absurd no_line
refused_line from at done piece rest entry later body fault.Short whole spans are parts ends plain no_line = absurd no_line
refused_line from at done piece rest entry later body fault.OtherChain whole spans are parts ends plain no_line = absurd no_line
refused_line from at done piece rest entry later body fault.Broken whole spans are parts ends plain no_line =
    λ lines last more all spans' counted same enough.
    let (x, one, is, low, count) = next_is from at done lines last piece rest entry later body more whole spans are parts ends plain all spans' same in
    no_line low x one is
refused_line from at done piece rest entry later body fault.Unfit whole spans are parts ends plain no_line =
    λ lines last more all spans' counted same enough.
    let (x, one, is, low, count) = next_is from at done lines last piece rest entry later body more whole spans are parts ends plain all spans' same in
    no_line low x one is
refused_line from at done piece rest entry later body fault.Full whole spans are parts ends plain no_line = absurd no_line
refused_line from at done piece rest entry later body fault.Uncounted whole spans are parts ends plain no_line =
    λ lines last more all spans' counted same enough.
    let (x, one, is, low, count) = next_is from at done lines last piece rest entry later body more whole spans are parts ends plain all spans' same in
    omega (arith, no_line, counted, count)

-- an end of a line within a piece
at_in : (piece more body rest : List ℕ) → piece ++ more ≡ body ++ 10 ∷ rest → length body < length piece → All IsPlain piece → ⊥
at_in piece more body rest same low plain =
    plain (length body) 0 low (
    sym (get_or_append_left piece more 0 (length body) low)
    ∙ ap (λ (t : List ℕ). slice_index t (length body)) same
    ∙ get_or_at body 10 rest 0 (length body) refl
    )

-- a piece that has no end of a line begins no lines, if it is enough
pub no_first : (from : Seal) (piece : List ℕ) → All IsPlain piece → BeginsNoLines from piece
no_first from piece plain [] last more are spans counted same enough =
    omega (
      arith,
      enough.0,
      length-append piece more,
      (let e : 0 ≡ length (piece ++ more) = ap (λ (t : List ℕ). length t) same in e),
    )
no_first from piece plain (x ∷ xs) last more are spans counted same enough =
    let c = from.chain in
    let cx = next_chain c x in
    let body = body_of cx x in
    let one = All-head IsOneLine x xs are in
    let there : piece ++ more ≡ body ++ 10 ∷ bytes_of cx xs = sym same ∙ entry_ends cx x (bytes_of cx xs) in
    let size : length (entry_of c x) ≡ length x + 66 = entry_size c x in
    let entry : length (entry_of c x) ≡ length body + 1 =
    (let e = ap (λ (t : List ℕ). length t) (sym (append-nil (entry_of c x)) ∙ entry_ends cx x []) in omega (arith, e, length-append body (10 ∷ []))) in
    let short = one.short in
    elim (enough.1) [
      | inl long ↦ at_in piece more body (bytes_of cx xs) there (omega (arith, size, entry, short, long)) plain
      | inr none ↦
          let all = length-append piece more in
          let cut = length-append body (10 ∷ bytes_of cx xs) in
          let sizes : length (piece ++ more) ≡ length (body ++ 10 ∷ bytes_of cx xs) = ap (λ (t : List ℕ). length t) there in
          at_in piece more body (bytes_of cx xs) there (omega (arith, all, cut, sizes, none)) plain
    ]

-- what is before the mark of a line's bytes is the line
pub parted : (entry line tail chain x : List ℕ) → entry ≡ line ++ tail → length tail ≡ 66 → entry ≡ entry_of chain x → (line ≡ x) × (tail ≡ mark_of (next_chain chain x))
parted entry line tail chain x whole size is =
    let both : line ++ tail ≡ x ++ mark_of (next_chain chain x) = sym whole ∙ is in
    let sizes : length entry ≡ length x + 66 = ap (λ (t : List ℕ). length t) is ∙ entry_size chain x in
    let all : length entry ≡ length line + length tail = ap (λ (t : List ℕ). length t) whole ∙ length-append line tail in
    same_front line x tail (mark_of (next_chain chain x)) (let e : length line ≡ length x = omega (arith, sizes, all, size) in e) both

pub too_short : (seal : Seal) (entry : List ℕ) → length entry < 66 → IsNoLineIn seal entry
too_short seal entry short low x one is =
    let size : length entry ≡ length x + 66 = ap (λ (t : List ℕ). length t) is ∙ entry_size seal.chain x in
    omega (arith, size, short)

pub other_mark : (seal : Seal) (entry line tail behind : List ℕ) → entry ≡ line ++ tail → length tail ≡ 66
    → behind ≡ mark_of (next_chain seal.chain line) → (tail ≡ behind → ⊥) → IsNoLineIn seal entry
other_mark seal entry line tail behind whole size is differs low x one same =
    let parts = parted entry line tail seal.chain x whole size same in
    differs (parts.1 ∙ ap (λ t. mark_of (next_chain seal.chain t)) (sym parts.0) ∙ sym is)

pub no_entry : (seal : Seal) (entry line tail : List ℕ) (why : SealFault) → entry ≡ line ++ tail → length tail ≡ 66
    → IsWhyNoEntry seal line why → IsWhyNoLineIn seal entry why
no_entry seal entry line tail (fault.Io error) whole size why = absurd why
no_entry seal entry line tail fault.Memory whole size why = tt
no_entry seal entry line tail fault.Unusable whole size why = absurd why
no_entry seal entry line tail fault.Short whole size why = absurd why
no_entry seal entry line tail fault.OtherChain whole size why = absurd why
no_entry seal entry line tail fault.Broken whole size why = absurd why
no_entry seal entry line tail fault.Unfit whole size why =
    λ low x one same.
    let parts = parted entry line tail seal.chain x whole size same in
    why (subst IsOneLine (sym parts.0) one)
no_entry seal entry line tail fault.Full whole size why = absurd why
no_entry seal entry line tail fault.Uncounted whole size why = why

-- a piece of bytes that a file has
pub piece_of : (file : List ℕ) (from : ℕ) (piece bytes : List ℕ) → length piece ≤ length bytes → Holds file from piece → Holds file from bytes → bytes ≡ piece ++ drop (length piece) bytes
piece_of file from piece bytes low held holds =
    let n = length piece in
    let size : length (take n bytes) ≡ length piece = omega (arith, low, length-take n bytes) in
    let front : take n bytes ≡ piece =
    ext_get_or 0 (take n bytes) piece size (λ i less.
    get_or-take n bytes i 0 (omega (arith, less, size))
    ∙ sym (holds.each i (omega (arith, less, size, low))) ∙ held.each i (omega (arith, less, size))) in
    sym (take-append-drop n bytes) ∙ ap (λ t. t ++ drop n bytes) front

-- a file that is right from a seal on is right from each later one
pub right_on : (seen : List ℕ) (start at last : Seal) (done : List (List ℕ)) → All IsOneLine done → HasLines seen start done at → at.offset ≤ last.offset
    → HasRightLines seen start last → HasRightLines seen at last
right_on seen start at last done are has low right =
    let lines = right.lines in
    let a = bytes_of start.chain done in
    let b = bytes_of start.chain lines in
    let to_at : start.offset + length a ≡ at.offset = reaches start at done has.spans in
    let to_last : start.offset + length b ≡ last.offset = reaches start last lines right.has.spans in
    let same : b ≡ a ++ drop (length a) b = piece_of seen start.offset a b (omega (arith, to_at, to_last, low)) has.bytes right.has.bytes in
    let (rest, is, all, bytes) = prefix start done lines (drop (length a) b) are right.are same in
    let chain : at.chain ≡ (seal_after start done).chain = ap (λ (s : Seal). s.chain) has.spans.after in
    let held : Holds seen start.offset (a ++ bytes_of (seal_after start done).chain rest) =
    subst (λ t. Holds seen start.offset t) (ap (bytes_of start.chain) is ∙ bytes_more start done rest) right.has.bytes in
    let there = holds_right seen start.offset a (bytes_of (seal_after start done).chain rest) held in
    record {
      lines = rest;
      are = all;
      has = record {
        spans = spans_rest start at last done rest has.spans (subst (λ ls. Spans start ls last) is right.has.spans);
        bytes =
            subst (λ t. Holds seen at.offset (bytes_of t rest)) (sym chain)
            (subst (λ n. Holds seen n (bytes_of (seal_after start done).chain rest)) to_at there);
      };
      counted = right.counted;
    }

no_more : (at last : Seal) (lines : List (List ℕ)) → Spans at lines last → last.offset ≡ at.offset → last ≡ at
no_more at last [] spans same = spans.after
no_more at last (x ∷ xs) spans same = absurd (omega (arith, grows at last (x ∷ xs) spans (omega arith), same))

-- lines that take no place are none
pub none_left : (seen : List ℕ) (at last : Seal) → last.offset ≡ at.offset → HasRightLines seen at last → last ≡ at
none_left seen at last same right = no_more at last right.lines right.has.spans same

pub empty_is : {X : Type 0} (xs : List X) → length xs ≡ 0 → xs ≡ []
empty_is [] none = refl
empty_is (x ∷ xs) none = absurd (omega (arith, none))
