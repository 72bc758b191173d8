-- The fragments of a command make it again.
use Rattle.std.proofs.Common.{◌≡◌, ◌≢◌, ℕ, zero, suc, ◌≤◌, Bool, true, false, List, [], ◌∷◌, ◌++◌, length, map, take, drop, Some, None, refl, sym, ap, subst, ◌∙◌, append_assoc, inl, inr, arith}
use Rattle.std.specs.Prelude.{nat_le}
use Rattle.std.specs.List.{AllByRecursion}
use Rattle.std.proofs.lemmas.Bool.{cases_Bool, le-ltb}
use Rattle.std.proofs.lemmas.List.{append-nil, length-append, take-append-drop, map-append}
use Rattle.dr_pdu.specs.declared.pdu.Pdu.{Pdu}
use Rattle.dr_pdu.specs.declared.pdu.Pdv.{Pdv}
use Rattle.dr_dimse.specs.declared.message.Awaited.{Awaited}
use Rattle.dr_dimse.specs.declared.command.Command.{Command}
use Rattle.dr_dimse.specs.Commands.{IsCommand, announces}
use Rattle.dr_dimse.specs.Written as commands
use Rattle.dr_dimse.specs.Taking.{Idle, InCommand, InData, IsAwaited}
use Rattle.dr_dimse.specs.Messages.{body_of}
use Rattle.dr_dimse.specs.declared.message.Body.{Body}
use Rattle.dr_dimse.specs.declared.message.Body.TheVariants.{Whole}
use Rattle.dr_dimse.specs.declared.message.Message.{Message}
use Rattle.dr_nego.specs.Fragments.{piece_size, cut, pieces, header_of, value_pdu, value_pdus}
use Rattle.dr_world_tie.specs.Channels.{Gets, alone, message}
use Rattle.dr_world_tie.specs.Ties.{joined_pieces, PiecesMakeCommands, PiecesMakeStores}

abbrev value : ℕ → Bool → Bool → List ℕ → Pdv
value id is_command is_last fragment = record { id = id; header = header_of is_command is_last; fragment = fragment }

abbrev values : ℕ → Bool → List (List ℕ) → List Pdv
values id is_command [] = []
values id is_command (piece ∷ []) = value id is_command true piece ∷ []
values id is_command (piece ∷ next ∷ more) = value id is_command false piece ∷ values id is_command (next ∷ more)

same_pdus : (id : ℕ) (b : Bool) (ps : List (List ℕ)) → value_pdus id b ps ≡ map alone (values id b ps)
same_pdus id b [] = refl
same_pdus id b (p ∷ []) = refl
same_pdus id b (p ∷ q ∷ more) = ap (λ (l : List Pdu). value_pdu id b false p ∷ l) (same_pdus id b (q ∷ more))

all_in : (id : ℕ) (b : Bool) (ps : List (List ℕ)) → AllByRecursion (λ (p : Pdv). p.id ≡ id) (values id b ps)
all_in id b [] = tt
all_in id b (p ∷ []) = (refl, tt)
all_in id b (p ∷ q ∷ more) = (refl, all_in id b (q ∷ more))

-- cutting loses nothing
cut_joined : (fuel size : ℕ) (text : List ℕ) → joined_pieces (cut fuel size text) ≡ text
cut_joined zero size text = append-nil text
cut_joined (suc more) size text = elim (cases_Bool (nat_le (length text) size)) [
  | inl short ↦ rw short (append-nil text)
  | inr long ↦ rw long (ap (λ (l : List ℕ). take size text ++ l) (cut_joined more size (drop size text)) ∙ take-append-drop size text)
]

cut_some : (fuel size : ℕ) (text : List ℕ) → cut fuel size text ≢ []
cut_some zero size text e = cc
cut_some (suc more) size text e = elim (cases_Bool (nat_le (length text) size)) [
  | inl short ↦ (let f : text ∷ [] ≡ [] = rw short at e in cc)
  | inr long ↦ (let f : take size text ∷ cut more size (drop size text) ≡ [] = rw long at e in cc)
]

fits_so_far : (text : List ℕ) → length text ≤ 16384 → (front back : List ℕ) → front ++ back ≡ text → length front ≤ 16384
fits_so_far text short front back e = (let l : length (front ++ back) ≡ length text = ap (λ (t : List ℕ). length t) e in omega (arith, l, short, length-append front back))

module _ (awaited : Awaited) (id : ℕ) (c : Command) (text : List ℕ) (is : IsCommand text c) (short : length text ≤ 16384) (wanted : IsAwaited awaited c) (alone_it : announces c ≡ false) where
  gets_behind : (so_far : List ℕ) (ps : List (List ℕ)) → ps ≢ [] → so_far ++ joined_pieces ps ≡ text → Gets awaited (InCommand id so_far) (values id true ps) (message id c None)
  gets_behind so_far [] some e = absurd (some refl)
  gets_behind so_far (p ∷ []) some e =
      let whole : so_far ++ p ≡ text = ap (λ (l : List ℕ). so_far ++ l) (sym (append-nil p)) ∙ e in
      inr (inr (inr (text, c, (((refl, refl), refl, subst (λ (l : List ℕ). length l ≤ 16384) (sym whole) short), refl, sym whole), is, wanted, (alone_it, refl, refl))), refl)
  gets_behind so_far (p ∷ q ∷ more) some e =
      let whole : (so_far ++ p) ++ joined_pieces (q ∷ more) ≡ text = append_assoc so_far p (joined_pieces (q ∷ more)) ∙ e in
      inl (InCommand id (so_far ++ p), inr (inl (((refl, refl), refl, fits_so_far text short (so_far ++ p) (joined_pieces (q ∷ more)) whole), refl, refl, refl)), gets_behind (so_far ++ p) (q ∷ more) (λ f. cc) whole)

  gets_all : (ps : List (List ℕ)) → ps ≢ [] → joined_pieces ps ≡ text → Gets awaited Idle (values id true ps) (message id c None)
  gets_all [] some e = absurd (some refl)
  gets_all (p ∷ []) some e =
      let whole : p ≡ text = sym (append-nil p) ∙ e in
      inr (inr (inr (text, c, (((tt, refl), refl, subst (λ (l : List ℕ). length l ≤ 16384) (sym whole) short), refl, sym whole), is, wanted, (alone_it, refl, refl))), refl)
  gets_all (p ∷ q ∷ more) some e =
      inl (InCommand id p, inr (inl (((tt, refl), refl, fits_so_far text short p (joined_pieces (q ∷ more)) e), refl, refl, refl)), gets_behind p (q ∷ more) (λ f. cc) e)

pub pieces_make_commands : PiecesMakeCommands
pieces_make_commands awaited limit id c is short wanted alone_it =
    let ps : List (List ℕ) = pieces (piece_size limit) (commands.written c) in
    (values id true ps, same_pdus id true ps, all_in id true ps, gets_all awaited id c (commands.written c) is short wanted alone_it ps (cut_some (length (commands.written c)) (piece_size limit) (commands.written c)) (cut_joined (length (commands.written c)) (piece_size limit) (commands.written c)))

-- ---- a command and its data set

body_small : (text : List ℕ) → length text ≤ 67108864 → body_of text ≡ Whole text
body_small text small = rw (le-ltb 67108864 (length text) small) refl

all_values : (ps qs : List Pdv) (id : ℕ) → AllByRecursion (λ (p : Pdv). p.id ≡ id) ps → AllByRecursion (λ (p : Pdv). p.id ≡ id) qs → AllByRecursion (λ (p : Pdv). p.id ≡ id) (ps ++ qs)
all_values [] qs id h k = k
all_values (p ∷ ps) qs id h k = (h.0, all_values ps qs id h.1 k)

module _ (awaited : Awaited) (id : ℕ) (c : Command) (body : List ℕ) (small : length body ≤ 67108864) where
  small_so_far : (front back : List ℕ) → front ++ back ≡ body → length front ≤ 67108864
  small_so_far front back e = (let l : length (front ++ back) ≡ length body = ap (λ (t : List ℕ). length t) e in omega (arith, l, small, length-append front back))

  gets_data : (so_far : List ℕ) (ps : List (List ℕ)) → ps ≢ [] → so_far ++ joined_pieces ps ≡ body → Gets awaited (InData id c (Whole so_far)) (values id false ps) (message id c (Some (Whole body)))
  gets_data so_far [] some e = absurd (some refl)
  gets_data so_far (p ∷ []) some e =
      let whole : so_far ++ p ≡ body = ap (λ (l : List ℕ). so_far ++ l) (sym (append-nil p)) ∙ e in
      let is : Whole body ≡ body_of (so_far ++ p) = ap (λ (l : List ℕ). Whole l) (sym whole) ∙ sym (body_small (so_far ++ p) (subst (λ (l : List ℕ). length l ≤ 67108864) (sym whole) small)) in
      inr (inl ((refl, refl), refl, (refl, ap (λ (b : Body). message id c (Some b)) is, refl)), refl)
  gets_data so_far (p ∷ q ∷ more) some e =
      let whole : (so_far ++ p) ++ joined_pieces (q ∷ more) ≡ body = append_assoc so_far p (joined_pieces (q ∷ more)) ∙ e in
      let is : Whole (so_far ++ p) ≡ body_of (so_far ++ p) = sym (body_small (so_far ++ p) (small_so_far (so_far ++ p) (joined_pieces (q ∷ more)) whole)) in
      inl (InData id c (Whole (so_far ++ p)), inl ((refl, refl), refl, (refl, ap (λ (b : Body). InData id c b) is)), gets_data (so_far ++ p) (q ∷ more) (λ f. cc) whole)

module _ (awaited : Awaited) (id : ℕ) (c : Command) (text : List ℕ) (is : IsCommand text c) (short : length text ≤ 16384) (wanted : IsAwaited awaited c) (followed : announces c ≡ true) (vs : List Pdv) (m : Message)
    (later : Gets awaited (InData id c (Whole [])) vs m) where
  begins_behind : (so_far : List ℕ) (ps : List (List ℕ)) → ps ≢ [] → so_far ++ joined_pieces ps ≡ text → Gets awaited (InCommand id so_far) (values id true ps ++ vs) m
  begins_behind so_far [] some e = absurd (some refl)
  begins_behind so_far (p ∷ []) some e =
      let whole : so_far ++ p ≡ text = ap (λ (l : List ℕ). so_far ++ l) (sym (append-nil p)) ∙ e in
      inl (InData id c (Whole []), inr (inr (text, c, (((refl, refl), refl, subst (λ (l : List ℕ). length l ≤ 16384) (sym whole) short), refl, sym whole), is, wanted, (followed, refl))), later)
  begins_behind so_far (p ∷ q ∷ more) some e =
      let whole : (so_far ++ p) ++ joined_pieces (q ∷ more) ≡ text = append_assoc so_far p (joined_pieces (q ∷ more)) ∙ e in
      inl (InCommand id (so_far ++ p), inr (inl (((refl, refl), refl, fits_so_far text short (so_far ++ p) (joined_pieces (q ∷ more)) whole), refl, refl, refl)), begins_behind (so_far ++ p) (q ∷ more) (λ f. cc) whole)

  begins_all : (ps : List (List ℕ)) → ps ≢ [] → joined_pieces ps ≡ text → Gets awaited Idle (values id true ps ++ vs) m
  begins_all [] some e = absurd (some refl)
  begins_all (p ∷ []) some e =
      let whole : p ≡ text = sym (append-nil p) ∙ e in
      inl (InData id c (Whole []), inr (inr (text, c, (((tt, refl), refl, subst (λ (l : List ℕ). length l ≤ 16384) (sym whole) short), refl, sym whole), is, wanted, (followed, refl))), later)
  begins_all (p ∷ q ∷ more) some e =
      inl (InCommand id p, inr (inl (((tt, refl), refl, fits_so_far text short p (joined_pieces (q ∷ more)) e), refl, refl, refl)), begins_behind p (q ∷ more) (λ f. cc) e)

pub pieces_make_stores : PiecesMakeStores
pieces_make_stores awaited limit id c body is short wanted followed small =
    let ps : List (List ℕ) = pieces (piece_size limit) (commands.written c) in
    let qs : List (List ℕ) = pieces (piece_size limit) body in
    let data_gets : Gets awaited (InData id c (Whole [])) (values id false qs) (message id c (Some (Whole body))) = gets_data awaited id c body small [] qs (cut_some (length body) (piece_size limit) body) (cut_joined (length body) (piece_size limit) body) in (
      values id true ps ++ values id false qs,
      ap (λ (l : List Pdu). l ++ value_pdus id false qs) (same_pdus id true ps) ∙ (ap (λ (l : List Pdu). map alone (values id true ps) ++ l) (same_pdus id false qs) ∙ sym (map-append alone (values id true ps) (values id false qs))),
      all_values (values id true ps) (values id false qs) id (all_in id true ps) (all_in id false qs),
      begins_all awaited id c (commands.written c) is short wanted followed (values id false qs) (message id c (Some (Whole body))) data_gets ps (cut_some (length (commands.written c)) (piece_size limit) (commands.written c)) (cut_joined (length (commands.written c)) (piece_size limit) (commands.written c)),
    )
