-- A store and its response are carried: what one end writes is a message for the other, in the context that both have.
use Rattle.std.proofs.Common.{◌≡◌, ℕ, ◌+◌, ◌<◌, ◌≤◌, ◌^◌, Bool, true, false, List, [], ◌∷◌, ◌++◌, length, map, Option, Some, None, Contains, refl, sym, ap, subst, ◌∙◌, inl, inr, arith}
use Rattle.std.specs.Prelude.{find, ◌==◌, ◌&&◌, if◌then◌else◌, AllPairs, option_map}
use Rattle.std.specs.List.{AllByRecursion}
use Rattle.std.specs.Str.{bytes_eq}
use Rattle.std.proofs.lemmas.Bool.{cases_Bool, false≢true, eqb-true, eqb-false}
use Rattle.std.proofs.lemmas.List.{length-append}
use Rattle.std.proofs.lemmas.List.Elements.{Contains-append_cases, recursion_from_All}
use Rattle.std.proofs.lemmas.List.Kept.{AllPairs-cons}
use Rattle.std.proofs.lemmas.Slice.Eq.{bytes_eq-Decides}
use Rattle.dr_base.specs.Texts.{Text}
use Rattle.dr_base.specs.Syntaxes.{syntax_uid}
use Rattle.dr_plan_model.specs.Formed.{IsMaxPdu}
use Rattle.dr_plan_model.proofs.Gathered.{nothing_in_nil, Contains-cons_cases, Contains-here, Contains-there, only_one}
use Rattle.dr_plan_model.proofs.WalksAlike.{all_from_each}
use Rattle.dr_route.specs.declared.accept.AcceptRow.{AcceptRow}
use Rattle.dr_plan_sound.specs.declared.certificate.Hop.{Hop}
use Rattle.dr_site.specs.Parts.{Part, hops_to}
use Rattle.dr_site.specs.Sites.{IsSite}
use Rattle.dr_site.proofs.FormedSites.{sites_are_formed}
use Rattle.dr_cert_hops.proofs.Rows.{map_pairs}
use Rattle.dr_pdu.specs.declared.pdu.Pdu.{Pdu}
use Rattle.dr_pdu.specs.declared.pdu.Pdv.{Pdv}
use Rattle.dr_pdu.specs.declared.pdu.ContextProposal.{ContextProposal}
use Rattle.dr_pdu.specs.Written.{Fits, MeetsLimit}
use Rattle.dr_dimse.specs.declared.command.Command.{Command}
use Rattle.dr_dimse.specs.declared.command.Command.TheVariants.{StoreRq, StoreRsp}
use Rattle.dr_dimse.specs.declared.message.Awaited.{Awaited}
use Rattle.dr_dimse.specs.declared.message.Awaited.TheVariants.{Requests, AnswerTo}
use Rattle.dr_dimse.specs.declared.message.Body.TheVariants.{Whole}
use Rattle.dr_dimse.specs.Commands.{CommandElement, element_text}
use Rattle.dr_dimse.specs.Written as commands
use Rattle.dr_dimse.specs.Taking.{MessageStage as Taken, Idle}
use Rattle.dr_dimse.proofs.TextLemmas.{even_short}
use Rattle.dr_dimse.proofs.WrittenLemmas.{written_reads}
use Rattle.dr_dimse.proofs.FitLemmas.{store_answer_fits}
use Rattle.dr_ledger.specs.Items.{IsItem}
use Rattle.dr_ledger.specs.declared.content.Job.{Job}
use Rattle.dr_nego.specs.declared.agreed.Agreed.{Agreed}
use Rattle.dr_nego.specs.declared.agreed.Pair.{Pair}
use Rattle.dr_nego.specs.declared.fragment.FragmentKind.TheVariants as kind
use Rattle.dr_nego.specs.Agreeing.{IsTooSmall, pair_of, pair_at, is_id, is_for, context_for}
use Rattle.dr_nego.specs.Answering.{answer_of, pairs_of}
use Rattle.dr_nego.specs.Proposing.{context_of}
use Rattle.dr_nego.proofs.OneContext.{found_is}
use Rattle.dr_nego.proofs.Concluded.{tail_pairs, head_pairs}
use Rattle.dr_nego.proofs.Cutting.{fragments_fit}
use Rattle.dr_session.specs.declared.ends.Core.{Core}
use Rattle.dr_session.specs.Messages.{command_pdus, data_pdus}
use Rattle.dr_session.specs.Reactions.{store_pdus}
use Rattle.dr_world_tie.specs.Channels.{IsMessageFor, Gets, message, hop_contexts}
use Rattle.dr_world_tie.proofs.Fragments.{pieces_make_commands, pieces_make_stores}

-- ---- the contexts of a hop, by rising ids

pair_from : (c : ContextProposal) (x : Pair) (id : ℕ) (syntax : Text) (zero : Bool) → Contains (if zero then record { id = c.id; class = c.class; syntax = syntax } ∷ [] else []) x → x.id ≡ c.id
pair_from c x id syntax true h = ap (λ (y : Pair). y.id) (sym (only_one (record { id = c.id; class = c.class; syntax = syntax }) x h))
pair_from c x id syntax false h = absurd (nothing_in_nil x h)

module _ (rows : List AcceptRow) (caller : Text) where
  from_pairs : (cs : List ContextProposal) (x : Pair) → Contains (pairs_of rows caller cs) x → (c : ContextProposal) × Contains cs c × (x.id ≡ c.id)
  from_pairs [] x h = absurd (nothing_in_nil x h)
  from_pairs (c ∷ cs) x h = elim (Contains-append_cases (pair_of c (answer_of rows caller c)) (pairs_of rows caller cs) x h) [
    | inl here ↦ (c, Contains-here c cs, pair_from c x c.id (answer_of rows caller c).syntax ((answer_of rows caller c).result == 0) here)
    | inr later ↦ (let r = from_pairs cs x later in (r.0, Contains-there c cs r.0 r.1, r.2))
  ]

  pairs_rise : (cs : List ContextProposal) → AllPairs (λ (a b : ContextProposal). a.id < b.id) cs → AllPairs (λ (x y : Pair). x.id < y.id) (pairs_of rows caller cs)
  pairs_rise [] h = λ i j d before inside. absurd (omega (arith, inside))
  pairs_rise (c ∷ cs) h = by_result ((answer_of rows caller c).result == 0) (pairs_rise cs (tail_pairs (λ (a b : ContextProposal). a.id < b.id) c cs h))
    where
      below : (y : Pair) → Contains (pairs_of rows caller cs) y → c.id < y.id
      below y m =
          let r = from_pairs cs y m in
          let l : c.id < r.0.id = head_pairs (λ (a b : ContextProposal). a.id < b.id) c cs h r.0 r.1 in
          omega (arith, l, r.2)

      by_result : (zero : Bool) → AllPairs (λ (x y : Pair). x.id < y.id) (pairs_of rows caller cs) →
          AllPairs (λ (x y : Pair). x.id < y.id) ((if zero then record { id = c.id; class = c.class; syntax = (answer_of rows caller c).syntax } ∷ [] else []) ++ pairs_of rows caller cs)
      by_result false later = later
      by_result true later = AllPairs-cons (λ (x y : Pair). x.id < y.id) (record { id = c.id; class = c.class; syntax = (answer_of rows caller c).syntax }) (pairs_of rows caller cs)
          (all_from_each (λ (y : Pair). c.id < y.id) (pairs_of rows caller cs) below) later

hop_rises : (from to : Part) → IsSite from → AllPairs (λ (x y : Pair). x.id < y.id) (hop_contexts from to)
hop_rises from to is = pairs_rise to.accepts from.name (map context_of (hops_to from to.name))
    (map_pairs context_of (λ (a b : Hop). a.id < b.id) (λ (a b : ContextProposal). a.id < b.id) (hops_to from to.name) (λ a b _ _ less. less) ((sites_are_formed from is).rising to.name))

-- among rising ids, an id finds its pair
found_by_id : (xs : List Pair) → AllPairs (λ (x y : Pair). x.id < y.id) xs → (x : Pair) → Contains xs x → find (is_id x.id) xs ≡ Some x
found_by_id [] rises x h = absurd (nothing_in_nil x h)
found_by_id (z ∷ zs) rises x h = elim (cases_Bool (z.id == x.id)) [
  | inl here ↦ rw here (elim (Contains-cons_cases z zs x h) [
    | inl same ↦ ap (λ (y : Pair). Some y) same
    | inr later ↦ (let l : z.id < x.id = head_pairs (λ (x y : Pair). x.id < y.id) z zs rises x later in let e : z.id ≡ x.id = eqb-true z.id x.id here in absurd (omega (arith, l, e)))
  ])
  | inr other ↦ rw other (elim (Contains-cons_cases z zs x h) [
    | inl same ↦ absurd (eqb-false z.id x.id other (ap (λ (y : Pair). y.id) same))
    | inr later ↦ found_by_id zs (tail_pairs (λ (x y : Pair). x.id < y.id) z zs rises) x later
  ])
]

-- the pair of the context that is found for a class and a syntax
pair_for : (agreed : Agreed) (class syntax : Text) (context : ℕ) → context_for agreed class syntax ≡ Some context →
    (x : Pair) × Contains agreed.pairs x × (x.id ≡ context) × (x.class ≡ class) × (x.syntax ≡ syntax)
pair_for agreed class syntax context h = by_found (find (is_for class syntax) agreed.pairs) refl h
  where
    both : (a b : Bool) → (a && b) ≡ true → (a ≡ true) × (b ≡ true)
    both true b e = (refl, e)
    both false b e = absurd (false≢true e)

    by_found : (o : Option Pair) → find (is_for class syntax) agreed.pairs ≡ o → option_map (λ (x : Pair). x.id) o ≡ Some context →
        (x : Pair) × Contains agreed.pairs x × (x.id ≡ context) × (x.class ≡ class) × (x.syntax ≡ syntax)
    by_found None e g = absurd (cc g)
    by_found (Some x) e g =
        let f = found_is (is_for class syntax) agreed.pairs x e in
        let b = both (bytes_eq x.class class) (bytes_eq x.syntax syntax) f.0 in
        let i : Some x.id ≡ Some context = g in
        (x, f.1, (let n : x.id ≡ context = cc i in n), (bytes_eq-Decides x.class class).0 b.0, (bytes_eq-Decides x.syntax syntax).0 b.1)

-- ---- commands are short

element_long : (e : CommandElement) → length (element_text e) ≡ 8 + length e.value
element_long e = simp length-append (omega arith)

joined_long : (e : CommandElement) (es : List CommandElement) → length (commands.element_texts (e ∷ es)) ≡ (8 + length e.value) + length (commands.element_texts es)
joined_long e es = length-append (element_text e) (commands.element_texts es) ∙ ap (λ (n : ℕ). n + length (commands.element_texts es)) (element_long e)

store_short : (id : ℕ) (class instance : Text) → length class ≤ 64 → length instance ≤ 64 → length (commands.written (StoreRq id class instance)) ≤ 16384
store_short id class instance a b =
    let es = commands.elements_of (StoreRq id class instance) in
    let n0 = joined_long (commands.group_length es) es in
    let n1 = joined_long (commands.text_element 0x0002 class) (commands.number_element 0x0100 0x0001 ∷ commands.number_element 0x0110 id ∷ commands.number_element 0x0700 0 ∷ commands.data_element true ∷ commands.text_element 0x1000 instance ∷ []) in
    let n2 = joined_long (commands.number_element 0x0100 0x0001) (commands.number_element 0x0110 id ∷ commands.number_element 0x0700 0 ∷ commands.data_element true ∷ commands.text_element 0x1000 instance ∷ []) in
    let n3 = joined_long (commands.number_element 0x0110 id) (commands.number_element 0x0700 0 ∷ commands.data_element true ∷ commands.text_element 0x1000 instance ∷ []) in
    let n4 = joined_long (commands.number_element 0x0700 0) (commands.data_element true ∷ commands.text_element 0x1000 instance ∷ []) in
    let n5 = joined_long (commands.data_element true) (commands.text_element 0x1000 instance ∷ []) in
    let n6 = joined_long (commands.text_element 0x1000 instance) [] in
    let c = even_short class in
    let i = even_short instance in
    omega (arith, n0, n1, n2, n3, n4, n5, n6, a, b, c, i)

answer_short : (id status : ℕ) (class instance : Text) → length class ≤ 64 → length instance ≤ 64 → length (commands.written (StoreRsp id status class instance false)) ≤ 16384
answer_short id status class instance a b =
    let es = commands.elements_of (StoreRsp id status class instance false) in
    let n0 = joined_long (commands.group_length es) es in
    let n1 = joined_long (commands.text_element 0x0002 class) (commands.number_element 0x0100 0x8001 ∷ commands.number_element 0x0120 id ∷ commands.data_element false ∷ commands.number_element 0x0900 status ∷ commands.text_element 0x1000 instance ∷ []) in
    let n2 = joined_long (commands.number_element 0x0100 0x8001) (commands.number_element 0x0120 id ∷ commands.data_element false ∷ commands.number_element 0x0900 status ∷ commands.text_element 0x1000 instance ∷ []) in
    let n3 = joined_long (commands.number_element 0x0120 id) (commands.data_element false ∷ commands.number_element 0x0900 status ∷ commands.text_element 0x1000 instance ∷ []) in
    let n4 = joined_long (commands.data_element false) (commands.number_element 0x0900 status ∷ commands.text_element 0x1000 instance ∷ []) in
    let n5 = joined_long (commands.number_element 0x0900 status) (commands.text_element 0x1000 instance ∷ []) in
    let n6 = joined_long (commands.text_element 0x1000 instance) [] in
    let c = even_short class in
    let i = even_short instance in
    omega (arith, n0, n1, n2, n3, n4, n5, n6, a, b, c, i)

-- ---- limits

pub large_enough : (limit : ℕ) → IsMaxPdu limit → IsTooSmall limit → ⊥
large_enough limit (inl none) (some, small) = omega (arith, none, some)
large_enough limit (inr (big, h)) (some, small) = omega (arith, big, small)

pub fit_by : (limit id : ℕ) (c : Command) → IsMaxPdu limit → AllByRecursion (λ (p : Pdu). Fits p × MeetsLimit limit p) (command_pdus limit id c)
fit_by limit id c max = recursion_from_All (λ (p : Pdu). Fits p × MeetsLimit limit p) (command_pdus limit id c) (fragments_fit limit id kind.Command (commands.written c) (large_enough limit max))

fit_data : (limit id : ℕ) (body : List ℕ) → IsMaxPdu limit → AllByRecursion (λ (p : Pdu). Fits p × MeetsLimit limit p) (data_pdus limit id body)
fit_data limit id body max = recursion_from_All (λ (p : Pdu). Fits p × MeetsLimit limit p) (data_pdus limit id body) (fragments_fit limit id kind.DataSet body (large_enough limit max))

both_fit : (P : Pdu → Type 0) (ps qs : List Pdu) → AllByRecursion P ps → AllByRecursion P qs → AllByRecursion P (ps ++ qs)
both_fit P [] qs a b = b
both_fit P (p ∷ ps) qs a b = (a.0, both_fit P ps qs a.1 b)

-- ---- a store

module _ (from to : Part) (is_from : IsSite from) (is_to : IsSite to) (job : Job) (is : IsItem job) where
  pub store_carried : (agreed : Agreed) → agreed ≡ record { pairs = hop_contexts from to; limit = to.max_pdu } → (context : ℕ) → context_for agreed job.key.class (syntax_uid job.key.syntax) ≡ Some context → (id : ℕ) → id < 2 ^ 16 →
      (r : Core) (there : Agreed) → r.agreed ≡ Some there → there ≡ record { pairs = hop_contexts from to; limit = from.max_pdu } → r.assembly.awaited ≡ Requests → r.assembly.stage ≡ Idle →
      IsMessageFor r (message context (StoreRq id job.key.class job.uid) (Some (Whole job.body))) job.key.class job.key.syntax (store_pdus agreed context id job)
      × AllByRecursion (λ (p : Pdu). Fits p × MeetsLimit to.max_pdu p) (store_pdus agreed context id job)
  store_carried agreed agreed_is context found id small r there has there_is awaited idle =
      let max = (sites_are_formed to is_to).max_pdu in
      let c : Command = StoreRq id job.key.class job.uid in
      let x = pair_for agreed job.key.class (syntax_uid job.key.syntax) context found in
      let pairs : agreed.pairs ≡ hop_contexts from to = ap (λ (a : Agreed). a.pairs) agreed_is in
      let pairs_there : there.pairs ≡ hop_contexts from to = ap (λ (a : Agreed). a.pairs) there_is in
      let limit : agreed.limit ≡ to.max_pdu = ap (λ (a : Agreed). a.limit) agreed_is in
      let among : Contains (hop_contexts from to) x.0 = (let P : List Pair → Type 0 = λ l. Contains l x.0 in subst P pairs x.1) in
      let at : pair_at there x.0.id ≡ Some x.0 = (let P : List Pair → Type 0 = λ l. find (is_id x.0.id) l ≡ Some x.0 in subst P (sym pairs_there) (found_by_id (hop_contexts from to) (hop_rises from to is_from) x.0 among)) in
      let m = pieces_make_stores Requests agreed.limit context c job.body (written_reads c (small, is.class, is.instance)) (store_short id job.key.class job.uid is.class.1 is.instance.1) (omega arith) refl is.fits in
      let G : Awaited → Type 0 = λ a. Gets a Idle m.0 (message context c (Some (Whole job.body))) in
      let H : Taken → Type 0 = λ st. Gets r.assembly.awaited st m.0 (message context c (Some (Whole job.body))) in
      let C : ℕ → Type 0 = λ n. AllByRecursion (λ (p : Pdv). p.id ≡ n) m.0 in
      let F : ℕ → Type 0 = λ n. AllByRecursion (λ (p : Pdu). Fits p × MeetsLimit to.max_pdu p) (command_pdus n context c ++ data_pdus n context job.body) in (
        record {
          agreed = there;
          values = m.0;
          context = x.0;
          has = has;
          found = at;
          of = (x.3, x.4);
          are = m.1;
          in_context = subst C (sym x.2) m.2;
          gets = subst H (sym idle) (subst G (sym awaited) m.3);
          at = sym x.2;
        },
        subst F (sym limit) (both_fit (λ (p : Pdu). Fits p × MeetsLimit to.max_pdu p) (command_pdus to.max_pdu context c) (data_pdus to.max_pdu context job.body) (fit_by to.max_pdu context c max) (fit_data to.max_pdu context job.body max)),
      )

  -- ---- its response

  pub response_carried : (id status : ℕ) → id < 2 ^ 16 → status < 2 ^ 16 → (context : Pair) → (c : Core) (agreed there : Agreed) → c.agreed ≡ Some agreed →
      agreed ≡ record { pairs = hop_contexts from to; limit = to.max_pdu } → there ≡ record { pairs = hop_contexts from to; limit = from.max_pdu } → pair_at there context.id ≡ Some context →
      (context.class ≡ job.key.class) × (context.syntax ≡ syntax_uid job.key.syntax) → c.assembly.awaited ≡ AnswerTo id → c.assembly.stage ≡ Idle →
      IsMessageFor c (message context.id (StoreRsp id status job.key.class job.uid false) None) job.key.class job.key.syntax (command_pdus from.max_pdu context.id (StoreRsp id status job.key.class job.uid false))
      × AllByRecursion (λ (p : Pdu). Fits p × MeetsLimit from.max_pdu p) (command_pdus from.max_pdu context.id (StoreRsp id status job.key.class job.uid false))
  response_carried id status small status_small context c agreed there has agreed_is there_is found of awaited idle =
      let max = (sites_are_formed from is_from).max_pdu in
      let cmd : Command = StoreRsp id status job.key.class job.uid false in
      let pairs : there.pairs ≡ agreed.pairs = ap (λ (a : Agreed). a.pairs) there_is ∙ sym (ap (λ (a : Agreed). a.pairs) agreed_is) in
      let at : pair_at agreed context.id ≡ Some context = (let P : List Pair → Type 0 = λ l. find (is_id context.id) l ≡ Some context in subst P pairs found) in
      let m = pieces_make_commands (AnswerTo id) from.max_pdu context.id cmd (written_reads cmd (store_answer_fits id status job.key.class job.uid false (small, is.class, is.instance) status_small)) (answer_short id status job.key.class job.uid is.class.1 is.instance.1) (omega arith, refl) refl in
      let G : Awaited → Type 0 = λ a. Gets a Idle m.0 (message context.id cmd None) in
      let H : Taken → Type 0 = λ st. Gets c.assembly.awaited st m.0 (message context.id cmd None) in (
        record {
          agreed = agreed;
          values = m.0;
          context = context;
          has = has;
          found = at;
          of = of;
          are = m.1;
          in_context = m.2;
          gets = subst H (sym idle) (subst G (sym awaited) m.3);
          at = refl;
        },
        fit_by from.max_pdu context.id cmd max,
      )
