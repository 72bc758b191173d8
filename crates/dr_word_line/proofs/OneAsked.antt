-- Words of a plain form ask for one thing.
use Rattle.std.specs.Prelude.{codes, Option, None, Some}
use Rattle.std.proofs.Common.{◌≡◌, ◌∙◌, ap, cond, false, get_or, ne_eqb, refl, subst, sym, ℕ, List, [], ◌∷◌, ◌==◌, inl, inr}
use Rattle.std.specs.Borrow.{Bor}
use Rattle.dr_word_line.specs.declared.words.Task.{Task}
use Rattle.dr_word_line.specs.declared.words.Task.TheVariants as asks
use Rattle.dr_word_line.specs.declared.words.Duty.TheVariants as duties
use Rattle.dr_run_files.specs.declared.node.NodeFiles.{NodeFiles}
use Rattle.dr_word_line.specs.declared.words.Errand.TheVariants as errands
use Rattle.dr_word_line.specs.declared.words.RunningNode.{RunningNode}
use Rattle.dr_word_line.specs.declared.words.SiteFiles.{SiteFiles}
use Rattle.dr_word_line.specs.declared.words.Question.TheVariants as questions
use Rattle.dr_word_line.specs.Words.{Asks, IsNoOption, plain_serving}

abbrev Word : Type 0
Word = Bor (List ℕ)

-- the first byte of a word
abbrev initial : List ℕ → ℕ
initial word = get_or word 0 0

abbrev files : Word → Word → Word → Word → NodeFiles
files plan certificate node ledger = record { plan = plan; certificate = certificate; node = node; ledger = ledger }

-- the second byte of a word
abbrev second : List ℕ → ℕ
second word = get_or word 1 0

-- what a word and three more ask for
abbrev of_four : List ℕ → Word → Word → Word → Task
of_four word a b c =
    cond (initial word == 115) (asks.Simulate a b c)
    (cond (initial word == 97) (asks.Audit (record { plan = a; certificate = b; folder = c })) (cond (second word == 120) (asks.Question a b (questions.Expect c)) (asks.Echo a b c)))

-- what a word and four more ask for
abbrev of_five : List ℕ → Word → Word → Word → Word → Task
of_five word a b c d =
    cond (initial word == 114) (asks.Question a b (questions.RouteOfFile c d))
    (cond (initial word == 108) (asks.AtNode (files a b c d) duties.List)
    (cond (initial word == 110) (asks.AtNode (files a b c d) duties.Make)
    (cond (initial word == 100) (asks.Question a b (questions.Diff (record { plan = c; certificate = d; fails_on_lost = false }))) (asks.AtNode (files a b c d) (duties.Serve plain_serving)))))

-- what a word and five more ask for
abbrev of_six : List ℕ → NodeFiles → Word → Task
of_six word given e =
    cond (initial word == 108) (asks.AtNode given duties.Summary)
    (cond (initial word == 115) (asks.AtNode given (duties.Send e))
    (cond (initial word == 102) (asks.AtNode given (duties.Forget e))
    (cond (initial word == 110) (asks.AtNode given duties.MakeWithData)
    (asks.Adopt (record { plan = given.plan; certificate = given.certificate; next_plan = given.node; next_certificate = given.ledger; folder = e })))))

-- what requeue, or a word and six more ask for
abbrev of_held : List ℕ → NodeFiles → Word → Word → Task
of_held option given e f =
    cond (initial option == 45) (asks.AtNode given (duties.RequeueAll f)) (asks.AtNode given (duties.Requeue e f))

abbrev of_seven : List ℕ → List ℕ → NodeFiles → Word → Word → Task
of_seven word option given e f = cond (initial word == 100) (asks.AtNode given (duties.GiveUp e f)) (of_held option given e f)

abbrev running : Word → Word → Word → Word → Option Word → RunningNode
running plan certificate node at token = record { plan = plan; certificate = certificate; node = node; at = at; token = token }

-- what six and seven words ask for: of a running node where the fifth is an option, else of a ledger
abbrev sixth : List ℕ → List ℕ → NodeFiles → Word → Task
sixth option word given e =
    cond (initial option == 45) (asks.AtRunning (running given.plan given.certificate given.node e None) errands.List) (of_six word given e)

abbrev seventh : List ℕ → List ℕ → List ℕ → NodeFiles → Word → Word → Task
seventh option word other given e f =
    cond (initial option == 45) (asks.AtRunning (running given.plan given.certificate given.node e None) errands.Summary) (of_seven word other given e f)

-- what eight words ask for
abbrev of_eight : List ℕ → Word → Word → Word → Word → Word → Word → Word → Task
of_eight word a b c d e f g =
    cond (second word == 111) (asks.Question a b (questions.RouteOfKey c (record { class = d; syntax = e; modality = f; station = g })))
    (asks.AtRunning (running a b c e (Some g)) errands.Stop)

-- what nine words tell a running node
abbrev of_nine : List ℕ → RunningNode → Word → Task
of_nine word given h =
    cond (initial word == 118) (asks.AtRunning given (errands.Visit h))
    (cond (initial word == 98) (asks.AtRunning given (errands.Backup h)) (asks.AtRunning given (errands.Forget h)))

-- what a running node is told of a row, by the word or by the option
abbrev of_rows : List ℕ → RunningNode → Word → Word → Task
of_rows option given h i =
    cond (initial option == 45) (asks.AtRunning given (errands.RequeueAll i)) (asks.AtRunning given (errands.Requeue h i))

abbrev of_ten : List ℕ → List ℕ → RunningNode → Word → Word → Task
of_ten word option given h i = cond (initial word == 100) (asks.AtRunning given (errands.GiveUp h i)) (of_rows option given h i)

-- what a word and one more ask for
abbrev of_two : List ℕ → Word → Task
of_two word a = cond (initial word == 101) (asks.Expand a) (cond (initial word == 105) (asks.Import a) (asks.CheckFile a))

-- what words of a plain form ask for: their number says nearly all, and then the first byte of the first word or of the option
abbrev meant : List Word → Task
meant [] = asks.CheckInput
meant (word ∷ []) = asks.CheckInput
meant (word ∷ a ∷ []) = of_two word.now a
meant (word ∷ a ∷ b ∷ []) =
    cond (initial word.now == 118) (asks.Verify a b) (cond (initial word.now == 103) (asks.Question a b questions.Graph) (asks.Question a b questions.Lint))
meant (word ∷ a ∷ b ∷ c ∷ []) = of_four word.now a b c
meant (word ∷ a ∷ b ∷ c ∷ d ∷ []) = of_five word.now a b c d
meant (word ∷ a ∷ b ∷ c ∷ d ∷ e ∷ []) = sixth d.now word.now (files a b c d) e
meant (word ∷ a ∷ b ∷ c ∷ d ∷ e ∷ f ∷ []) = seventh d.now word.now e.now (files a b c d) e f
meant (word ∷ a ∷ b ∷ c ∷ d ∷ e ∷ f ∷ g ∷ []) = of_eight word.now a b c d e f g
meant (word ∷ a ∷ b ∷ c ∷ d ∷ e ∷ f ∷ g ∷ h ∷ []) = of_nine word.now (running a b c e (Some g)) h
meant (word ∷ a ∷ b ∷ c ∷ d ∷ e ∷ f ∷ g ∷ h ∷ i ∷ more) = of_ten word.now h.now (running a b c e (Some g)) h i

no_hyphen : (word : List ℕ) → IsNoOption word → (initial word == 45) ≡ false
no_hyphen [] h = refl
no_hyphen (x ∷ rest) h = ne_eqb x 45 (λ e. h rest (ap (λ n. n ∷ rest) e))

-- where the fifth word is no option, six and seven words are about a ledger
at_ledger_6 : (word : List ℕ) {asked : Task} (given : NodeFiles) (e : Word) → IsNoOption given.ledger.now → of_six word given e ≡ asked → sixth given.ledger.now word given e ≡ asked
at_ledger_6 word given e h same = ap (λ b. cond b (asks.AtRunning (running given.plan given.certificate given.node e None) errands.List) (of_six word given e)) (no_hyphen given.ledger.now h) ∙ same

at_ledger_7 : (word other : List ℕ) {asked : Task} (given : NodeFiles) (e f : Word) → IsNoOption given.ledger.now → of_seven word other given e f ≡ asked → seventh given.ledger.now word other given e f ≡ asked
at_ledger_7 word other given e f h same = ap (λ b. cond b (asks.AtRunning (running given.plan given.certificate given.node e None) errands.Summary) (of_seven word other given e f)) (no_hyphen given.ledger.now h) ∙ same

module _ (words : List Word) where
  abbrev Means : Task → List Word → Type 0
  Means asked ws = meant ws ≡ asked

  is_meant : (asked : Task) → Asks words asked → meant words ≡ asked
  is_meant asks.CheckInput (inl none) = subst (Means asks.CheckInput) (sym none) refl
  is_meant asks.CheckInput (inr h) = subst (Means asks.CheckInput) (sym h.1) refl
  is_meant (asks.CheckFile a) h =
      subst (Means (asks.CheckFile a)) (sym h.1)
      (subst (λ n. of_two n a ≡ asks.CheckFile a) (sym h.2) refl)
  is_meant (asks.Expand a) h =
      subst (Means (asks.Expand a)) (sym h.1)
      (subst (λ n. of_two n a ≡ asks.Expand a) (sym h.2) refl)
  is_meant (asks.Import a) h =
      subst (Means (asks.Import a)) (sym h.1)
      (subst (λ n. of_two n a ≡ asks.Import a) (sym h.2) refl)
  is_meant (asks.Verify a b) h =
      subst (Means (asks.Verify a b)) (sym h.1)
      (subst (λ n. cond (initial n == 118) (asks.Verify a b) (cond (initial n == 103) (asks.Question a b questions.Graph) (asks.Question a b questions.Lint)) ≡ asks.Verify a b) (sym h.2) refl)
  is_meant (asks.Simulate a b c) h =
      subst (Means (asks.Simulate a b c)) (sym h.1)
      (subst (λ n. of_four n a b c ≡ asks.Simulate a b c) (sym h.2) refl)
  is_meant (asks.Echo a b c) h =
      subst (Means (asks.Echo a b c)) (sym h.1)
      (subst (λ n. of_four n a b c ≡ asks.Echo a b c) (sym h.2) refl)
  is_meant (asks.Question a b questions.StrictLint) h = absurd h
  is_meant (asks.Question a b (questions.Expect c)) h =
      subst (Means (asks.Question a b (questions.Expect c))) (sym h.1)
      (subst (λ n. of_four n a b c ≡ asks.Question a b (questions.Expect c)) (sym h.2) refl)
  is_meant (asks.Question a b questions.Graph) h =
      subst (Means (asks.Question a b questions.Graph)) (sym h.1)
      (subst (λ n. cond (initial n == 118) (asks.Verify a b) (cond (initial n == 103) (asks.Question a b questions.Graph) (asks.Question a b questions.Lint)) ≡ asks.Question a b questions.Graph) (sym h.2) refl)
  is_meant (asks.Question a b questions.Lint) h =
      subst (Means (asks.Question a b questions.Lint)) (sym h.1)
      (subst (λ n. cond (initial n == 118) (asks.Verify a b) (cond (initial n == 103) (asks.Question a b questions.Graph) (asks.Question a b questions.Lint)) ≡ asks.Question a b questions.Lint) (sym h.2) refl)
  is_meant (asks.Question a b (questions.RouteOfFile c d)) h =
      subst (Means (asks.Question a b (questions.RouteOfFile c d))) (sym h.1)
      (subst (λ n. of_five n a b c d ≡ asks.Question a b (questions.RouteOfFile c d)) (sym h.2) refl)
  is_meant (asks.Question a b (questions.Diff next)) h =
      subst (λ f. meant words ≡ asks.Question a b (questions.Diff (record { plan = next.plan; certificate = next.certificate; fails_on_lost = f }))) (sym h.1)
      (subst (Means (asks.Question a b (questions.Diff (record { plan = next.plan; certificate = next.certificate; fails_on_lost = false })))) (sym h.0.1)
      (subst (λ n. of_five n a b next.plan next.certificate ≡ asks.Question a b (questions.Diff (record { plan = next.plan; certificate = next.certificate; fails_on_lost = false }))) (sym h.0.2) refl))
  is_meant (asks.Question a b (questions.RouteOfKey c key)) h =
      subst (Means (asks.Question a b (questions.RouteOfKey c key))) (sym h.1)
      (subst (λ n. of_eight n a b c key.class key.syntax key.modality key.station ≡ asks.Question a b (questions.RouteOfKey c key)) (sym h.2) refl)
  is_meant (asks.AtNode given duties.Make) h =
      subst (Means (asks.AtNode given duties.Make)) (sym h.1)
      (subst (λ n. of_five n given.plan given.certificate given.node given.ledger ≡ asks.AtNode given duties.Make) (sym h.2) refl)
  is_meant (asks.AtNode given duties.List) h =
      subst (Means (asks.AtNode given duties.List)) (sym h.1)
      (subst (λ n. of_five n given.plan given.certificate given.node given.ledger ≡ asks.AtNode given duties.List) (sym h.2) refl)
  is_meant (asks.AtNode given (duties.Serve serving)) h =
      subst (λ s. meant words ≡ asks.AtNode given (duties.Serve s)) (sym h.1)
      (subst (Means (asks.AtNode given (duties.Serve plain_serving))) (sym h.0.1)
      (subst (λ n. of_five n given.plan given.certificate given.node given.ledger ≡ asks.AtNode given (duties.Serve plain_serving)) (sym h.0.2) refl))
  is_meant (asks.AtNode given duties.ListLong) h = absurd h
  is_meant (asks.AtNode given duties.Summary) h =
      subst (Means (asks.AtNode given duties.Summary)) (sym h.1.1)
      (at_ledger_6 h.1.0.now given h.0 h.1.5 (subst (λ n. of_six n given h.0 ≡ asks.AtNode given duties.Summary) (sym h.1.2) refl))
  is_meant (asks.AtNode given duties.MakeWithData) h =
      subst (Means (asks.AtNode given duties.MakeWithData)) (sym h.1.1)
      (at_ledger_6 h.1.0.now given h.0 h.1.5 (subst (λ n. of_six n given h.0 ≡ asks.AtNode given duties.MakeWithData) (sym h.1.2) refl))
  is_meant (asks.AtNode given (duties.Send file)) h =
      subst (Means (asks.AtNode given (duties.Send file))) (sym h.0.1)
      (at_ledger_6 h.0.0.now given file h.0.5 (subst (λ n. of_six n given file ≡ asks.AtNode given (duties.Send file)) (sym h.0.2) refl))
  is_meant (asks.AtNode given (duties.Forget uid)) h =
      subst (Means (asks.AtNode given (duties.Forget uid))) (sym h.0.1)
      (at_ledger_6 h.0.0.now given uid h.0.5 (subst (λ n. of_six n given uid ≡ asks.AtNode given (duties.Forget uid)) (sym h.0.2) refl))
  is_meant (asks.AtNode given (duties.RequeueAll dest)) h =
      subst (Means (asks.AtNode given (duties.RequeueAll dest))) (sym h.1.1)
      (at_ledger_7 h.1.0.now h.0.now given h.0 dest h.1.5 (subst (λ n. of_seven n h.0.now given h.0 dest ≡ asks.AtNode given (duties.RequeueAll dest)) (sym h.1.2)
      (subst (λ n. of_held n given h.0 dest ≡ asks.AtNode given (duties.RequeueAll dest)) (sym h.2) refl)))
  is_meant (asks.AtNode given (duties.Requeue uid dest)) h =
      subst (Means (asks.AtNode given (duties.Requeue uid dest))) (sym h.0.1)
      (at_ledger_7 h.0.0.now uid.now given uid dest h.0.5 (subst (λ n. of_seven n uid.now given uid dest ≡ asks.AtNode given (duties.Requeue uid dest)) (sym h.0.2)
      (ap (λ b. cond b (asks.AtNode given (duties.RequeueAll dest)) (asks.AtNode given (duties.Requeue uid dest))) (no_hyphen uid.now h.1))))
  is_meant (asks.AtNode given (duties.GiveUp uid dest)) h =
      subst (Means (asks.AtNode given (duties.GiveUp uid dest))) (sym h.0.1)
      (at_ledger_7 h.0.0.now uid.now given uid dest h.0.5 (subst (λ n. of_seven n uid.now given uid dest ≡ asks.AtNode given (duties.GiveUp uid dest)) (sym h.0.2) refl))
  is_meant (asks.AtRunning given errands.List) h =
      subst (λ (token : Option Word). meant words ≡ asks.AtRunning (running given.plan given.certificate given.node given.at token) errands.List) (sym h.8)
      (subst (Means (asks.AtRunning (running given.plan given.certificate given.node given.at None) errands.List)) (sym h.2)
      (subst (λ n. sixth n h.0.now (files given.plan given.certificate given.node h.1) given.at ≡ asks.AtRunning (running given.plan given.certificate given.node given.at None) errands.List) (sym h.6) refl))
  is_meant (asks.AtRunning given errands.Summary) h =
      subst (λ (token : Option Word). meant words ≡ asks.AtRunning (running given.plan given.certificate given.node given.at token) errands.Summary) (sym h.1.8)
      (subst (Means (asks.AtRunning (running given.plan given.certificate given.node given.at None) errands.Summary)) (sym h.1.2)
      (subst (λ n. seventh n h.1.0.now given.at.now (files given.plan given.certificate given.node h.1.1) given.at h.0 ≡ asks.AtRunning (running given.plan given.certificate given.node given.at None) errands.Summary) (sym h.1.6) refl))
  is_meant (asks.AtRunning given errands.StrictSummary) h = absurd h
  is_meant (asks.AtRunning given errands.Stop) h =
      subst (λ (token : Option Word). meant words ≡ asks.AtRunning (running given.plan given.certificate given.node given.at token) errands.Stop) (sym h.5)
      (subst (Means (asks.AtRunning (running given.plan given.certificate given.node given.at (Some h.1)) errands.Stop)) (sym h.2.2)
      (subst (λ n. of_eight n given.plan given.certificate given.node h.2.1 given.at h.0 h.1 ≡ asks.AtRunning (running given.plan given.certificate given.node given.at (Some h.1)) errands.Stop) (sym h.2.3) refl))
  is_meant (asks.AtRunning given (errands.Forget uid)) h =
      subst (λ (token : Option Word). meant words ≡ asks.AtRunning (running given.plan given.certificate given.node given.at token) (errands.Forget uid))
      (sym h.0.5)
      (subst (Means (asks.AtRunning (running given.plan given.certificate given.node given.at (Some h.0.1)) (errands.Forget uid))) (sym h.0.2.2)
      (subst (λ n. of_nine n (running given.plan given.certificate given.node given.at (Some h.0.1)) uid ≡ asks.AtRunning (running given.plan given.certificate given.node given.at (Some h.0.1)) (errands.Forget uid))
      (sym h.0.2.3) refl))
  is_meant (asks.AtRunning given (errands.Visit dest)) h =
      subst (λ (token : Option Word). meant words ≡ asks.AtRunning (running given.plan given.certificate given.node given.at token) (errands.Visit dest))
      (sym h.0.5)
      (subst (Means (asks.AtRunning (running given.plan given.certificate given.node given.at (Some h.0.1)) (errands.Visit dest))) (sym h.0.2.2)
      (subst (λ n. of_nine n (running given.plan given.certificate given.node given.at (Some h.0.1)) dest ≡ asks.AtRunning (running given.plan given.certificate given.node given.at (Some h.0.1)) (errands.Visit dest))
      (sym h.0.2.3) refl))
  is_meant (asks.AtRunning given (errands.Backup copy)) h =
      subst (λ (token : Option Word). meant words ≡ asks.AtRunning (running given.plan given.certificate given.node given.at token) (errands.Backup copy))
      (sym h.0.5)
      (subst (Means (asks.AtRunning (running given.plan given.certificate given.node given.at (Some h.0.1)) (errands.Backup copy))) (sym h.0.2.2)
      (subst (λ n. of_nine n (running given.plan given.certificate given.node given.at (Some h.0.1)) copy ≡ asks.AtRunning (running given.plan given.certificate given.node given.at (Some h.0.1)) (errands.Backup copy))
      (sym h.0.2.3) refl))
  is_meant (asks.AtRunning given (errands.GiveUpFor uid dest reason)) h = absurd h
  is_meant (asks.AtRunning given (errands.GiveUp uid dest)) h =
      subst (λ (token : Option Word). meant words ≡ asks.AtRunning (running given.plan given.certificate given.node given.at token) (errands.GiveUp uid dest)) (sym h.0.5)
      (subst (Means (asks.AtRunning (running given.plan given.certificate given.node given.at (Some h.0.1)) (errands.GiveUp uid dest))) (sym h.0.2.2)
      (subst (λ n. of_ten n uid.now (running given.plan given.certificate given.node given.at (Some h.0.1)) uid dest ≡ asks.AtRunning (running given.plan given.certificate given.node given.at (Some h.0.1)) (errands.GiveUp uid dest)) (sym h.0.2.3) refl))
  is_meant (asks.AtRunning given (errands.RequeueAll dest)) h =
      subst (λ (token : Option Word). meant words ≡ asks.AtRunning (running given.plan given.certificate given.node given.at token) (errands.RequeueAll dest)) (sym h.1.5)
      (subst (Means (asks.AtRunning (running given.plan given.certificate given.node given.at (Some h.1.1)) (errands.RequeueAll dest))) (sym h.1.2.2)
      (subst (λ n. of_ten n h.0.now (running given.plan given.certificate given.node given.at (Some h.1.1)) h.0 dest ≡ asks.AtRunning (running given.plan given.certificate given.node given.at (Some h.1.1)) (errands.RequeueAll dest)) (sym h.1.2.3)
      (subst (λ n. of_rows n (running given.plan given.certificate given.node given.at (Some h.1.1)) h.0 dest ≡ asks.AtRunning (running given.plan given.certificate given.node given.at (Some h.1.1)) (errands.RequeueAll dest)) (sym h.2) refl)))
  is_meant (asks.AtRunning given (errands.Requeue uid dest)) h =
      subst (λ (token : Option Word). meant words ≡ asks.AtRunning (running given.plan given.certificate given.node given.at token) (errands.Requeue uid dest)) (sym h.0.5)
      (subst (Means (asks.AtRunning (running given.plan given.certificate given.node given.at (Some h.0.1)) (errands.Requeue uid dest))) (sym h.0.2.2)
      (subst (λ n. of_ten n uid.now (running given.plan given.certificate given.node given.at (Some h.0.1)) uid dest ≡ asks.AtRunning (running given.plan given.certificate given.node given.at (Some h.0.1)) (errands.Requeue uid dest)) (sym h.0.2.3)
      (ap (λ b. cond b (asks.AtRunning (running given.plan given.certificate given.node given.at (Some h.0.1)) (errands.RequeueAll dest)) (asks.AtRunning (running given.plan given.certificate given.node given.at (Some h.0.1)) (errands.Requeue uid dest))) (no_hyphen uid.now h.1))))
  is_meant (asks.Adopt change) h =
      subst (Means (asks.Adopt change)) (sym h.1)
      (at_ledger_6 h.0.now (files change.plan change.certificate change.next_plan change.next_certificate) change.folder h.6
      (subst (λ n. of_six n (files change.plan change.certificate change.next_plan change.next_certificate) change.folder ≡ asks.Adopt change) (sym h.2) refl))
  is_meant (asks.Audit given) h =
      subst (Means (asks.Audit given)) (sym h.1)
      (subst (λ n. of_four n given.plan given.certificate given.folder ≡ asks.Audit given) (sym h.2) refl)
  is_meant (asks.AuditAmong given others) h = absurd h
  is_meant (asks.AuditRunning given) h = absurd h
  is_meant (asks.AdoptAmong change others) h = absurd h
  is_meant (asks.Rehearse change others) h = absurd h
  is_meant asks.CheckInputAsJson h = absurd h
  is_meant (asks.CheckFileAsJson plan) h = absurd h
  is_meant asks.CheckAllOfInput h = absurd h
  is_meant (asks.CheckAllOfFile plan) h = absurd h
  is_meant (asks.QuestionAsJson plan certificate question) h = absurd h
  is_meant (asks.Told error) h = absurd h

  -- words of a plain form ask for one thing
  pub one_asked : (a b : Task) → Asks words a → Asks words b → a ≡ b
  one_asked a b h k = sym (is_meant a h) ∙ is_meant b k
