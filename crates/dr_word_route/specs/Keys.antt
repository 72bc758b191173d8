-- What is read of the words behind the plan and the certificate: a node, and the key of an
-- instance.
use Rattle.std.specs.Prelude.{◌≡◌, ◌≢◌, ℕ, List, drop, Result, Ok, Err}
use Rattle.dr_base.specs.Texts.{Text}
use Rattle.dr_base.specs.Syntaxes.{syntax_uid, NamesNoSyntax}
use Rattle.dr_base.specs.declared.syntax.Syntax.{Syntax}
use Rattle.dr_word_line.specs.declared.words.KeyWords.{KeyWords}
use Rattle.dr_dataset.specs.Files.{ReadsFile}
use Rattle.dr_dataset.specs.declared.fault.FileFault.TheVariants.{OtherSyntax, NotDicom, Meta}
use Rattle.dr_dataset.specs.declared.fault.FileFault.TheVariants.{Memory as NoMemory}
use Rattle.dr_dataset.specs.declared.values.Part10.{Part10}
use Rattle.dr_ledger.specs.Items.{ReadsItem}
use Rattle.dr_ledger.specs.declared.content.ItemFault.TheVariants as item
use Rattle.dr_ledger.specs.declared.content.Job.{Job}
use Rattle.dr_plan_model.specs.Networks.{Network}
use Rattle.dr_plan_model.specs.Plans.{IsTheNode, NamesNoNode}
use Rattle.dr_plan_model.specs.declared.plan.Node.{Node}
use Rattle.dr_route.specs.declared.key.Key.{Key}
use Rattle.dr_word_route.specs.declared.reply.Unanswered.{Unanswered}
use Rattle.dr_word_route.specs.declared.reply.Unanswered.TheVariants.{NoNode, File, Item, Memory}

-- what is read of a name: the title of a node of the plan, or that it is none's
abbrev pub ReadsSite : Network → List ℕ → Result Text Unanswered → Type 0
ReadsSite plan at (Ok site) = (site ≡ at) × (node : Node) × IsTheNode plan at node
ReadsSite plan at (Err NoNode) = NamesNoNode plan at
ReadsSite plan at (Err Memory) = Unit {0}
ReadsSite plan at (Err (File fault)) = ⊥
ReadsSite plan at (Err (Item fault)) = ⊥

-- what is read of four words: the key that has these values, or that the transfer syntax is none in
-- which instances are routed
abbrev pub ReadsWords : KeyWords → Result Key Unanswered → Type 0
ReadsWords words (Ok key) =
    (key.class ≡ words.class.now)
    × (syntax_uid key.syntax ≡ words.syntax.now)
    × (key.modality ≡ words.modality.now)
    × (key.station ≡ words.station.now)
ReadsWords words (Err (File OtherSyntax)) = NamesNoSyntax words.syntax.now
ReadsWords words (Err (File NotDicom)) = ⊥
ReadsWords words (Err (File Meta)) = ⊥
ReadsWords words (Err (File NoMemory)) = ⊥
ReadsWords words (Err (Item fault)) = ⊥
ReadsWords words (Err Memory) = Unit {0}
ReadsWords words (Err NoNode) = ⊥

-- what is read of a Part 10 file: its transfer syntax, and the bytes behind where its data set
-- starts; or the file's fault
abbrev pub ReadsDataSet : List ℕ → Result (Syntax × Text) Unanswered → Type 0
ReadsDataSet bytes (Ok found) =
    (part : Part10)
    × ReadsFile bytes (Ok part)
    × (found.0 ≡ part.syntax)
    × (found.1 ≡ drop part.start bytes)
ReadsDataSet bytes (Err (File fault)) = ReadsFile bytes (Err fault)
ReadsDataSet bytes (Err (Item fault)) = ⊥
ReadsDataSet bytes (Err Memory) = Unit {0}
ReadsDataSet bytes (Err NoNode) = ⊥

-- what is read of a data set: the key of its item, or why it has no item
abbrev pub ReadsItemKey : Syntax → Text → Result Key Unanswered → Type 0
ReadsItemKey syntax body (Ok key) = (job : Job) × ReadsItem syntax body (Ok job) × (key ≡ job.key)
ReadsItemKey syntax body (Err (Item fault)) =
    (fault ≢ item.Memory) × ReadsItem syntax body (Err fault)
ReadsItemKey syntax body (Err (File fault)) = ⊥
ReadsItemKey syntax body (Err Memory) = Unit {0}
ReadsItemKey syntax body (Err NoNode) = ⊥

-- what is read of a Part 10 file: the key of its data set's item, or the fault of the file or of
-- the data set
abbrev pub ReadsFileKey : List ℕ → Result Key Unanswered → Type 0
ReadsFileKey bytes (Ok key) =
    (syntax : Syntax) × (body : Text)
    × ReadsDataSet bytes (Ok (syntax, body))
    × ReadsItemKey syntax body (Ok key)
ReadsFileKey bytes (Err (File fault)) = ReadsFile bytes (Err fault)
ReadsFileKey bytes (Err (Item fault)) =
    (syntax : Syntax) × (body : Text)
    × ReadsDataSet bytes (Ok (syntax, body))
    × ReadsItemKey syntax body (Err (Item fault))
ReadsFileKey bytes (Err Memory) = Unit {0}
ReadsFileKey bytes (Err NoNode) = ⊥
