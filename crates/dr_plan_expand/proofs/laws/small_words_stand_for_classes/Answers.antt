use Rattle.dr_plan_expand.proofs.SmallSaid.{keyword, name, called, uid, product, own, empty, first, syntax_itself}
use Rattle.dr_plan_expand.proofs.laws.small_words_stand_for_classes.Goals as goal

pub returns-clause-keyword : goal.returns-clause-keyword
returns-clause-keyword c = keyword

pub returns-clause-name : goal.returns-clause-name
returns-clause-name c = name

pub returns-clause-called : goal.returns-clause-called
returns-clause-called c = called

pub returns-clause-uid : goal.returns-clause-uid
returns-clause-uid c = uid

pub returns-clause-product : goal.returns-clause-product
returns-clause-product c = product

pub returns-clause-own : goal.returns-clause-own
returns-clause-own c = own

pub returns-clause-empty : goal.returns-clause-empty
returns-clause-empty c = empty

pub returns-clause-first : goal.returns-clause-first
returns-clause-first c = first

pub returns-clause-syntax : goal.returns-clause-syntax
returns-clause-syntax c = syntax_itself
