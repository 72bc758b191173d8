use Rattle.dr_plan_text.proofs.Unnamed.{star_alone, stars_inside, spaces}
use Rattle.dr_plan_text.proofs.laws.ill_formed_prefixes_name_none.Goals as goal

pub returns-clause-star : goal.returns-clause-star
returns-clause-star c = star_alone

pub returns-clause-inside : goal.returns-clause-inside
returns-clause-inside c = stars_inside

pub returns-clause-spaces : goal.returns-clause-spaces
returns-clause-spaces c = spaces
