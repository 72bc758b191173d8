use Rattle.dr_store_calls.proofs.Pasts.{numbers_count_all_lines}
use Rattle.dr_store_calls.proofs.past_laws.numbers_count_all_lines.Goals as goal

pub returns : goal.returns
returns c = numbers_count_all_lines
