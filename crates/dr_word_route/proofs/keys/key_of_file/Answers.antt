use Rattle.dr_word_route.proofs.Told.{file_key}
use Rattle.dr_word_route.proofs.keys.key_of_file.Goals as goal

pub returns : goal.returns
returns c = file_key c.args.bytes.now c.in-Ok.data_set.0 c.in-Ok.data_set.1 c.in-Ok.ensures c.key_of_data_set.result c.key_of_data_set.ensures
