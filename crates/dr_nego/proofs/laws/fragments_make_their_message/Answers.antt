use Rattle.dr_nego.proofs.Heard.{fragments_are_whole, commands_are_messages, data_sets_are_messages}
use Rattle.dr_nego.proofs.laws.fragments_make_their_message.Goals as goal

pub returns-clause-whole : goal.returns-clause-whole
returns-clause-whole c = fragments_are_whole

pub returns-clause-commands : goal.returns-clause-commands
returns-clause-commands c = commands_are_messages

pub returns-clause-data_sets : goal.returns-clause-data_sets
returns-clause-data_sets c = data_sets_are_messages
