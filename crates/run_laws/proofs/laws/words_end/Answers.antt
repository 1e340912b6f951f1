use Rattle.run_laws.proofs.Endings.{words_are_sound, words_end}
use Rattle.run_laws.proofs.Standing.{words_are_told, words_read_files}
use Rattle.run_laws.proofs.laws.words_end.Goals as goal

pub returns-clause-ends : goal.returns-clause-ends
returns-clause-ends c = words_end

pub returns-clause-sound : goal.returns-clause-sound
returns-clause-sound c = words_are_sound

pub returns-clause-reads : goal.returns-clause-reads
returns-clause-reads c = words_read_files

pub returns-clause-told : goal.returns-clause-told
returns-clause-told c = words_are_told
