use Rattle.decnet_frames.proofs.ReadBack.{all_clean, all_read, file_written}
use Rattle.decnet_frames.specs.Founds.{founds_of_file}
use Rattle.decnet_frames.proofs.laws.written_lines_are_read.Goals as goal

pub returns-clause-clean : goal.returns-clause-clean
returns-clause-clean c = λ between records are. all_clean (founds_of_file between records) (file_written between records are)

pub returns-clause-read : goal.returns-clause-read
returns-clause-read c = λ between records are. all_read (founds_of_file between records) (file_written between records are)
