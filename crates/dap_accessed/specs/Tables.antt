-- Tables as they are stored.
use Rattle.std.specs.Coded.{Coded, coded×, coded_ℕ, coded_list}
use Rattle.rec_file.specs.Stored.{file_code}
use Rattle.dap_accessed.specs.Standing.{Files}

-- a table is stored as the names and files
abbrev pub files_code : Coded Files
files_code = coded_list (coded× (coded_list coded_ℕ) file_code)
