-- Files of which no two have one name, as a server compares names.
use Rattle.std.specs.List.{IsDistinct}
use Rattle.dap_accessed.specs.declared.setup.Names.{Names}
use Rattle.dap_accessed.specs.Setup.{same_name}
use Rattle.dap_accessed.specs.Standing.{Files}

-- no two files have one name, so compared
abbrev pub NamesAreApart : Names → Files → Type 0
NamesAreApart names files = IsDistinct (λ f g. same_name names f.0 g.0) files
