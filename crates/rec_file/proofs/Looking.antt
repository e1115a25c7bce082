-- The look of a file of which nothing is kept.
use Rattle.std.proofs.Common.{◌≡◌, sym, subst}
use Rattle.rec_file.specs.declared.look.Look.{Look}
use Rattle.rec_file.specs.declared.shapes.Shape.{Shape}
use Rattle.rec_file.specs.Looks.{plain_look, IsLook}
use Rattle.rec_file.proofs.FileLaws.{plain-look}

-- a look that is the plain one
pub a_plain_look : (s : Shape) (l : Look) → l ≡ plain_look → IsLook s l
a_plain_look s l e = subst (IsLook s) (sym e) (plain-look s)
