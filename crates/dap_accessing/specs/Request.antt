-- A request, however its bytes are held.
use Rattle.std.specs.Prelude.{ℕ, List}
use Rattle.dap_accessing.specs.declared.request.Request.{Request as Held}

-- A request of the program whose names and records are lists of bytes, however the program holds them.
abbrev pub Request : Type 0
Request = Held (List ℕ) (List (List ℕ))
