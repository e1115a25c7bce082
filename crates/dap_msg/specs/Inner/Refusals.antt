-- Which values the menus and the header refuse.
use Rattle.std.specs.Prelude.{ℕ, ◌^◌, ◌==◌, ◌&&◌, nat_lt, nat_le, Option}
use Rattle.dap_msg.specs.Codes.{max_type}
use Rattle.dap_msg.specs.declared.fault.FaultKind.{FaultKind}
use Rattle.dap_msg.specs.declared.fault.FaultKind.TheVariants.{BadFlags, BadStream, UnknownType, BadMenu}
use Rattle.dap_msg.specs.Formats.{refuses_as, flags_are_known}

abbrev pub refuses_bits : ℕ → ℕ → Option FaultKind
refuses_bits fields = refuses_as BadMenu (λ bits. nat_lt bits (2 ^ fields))

abbrev pub refuses_type : ℕ → Option FaultKind
refuses_type = refuses_as UnknownType (λ number. nat_lt 0 number && nat_le number max_type)

abbrev pub refuses_flags : ℕ → Option FaultKind
refuses_flags = refuses_as BadFlags flags_are_known

abbrev pub refuses_stream : ℕ → Option FaultKind
refuses_stream = refuses_as BadStream (λ stream. stream == 0)
