-- Lines that are made of packets are an input of lines.
use Rattle.std.proofs.Common.{◌≡◌, ◌∙◌, refl, ap, ℕ, List, [], ◌∷◌, ◌++◌}
use Rattle.std.specs.Prelude.{Option, Some, None}
use Rattle.std.specs.List.{filter}
use Rattle.std.proofs.lemmas.List.{append-nil}
use Rattle.dap_listing.specs.declared.lines.Direction.{Direction}
use Rattle.dap_listing.specs.declared.lines.Direction.TheVariants.{Right, Left}
use Rattle.decnet_frames.specs.HexLines.{all_hex_lines, comment_line, data_line}
use Rattle.decnet_frames.specs.Lines.{takes_packet}
use Rattle.decnet_frames.specs.declared.addresses.Nodes.{Nodes}
use Rattle.decnet_frames.specs.declared.ways.Between.TheVariants.{All}
use Rattle.cap_cli.specs.Forms.{form_of}
use Rattle.cap_cli.specs.Running.{Founds}
use Rattle.cap_cli.specs.Tasks.{AreHexLines}
use Rattle.cap_cli.specs.declared.form.Form.TheVariants.{Lines}

-- between all nodes each packet is taken
pub all_taken : (founds : Founds) → filter (takes_packet All) founds ≡ founds
all_taken [] = refl
all_taken (found ∷ founds) = ap (λ (l : Founds). found ∷ l) (all_taken founds)

begins_well : (frame : List ℕ) (nodes : Option Nodes) (way : Direction) (bytes others : List ℕ) → form_of ((comment_line frame nodes ++ data_line way bytes) ++ others) ≡ Lines
begins_well [] nodes Right bytes others = refl
begins_well [] nodes Left bytes others = refl
begins_well (first ∷ more) None Right bytes others = refl
begins_well (first ∷ more) None Left bytes others = refl
begins_well (first ∷ more) (Some nodes) way bytes others = refl

lines_begin : (founds : Founds) → form_of (all_hex_lines founds) ≡ Lines
lines_begin [] = refl
lines_begin (found ∷ founds) = begins_well found.frame found.nodes found.way found.bytes (all_hex_lines founds)

-- with nothing after them
pub all_written : (founds : Founds) (written rest : List ℕ) → AreHexLines founds written rest → written ++ rest ≡ all_hex_lines founds
all_written founds written rest (are, none) = ap (λ (l : List ℕ). written ++ l) none ∙ append-nil written ∙ are

-- what is written is an input of lines
pub are_lines : (founds : Founds) (written rest : List ℕ) → AreHexLines founds written rest → form_of (written ++ rest) ≡ Lines
are_lines founds written rest are = ap form_of (all_written founds written rest are) ∙ lines_begin founds
