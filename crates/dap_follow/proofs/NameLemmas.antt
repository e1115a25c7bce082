-- Streams that are the same.
use mathlib.Core.Path.{fun_ext}
use Rattle.std.proofs.Common.{◌≡◌, ◌==◌, ◌&&◌, ℕ, Bool, true, false, bytes_eq, refl, Option, Some, None, arith}
use Rattle.std.proofs.lemmas.Bool.Decides.{nat_tests}
use Rattle.dap_listing.specs.declared.lines.Direction.{Direction}
use Rattle.dap_listing.specs.declared.lines.Direction.TheVariants.{Right, Left}
use Rattle.dap_listing.specs.Listing.{arrow_text}
use Rattle.dap_follow.specs.Streams.{is_same_stream, is_same_nodes}
use Rattle.decnet_frames.specs.declared.addresses.Nodes.{Nodes}
use Rattle.dap_follow.specs.declared.streams.Stream.{Stream}
use Rattle.dap_follow.specs.contracts.streams.StreamPartialEq.TheImpl as impl

abbrev pub program_eq : Stream → Stream → Bool
program_eq = impl.eq-value.it

grouped : (x y z : Bool) → x && (y && z) ≡ (x && y) && z
grouped true y z = refl
grouped false y z = refl

by_nodes : (a b : Direction) (m n : Option Nodes) (da sa db sb : ℕ)
    → program_eq (record { way = a; nodes = m; dst = da; src = sa }) (record { way = b; nodes = n; dst = db; src = sb })
    ≡ is_same_stream (record { way = a; nodes = m; dst = da; src = sa }) (record { way = b; nodes = n; dst = db; src = sb })
by_nodes Right Right None None da sa db sb = refl
by_nodes Right Right None (Some n) da sa db sb = refl
by_nodes Right Right (Some m) None da sa db sb = refl
by_nodes Right Right (Some m) (Some n) da sa db sb = grouped ((m.source == n.source) && (m.destination == n.destination)) (da == db) (sa == sb)
by_nodes Right Left m n da sa db sb = refl
by_nodes Left Right m n da sa db sb = refl
by_nodes Left Left None None da sa db sb = refl
by_nodes Left Left None (Some n) da sa db sb = refl
by_nodes Left Left (Some m) None da sa db sb = refl
by_nodes Left Left (Some m) (Some n) da sa db sb = grouped ((m.source == n.source) && (m.destination == n.destination)) (da == db) (sa == sb)

-- the program compares them so
pub eq_is : program_eq ≡ is_same_stream
eq_is = fun_ext (λ (a : Stream). fun_ext (λ (b : Stream). by_nodes a.way b.way a.nodes b.nodes a.dst a.src b.dst b.src))

abbrev is_same_way : Direction → Direction → Bool
is_same_way a b = bytes_eq (arrow_text a) (arrow_text b)

way_is : (a : Direction) → is_same_way a a ≡ true
way_is Right = refl
way_is Left = refl

same_number : (a : ℕ) → (a == a) ≡ true
same_number a = grind (arith, nat_tests)

nodes_are : (m : Option Nodes) → is_same_nodes m m ≡ true
nodes_are None = refl
nodes_are (Some m) = rw (same_number m.source, same_number m.destination) refl

pub is_same_self : (a : Stream) → is_same_stream a a ≡ true
is_same_self a = rw (way_is a.way, nodes_are a.nodes, same_number a.dst, same_number a.src) refl
