-- What is spelled is read so.
use Rattle.std.proofs.Common.{◌≡◌, ℕ, ◌<◌, ◌^◌, Bool, true, false, List, [], ◌∷◌, ◌++◌, Result, Ok, refl, arith, sym, ◌∙◌}
use Rattle.std.specs.Prelude.{if◌then◌else◌}
use Rattle.byteorder.specs.Endian.{little_bytes}
use Rattle.std.proofs.lemmas.Bool.{ne_eqb}
use Rattle.std.proofs.Common.{eqb}
use Rattle.nsp_control.specs.declared.packet.Control.{Control}
use Rattle.nsp_control.specs.declared.packet.Control.TheVariants.{Connect, Confirm, Disconnect, DisconnectConfirm, ConnectAck}
use Rattle.nsp_control.specs.declared.packet.ControlFault.{ControlFault}
use Rattle.nsp_control.specs.Packets.{SpellsControl, ControlFits, control_spelling}
use Rattle.nsp_control.specs.Reading.{read_zero, read_address, read_sizes, read_reason, read_connect, read_confirm, read_disconnect, read_disconnect_confirm, read_connect_ack, read_control}
use Rattle.nsp_control.proofs.Fields.{word_back, ok_same}

above_zero : (n : ℕ) → 0 < n → eqb n 0 ≡ false
above_zero n lt = ne_eqb n 0 (λ e. absurd (omega arith))

connect_spelled : (again : Bool) (src services info size : ℕ) (body : List ℕ) → 0 < src → src < 2 ^ 16 → size < 2 ^ 16
    → read_connect again (0 ∷ 0 ∷ [] ++ little_bytes 2 src ++ services ∷ info ∷ [] ++ little_bytes 2 size ++ body)
    ≡ Ok (Connect (record { again = again; src = src; services = services; info = info; seg_size = size; body = body }))
unfolding read_connect read_zero read_address read_sizes
connect_spelled again src services info size body some ls lz =
    rw (word_back src ls, above_zero src some, word_back size lz) refl

confirm_spelled : (dst src services info size : ℕ) (body : List ℕ) → 0 < dst → dst < 2 ^ 16 → 0 < src → src < 2 ^ 16 → size < 2 ^ 16
    → read_confirm (little_bytes 2 dst ++ little_bytes 2 src ++ services ∷ info ∷ [] ++ little_bytes 2 size ++ body)
    ≡ Ok (Confirm (record { dst = dst; src = src; services = services; info = info; seg_size = size; body = body }))
unfolding read_confirm read_address read_sizes
confirm_spelled dst src services info size body sd ld ss ls lz =
    rw (word_back dst ld, above_zero dst sd, word_back src ls, above_zero src ss, word_back size lz) refl

disconnect_spelled : (dst src reason : ℕ) (body : List ℕ) → dst < 2 ^ 16 → src < 2 ^ 16 → reason < 2 ^ 16
    → read_disconnect (little_bytes 2 dst ++ little_bytes 2 src ++ little_bytes 2 reason ++ body)
    ≡ Ok (Disconnect (record { dst = dst; src = src; reason = reason; body = body }))
unfolding read_disconnect read_reason
disconnect_spelled dst src reason body ld ls lr = rw (word_back dst ld, word_back src ls, word_back reason lr) refl

disconnect_confirm_spelled : (dst src reason : ℕ) → dst < 2 ^ 16 → src < 2 ^ 16 → reason < 2 ^ 16
    → read_disconnect_confirm (little_bytes 2 dst ++ little_bytes 2 src ++ little_bytes 2 reason)
    ≡ Ok (DisconnectConfirm (record { dst = dst; src = src; reason = reason }))
unfolding read_disconnect_confirm read_reason
disconnect_confirm_spelled dst src reason ld ls lr = rw (word_back dst ld, word_back src ls, word_back reason lr) refl

connect_ack_spelled : (dst : ℕ) → dst < 2 ^ 16 → read_connect_ack (little_bytes 2 dst) ≡ Ok (ConnectAck dst)
unfolding read_connect_ack
connect_ack_spelled dst ld = rw (word_back dst ld) refl

read-connect : (again : Bool) (rest : List ℕ) → read_control ((if again then 0x68 else 0x18) ∷ rest) ≡ read_connect again rest
unfolding read_control
read-connect true rest = refl
read-connect false rest = refl

read-confirm : (rest : List ℕ) → read_control (0x28 ∷ rest) ≡ read_confirm rest
unfolding read_control
read-confirm rest = refl

read-disconnect : (rest : List ℕ) → read_control (0x38 ∷ rest) ≡ read_disconnect rest
unfolding read_control
read-disconnect rest = refl

read-disconnect_confirm : (rest : List ℕ) → read_control (0x48 ∷ rest) ≡ read_disconnect_confirm rest
unfolding read_control
read-disconnect_confirm rest = refl

read-connect_ack : (rest : List ℕ) → read_control (0x24 ∷ rest) ≡ read_connect_ack rest
unfolding read_control
read-connect_ack rest = refl

pub read-spelling : (p : Control) → ControlFits p → read_control (control_spelling p) ≡ Ok p
read-spelling (Connect p) fits =
    read-connect p.again _ ∙ connect_spelled p.again p.src p.services p.info p.seg_size p.body fits.0 fits.1 fits.4
read-spelling (Confirm p) fits =
    read-confirm _ ∙ confirm_spelled p.dst p.src p.services p.info p.seg_size p.body fits.0 fits.1 fits.2 fits.3 fits.6
read-spelling (Disconnect p) fits = read-disconnect _ ∙ disconnect_spelled p.dst p.src p.reason p.body fits.0 fits.1 fits.2
read-spelling (DisconnectConfirm p) fits = read-disconnect_confirm _ ∙ disconnect_confirm_spelled p.dst p.src p.reason fits.0 fits.1 fits.2
read-spelling (ConnectAck dst) fits = read-connect_ack _ ∙ connect_ack_spelled dst fits

pub read-spelled : (p : Control) (bytes : List ℕ) → SpellsControl p bytes → read_control bytes ≡ Ok p
read-spelled p bytes s = let same = s.spelled in rw same (read-spelling p s.fits)

pub given-spelled : (r : Result Control ControlFault) (p : Control) (bytes : List ℕ) → r ≡ read_control bytes → SpellsControl p bytes → r ≡ Ok p
given-spelled r p bytes g s = g ∙ read-spelled p bytes s

pub spells-one : (p q : Control) (bytes : List ℕ) → SpellsControl p bytes → SpellsControl q bytes → p ≡ q
spells-one p q bytes a b = ok_same p q (sym (read-spelled p bytes a) ∙ read-spelled q bytes b)

pub spells-written : (p : Control) → ControlFits p → SpellsControl p (control_spelling p)
spells-written p fits = record { fits = fits; spelled = refl }

pub spelling-one : (p q : Control) → ControlFits p → SpellsControl q (control_spelling p) → q ≡ p
spelling-one p q fits s = spells-one q p (control_spelling p) s (spells-written p fits)
