-- Opening and making files, and what ends an access (DAP 5.6.0, Access and Access Complete messages).
use Rattle.std.specs.Prelude.{ℕ, true, false, ◌&&◌, ◌==◌, if◌then◌else◌, List, [], ◌∷◌, ◌++◌, length, Option, Some, None}
use Rattle.std.specs.List.{remove}
use Rattle.dap_msg.specs.Codes as codes
use Rattle.dap_msg.specs.declared.message.Message.{Message}
use Rattle.dap_msg.specs.declared.message.AccessFields.{AccessFields}
use Rattle.rec_file.specs.declared.picks.Rights.{Rights}
use Rattle.rec_file.specs.declared.refusals.Refusal.TheVariants.{NotPermitted}
use Rattle.dap_accessed.specs.declared.asked.Asked.{Asked}
use Rattle.dap_accessed.specs.Asked.{made_file}
use Rattle.dap_accessed.specs.declared.phase.OpenFile.{OpenFile}
use Rattle.dap_accessed.specs.declared.setup.ServerSetup.{ServerSetup}
use Rattle.dap_accessed.specs.Setup.{lacks}
use Rattle.dap_accessed.specs.Standing.{Files, file_at, ServerState, Ready, Opened, Scene, Effect, enters}
use Rattle.dap_accessed.specs.Naming.{files_without, index_by, index_to_erase, index_to_replace, name_with, number_made}
use Rattle.dap_accessed.specs.Replies.{bare_status, reason_of, refused_access, opened_with, erased_with, complete_response}

-- the operations that FAC allows
abbrev pub rights_of : ℕ → Rights
rights_of fac =
    record {
      get = codes.asks_for fac codes.fac_bits.get;
      put = codes.asks_for fac codes.fac_bits.put;
      upd = codes.asks_for fac codes.fac_bits.update;
      del = codes.asks_for fac codes.fac_bits.delete;
    }

-- FAC 0 counts as GET on open, and as PUT on create
abbrev pub fac_or : (fac usual : ℕ) → ℕ
fac_or fac usual = if fac == 0 then usual else fac

-- the rights that an Access to erase a file asks for, whatever its FAC is: DEL alone
abbrev pub rights_to_erase : Rights
rights_to_erase = record { get = false; put = false; upd = false; del = true }

-- a refused Access leaves the end in Ready
abbrev pub refuse_access : Scene → Message → Effect
refuse_access scene status = enters scene Ready (status ∷ [])

-- An Access that asks for a right which the server doesn't give is refused.
abbrev pub effect_if_permitted : ServerSetup → (asked : Rights) → Scene → Effect → Effect
effect_if_permitted own asked scene effect =
    if lacks own.most asked then refuse_access scene (refused_access (reason_of NotPermitted)) else effect

-- the rights that an Access to open a file asks for
abbrev pub rights_to_open : (fac : ℕ) → Rights
rights_to_open fac = rights_of (fac_or fac codes.fac_bits.get)

-- the rights that an Access to create a file asks for: PUT too
abbrev pub rights_to_create : (fac : ℕ) → Rights
rights_to_create fac = record (rights_of (fac_or fac codes.fac_bits.put)) { put = true }

-- Opens the file at this index of the table, if there is one.
abbrev pub open_file : ServerSetup → Scene → (fac : ℕ) → Option ℕ → Effect
open_file own scene fac None = refuse_access scene (bare_status codes.stscode.file_not_found)
open_file own scene fac (Some at) =
    effect_if_permitted own (rights_to_open fac) scene (enters scene (Opened (record { at = at; is_new = false; rights = rights_of (fac_or fac codes.fac_bits.get) }))
    (opened_with (file_at at scene.files).shape (file_at at scene.files).look))

-- Makes a file of this name, as it was asked for, if the attributes were good. It comes after all others, of which one
-- that it replaces is removed.
abbrev pub make_file : Scene → (new : List ℕ) → (fac : ℕ) → (replaced : Option ℕ) → Option Asked → Effect
make_file scene new fac replaced None = refuse_access scene (refused_access codes.reasons.bad_attributes)
make_file scene new fac replaced (Some asked) =
    let files = files_without replaced scene.files in
    enters (record scene { files = files ++ (new, made_file asked) ∷ [] })
    (Opened (record { at = length files; is_new = true; rights = rights_of (fac_or fac codes.fac_bits.put) }))
    (opened_with asked.shape asked.look)

-- Makes a file of this name, as it was asked for, where there is a number for it.
abbrev pub create_file : ServerSetup → Scene → (name : List ℕ) → (fac : ℕ) → (number : Option ℕ) → Option Asked → Effect
create_file own scene name fac None asked = refuse_access scene (refused_access codes.reasons.file_exists)
create_file own scene name fac (Some number) asked =
    effect_if_permitted own (rights_to_create fac) scene
    (make_file scene (name_with own.names name number) fac (index_to_replace own.names name scene.files) asked)

-- Removes the file at this index of the table, if there is one: those after it move up. It is acknowledged, and the
-- access is complete.
abbrev pub erase_file : ServerSetup → Scene → Option ℕ → Effect
erase_file own scene None = refuse_access scene (bare_status codes.stscode.file_not_found)
erase_file own scene (Some at) =
    effect_if_permitted own rights_to_erase scene (enters (record scene { files = remove scene.files at }) Ready erased_with)

-- an Access, by ACCFUNC: open and create are supported, and erase by a full server
abbrev pub access_file : ServerSetup → Scene → AccessFields → Option Asked → Effect
access_file own scene access asked =
    if access.func == codes.accfunc.opening then open_file own scene access.fac (index_by own.names access.name scene.files)
    else if access.func == codes.accfunc.creating then create_file own scene access.name access.fac (number_made own.names access.name scene.files) asked
    else if own.full && access.func == codes.accfunc.erasing then erase_file own scene (index_to_erase own.names access.name scene.files)
    else refuse_access scene (bare_status (codes.unsupported_code codes.types.access))

-- ---- Access Complete.

-- the files after a purge: one that this Access made is removed
abbrev pub files_after_purge : OpenFile → Files → Files
files_after_purge opened files = if opened.is_new then remove files opened.at else files

-- the end of a stream; without a stream it is out of synchronization
abbrev pub end_stream : Scene → OpenFile → ServerState → Effect
end_stream scene opened (Opened _) = enters scene (Opened opened) (bare_status (codes.out_of_sequence codes.types.accomp) ∷ [])
end_stream scene opened state = enters scene (Opened opened) (complete_response ∷ [])

-- an Access Complete, by CMPFUNC, while a file is open
abbrev pub complete : (func : ℕ) → Scene → OpenFile → ServerState → Effect
complete func scene opened state =
    if func == codes.cmpfunc.close then enters scene Ready (complete_response ∷ [])
    else if func == codes.cmpfunc.purge then enters (record scene { files = files_after_purge opened scene.files }) Ready (complete_response ∷ [])
    else if func == codes.cmpfunc.end_of_stream then end_stream scene opened state
    else if func == codes.cmpfunc.skip then enters scene state (bare_status (codes.unsupported_code codes.types.accomp) ∷ [])
    else enters scene state (bare_status (codes.invalid codes.types.accomp) ∷ [])
