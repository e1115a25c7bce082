-- Every answer has a spelling, and none is longer than the peer takes.
use Rattle.std.proofs.Common.{subst, ◌≡◌, ℕ, ◌+◌, ◌^◌, ◌<◌, ◌≤◌, Bool, true, false, List, [], ◌∷◌, ◌++◌, length, map, Option, Some, None, Result, Ok, Err, refl, sym, arith, lit≤, lit<}
use Rattle.dap_accessed.specs.Setup.{lacks}
use Rattle.rec_file.specs.declared.picks.Rights.{Rights}
use Rattle.dap_accessed.specs.declared.setup.ServerSetup.{ServerSetup}
use Rattle.dap_msg.specs.Fitting.{FieldsFit}
use Rattle.std.proofs.lemmas.List.{append-nil}
use Rattle.dap_accessed.specs.Groups.{next_answers, answers_after}
use Rattle.dap_accessed.proofs.Cuts.{Answers-more, added-is}
use Rattle.std.proofs.Common.{append_assoc}
use Rattle.std.specs.Prelude.{IfSome, IsTrue, nat_le, unwrap_or, if◌then◌else◌}
use Rattle.std.specs.FinMap.{get}
use Rattle.std.proofs.lemmas.Bool.Decides.{nat_tests}
use Rattle.dap_msg.specs.Codes as codes
use Rattle.dap_msg.specs.declared.message.Message.{Message}
use Rattle.dap_msg.specs.declared.message.AccessFields.{AccessFields}
use Rattle.dap_msg.specs.declared.message.ControlFields.{ControlFields}
use Rattle.dap_msg.specs.declared.message.Message.TheVariants.{Config, Attrib, Access, Control, Contran, Ack, Accomp, Filedata, Other}
use Rattle.dap_msg.specs.Formats.{type_number as type_of}
use Rattle.dap_msg.specs.Inner.Answers.{IsShortAnswer}
use Rattle.dap_msg.specs.BothEnds.{four_bytes, min_buffer}
use Rattle.dap_msg.specs.declared.items.Item.{Item}
use Rattle.dap_msg.specs.declared.items.Item.TheVariants.{Whole, Malformed}
use Rattle.dap_msg.specs.Items.{IsRead}
use Rattle.dap_msg.specs.Blocked.{AllFit}
use Rattle.dap_msg.specs.Sendable.{IsSendable, AreSendable}
use Rattle.dap_msg.proofs.ForCallers.{answers_fit, type_short}
use Rattle.rec_file.specs.declared.shapes.Shape.{Shape}
use Rattle.dap_accessed.specs.declared.asked.Asked.{Asked}
use Rattle.rec_file.specs.declared.refusals.Refusal.{Refusal}
use Rattle.rec_file.specs.declared.refusals.Refusal.TheVariants.{NotPermitted, EndOfFile}
use Rattle.rec_file.specs.declared.picks.Pick.{Pick}
use Rattle.rec_file.specs.Limits.{max_record}
use Rattle.rec_file.specs.Shapes.{is_shape}
use Rattle.rec_file.specs.Files.{IsFile, records_from}
use Rattle.rec_file.specs.Acts.{StreamVal, act, get_record, put_record, update_record, delete_record}
use Rattle.rec_file.proofs.ForCallers.{AreShort, records_short, body_fits}
use Rattle.dap_accessed.specs.declared.phase.OpenFile.{OpenFile}
use Rattle.dap_accessed.specs.declared.verbs.Verb.{Verb}
use Rattle.dap_accessed.specs.declared.verbs.Verb.TheVariants as verbs
use Rattle.std.specs.Prelude.{◌==◌, ◌&&◌, take_while, drop}
use Rattle.std.specs.List.{prefix_len, AllByRecursion}
use Rattle.std.proofs.lemmas.List.Sums.{take_while-cons}
use Rattle.dap_msg.specs.BothEnds.{message_limit}
use Rattle.dap_accessed.specs.Standing.{Files, enters}
use Rattle.dap_accessed.specs.Standing.{file_at, the_file, ServerState, Fresh, Ready, Opened, Connected, Store, Stopped, Group, Standing, Scene, Effect}
use Rattle.dap_accessed.specs.Naming.{index_by, index_to_erase, number_made}
use Rattle.dap_accessed.specs.Past.{asked_file, kept_attributes, is_dropping, ordinal_so_far, next_ordinal}
use Rattle.dap_accessed.specs.Replies.{bare_status, reason_status, sync_status, reason_of, refusal_status, done_status, record_status, too_large, coded, complete_response, opened_with}
use Rattle.dap_accessed.specs.Accesses.{effect_if_permitted, rights_to_create, rights_to_erase, erase_file, rights_to_open, make_file, open_file, create_file, access_file, end_stream, complete}
use Rattle.dap_accessed.specs.Records.{at_number, stream_without_current, verb_of, get_pick, got, record_got, Change, Putting, Updating, effect_of_change, fits_limit, filedata_of}
use Rattle.dap_accessed.specs.Transfers.{fetch, fetch_ends, continue_refused, continue_fetch, store_one, stored_answers, continue_store}
use Rattle.dap_msg.specs.BothEnds.{is_too_small}
use Rattle.dap_accessed.proofs.Coding.{coded-records, coded-small}
use Rattle.dap_accessed.specs.Effects.{Begun, Turn, told, control_status, control_opened, control_connected, turn_in, turn_of, effect_with}
use Rattle.dap_accessed.specs.Groups.{Answers, stands_after, answers_added}
use Rattle.dap_accessed.specs.Sound.{AreFiles, IsOpenAt, IsSound}
use Rattle.dap_accessed.proofs.Kept.{both}
use Rattle.dap_accessed.proofs.SoundTables.{AllFiles, file-there}
use Rattle.dap_accessed.proofs.Asking.{Good, good-file}
use Rattle.dap_accessed.proofs.SoundGroups.{index-within}
use Rattle.dap_accessed.proofs.SoundLists.{all-sound}
use Rattle.rec_file.specs.declared.look.Look.{Look}
use Rattle.rec_file.specs.Looks.{IsLook}
use Rattle.dap_accessed.proofs.Writing.{attributes_fit}

-- the type of a message is one byte
abbrev pub HasShortType : Item → Type 0
HasShortType (Whole m) = type_of m < 256
HasShortType (Malformed fault) = Unit {0}

pub read-short : (item : Item) → IsRead item → HasShortType item
read-short (Whole m) r = type_short r.0 r.1 m r.2 r.3
read-short (Malformed fault) r = tt

code_small : (n : ℕ) → codes.status_code_for n < 2 ^ 16
code_small n = grind (arith, nat_tests)

small : (n : ℕ) → nat_le n max_record ≡ true → n < 2 ^ 16
small n le = grind (arith, nat_tests)

shape_small : (s : Shape) → IsTrue (is_shape s) → s.mrs < 2 ^ 16
shape_small s h =
    let one = both _ _ h in
    let two = both _ _ one.0 in
    let le : nat_le s.mrs max_record ≡ true = (both _ _ two.0).1 in
    small s.mrs le

module _ (limit : ℕ) (least : min_buffer ≤ limit) where
  short : (m : Message) → IsShortAnswer m → IsSendable limit m
  short m s = (s.fits, omega (arith, s.short, least))

  bare : (code : ℕ) → code < 2 ^ 16 → IsSendable limit (bare_status code)
  bare code h = short (bare_status code) (answers_fit.status _ h (lit≤ tt) (lit≤ tt) (lit≤ tt))

  reasoned : (full : Bool) (code reason : ℕ) (recnum : List ℕ) → code < 2 ^ 16 → length recnum ≤ 4 → IsSendable limit (coded full (reason_status code reason recnum))
  reasoned full code reason recnum h k =
      short (coded full (reason_status code reason recnum)) (answers_fit.status _ (coded-small full code reason h) (lit≤ tt) k (lit≤ tt))

  done : (n : ℕ) → IsSendable limit (done_status n)
  done n = short (done_status n) (answers_fit.status _ (lit< tt) (lit≤ tt) (lit≤ tt) (lit≤ tt))

  refusing : (full : Bool) (r : Refusal) (recnum : List ℕ) → length recnum ≤ 4 → IsSendable limit (coded full (refusal_status r recnum))
  refusing full EndOfFile recnum k = bare 0x5027 (lit< tt)
  refusing full r recnum k = reasoned full 0x5000 (reason_of r) recnum (lit< tt) k

  replying : (full : Bool) (reply : Result ℕ Refusal) → IsSendable limit (coded full (record_status reply))
  replying full (Ok n) = done n
  replying full (Err r) = refusing full r [] (lit≤ tt)

  out : (m : Message) → type_of m < 256 → IsSendable limit (sync_status m)
  out m h = bare (codes.out_of_sequence (type_of m)) (omega (arith, h))

  out_of_order_sends : (full : Bool) (verb : Verb) → IsSendable limit (coded full (control_status verb))
  out_of_order_sends full verbs.Unknown = bare 0x2100 (lit< tt)
  out_of_order_sends full verb = bare (codes.out_of_sequence codes.types.control) (lit< tt)

  malformed : (n : ℕ) → IsSendable limit (bare_status (codes.status_code_for n))
  malformed n = bare (codes.status_code_for n) (code_small n)

  ended : IsSendable limit complete_response
  ended = short complete_response (answers_fit.complete 2 (lit< tt))

  opened : (shape : Shape) (look : Look) → IsTrue (is_shape shape) → IsLook shape look → AreSendable limit (opened_with shape look)
  opened shape look h is = (
    short _ (attributes_fit shape look (shape_small shape h) is),
    (short Ack answers_fit.ack, tt),
  )

  recorded : (r : ℕ × List ℕ) → length r.1 ≤ max_record → fits_limit limit r ≡ true → IsSendable limit (filedata_of r)
  recorded r h e = (
    answers_fit.filedata r.0 r.1 h,
    grind (arith, nat_tests, e),
  )

  sendable_more : (one two : List Message) → AreSendable limit one → AreSendable limit two → AreSendable limit (one ++ two)
  sendable_more [] two h k = k
  sendable_more (m ∷ one) two h k = (h.0, sendable_more one two h.1 k)

  leads : (r : ℕ × List ℕ) (rs : List (ℕ × List ℕ)) (b : Bool) → fits_limit limit r ≡ b → length r.1 ≤ max_record
      → AreSendable limit (map filedata_of (take_while (fits_limit limit) rs)) → AreSendable limit (map filedata_of (if b then r ∷ take_while (fits_limit limit) rs else []))
  leads r rs true e h k = (recorded r h e, k)
  leads r rs false e h k = tt

  all_recorded : (rs : List (ℕ × List ℕ)) → AreShort rs → AreSendable limit (map filedata_of (take_while (fits_limit limit) rs))
  all_recorded [] h = tt
  all_recorded (r ∷ rs) h =
      subst (λ (l : List (ℕ × List ℕ)). AreSendable limit (map filedata_of l)) (sym (take_while-cons (fits_limit limit) r rs)) (leads r rs (fits_limit limit r) refl h.0 (all_recorded rs h.1))

module _ (own : ServerSetup) (small_own : FieldsFit (Config own.identity)) (scene : Scene) (files : AllFiles scene.files) (least : min_buffer ≤ scene.limit) where
  abbrev Sends : Effect → Type 0
  Sends e = AreSendable scene.limit (told own e).answers

  abbrev SendsIn : Turn → Type 0
  SendsIn t = AreSendable scene.limit (next_answers own t)

  -- ---- Accesses.

  either : (b : Bool) (one two : Effect) → Sends one → Sends two → Sends (if b then one else two)
  either true one two h k = h
  either false one two h k = k

  permitting : (asked : Rights) (e : Effect) → Sends e → Sends (effect_if_permitted own asked scene e)
  permitting asked e h = either (lacks own.most asked) _ _ (reasoned scene.limit least own.full 0x4000 2 [] (lit< tt) (lit≤ tt), tt) h

  opening : (fac : ℕ) (at : Option ℕ) → IfSome at (λ n. n < length scene.files) → Sends (open_file own scene fac at)
  opening fac None h = (bare scene.limit least 0x4032 (lit< tt), tt)
  opening fac (Some at) h =
      permitting (rights_to_open fac) _ (opened scene.limit least (file_at at scene.files).shape (file_at at scene.files).look (file-there scene.files at files h).shape (file-there scene.files at files h).look)

  making : (new : List ℕ) (fac : ℕ) (replaced : Option ℕ) (shape : Option Asked) → Good shape → Sends (make_file scene new fac replaced shape)
  making new fac replaced None g = (reasoned scene.limit least own.full 0x4000 11 [] (lit< tt) (lit≤ tt), tt)
  making new fac replaced (Some asked) g = opened scene.limit least asked.shape asked.look g.shape g.look

  creating : (name : List ℕ) (fac : ℕ) (number : Option ℕ) (shape : Option Asked) → Good shape → Sends (create_file own scene name fac number shape)
  creating name fac None shape g = (reasoned scene.limit least own.full 0x4000 1 [] (lit< tt) (lit≤ tt), tt)
  creating name fac (Some n) shape g = permitting (rights_to_create fac) _ (making _ fac _ shape g)

  erasing : (at : Option ℕ) → Sends (erase_file own scene at)
  erasing None = (bare scene.limit least 0x4032 (lit< tt), tt)
  erasing (Some at) = permitting rights_to_erase _ (short scene.limit least Ack answers_fit.ack, (ended scene.limit least, tt))

  accessing : (a : AccessFields) (shape : Option Asked) → Good shape → Sends (access_file own scene a shape)
  accessing a shape g =
      let found = index_by own.names a.name scene.files in
      either (a.func == codes.accfunc.opening) _ _ (opening a.fac found (index-within own.names a.name scene.files))
      (either (a.func == codes.accfunc.creating) _ _ (creating a.name a.fac (number_made own.names a.name scene.files) shape g)
      (either (own.full && a.func == codes.accfunc.erasing) _ _ (erasing (index_to_erase own.names a.name scene.files))
      (bare scene.limit least 0x20C0 (lit< tt), tt)))

  ending-sends : (o : OpenFile) (state : ServerState) → Sends (end_stream scene o state)
  ending-sends o (Opened p) = (bare scene.limit least (codes.out_of_sequence codes.types.accomp) (lit< tt), tt)
  ending-sends o Fresh = (ended scene.limit least, tt)
  ending-sends o Ready = (ended scene.limit least, tt)
  ending-sends o (Connected p s) = (ended scene.limit least, tt)
  ending-sends o (Store p s) = (ended scene.limit least, tt)
  ending-sends o (Stopped p s) = (ended scene.limit least, tt)

  completing-sends : (func : ℕ) (o : OpenFile) (state : ServerState) → Sends (complete func scene o state)
  completing-sends func o state =
      either (func == codes.cmpfunc.close) _ _ (ended scene.limit least, tt)
      (either (func == codes.cmpfunc.purge) _ _ (ended scene.limit least, tt)
      (either (func == codes.cmpfunc.end_of_stream) _ _ (ending-sends o state)
      (either (func == codes.cmpfunc.skip) _ _ (bare scene.limit least 0x21C0 (lit< tt), tt) (bare scene.limit least 0x91C0 (lit< tt), tt))))

  -- ---- Records.

  module _ (o : OpenFile) (there : o.at < length scene.files) where
    file-is : IsFile (the_file scene.files o)
    file-is = file-there scene.files o.at files there

    body-short : (n : ℕ) (body : Option (List ℕ)) → get (the_file scene.files o).records n ≡ body → length (unwrap_or body []) ≤ max_record
    body-short n None e = lit≤ tt
    body-short n (Some body) e = body_fits (the_file scene.files o) n body file-is (sym e)

    finding : (fits : Bool) (before after : StreamVal) (r : ℕ × List ℕ) → length r.1 ≤ max_record → fits_limit scene.limit r ≡ fits → Sends (if fits then enters scene (Connected o after) (filedata_of r ∷ []) else enters scene (Connected o (stream_without_current before)) (too_large ∷ []))
    finding true before after r h e = (recorded scene.limit least r h e, tt)
    finding false before after r h e = (reasoned scene.limit least own.full 0x5000 10 [] (lit< tt) (lit≤ tt), tt)

    getting : (reply : Result ℕ Refusal) (before after : StreamVal) → Sends (got reply scene o before after)
    getting (Err refusal) before after = (refusing scene.limit least own.full refusal [] (lit≤ tt), tt)
    getting (Ok n) before after = finding _ before after _ (body-short n _ refl) refl

    picked : (pick : Result Pick Refusal) (s : StreamVal) → Sends (record_got pick scene o s)
    picked (Err refusal) s = (refusing scene.limit least own.full refusal [] (lit≤ tt), tt)
    picked (Ok pick) s = getting (act (get_record pick) (the_file scene.files o) s).reply s (act (get_record pick) (the_file scene.files o) s).stream

    second : (change : Change) (s : StreamVal) (body : List ℕ) → Sends (effect_of_change change scene o s body)
    second (Putting (Err refusal)) s body = (refusing scene.limit least own.full refusal [] (lit≤ tt), tt)
    second (Putting (Ok key)) s body = (replying scene.limit least own.full (act (put_record key body) (the_file scene.files o) s).reply, tt)
    second Updating s body = (replying scene.limit least own.full (act (update_record body) (the_file scene.files o) s).reply, tt)

    -- ---- Transfers.

    fetch-ends : (s : StreamVal) (given rest : List (ℕ × List ℕ)) → AreSendable scene.limit (map filedata_of given) → Sends (fetch_ends scene o s given rest)
    fetch-ends s given [] h =
        subst (AreSendable scene.limit) (sym (coded-records own.full given (bare_status codes.stscode.end_of_file)))
        (sendable_more scene.limit least (map filedata_of given) (bare_status codes.stscode.end_of_file ∷ []) h (bare scene.limit least 0x5027 (lit< tt), tt))
    fetch-ends s given (large ∷ more) h =
        subst (AreSendable scene.limit) (sym (coded-records own.full given too_large))
        (sendable_more scene.limit least (map filedata_of given) (coded own.full too_large ∷ []) h (reasoned scene.limit least own.full 0x5000 10 [] (lit< tt) (lit≤ tt), tt))

    fetching : (s : StreamVal) → Sends (fetch scene o s)
    fetching s =
        let due = records_from (the_file scene.files o).records s.next in
        fetch-ends s (take_while (fits_limit scene.limit) due) (drop (prefix_len (fits_limit scene.limit) due) due) (all_recorded scene.limit least due (records_short (the_file scene.files o) s.next file-is))

    not-continued : (known : Bool) → IsSendable scene.limit (bare_status (if known then codes.unsupported_code codes.types.contran else codes.invalid codes.types.contran))
    not-continued true = bare scene.limit least 0x2140 (lit< tt)
    not-continued false = bare scene.limit least 0x9140 (lit< tt)

    continuing : (func : ℕ) (s : StreamVal) → Sends (continue_fetch func scene o s)
    continuing func s =
        either (func == codes.confunc.again) _ _ (fetching s)
        (either (func == codes.confunc.skip) _ _ (fetching (at_number (s.next + 1) s))
        (either (func == codes.confunc.abort) _ _ (bare scene.limit least 0x5027 (lit< tt), tt) (not-continued (func == codes.confunc.resume), tt)))

    stored : (ordinal : ℕ) (reply : Result ℕ Refusal) → AreSendable scene.limit (map (coded own.full) (stored_answers ordinal reply))
    stored ordinal (Ok n) = tt
    stored ordinal (Err refusal) = (refusing scene.limit least own.full refusal (four_bytes ordinal) (lit≤ tt), tt)

    storing : (ordinal : ℕ) (s : StreamVal) (body : List ℕ) → Sends (store_one ordinal scene o s body)
    storing ordinal s body = stored (next_ordinal ordinal) (act (put_record None body) (the_file scene.files o) s).reply

    resumed : (skip : Bool) (func : ℕ) → AreSendable scene.limit (map (coded own.full) (if skip then [] else continue_refused func ∷ []))
    resumed true func = tt
    resumed false func = (not-continued (func == codes.confunc.resume), tt)

    resuming : (func : ℕ) (s : StreamVal) → Sends (continue_store func scene o s)
    resuming func s = resumed (func == codes.confunc.skip) func

    -- ---- The states.

    opened-control : (verb : Verb) → Sends (control_opened verb scene o)
    opened-control verbs.Connect = (short scene.limit least Ack answers_fit.ack, tt)
    opened-control verb = (out_of_order_sends scene.limit least own.full verb, tt)

    connected-control : (verb : Verb) (s : StreamVal) (c : ControlFields) → SendsIn (control_connected verb scene o s c)
    connected-control verbs.Get s c = picked (get_pick (the_file scene.files o) s c) s
    connected-control verbs.Fetch s c = either s.rights.get _ _ (fetching s) (refusing scene.limit least own.full NotPermitted [] (lit≤ tt), tt)
    connected-control verbs.Put s c = tt
    connected-control verbs.Update s c = tt
    connected-control verbs.Store s c = tt
    connected-control verbs.Delete s c = (replying scene.limit least own.full (act delete_record (the_file scene.files o) s).reply, tt)
    connected-control verbs.Rewind s c = (bare scene.limit least 0x1000 (lit< tt), tt)
    connected-control verb s c = (out_of_order_sends scene.limit least own.full verb, tt)

    with-second : (change : Change) (s : StreamVal) (item : Item) → HasShortType item → Sends (effect_with change scene o s item)
    with-second change s (Malformed fault) h = (malformed scene.limit least fault.message_type, tt)
    with-second change s (Whole (Filedata r body)) h = second change s body
    with-second change s (Whole message) h = (out scene.limit least message h, tt)

  configuring : (small : Bool) (bufsiz : ℕ) → Sends (if small then enters scene Fresh (bare_status (codes.invalid codes.types.config) ∷ []) else enters (record scene { limit = message_limit bufsiz }) Ready (Config own.identity ∷ []))
  configuring true bufsiz = (bare scene.limit least 0x9040 (lit< tt), tt)
  configuring false bufsiz = (short scene.limit least _ (answers_fit.identity own.identity small_own), tt)

  of-message : (past : List Group) (state : ServerState) → IsOpenAt scene.files state → (m : Message) → type_of m < 256 → SendsIn (turn_in own scene past state m)
  of-message past Fresh h (Config c) t = configuring (is_too_small c.bufsiz) c.bufsiz
  of-message past Fresh h (Other _ _) t = tt
  of-message past Fresh h m t = (out scene.limit least m t, tt)
  of-message past Ready h (Other _ _) t = tt
  of-message past Ready h (Attrib _) t = tt
  of-message past Ready h (Access a) t = accessing a (asked_file own.full (kept_attributes past)) (good-file own.full (kept_attributes past))
  of-message past Ready h m t = (out scene.limit least m t, tt)
  of-message past (Opened o) h (Control c) t = opened-control o h (verb_of c)
  of-message past (Opened o) h (Accomp c) t = completing-sends c.func o (Opened o)
  of-message past (Opened o) h m t = (out scene.limit least m t, tt)
  of-message past (Connected o s) h (Control c) t = connected-control o h (verb_of c) s c
  of-message past (Connected o s) h (Accomp c) t = completing-sends c.func o (Connected o s)
  of-message past (Connected o s) h m t = (out scene.limit least m t, tt)
  of-message past (Store o s) h (Control c) t = (out_of_order_sends scene.limit least own.full (verb_of c), tt)
  of-message past (Store o s) h (Filedata r body) t = either (is_dropping past) _ _ tt (storing o h (ordinal_so_far past) s body)
  of-message past (Store o s) h (Contran func) t = either (is_dropping past) _ _ (resuming o h func s) (bare scene.limit least (codes.out_of_sequence codes.types.contran) (lit< tt), tt)
  of-message past (Store o s) h (Accomp c) t = completing-sends c.func o (Store o s)
  of-message past (Store o s) h m t = (out scene.limit least m t, tt)
  of-message past (Stopped o s) h (Control c) t = (out_of_order_sends scene.limit least own.full (verb_of c), tt)
  of-message past (Stopped o s) h (Contran func) t = continuing o h func s
  of-message past (Stopped o s) h (Accomp c) t = completing-sends c.func o (Stopped o s)
  of-message past (Stopped o s) h m t = (out scene.limit least m t, tt)

  of-item : (past : List Group) (state : ServerState) → IsOpenAt scene.files state → (item : Item) → HasShortType item → SendsIn (turn_of own (record { scene = scene; state = state; past = past }) item)
  of-item past state h (Malformed fault) t = (malformed scene.limit least fault.message_type, tt)
  of-item past state h (Whole m) t = of-message past state h m t

-- ---- One item more, and every list of items.

module _ (own : ServerSetup) (small : FieldsFit (Config own.identity)) (first : Files) (good : AreFiles first) where
  one-sends : (s : Standing) (b : Option Begun) (item : Item) → IsSound (record { standing = s; begun = b }) → HasShortType item → AreSendable s.scene.limit (answers_after own s b item)
  one-sends s None item h t =
      let h = h.standing in
      of-item own small s.scene h.files.files h.least s.past s.state h.opened item t
  one-sends s (Some b) item h t = with-second own small s.scene h.standing.files.files h.standing.least b.opened h.begun b.change b.stream item t

  -- what one item more adds may be sent
  pub added-sends : (items : List Item) (item : Item) → HasShortType item → AreSendable (stands_after own first items).standing.scene.limit (answers_added own first items item)
  added-sends items item t =
      let c = stands_after own first items in
      subst (AreSendable c.standing.scene.limit) (sym (added-is own first items item)) (one-sends c.standing c.begun item (all-sound own first items good) t)

-- ---- All answers to items that were read have spellings.

sendable-fit : (limit : ℕ) (messages : List Message) → AreSendable limit messages → AllFit messages
sendable-fit limit [] h = tt
sendable-fit limit (m ∷ messages) h = (h.0.0, sendable-fit limit messages h.1)

fit-both : (one two : List Message) → AllFit one → AllFit two → AllFit (one ++ two)
fit-both [] two h k = k
fit-both (m ∷ one) two h k = (h.0, fit-both one two h.1 k)

fit-on : (own : ServerSetup) → FieldsFit (Config own.identity) → (first : Files) → AreFiles first → (before more : List Item) → AllFit (Answers own first before) → AllByRecursion IsRead more → AllFit (Answers own first (before ++ more))
fit-on own small first good before [] h r = subst (λ (l : List Item). AllFit (Answers own first l)) (sym (append-nil before)) h
fit-on own small first good before (item ∷ more) h r =
    let here = answers_added own first before item in
    let fit : AllFit here = sendable-fit (stands_after own first before).standing.scene.limit here (added-sends own small first good before item (read-short item r.0)) in
    let one : AllFit (Answers own first (before ++ item ∷ [])) = subst AllFit (sym (Answers-more own first before item)) (fit-both (Answers own first before) here h fit) in
    subst (λ (l : List Item). AllFit (Answers own first l)) (append_assoc before (item ∷ []) more) (fit-on own small first good (before ++ item ∷ []) more one r.1)

pub all-fit : (own : ServerSetup) → FieldsFit (Config own.identity) → (first : Files) → AreFiles first → (items : List Item) → AllByRecursion IsRead items → AllFit (Answers own first items)
all-fit own small first good items r = fit-on own small first good [] items tt r
