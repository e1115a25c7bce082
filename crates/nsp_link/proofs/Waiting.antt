-- The bytes of messages and of their segments.
use Rattle.std.proofs.Common.{◌≡◌, ℕ, zero, suc, ◌+◌, ◌-◌, ◌*◌, inl, inr, Option, Some, Result, Ok, Err, eq-eqb, ◌<◌, ◌≤◌, min, cond, List, [], ◌∷◌, ◌++◌, length, take, drop, map, get_or, refl, sym, ap, ◌∙◌, arith, Bool, true, false}
use Rattle.std.specs.Prelude.{All}
use Rattle.std.specs.List.{range_with_len}
use Rattle.std.specs.Int.{div_ceil}
use Rattle.std.proofs.Math.Nat.{mul-le-mul_right, mul-le-mul_left}
use Rattle.std.proofs.lemmas.Grind.{div_ceil_times}
use Rattle.std.proofs.lemmas.List.{length-take, length-drop, map-append, take_more, drop_more, length-append, take-append-drop, take-append-le, drop-append-le}
use Rattle.std.proofs.Math.Seq.{take-append-add, drop-append-add}
use Rattle.std.proofs.lemmas.Bool.{cases_lt, ne_eqb}
use Rattle.std.proofs.lemmas.List.Sums.{sum_by-append, sum_by_push, sum_by-cons, sum_by-le}
use Rattle.std.proofs.lemmas.List.FromFn.{map-range_with_len_more, take-map-range_with_len}
use Rattle.nsp_link.specs.Limits.{max_limit}
use Rattle.nsp_link.specs.Inner.Pieces.{Segment, piece, piece_values}
use Rattle.nsp_link.specs.Cutting.{Piece, count_of, piece_at, cut_message, cut, total_length, bytes_in, part_after}
use Rattle.nsp_seg.specs.declared.packet.Packet.{Packet}
use Rattle.nsp_seg.specs.declared.packet.Packet.TheVariants.{Segment as ASegment, DataAck}
use Rattle.nsp_link.specs.declared.fault.LinkFault.{LinkFault}
use Rattle.nsp_link.specs.declared.link.Got.{Got}
use Rattle.nsp_link.specs.Link.{LinkValue, AreUnfinished, Sends, failed_link, first_ack, with_acked, piece_of, waiting_bytes}
use Rattle.nsp_link.specs.Receiving.{Acknowledges, ReceivesPacket, LetsGo, ReceivesBounded, BoundedBytes, Receives, ends_link, segment_number, taking_in}
use Rattle.nsp_link.specs.Sending.{queued_link}
use Rattle.nsp_link.proofs.Counts.{length-cut_message, length-cut-one}
use Rattle.nsp_link.proofs.Several.{cut-none}
use Rattle.nsp_link.proofs.Taking.{count-positive, cut-append}

-- ---- The bytes of a message are those of its segments.

pub bytes-append : (ps qs : List Piece) → bytes_in (ps ++ qs) ≡ bytes_in ps + bytes_in qs
bytes-append ps qs = sum_by-append (λ (p : Piece). length p.payload) ps qs

bytes_front : (size : ℕ) (message : List ℕ) (n : ℕ) → bytes_in (map (piece_at size message) (range_with_len 0 n)) ≡ min (size * n) (length message)
unfolding piece_at
bytes_front size message zero = omega arith
bytes_front size message (suc n) =
    let one = piece_at size message n in
    let more = map-range_with_len_more (piece_at size message) 0 n n (omega arith) in
    let long : suc n ≡ n + 1 = omega arith in
    let here : length one.payload ≡ min size (length (drop (size * n) message)) = length-take size (drop (size * n) message) in
    let sum = sum_by_push (λ (p : Piece). length p.payload) (map (piece_at size message) (range_with_len 0 n)) one in
    let all : bytes_in (map (piece_at size message) (range_with_len 0 (n + 1))) ≡ bytes_in (map (piece_at size message) (range_with_len 0 n)) + length one.payload = ap bytes_in more ∙ sum in
    let next : size * (n + 1) ≡ size * n + size = omega arith in
    ap (λ (k : ℕ). bytes_in (map (piece_at size message) (range_with_len 0 k))) long
    ∙ all ∙ omega (arith, bytes_front size message n, here, length-drop (size * n) message, next)

pub bytes-cut_message : (size : ℕ) (message : List ℕ) → 0 < size → bytes_in (cut_message size message) ≡ length message
unfolding cut_message count_of
bytes-cut_message size message pos =
    let bounds = div_ceil_times (length message) size pos in
    let q = div_ceil (length message) size in
    let up : q * size ≤ count_of size (length message) * size = mul-le-mul_right size (omega arith) in
    bytes_front size message (count_of size (length message)) ∙ omega (arith, bounds, up)

pub bytes-cut : (size : ℕ) (messages : List (List ℕ)) → 0 < size → bytes_in (cut size messages) ≡ total_length messages
unfolding cut
bytes-cut size [] pos = refl
bytes-cut size (m ∷ ms) pos =
    let both = bytes-append (cut_message size m) (cut size ms) in
    let sum = sum_by-cons (λ (message : List ℕ). length message) m ms in
    both ∙ omega (arith, bytes-cut_message size m pos, bytes-cut size ms pos, sum)

-- no message is without a segment
pub messages_few : (size : ℕ) (messages : List (List ℕ)) → length messages ≤ length (cut size messages)
unfolding cut count_of
messages_few size [] = omega arith
messages_few size (m ∷ ms) =
    let both = length-append (cut_message size m) (cut size ms) in
    omega (arith, both, length-cut_message size m, messages_few size ms)

pub bytes_few : (size limit : ℕ) (messages : List (List ℕ)) → limit ≤ max_limit → All (λ m. length m ≤ limit) messages → total_length messages ≤ max_limit * length (cut size messages)
bytes_few size limit messages le short =
    let all = sum_by-le (λ (m : List ℕ). length m) limit messages short in
    let few = messages_few size messages in
    let one : length messages * limit ≤ length messages * max_limit = mul-le-mul_left (length messages) le in
    omega (arith, all, few, one)

-- ---- What is left of a message.

pub part-append : (before : ℕ) (ps qs : List Piece) → part_after before (ps ++ qs) ≡ part_after (part_after before ps) qs
unfolding part_after
part-append before [] qs = refl
part-append before (p ∷ ps) qs = part-append (cond p.last 0 (before + length p.payload)) ps qs

-- one segment more
pub part-one : (before : ℕ) (p : Piece) → part_after before (p ∷ []) ≡ cond p.last 0 (before + length p.payload)
unfolding part_after
part-one before p = refl

-- one segment leaves the front of those that are left
pub dropped_one : (before : ℕ) (items left now : List Segment) (i : ℕ) (s : Segment) → i < length items → left ≡ drop i items → left ≡ s ∷ now
    → (now ≡ drop (i + 1) items) × (part_after before (piece_values (take (i + 1) items)) ≡ cond s.last 0 (part_after before (piece_values (take i items)) + length s.payload))
dropped_one before items left now i s lt is front =
    let more = drop_more items i s lt in
    let same : s ∷ now ≡ get_or items i s ∷ drop (i + 1) items = sym front ∙ is ∙ more in
    let here : s ≡ get_or items i s = ap (λ (l : List Segment). get_or l 0 s) same in
    let taken : piece_values (take (i + 1) items) ≡ piece_values (take i items) ++ piece s ∷ [] =
    ap piece_values (take_more items i s lt) ∙ map-append piece (take i items) (get_or items i s ∷ []) ∙ ap (λ (x : Segment). piece_values (take i items) ++ piece x ∷ []) (sym here) in
    (ap (drop 1) same, ap (part_after before) taken ∙ part-append before (piece_values (take i items)) (piece s ∷ []) ∙ part-one (part_after before (piece_values (take i items))) (piece s))

pub last_dropped : (before now : ℕ) (s : Segment) → s.last ≡ true → now ≡ cond s.last 0 (before + length s.payload) → now ≡ 0
last_dropped before now s last is = is ∙ ap (λ (b : Bool). cond b 0 (before + length s.payload)) last

pub inner_dropped : (before now : ℕ) (s : Segment) → s.last ≡ false → now ≡ cond s.last 0 (before + length s.payload) → now ≡ before + length s.payload
inner_dropped before now s last is = is ∙ ap (λ (b : Bool). cond b 0 (before + length s.payload)) last

-- and its bytes are no longer among those that are left
pub bytes_dropped : (left now : List Segment) (s : Segment) → left ≡ s ∷ now → bytes_in (piece_values left) ≡ length s.payload + bytes_in (piece_values now)
bytes_dropped left now s front = ap (λ (l : List Segment). bytes_in (piece_values l)) front ∙ sum_by-cons (λ (p : Piece). length p.payload) (piece s) (piece_values now)

pub long_enough : (items left now : List Segment) (i : ℕ) (s : Segment) → left ≡ drop i items → left ≡ s ∷ now → i < length items
long_enough items left now i s is front = omega (arith, ap length is, ap length front, length-drop i items)

-- ---- More is sent.

pub bytes_queued : (v : LinkValue) (messages : List (List ℕ)) → 0 < v.setup.seg_size → waiting_bytes (queued_link v (cut v.setup.seg_size messages)) ≡ waiting_bytes v + total_length messages
bytes_queued v messages pos =
    let both = bytes-append v.queue (cut v.setup.seg_size messages) in
    omega (arith, both, bytes-cut v.setup.seg_size messages pos)

-- ---- What is acknowledged.

either : (b : Bool) (n : ℕ) → cond b 0 n ≤ n
either true n = omega arith
either false n = omega arith

front_waits : (before : ℕ) (ps : List Piece) → part_after before ps ≤ before + bytes_in ps
unfolding part_after
front_waits before [] = omega arith
front_waits before (p ∷ ps) =
    let sum = sum_by-cons (λ (q : Piece). length q.payload) p ps in
    let on = front_waits (cond p.last 0 (before + length p.payload)) ps in
    let here : cond p.last 0 (before + length p.payload) ≤ before + length p.payload = either p.last (before + length p.payload) in
    omega (arith, sum, on, here)

-- no more bytes wait once some are acknowledged
forgotten_waits : (v : LinkValue) (count : ℕ) → waiting_bytes (with_acked v count) ≤ waiting_bytes v
forgotten_waits v count =
    let front = front_waits v.part (take count v.queue) in
    let both = bytes-append (take count v.queue) (drop count v.queue) in
    let all = ap bytes_in (take-append-drop count v.queue) in
    omega (arith, front, both, all)

-- ---- A packet comes.

acked_waits : (old mid new : LinkValue) (number : Option ℕ) → waiting_bytes mid ≡ waiting_bytes old → Acknowledges old number mid new → waiting_bytes new ≤ waiting_bytes old
acked_waits old mid new number same acks =
    let fewer = forgotten_waits mid acks.0 in
    let is = ap (λ (v : LinkValue). waiting_bytes v) acks.2 in
    omega (arith, fewer, is, same)

stopped_waits : (b : Bool) (v : LinkValue) → waiting_bytes (cond b (failed_link v) v) ≡ waiting_bytes v
stopped_waits true v = refl
stopped_waits false v = refl

received_waits : (old new : LinkValue) (p : Packet) (r : Result Got LinkFault) → ReceivesPacket old p r new → waiting_bytes new ≤ waiting_bytes old
received_waits old new (ASegment s) (Ok got) (_, (_, _, acks)) = acked_waits old (taking_in old (segment_number old s.number) (piece_of s)) new (first_ack s.ack1 s.ack2) refl acks
received_waits old new (DataAck s) (Ok got) (_, (_, acks)) = acked_waits old old new (first_ack (Some s.ack1) s.ack2) refl acks
received_waits old new p (Err e) (_, left) = let is = ap (λ (v : LinkValue). waiting_bytes v) left in omega (arith, is, stopped_waits (ends_link e) old)

let_go_waits : (old new : LinkValue) (p : Packet) (r : Result Got LinkFault) → LetsGo old p r new → waiting_bytes new ≤ waiting_bytes old
let_go_waits old new (ASegment s) (Ok got) (_, _, acks) = acked_waits old old new (first_ack s.ack1 s.ack2) refl acks
let_go_waits old new (ASegment s) (Err e) (_, left) = let is = ap (λ (v : LinkValue). waiting_bytes v) left in omega (arith, is, stopped_waits (ends_link e) old)
let_go_waits old new (DataAck s) r h = absurd h

bounded_waits : (old new : LinkValue) (p : Packet) (r : Result Got LinkFault) → ReceivesBounded old p r new → waiting_bytes new ≤ waiting_bytes old
bounded_waits old new p r (inl (_, h)) = let_go_waits old new p r h
bounded_waits old new p r (inr (_, h)) = received_waits old new p r h

by_bytes : (old new : LinkValue) (bytes : List ℕ) (r : Result Got LinkFault) → BoundedBytes old new bytes r → waiting_bytes new ≤ waiting_bytes old
by_bytes old new bytes r (inl (f, is, has, same)) = let e = ap (λ (v : LinkValue). waiting_bytes v) same in omega (arith, e)
by_bytes old new bytes r (inr (p, spells, got)) = bounded_waits old new p r got

by_failing : (b : Bool) (old new : LinkValue) (bytes : List ℕ) (r : Result Got LinkFault) → old.failed ≡ b → Receives old new bytes r → waiting_bytes new ≤ waiting_bytes old
by_failing true old new bytes r is h = let e = ap (λ (v : LinkValue). waiting_bytes v) (h.failed is).1 in omega (arith, e)
by_failing false old new bytes r is h = by_bytes old new bytes r (h.any is)

-- whatever comes, no more bytes wait
pub fewer_wait : (old new : LinkValue) (bytes : List ℕ) (r : Result Got LinkFault) → Receives old new bytes r → waiting_bytes new ≤ waiting_bytes old
fewer_wait old new bytes r h = by_failing old.failed old new bytes r refl h

-- ---- Whole messages wait.

-- the first segments of a message, not all of them, are a part of it
some_front : (size : ℕ) (message : List ℕ) (n : ℕ) → n < count_of size (length message) → part_after 0 (map (piece_at size message) (range_with_len 0 n)) ≡ bytes_in (map (piece_at size message) (range_with_len 0 n))
unfolding part_after piece_at
some_front size message zero lt = refl
some_front size message (suc n) lt =
    let front = map (piece_at size message) (range_with_len 0 n) in
    let one = piece_at size message n in
    let more = map-range_with_len_more (piece_at size message) 0 n n (omega arith) in
    let long : suc n ≡ n + 1 = omega arith in
    let within : one.last ≡ false = ne_eqb (n + 1) (count_of size (length message)) (omega arith) in
    let on : part_after 0 (front ++ one ∷ []) ≡ part_after 0 front + length one.payload =
    part-append 0 front (one ∷ []) ∙ part-one (part_after 0 front) one ∙ ap (λ (b : Bool). cond b 0 (part_after 0 front + length one.payload)) within in
    let sum = sum_by_push (λ (p : Piece). length p.payload) front one in
    let parts : part_after 0 (map (piece_at size message) (range_with_len 0 (n + 1))) ≡ bytes_in (map (piece_at size message) (range_with_len 0 (n + 1))) =
    ap (part_after 0) more ∙ on ∙ ap (λ (k : ℕ). k + length one.payload) (some_front size message n (omega arith)) ∙ sym (ap bytes_in more ∙ sum) in
    ap (λ (k : ℕ). part_after 0 (map (piece_at size message) (range_with_len 0 k))) long ∙ parts ∙ sym (ap (λ (k : ℕ). bytes_in (map (piece_at size message) (range_with_len 0 k))) long)

-- all of them leave no part
whole_front : (size : ℕ) (message : List ℕ) (n : ℕ) → n + 1 ≡ count_of size (length message) → part_after 0 (map (piece_at size message) (range_with_len 0 (n + 1))) ≡ 0
unfolding piece_at
whole_front size message n is =
    let front = map (piece_at size message) (range_with_len 0 n) in
    let one = piece_at size message n in
    let more = map-range_with_len_more (piece_at size message) 0 n n (omega arith) in
    let last : one.last ≡ true = eq-eqb (n + 1) (count_of size (length message)) is in
    ap (part_after 0) more ∙ part-append 0 front (one ∷ []) ∙ part-one (part_after 0 front) one ∙ ap (λ (b : Bool). cond b 0 (part_after 0 front + length one.payload)) last

part_whole : (size : ℕ) (message : List ℕ) → part_after 0 (cut_message size message) ≡ 0
unfolding cut_message
part_whole size message =
    let count = count_of size (length message) in
    let n = count - 1 in
    let is : n + 1 ≡ count = omega (arith, count-positive size (length message)) in
    ap (λ (k : ℕ). part_after 0 (map (piece_at size message) (range_with_len 0 k))) (sym is) ∙ whole_front size message n is

part_of_some : (size : ℕ) (message : List ℕ) (n : ℕ) → n < count_of size (length message) → part_after 0 (take n (cut_message size message)) ≡ bytes_in (take n (cut_message size message))
unfolding cut_message
part_of_some size message n lt =
    let pieces = map (piece_at size message) (range_with_len 0 (count_of size (length message))) in
    let front : take n pieces ≡ map (piece_at size message) (range_with_len 0 n) = take-map-range_with_len (piece_at size message) 0 (count_of size (length message)) n (omega arith) in
    ap (part_after 0) front ∙ some_front size message n lt ∙ sym (ap bytes_in front)

none_done : (size : ℕ) (m : List ℕ) (ms : List (List ℕ)) (acked : ℕ) → acked < count_of size (length m) → AreUnfinished size (m ∷ ms) acked (m ∷ ms)
none_done size m ms acked lt =
    record {
      done = [];
      all = refl;
      whole = omega (arith, ap length (cut-none size));
      next = λ x later is. omega (arith, lt, length-cut-one size x, ap (λ (l : List (List ℕ)). count_of size (length (get_or l 0 []))) is);
    }

one_done : (size : ℕ) (m : List ℕ) (ms left : List (List ℕ)) (acked over : ℕ) → acked ≡ count_of size (length m) + over → AreUnfinished size ms over left → AreUnfinished size (m ∷ ms) acked left
unfolding cut
one_done size m ms left acked over is u =
    record {
      done = m ∷ u.done;
      all = ap (λ (l : List (List ℕ)). m ∷ l) u.all;
      whole = omega (arith, is, u.whole, length-append (cut_message size m) (cut size u.done), length-cut_message size m);
      next = λ x later e. omega (arith, is, u.next x later e, length-append (cut_message size m) (cut size (u.done ++ x ∷ [])), length-cut_message size m);
    }

unfinished : (size : ℕ) (messages : List (List ℕ)) (acked : ℕ) → 0 < size → acked ≤ length (cut size messages)
    → (left : List (List ℕ)) × AreUnfinished size messages acked left × (part_after 0 (take acked (cut size messages)) + bytes_in (drop acked (cut size messages)) ≡ total_length left)
unfolding cut part_after
unfinished size [] zero pos le = ([], record { done = []; all = refl; whole = omega arith; next = λ x later is. cc }, refl)
unfinished size [] (suc n) pos le = absurd (omega arith)
unfinished size (m ∷ ms) acked pos le =
    let cm = cut_message size m in
    let rest = cut size ms in
    let long = length-cut_message size m in
    let both = length-append cm rest in
    let sum = sum_by-cons (λ (message : List ℕ). length message) m ms in
    elim (cases_lt acked (count_of size (length m))) [
      | inl lt ↦
          let within : acked ≤ length cm = omega (arith, lt, long) in
          let front = ap (part_after 0) (take-append-le acked cm rest within) ∙ part_of_some size m acked lt in
          let back = ap bytes_in (drop-append-le acked cm rest within) ∙ bytes-append (drop acked cm) rest in
          let whole = bytes-append (take acked cm) (drop acked cm) in
          let all = ap bytes_in (take-append-drop acked cm) in
          (m ∷ ms, none_done size m ms acked lt, omega (arith, front, back, whole, all, bytes-cut_message size m pos, bytes-cut size ms pos, sum))
      | inr ge ↦
          let over = acked - count_of size (length m) in
          let is : acked ≡ count_of size (length m) + over = omega (arith, ge) in
          let at : acked ≡ length cm + over = omega (arith, is, long) in
          let on = unfinished size ms over pos (omega (arith, le, both, at)) in
          let front = ap (λ (n : ℕ). part_after 0 (take n (cm ++ rest))) at ∙ ap (part_after 0) (take-append-add cm rest over) ∙ part-append 0 cm (take over rest)
          ∙ ap (λ (n : ℕ). part_after n (take over rest)) (part_whole size m) in
          let back = ap (λ (n : ℕ). bytes_in (drop n (cm ++ rest))) at ∙ ap bytes_in (drop-append-add cm rest over) in
          (on.0, one_done size m ms on.0 acked over is on.1, omega (arith, front, back, on.2))
    ]

-- where all segments are acknowledged, none of the messages is left
none_left : (size : ℕ) (messages left : List (List ℕ)) (acked : ℕ) → acked ≡ length (cut size messages) → AreUnfinished size messages acked left → left ≡ []
unfolding cut
none_left size messages [] acked is u = refl
none_left size messages (m ∷ later) acked is u =
    let one = u.next m later refl in
    let all = ap (λ (l : List (List ℕ)). length (cut size l)) u.all in
    let first = ap length (cut-append size u.done (m ∷ [])) in
    let whole = ap length (cut-append size u.done (m ∷ later)) in
    absurd (omega (
      arith,
      one,
      is,
      all,
      first,
      whole,
      length-append (cut size u.done) (cut size (m ∷ [])),
      length-append (cut size u.done) (cut size (m ∷ later)),
      length-append (cut_message size m) (cut size later),
      length-cut-one size m,
      length-cut_message size m,
    ))

-- what waits are the messages of which not all segments are acknowledged
pub whole_wait : (v : LinkValue) (messages : List (List ℕ)) → 0 < v.setup.seg_size → Sends v messages
    → (left : List (List ℕ)) × AreUnfinished v.setup.seg_size messages v.acked left × (waiting_bytes v ≡ total_length left)
whole_wait v messages pos sends =
    let u = unfinished v.setup.seg_size messages v.acked pos sends.acked in
    let queue = ap bytes_in sends.queue in
    (u.0, u.1, omega (arith, u.2, sends.part, queue))

-- where nothing is queued, nothing waits
pub none_waits : (v : LinkValue) (messages : List (List ℕ)) → 0 < v.setup.seg_size → Sends v messages → v.queue ≡ [] → waiting_bytes v ≡ 0
none_waits v messages pos sends none =
    let pieces = cut v.setup.seg_size messages in
    let all : v.acked ≡ length pieces = omega (arith, sends.acked, ap length sends.queue, ap length none, length-drop v.acked pieces) in
    let u = whole_wait v messages pos sends in
    let left : u.0 ≡ [] = none_left v.setup.seg_size messages u.0 v.acked all u.1 in
    omega (arith, u.2, ap total_length left)
