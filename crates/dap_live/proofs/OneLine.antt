-- What both ends say to a line is one text.
use Rattle.std.proofs.Common.{◌≡◌, ◌≢◌, ℕ, ◌+◌, ◌<◌, ◌≤◌, ◌%◌, ◌==◌, arith, refl, sym, ◌∙◌, subst, ap, true, false, true≢false, List, length, inl, inr}
use Rattle.std.specs.Prelude.{◌⊎◌, MatchBool, Bool, Option, Some, None, Result, Ok, Err, codes, option_map, if◌then◌else◌}
use Rattle.std.specs.Option.{option_and_then}
use Rattle.std.specs.Result.{result_ok}
use Rattle.hex.specs.Hex.{IsBytes as AreBytes}
use Rattle.hex.specs.Hex.{decode_of, decode_pairs}
use Rattle.hex.specs.declared.error.FromHexError.{FromHexError}
use Rattle.hex.specs.declared.error.FromHexError.TheVariants.{OddLength}
use Rattle.hex.proofs.HexLemmas.{decode_pairs-ok}
use Rattle.nsp_link.specs.declared.link.Got.{Got}
use Rattle.nsp_link.specs.declared.link.LinkSetup.{LinkSetup}
use Rattle.nsp_link.specs.declared.fault.LinkFault.{LinkFault}
use Rattle.nsp_link.specs.declared.fault.LinkFault.TheVariants as fault
use Rattle.nsp_link.specs.declared.fault.LinkFault.TheVariants.{Failed}
use Rattle.nsp_link.specs.Link.{LinkValue, Sends, IsSetup, IsSpelling, SetupFault}
use Rattle.nsp_link.specs.Sending.{ack_packet_of}
use Rattle.dap_accessing.specs.declared.fault.ReadFault.TheVariants as read
use Rattle.dap_end.specs.declared.fault.EndFault.{EndFault}
use Rattle.dap_end.specs.declared.fault.EndFault.TheVariants as end
use Rattle.dap_end.specs.declared.fault.TakeFault.{TakeFault}
use Rattle.dap_end.specs.declared.fault.TakeFault.TheVariants as take
use Rattle.dap_end.specs.Wanting.{is_want}
use Rattle.dap_end.specs.Inner.Wanting.{went_wanting, took_wanting}
use Rattle.texts.specs.Words.{Words, ends, hex_of, is_hex_text, word, words_of}
use Rattle.dap_text.specs.Requests.{request_of}
use Rattle.linewise.specs.declared.talking.Became.{Became}
use Rattle.linewise.specs.declared.talking.Became.TheVariants.{BadLine, NoMemory}
use Rattle.linewise.proofs.ForCallers.{OneAnswer}
use Rattle.linewise.specs.Talks.{Answering, AnswersLine, is_given, max_line, said_of}
use Rattle.dap_end.proofs.ForCallers.{segments_one}
use Rattle.dap_live.specs.declared.orders.Between.{Between}
use Rattle.dap_live.specs.declared.ask_orders.AskOrder.{AskOrder}
use Rattle.dap_live.specs.declared.ask_orders.AskOrder.TheVariants as order
use Rattle.dap_live.specs.Orders.{anew_of, hex_alone}
use Rattle.dap_live.specs.AskOrders.{ask_order_of, asked_of, each_of, names_rights, new_link_order}
use Rattle.dap_live.specs.Sending.{AllAgain, SaysAck}
use Rattle.dap_live.proofs.Forms.{all_fit, also, ends_fit, field_fits, form_fits, none_fit}
use Rattle.dap_live.specs.Texts.{done_said, end_refusal, link_refusal, packet_text, taken_said}

-- ---- A packet's line says bytes.

abbrev pub HexFits : Option (List ℕ) → Type 0
HexFits None = Unit {0}
HexFits (Some bytes) = AreBytes bytes

pairs_fit : (word : List ℕ) (r : Result (List ℕ) FromHexError) → decode_pairs 0 word ≡ r → HexFits (result_ok r)
pairs_fit word (Ok bytes) e = (decode_pairs-ok 0 word bytes e).2
pairs_fit word (Err f) e = tt

decoded_fits : (word : List ℕ) (odd : Bool) → HexFits (result_ok (if odd then Err OddLength else decode_pairs 0 word))
decoded_fits word true = tt
decoded_fits word false = pairs_fit word (decode_pairs 0 word) refl

test_fits : (word : List ℕ) (good : Bool) → HexFits (if good then result_ok (decode_of word) else None)
test_fits word true = decoded_fits word (length word % 2 == 1)
test_fits word false = tt

pub hex_fits : (word : List ℕ) → HexFits (hex_of word)
hex_fits word = test_fits word (is_hex_text word)

abbrev pub Fits : Option AskOrder → Type 0
Fits (Some (order.Packet bytes)) = AreBytes bytes
Fits _ = Unit {0}

packet_fits : (o : Option (List ℕ)) → HexFits o → Fits (option_map order.Packet o)
packet_fits None h = tt
packet_fits (Some bytes) h = h

-- the one word of a packet
alone_fits : (words : Words) → HexFits (hex_alone words)
alone_fits = field_fits HexFits tt hex_of ends (λ w bytes read more. ends_fit HexFits tt bytes more (subst HexFits read (hex_fits w)))

map_fits : {X : Type 0} (of : X → AskOrder) → ((x : X) → Fits (Some (of x))) → (o : Option X) → Fits (option_map of o)
map_fits of h None = tt
map_fits of h (Some x) = h x

-- a new link, if it is one
if_new : (named : Bool) (anew : Option Between) → Fits (if named then None else Some (order.New anew))
if_new true anew = tt
if_new false anew = tt

new_fits : (o : Option (Option Between)) → Fits (option_and_then new_link_order o)
new_fits None = tt
new_fits (Some anew) = if_new (names_rights anew) anew

each_fits : (words : Words) → Fits (each_of words)
each_fits = form_fits Fits tt (codes "fetch") (word (codes "each") (ends order.FetchEach))
    (form_fits Fits tt (codes "each") (ends order.FetchEach) (λ words. ends_fit Fits tt order.FetchEach words tt))

asked_fits : (words : Words) → Fits (asked_of words)
asked_fits = all_fit Fits tt _
    (also Fits tt _ _ each_fits
    (also Fits tt _ _ (λ words. map_fits order.Ask (λ request. tt) (request_of words))
    (none_fit Fits tt)))

pub line_fits : (line : List ℕ) → Fits (ask_order_of line)
line_fits line = all_fit Fits tt _
    (also Fits tt _ _ (form_fits Fits tt (codes ">") (λ words. option_map order.Packet (hex_alone words)) (λ words. packet_fits (hex_alone words) (alone_fits words)))
    (also Fits tt _ _ (form_fits Fits tt (codes "resend") (ends order.Resend) (λ words. ends_fit Fits tt order.Resend words tt))
    (also Fits tt _ _ (form_fits Fits tt (codes "ack") (ends order.Ack) (λ words. ends_fit Fits tt order.Ack words tt))
    (also Fits tt _ _ (form_fits Fits tt (codes "new") (λ words. option_and_then new_link_order (anew_of words)) (λ words. new_fits (anew_of words)))
    (also Fits tt _ _ (form_fits Fits tt (codes "ask") asked_of asked_fits)
    (none_fit Fits tt)))))) (words_of line)

-- ---- What a link sends again.

pub all_again : (link : LinkValue) (handed xs ys : List (List ℕ)) → Sends link handed → AllAgain link xs → AllAgain link ys → xs ≡ ys
all_again link handed xs ys sends a b = segments_one link handed (link.acked + 1) xs ys sends (a.1 ∙ sym b.1) a.0 b.0

ack_by : (failed : Bool) (link : LinkValue) (xs ys : List ℕ)
    → MatchBool failed (Unit {0} × (xs ≡ (link_refusal Failed).0)) ((bytes : List ℕ) × IsSpelling (ack_packet_of link) bytes × (xs ≡ packet_text bytes))
    → MatchBool failed (Unit {0} × (ys ≡ (link_refusal Failed).0)) ((bytes : List ℕ) × IsSpelling (ack_packet_of link) bytes × (ys ≡ packet_text bytes)) → xs ≡ ys
ack_by true link xs ys a b = a.1 ∙ sym b.1
ack_by false link xs ys a b = a.2 ∙ ap packet_text (a.1.1 ∙ sym b.1.1) ∙ sym b.2

pub ack_one : (link : LinkValue) (xs ys : List ℕ) → SaysAck link xs → SaysAck link ys → xs ≡ ys
ack_one link xs ys a b = ack_by link.failed link xs ys a b

-- ---- Where no memory is wanting.

pub link_want : (f : LinkFault) → (link_refusal f).1 ≢ NoMemory → f ≢ fault.NoMemory
link_want f want e = want (ap (λ k. (link_refusal k).1) e)

link_wants : (f : LinkFault) → (link_refusal f).1 ≢ NoMemory → is_want (end.Link f) ≡ false
link_wants fault.NoMemory want = absurd (want refl)
link_wants f want = refl

pub end_wants : (f : EndFault) → (end_refusal f).1 ≢ NoMemory → is_want f ≡ false
end_wants (end.Link f) want = link_wants f want
end_wants (end.Read read.NoMemory) want = absurd (want refl)
end_wants (end.Read f) want = refl

pub gone_wants : (r : Result (Unit {0}) EndFault) (told : List ℕ) (packets : List (List ℕ)) → (done_said told packets r).1 ≢ NoMemory → went_wanting r ≡ false
gone_wants (Ok done) told packets want = refl
gone_wants (Err f) told packets want = end_wants f want

pub taken_wants : (r : Result Got TakeFault) (told : List ℕ) (packets : List (List ℕ)) → (taken_said r told packets).1 ≢ NoMemory → took_wanting r ≡ false
taken_wants (Ok got) told packets want = refl
taken_wants (Err (take.Refused f)) told packets want = link_wants f want
taken_wants (Err (take.Unfinished got f)) told packets want = end_wants f want

-- a setup is good or bad
pub setup_apart : (s : LinkSetup) (f : LinkFault) → (link_refusal f).1 ≢ NoMemory → IsSetup s → SetupFault s f → ⊥
setup_apart s f want good (inl bad) = bad.1 good
setup_apart s f want good (inr none) = want (ap (λ k. (link_refusal k).1) none.0)

pub setup_one : (s : LinkSetup) (f g : LinkFault) → (link_refusal f).1 ≢ NoMemory → (link_refusal g).1 ≢ NoMemory → SetupFault s f → SetupFault s g → f ≡ g
setup_one s f g nf ng (inl a) (inl b) = a.0 ∙ sym b.0
setup_one s f g nf ng (inl a) (inr b) = absurd (ng (ap (λ k. (link_refusal k).1) b.0))
setup_one s f g nf ng (inr a) b = absurd (nf (ap (λ k. (link_refusal k).1) a.0))

-- ---- Lines.

abbrev became_by : Became → Option Became
became_by b = Some b

unread_bad : (line : List ℕ) (b : Became) → b ≢ NoMemory → ((b ≡ BadLine) × (max_line < length line)) ⊎ (b ≡ NoMemory) → (b ≡ BadLine) × (max_line < length line)
unread_bad line b want (inl h) = h
unread_bad line b want (inr none) = absurd (want none)

-- ends that are as they were are alike still
pub stays_alike : {E : Type 0} (AreSame : E → E → Type 0) (one other new end : E) → AreSame one other → new ≡ one → end ≡ other → AreSame new end
stays_alike {E} AreSame one other new end same e f = subst (λ (x : E). AreSame x end) (sym e) (subst (λ (x : E). AreSame one x) (sym f) same)

module _ {E : Type 0} (answered : Answering E) (waiting : E → Option ℕ) (AreSame : E → E → Type 0)
    (answers : (one other new end : E) (line said more : List ℕ) (b c : Became) → AreSame one other → b ≢ NoMemory → c ≢ NoMemory
    → answered one (Some line) new said b → answered other (Some line) end more c → AreSame new end × (said ≡ more) × (b ≡ c))
    (misses : (one other new end : E) (said more : List ℕ) (b c : Became) → AreSame one other
    → answered one None new said b → answered other None end more c → AreSame new end)
    (waits : (one other : E) → AreSame one other → waiting one ≡ waiting other) where
  -- ends that wait for as many are given a line, or aren't
  ungiven_apart : (one other new end : E) (line text : List ℕ) (b : Became) → waiting one ≡ waiting other → b ≢ NoMemory → is_given (waiting other) line ≡ false → length line ≤ max_line
      → AnswersLine answered waiting one line new text (Some b) → ⊥
  ungiven_apart one other new end line text b same want ungiven short (inl a) = let bad = unread_bad line b want a.0 in omega (arith, bad.1, short)
  ungiven_apart one other new end line text b same want ungiven short (inr a) =
      true≢false (sym a.0 ∙ ap (λ (n : Option ℕ). is_given n line) same ∙ ungiven)

  some_line : (one other new end : E) (line text told : List ℕ) (b c : Became) → AreSame one other → b ≢ NoMemory → c ≢ NoMemory
      → AnswersLine answered waiting one line new text (Some b) → AnswersLine answered waiting other line end told (Some c)
      → AreSame new end × (text ≡ told) × (became_by b ≡ became_by c)
  some_line one other new end line text told b c same nb nc (inl x) (inl y) =
      (misses one other new end text told b c same x.1 y.1, x.2 ∙ sym y.2, ap became_by ((unread_bad line b nb x.0).0 ∙ sym (unread_bad line c nc y.0).0))
  some_line one other new end line text told b c same nb nc (inl x) (inr y) = let bad = unread_bad line b nb x.0 in absurd (omega (arith, bad.1, y.1))
  some_line one other new end line text told b c same nb nc (inr x) (inl y) = let bad = unread_bad line c nc y.0 in absurd (omega (arith, bad.1, x.1))
  some_line one other new end line text told b c same nb nc (inr x) (inr y) =
      let t = answers one other new end line text told b c same nb nc x.2 y.2 in (t.0, t.1, ap became_by t.2)

  any_line : (one other new end : E) (line text told : List ℕ) (b c : Option Became) → AreSame one other → b ≢ Some NoMemory → c ≢ Some NoMemory
      → AnswersLine answered waiting one line new text b → AnswersLine answered waiting other line end told c → AreSame new end × (text ≡ told) × (b ≡ c)
  any_line one other new end line text told None None same nb nc x y = (stays_alike AreSame one other new end same x.2 y.2, x.3 ∙ sym y.3, refl)
  any_line one other new end line text told None (Some c) same nb nc x y =
      absurd (ungiven_apart other one end new line told c (sym (waits one other same)) (λ e. nc (ap became_by e)) x.0 x.1 y)
  any_line one other new end line text told (Some b) None same nb nc x y =
      absurd (ungiven_apart one other new end line text b (waits one other same) (λ e. nb (ap became_by e)) y.0 y.1 x)
  any_line one other new end line text told (Some b) (Some c) same nb nc x y =
      some_line one other new end line text told b c same (λ e. nb (ap became_by e)) (λ e. nc (ap became_by e)) x y

  pub one_answer : OneAnswer answered waiting AreSame
  one_answer one other new end line said more b c same nb nc x y =
      let t = any_line one other new end line x.text y.text b c same nb nc x.answers y.answers in (
        t.0,
        x.says ∙ ap (λ (l : List ℕ). said_of l b (waiting new)) t.1 ∙ ap (λ (o : Option Became). said_of y.text o (waiting new)) t.2
            ∙ ap (λ (n : Option ℕ). said_of y.text c n) (waits new end t.0) ∙ sym y.says,
        t.2,
      )
