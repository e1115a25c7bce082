-- What is written of answers: each fits, and is no longer than the limit; one more keeps to the limit.
use Rattle.std.proofs.Common.{◌≡◌, ℕ, ◌^◌, ◌<◌, ◌≤◌, List, [], ◌∷◌, ◌++◌, length, Result, Ok, Err, arith, lit<, lit≤, ap, sym, subst, ◌∙◌}
use Rattle.std.specs.Global.{Vec}
use Rattle.std.specs.Vec.{vec_capacity}
use Rattle.dap_msg.specs.declared.fault.MsgFault.{MsgFault}
use Rattle.dap_msg.specs.declared.message.Message.{Message}
use Rattle.dap_msg.specs.declared.message.Message.TheVariants.{Attrib}
use Rattle.dap_msg.specs.Canon.{canon, Fits}
use Rattle.dap_msg.specs.Written.{Appends, no_memory}
use Rattle.dap_msg.specs.BothEnds.{min_buffer}
use Rattle.dap_msg.specs.Blocked.{bodies, block_one, AllFit}
use Rattle.dap_msg.proofs.ForCallers.{Blocked-more}
use Rattle.std.proofs.Common.{inl, inr}
use Rattle.std.proofs.lemmas.Bool.{cases_lt, lt-leb, le-leb}
use Rattle.std.proofs.lemmas.List.{append-nil}
use Rattle.rec_file.specs.declared.shapes.Org.{Org}
use Rattle.rec_file.specs.declared.shapes.Org.TheVariants.{Seq, Rel}
use Rattle.rec_file.specs.declared.shapes.Format.{Format}
use Rattle.rec_file.specs.declared.shapes.Format.TheVariants.{Fixed, Variable}
use Rattle.std.specs.Prelude.{Option, Some, None, IfSome, unwrap_or}
use Rattle.dap_msg.specs.Inner.Answers.{IsShortAnswer}
use Rattle.dap_msg.proofs.ForCallers.{file_attributes_fit, kept_attributes_fit}
use Rattle.rec_file.specs.declared.shapes.Shape.{Shape}
use Rattle.rec_file.specs.declared.look.Look.{Look}
use Rattle.rec_file.specs.Limits.{max_byte, max_word, max_datatype, max_rat}
use Rattle.rec_file.specs.Looks.{IsFieldWithin, IsOtherFormat, IsFront, IsLook}
use Rattle.rec_file.proofs.ForCallers.{are_kept}
use Rattle.dap_accessed.specs.Replies.{org_number, format_number, given_limit, look_attributes, attributes_for}
use Rattle.dap_accessed.specs.declared.answers.Answer.{Answer}
use Rattle.dap_accessed.specs.declared.answers.Answer.TheVariants as answer
use Rattle.dap_accessed.specs.Served.{AllAtMost}
use Rattle.dap_accessed.specs.Inner.Written.{IsShortReply, most_bytes}
use Rattle.dap_accessed.specs.Served.{AreAnswers}

pub org_small : (org : Org) → org_number org < 2 ^ 8
org_small Seq = lit< tt
org_small Rel = lit< tt

pub format_small : (format : Format) → format_number format < 2 ^ 8
format_small Fixed = lit< tt
format_small Variable = lit< tt

-- ---- The Attributes of a file.

fits-field : (most limit : ℕ) (field : Option ℕ) → most < limit → IsFieldWithin most field → IfSome field (λ n. n < limit)
fits-field most limit None lt h = tt
fits-field most limit (Some n) lt h = omega arith

fits-front : (rfm fsz : Option ℕ) → IsFront rfm fsz → IfSome fsz (λ n. n < 256)
fits-front rfm None h = tt
fits-front rfm (Some n) h = omega (arith, h.2)

fits-format : (format : Format) (rfm : Option ℕ) → IfSome rfm (λ r. (format ≡ Variable) × IsOtherFormat r) → unwrap_or rfm (format_number format) < 2 ^ 8
fits-format format None h = format_small format
fits-format format (Some r) h = omega (arith, h.1.0)

pub attributes_fit : (shape : Shape) (look : Look) → shape.mrs < 2 ^ 16 → IsLook shape look → IsShortAnswer (attributes_for shape look)
attributes_fit shape look small is =
    let kept = are_kept shape look is in
    file_attributes_fit look.datatype (org_number shape.org) (unwrap_or look.rfm (format_number shape.format)) look.rat look.bls (given_limit shape look) look.bks look.fsz shape.mrn look.bsz (
      fits-field max_datatype 16384 look.datatype (lit< tt) kept.datatype,
      org_small shape.org,
      fits-format shape.format look.rfm kept.format,
      fits-field max_rat 2097152 look.rat (lit< tt) kept.rat,
      fits-field max_word 65536 look.bls (lit< tt) kept.bls,
      omega arith,
      tt,
      fits-field max_byte 256 look.bks (lit< tt) kept.bks,
      fits-front look.rfm look.fsz kept.front,
      lit≤ tt,
      tt,
      tt,
      tt,
      fits-field max_byte 256 look.bsz (lit< tt) kept.bsz,
      tt,
      tt,
      tt,
      tt,
      tt,
      tt,
      tt,
    )

-- and what is kept with a file, by itself
kept-format-fits : (format : Format) (rfm : Option ℕ) → IfSome rfm (λ r. (format ≡ Variable) × IsOtherFormat r) → IfSome rfm (λ r. r < 2 ^ 8)
kept-format-fits format None h = tt
kept-format-fits format (Some r) h = omega (arith, h.1.0)

pub kept_fits : (shape : Shape) (look : Look) → IsLook shape look → IsShortAnswer (Attrib (look_attributes look))
kept_fits shape look is =
    let kept = are_kept shape look is in
    kept_attributes_fit look.datatype look.rfm look.rat look.bls look.bks look.fsz look.bsz (
      fits-field max_datatype 16384 look.datatype (lit< tt) kept.datatype,
      tt,
      kept-format-fits shape.format look.rfm kept.format,
      fits-field max_rat 2097152 look.rat (lit< tt) kept.rat,
      fits-field max_word 65536 look.bls (lit< tt) kept.bls,
      tt,
      tt,
      fits-field max_byte 256 look.bks (lit< tt) kept.bks,
      fits-front look.rfm look.fsz kept.front,
      tt,
      tt,
      tt,
      tt,
      fits-field max_byte 256 look.bsz (lit< tt) kept.bsz,
      tt,
      tt,
      tt,
      tt,
      tt,
      tt,
      tt,
    )

-- where there is room, the bytes are written
pub filled : (bytes : List ℕ) (old new : Vec ℕ) (r : Result (Unit {0}) MsgFault) → Appends no_memory bytes old new r → old.items ≡ [] → 64 ≤ vec_capacity old → length bytes ≤ 64 → new.items ≡ bytes
filled bytes old new (Ok u) a e c l = a.0 ∙ ap (λ (x : List ℕ). x ++ bytes) e
filled bytes old new (Err f) a e c l =
    let none : length old.items ≡ 0 = ap length e in
    absurd (omega (arith, a.2, old.ok.0, none))

-- ---- One message, and one more.

pub answered_one : (limit : ℕ) (m : Message) (answers : Vec (Vec ℕ)) → Fits m → length (canon m) ≤ limit → bodies answers.items ≡ canon m ∷ [] → AreAnswers limit (m ∷ []) answers
answered_one limit m answers f h e =
    record {
      bytes = e ∙ ap (λ l. l ∷ []) (sym (append-nil (canon m)));
      within = subst (AllAtMost limit) (sym e) (h, tt);
      fits = (f, tt);
    }

at_most_more : (limit : ℕ) (list : List (List ℕ)) (m : List ℕ) → AllAtMost limit list → length m ≤ limit → AllAtMost limit (block_one limit list m)
unfolding block_one
at_most_more limit [] m all h = (h, tt)
at_most_more limit (last ∷ []) m all h =
    elim (cases_lt limit (length (last ++ m))) [
      | inl lt ↦ rw (lt-leb (length (last ++ m)) limit lt) (all.0, (h, tt))
      | inr le ↦ rw (le-leb (length (last ++ m)) limit le) (le, tt)
    ]
at_most_more limit (first ∷ next ∷ more) m all h = (all.0, at_most_more limit (next ∷ more) m all.1 h)

fit_more : (messages : List Message) (m : Message) → AllFit messages → Fits m → AllFit (messages ++ m ∷ [])
fit_more [] m all f = (f, tt)
fit_more (first ∷ messages) m all f = (all.0, fit_more messages m all.1 f)

pub answered_more : (limit : ℕ) (messages : List Message) (m : Message) (old new : Vec (Vec ℕ)) → Fits m → length (canon m) ≤ limit → AreAnswers limit messages old
    → bodies new.items ≡ block_one limit (bodies old.items) (canon m) → AreAnswers limit (messages ++ m ∷ []) new
answered_more limit messages m old new f h before e =
    record {
      bytes = e ∙ ap (λ l. block_one limit l (canon m)) before.bytes ∙ sym (Blocked-more limit messages m);
      within = subst (AllAtMost limit) (sym e) (at_most_more limit (bodies old.items) (canon m) before.within h);
      fits = fit_more messages m before.fits f;
    }

pub short_most : (a : Answer) → IsShortReply a → most_bytes a ≤ min_buffer
short_most (answer.Config bufsiz) s = lit≤ tt
short_most (answer.Attributes shape look mrn) s = lit≤ tt
short_most answer.Ack s = lit≤ tt
short_most answer.Complete s = lit≤ tt
short_most (answer.Status code) s = lit≤ tt
short_most (answer.Reason code reason) s = lit≤ tt
short_most (answer.StoreRefusal code reason ordinal) s = lit≤ tt
short_most (answer.Done number) s = lit≤ tt
short_most (answer.Record number body) s = absurd s
