-- The text of a live end's answers.
use Rattle.std.specs.Prelude.{ℕ, ◌++◌, List, [], ◌∷◌, codes, Result, Ok, Err}
use Rattle.std.specs.List.{concat, flat_map}
use Rattle.std.specs.Option.{option_map_or}
use Rattle.hex.specs.Hex.{encode_lower}
use Rattle.nsp_link.specs.declared.link.Got.{Got}
use Rattle.nsp_link.specs.declared.fault.LinkFault.{LinkFault}
use Rattle.nsp_link.specs.declared.fault.LinkFault.TheVariants as fault
use Rattle.dap_msg.specs.Codes as codes_of
use Rattle.dap_accessed.specs.declared.fault.AddFault.{AddFault}
use Rattle.dap_accessed.specs.declared.fault.AddFault.TheVariants as add
use Rattle.dap_accessed.specs.Replies.{reason_of}
use Rattle.dap_accessing.specs.declared.report.Report.{Report}
use Rattle.dap_accessing.specs.declared.fault.ReadFault.TheVariants as read
use Rattle.dap_accessing.specs.declared.fault.AskFault.{AskFault}
use Rattle.dap_end.specs.declared.fault.EndFault.{EndFault}
use Rattle.dap_end.specs.declared.fault.EndFault.TheVariants as end
use Rattle.dap_end.specs.declared.fault.TakeFault.{TakeFault}
use Rattle.dap_end.specs.declared.fault.TakeFault.TheVariants as take
use Rattle.dap_meanings.specs.Faults.{fault_line}
use Rattle.dap_text.specs.Answers.{ask_text, got_text}
use Rattle.dap_shared.specs.declared.fault.RemoveFault.{RemoveFault}
use Rattle.dap_shared.specs.declared.fault.RemoveFault.TheVariants as removing
use Rattle.texts.specs.Text.{line_feed, word_text}
use Rattle.dap_text.specs.Reports.{refused_text, report_text}
use Rattle.linewise.specs.declared.talking.Became.{Became}
use Rattle.linewise.specs.declared.talking.Became.TheVariants.{Done, NoMemory}

-- ---- Packets and reports.

-- a packet to be sent
abbrev pub packet_text : List ℕ → List ℕ
packet_text bytes = concat (codes "< " ∷ encode_lower bytes ∷ line_feed ∷ [])

-- packets to be sent, in order
abbrev pub packets_text : List (List ℕ) → List ℕ
packets_text packets = flat_map packet_text packets

-- a report
abbrev pub report_line : Report → List ℕ
report_line report = concat (codes "report " ∷ report_text report ∷ line_feed ∷ [])

-- reports, one a line
abbrev pub reports_text : List Report → List ℕ
reports_text reports = flat_map report_line reports

-- ---- Refusals.

-- What is answered to a fault, and what became of the line. Out of memory is answered at the end, so it has no text
-- here.
abbrev pub LineAnswer : Type 0
LineAnswer = List ℕ × Became

-- `refused` and this word
abbrev pub refused_with : List ℕ → LineAnswer
refused_with word = (concat (codes "refused " ∷ word ∷ line_feed ∷ []), Done)

-- why a link refuses; bytes that are no packet are answered in the words of a listing
abbrev pub link_refusal : LinkFault → LineAnswer
link_refusal (fault.Malformed f) = (codes "refused " ++ fault_line f, Done)
link_refusal fault.BadSetup = refused_with (codes "bad-setup")
link_refusal fault.WrongLink = refused_with (codes "wrong-link")
link_refusal fault.BadSequence = refused_with (codes "bad-sequence")
link_refusal fault.MessageTooLong = refused_with (codes "message-too-long")
link_refusal fault.Failed = refused_with (codes "failed")
link_refusal fault.Exhausted = refused_with (codes "exhausted")
link_refusal fault.NoSuchSegment = refused_with (codes "nothing-to-do")
link_refusal fault.NoMemory = ([], NoMemory)

-- why an end doesn't do all that it could
abbrev pub end_refusal : EndFault → LineAnswer
end_refusal (end.Link f) = link_refusal f
end_refusal (end.Read read.Failed) = refused_with (codes "ask-failed")
end_refusal (end.Read read.Unexpected) = refused_with (codes "unexpected-answer")
end_refusal (end.Read read.NoMemory) = ([], NoMemory)

-- why a request isn't asked
abbrev pub ask_refusal : AskFault → LineAnswer
ask_refusal f = option_map_or refused_with (ask_text f) ([], NoMemory)

-- a refusal by a Status code and its reason
abbrev pub status_line : ℕ → ℕ → List ℕ
status_line code why = refused_text code why ++ line_feed

-- why a file or record isn't added
abbrev pub add_refusal : AddFault → LineAnswer
add_refusal add.Busy = refused_with (codes "busy")
add_refusal add.FileExists = (status_line codes_of.stscode.access_refused codes_of.reasons.file_exists, Done)
add_refusal add.NoFile = (status_line codes_of.stscode.file_not_found 0, Done)
add_refusal (add.Record why) = (status_line codes_of.stscode.record_refused (reason_of why), Done)
add_refusal add.NoMemory = ([], NoMemory)

-- why a file isn't dropped
abbrev pub remove_refusal : RemoveFault → LineAnswer
remove_refusal removing.NoFile = (status_line codes_of.stscode.file_not_found 0, Done)
remove_refusal removing.Busy = refused_with (codes "busy")

-- ---- What was done.

-- for each Access that was refused, as another link has the file open, the local address of a link that locks it out
abbrev pub locked_text : List ℕ → List ℕ
locked_text locked = flat_map (λ local. concat (codes "locked " ∷ word_text local ∷ line_feed ∷ [])) locked

-- what is reported, the packets, and why not all was done
abbrev pub done_said : (told : List ℕ) → (packets : List (List ℕ)) → Result (Unit {0}) EndFault → LineAnswer
done_said told packets (Ok done) = (told ++ packets_text packets, Done)
done_said told packets (Err f) = (told ++ (packets_text packets ++ (end_refusal f).0), (end_refusal f).1)

-- what a packet was, then what is reported, and the packets that answer it
abbrev pub taken_said : Result Got TakeFault → (told : List ℕ) → (packets : List (List ℕ)) → LineAnswer
taken_said (Ok got) told packets = ((got_text got ++ line_feed) ++ (done_said told packets (Ok tt)).0, Done)
taken_said (Err (take.Refused f)) told packets = link_refusal f
taken_said (Err (take.Unfinished got f)) told packets =
    ((got_text got ++ line_feed) ++ (done_said told packets (Err f)).0, (end_refusal f).1)
