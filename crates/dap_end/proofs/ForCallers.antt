-- What the crates above may cite of this one's proofs. No other file here is for them.

-- the answers to one item more, as NSP messages
pub use Rattle.dap_end.proofs.Answering.{answer_to, answers-more}
-- the messages of two lists of NSP messages
pub use Rattle.dap_end.proofs.Running.{in_append}
-- the messages of one request more
pub use Rattle.dap_end.proofs.Asked.{Asked-more}
-- what may be sent has a spelling
pub use Rattle.dap_end.proofs.Asked.{sendable-fit}
-- no NSP message is empty: of two lists, of those that are blocked, of answers, of a front
pub use Rattle.dap_end.proofs.Asked.{full-both, full-blocked}
pub use Rattle.dap_end.proofs.Joined.{answers_full, prefix_full}
-- there are no more NSP messages than messages
pub use Rattle.dap_end.proofs.Asked.{few_blocked}
-- messages have spellings: those of two lists, of a front, of the rest
pub use Rattle.dap_end.proofs.ServingOne.{fit-both}
pub use Rattle.dap_end.proofs.Joined.{prefix_fit, back_fit}
-- what a request that was asked, and what was passed on, leave
pub use Rattle.dap_end.proofs.Asked.{asked_history, handed_is, handed_history}
pub use Rattle.dap_end.proofs.Afterwards.{posted_is, posted_history}
-- the packets of one segment more; segments have one list of packets
pub use Rattle.dap_end.proofs.Emitting.{segments_more, wrote_nothing}
pub use Rattle.dap_end.proofs.Writing.{segments_one}
-- what a call answers and leaves follows from the end and the call
pub use Rattle.dap_end.proofs.Determined.{going_one, taking_one}
pub use Rattle.dap_end.proofs.Alike.{alike_done, has_sent, asking_one, going_alike, taking_alike}
-- an end that serves did something, through its calls
pub use Rattle.dap_end.proofs.Known.{IsKnown, new_known, going_known, taking_known}
-- two ends: each request has one report, no answer is unexpected, and after them the ends agree
pub use Rattle.dap_end.proofs.Agreeing.{one-report-each, none-unexpected, both-agree}
pub use Rattle.dap_end.proofs.AllRead.{all_told, all_read, answers-prefix, admissible-more}
pub use Rattle.dap_end.proofs.Goes.{limit-own}
-- what a link of which a message more came leaves of what was processed; and one item more
pub use Rattle.dap_end.proofs.Taking.{Grown, grown}
pub use Rattle.dap_end.proofs.Going.{gone_nothing, gone_stays}
pub use Rattle.dap_end.proofs.ServingOne.{port_given, port_gone}
-- the packets that an end wrote, after one that came
pub use Rattle.dap_end.proofs.Packets.{ack_written, written_on}
-- what was processed is of what the peer sent; and items that are a front of messages are the first of these
pub use Rattle.dap_end.proofs.Fronts.{served_prefix}
pub use Rattle.dap_end.proofs.Joined.{Taken, first_ones}
-- two links, each of which takes what the other sends: a packet comes, and an end writes one, or goes on
pub use Rattle.dap_end.proofs.Ways.{AreJoined, swapped, comes}
pub use Rattle.dap_end.proofs.Moving.{again_sent, goes, wrote_one}
-- a client that is joined to a link: at first, and after an event of it
pub use Rattle.dap_end.proofs.Clients.{Client, IsJoinedTo, asks, new_joined}
-- no message is too long to be passed on, where there is none
pub use Rattle.dap_end.proofs.Proceeding.{none_short}
-- calls of an end are events of it, whatever it does by itself
pub use Rattle.dap_end.proofs.Stepping.{SteppedBy, RunsIn, AreCalls, ack_is, again_is, going_on_is, runs_then, taken_is}
-- events of a client, with what it wrote and reported before
pub use Rattle.dap_end.proofs.Hearing.{requests_of}
pub use Rattle.dap_end.proofs.Calling.{SoFar, after_these}
pub use Rattle.dap_end.proofs.Arriving.{asked_as, more_asked}
-- calls of a client are events of it
pub use Rattle.dap_end.proofs.Calling.{asking_is, ack_is as asking_acks, again_is as asking_again, going_on_is as asking_goes_on, taken_is as asking_takes}
-- what two ends that are alike do is alike; what waits is refused for one reason, and not where it may be passed on
pub use Rattle.dap_end.proofs.Turning.{DoAlike, no_want, took_same, went_same}
pub use Rattle.dap_end.proofs.Determined.{may_or_not, refused_one}
-- what was written has its segment of what was passed on: of two lists, of the next segments, of one
pub use Rattle.dap_end.proofs.Packets.{all_written, numbered_written, one_written}
pub use Rattle.dap_end.proofs.Stepping.{numbered_bytes}
-- a link of one peer that keeps the rules, after a packet of it; what it is refused for
pub use Rattle.dap_end.proofs.Running.{StandsThen, refused_due, sent_link, some_peer, some_size, then_stands, went_written}
-- passing on what waits leaves what came, and nothing that waits
pub use Rattle.dap_end.proofs.ByTurns.{inbox_posted, none_waits}
-- a client's requests and its link's exchange at a node, message by message, whatever other links do: no answer is
-- unexpected
pub use Rattle.dap_end.proofs.Follows.{IsFollowed, new-follows, follows-moved, follows-served, follows-asked, follows-expected}
-- a client's Configuration stays
pub use Rattle.dap_end.proofs.Identity.{identity-stays}
-- an item ends within its NSP message
pub use Rattle.dap_end.proofs.Expected.{ends_within}
