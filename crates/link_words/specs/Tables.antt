-- What the numbers of packets that set up and close links mean, in words. Where a number isn't in a table it has no word.
use Rattle.std.specs.Prelude.{[], ◌∷◌, codes}
use Rattle.dap_meanings.specs.Tables.{Table}

-- MSGFLG: the packets that set up a link and take it down (NSP 4.0.0, message formats)
abbrev pub control_packets : Table
control_packets =
    (0x08, codes "no operation") ∷ (0x18, codes "connect initiate") ∷ (0x28, codes "connect confirm")
    ∷ (0x38, codes "disconnect initiate") ∷ (0x48, codes "disconnect confirm") ∷ (0x68, codes "connect initiate again") ∷ []

-- objects that have names (Session Control 1.0.0, from memory)
abbrev pub objects : Table
objects =
    (17, codes "FAL") ∷ (19, codes "NML") ∷ (25, codes "MIRROR") ∷ (27, codes "MAIL") ∷ (29, codes "PHONE")
    ∷ (42, codes "CTERM") ∷ []

-- REASON: why a link is refused or closed (NSP 4.0.0, disconnect initiate and disconnect confirm messages; from memory)
abbrev pub disconnect_reasons : Table
disconnect_reasons =
    (0, codes "no error") ∷ (1, codes "no resources") ∷ (2, codes "unknown node") ∷ (3, codes "the node is shutting down")
    ∷ (4, codes "unknown object") ∷ (5, codes "a name that is no object's") ∷ (6, codes "busy")
    ∷ (7, codes "unspecified error") ∷ (8, codes "aborted by management") ∷ (9, codes "aborted")
    ∷ (10, codes "a name that is no node's") ∷ (11, codes "the local node is shut down")
    ∷ (32, codes "the node has no room for another link") ∷ (33, codes "the object has no room for another link")
    ∷ (34, codes "the user or the password was rejected") ∷ (36, codes "the account was rejected")
    ∷ (38, codes "the object didn't answer") ∷ (39, codes "the node can't be reached") ∷ (41, codes "no such link")
    ∷ (42, codes "disconnect complete") ∷ (43, codes "a field of the connect message is too long") ∷ []
