-- The later fields of an Attributes message.
use Rattle.std.specs.Prelude.{ℕ}
use Rattle.dap_msg.specs.Grammar.{Byte, Word, Extensible, Image, Grammar, ◌>>=◌}
use Rattle.dap_msg.specs.Message.{Attributes, Message, Attrib}
use Rattle.dap_msg.specs.Formats.{optional_part, ending}

-- those from the runtime system on, after these
unfoldable pub later_attributes : ℕ → Attributes → Grammar Message
later_attributes bits first = do
  runsys ← optional_part bits 10 (Image 40)
  deq ← optional_part bits 11 Word
  fop ← optional_part bits 12 (Extensible 6)
  bsz ← optional_part bits 13 Byte
  dev ← optional_part bits 14 (Extensible 6)
  sdc ← optional_part bits 15 (Extensible 6)
  lrl ← optional_part bits 16 Word
  hbk ← optional_part bits 17 (Image 5)
  ebk ← optional_part bits 18 (Image 5)
  ffb ← optional_part bits 19 Word
  sbn ← optional_part bits 20 (Image 5)
  ending (Attrib (record first {
    runsys = runsys;
    deq = deq;
    fop = fop;
    bsz = bsz;
    dev = dev;
    sdc = sdc;
    lrl = lrl;
    hbk = hbk;
    ebk = ebk;
    ffb = ffb;
    sbn = sbn;
  }))
