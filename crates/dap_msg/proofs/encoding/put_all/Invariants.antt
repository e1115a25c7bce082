use Rattle.std.proofs.Common.{◌≡◌, ◌+◌, ◌≤◌, ◌++◌, length, drop}
use Rattle.dap_msg.specs.Inner.Fields.{fields_bytes, CanWriteAll}
use Rattle.dap_msg.proofs.encoding.put_all.Given as goal

abbrev pub invariant-loop-field : goal.invariant-loop-field
invariant-loop-field l =
    (l.out.items ++ fields_bytes (drop l.field-index l.fields) ≡ l.initial.out.items ++ fields_bytes l.fields)
    × CanWriteAll (drop l.field-index l.fields)
    × (length l.out.items + length (fields_bytes (drop l.field-index l.fields)) ≤ l.out.cap)
    × (l.initial.out.cap ≤ l.out.cap)
