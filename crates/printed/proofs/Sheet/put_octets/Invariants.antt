-- The digits of what is left, put behind those that are done, leave what the digits of all would have left.
use Rattle.std.proofs.Common.{◌≡◌, length, drop}
use Rattle.printed.specs.Printing.{placed, end_of, octet_digits}
use Rattle.printed.proofs.Sheet.put_octets.Given as goal

abbrev pub invariant-loop-v : goal.invariant-loop-v
invariant-loop-v l = record {
  room : length l.self.buffer.now ≡ length l.initial.self.buffer.now;
  end : end_of (length l.self.buffer.now) l.self.end (length (octet_digits (drop l.v-index l.octets))) ≡ end_of (length l.initial.self.buffer.now) l.initial.self.end (length (octet_digits l.octets));
  buffer : placed l.self.buffer.now l.self.end (octet_digits (drop l.v-index l.octets)) ≡ placed l.initial.self.buffer.now l.initial.self.end (octet_digits l.octets);
  same_reference : l.self.buffer.ghost_name ≡ l.initial.self.buffer.ghost_name;
}
