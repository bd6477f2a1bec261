use Rattle.std.proofs.Common.{◌≡◌, ◌≤◌, length}
use Rattle.wasm_spec.specs.Numbers.{TakesUnsigned, TakesEach}
use Rattle.leb_read.specs.Reading.{rest}
use Rattle.instr_decode.proofs.instr.indices.Given as goal

abbrev pub invariant-loop : goal.invariant-loop
invariant-loop l = record {
  whole : l.cursor.whole ≡ l.initial.cursor.whole;
  forth : l.initial.cursor.place ≤ l.cursor.place;
  within : l.cursor.place ≤ length l.cursor.whole;
  so_far : TakesEach (TakesUnsigned 32) l.indices.items (rest l.initial.cursor) (rest l.cursor);
  long : length l.indices.items ≡ l.counter;
}
