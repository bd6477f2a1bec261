use Rattle.std.proofs.Common.{◌≡◌, ◌≤◌, length, map}
use Rattle.wasm_spec.specs.Numbers.{TakesEach}
use Rattle.leb_read.specs.Reading.{rest}
use Rattle.wasm_decode.proofs.item.ItemsItem.decode.Given as goal

abbrev pub invariant-loop : goal.invariant-loop
invariant-loop g l = record {
  whole : l.cursor.whole ≡ l.initial.cursor.whole;
  forth : l.initial.cursor.place ≤ l.cursor.place;
  within : l.cursor.place ≤ length l.cursor.whole;
  so_far : TakesEach (g.T.Item.Takes l.profile) (map g.T.Item.tree l.items.items) (rest l.initial.cursor) (rest l.cursor);
  long : length l.items.items ≡ l.counter;
}
