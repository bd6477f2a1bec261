use Rattle.std.proofs.Common.{◌≡◌, ◌+◌, ◌-◌, ◌≤◌, [], vec_len, vec_capacity}
use Rattle.std.specs.List.{All}
use Rattle.slot_words.specs.Views.{new_view}
use Rattle.slot_words.specs.Owned.{IsNewPassOf}
use Rattle.slot_words.proofs.words.Words.deal.Given as goal

abbrev pub invariant-loop : goal.invariant-loop
invariant-loop g l = record {
  own : l.first.table_id ≡ l.self.table.shared.table_id;
  first : l.first.me ≡ (new_view l.self.table.shared.key 0 (l.passes - l.counter) (l.passes + 1 - l.counter), []);
  len : vec_len l.all + 1 ≡ l.counter;
  room : l.passes ≤ vec_capacity l.all;
  each : All (IsNewPassOf l.self) l.all.items;
}
