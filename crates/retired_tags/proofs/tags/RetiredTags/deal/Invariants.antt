use Rattle.std.proofs.Common.{◌≡◌, ◌+◌, ◌-◌, ◌≤◌, [], vec_len, vec_capacity}
use Rattle.std.specs.List.{All}
use Rattle.retired_tags.specs.Views.{new_view}
use Rattle.retired_tags.specs.Passes.{IsNewTagPass}
use Rattle.retired_tags.proofs.tags.RetiredTags.deal.Given as goal

abbrev pub invariant-loop : goal.invariant-loop
invariant-loop l = record {
  own : l.first.table_id ≡ l.self.table.shared.table_id;
  first : l.first.me ≡ (new_view l.self.table.shared.key.passes (l.passes - l.counter) (l.passes + 1 - l.counter), []);
  len : vec_len l.all + 1 ≡ l.counter;
  room : l.passes ≤ vec_capacity l.all;
  each : All (IsNewTagPass l.self) l.all.items;
}
