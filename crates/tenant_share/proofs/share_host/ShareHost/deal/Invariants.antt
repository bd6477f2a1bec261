use Rattle.std.proofs.Common.{◌≡◌, ◌+◌, ◌≤◌, vec_capacity, vec_len}
use Rattle.std.specs.List.{All}
use Rattle.tenant_share.specs.Opening.{IsFresh, WereFresh}
use Rattle.tenant_share.proofs.share_host.ShareHost.deal.Given as goal

abbrev pub invariant-loop-caller : goal.invariant-loop-caller
invariant-loop-caller g l = record {
  left : WereFresh l.self l.own.items l.callers.items;
  fresh : All (IsFresh l.self) l.all.items;
  enough : vec_len l.callers ≡ vec_len l.own;
  count : vec_len l.all + vec_len l.callers ≡ vec_len l.initial.callers;
  room : vec_len l.initial.callers ≤ vec_capacity l.all;
}

abbrev pub decreases-loop-caller : goal.decreases-loop-caller
decreases-loop-caller g l = vec_len l.callers
