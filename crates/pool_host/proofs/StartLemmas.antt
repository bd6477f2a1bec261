-- What comes of a call that takes no slots.
use Rattle.std.proofs.Common.{◌≡◌, ℕ, List, [], refl, ap}
use Rattle.std.specs.List.{All}
use Rattle.std.proofs.lemmas.List.Elements.{All-weaker}
use Rattle.wasm_values.specs.declared.outcome.Val.{Val}
use Rattle.slot_words.specs.Passes.{trail}
use Rattle.retired_tags.specs.Passes.{IsTagPass}
use Rattle.module_store.specs.declared.naming.Naming.{Ghosts}
use Rattle.pool_limits.specs.declared.numbers.Numbers.{Numbers}
use Rattle.pool_model.specs.Contents.{Named, needs}
use Rattle.pool_model.specs.declared.kinds.Kind.TheVariants as kind
use Rattle.instance_calls.specs.CallWords.{run_limits}
use Rattle.pool_host.specs.declared.answers.Answer.TheVariants as answer
use Rattle.pool_host.specs.declared.host.Host.{Host}
use Rattle.pool_host.specs.declared.passes.HostPass.{HostPass}
use Rattle.pool_host.specs.declared.passes.Passes.{Passes}
use Rattle.pool_host.specs.declared.refusals.Refused.{Refused}
use Rattle.pool_host.specs.declared.refusals.Refused.TheVariants.{BadArgs, Full, NoExport, Retired}
use Rattle.pool_host.specs.CallWords.{IfFull, IsFuelLeft, IsHostAnswer}
use Rattle.pool_host.specs.Hosts.{ArePassesOf, AreSamePasses, IsHostPass, IsNewHostPass}
use Rattle.pool_host.specs.Looks.{look_of, refused_look}
use Rattle.pool_host.specs.Pausing.{HasBegun}
use Rattle.pool_host.specs.Starting.{HasRefused, refused_answer, refused_begun}
use Rattle.pool_host.specs.Kinds.{IsFullTakeOf, IsGiveOf, IsTakeOf}
use Rattle.pool_host.specs.Trails.{AddsTrails, HasCause}
use Rattle.pool_host.proofs.VisitLemmas.{nothing, nothing_if}

-- passes as they are handed out are the host's
pub are_own : {N : Type 0} {G : Ghosts N} (host : Host N) (all : List (HostPass N G)) → All (IsNewHostPass host) all → All (IsHostPass host) all
are_own host all new = All-weaker (IsNewHostPass host) (IsHostPass host) (λ pass is. record {
  pools = record { ticket = is.pools.ticket.own; memory = is.pools.memory.own; table = is.pools.table.own };
  tags = is.tags.own;
}) all new

pub look_is : (why : Refused) → look_of (refused_answer why) ≡ refused_look why
look_is NoExport = refl
look_is BadArgs = refl
look_is Retired = refl
look_is (Full kind) = refl

module _ {N : Type 0} (config : Numbers) (host : Host N) (m : Named) (export : List ℕ) (args : List Val) (before : Passes N) where
  untouched : (after : Passes N) → after ≡ before → AddsTrails config host m answer.Retired before after
  untouched after same = record {
    ticket = nothing (IsTakeOf kind.Instance host.tickets m) (IsGiveOf kind.Instance host.tickets m config.batch) (IsFullTakeOf kind.Instance host.tickets m) _ _ (ap (λ p. trail p.ticket) same);
    memory = nothing_if (IsTakeOf kind.Memory host.memories m) (IsGiveOf kind.Memory host.memories m config.batch) (IsFullTakeOf kind.Memory host.memories m) (needs kind.Memory m.tree) _ _ (ap (λ p. trail p.memory) same);
    table = nothing_if (IsTakeOf kind.Table host.tables m) (IsGiveOf kind.Table host.tables m config.batch) (IsFullTakeOf kind.Table host.tables m) (needs kind.Table m.tree) _ _ (ap (λ p. trail p.table) same);
  }

  pub refused_so : (request : List ℕ) (fuel : ℕ) (after : Passes N) (said : List ℕ) (why : Refused) → said ≡ [] → HasRefused config host m export args before after why
      → IsHostAnswer m.tree (run_limits config) export args request fuel (refused_answer why) said
  refused_so request fuel after said NoExport none h = (h.0, none)
  refused_so request fuel after said BadArgs none h = (h.0, none)
  refused_so request fuel after said Retired none h = (h.0.0, h.0.1, none)
  refused_so request fuel after said (Full kind) none h = (h.0.0, h.0.1, none)

  pub refused_left : (request : List ℕ) (fuel : ℕ) (why : Refused) → IsFuelLeft m.tree (run_limits config) export args request fuel (refused_answer why) fuel
  refused_left request fuel NoExport = refl
  refused_left request fuel BadArgs = refl
  refused_left request fuel Retired = refl
  refused_left request fuel (Full kind) = refl

  pub refused_trails : (after : Passes N) (why : Refused) → HasRefused config host m export args before after why → AddsTrails config host m (refused_answer why) before after
  refused_trails after NoExport h = let n = untouched after h.1 in record { ticket = n.ticket; memory = n.memory; table = n.table }
  refused_trails after BadArgs h = let n = untouched after h.1 in record { ticket = n.ticket; memory = n.memory; table = n.table }
  refused_trails after Retired h = untouched after h.1
  refused_trails after (Full kind) h = h.1

  pub refused_cause : (after : Passes N) (why : Refused) → HasRefused config host m export args before after why → IfFull (refused_answer why) (HasCause config host m before after)
  refused_cause after NoExport h = tt
  refused_cause after BadArgs h = tt
  refused_cause after Retired h = tt
  refused_cause after (Full kind) h = h.2

  pub not_begun : {G : Ghosts N} (fuel number : ℕ) (pass : HostPass N G) (why : Refused) → ArePassesOf host pass.passes → IsTagPass host.retired.tags pass.retired → AreSamePasses before pass.passes → pass.answer ≡ []
      → HasRefused config host m export args before pass.passes why → HasBegun config host m export args fuel number before (refused_begun why pass)
  not_begun fuel number pass NoExport pools tags same none h = record { own = record { pools = pools; tags = tags }; same = same; cause = h; no_answer = none }
  not_begun fuel number pass BadArgs pools tags same none h = record { own = record { pools = pools; tags = tags }; same = same; cause = h; no_answer = none }
  not_begun fuel number pass Retired pools tags same none h = record { own = record { pools = pools; tags = tags }; same = same; cause = h; no_answer = none }
  not_begun fuel number pass (Full kind) pools tags same none h = record { own = record { pools = pools; tags = tags }; same = same; cause = h; no_answer = none }
