-- What a call adds to the trails of a host's pass.
use Rattle.std.specs.Prelude.{Bool, if◌then◌else◌}
use Rattle.pool_limits.specs.declared.numbers.Numbers.{Numbers}
use Rattle.pool_model.specs.Contents.{Named, needs}
use Rattle.pool_model.specs.declared.kinds.Kind.{Kind}
use Rattle.pool_model.specs.declared.kinds.Kind.TheVariants.{Memory, Table, Instance}
use Rattle.pool_host.specs.declared.answers.Answer.{Answer}
use Rattle.pool_host.specs.declared.answers.Answer.TheVariants.{Done, Full}
use Rattle.pool_host.specs.declared.host.Host.{Host}
use Rattle.pool_host.specs.declared.passes.Passes.{Passes}
use Rattle.pool_host.specs.Kinds.{IsTurnedAwayFrom, Visited}
use Rattle.pool_host.specs.Visits.{None, Served, TurnedAway, Visit}

-- What a call so answered does at the pool of a kind that its module needs. It goes to the tickets, the memories and the tables in
-- this order, up to the first that is full.
abbrev pub visit : Answer → Kind → Visit
visit (Done outcome) k = Served
visit (Full Instance) Instance = TurnedAway
visit (Full Memory) Instance = Served
visit (Full Memory) Memory = TurnedAway
visit (Full Table) Table = TurnedAway
visit (Full Table) k = Served
visit _ _ = None

abbrev pub visit_if : Bool → Answer → Kind → Visit
visit_if needed answer k = if needed then visit answer k else None

module _ {N : Type 0} (config : Numbers) (host : Host N) (m : Named) where
  -- a call that was answered so adds this to the trail of each pass, and nothing else
  pub record AddsTrails (answer : Answer) (before after : Passes N) : Type 0 where
    pub ticket : Visited Instance host.tickets m config.batch (visit answer Instance) before.ticket after.ticket
    pub memory : Visited Memory host.memories m config.batch (visit_if (needs Memory m.tree) answer Memory) before.memory after.memory
    pub table : Visited Table host.tables m config.batch (visit_if (needs Table m.tree) answer Table) before.table after.table

  -- the cause of an answer that this kind is full
  abbrev pub HasCause : (before after : Passes N) → Kind → Type 0
  HasCause before after Instance = IsTurnedAwayFrom Instance host.tickets m before.ticket after.ticket
  HasCause before after Memory = IsTurnedAwayFrom Memory host.memories m before.memory after.memory
  HasCause before after Table = IsTurnedAwayFrom Table host.tables m before.table after.table
