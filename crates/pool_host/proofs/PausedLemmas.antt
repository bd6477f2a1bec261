-- The slots of a call that is paused, from its passes to what gives them back.
use Rattle.std.proofs.Common.{◌<◌, Option, Some, ◌∙◌, sym, subst}
use Rattle.slot_words.specs.Owned.{slots_of}
use Rattle.slot_words.specs.Parts.{Grew}
use Rattle.slot_words.specs.Passes.{trail}
use Rattle.pool_limits.specs.declared.numbers.Numbers.{Numbers}
use Rattle.pool_model.specs.Contents.{Named}
use Rattle.pool_model.specs.declared.kinds.Kind.TheVariants as kind
use Rattle.instance_calls.specs.declared.instance.Instance.{Instance}
use Rattle.instance_calls.specs.Parts.{BelongsTo, Slot, memory_slot, table_slot, ticket_slot}
use Rattle.instance_calls.specs.PausedViews.{PausedView}
use Rattle.instance_calls.specs.Resumed.{HasSlotsOf, SlotsBelong}
use Rattle.pool_host.specs.declared.host.Host.{Host}
use Rattle.pool_host.specs.declared.passes.Passes.{Passes}
use Rattle.pool_host.specs.Hosts.{ArePassesOf, AreSamePasses}
use Rattle.pool_host.specs.Leases.{Gave, HoldsSlot}
use Rattle.pool_host.specs.Outs.{HasOut, IsWithin}
use Rattle.pool_host.specs.Kinds.{IsGiveOf, TookSlot}
use Rattle.pool_host.specs.Pausing.{AreOfHost}
use Rattle.pool_host.specs.Taking.{GaveSlots, GaveThose, HaveSlots, TookSlots, TookThose}
use Rattle.pool_host.proofs.OutLemmas.{has_out, is_within, out_has}

module _ {N : Type 0} (host : Host N) (p q : Passes N) (v : PausedView) (x : Instance N) (slots : HasSlotsOf x v) where
  pub slots_had : AreOfHost host p v → HasOut p.ticket (Some v.ticket) → HasOut p.memory v.memory → HasOut p.table v.table → SlotsBelong v → HaveSlots host v.named p x
  slots_had own ticket memory table belongs = record {
    ticket = subst (λ (s : Slot). HoldsSlot (slots_of host.tickets) p.ticket (Some s)) slots.ticket (out_has (slots_of host.tickets) p.ticket (Some v.ticket) ticket own.ticket);
    memory = subst (HoldsSlot (slots_of host.memories) p.memory) slots.memory (out_has (slots_of host.memories) p.memory v.memory memory own.memory);
    table = subst (HoldsSlot (slots_of host.tables) p.table) slots.table (out_has (slots_of host.tables) p.table v.table table own.table);
    memory_belongs = subst (BelongsTo v.named) slots.memory belongs.memory;
    table_belongs = subst (BelongsTo v.named) slots.table belongs.table;
  }

  pub those_given : (config : Numbers) → GaveSlots config host v.named p q x → GaveThose config host v.named p q v.ticket v.memory v.table
  those_given config gave = record {
    ticket = subst (λ (s : Slot). Grew (Gave (IsGiveOf kind.Instance host.tickets v.named config.batch) (Some s)) (trail p.ticket) (trail q.ticket)) (sym slots.ticket) gave.ticket;
    memory = subst (λ (o : Option Slot). Grew (Gave (IsGiveOf kind.Memory host.memories v.named config.batch) o) (trail p.memory) (trail q.memory)) (sym slots.memory) gave.memory;
    table = subst (λ (o : Option Slot). Grew (Gave (IsGiveOf kind.Table host.tables v.named config.batch) o) (trail p.table) (trail q.table)) (sym slots.table) gave.table;
  }

-- and of one that begins, from what took them
module _ {N : Type 0} (host : Host N) (m : Named) (p : Passes N) (v : PausedView) (x : Instance N) (slots : HasSlotsOf x v) (have : HaveSlots host m p x) where
  pub ticket_out : HasOut p.ticket (Some v.ticket)
  ticket_out = subst (λ (s : Slot). HasOut p.ticket (Some s)) (sym slots.ticket) (has_out (slots_of host.tickets) p.ticket (Some (ticket_slot x.ticket)) have.ticket)

  pub memory_out : HasOut p.memory v.memory
  memory_out = subst (HasOut p.memory) (sym slots.memory) (has_out (slots_of host.memories) p.memory (memory_slot x.memory) have.memory)

  pub table_out : HasOut p.table v.table
  table_out = subst (HasOut p.table) (sym slots.table) (has_out (slots_of host.tables) p.table (table_slot x.table) have.table)

  pub are_of_host : ArePassesOf host p → AreOfHost host p v
  are_of_host own = record {
    own = own;
    ticket = subst (λ (s : Slot). s.number < slots_of host.tickets) (sym slots.ticket) have.ticket.1;
    memory = subst (IsWithin (slots_of host.memories)) (sym slots.memory) (is_within (slots_of host.memories) p.memory (memory_slot x.memory) have.memory);
    table = subst (IsWithin (slots_of host.tables)) (sym slots.table) (is_within (slots_of host.tables) p.table (table_slot x.table) have.table);
  }

  pub took_those : (config : Numbers) (o : Passes N) → TookSlots config host m o p x → TookThose host m o p v.ticket v.memory v.table
  took_those config o took = record {
    ticket = subst (λ (s : Slot). TookSlot kind.Instance host.tickets m o.ticket p.ticket (Some s)) (sym slots.ticket) took.ticket;
    memory = subst (λ (s : Option Slot). TookSlot kind.Memory host.memories m o.memory p.memory s) (sym slots.memory) took.memory;
    table = subst (λ (s : Option Slot). TookSlot kind.Table host.tables m o.table p.table s) (sym slots.table) took.table;
  }

pub still_of : {N : Type 0} (host : Host N) (p q : Passes N) → ArePassesOf host p → AreSamePasses p q → ArePassesOf host q
still_of host p q own same = record {
  ticket = same.ticket.home_is ∙ own.ticket;
  memory = same.memory.home_is ∙ own.memory;
  table = same.table.home_is ∙ own.table;
}
