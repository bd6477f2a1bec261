-- What contracts see of a call that is paused on an instance.
use Rattle.std.specs.Prelude.{ℕ, List, Option, refl}
use Rattle.std.specs.Coded.{Coded, code_by, coded×, coded_ℕ, coded_list, coded_option}
use Rattle.wasm_values.specs.declared.outcome.Val.{Val}
use Rattle.wasm_values.specs.contracts.outcome.Val as value
use Rattle.pool_model.specs.Contents.{Contents, MemoryContents, Named, TableContents}
use Rattle.pool_model.specs.declared.kinds.Kind.{Kind}
use Rattle.memory_slots.specs.Lent.{parts}
use Rattle.pool_model.specs.Codes.{coded_memory, coded_named, coded_table}
use Rattle.paused_call.specs.declared.call.PausedCall.{PausedCall}
use Rattle.paused_call.specs.contracts.call.PausedCall as call
use Rattle.instance_calls.specs.Parts.{Slot}

-- its slots, its module, how far it has come, its arguments, what its slots hold, and what it has answered so far
pub record PausedView : Type 0 where
  pub ticket : Slot
  pub memory : Option Slot
  pub table : Option Slot
  pub named : Named
  pub call : PausedCall
  pub args : List Val
  pub globals : List Val
  pub bytes : MemoryContents
  pub entries : TableContents
  pub answer : List ℕ

abbrev coded_slot : Coded Slot
coded_slot = code_by (ℕ × (ℕ × Option Named)) (coded× coded_ℕ (coded× coded_ℕ (coded_option coded_named)))
    (λ s. (s.number, (s.word, s.owner))) (λ p. record { number = p.0; word = p.1.0; owner = p.1.1 }) (λ _. refl)

abbrev pub coded_paused : Coded PausedView
coded_paused =
    code_by (Slot × (Option Slot × (Option Slot × (Named × (PausedCall × (List Val × (List Val × (MemoryContents × (TableContents × List ℕ)))))))))
    (coded× coded_slot (coded× (coded_option coded_slot) (coded× (coded_option coded_slot) (coded× coded_named (coded× call.the_row.coded
    (coded× (coded_list value.the_row.coded) (coded× (coded_list value.the_row.coded) (coded× coded_memory (coded× coded_table (coded_list coded_ℕ))))))))))
    (λ v. (v.ticket, (v.memory, (v.table, (v.named, (v.call, (v.args, (v.globals, (v.bytes, (v.entries, v.answer))))))))))
    (λ p. record {
      ticket = p.0;
      memory = p.1.0;
      table = p.1.1.0;
      named = p.1.1.1.0;
      call = p.1.1.1.1.0;
      args = p.1.1.1.1.1.0;
      globals = p.1.1.1.1.1.1.0;
      bytes = p.1.1.1.1.1.1.1.0;
      entries = p.1.1.1.1.1.1.1.1.0;
      answer = p.1.1.1.1.1.1.1.1.1;
    })
    (λ _. refl)

-- what lies in its slots
abbrev pub contents_in : PausedView → (k : Kind) → Contents k
contents_in v = parts v.bytes v.entries.holds v.entries.entries v.globals
