-- Copies and fills.
use Rattle.std.proofs.Common.{◌≡◌, ◌≢◌, ℕ, List, [], ◌∷◌, Bool, true, false, refl, ap}
use Rattle.std.specs.Prelude.{if◌then◌else◌}
use Rattle.wasm_values.specs.declared.outcome.Val.{Val}
use Rattle.wasm_values.specs.declared.outcome.Val.TheVariants as val
use Rattle.wasm_types.specs.declared.instr.Instr.TheVariants as instr
use Rattle.wasm_types.specs.Tree.{ModuleTree}
use Rattle.wasm_spec.specs.Store.{Store, written}
use Rattle.wasm_spec.specs.Execution.{Terms, Signal, Stuck, pop_numbers, copy_bytes, fill_bytes, write_where, plain}
use Rattle.machine_steps.specs.declared.machine.Machine.{Machine}
use Rattle.machine_steps.specs.Configuration.{Configuration, state}
use Rattle.machine_steps.specs.Lent.{memory_set}
use Rattle.machine_steps.specs.StackLayout.{Represents}
use Rattle.machine_steps.specs.PlainSteps.{EndsAs, trap_unless}

-- three i32 on the top
pub record Three (vs : List Val) : Type 0 where
  pub first : ℕ
  pub second : ℕ
  pub third : ℕ
  pub rest : List Val
  pub are : vs ≡ val.I32 third ∷ val.I32 second ∷ val.I32 first ∷ rest

three_there : (vs : List Val) (go : ℕ → ℕ → ℕ → List Val → Signal) → pop_numbers vs go ≢ Stuck → Three vs
three_there [] go n = absurd (n refl)
three_there (val.I64 c ∷ xs) go n = absurd (n refl)
three_there (val.I32 c ∷ []) go n = absurd (n refl)
three_there (val.I32 c ∷ val.I64 b ∷ xs) go n = absurd (n refl)
three_there (val.I32 c ∷ val.I32 b ∷ []) go n = absurd (n refl)
three_there (val.I32 c ∷ val.I32 b ∷ val.I64 a ∷ rest) go n = absurd (n refl)
three_there (val.I32 c ∷ val.I32 b ∷ val.I32 a ∷ rest) go n = record { first = a; second = b; third = c; rest = rest; are = refl }

at_three : (vs : List Val) (go : ℕ → ℕ → ℕ → List Val → Signal) (t : Three vs) → pop_numbers vs go ≡ go t.first t.second t.third t.rest
at_three vs go t = ap (λ (l : List Val). pop_numbers l go) t.are

module _ (m : ModuleTree) (limits : Terms) (k : Configuration) (store : Store) where
  pub copy_of : plain m limits instr.MemoryCopy (state k store) ≢ Stuck → Three k.operands
  copy_of fine = three_there k.operands (λ to from n vs. copy_bytes to from n vs (state k store)) fine

  pub copy_means : (t : Three k.operands) → plain m limits instr.MemoryCopy (state k store) ≡ copy_bytes t.first t.second t.third t.rest (state k store)
  copy_means t = at_three k.operands (λ to from n vs. copy_bytes to from n vs (state k store)) t

  pub fill_of : plain m limits instr.MemoryFill (state k store) ≢ Stuck → Three k.operands
  fill_of fine = three_there k.operands (λ to value n vs. fill_bytes to value n vs (state k store)) fine

  pub fill_means : (t : Three k.operands) → plain m limits instr.MemoryFill (state k store) ≡ fill_bytes t.first t.second t.third t.rest (state k store)
  fill_means t = at_three k.operands (λ to value n vs. fill_bytes to value n vs (state k store)) t

-- what such a write leaves, by the test of its parts
pub written_after : (b : Bool) (k : Configuration) (vs : List Val) (new : Machine) (before after : Store) (to : ℕ) (bytes : List ℕ)
    → memory_set (if b then written before.memory to bytes else before.memory) before ≡ after → Represents (record k { operands = vs }) new
    → EndsAs (write_where b to bytes vs (state k before)) k (trap_unless b) new after
written_after true k vs new before after to bytes same sh = (sh, same)
written_after false k vs new before after to bytes same sh = (refl, same)
