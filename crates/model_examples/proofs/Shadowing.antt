-- The fresh call that a running call shows, and ones that it does not.
use Rattle.std.proofs.Common.{◌≡◌, ◌≤◌, true≢false, [], ◌∷◌, refl, sym, ap, arith}
use Rattle.wasm_values.specs.declared.outcome.Val.TheVariants.{I32}
use Rattle.wasm_spec.specs.Store.{Store}
use Rattle.wasm_spec.specs.Execution.{exec}
use Rattle.pool_model.specs.PoolMachine.{Request}
use Rattle.pool_model.specs.FreshMachine.{FreshCall}
use Rattle.pool_model.specs.Worlds.{Shadows}
use Rattle.model_examples.proofs.ShortCalls.{world, request_of, running, turned_twice, with_memory, of_one_byte}

-- two turns have set its global
abbrev fresh : FreshCall
fresh = record { request = request_of 0 2; store = record { memory = []; table = []; globals = I32 5 ∷ []; answer = [] }; turns = 2 }

shown : Shadows world turned_twice 0 (running 0 2 2) fresh
unfolding exec
shown = record { request = refl; turns = refl; store = refl; past = λ h. absurd (true≢false (sym h)); answer = refl }

of_another_module : Shadows world turned_twice 0 (running 0 2 2) (record fresh { request = request_of 1 2 }) → ⊥
of_another_module s = let zero_is : 0 ≡ 1 = ap (λ (q : Request). q.named.number) s.request in omega (arith, zero_is)

after_another_turn : Shadows world turned_twice 0 (running 0 2 2) (record fresh { turns = 1 }) → ⊥
after_another_turn s = let two_is : 2 ≡ 1 = s.turns in omega (arith, two_is)

of_another_global : Shadows world turned_twice 0 (running 0 2 2) (record fresh { store = record { memory = []; table = []; globals = I32 1 ∷ []; answer = [] } }) → ⊥
unfolding exec
of_another_global s = let e = ap (λ (t : Store). t.globals) s.store in cc (e)

-- it began without its global, so that it is stuck
of_another_answer : Shadows world turned_twice 0 (record (running 0 2 2) { begun = record { memory = []; table = []; globals = []; answer = [] } }) fresh → ⊥
unfolding exec
of_another_answer s = let e = s.answer in cc (e)

-- a byte past a memory without pages
with_a_byte_past_it : Shadows world of_one_byte 0 with_memory (record { request = with_memory.request; store = record { memory = []; table = []; globals = I32 7 ∷ []; answer = [] }; turns = 0 }) → ⊥
with_a_byte_past_it s = let none : 0 ≤ 0 = omega arith in let one_is : 1 ≡ 0 = s.past refl 0 none in omega (arith, one_is)
