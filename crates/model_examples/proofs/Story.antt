-- Two callers share two slots of each kind, of which one may be warm. Their modules are equal, under two tags. Each call gives what stood
-- at address 0, and writes 7 there: so it gives 0 wherever no other's byte is left.
use Rattle.std.proofs.Common.{◌≡◌, ℕ, Bool, true, false, List, [], ◌∷◌, ◌++◌, refl, sym, ap, ◌∙◌, subst, cond, arith}
use Rattle.std.specs.Prelude.{Option, Some, replicate, ◌==◌, ◌/◌}
use Rattle.wasm_values.specs.declared.outcome.Val.TheVariants.{I32}
use Rattle.wasm_values.specs.declared.outcome.Outcome.{Outcome}
use Rattle.wasm_values.specs.declared.outcome.Outcome.TheVariants as outcome
use Rattle.wasm_spec.specs.Execution.{exec}
use Rattle.pool_core.specs.declared.words.State.TheVariants.{Awaiting, Warm}
use Rattle.pool_core.specs.declared.words.Target.{Target}
use Rattle.pool_core.specs.declared.events.Event.TheVariants.{AwaitDown, AwaitUp, Claim, Home, Load, Out, Release, Split, Stamp, WarmDown, WarmUp}
use Rattle.pool_core.specs.StateWords.{cold_target}
use Rattle.memory_blocks.specs.Blocks.{KeepsUnmarked, is_marked}
use Rattle.pool_model.specs.Contents.{MemoryContents, memory_image, rewritten_from, restored as restored_contents, Matches}
use Rattle.pool_model.specs.declared.kinds.Kind.{Kind}
use Rattle.pool_model.specs.declared.kinds.Kind.TheVariants.{Instance, Memory, Table}
use Rattle.pool_model.specs.PoolMachine.{Machine, WorldEvent, Step, Prepare, Restore, Clear, Begin, Turn, End, HasOut, held_by, after, after_all, AllMayHappen}
use Rattle.pool_model.specs.Fitting.{AllReleasesFit}
use Rattle.pool_model.specs.Worlds.{IsSameRequest, answers}
use Rattle.pool_model.proofs.Bytes.{rewritten-is}
use Rattle.model_examples.proofs.Scenes.{first, second, world, is_module, request_of, callable, cold, cold_is, opened, is_free, unmarked, steps_happen, Plays, plays, plays_on, and_then, beyond_four, done}

abbrev pub awaiting : (tag stamp : ℕ) → Target
awaiting tag stamp = record { state = Awaiting; tag = tag; stamp = stamp }

abbrev pub warm : (tag stamp : ℕ) → Target
warm tag stamp = record { state = Warm; tag = tag; stamp = stamp }

-- the bytes of one page past its first four
abbrev zeros : List ℕ
zeros = replicate 65532 0

-- ---- a pass for each caller, and a slot of each kind

abbrev takes : List WorldEvent
takes = Step Instance (Split 0 1) ∷ Step Memory (Split 0 1) ∷ Step Table (Split 0 1)
    ∷ Step Instance (Load 0 0) ∷ Step Instance (Load 0 1)
    ∷ Step Instance (Claim 0 0) ∷ Step Instance (Out 0 0) ∷ Step Memory (Claim 0 0) ∷ Step Memory (Out 0 0) ∷ Step Table (Claim 0 0) ∷ Step Table (Out 0 0)
    ∷ Step Instance (Claim 1 1) ∷ Step Instance (Out 1 1) ∷ Step Memory (Claim 1 1) ∷ Step Memory (Out 1 1)
    ∷ Step Table (Claim 1 0) ∷ Step Table (Claim 1 1) ∷ Step Table (Out 1 1) ∷ []

abbrev pub taken : Machine
taken = after_all world opened takes

takes_happen : AllMayHappen world opened takes
takes_happen = steps_happen opened takes refl

-- ---- both call, turn by turn

abbrev begins : List WorldEvent
begins = Begin 0 (request_of first 5) ∷ Begin 1 (request_of second 5) ∷ []

abbrev pub begun : Machine
begun = after_all world taken begins

first_slots : (k : Kind) → HasOut taken k 0
first_slots Instance = record { number = 0; holds = refl; out = refl }
first_slots Memory = record { number = 0; holds = refl; out = refl }
first_slots Table = record { number = 0; holds = refl; out = refl }

second_slots : (k : Kind) → HasOut (after world taken (Begin 0 (request_of first 5))) k 1
second_slots Instance = record { number = 1; holds = refl; out = refl }
second_slots Memory = record { number = 1; holds = refl; out = refl }
second_slots Table = record { number = 1; holds = refl; out = refl }

begins_happen : AllMayHappen world taken begins
begins_happen = (
  (refl, λ k needed. first_slots k, is_module 0, callable 0 5),
  (
    (refl, λ k needed. second_slots k, is_module 1, callable 1 5),
    tt,
  ),
)

-- four turns of each, which change nothing
abbrev reads : List WorldEvent
reads = Turn 0 [] ∷ Turn 1 [] ∷ Turn 0 [] ∷ Turn 1 [] ∷ Turn 0 [] ∷ Turn 1 [] ∷ Turn 0 [] ∷ Turn 1 [] ∷ []

abbrev pub read : Machine
read = after_all world begun reads

none_marked : (i : ℕ) → is_marked (false ∷ []) i ≡ false
none_marked i = unmarked (i / 4096)

nothing_changes : {bytes : List ℕ} {marks : List Bool} → KeepsUnmarked bytes bytes marks marks
nothing_changes = record { bytes = λ i h. refl; marks = λ i h. h }

reads_happen : AllMayHappen world begun reads
unfolding exec
reads_happen = (
  (_, refl, record { fuel = omega arith; unfinished = refl }, λ h. nothing_changes),
  (
    (_, refl, record { fuel = omega arith; unfinished = refl }, λ h. nothing_changes),
    (
      (_, refl, record { fuel = omega arith; unfinished = refl }, λ h. nothing_changes),
      (
        (_, refl, record { fuel = omega arith; unfinished = refl }, λ h. nothing_changes),
        (
          (_, refl, record { fuel = omega arith; unfinished = refl }, λ h. nothing_changes),
          (
            (_, refl, record { fuel = omega arith; unfinished = refl }, λ h. nothing_changes),
            (
              (_, refl, record { fuel = omega arith; unfinished = refl }, λ h. nothing_changes),
              ((_, refl, record { fuel = omega arith; unfinished = refl }, λ h. nothing_changes), tt),
            ),
          ),
        ),
      ),
    ),
  ),
)

abbrev writes : List WorldEvent
writes = Turn 0 (true ∷ []) ∷ Turn 1 (true ∷ []) ∷ End 0 (true ∷ []) ∷ End 1 (true ∷ []) ∷ []

abbrev pub written : Machine
written = after_all world read writes

writes_happen : AllMayHappen world read writes
unfolding exec
writes_happen = (
  (_, refl, record { fuel = omega arith; unfinished = refl }, λ h. record { bytes = beyond_four 7 0 0 0 0 0 0 0 zeros; marks = λ i m. refl }),
  (
    (_, refl, record { fuel = omega arith; unfinished = refl }, λ h. record { bytes = beyond_four 7 0 0 0 0 0 0 0 zeros; marks = λ i m. refl }),
    ((_, refl, (λ can. done _ can.unfinished), λ h. nothing_changes), ((_, refl, (λ can. done _ can.unfinished), λ h. nothing_changes), tt)),
  ),
)

-- ---- the first caller gives its slots: its table is released warm, and its memory awaits a restore

abbrev gives : List WorldEvent
gives = Step Table (Home 0 0) ∷ Step Table (WarmUp 0) ∷ Step Table (Stamp 0) ∷ Step Table (Release 0 0 (warm 0 0))
    ∷ Step Memory (Home 0 0) ∷ Step Memory (AwaitUp 0) ∷ Step Memory (Stamp 0) ∷ Step Memory (Release 0 0 (awaiting 0 0))
    ∷ Step Instance (Home 0 0) ∷ Step Instance (Release 0 0 cold_target) ∷ []

abbrev given : Machine
given = after_all world written gives

gives_happen : AllMayHappen world written gives
gives_happen = steps_happen written gives refl

gives_fit : AllReleasesFit world written gives
unfolding exec
gives_fit = (
  tt,
  (
    tt,
    (
      tt,
      (
        (first, (refl, refl), refl),
        (
          tt,
          (
            tt,
            (
              tt,
              (
                (first, record { holds = refl; outside = beyond_four 7 0 0 0 0 0 0 0 zeros }, refl),
                (tt, (tt, tt)),
              ),
            ),
          ),
        ),
      ),
    ),
  ),
)

-- ---- and restores it, so that it is warm

abbrev finds : List WorldEvent
finds = Step Memory (Claim 0 0) ∷ Step Memory (AwaitDown 0) ∷ Step Memory (Out 0 0) ∷ Step Memory (WarmUp 0) ∷ []

abbrev found : Machine
found = after_all world given finds

abbrev restores : List WorldEvent
restores = Restore Memory 0 ∷ []

abbrev restored : Machine
restored = after_all world found restores

abbrev returns : List WorldEvent
returns = Step Memory (Home 0 0) ∷ Step Memory (Release 0 0 (warm 0 0)) ∷ []

abbrev returned : Machine
returned = after_all world restored returns

finds_happen : AllMayHappen world given finds
finds_happen = steps_happen given finds refl

restores_happen : AllMayHappen world found restores
restores_happen = ((record { number = 0; holds = refl; out = refl }, is_free found Memory 0 refl, refl), tt)

returns_happen : AllMayHappen world restored returns
returns_happen = steps_happen restored returns refl

abbrev fresh_bytes : List ℕ
fresh_bytes = memory_image 1 (Some first)

-- what a call left in the memory
abbrev used : MemoryContents
used = record { bytes = 7 ∷ 0 ∷ 0 ∷ 0 ∷ zeros; pages = 1; marks = true ∷ []; holds = Some first }

-- and what a restore makes of that
abbrev clean_with : List ℕ → MemoryContents
clean_with bytes = record { bytes = bytes; pages = 1; marks = false ∷ []; holds = Some first }

fits_restored : (x : MemoryContents) → x ≡ clean_with fresh_bytes → Matches 1 Memory Warm 0 x
fits_restored x is = subst (Matches 1 Memory Warm 0) (sym is) (first, record { holds = refl; size = refl; bytes = refl; clean = unmarked }, refl)

rewritten : rewritten_from 0 (true ∷ []) fresh_bytes (7 ∷ 0 ∷ 0 ∷ 0 ∷ zeros) ≡ fresh_bytes
rewritten = rewritten-is (true ∷ []) fresh_bytes (7 ∷ 0 ∷ 0 ∷ 0 ∷ zeros) refl (beyond_four 7 0 0 0 0 0 0 0 zeros)

-- so the slot that is restored fits what it is released to
restored_fits : (p : Machine) → p.contents Memory 0 ≡ used → held_by p Memory 0 ≡ 0 → AllReleasesFit world (after_all world p restores) returns
restored_fits p lies holds =
    let now : (n : ℕ) (x : MemoryContents) → n ≡ 0 → x ≡ used → cond (0 == n) (restored_contents 1 Memory x) x ≡ clean_with fresh_bytes =
    λ n x zero_is used_is. ap (λ (m : ℕ). cond (0 == m) (restored_contents 1 Memory x) x) zero_is
    ∙ ap (restored_contents 1 Memory) used_is
    ∙ ap clean_with rewritten in
    (tt, (fits_restored _ (now (held_by p Memory 0) (p.contents Memory 0) holds lies), tt))

returns_fit : AllReleasesFit world restored returns
unfolding exec
returns_fit = restored_fits found refl refl

-- ---- the second caller gives its slots: no more tables may be warm, so its own is cleared

abbrev asks : List WorldEvent
asks = Step Table (WarmUp 1) ∷ Step Table (WarmDown 1) ∷ []

abbrev asked : Machine
asked = after_all world returned asks

asks_happen : AllMayHappen world returned asks
asks_happen = steps_happen returned asks refl

abbrev clears : List WorldEvent
clears = Clear Table 1 (cold Table) ∷ []

abbrev cleared : Machine
cleared = after_all world asked clears

clears_happen : AllMayHappen world asked clears
clears_happen = ((record { number = 1; holds = refl; out = refl }, is_free asked Table 1 refl, cold_is Table), tt)

abbrev leaves : List WorldEvent
leaves = Step Table (Home 1 1) ∷ Step Table (Release 1 1 cold_target)
    ∷ Step Memory (Home 1 1) ∷ Step Memory (AwaitUp 1) ∷ Step Memory (Stamp 1) ∷ Step Memory (Release 1 1 (awaiting 1 1))
    ∷ Step Instance (Home 1 1) ∷ Step Instance (Release 1 1 cold_target) ∷ []

abbrev left : Machine
left = after_all world cleared leaves

leaves_happen : AllMayHappen world cleared leaves
leaves_happen = steps_happen cleared leaves refl

leaves_fit : AllReleasesFit world cleared leaves
unfolding exec
leaves_fit = (
  tt,
  (
    (refl, refl),
    (
      tt,
      (
        tt,
        (
          tt,
          (
            (second, record { holds = refl; outside = beyond_four 7 0 0 0 0 0 0 0 zeros }, refl),
            (tt, (tt, tt)),
          ),
        ),
      ),
    ),
  ),
)

-- ---- the first caller calls again, in the memory that the second one used

abbrev takes_again : List WorldEvent
takes_again = Step Instance (Claim 0 0) ∷ Step Instance (Out 0 0) ∷ Step Memory (Claim 0 1) ∷ Step Memory (AwaitDown 0) ∷ Step Memory (Out 0 1)
    ∷ Step Table (Claim 0 0) ∷ Step Table (WarmDown 0) ∷ Step Table (Out 0 0) ∷ []

abbrev taken_again : Machine
taken_again = after_all world left takes_again

takes_again_happen : AllMayHappen world left takes_again
takes_again_happen = steps_happen left takes_again refl

abbrev calls_again : List WorldEvent
calls_again = Prepare Table 0 first ∷ Begin 0 (request_of first 9) ∷ []

abbrev called_again : Machine
called_again = after_all world taken_again calls_again

slots_again : (k : Kind) → HasOut (after world taken_again (Prepare Table 0 first)) k 0
slots_again Instance = record { number = 0; holds = refl; out = refl }
slots_again Memory = record { number = 1; holds = refl; out = refl }
slots_again Table = record { number = 0; holds = refl; out = refl }

calls_again_happen : AllMayHappen world taken_again calls_again
calls_again_happen = (
  (record { number = 0; holds = refl; out = refl }, is_free taken_again Table 0 refl, is_module 0),
  (
    (refl, λ k needed. slots_again k, is_module 0, callable 0 9),
    tt,
  ),
)

-- the blocks that were marked are not any more
abbrev clean : List Bool
clean = false ∷ []

abbrev ends_again : List WorldEvent
ends_again = Turn 0 clean ∷ Turn 0 clean ∷ Turn 0 clean ∷ Turn 0 clean ∷ Turn 0 (true ∷ []) ∷ End 0 (true ∷ []) ∷ []

ends_again_happen : AllMayHappen world called_again ends_again
unfolding exec
ends_again_happen = (
  (_, refl, record { fuel = omega arith; unfinished = refl }, λ h. nothing_changes),
  (
    (_, refl, record { fuel = omega arith; unfinished = refl }, λ h. nothing_changes),
    (
      (_, refl, record { fuel = omega arith; unfinished = refl }, λ h. nothing_changes),
      (
        (_, refl, record { fuel = omega arith; unfinished = refl }, λ h. nothing_changes),
        (
          (_, refl, record { fuel = omega arith; unfinished = refl }, λ h. record { bytes = beyond_four 7 0 0 0 0 0 0 0 zeros; marks = λ i m. none_marked i }),
          ((_, refl, (λ can. done _ can.unfinished), λ h. nothing_changes), tt),
        ),
      ),
    ),
  ),
)

-- ---- all of it

abbrev pub story : List WorldEvent
story = takes ++ begins ++ reads ++ writes ++ gives ++ finds ++ restores ++ returns
    ++ asks ++ clears ++ leaves ++ takes_again ++ calls_again ++ ends_again

pub story_plays : Plays opened story
story_plays =
    and_then (plays_on opened takes takes_happen refl) (
    and_then (plays_on taken begins begins_happen refl) (
    and_then (plays_on begun reads reads_happen refl) (
    and_then (plays_on read writes writes_happen refl) (
    and_then (plays written gives gives_happen gives_fit) (
    and_then (plays_on given finds finds_happen refl) (
    and_then (plays_on found restores restores_happen refl) (
    and_then (plays restored returns returns_happen returns_fit) (
    and_then (plays_on returned asks asks_happen refl) (
    and_then (plays_on asked clears clears_happen refl) (
    and_then (plays cleared leaves leaves_happen leaves_fit) (
    and_then (plays_on left takes_again takes_again_happen refl) (
    and_then (plays_on taken_again calls_again calls_again_happen refl) (
    plays_on called_again ends_again ends_again_happen refl)))))))))))))

abbrev zero_was_there : Option (Outcome × List ℕ)
zero_was_there = Some (outcome.Done (Some (I32 0)), [])

-- the first caller called twice: on the fuel that a call needs, and on more
first_answers : answers world opened story 0 ≡ (request_of first 5, zero_was_there) ∷ (request_of first 9, zero_was_there) ∷ []
unfolding exec
first_answers = refl

second_answers : answers world opened story 1 ≡ (request_of second 5, zero_was_there) ∷ []
unfolding exec
second_answers = refl

-- these are requests for equal modules, whose numbers and tags differ
same_request : IsSameRequest (request_of first 5) (request_of second 5)
same_request = record { tree = refl; function = refl; arguments = refl; sent = refl; fuel = refl }
