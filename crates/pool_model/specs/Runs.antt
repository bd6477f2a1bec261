-- What a host does for a call, by the machine's contract, and the turns that it comes to.
use Rattle.std.specs.Prelude.{◌≡◌, ℕ, ◌+◌, ◌≤◌, Bool, true, List, Option, Some, replicate}
use Rattle.wasm_types.specs.Tree.{ModuleTree}
use Rattle.wasm_spec.specs.MoreFuel.{is_fuel}
use Rattle.wasm_spec.specs.Result.{CallResult}
use Rattle.memory_blocks.specs.Blocks.{KeepsUnmarked}
use Rattle.pool_model.specs.Contents.{Contents, needs, filled, turned}
use Rattle.pool_model.specs.declared.kinds.Kind.{Kind}
use Rattle.pool_model.specs.declared.kinds.Kind.TheVariants.{Memory}
use Rattle.pool_model.specs.PoolMachine.{World, Running, Machine, Turn, End, caller_contents, result, after, after_all, AllMayHappen, MayHappen}

-- What comes of turns of a run that gives `result` on each fuel, from this number of them to that, where they are made on these
-- contents. A whole run is its turns from none to all its fuel.
pub record LeavesFrom (pages : ℕ) (m : ModuleTree) (result : ℕ → Option CallResult) (from to : ℕ) (old new : (k : Kind) → Contents k) (marks : List Bool) (r : CallResult) : Type 0 where
  pub gives : result to ≡ Some r
  -- the parts show the store, and nothing past the memory's size; the memory has these marks
  pub left : (k : Kind) → needs k m ≡ true → new k ≡ turned pages r.store marks k (old k)
  -- every block that differs after any number of these turns is marked, even if a later turn changed it back, and no mark was taken away
  pub marked : needs Memory m ≡ true → (turns : ℕ) (x : CallResult) → from ≤ turns → turns ≤ to → result turns ≡ Some x
      → KeepsUnmarked (old Memory).bytes (filled pages x.store.memory) (old Memory).marks marks
  -- without a turn a run that goes on marks nothing
  pub still : needs Memory m ≡ true → is_fuel r.outcome ≡ true → to ≡ from → marks ≡ (old Memory).marks

-- what a host does for a call that runs: its turns from those that it has made to so many; for a whole call, from none to all its fuel
abbrev pub HostResumes : World → Running → (to : ℕ) → (old new : (k : Kind) → Contents k) → List Bool → CallResult → Type 0
HostResumes w c to old new marks r = LeavesFrom w.limits.pages c.request.named.tree (result w c) c.turns to old new marks r

-- so many turns of the call, each of which may happen, and its end after them leave the slots with these contents
pub record AreItsTurns (w : World) (p : Machine) (i : ℕ) (r : Running) (new : (k : Kind) → Contents k) (marks : List Bool) : Type 0 where
  pub count : ℕ
  pub happen : AllMayHappen w p (replicate count (Turn i marks))
  pub ends : MayHappen w (after_all w p (replicate count (Turn i marks))) (End i marks)
  pub contents : (k : Kind) → needs k r.request.named.tree ≡ true → caller_contents w (after w (after_all w p (replicate count (Turn i marks))) (End i marks)) i k ≡ new k

-- turns of the call up to so many, each of which may happen, leave the slots with these contents
pub record AreTurnsTo (w : World) (p : Machine) (i : ℕ) (r : Running) (to : ℕ) (new : (k : Kind) → Contents k) (marks : List Bool) : Type 0 where
  pub count : ℕ
  pub reach : r.turns + count ≡ to
  pub happen : AllMayHappen w p (replicate count (Turn i marks))
  pub calls : (after_all w p (replicate count (Turn i marks))).calls i ≡ Some (record r { turns = to })
  pub contents : (k : Kind) → needs k r.request.named.tree ≡ true → caller_contents w (after_all w p (replicate count (Turn i marks))) i k ≡ new k
