-- What a host does for a slice of a call is turns of it.
use Rattle.std.proofs.Common.{◌≡◌, ℕ, zero, suc, ◌+◌, ◌-◌, ◌≤◌, Bool, true, List, length, refl, sym, ap, ◌∙◌, subst, arith, inl, inr}
use Rattle.std.specs.Prelude.{Option, Some, is_some}
use Rattle.wasm_spec.specs.Store.{Store}
use Rattle.wasm_spec.specs.Result.{CallResult}
use Rattle.wasm_spec.specs.MoreFuel.{is_fuel, is_fuel_end}
use Rattle.wasm_spec.proofs.ResultLaws.{result-unfinished}
use Rattle.pool_model.specs.Contents.{Contents, shown_store, turned}
use Rattle.pool_model.specs.declared.kinds.Kind.{Kind}
use Rattle.pool_model.specs.PoolMachine.{World, Request, Running, Machine, slot_of, caller_contents, terms_of, result, store_or, store_after}
use Rattle.pool_model.specs.FreshMachine.{fresh_store_after, fresh_store_on}
use Rattle.pool_model.specs.Runs.{HostResumes, AreTurnsTo}
use Rattle.pool_model.specs.Worlds.{SlicesAreTurns, in_slots}
use Rattle.pool_model.proofs.Parts.{turned-still}
use Rattle.pool_model.proofs.Steps.{next-is, fresh-later}
use Rattle.pool_model.proofs.Turns.{Lasts, lasts, is_end, at_turn, Begun, begun-at, globals-are, waits-before, some-turns, ends-are, ends-with}

-- a call that ends for want of fuel after so many turns, or has made none, has there the store of the fresh one
fresh-there : (w : World) (p : Machine) (i : ℕ) (c : Running) (b : Begun w p i c) (turns : ℕ) (r : CallResult) → result w c turns ≡ Some r → is_fuel r.outcome ≡ true → r.store ≡ fresh_store_after w.limits c.request turns
fresh-there w p i c b zero r gives out = let q : Request = c.request in
    result-unfinished q.named.tree (terms_of w.limits q.sent) q.function q.arguments c.begun r out gives ∙ b.sound.begun_is
fresh-there w p i c b (suc turns) r gives out = let q : Request = c.request in
    let there : store_after w c (suc turns) ≡ r.store = ap (store_or c.begun) gives in
    let up : turns + 1 ≡ suc turns = omega arith in
    sym there ∙ next-is w c b.sound.begun_is (suc turns)
    ∙ subst (λ (n : ℕ). fresh_store_on w.limits q n ≡ fresh_store_after w.limits q n) up (sym (fresh-later w q turns))

goes-on : (w : World) (p : Machine) (i : ℕ) (c : Running) (to : ℕ) (new : (k : Kind) → Contents k) (marks : List Bool) (r : CallResult) → Begun w p i c → p.calls i ≡ Some c
    → (within : to ≤ c.request.fuel) → is_fuel r.outcome ≡ true → HostResumes w c to (caller_contents w p i) new marks r → (l : Lasts w c to) → l.count ≡ to → (n : ℕ) → c.turns + n ≡ to → AreTurnsTo w p i c to new marks
goes-on w p i c to new marks r b e within out run l all zero is = let s = b.sound in
    let here : c.turns ≡ to = omega (arith, is) in
    let shows : shown_store c.request.named.tree (caller_contents w p i) ≡ in_slots r.store =
    s.store ∙ ap (λ (n : ℕ). in_slots (fresh_store_after w.limits c.request n)) here ∙ ap in_slots (sym (fresh-there w p i c b to r run.gives out)) in
    let final : store_after w c to ≡ r.store = ap (store_or c.begun) run.gives in record {
      count = 0;
      reach = is;
      happen = tt;
      calls = e ∙ ap (λ (t : ℕ). Some (at_turn c t)) here;
      contents = λ k need. sym (run.left k need ∙ turned-still w c.request.named.tree r.store marks (caller_contents w p i) shows
          (λ k. b.good.kept k (slot_of w p i k)) (ap (λ (x : Store). length x.globals) (sym final) ∙ globals-are w p i c b.fresh s to) s.past
          (λ need. run.still need out (sym here)) k need);
    }
goes-on w p i c to new marks r b e within out run l all (suc n) is = let s = b.sound in
    let given : is_some (result w c to) ≡ true = ap (λ (o : Option CallResult). is_some o) run.gives in
    let final : store_after w c to ≡ r.store = ap (store_or c.begun) run.gives in
    let globals : (a d : ℕ) → length (store_after w c a).globals ≡ length (store_after w c d).globals = λ a d. globals-are w p i c b.fresh s a ∙ sym (globals-are w p i c b.fresh s d) in
    let made = some-turns w i c marks (caller_contents w p i) c.turns to within given l globals run.marked n p e (λ k. refl) (omega (arith, is, all)) in record {
      count = suc n;
      reach = is;
      happen = made.happen;
      calls = made.at.calls ∙ ap (λ (t : ℕ). Some (at_turn c t)) is;
      contents = λ k need. made.at.contents k need
          ∙ ap (λ (t : ℕ). turned w.limits.pages (store_after w c t) marks k (caller_contents w p i k)) is
          ∙ ap (λ (x : Store). turned w.limits.pages x marks k (caller_contents w p i k)) final ∙ sym (run.left k need);
    }

pub slices-are-turns : SlicesAreTurns
slices-are-turns w p i c to new marks r calls paused late within run = let b = begun-at w p i c calls in
    let given : is_some (result w c to) ≡ true = ap (λ (o : Option CallResult). is_some o) run.gives in
    let l = lasts w c to in record {
      goes_on = λ can.
          let end : is_fuel_end (result w c to) ≡ true = is_end (result w c to) can.unfinished in
          let reached : to ≤ l.count = waits-before w c to within given l to end (omega arith) in
          let most = l.within in
          goes-on w p i c to new marks r b calls.calls within (ap is_fuel_end (sym run.gives) ∙ end) run l (omega arith) (to - c.turns) (omega arith);
      ends = λ over.
          let le : c.turns ≤ l.count = elim paused [
            | inl none ↦ omega (arith, none)
            | inr waits ↦ waits-before w c to within given l c.turns (is_end (result w c c.turns) waits) late
          ] in (
            ends-are w p i c to new marks r b calls.calls within over run.gives run.left run.marked l le,
            ends-with w p i c to new marks r b calls.calls within over run.gives run.left run.marked,
          );
    }
