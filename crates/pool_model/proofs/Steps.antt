-- Each event keeps what holds of a pool in use beside the fresh machine.
use Rattle.std.proofs.Common.{◌≡◌, ◌≢◌, ℕ, ◌+◌, Bool, true, false, cond, ◌&&◌, List, refl, sym, ap, ◌∙◌, subst, arith, true≢false, eq-eqb}
use Rattle.std.specs.Prelude.{Option, Some, None, ◌==◌, unwrap_or}
use Rattle.std.proofs.lemmas.Bool.Decides.{nat_tests}
use Rattle.std.proofs.lemmas.Bool.{eqb-true, eqb-false, and_parts}
use Rattle.wasm_types.specs.Tree.{ModuleTree}
use Rattle.wasm_spec.specs.Store.{Store, fresh_store}
use Rattle.wasm_spec.specs.Result.{CallResult, result_from}
use Rattle.wasm_spec.specs.Instances.{IsInstance}
use Rattle.wasm_spec.proofs.ResultLaws.{result-keeps, instance-kept, fresh-instance}
use Rattle.pool_core.specs.declared.events.Event.{Event}
use Rattle.pool_core.specs.PoolCore.{PoolCore, seat_at}
use Rattle.pool_core.specs.EventEffects.{core_after}
use Rattle.pool_core.specs.RefusalRules.{refusal_of, seat_of}
use Rattle.pool_core.specs.Lawful.{Lawful}
use Rattle.pool_core.proofs.Holders.{one_holder}
use Rattle.pool_core.proofs.LawfulSteps.{lawful_after}
use Rattle.pool_model.specs.Contents.{Named, Contents, prepared, restored, replaced, needs, shown_store, turned}
use Rattle.pool_model.specs.declared.kinds.Kind.{Kind}
use Rattle.pool_model.specs.declared.kinds.Kind.TheVariants.{Instance, Memory, Table}
use Rattle.pool_model.specs.PoolMachine.{World, Request, Running, Machine, WorldEvent, Step, Prepare, Restore, Clear, Begin, Turn, End, Cancel, held_by, slot_of, caller_contents, same_kind, is_slot_of_seat, is_slot_of_call, with_contents, with_core, with_call, store_or, store_after, begun, after_turn, after, IsFree, HasOut, IsModule, MayHappen, terms_of, last_store, after_end, MarksStore}
use Rattle.pool_model.specs.FreshMachine.{FreshCall, FreshMachine, fresh_store_on, fresh_store_after, fresh_turn, with_fresh_call, fresh_after}
use Rattle.pool_model.specs.Worlds.{IsZeroPast, in_slots}
use Rattle.pool_model.proofs.Parts.{IsKept, fits, shown-same, shows-store, shows-fresh, prepared-kept, prepared-past, restored-kept, replaced-kept, turned-kept, turned-past}
use Rattle.pool_model.proofs.Seats.{Stays, holder_stays}

-- what holds of a running call, beside the fresh one
pub record IsSound (w : World) (p : Machine) (i : ℕ) (r : Running) (c : FreshCall) : Type 0 where
  pub is_module : IsModule w r.request.named
  pub request : c.request ≡ r.request
  pub turns : c.turns ≡ r.turns
  pub begun_is : r.begun ≡ fresh_store r.request.named.tree
  pub fresh : c.store ≡ fresh_store_after w.limits r.request r.turns
  pub holds : (k : Kind) → needs k r.request.named.tree ≡ true → HasOut p k (w.seats k i)
  pub store : shown_store r.request.named.tree (caller_contents w p i) ≡ in_slots (fresh_store_after w.limits r.request r.turns)
  pub past : needs Memory r.request.named.tree ≡ true → IsZeroPast (caller_contents w p i Memory)
  pub owner : needs Table r.request.named.tree ≡ true → (caller_contents w p i Table).holds ≡ Some r.request.named

abbrev pub GoodCall : World → Machine → ℕ → Option Running → Option FreshCall → Type 0
GoodCall w p i None None = Unit {0}
GoodCall w p i (Some r) (Some c) = IsSound w p i r c
GoodCall w p i call fresh = ⊥

pub record Good (w : World) (p : Machine) (f : FreshMachine) : Type 0 where
  pub lawful : (k : Kind) → Lawful (p.core k)
  pub kept : (k : Kind) (n : ℕ) → IsKept w k (p.contents k n)
  pub calls : (i : ℕ) → GoodCall w p i (p.calls i) (f i)

-- ---- where a call's slots stay as they are

record SlotStays (w : World) (p q : Machine) (i : ℕ) (k : Kind) : Type 0 where
  pub seat : Stays (seat_at (p.core k) (w.seats k i)) (seat_at (q.core k) (w.seats k i))
  pub contents : q.contents k (slot_of w p i k) ≡ p.contents k (slot_of w p i k)

slots-stay : (w : World) (p q : Machine) (i : ℕ) (k : Kind) → SlotStays w p q i k → caller_contents w q i k ≡ caller_contents w p i k
slots-stay w p q i k s = ap (λ (h : Option ℕ). q.contents k (unwrap_or h 0)) s.seat.holds ∙ s.contents

out-stays : (w : World) (p q : Machine) (i : ℕ) (k : Kind) → SlotStays w p q i k → HasOut p k (w.seats k i) → HasOut q k (w.seats k i)
out-stays w p q i k s h = record { number = h.number; holds = s.seat.holds ∙ h.holds; out = s.seat.out ∙ h.out }

sound-stays : (w : World) (p q : Machine) (i : ℕ) (r : Running) (c : FreshCall) → ((k : Kind) → needs k r.request.named.tree ≡ true → SlotStays w p q i k) → IsSound w p i r c → IsSound w q i r c
sound-stays w p q i r c stay s = record {
  is_module = s.is_module;
  request = s.request;
  turns = s.turns;
  begun_is = s.begun_is;
  fresh = s.fresh;
  holds = λ k need. out-stays w p q i k (stay k need) (s.holds k need);
  store = shown-same r.request.named.tree (caller_contents w q i) (caller_contents w p i) (λ k need. slots-stay w p q i k (stay k need)) ∙ s.store;
  past = λ need. subst IsZeroPast (sym (slots-stay w p q i Memory (stay Memory need))) (s.past need);
  owner = λ need. ap (λ (x : Contents Table). x.holds) (slots-stay w p q i Table (stay Table need)) ∙ s.owner need;
}

call-stays : (w : World) (p q : Machine) (i : ℕ) (a : Option Running) (b : Option FreshCall)
    → ((r : Running) (c : FreshCall) → a ≡ Some r → IsSound w p i r c → (k : Kind) → needs k r.request.named.tree ≡ true → SlotStays w p q i k)
    → GoodCall w p i a b → GoodCall w q i a b
call-stays w p q i None None stay g = tt
call-stays w p q i (Some r) (Some c) stay g = sound-stays w p q i r c (stay r c refl g) g
call-stays w p q i None (Some c) stay g = g
call-stays w p q i (Some r) None stay g = g

abbrev call_or : Running → Option Running → Running
call_or other None = other
call_or other (Some r) = r

-- a call that runs is sound beside a fresh one
pub found : (w : World) (p : Machine) (i : ℕ) (a : Option Running) (b : Option FreshCall) (r : Running) → GoodCall w p i a b → a ≡ Some r → (c : FreshCall) × (b ≡ Some c) × IsSound w p i r c
found w p i None None r g e = absurd (cc)
found w p i None (Some c) r g e = absurd g
found w p i (Some x) None r g e = absurd g
found w p i (Some x) (Some c) r g e = (c, refl, subst (λ (y : Running). IsSound w p i y c) (ap (call_or x) e) g)

-- one caller's call changes
calls-with : (w : World) (q : Machine) (i : ℕ) (call : Option Running) (fresh : Option FreshCall) (old : ℕ → Option Running) (oldf : FreshMachine)
    → GoodCall w q i call fresh → ((j : ℕ) → j ≢ i → GoodCall w q j (old j) (oldf j)) → (j : ℕ) → GoodCall w q j (cond (j == i) call (old j)) (cond (j == i) fresh (oldf j))
calls-with w q i call fresh old oldf here others j =
    let split : (b : Bool) → (j == i) ≡ b → GoodCall w q j (cond b call (old j)) (cond b fresh (oldf j)) = elim [
      | true ↦ λ e. subst (λ (k : ℕ). GoodCall w q k call fresh) (sym (eqb-true j i e)) here
      | false ↦ λ e. others j (eqb-false j i e)
    ] in split (j == i) refl

-- who runs is of no account for what a call's slots have
call-set : (w : World) (p : Machine) (i : ℕ) (call : Option Running) (j : ℕ) (a : Option Running) (b : Option FreshCall) → GoodCall w p j a b → GoodCall w (with_call p i call) j a b
call-set w p i call j a b g = call-stays w p (with_call p i call) j a b (λ r c e s k need. record { seat = record { holds = refl; out = refl }; contents = refl }) g

-- ---- the core's events

pub same_kind-is : (k j : Kind) → same_kind k j ≡ true → k ≡ j
same_kind-is Instance Instance h = refl
same_kind-is Memory Memory h = refl
same_kind-is Table Table h = refl
same_kind-is Instance Memory h = absurd (true≢false (sym h))
same_kind-is Instance Table h = absurd (true≢false (sym h))
same_kind-is Memory Instance h = absurd (true≢false (sym h))
same_kind-is Memory Table h = absurd (true≢false (sym h))
same_kind-is Table Instance h = absurd (true≢false (sym h))
same_kind-is Table Memory h = absurd (true≢false (sym h))

no_call : (a : Option Running) (r : Running) → a ≡ Some r → a ≡ None → ⊥
no_call a r e n = cc

core-good : (w : World) (p : Machine) (f : FreshMachine) (k : Kind) (e : Event) → Good w p f → refusal_of (p.core k) e ≡ 0 → IsFree w p k (seat_of e) → Good w (with_core p k (core_after (p.core k) e)) f
core-good w p f k e g ok free = let c : PoolCore = core_after (p.core k) e in let q : Machine = with_core p k c in record {
  lawful = λ j. let split : (b : Bool) → same_kind k j ≡ b → Lawful (cond b c (p.core j)) = elim [
    | true ↦ λ s. lawful_after (p.core k) e (g.lawful k) ok
    | false ↦ λ s. g.lawful j
  ] in split (same_kind k j) refl;
  kept = g.kept;
  calls = λ i. call-stays w p q i (p.calls i) (f i) (λ r x is s j need. record {
    seat = let own : (s' : ℕ) → s' ≡ w.seats j i → Stays (seat_at (p.core j) (w.seats j i)) (seat_at (p.core j) s') = λ s' h. record { holds = ap (λ (t : ℕ). (seat_at (p.core j) t).holds) h; out = ap (λ (t : ℕ). (seat_at (p.core j) t).out) h } in
        let split : (b : Bool) → same_kind k j ≡ b → Stays (seat_at (p.core j) (w.seats j i)) (seat_at (cond b c (p.core j)) (w.seats j i)) = elim [
          | true ↦ λ h. subst (λ (l : Kind). HasOut p l (w.seats l i) → Stays (seat_at (p.core l) (w.seats l i)) (seat_at c (w.seats l i))) (same_kind-is k j h)
              (λ o. holder_stays (p.core k) e (w.seats k i) o.number (g.lawful k) ok (λ here. no_call (p.calls i) r is (free i here)) o.holds) (s.holds j need)
          | false ↦ λ h. own (w.seats j i) refl
        ] in split (same_kind k j) refl;
    contents = refl;
  }) (g.calls i);
}

-- ---- changes of contents

kept-with : (w : World) (p : Machine) (hits : Kind → ℕ → Bool) (change : (k : Kind) → Contents k → Contents k)
    → ((k : Kind) (n : ℕ) → IsKept w k (p.contents k n)) → ((k : Kind) (n : ℕ) → hits k n ≡ true → IsKept w k (change k (p.contents k n)))
    → (k : Kind) (n : ℕ) → IsKept w k ((with_contents p hits change).contents k n)
kept-with w p hits change kept changed k n =
    let split : (b : Bool) → hits k n ≡ b → IsKept w k (cond b (change k (p.contents k n)) (p.contents k n)) = elim [
      | true ↦ λ e. changed k n e
      | false ↦ λ e. kept k n
    ] in split (hits k n) refl

missed : (w : World) (p : Machine) (hits : Kind → ℕ → Bool) (change : (k : Kind) → Contents k → Contents k) (i : ℕ) (k : Kind)
    → (hits k (slot_of w p i k) ≡ true → ⊥) → SlotStays w p (with_contents p hits change) i k
missed w p hits change i k away = record {
  seat = record { holds = refl; out = refl };
  contents = let x : Contents k = p.contents k (slot_of w p i k) in let split : (b : Bool) → hits k (slot_of w p i k) ≡ b → cond b (change k x) x ≡ x = elim [
    | true ↦ λ e. absurd (away e)
    | false ↦ λ e. refl
  ] in split (hits k (slot_of w p i k)) refl;
}

pub held-is : (p : Machine) (k : Kind) (s : ℕ) (o : HasOut p k s) → held_by p k s ≡ o.number
held-is p k s o = ap (λ (h : Option ℕ). unwrap_or h 0) o.holds

-- two seats that hold one slot are one
one-seat : (p : Machine) (k : Kind) (s t : ℕ) → Lawful (p.core k) → HasOut p k s → HasOut p k t → held_by p k s ≡ held_by p k t → s ≡ t
one-seat p k s t law a b e = one_holder (p.core k) s t a.number law a.holds (b.holds ∙ ap (λ (n : ℕ). Some n) (sym (held-is p k t b) ∙ sym e ∙ held-is p k s a))

-- a change of what a free seat has out
seat-good : (w : World) (p : Machine) (f : FreshMachine) (k : Kind) (s : ℕ) (change : (k : Kind) → Contents k → Contents k) → Good w p f → HasOut p k s → IsFree w p k s
    → ((j : Kind) (n : ℕ) → IsKept w j (change j (p.contents j n))) → Good w (with_contents p (is_slot_of_seat p k s) change) f
seat-good w p f k s change g out free keeps = let q : Machine = with_contents p (is_slot_of_seat p k s) change in record {
  lawful = g.lawful;
  kept = kept-with w p (is_slot_of_seat p k s) change g.kept (λ j n e. keeps j n);
  calls = λ i. call-stays w p q i (p.calls i) (f i) (λ r c is sound j need. missed w p (is_slot_of_seat p k s) change i j (λ hit.
      let both = and_parts (same_kind k j) (slot_of w p i j == held_by p k s) hit in
      let same : k ≡ j = same_kind-is k j both.0 in
      let theirs : HasOut p k (w.seats k i) = subst (λ (l : Kind). HasOut p l (w.seats l i)) (sym same) (sound.holds j need) in
      let at_one : slot_of w p i k ≡ held_by p k s = subst (λ (l : Kind). slot_of w p i l ≡ held_by p k s) (sym same) (eqb-true (slot_of w p i j) (held_by p k s) both.1) in
      no_call (p.calls i) r is (free i (one-seat p k (w.seats k i) s (g.lawful k) theirs out at_one)))) (g.calls i);
}

-- a change of a caller's slots leaves those of the others
other-good : (w : World) (p : Machine) (f : FreshMachine) (i : ℕ) (m : ModuleTree) (change : (k : Kind) → Contents k → Contents k) → Good w p f
    → ((k : Kind) → needs k m ≡ true → HasOut p k (w.seats k i)) → (j : ℕ) → j ≢ i → GoodCall w (with_contents p (is_slot_of_call w p i m) change) j (p.calls j) (f j)
other-good w p f i m change g outs j other = let hits : Kind → ℕ → Bool = is_slot_of_call w p i m in
    call-stays w p (with_contents p hits change) j (p.calls j) (f j) (λ r c is sound k need. missed w p hits change j k (λ hit.
    let both = and_parts (needs k m) (slot_of w p j k == slot_of w p i k) hit in
    other (w.apart k j i (one-seat p k (w.seats k j) (w.seats k i) (g.lawful k) (sound.holds k need) (outs k both.0) (eqb-true (slot_of w p j k) (slot_of w p i k) both.1))))) (g.calls j)

-- and makes of its own what it is to
pub own-slots : (w : World) (p : Machine) (i : ℕ) (m : ModuleTree) (change : (k : Kind) → Contents k → Contents k) (k : Kind) → needs k m ≡ true
    → caller_contents w (with_contents p (is_slot_of_call w p i m) change) i k ≡ change k (caller_contents w p i k)
own-slots w p i m change k need = let n : ℕ = slot_of w p i k in let x : Contents k = p.contents k n in
    ap (λ (b : Bool). cond (b && n == n) (change k x) x) need ∙ ap (λ (b : Bool). cond b (change k x) x) (eq-eqb n n refl)

-- ---- a call begins

fresh-at_zero : (w : World) (q : Request) → fresh_store_after w.limits q 0 ≡ fresh_store q.named.tree
fresh-at_zero w q = refl

-- after a turn it is the store of what the call comes to on so much fuel
pub fresh-later : (w : World) (q : Request) (turns : ℕ) → fresh_store_after w.limits q (turns + 1) ≡ fresh_store_on w.limits q (turns + 1)
fresh-later w q turns = ap (λ (b : Bool). cond b (fresh_store q.named.tree) (fresh_store_on w.limits q (turns + 1))) (later turns) where
  later : (t : ℕ) → ((t + 1) == 0) ≡ false
  later t = grind (arith, nat_tests)

begin-good : (w : World) (p : Machine) (f : FreshMachine) (i : ℕ) (q : Request) → Good w p f → ((k : Kind) → needs k q.named.tree ≡ true → HasOut p k (w.seats k i)) → IsModule w q.named
    → Good w (begun w p i q) (with_fresh_call f i (Some (record { request = q; store = fresh_store q.named.tree; turns = 0 })))
begin-good w p f i q g outs is =
    let tree : ModuleTree = q.named.tree in
    let change : (k : Kind) → Contents k → Contents k = prepared w.limits.pages q.named in
    let hits : Kind → ℕ → Bool = is_slot_of_call w p i tree in
    let ready : Machine = with_contents p hits change in
    let own = own-slots w p i tree change in
    let store : shown_store tree (caller_contents w ready i) ≡ fresh_store tree =
    shown-same tree (caller_contents w ready i) (λ k. change k (caller_contents w p i k)) own ∙ shows-fresh w q.named (caller_contents w p i) is (λ k. g.kept k (slot_of w p i k)) in
    let r : Running = record { request = q; begun = shown_store tree (caller_contents w ready i); turns = 0 } in
    let here : IsSound w ready i r (record { request = q; store = fresh_store tree; turns = 0 }) = record {
      is_module = is;
      request = refl;
      turns = refl;
      begun_is = store;
      fresh = refl;
      holds = λ k need. let o = outs k need in record { number = o.number; holds = o.holds; out = o.out };
      store = store;
      past = λ need. subst IsZeroPast (sym (own Memory need)) (prepared-past w q.named (caller_contents w p i Memory) is (g.kept Memory (slot_of w p i Memory)));
      owner = λ need. ap (λ (x : Contents Table). x.holds) (own Table need);
    } in record {
      lawful = g.lawful;
      kept = kept-with w p hits change g.kept (λ k n e. prepared-kept w q.named is k (p.contents k n) (g.kept k n));
      calls = calls-with w (begun w p i q) i (Some r) (Some (record { request = q; store = fresh_store tree; turns = 0 })) p.calls f
          (call-set w ready i (Some r) i (Some r) (Some (record { request = q; store = fresh_store tree; turns = 0 })) here)
          (λ j other. call-set w ready i (Some r) j (p.calls j) (f j) (other-good w p f i tree change g outs j other));
    }

-- ---- a turn

pub next-is : (w : World) (r : Running) → r.begun ≡ fresh_store r.request.named.tree → (fuel : ℕ) → store_after w r fuel ≡ fresh_store_on w.limits r.request fuel
next-is w r e turns = let q : Request = r.request in ap (λ (s : Store). store_or s (result_from q.named.tree (terms_of w.limits q.sent) q.function q.arguments s turns)) e

pub instance-at : (w : World) (q : Request) → IsModule w q.named → (turns : ℕ) → IsInstance q.named.tree w.limits.pages (fresh_store q.named.tree).table (fresh_store_on w.limits q turns)
instance-at w q is turns = let m : ModuleTree = q.named.tree in let fresh : Store = fresh_store m in let f = fits w q.named is in
    let first : IsInstance m w.limits.pages fresh.table fresh = fresh-instance m f.misfit w.limits.pages f.size in
    let split : (o : Option CallResult) → result_from m (terms_of w.limits q.sent) q.function q.arguments fresh turns ≡ o → IsInstance m w.limits.pages fresh.table (store_or fresh o) = elim [
      | None ↦ λ e. first
      | Some r ↦ λ e. result-keeps m (terms_of w.limits q.sent) (IsInstance m w.limits.pages fresh.table) (instance-kept m (terms_of w.limits q.sent) fresh.table) q.function q.arguments fresh turns r first e
    ] in split (result_from m (terms_of w.limits q.sent) q.function q.arguments fresh turns) refl

turn-good : (w : World) (p : Machine) (f : FreshMachine) (i : ℕ) (marks : List Bool) (r : Running) (c : FreshCall) → Good w p f → IsSound w p i r c → MarksStore w p i r (store_after w r (r.turns + 1)) marks
    → Good w (after_turn w p i marks (Some r)) (with_fresh_call f i (fresh_turn w.limits (Some c)))
turn-good w p f i marks r c g s marked =
    let q : Request = r.request in
    let m : Named = q.named in
    let pages : ℕ = w.limits.pages in
    let next : Store = store_after w r (r.turns + 1) in
    let next_is : next ≡ fresh_store_on w.limits q (r.turns + 1) = next-is w r s.begun_is (r.turns + 1) in
    let instance : IsInstance m.tree pages (fresh_store m.tree).table next = subst (IsInstance m.tree pages (fresh_store m.tree).table) (sym next_is) (instance-at w q s.is_module (r.turns + 1)) in
    let change : (k : Kind) → Contents k → Contents k = turned pages next marks in
    let hits : Kind → ℕ → Bool = is_slot_of_call w p i m.tree in
    let ready : Machine = with_contents p hits change in
    let own = own-slots w p i m.tree change in
    let f' = fits w m s.is_module in
    let r' : Running = record r { turns = r.turns + 1 } in
    let c' : FreshCall = record c { store = fresh_store_on w.limits c.request (c.turns + 1); turns = c.turns + 1 } in
    let here : IsSound w ready i r' c' = record {
      is_module = s.is_module;
      request = s.request;
      turns = ap (λ (n : ℕ). n + 1) s.turns;
      begun_is = s.begun_is;
      fresh = (λ k. fresh_store_on w.limits (s.request k) (s.turns k + 1)) ∙ sym (fresh-later w q r.turns);
      holds = λ k need. let o = s.holds k need in record { number = o.number; holds = o.holds; out = o.out };
      store = shown-same m.tree (caller_contents w ready i) (λ k. change k (caller_contents w p i k)) own ∙ shows-store w m.tree next marks (caller_contents w p i) f'.misfit instance ∙ ap in_slots (next_is ∙ sym (fresh-later w q r.turns));
      past = λ need. subst IsZeroPast (sym (own Memory need)) (turned-past pages next marks (caller_contents w p i Memory) instance.size instance.whole);
      owner = λ need. ap (λ (x : Contents Table). x.holds) (own Table need) ∙ s.owner need;
    } in record {
      lawful = g.lawful;
      kept = kept-with w p hits change g.kept (λ k n hit.
          let both = and_parts (needs k m.tree) (n == slot_of w p i k) hit in
          subst (λ (n : ℕ). IsKept w k (change k (p.contents k n))) (sym (eqb-true n (slot_of w p i k) both.1))
          (turned-kept w m next marks (caller_contents w p i) instance marked s.owner k both.0 (g.kept k (slot_of w p i k))));
      calls = calls-with w (with_call ready i (Some r')) i (Some r') (Some c') p.calls f
          (call-set w ready i (Some r') i (Some r') (Some c') here)
          (λ j other. call-set w ready i (Some r') j (p.calls j) (f j) (other-good w p f i m.tree change g s.holds j other));
    }

-- ---- an end

end-good : (w : World) (p : Machine) (f : FreshMachine) (i : ℕ) (marks : List Bool) (r : Running) (c : FreshCall) → Good w p f → IsSound w p i r c → MarksStore w p i r (last_store w r) marks
    → Good w (after_end w p i marks (Some r)) (with_fresh_call f i None)
end-good w p f i marks r c g s marked =
    let q : Request = r.request in
    let m : Named = q.named in
    let last : Store = last_store w r in
    let instance : IsInstance m.tree w.limits.pages (fresh_store m.tree).table last = subst (IsInstance m.tree w.limits.pages (fresh_store m.tree).table) (sym (next-is w r s.begun_is q.fuel)) (instance-at w q s.is_module q.fuel) in
    let change : (k : Kind) → Contents k → Contents k = turned w.limits.pages last marks in
    let hits : Kind → ℕ → Bool = is_slot_of_call w p i m.tree in
    let ready : Machine = with_contents p hits change in record {
      lawful = g.lawful;
      kept = kept-with w p hits change g.kept (λ k n hit.
          let both = and_parts (needs k m.tree) (n == slot_of w p i k) hit in
          subst (λ (n : ℕ). IsKept w k (change k (p.contents k n))) (sym (eqb-true n (slot_of w p i k) both.1))
          (turned-kept w m last marks (caller_contents w p i) instance marked s.owner k both.0 (g.kept k (slot_of w p i k))));
      calls = calls-with w (with_call ready i None) i None None p.calls f tt
          (λ j other. call-set w ready i None j (p.calls j) (f j) (other-good w p f i m.tree change g s.holds j other));
    }

-- ---- each event

pub after-good : (w : World) (p : Machine) (f : FreshMachine) (e : WorldEvent) → Good w p f → MayHappen w p e → Good w (after w p e) (fresh_after w.limits f e)
after-good w p f (Step k e) g may = core-good w p f k e g may.0 may.1
after-good w p f (Prepare k s m) g may = seat-good w p f k s (prepared w.limits.pages m) g may.0 may.1 (λ j n. prepared-kept w m may.2 j (p.contents j n) (g.kept j n))
after-good w p f (Restore k s) g may = seat-good w p f k s (restored w.limits.pages) g may.0 may.1 (λ j n. restored-kept w j (p.contents j n) (g.kept j n))
after-good w p f (Clear k s x) g may = seat-good w p f k s (replaced k x) g may.0 may.1 (λ j n. replaced-kept w k x may.2 j (p.contents j n) (g.kept j n))
after-good w p f (Begin i q) g may = begin-good w p f i q g may.1 may.2
after-good w p f (Turn i marks) g may = let r : Running = may.0 in let x = found w p i (p.calls i) (f i) r (g.calls i) may.1 in
    subst (λ (a : Option Running). Good w (after_turn w p i marks a) (with_fresh_call f i (fresh_turn w.limits (f i)))) (sym may.1)
    (subst (λ (b : Option FreshCall). Good w (after_turn w p i marks (Some r)) (with_fresh_call f i (fresh_turn w.limits b))) (sym x.1)
    (turn-good w p f i marks r x.0 g x.2 may.3))
after-good w p f (End i marks) g may = let r : Running = may.0 in let x = found w p i (p.calls i) (f i) r (g.calls i) may.1 in
    subst (λ (a : Option Running). Good w (after_end w p i marks a) (with_fresh_call f i None)) (sym may.1) (end-good w p f i marks r x.0 g x.2 may.3)
after-good w p f (Cancel i) g may = record {
  lawful = g.lawful;
  kept = g.kept;
  calls = calls-with w (with_call p i None) i None None p.calls f tt (λ j other. call-set w p i None j (p.calls j) (f j) (g.calls j));
}
