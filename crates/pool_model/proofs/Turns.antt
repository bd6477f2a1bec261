-- What a host does for a call is turns of it.
use Rattle.std.proofs.Common.{◌≡◌, ℕ, zero, suc, ◌+◌, ◌-◌, ◌<◌, ◌≤◌, Bool, true, false, cond, List, length, refl, sym, ap, ◌∙◌, subst, arith, true≢false, ◌⊎◌, inl, inr, eq-eqb}
use Rattle.std.specs.Prelude.{Option, Some, None, is_some, replicate, slice_index}
use Rattle.std.proofs.lemmas.Bool.{cases_lt}
use Rattle.wasm_values.specs.declared.outcome.Outcome.{Outcome}
use Rattle.wasm_values.specs.declared.outcome.Outcome.TheVariants as outcome
use Rattle.wasm_spec.specs.Store.{Store}
use Rattle.wasm_spec.specs.Result.{CallResult, answer_of}
use Rattle.wasm_spec.specs.MoreFuel.{is_fuel, is_fuel_end, with_more}
use Rattle.wasm_spec.proofs.MoreFuel.{result-more, with_more-end}
use Rattle.memory_blocks.specs.Blocks.{KeepsUnmarked, is_marked}
use Rattle.pool_model.specs.Contents.{MemoryContents, Contents, needs, filled, turned}
use Rattle.pool_model.specs.declared.kinds.Kind.{Kind}
use Rattle.pool_model.specs.declared.kinds.Kind.TheVariants.{Memory}
use Rattle.pool_model.specs.PoolMachine.{World, Request, Running, Machine, Turn, End, caller_contents, result, answer, store_or, store_after, last_store, after_end, told, IsFuelEnd, CanTurn, after_turn, after, after_all, AllMayHappen, MayHappen, terms_of}
use Rattle.pool_model.specs.FreshMachine.{FreshCall, FreshMachine}
use Rattle.pool_model.specs.Runs.{AreItsTurns}
use Rattle.pool_model.specs.Worlds.{Calls, PreparingTwiceIsOnce}
use Rattle.pool_model.proofs.Parts.{turned-twice, prepared-twice}
use Rattle.pool_model.proofs.Steps.{IsSound, Good, found, own-slots, next-is, instance-at}
use Rattle.pool_model.proofs.Shadows.{good-at}

abbrev outcome_or : Outcome → Option CallResult → Outcome
outcome_or other None = other
outcome_or other (Some r) = r.outcome

abbrev fuel_or : ℕ → Option CallResult → ℕ
fuel_or other None = other
fuel_or other (Some r) = r.fuel

-- ---- how many turns

pub out_of_fuel : (o : Option CallResult) → is_fuel_end o ≡ true → IsFuelEnd o
out_of_fuel None h = absurd (true≢false (sym h))
out_of_fuel (Some r) h = ap (λ (o : Outcome). Some o) (fuel_is r.outcome h) where
  fuel_is : (o : Outcome) → is_fuel o ≡ true → o ≡ outcome.Fuel
  fuel_is outcome.Fuel h = refl
  fuel_is (outcome.Done v) h = absurd (true≢false (sym h))
  fuel_is (outcome.Trap t) h = absurd (true≢false (sym h))

fuel_of : Option Outcome → Bool
fuel_of None = false
fuel_of (Some o) = is_fuel o

pub is_end : (o : Option CallResult) → IsFuelEnd o → is_fuel_end o ≡ true
unfolding fuel_of
is_end None h = absurd (cc)
is_end (Some r) h = ap fuel_of h

pub some_of : (o : Option CallResult) → is_some o ≡ true → (x : CallResult) × (o ≡ Some x)
some_of None h = absurd (true≢false (sym h))
some_of (Some x) h = (x, refl)

some_end : (o : Option CallResult) → is_fuel_end o ≡ true → is_some o ≡ true
some_end None h = h
some_end (Some r) h = refl

-- it ends for want of fuel at each number below count, and there it does not, or count is the bound
pub record Lasts (w : World) (r : Running) (bound : ℕ) : Type 0 where
  pub count : ℕ
  pub within : count ≤ bound
  pub before : (j : ℕ) → j < count → is_fuel_end (result w r j) ≡ true
  pub ends : (count ≡ bound) ⊎ (is_fuel_end (result w r count) ≡ false)

pub lasts : (w : World) (r : Running) (bound : ℕ) → Lasts w r bound
lasts w r zero = record { count = 0; within = omega arith; before = λ j lt. absurd (omega arith); ends = inl refl }
lasts w r (suc bound) = let l = lasts w r bound in
    let longer : (b : Bool) → is_fuel_end (result w r bound) ≡ b → l.count ≡ bound → Lasts w r (suc bound) = elim [
      | true ↦ λ e is. record {
        count = suc bound;
        within = omega arith;
        ends = inl refl;
        before = λ j lt. elim (split j bound lt) [
          | inl below ↦ l.before j (omega arith)
          | inr same ↦ ap (λ (n : ℕ). is_fuel_end (result w r n)) same ∙ e
        ];
      }
      | false ↦ λ e is. record { count = bound; within = omega arith; ends = inr e; before = λ j lt. l.before j (omega arith) }
    ] in elim l.ends [
      | inl is ↦ longer (is_fuel_end (result w r bound)) refl is
      | inr e ↦ record { count = l.count; within = (let le = l.within in omega arith); before = l.before; ends = inr e }
    ] where
      split : (j n : ℕ) → j < suc n → (j < n) ⊎ (j ≡ n)
      split j n lt = grind arith

-- the call after so many turns
abbrev pub at_turn : Running → ℕ → Running
at_turn r t = record r { turns = t }

with_more-some : (d : ℕ) (o : Option CallResult) → is_some (with_more d o) ≡ true → is_some o ≡ true
with_more-some d None h = h
with_more-some d (Some r) h = refl

-- turns up to this one, of which the last may be its end
module _ (w : World) (r : Running) (to : ℕ) (within : to ≤ r.request.fuel) (given : is_some (result w r to) ≡ true) (l : Lasts w r to) where
  -- it comes to the same there as at the bound
  at_bound : (l.count ≡ to) ⊎ (result w r to ≡ with_more (to - l.count) (result w r l.count))
  at_bound = let q : Request = r.request in elim l.ends [
    | inl is ↦ inl is
    | inr e ↦ inr (let le = l.within in let sum : to ≡ l.count + (to - l.count) = omega arith in
        ap (result w r) sum ∙ result-more (to - l.count) q.named.tree (terms_of w.limits q.sent) q.function q.arguments r.begun l.count e)
  ]

  all-given : (j : ℕ) → j ≤ l.count → is_some (result w r j) ≡ true
  all-given j le = elim (split j l.count le) [
    | inl below ↦ some_end (result w r j) (l.before j below)
    | inr same ↦ elim at_bound [
      | inl is ↦ ap (λ (n : ℕ). is_some (result w r n)) (same ∙ is) ∙ given
      | inr e ↦ ap (λ (n : ℕ). is_some (result w r n)) same ∙ with_more-some (to - l.count) (result w r l.count) (ap (λ (o : Option CallResult). is_some o) (sym e) ∙ given)
    ]
  ] where
    split : (j n : ℕ) → j ≤ n → (j < n) ⊎ (j ≡ n)
    split j n le = grind arith

  can-turn : (t : ℕ) → t < l.count → CanTurn w (at_turn r t)
  can-turn t lt = record {
    fuel = let le = l.within in omega arith;
    unfinished = out_of_fuel (result w r t) (l.before t lt);
  }

  -- where it can make none at the bound, it can make none at the last
  cannot-turn : (CanTurn w (at_turn r to) → ⊥) → (t : ℕ) → t ≡ l.count → CanTurn w (at_turn r t) → ⊥
  cannot-turn over t is can = elim l.ends [
    | inl all ↦ over (subst (λ (n : ℕ). CanTurn w (at_turn r n)) (is ∙ all) can)
    | inr e ↦ true≢false (sym (is_end (result w r t) can.unfinished) ∙ ap (λ (n : ℕ). is_fuel_end (result w r n)) is ∙ e)
  ]

  -- a call that waits at some turn waits at each before
  pub waits-before : (t : ℕ) → is_fuel_end (result w r t) ≡ true → t ≤ to → t ≤ l.count
  waits-before t e le = elim l.ends [
    | inl is ↦ omega (arith, is)
    | inr over ↦ elim (split t l.count) [
      | inl early ↦ early
      | inr late ↦ let q : Request = r.request in let sum : l.count + (t - l.count) ≡ t = omega arith in
          absurd (true≢false (sym e ∙ ap (λ (n : ℕ). is_fuel_end (result w r n)) (sym sum)
          ∙ ap is_fuel_end (result-more (t - l.count) q.named.tree (terms_of w.limits q.sent) q.function q.arguments r.begun l.count over) ∙ with_more-end (t - l.count) (result w r l.count) ∙ over))
    ]
  ] where
    split : (j n : ℕ) → (j ≤ n) ⊎ (n < j)
    split j n = grind arith

-- A call that can make no turn more has come to its end.
module _ (w : World) (c : Running) (to : ℕ) (within : to ≤ c.request.fuel) (over : CanTurn w (at_turn c to) → ⊥) where
  at_all : is_fuel_end (result w c to) ≡ true → c.request.fuel ≡ to
  at_all e = elim (cases_lt to c.request.fuel) [
    | inl lt ↦ absurd (over (record { fuel = lt; unfinished = out_of_fuel (result w c to) e }))
    | inr le ↦ omega arith
  ]

  pub over-as : {A : Type 0} (f : Option CallResult → A) → ((d : ℕ) (o : Option CallResult) → f (with_more d o) ≡ f o) → f (result w c c.request.fuel) ≡ f (result w c to)
  over-as f more = let q : Request = c.request in
      let split : (b : Bool) → is_fuel_end (result w c to) ≡ b → f (result w c q.fuel) ≡ f (result w c to) = elim [
        | true ↦ λ e. ap (λ (n : ℕ). f (result w c n)) (at_all e)
        | false ↦ λ e. let sum : q.fuel ≡ to + (q.fuel - to) = omega arith in
            ap (λ (n : ℕ). f (result w c n)) sum
            ∙ ap f (result-more (q.fuel - to) q.named.tree (terms_of w.limits q.sent) q.function q.arguments c.begun to e) ∙ more (q.fuel - to) (result w c to)
      ] in split (is_fuel_end (result w c to)) refl

with_more-store : (s : Store) (d : ℕ) (o : Option CallResult) → store_or s (with_more d o) ≡ store_or s o
with_more-store s d None = refl
with_more-store s d (Some r) = refl

with_more-told : (d : ℕ) (o : Option CallResult) → told (with_more d o) ≡ told o
with_more-told d None = refl
with_more-told d (Some r) = refl

-- ---- one turn after another

module _ (w : World) (i : ℕ) (r : Running) (marks : List Bool) (base : (k : Kind) → Contents k) where
  -- the machine after t turns, of which one or more are from these contents
  pub record At (p : Machine) (t : ℕ) : Type 0 where
    pub calls : p.calls i ≡ Some (at_turn r t)
    pub contents : (k : Kind) → needs k r.request.named.tree ≡ true → caller_contents w p i k ≡ turned w.limits.pages (store_after w r t) marks k (base k)

  after-is : (p : Machine) (t : ℕ) → p.calls i ≡ Some (at_turn r t) → after_turn w p i marks (Some (at_turn r t)) ≡ after w p (Turn i marks)
  after-is p t e = ap (after_turn w p i marks) (sym e)

  turned-at : (p : Machine) (t : ℕ) → p.calls i ≡ Some (at_turn r t)
      → ((k : Kind) → needs k r.request.named.tree ≡ true → turned w.limits.pages (store_after w r (t + 1)) marks k (caller_contents w p i k) ≡ turned w.limits.pages (store_after w r (t + 1)) marks k (base k))
      → At (after w p (Turn i marks)) (t + 1)
  turned-at p t e same = subst (λ (q : Machine). At q (t + 1)) (after-is p t e) (record {
    calls = ap (λ (b : Bool). cond b (Some (at_turn r (t + 1))) (p.calls i)) (eq-eqb i i refl);
    contents = λ k need. own-slots w p i r.request.named.tree (turned w.limits.pages (store_after w r (t + 1)) marks) k need ∙ same k need;
  })

pub record Turns (w : World) (p : Machine) (i : ℕ) (r : Running) (marks : List Bool) (base : (k : Kind) → Contents k) (n t : ℕ) : Type 0 where
  pub happen : AllMayHappen w p (replicate n (Turn i marks))
  pub at : At w i r marks base (after_all w p (replicate n (Turn i marks))) t

module _ (w : World) (i : ℕ) (r : Running) (marks : List Bool) (base : (k : Kind) → Contents k) (from to : ℕ) (within : to ≤ r.request.fuel) (given : is_some (result w r to) ≡ true) (l : Lasts w r to)
    (globals : (s t : ℕ) → length (store_after w r s).globals ≡ length (store_after w r t).globals)
    (each : needs Memory r.request.named.tree ≡ true → (t : ℕ) (x : CallResult) → from ≤ t → t ≤ to → result w r t ≡ Some x → KeepsUnmarked (base Memory).bytes (filled w.limits.pages x.store.memory) (base Memory).marks marks) where
  marked : needs Memory r.request.named.tree ≡ true → (t : ℕ) → from ≤ t → t ≤ l.count → KeepsUnmarked (base Memory).bytes (filled w.limits.pages (store_after w r t).memory) (base Memory).marks marks
  marked need t late le = let o = some_of (result w r t) (all-given w r to within given l t le) in let bound = l.within in
      subst (λ (s : Store). KeepsUnmarked (base Memory).bytes (filled w.limits.pages s.memory) (base Memory).marks marks) (sym (ap (store_or r.begun) o.1)) (each need t o.0 late (omega arith) o.1)

  one-turn : (p : Machine) (t : ℕ) → At w i r marks base p t → from ≤ t → t < l.count → MayHappen w p (Turn i marks) × At w i r marks base (after w p (Turn i marks)) (t + 1)
  one-turn p t at late lt = (
    (
      at_turn r t,
      at.calls,
      can-turn w r to within given l t lt,
      λ need. let le = l.within in
          let x : MemoryContents = caller_contents w p i Memory in
          let is : x ≡ turned w.limits.pages (store_after w r t) marks Memory (base Memory) = at.contents Memory need in
          let now = marked need t late (omega arith) in let next = marked need (t + 1) (omega arith) (omega arith) in record {
            bytes = λ j h. next.bytes j h ∙ sym (now.bytes j h) ∙ ap (λ (y : MemoryContents). slice_index y.bytes j) (sym is);
            marks = λ j h. ap (λ (y : MemoryContents). is_marked y.marks j) is ∙ h;
          },
    ),
    turned-at w i r marks base p t at.calls (λ k need. ap (turned w.limits.pages (store_after w r (t + 1)) marks k) (at.contents k need)
        ∙ turned-twice w.limits.pages (store_after w r t) (store_after w r (t + 1)) marks marks k (base k) (globals t (t + 1))),
  )

  more-turns : (n t : ℕ) (p : Machine) → At w i r marks base p t → from ≤ t → t + n ≤ l.count → Turns w p i r marks base n (t + n)
  more-turns zero t p at late le = record { happen = tt; at = subst (At w i r marks base p) (omega arith) at }
  more-turns (suc n) t p at late le = let one = one-turn p t at late (omega arith) in
      let rest = more-turns n (t + 1) (after w p (Turn i marks)) one.1 (omega arith) (omega arith) in
      let sum : t + 1 + n ≡ t + suc n = omega arith in
      record { happen = (one.0, rest.happen); at = subst (At w i r marks base (after_all w p (replicate (suc n) (Turn i marks)))) sum rest.at }

  -- the first turn is from the contents that the host began with
  first-turn : (p : Machine) → p.calls i ≡ Some (at_turn r from) → ((k : Kind) → caller_contents w p i k ≡ base k) → from < l.count → MayHappen w p (Turn i marks) × At w i r marks base (after w p (Turn i marks)) (from + 1)
  first-turn p e begins lt = (
    (
      at_turn r from,
      e,
      can-turn w r to within given l from lt,
      λ need. let le = l.within in
          let is : caller_contents w p i Memory ≡ base Memory = begins Memory in
          let first = marked need (from + 1) (omega arith) (omega arith) in record {
            bytes = λ j h. first.bytes j h ∙ ap (λ (y : MemoryContents). slice_index y.bytes j) (sym is);
            marks = λ j h. ap (λ (y : MemoryContents). is_marked y.marks j) is ∙ first.marks j h;
          },
    ),
    turned-at w i r marks base p from e (λ k need. ap (turned w.limits.pages (store_after w r (from + 1)) marks k) (begins k)),
  )

  -- one turn or more
  pub some-turns : (n : ℕ) (p : Machine) → p.calls i ≡ Some (at_turn r from) → ((k : Kind) → caller_contents w p i k ≡ base k) → from + suc n ≤ l.count → Turns w p i r marks base (suc n) (from + suc n)
  some-turns n p e begins le =
      let first = first-turn p e begins (omega arith) in
      let rest = more-turns n (from + 1) (after w p (Turn i marks)) first.1 (omega arith) (omega arith) in
      let sum : from + 1 + n ≡ from + suc n = omega arith in
      record { happen = (first.0, rest.happen); at = subst (At w i r marks base (after_all w p (replicate (suc n) (Turn i marks)))) sum rest.at }

-- ---- turns up to the end

-- a reached machine's call that runs
pub record Begun (w : World) (p : Machine) (i : ℕ) (r : Running) : Type 0 where
  pub f : FreshMachine
  pub good : Good w p f
  pub fresh : FreshCall
  pub sound : IsSound w p i r fresh

pub begun-at : (w : World) (p : Machine) (i : ℕ) (r : Running) → Calls w p i r → Begun w p i r
begun-at w p i r calls = let g = good-at w p calls.reached in let x = found w p i (p.calls i) (g.0 i) r (g.1.calls i) calls.calls in
    record { f = g.0; good = g.1; fresh = x.0; sound = x.2 }

pub globals-are : (w : World) (p : Machine) (i : ℕ) (r : Running) (c : FreshCall) → IsSound w p i r c → (t : ℕ) → length (store_after w r t).globals ≡ length r.request.named.tree.globals
globals-are w p i r c s t = ap (λ (x : Store). length x.globals) (next-is w r s.begun_is t) ∙ (instance-at w r.request s.is_module t).globals_are

-- where the call ends after so many turns, its slots become those of the store that it ends with
end-slots : (w : World) (p : Machine) (i : ℕ) (r : Running) (marks : List Bool) (k : Kind) → p.calls i ≡ Some r → needs k r.request.named.tree ≡ true
    → caller_contents w (after w p (End i marks)) i k ≡ turned w.limits.pages (last_store w r) marks k (caller_contents w p i k)
end-slots w p i r marks k e need = ap (λ (a : Option Running). caller_contents w (after_end w p i marks a) i k) e ∙ own-slots w p i r.request.named.tree (turned w.limits.pages (last_store w r) marks) k need

-- what comes of a call from here to where it can make no turn more
module _ (w : World) (p : Machine) (i : ℕ) (c : Running) (to : ℕ) (new : (k : Kind) → Contents k) (marks : List Bool) (r : CallResult) (b : Begun w p i c) (e : p.calls i ≡ Some c)
    (within : to ≤ c.request.fuel) (over : CanTurn w (at_turn c to) → ⊥) (gives : result w c to ≡ Some r)
    (left : (k : Kind) → needs k c.request.named.tree ≡ true → new k ≡ turned w.limits.pages r.store marks k (caller_contents w p i k))
    (each : needs Memory c.request.named.tree ≡ true → (t : ℕ) (x : CallResult) → c.turns ≤ t → t ≤ to → result w c t ≡ Some x → KeepsUnmarked (caller_contents w p i Memory).bytes (filled w.limits.pages x.store.memory) (caller_contents w p i Memory).marks marks) where
  given : is_some (result w c to) ≡ true
  given = ap is_some gives

  last : last_store w c ≡ r.store
  last = over-as w c to within over (store_or c.begun) (with_more-store c.begun) ∙ ap (store_or c.begun) gives

  pub ends-with : answer w c ≡ Some (r.outcome, answer_of r)
  ends-with = over-as w c to within over told with_more-told ∙ ap told gives

  ends-by : (l : Lasts w c to) (n : ℕ) → c.turns + n ≡ l.count → AreItsTurns w p i c new marks
  ends-by l zero is =
      let le = l.within in
      let stuck : CanTurn w c → ⊥ = cannot-turn w c to within given l over c.turns (omega (arith, is)) in record {
        count = 0;
        happen = tt;
        ends = (c, e, stuck, λ need. subst (λ (s : Store). KeepsUnmarked (caller_contents w p i Memory).bytes (filled w.limits.pages s.memory) (caller_contents w p i Memory).marks marks) (sym last) (each need to r (omega (arith, is)) (omega arith) gives));
        contents = λ k need. end-slots w p i c marks k e need ∙ ap (λ (s : Store). turned w.limits.pages s marks k (caller_contents w p i k)) last ∙ sym (left k need);
      }
  ends-by l (suc n) is = let s = b.sound in
      let le = l.within in
      let globals : (a d : ℕ) → length (store_after w c a).globals ≡ length (store_after w c d).globals = λ a d. globals-are w p i c b.fresh s a ∙ sym (globals-are w p i c b.fresh s d) in
      let t : ℕ = c.turns + suc n in
      let made = some-turns w i c marks (caller_contents w p i) c.turns to within given l globals each n p e (λ k. refl) (omega (arith, is)) in
      let q : Machine = after_all w p (replicate (suc n) (Turn i marks)) in
      let before : Store = store_after w c t in record {
        count = suc n;
        happen = made.happen;
        ends = (
          at_turn c t,
          made.at.calls,
          cannot-turn w c to within given l over t is,
          λ need.
              let base : MemoryContents = caller_contents w p i Memory in
              let there : caller_contents w q i Memory ≡ turned w.limits.pages before marks Memory base = made.at.contents Memory need in
              let now = marked w i c marks (caller_contents w p i) c.turns to within given l globals each need t (omega arith) (omega (arith, is)) in
              let end : KeepsUnmarked base.bytes (filled w.limits.pages (last_store w c).memory) base.marks marks =
              subst (λ (x : Store). KeepsUnmarked base.bytes (filled w.limits.pages x.memory) base.marks marks) (sym last) (each need to r (omega (arith, is)) (omega arith) gives) in record {
                bytes = λ j h. end.bytes j h ∙ sym (now.bytes j h) ∙ ap (λ (y : MemoryContents). slice_index y.bytes j) (sym there);
                marks = λ j h. ap (λ (y : MemoryContents). is_marked y.marks j) there ∙ h;
              },
        );
        contents = λ k need. end-slots w q i (at_turn c t) marks k made.at.calls need
            ∙ ap (turned w.limits.pages (last_store w c) marks k) (made.at.contents k need)
            ∙ turned-twice w.limits.pages before (last_store w c) marks marks k (caller_contents w p i k) (globals t c.request.fuel)
            ∙ ap (λ (x : Store). turned w.limits.pages x marks k (caller_contents w p i k)) last ∙ sym (left k need);
      }

  -- it is so many turns, of those that it has, and its end
  pub ends-are : (l : Lasts w c to) → c.turns ≤ l.count → AreItsTurns w p i c new marks
  ends-are l le = ends-by l (l.count - c.turns) (omega arith)

pub preparing-twice : PreparingTwiceIsOnce
preparing-twice w p m k n e is = prepared-twice w m is k (p.contents k n) ((good-at w p e).1.kept k n)
