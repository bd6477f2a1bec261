-- The laws of whole runs.
use Rattle.wasm_values.specs.declared.outcome.Outcome.{Outcome}
use Rattle.std.proofs.Common.{◌≡◌, ℕ, List, [], ◌∷◌, sym, ap, ◌∙◌, subst, zero, suc, Bool, true, false, cond, ◌++◌, ◌/◌, length}
use Rattle.std.specs.Prelude.{Option, Some, None, slice_get, ◌==◌}
use Rattle.wasm_spec.specs.Store.{Store, fresh_store, page_size}
use Rattle.wasm_spec.specs.Result.{result_from}
use Rattle.pool_core.specs.Lawful.{Lawful}
use Rattle.pool_core.proofs.LawfulOpening.{lawful_opening}
use Rattle.pool_model.specs.Contents.{shown_store, needs}
use Rattle.pool_model.specs.declared.kinds.Kind.TheVariants.{Memory}
use Rattle.pool_model.specs.PoolMachine.{World, InstanceLimits, Request, Running, Machine, WorldEvent, caller_contents, answer, store_or, told, after, after_all, AllMayHappen, IsOpening, terms_of, Step, Prepare, Restore, Clear, Begin, Turn, End, Cancel, slot_of}
use Rattle.pool_model.specs.FreshMachine.{FreshCall, FreshMachine, fresh_store_after, fresh_answer, fresh_after, fresh_after_all, nothing_runs}
use Rattle.pool_model.specs.Worlds.{in_slots, OfBoth, Shadows, AlwaysShadow, IsSameRequest, Reached, Calls, TwoWorldsAgree, answered_by, answered, answers, AnswersAgree}
use Rattle.pool_model.proofs.Parts.{cold-kept, size-shown}
use Rattle.pool_model.proofs.Steps.{GoodCall, Good, found, after-good}

pub opening-good : (w : World) (p : Machine) → IsOpening w p → Good w p nothing_runs
opening-good w p o = record {
  lawful = λ k. subst Lawful (sym (o.core k)) (lawful_opening (o.slots k) (o.limit k) (o.passes k));
  kept = λ k n. cold-kept w k (p.contents k n) (o.cold k n);
  calls = λ i. subst (λ (a : Option Running). GoodCall w p i a None) (sym (o.calls i)) tt;
}

pub all-good : (w : World) (p : Machine) (f : FreshMachine) (es : List WorldEvent) → Good w p f → AllMayHappen w p es → Good w (after_all w p es) (fresh_after_all w.limits f es)
all-good w p f [] g may = g
all-good w p f (e ∷ es) g may = all-good w (after w p e) (fresh_after w.limits f e) es (after-good w p f e g may.0) may.1

pub answer-is : (w : World) (r : Running) → r.begun ≡ fresh_store r.request.named.tree → answer w r ≡ fresh_answer w.limits r.request
answer-is w r e = let q : Request = r.request in ap (λ (s : Store). told (result_from q.named.tree (terms_of w.limits q.sent) q.function q.arguments s q.fuel)) e

sound-shadows : (w : World) (p : Machine) (i : ℕ) (a : Option Running) (b : Option FreshCall) → GoodCall w p i a b → OfBoth (Shadows w p i) a b
sound-shadows w p i None None g = tt
sound-shadows w p i (Some r) (Some c) g = record {
  request = sym g.request;
  turns = sym g.turns;
  store = g.store ∙ ap in_slots (sym g.fresh);
  past = g.past;
  answer = answer-is w r g.begun_is ∙ ap (fresh_answer w.limits) (sym g.request);
}
sound-shadows w p i None (Some c) g = g
sound-shadows w p i (Some r) None g = g

pub always-shadow : AlwaysShadow
always-shadow w p es opens may i = sound-shadows w (after_all w p es) i ((after_all w p es).calls i) (fresh_after_all w.limits nothing_runs es i)
    ((all-good w p nothing_runs es (opening-good w p opens) may).calls i)

-- ---- two worlds

record Seen (w : World) (p : Machine) (i : ℕ) (r : Running) : Type 0 where
  pub store : shown_store r.request.named.tree (caller_contents w p i) ≡ in_slots (fresh_store_after w.limits r.request r.turns)
  pub size : needs Memory r.request.named.tree ≡ true → (caller_contents w p i Memory).pages ≡ length (fresh_store_after w.limits r.request r.turns).memory / page_size
  pub answered : answer w r ≡ fresh_answer w.limits r.request

pub good-at : (w : World) (p : Machine) → Reached w p → (f : FreshMachine) × Good w p f
good-at w p e = (fresh_after_all w.limits nothing_runs e.events, subst (λ (x : Machine). Good w x (fresh_after_all w.limits nothing_runs e.events)) (sym e.leads) (all-good w e.opening nothing_runs e.events (opening-good w e.opening e.opens) e.happen))

seen : (w : World) (p : Machine) (i : ℕ) (r : Running) → Calls w p i r → Seen w p i r
seen w p i r c = let g = good-at w p c.reached in let x = found w p i (p.calls i) (g.0 i) r (g.1.calls i) c.calls in
    record { store = x.2.store; size = λ need. size-shown w r.request.named.tree (caller_contents w p i) (in_slots (fresh_store_after w.limits r.request r.turns)) need (g.1.kept Memory (slot_of w p i Memory)) x.2.store; answered = answer-is w r x.2.begun_is }

same-store : (l k : InstanceLimits) (a b : Request) → l ≡ k → IsSameRequest a b → (m n : ℕ) → m ≡ n → fresh_store_after l a m ≡ fresh_store_after k b n
same-store l k a b e s m n turns = λ i. cond (turns i == 0) (fresh_store (s.tree i)) (store_or (fresh_store (s.tree i)) (result_from (s.tree i) (terms_of (e i) (s.sent i)) (s.function i) (s.arguments i) (fresh_store (s.tree i)) (turns i)))

same-answer : (l k : InstanceLimits) (a b : Request) → l ≡ k → IsSameRequest a b → fresh_answer l a ≡ fresh_answer k b
same-answer l k a b e s = λ i. told (result_from (s.tree i) (terms_of (e i) (s.sent i)) (s.function i) (s.arguments i) (fresh_store (s.tree i)) (s.fuel i))

pub two-worlds : TwoWorldsAgree
two-worlds w v p q i j r c limits here there same = let a = seen w p i r here in let b = seen v q j c there in record {
  stores = λ turns. a.store ∙ ap in_slots (same-store w.limits v.limits r.request c.request limits same r.turns c.turns turns) ∙ sym b.store;
  sizes = λ turns need. a.size need
      ∙ ap (λ (s : Store). length s.memory / page_size) (same-store w.limits v.limits r.request c.request limits same r.turns c.turns turns)
      ∙ sym (b.size (ap (needs Memory) (sym same.tree) ∙ need));
  answers = a.answered ∙ same-answer w.limits v.limits r.request c.request limits same ∙ sym b.answered;
}

-- ---- answers

AllFresh : InstanceLimits → List (Request × Option (Outcome × List ℕ)) → Type 0
AllFresh l [] = Unit {0}
AllFresh l (a ∷ rest) = (a.1 ≡ fresh_answer l a.0) × AllFresh l rest

all-append : (l : InstanceLimits) (xs ys : List (Request × Option (Outcome × List ℕ))) → AllFresh l xs → AllFresh l ys → AllFresh l (xs ++ ys)
unfolding AllFresh
all-append l [] ys h k = k
all-append l (x ∷ xs) ys h k = (h.0, all-append l xs ys h.1 k)

all-at : (l : InstanceLimits) (xs : List (Request × Option (Outcome × List ℕ))) (n : ℕ) (a : Request × Option (Outcome × List ℕ)) → AllFresh l xs → slice_get xs n ≡ Some a → a.1 ≡ fresh_answer l a.0
unfolding AllFresh
all-at l [] n a h e = absurd (cc)
all-at l (x ∷ xs) zero a h e = subst (λ (o : Option (Request × Option (Outcome × List ℕ))). IsFresh o) e h.0 where
  IsFresh : Option (Request × Option (Outcome × List ℕ)) → Type 0
  IsFresh None = Unit {0}
  IsFresh (Some a) = a.1 ≡ fresh_answer l a.0
all-at l (x ∷ xs) (suc n) a h e = all-at l xs n a h.1 e

call-fresh : (w : World) (p : Machine) (i : ℕ) (a : Option Running) (b : Option FreshCall) → GoodCall w p i a b → AllFresh w.limits (answered_by w a)
unfolding AllFresh
call-fresh w p i None b g = tt
call-fresh w p i (Some r) None g = absurd g
call-fresh w p i (Some r) (Some c) g = (answer-is w r g.begun_is, tt)

event-fresh : (w : World) (p : Machine) (f : FreshMachine) (e : WorldEvent) (i : ℕ) → Good w p f → AllFresh w.limits (answered w p e i)
unfolding AllFresh
event-fresh w p f (End j marks) i g = let split : (b : Bool) → AllFresh w.limits (cond b (answered_by w (p.calls j)) []) = elim [
  | true ↦ call-fresh w p j (p.calls j) (f j) (g.calls j)
  | false ↦ tt
] in split (j == i)
event-fresh w p f (Step k e) i g = tt
event-fresh w p f (Prepare k s m) i g = tt
event-fresh w p f (Restore k s) i g = tt
event-fresh w p f (Clear k s x) i g = tt
event-fresh w p f (Begin j q) i g = tt
event-fresh w p f (Turn j marks) i g = tt
event-fresh w p f (Cancel j) i g = tt

answers-fresh : (w : World) (p : Machine) (f : FreshMachine) (es : List WorldEvent) (i : ℕ) → Good w p f → AllMayHappen w p es → AllFresh w.limits (answers w p es i)
unfolding AllFresh
answers-fresh w p f [] i g may = tt
answers-fresh w p f (e ∷ es) i g may = all-append w.limits (answered w p e i) (answers w (after w p e) es i) (event-fresh w p f e i g)
    (answers-fresh w (after w p e) (fresh_after w.limits f e) es i (after-good w p f e g may.0) may.1)

pub answers-agree : AnswersAgree
answers-agree w v p q es ds i j n m a b limits opens may opens' may' at at' same =
    all-at w.limits (answers w p es i) n a (answers-fresh w p nothing_runs es i (opening-good w p opens) may) at
    ∙ same-answer w.limits v.limits a.0 b.0 limits same
    ∙ sym (all-at v.limits (answers v q ds j) m b (answers-fresh v q nothing_runs ds j (opening-good v q opens') may') at')
