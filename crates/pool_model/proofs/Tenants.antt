-- What a tenant sees is decided by its own events, and how much of all tenants' slots is warm.
use Rattle.std.proofs.Common.{◌≡◌, ℕ, suc, ◌+◌, ◌<◌, ◌≤◌, Bool, true, false, cond, List, [], ◌∷◌, ◌++◌, ◌/◌, length, refl, sym, ap, ◌∙◌, subst, arith}
use Rattle.std.specs.Prelude.{Option, Some, None, ◌==◌, slice_index, sum}
use Rattle.std.specs.List.{range_with_len, sum_by}
use Rattle.std.proofs.lemmas.List.Sums.{sum_by-cons}
use Rattle.std.proofs.lemmas.Bool.{eqb-true}
use Rattle.wasm_values.specs.declared.outcome.Outcome.{Outcome}
use Rattle.wasm_spec.specs.Store.{Store, page_size}
use Rattle.pool_core.specs.declared.events.Event.TheVariants.{Load, Claim, Out, Home, Release, Split, Join, Close, WarmLoad, WarmUp, WarmDown, Stamp, AwaitUp, AwaitDown, AwaitLoad}
use Rattle.pool_core.specs.StateWords.{held_word, packed}
use Rattle.pool_core.specs.declared.events.Event.{Event}
use Rattle.pool_core.specs.PoolCore.{PoolCore, seat_at, word_at}
use Rattle.pool_core.specs.EventEffects.{core_after, core_after_claim, winning_seat, with_seat, with_word}
use Rattle.pool_core.specs.Lawful.{Lawful}
use Rattle.pool_model.specs.Contents.{needs}
use Rattle.pool_model.specs.declared.kinds.Kind.{Kind}
use Rattle.pool_model.specs.declared.kinds.Kind.TheVariants.{Memory}
use Rattle.pool_model.specs.PoolMachine.{World, InstanceLimits, Request, Running, Machine, WorldEvent, Step, Prepare, Restore, Clear, Begin, Turn, End, Cancel, caller_contents, slot_of, same_kind, after, after_all, after_turn, after_end, MayHappen, AllMayHappen, IsOpening}
use Rattle.pool_model.specs.FreshMachine.{FreshCall, FreshMachine, fresh_after, fresh_answer, fresh_store_after, nothing_runs}
use Rattle.pool_model.specs.Worlds.{answered, answered_by, answers, in_slots, OfBoth}
use Rattle.pool_model.specs.Tenants.{TenantEvent, Tenants, Pools, pools_after, pools_after_all, AllMayCome, own_events, claim_read, tenant_reads, tenant_answers, IsSameCall, LookSame, OwnEventsDecide, free_warm, WarmSlotsStayWithin}
use Rattle.pool_model.proofs.Parts.{size-shown}
use Rattle.pool_model.proofs.Steps.{Good, GoodCall, IsSound, after-good, same_kind-is}
use Rattle.pool_model.proofs.Shadows.{all-good, answer-is, opening-good}

-- ---- one tenant's pools are led by its own events alone

-- what its claims read, by its own events
abbrev reads : World → Machine → List WorldEvent → List ℕ
reads w p [] = []
reads w p (e ∷ es) = claim_read p e ++ reads w (after w p e) es

record IsLed (ws : Tenants) (ps : Pools) (es : List TenantEvent) (t : ℕ) : Type 0 where
  pools : pools_after_all ws ps es t ≡ after_all (ws t) (ps t) (own_events t es)
  may : AllMayHappen (ws t) (ps t) (own_events t es)
  read : tenant_reads ws ps es t ≡ reads (ws t) (ps t) (own_events t es)
  answer : (i : ℕ) → tenant_answers ws ps es t i ≡ answers (ws t) (ps t) (own_events t es) i

led : (ws : Tenants) (ps : Pools) (es : List TenantEvent) (t : ℕ) → AllMayCome ws ps es → IsLed ws ps es t
led ws ps [] t may = record { pools = refl; may = tt; read = refl; answer = λ i. refl }
led ws ps (e ∷ es) t may = let rest = led ws (pools_after ws ps e) es t may.1 in
    let G : Bool → Type 0 = λ b.
    (pools_after_all ws (pools_after ws ps e) es t ≡ after_all (ws t) (ps t) (cond b (e.event ∷ own_events t es) (own_events t es)))
    × AllMayHappen (ws t) (ps t) (cond b (e.event ∷ own_events t es) (own_events t es))
    × (cond b (claim_read (ps t) e.event) [] ++ tenant_reads ws (pools_after ws ps e) es t ≡ reads (ws t) (ps t) (cond b (e.event ∷ own_events t es) (own_events t es)))
    × ((i : ℕ) → cond b (answered (ws t) (ps t) e.event i) [] ++ tenant_answers ws (pools_after ws ps e) es t i ≡ answers (ws t) (ps t) (cond b (e.event ∷ own_events t es) (own_events t es)) i) in
    let split : (b : Bool) → (t == e.tenant) ≡ b → G b = elim [
      | true ↦ λ is. let same : e.tenant ≡ t = sym (eqb-true t e.tenant is) in
          let now : pools_after ws ps e t ≡ after (ws t) (ps t) e.event = ap (λ (b : Bool). cond b (after (ws e.tenant) (ps e.tenant) e.event) (ps t)) is ∙ ap (λ (u : ℕ). after (ws u) (ps u) e.event) same in (
            rest.pools ∙ ap (λ (p : Machine). after_all (ws t) p (own_events t es)) now,
            (subst (λ (u : ℕ). MayHappen (ws u) (ps u) e.event) same may.0, subst (λ (p : Machine). AllMayHappen (ws t) p (own_events t es)) now rest.may),
            ap (λ (rs : List ℕ). claim_read (ps t) e.event ++ rs) (rest.read ∙ ap (λ (p : Machine). reads (ws t) p (own_events t es)) now),
            λ i. ap (λ (rs : List (Request × Option (Outcome × List ℕ))). answered (ws t) (ps t) e.event i ++ rs) (rest.answer i ∙ ap (λ (p : Machine). answers (ws t) p (own_events t es) i) now),
          )
      | false ↦ λ isnt. let now : pools_after ws ps e t ≡ ps t = ap (λ (b : Bool). cond b (after (ws e.tenant) (ps e.tenant) e.event) (ps t)) isnt in (
        rest.pools ∙ ap (λ (p : Machine). after_all (ws t) p (own_events t es)) now,
        subst (λ (p : Machine). AllMayHappen (ws t) p (own_events t es)) now rest.may,
        rest.read ∙ ap (λ (p : Machine). reads (ws t) p (own_events t es)) now,
        λ i. rest.answer i ∙ ap (λ (p : Machine). answers (ws t) p (own_events t es) i) now,
      )
    ] in let x = split (t == e.tenant) refl in record { pools = x.0; may = x.1; read = x.2; answer = x.3 }

-- ---- two pools that are led by the same events

turn-core : (w : World) (p : Machine) (i : ℕ) (marks : List Bool) (call : Option Running) (j : Kind) → (after_turn w p i marks call).core j ≡ p.core j
turn-core w p i marks None j = refl
turn-core w p i marks (Some r) j = refl

end-core : (w : World) (p : Machine) (i : ℕ) (marks : List Bool) (call : Option Running) (j : Kind) → (after_end w p i marks call).core j ≡ p.core j
end-core w p i marks None j = refl
end-core w p i marks (Some r) j = refl

-- what each event makes of the cores
core-step : (w v : World) (p q : Machine) (e : WorldEvent) → ((k : Kind) → p.core k ≡ q.core k) → (j : Kind) → (after w p e).core j ≡ (after v q e).core j
core-step w v p q (Step k e) same j = let split : (b : Bool) → cond b (core_after (p.core k) e) (p.core j) ≡ cond b (core_after (q.core k) e) (q.core j) = elim [
  | true ↦ ap (λ (c : PoolCore). core_after c e) (same k)
  | false ↦ same j
] in split (same_kind k j)
core-step w v p q (Prepare k s m) same j = same j
core-step w v p q (Restore k s) same j = same j
core-step w v p q (Clear k s x) same j = same j
core-step w v p q (Begin i r) same j = same j
core-step w v p q (Turn i marks) same j = turn-core w p i marks (p.calls i) j ∙ same j ∙ sym (turn-core v q i marks (q.calls i) j)
core-step w v p q (End i marks) same j = end-core w p i marks (p.calls i) j ∙ same j ∙ sym (end-core v q i marks (q.calls i) j)
core-step w v p q (Cancel i) same j = same j

claim-step : (p q : Machine) (e : WorldEvent) → ((k : Kind) → p.core k ≡ q.core k) → claim_read p e ≡ claim_read q e
claim-step p q (Step k (Claim s n)) same = ap (λ (c : PoolCore). packed (word_at c n) ∷ []) (same k)
claim-step p q (Step k (Load s n)) same = refl
claim-step p q (Step k (Out s n)) same = refl
claim-step p q (Step k (Home s n)) same = refl
claim-step p q (Step k (Release s n to)) same = refl
claim-step p q (Step k (Split s r)) same = refl
claim-step p q (Step k (Join s r)) same = refl
claim-step p q (Step k (Close s)) same = refl
claim-step p q (Step k (WarmLoad s)) same = refl
claim-step p q (Step k (WarmUp s)) same = refl
claim-step p q (Step k (WarmDown s)) same = refl
claim-step p q (Step k (Stamp s)) same = refl
claim-step p q (Step k (AwaitUp s)) same = refl
claim-step p q (Step k (AwaitDown s)) same = refl
claim-step p q (Step k (AwaitLoad s)) same = refl
claim-step p q (Prepare k s m) same = refl
claim-step p q (Restore k s) same = refl
claim-step p q (Clear k s x) same = refl
claim-step p q (Begin i r) same = refl
claim-step p q (Turn i marks) same = refl
claim-step p q (End i marks) same = refl
claim-step p q (Cancel i) same = refl

fresh-answers : (l k : InstanceLimits) (a b : Request) → l ≡ k → a ≡ b → fresh_answer l a ≡ fresh_answer k b
fresh-answers l k a b e s = λ i. fresh_answer (e i) (s i)

-- beside one fresh call, two running calls are the same
same-sound : (w v : World) (p q : Machine) (f : FreshMachine) (i : ℕ) (r c : Running) (x : FreshCall) → w.limits ≡ v.limits → Good w p f → Good v q f → IsSound w p i r x → IsSound v q i c x → IsSameCall w v p q i r c
same-sound w v p q f i r c x limits good good' a b = let request : r.request ≡ c.request = sym a.request ∙ b.request in let turns : r.turns ≡ c.turns = sym a.turns ∙ b.turns in
    let stores : in_slots (fresh_store_after w.limits r.request r.turns) ≡ in_slots (fresh_store_after v.limits c.request c.turns) = λ j. in_slots (fresh_store_after (limits j) (request j) (turns j)) in record {
      request = request;
      turns = turns;
      same = record {
        stores = λ _. a.store ∙ stores ∙ sym b.store;
        sizes = λ _ need. size-shown w r.request.named.tree (caller_contents w p i) (in_slots (fresh_store_after w.limits r.request r.turns)) need (good.kept Memory (slot_of w p i Memory)) a.store
            ∙ ap (λ (s : Store). length s.memory / page_size) stores
            ∙ sym (size-shown v c.request.named.tree (caller_contents v q i) (in_slots (fresh_store_after v.limits c.request c.turns)) (ap (λ (o : Request). needs Memory o.named.tree) (sym request) ∙ need) (good'.kept Memory (slot_of v q i Memory)) b.store);
        answers = answer-is w r a.begun_is ∙ fresh-answers w.limits v.limits r.request c.request limits request ∙ sym (answer-is v c b.begun_is);
      };
    }

same-calls : (w v : World) (p q : Machine) (f : FreshMachine) (i : ℕ) (a b : Option Running) (x : Option FreshCall) → w.limits ≡ v.limits → Good w p f → Good v q f → GoodCall w p i a x → GoodCall v q i b x → OfBoth (IsSameCall w v p q i) a b
same-calls w v p q f i None None x limits good good' g h = tt
same-calls w v p q f i (Some r) (Some c) (Some x) limits good good' g h = same-sound w v p q f i r c x limits good good' g h
same-calls w v p q f i (Some r) (Some c) None limits good good' g h = absurd g
same-calls w v p q f i None (Some c) None limits good good' g h = absurd h
same-calls w v p q f i None (Some c) (Some x) limits good good' g h = absurd g
same-calls w v p q f i (Some r) None None limits good good' g h = absurd g
same-calls w v p q f i (Some r) None (Some x) limits good good' g h = absurd h

-- and so are their answers
told-same : (w v : World) (p q : Machine) (i : ℕ) (a b : Option Running) → OfBoth (IsSameCall w v p q i) a b → answered_by w a ≡ answered_by v b
told-same w v p q i None None s = refl
told-same w v p q i (Some r) (Some c) s = λ j. (s.request j, s.same.answers j) ∷ []
told-same w v p q i None (Some c) s = absurd s
told-same w v p q i (Some r) None s = absurd s

answer-step : (w v : World) (p q : Machine) (f : FreshMachine) (e : WorldEvent) (i : ℕ) → w.limits ≡ v.limits → Good w p f → Good v q f → answered w p e i ≡ answered v q e i
answer-step w v p q f (End j marks) i limits good good' = ap (λ (rs : List (Request × Option (Outcome × List ℕ))). cond (j == i) rs []) (told-same w v p q j (p.calls j) (q.calls j) (same-calls w v p q f j (p.calls j) (q.calls j) (f j) limits good good' (good.calls j) (good'.calls j)))
answer-step w v p q f (Step k e) i limits good good' = refl
answer-step w v p q f (Prepare k s m) i limits good good' = refl
answer-step w v p q f (Restore k s) i limits good good' = refl
answer-step w v p q f (Clear k s x) i limits good good' = refl
answer-step w v p q f (Begin j r) i limits good good' = refl
answer-step w v p q f (Turn j marks) i limits good good' = refl
answer-step w v p q f (Cancel j) i limits good good' = refl

record AreAlike (w v : World) (p q : Machine) (es : List WorldEvent) : Type 0 where
  pools : LookSame w v (after_all w p es) (after_all v q es)
  read : reads w p es ≡ reads v q es
  answer : (i : ℕ) → answers w p es i ≡ answers v q es i

both : {A : Type 0} (a b c d : List A) → a ≡ b → c ≡ d → a ++ c ≡ b ++ d
both a b c d e f = λ i. e i ++ f i

alike : (w v : World) (p q : Machine) (f : FreshMachine) (es : List WorldEvent) → w.limits ≡ v.limits → Good w p f → Good v q f → ((k : Kind) → p.core k ≡ q.core k) → AllMayHappen w p es → AllMayHappen v q es → AreAlike w v p q es
alike w v p q f [] limits good good' cores may may' = record {
  pools = record { cores = cores; calls = λ i. same-calls w v p q f i (p.calls i) (q.calls i) (f i) limits good good' (good.calls i) (good'.calls i) };
  read = refl;
  answer = λ i. refl;
}
alike w v p q f (e ∷ es) limits good good' cores may may' =
    let next = alike w v (after w p e) (after v q e) (fresh_after w.limits f e) es limits (after-good w p f e good may.0)
    (subst (λ (l : InstanceLimits). Good v (after v q e) (fresh_after l f e)) (sym limits) (after-good v q f e good' may'.0)) (core-step w v p q e cores) may.1 may'.1 in record {
      pools = next.pools;
      read = both (claim_read p e) (claim_read q e) (reads w (after w p e) es) (reads v (after v q e) es) (claim-step p q e cores) next.read;
      answer = λ i. both (answered w p e i) (answered v q e i) (answers w (after w p e) es i) (answers v (after v q e) es i) (answer-step w v p q f e i limits good good') (next.answer i);
    }

pub own-events-decide : OwnEventsDecide
own-events-decide ws vs ps qs es ds t u alike-open may may' same = let a = led ws ps es t may in let b = led vs qs ds u may' in let own : List WorldEvent = own_events t es in
    let there : AllMayHappen (vs u) (qs u) own = subst (λ (l : List WorldEvent). AllMayHappen (vs u) (qs u) l) (sym same) b.may in
    let x = alike (ws t) (vs u) (ps t) (qs u) nothing_runs own alike-open.limits (opening-good (ws t) (ps t) alike-open.opens) (opening-good (vs u) (qs u) alike-open.opens_too) alike-open.cores a.may there in
    let theirs : pools_after_all vs qs ds u ≡ after_all (vs u) (qs u) own = b.pools ∙ ap (λ (l : List WorldEvent). after_all (vs u) (qs u) l) (sym same) in record {
      pools = subst (λ (m : Machine × Machine). LookSame (ws t) (vs u) m.0 m.1) (λ j. (sym a.pools j, sym theirs j)) x.pools;
      reads = a.read ∙ x.read ∙ ap (λ (l : List WorldEvent). reads (vs u) (qs u) l) same ∙ sym b.read;
      answers = λ i. a.answer i ∙ x.answer i ∙ ap (λ (l : List WorldEvent). answers (vs u) (qs u) l i) same ∙ sym (b.answer i);
    }

-- ---- warm slots

claim-limit : (c : PoolCore) (s n : ℕ) → (core_after_claim c s n).limit ≡ c.limit
claim-limit c s n = let won : PoolCore = with_seat (with_word c n (held_word (word_at c n))) s (winning_seat (seat_at c s) n (word_at c n)) in
    let split : (b : Bool) → (cond b c won).limit ≡ c.limit = elim [
      | true ↦ refl
      | false ↦ refl
    ] in split (word_at c n).held

-- no event changes the limit of a pool
step-limit : (c : PoolCore) (e : Event) → (core_after c e).limit ≡ c.limit
step-limit c (Load s n) = refl
step-limit c (Claim s n) = claim-limit c s n
step-limit c (Out s n) = refl
step-limit c (Home s n) = refl
step-limit c (Release s n to) = refl
step-limit c (Split s r) = refl
step-limit c (Join s r) = refl
step-limit c (Close s) = refl
step-limit c (WarmLoad s) = refl
step-limit c (WarmUp s) = refl
step-limit c (WarmDown s) = refl
step-limit c (Stamp s) = refl
step-limit c (AwaitUp s) = refl
step-limit c (AwaitDown s) = refl
step-limit c (AwaitLoad s) = refl

limit-stays : (w : World) (p : Machine) (e : WorldEvent) (j : Kind) → ((after w p e).core j).limit ≡ (p.core j).limit
limit-stays w p (Step k e) j = let split : (b : Bool) → same_kind k j ≡ b → (cond b (core_after (p.core k) e) (p.core j)).limit ≡ (p.core j).limit = elim [
  | true ↦ λ is. step-limit (p.core k) e ∙ ap (λ (l : Kind). (p.core l).limit) (same_kind-is k j is)
  | false ↦ λ is. refl
] in split (same_kind k j) refl
limit-stays w p (Prepare k s m) j = refl
limit-stays w p (Restore k s) j = refl
limit-stays w p (Clear k s x) j = refl
limit-stays w p (Begin i r) j = refl
limit-stays w p (Turn i marks) j = ap (λ (c : PoolCore). c.limit) (turn-core w p i marks (p.calls i) j)
limit-stays w p (End i marks) j = ap (λ (c : PoolCore). c.limit) (end-core w p i marks (p.calls i) j)
limit-stays w p (Cancel i) j = refl

limit-is : (w : World) (p : Machine) (es : List WorldEvent) (j : Kind) → ((after_all w p es).core j).limit ≡ (p.core j).limit
limit-is w p [] j = refl
limit-is w p (e ∷ es) j = limit-is w (after w p e) es j ∙ limit-stays w p e j

-- one tenant's free warm slots are within its limit
tenant-within : (ws : Tenants) (ps : Pools) (es : List TenantEvent) (k : Kind) (t : ℕ) → IsOpening (ws t) (ps t) → AllMayCome ws ps es → free_warm ((pools_after_all ws ps es t).core k) ≤ ((ps t).core k).limit
tenant-within ws ps es k t opens may = let a = led ws ps es t may in let own : List WorldEvent = own_events t es in let q : Machine = after_all (ws t) (ps t) own in
    let good = all-good (ws t) (ps t) nothing_runs own (opening-good (ws t) (ps t) opens) a.may in
    let lawful : Lawful (q.core k) = good.lawful k in let most = lawful.within in let limit = limit-is (ws t) (ps t) own k in
    let within : free_warm (q.core k) ≤ ((ps t).core k).limit = omega arith in
    subst (λ (m : Machine). free_warm (m.core k) ≤ ((ps t).core k).limit) (sym a.pools) within

-- numbers that are each within its limit add up to no more than the limits do
sum-within : (f : ℕ → ℕ) (from : ℕ) (limits : List ℕ) → ((t : ℕ) → t < length limits → f (from + t) ≤ slice_index limits t) → sum_by f (range_with_len from (length limits)) ≤ sum limits
sum-within f from [] each = omega arith
sum-within f from (l ∷ ls) each = let first : f (from + 0) ≤ l = each 0 (omega arith) in
    let rest : sum_by f (range_with_len (from + 1) (length ls)) ≤ sum ls = sum-within f (from + 1) ls (λ t lt. subst (λ (n : ℕ). f n ≤ slice_index ls t) (omega arith) (each (suc t) (omega arith))) in
    let here : f from ≤ l = subst (λ (n : ℕ). f n ≤ l) (omega arith) first in
    omega (arith, sum_by-cons f from (range_with_len (from + 1) (length ls)), sum_by-cons (λ (x : ℕ). x) l ls)

pub warm-slots-stay-within : WarmSlotsStayWithin
warm-slots-stay-within ws ps es k limits opens may = sum-within (λ t. free_warm ((pools_after_all ws ps es t).core k)) 0 limits
    (λ t lt. let at = opens.limit t lt in let most = tenant-within ws ps es k t (opens.opens t lt) may in
    let within : free_warm ((pools_after_all ws ps es t).core k) ≤ slice_index limits t = omega arith in
    let same : t ≡ 0 + t = omega arith in
    subst (λ (n : ℕ). free_warm ((pools_after_all ws ps es n).core k) ≤ slice_index limits t) same within)
