-- Contents fit their words.
use Rattle.std.proofs.Common.{◌≡◌, ℕ, zero, suc, ◌+◌, ◌<◌, Bool, true, false, cond, not, ◌&&◌, List, [], ◌∷◌, length, refl, sym, ap, ◌∙◌, subst, true≢false, eq-eqb, get_or-set_same}
use Rattle.std.specs.Prelude.{Option, Some, ltb, map, ◌==◌}
use Rattle.std.proofs.lemmas.Bool.{eqb-true, not-false, and_parts, ltb-true}
use Rattle.wasm_types.specs.Tree.{ModuleTree}
use Rattle.pool_core.specs.declared.words.State.TheVariants.{Warm, Awaiting}
use Rattle.pool_core.specs.declared.words.StateWord.{StateWord}
use Rattle.pool_core.specs.declared.events.Event.{Event}
use Rattle.pool_core.specs.declared.events.Event.TheVariants.{Claim, Release}
use Rattle.pool_core.specs.StateWords.{cold_word, held_word, free_word}
use Rattle.pool_core.specs.PoolCore.{PoolCore, word_at, seat_at}
use Rattle.pool_core.specs.EventEffects.{core_after, winning_seat, with_seat, with_word}
use Rattle.pool_core.specs.RefusalRules.{refusal_of}
use Rattle.pool_core.specs.Changes.{may_change_word}
use Rattle.pool_core.specs.Lawful.{Lawful}
use Rattle.pool_core.proofs.ChangeLemmas.{changes_only}
use Rattle.pool_core.proofs.Holders.{holds_held_word}
use Rattle.pool_core.proofs.LawfulOpening.{opens_cold}
use Rattle.pool_core.proofs.LawfulSteps.{no_rule_broken}
use Rattle.pool_model.specs.Contents.{Named, Contents, owner, memory_image, table_image, prepared, restored_for, restored, replaced, needs, turned, IsClean, IsCold, HasImageOutside, Matches}
use Rattle.pool_model.specs.declared.kinds.Kind.{Kind}
use Rattle.pool_model.specs.declared.kinds.Kind.TheVariants.{Instance, Memory, Table}
use Rattle.pool_model.specs.PoolMachine.{World, Running, Machine, WorldEvent, Step, Prepare, Restore, Clear, Begin, Turn, End, Cancel, held_by, slot_of, same_kind, is_slot_of_seat, is_slot_of_call, with_contents, with_core, store_after, last_store, after_turn, after_end, after, after_all, HasOut, IsModule, MayHappen, AllMayHappen, IsOpening}
use Rattle.pool_model.specs.FreshMachine.{FreshMachine, fresh_after, nothing_runs}
use Rattle.pool_model.specs.Fitting.{held_contents, ReleaseFits, AllReleasesFit, FitsWhileFree, FreeSlotsFit, ClearedFitsCold, RestoredFitsWarm, UsedFitsAwaiting, TablesFitWarm}
use Rattle.pool_model.proofs.Parts.{IsOwned, IsKept, prepared-bytes, prepared-entries}
use Rattle.pool_model.proofs.Steps.{Good, found, after-good, same_kind-is, held-is}
use Rattle.pool_model.proofs.Shadows.{opening-good, good-at}

-- the contents of every slot that nobody holds fit its word
abbrev Fitting : World → Machine → Type 0
Fitting w p = (k : Kind) (n : ℕ) → FitsWhileFree w.limits.pages k (word_at (p.core k) n) (p.contents k n)

-- ---- the core's events

-- under a held word anything may lie
held-fits : (pages : ℕ) (k : Kind) (word : StateWord) (x : Contents k) → word.held ≡ true → FitsWhileFree pages k word x
held-fits pages k word x held free = absurd (true≢false (sym held ∙ free))

-- the word that an event names, where it is a place
named-word : (c : PoolCore) (n : ℕ) (v : StateWord) → n < length c.words → word_at (with_word c n v) n ≡ v
named-word c n v there = get_or-set_same c.words n v cold_word there

claim-fits : (pages : ℕ) (c : PoolCore) (s n : ℕ) (k : Kind) (x : Contents k) → n < length c.words → FitsWhileFree pages k (word_at c n) x
    → FitsWhileFree pages k (word_at (core_after c (Claim s n)) n) x
claim-fits pages c s n k x there fits = let w : StateWord = word_at c n in
    let split : (b : Bool) → FitsWhileFree pages k (word_at (cond b c (with_seat (with_word c n (held_word w)) s (winning_seat (seat_at c s) n w))) n) x = elim [
      | true ↦ fits
      | false ↦ held-fits pages k (word_at (with_word c n (held_word w)) n) x (ap (λ (v : StateWord). v.held) (named-word c n (held_word w) there))
    ] in split w.held

-- a place that an event names is one of the pool's
place-in : (c : PoolCore) (n : ℕ) → not (ltb n (length c.words)) ≡ false → n < length c.words
place-in c n h = ltb-true n (length c.words) (not-false (ltb n (length c.words)) h)

-- an event of the core leaves what fits fitting
core-fits : (w : World) (p : Machine) (k : Kind) (e : Event) (n : ℕ) → refusal_of (p.core k) e ≡ 0 → ReleaseFits w p (Step k e)
    → FitsWhileFree w.limits.pages k (word_at (p.core k) n) (p.contents k n) → FitsWhileFree w.limits.pages k (word_at (core_after (p.core k) e) n) (p.contents k n)
core-fits w p k e n ok released fits =
    let split : (b : Bool) → may_change_word e n ≡ b → FitsWhileFree w.limits.pages k (word_at (core_after (p.core k) e) n) (p.contents k n) = elim [
      | true ↦ λ q. changed e ok released q
      | false ↦ λ q. subst (λ (v : StateWord). FitsWhileFree w.limits.pages k v (p.contents k n)) (sym ((changes_only (p.core k) e).words n q)) fits
    ] in split (may_change_word e n) refl where
      changed : (e : Event) → refusal_of (p.core k) e ≡ 0 → ReleaseFits w p (Step k e) → may_change_word e n ≡ true
          → FitsWhileFree w.limits.pages k (word_at (core_after (p.core k) e) n) (p.contents k n)
      changed (Claim s m) ok released q = let same : n ≡ m = eqb-true n m q in
          subst (λ (i : ℕ). FitsWhileFree w.limits.pages k (word_at (core_after (p.core k) (Claim s m)) i) (p.contents k i)) (sym same)
          (claim-fits w.limits.pages (p.core k) s m k (p.contents k m) (place-in (p.core k) m (no_rule_broken (p.core k) (Claim s m) ok).slot)
          (subst (λ (i : ℕ). FitsWhileFree w.limits.pages k (word_at (p.core k) i) (p.contents k i)) same fits))
      changed (Release s m to) ok released q = let same : n ≡ m = eqb-true n m q in
          let there : m < length (p.core k).words = place-in (p.core k) m (no_rule_broken (p.core k) (Release s m to) ok).slot in
          subst (λ (i : ℕ). FitsWhileFree w.limits.pages k (word_at (core_after (p.core k) (Release s m to)) i) (p.contents k i)) (sym same)
          (subst (λ (v : StateWord). FitsWhileFree w.limits.pages k v (p.contents k m)) (sym (named-word (p.core k) m (free_word to) there)) (λ free. released))
      changed e ok released q = absurd (true≢false (sym q))

step-fits : (w : World) (p : Machine) (k : Kind) (e : Event) → refusal_of (p.core k) e ≡ 0 → ReleaseFits w p (Step k e) → Fitting w p → Fitting w (with_core p k (core_after (p.core k) e))
step-fits w p k e ok released fitting j n = let c : PoolCore = core_after (p.core k) e in
    let split : (b : Bool) → same_kind k j ≡ b → FitsWhileFree w.limits.pages j (word_at (cond b c (p.core j)) n) (p.contents j n) = elim [
      | true ↦ λ h. subst (λ (l : Kind). FitsWhileFree w.limits.pages l (word_at c n) (p.contents l n)) (same_kind-is k j h) (core-fits w p k e n ok released (fitting k n))
      | false ↦ λ h. fitting j n
    ] in split (same_kind k j) refl

-- ---- changes of contents

-- only what lies under held words changes
contents-fit : (w : World) (p : Machine) (hits : Kind → ℕ → Bool) (change : (k : Kind) → Contents k → Contents k)
    → ((k : Kind) (n : ℕ) → hits k n ≡ true → (word_at (p.core k) n).held ≡ true) → Fitting w p → Fitting w (with_contents p hits change)
contents-fit w p hits change held fitting k n = let word : StateWord = word_at (p.core k) n in let x : Contents k = p.contents k n in
    let split : (b : Bool) → hits k n ≡ b → FitsWhileFree w.limits.pages k word (cond b (change k x) x) = elim [
      | true ↦ λ q. held-fits w.limits.pages k word (change k x) (held k n q)
      | false ↦ λ q. fitting k n
    ] in split (hits k n) refl

out-held : (p : Machine) (k : Kind) (s : ℕ) → Lawful (p.core k) → HasOut p k s → (word_at (p.core k) (held_by p k s)).held ≡ true
out-held p k s law o = ap (λ (i : ℕ). (word_at (p.core k) i).held) (held-is p k s o) ∙ (holds_held_word (p.core k) s o.number law o.holds).1

seat-held : (p : Machine) (k : Kind) (s : ℕ) → Lawful (p.core k) → HasOut p k s → (j : Kind) (n : ℕ) → is_slot_of_seat p k s j n ≡ true → (word_at (p.core j) n).held ≡ true
seat-held p k s law o j n hit = let both = and_parts (same_kind k j) (n == held_by p k s) hit in
    subst (λ (l : Kind). (word_at (p.core l) n).held ≡ true) (same_kind-is k j both.0)
    (ap (λ (i : ℕ). (word_at (p.core k) i).held) (eqb-true n (held_by p k s) both.1) ∙ out-held p k s law o)

call-held : (w : World) (p : Machine) (i : ℕ) (m : ModuleTree) → ((k : Kind) → Lawful (p.core k)) → ((k : Kind) → needs k m ≡ true → HasOut p k (w.seats k i))
    → (k : Kind) (n : ℕ) → is_slot_of_call w p i m k n ≡ true → (word_at (p.core k) n).held ≡ true
call-held w p i m law outs k n hit = let both = and_parts (needs k m) (n == slot_of w p i k) hit in
    ap (λ (j : ℕ). (word_at (p.core k) j).held) (eqb-true n (slot_of w p i k) both.1) ∙ out-held p k (w.seats k i) (law k) (outs k both.0)

-- ---- each event, and all

after-fits : (w : World) (p : Machine) (f : FreshMachine) (e : WorldEvent) → Good w p f → MayHappen w p e → ReleaseFits w p e → Fitting w p → Fitting w (after w p e)
after-fits w p f (Step k e) g may released fitting = step-fits w p k e may.0 released fitting
after-fits w p f (Prepare k s m) g may released fitting = contents-fit w p (is_slot_of_seat p k s) (prepared w.limits.pages m) (seat-held p k s (g.lawful k) may.0) fitting
after-fits w p f (Restore k s) g may released fitting = contents-fit w p (is_slot_of_seat p k s) (restored w.limits.pages) (seat-held p k s (g.lawful k) may.0) fitting
after-fits w p f (Clear k s x) g may released fitting = contents-fit w p (is_slot_of_seat p k s) (replaced k x) (seat-held p k s (g.lawful k) may.0) fitting
after-fits w p f (Begin i q) g may released fitting =
    contents-fit w p (is_slot_of_call w p i q.named.tree) (prepared w.limits.pages q.named) (call-held w p i q.named.tree g.lawful may.1) fitting
after-fits w p f (Turn i marks) g may released fitting = let r : Running = may.0 in let x = found w p i (p.calls i) (f i) r (g.calls i) may.1 in
    let tree : ModuleTree = r.request.named.tree in
    subst (λ (a : Option Running). Fitting w (after_turn w p i marks a)) (sym may.1)
    (contents-fit w p (is_slot_of_call w p i tree) (turned w.limits.pages (store_after w r (r.turns + 1)) marks) (call-held w p i tree g.lawful x.2.holds) fitting)
after-fits w p f (End i marks) g may released fitting = let r : Running = may.0 in let x = found w p i (p.calls i) (f i) r (g.calls i) may.1 in
    let tree : ModuleTree = r.request.named.tree in
    subst (λ (a : Option Running). Fitting w (after_end w p i marks a)) (sym may.1)
    (contents-fit w p (is_slot_of_call w p i tree) (turned w.limits.pages (last_store w r) marks) (call-held w p i tree g.lawful x.2.holds) fitting)
after-fits w p f (Cancel i) g may released fitting = fitting

opening-fits : (w : World) (p : Machine) → IsOpening w p → Fitting w p
opening-fits w p o k n =
    let cold : word_at (p.core k) n ≡ cold_word = ap (λ (c : PoolCore). word_at c n) (o.core k) ∙ opens_cold (o.slots k) (o.limit k) (o.passes k) n in
    subst (λ (v : StateWord). FitsWhileFree w.limits.pages k v (p.contents k n)) (sym cold) (λ free. o.cold k n)

all-fit : (w : World) (p : Machine) (f : FreshMachine) (es : List WorldEvent) → Good w p f → AllMayHappen w p es → AllReleasesFit w p es → Fitting w p → Fitting w (after_all w p es)
all-fit w p f [] g may released fitting = fitting
all-fit w p f (e ∷ es) g may released fitting =
    all-fit w (after w p e) (fresh_after w.limits f e) es (after-good w p f e g may.0) may.1 released.1 (after-fits w p f e g may.0 released.0 fitting)

pub free-slots : FreeSlotsFit
free-slots w p es opens may released = all-fit w p nothing_runs es (opening-good w p opens) may released (opening-fits w p opens)

-- ---- what may be released as what

-- what an event of a seat makes of its slot
own-slot : (p : Machine) (k : Kind) (s : ℕ) (change : (k : Kind) → Contents k → Contents k)
    → held_contents (with_contents p (is_slot_of_seat p k s) change) k s ≡ change k (held_contents p k s)
own-slot p k s change = let n : ℕ = held_by p k s in let x : Contents k = p.contents k n in
    ap (λ (b : Bool). cond (b && n == n) (change k x) x) (same k) ∙ ap (λ (b : Bool). cond b (change k x) x) (eq-eqb n n refl) where
      same : (k : Kind) → same_kind k k ≡ true
      same Instance = refl
      same Memory = refl
      same Table = refl

replaced-is : (k : Kind) (x y : Contents k) → replaced k x k y ≡ x
replaced-is Instance x y = refl
replaced-is Memory x y = refl
replaced-is Table x y = refl

no-marks : (marks : List Bool) → IsClean (map (λ marked. false) marks)
no-marks [] k = refl
no-marks (b ∷ bs) zero = refl
no-marks (b ∷ bs) (suc k) = no-marks bs k

pub cleared-fits : ClearedFitsCold
cleared-fits w q k s tag x reached may =
    subst (IsCold w.limits.pages k) (sym (own-slot q k s (replaced k x) ∙ replaced-is k x (held_contents q k s))) may.2

restored-warm : (w : World) (m : Named) (k : Kind) (x : Contents k) → IsKept w k x → owner k x ≡ Some m → Matches w.limits.pages k Warm m.tag (restored w.limits.pages k x)
restored-warm w m Instance x kept own = absurd (cc)
restored-warm w m Memory x kept own = let is : IsModule w m = subst (IsOwned w) own kept.owned in
    subst (λ (o : Option Named). Matches w.limits.pages Memory Warm m.tag (restored_for w.limits.pages o Memory x)) (sym own)
    (m, record { holds = refl; size = refl; bytes = prepared-bytes w m x is kept; clean = no-marks x.marks }, refl)
restored-warm w m Table x kept own = let is : IsModule w m = subst (IsOwned w) own kept.0 in
    subst (λ (o : Option Named). Matches w.limits.pages Table Warm m.tag (restored_for w.limits.pages o Table x)) (sym own)
    (m, (refl, prepared-entries w m x is kept), refl)

pub restored-fits : RestoredFitsWarm
restored-fits w q k s m reached may own = let g = good-at w q reached in
    subst (Matches w.limits.pages k Warm m.tag) (sym (own-slot q k s (restored w.limits.pages))) (restored-warm w m k (held_contents q k s) (g.1.kept k (held_by q k s)) own)

kept-awaiting : (w : World) (m : Named) (k : Kind) (x : Contents k) → IsKept w k x → owner k x ≡ Some m → Matches w.limits.pages k Awaiting m.tag x
kept-awaiting w m Instance x kept own = absurd (cc)
kept-awaiting w m Memory x kept own =
    (m, record { holds = own; outside = subst (λ (o : Option Named). HasImageOutside (memory_image w.limits.pages o) x.bytes x.marks) own kept.outside }, refl)
kept-awaiting w m Table x kept own = (m, (own, kept.1 ∙ ap table_image own), refl)

pub used-fits : UsedFitsAwaiting
used-fits w q k n m reached own = kept-awaiting w m k (q.contents k n) ((good-at w q reached).1.kept k n) own

-- of a table both states ask the same
pub tables-fit : TablesFitWarm
tables-fit w q n m reached own = used-fits w q Table n m reached own
