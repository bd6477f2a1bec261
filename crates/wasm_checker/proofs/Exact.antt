-- The algorithm finds exactly the typings: what a stack stands for after a step is all that the rules allow.
use Rattle.wasm_types.specs.SameTypes.{same}
use Rattle.std.proofs.Common.{◌≡◌, ℕ, ◌+◌, List, [], ◌∷◌, ◌++◌, Bool, true, false, Option, Some, None, refl, sym, ap, ◌∙◌, subst}
use Rattle.std.specs.Prelude.{length}
use Rattle.std.proofs.Common.{append-nil}
use Rattle.wasm_types.specs.declared.types.ValType.{ValType}
use Rattle.wasm_types.specs.declared.types.ValType.TheVariants.{I32, I64, F32, F64}
use Rattle.wasm_types.specs.Tree.{Code, End, Plain, Block, Loop, If, Call, CallIndirect}
use Rattle.wasm_spec.specs.Typing.{result_types, Context, under, Rule, Fixed, Diverges, Drops, Selects, Wrong, rule, call_rule, call_indirect_rule, Takes, Typed}
use Rattle.wasm_types.proofs.SameTypeLemmas.{same_is}
use Rattle.wasm_checker.specs.Check.{Stack, Below, StandsAs, Stands, and_then, when, with_operands, Popped, pop, pop_type, pop_types, push, push_types, set_unreachable, both, select, apply, no_more, end_block, leave, enter, check, empty_stack, check_body}

-- a relation between the operands before and after
abbrev pub Change : Type 1
Change = List ValType → List ValType → Type 0

-- where the algorithm goes on, its stack stands for all that may come of what the first one stands for; where
-- it doesn't, nothing may
abbrev pub Exact : Change → Stack → Option Stack → Type 0
Exact R s None = (b a : List ValType) → Stands s b → R b a → ⊥
Exact R s (Some t) = ((b a : List ValType) → Stands s b → R b a → Stands t a) × ((a : List ValType) → Stands t a → (b : List ValType) × Stands s b × R b a)

pub both_ways : (R Q : Change) (s : Stack) (o : Option Stack) → ((b a : List ValType) → R b a → Q b a) → ((b a : List ValType) → Q b a → R b a) → Exact R s o → Exact Q s o
both_ways R Q s None to from e = λ b a h q. e b a h (from b a q)
both_ways R Q s (Some t) to from e = (λ b a h q. e.0 b a h (from b a q), λ a h. let x = e.1 a h in (x.0, x.1, to x.0 a x.2))

-- one after the other
abbrev pub Then : Change → Change → Change
Then R Q b a = (mid : List ValType) × R b mid × Q mid a

exact_some : (R Q : Change) (s t : Stack) (o : Option Stack) → Exact R s (Some t) → Exact Q t o → Exact (Then R Q) s o
exact_some R Q s t None e f = λ b a h q. f q.0 a (e.0 b q.0 h q.1) q.2
exact_some R Q s t (Some u) e f = (
  λ b a h q. f.0 q.0 a (e.0 b q.0 h q.1) q.2,
  λ a h. let x = f.1 a h in let y = e.1 x.0 x.1 in (y.0, y.1, (x.0, y.2, x.2)),
)

pub exact_then : (R Q : Change) (s : Stack) (o : Option Stack) (go : Stack → Option Stack) → Exact R s o → ((t : Stack) → Exact Q t (go t)) → Exact (Then R Q) s (and_then o go)
exact_then R Q s None go e f = λ b a h q. e b q.0 h q.1
exact_then R Q s (Some t) go e f = exact_some R Q s t (go t) e (f t)

-- one operand
abbrev Off : ValType → Change
Off t b a = b ≡ t ∷ a

tail : List ValType → List ValType
tail [] = []
tail (v ∷ vs) = vs

same_itself : (t : ValType) → same t t ≡ true
same_itself I32 = refl
same_itself I64 = refl
same_itself F32 = refl
same_itself F64 = refl

pub same_not : (t u : ValType) → same t u ≡ false → t ≡ u → ⊥
same_not t u e h = let x : same t t ≡ same t u = ap (same t) h in cc (same_itself t, x, e)

pop_type_as : (t u : ValType) (ks : List (Option ValType)) (s : Stack) (b : Bool) → (b ≡ true → t ≡ u) → (b ≡ false → t ≡ u → ⊥) → Exact (Off t) (with_operands (Some u ∷ ks) s) (when b (Some (with_operands ks s)))
pop_type_as t u ks s true is not =
    (λ b a h r. subst (λ (x : List ValType). StandsAs s.unreachable ks x) (cc (sym h.1 ∙ r)) h.2, λ a h. (t ∷ a, (a, ap (λ (x : ValType). x ∷ a) (is refl), h), refl))
pop_type_as t u ks s false is not = λ b a h r. not refl (cc (sym h.1 ∙ r))

pop_type_known : (t u : ValType) (ks : List (Option ValType)) (s : Stack) → Exact (Off t) (with_operands (Some u ∷ ks) s) (when (same t u) (Some (with_operands ks s)))
pop_type_known t u ks s = pop_type_as t u ks s (same t u) (same_is t u) (same_not t u)

empty_pop_type : (t : ValType) (d : Bool) (p n : ℕ) → let s : Stack = record { unreachable = d; operands = []; peak_operands = p; peak_labels = n } in Exact (Off t) s (pop_type t s)
empty_pop_type t true p n = (λ b a h r. tt, λ a h. (t ∷ a, tt, refl))
empty_pop_type t false p n = λ b a h r. cc (sym h ∙ r)

pub pop_type_exact : (t : ValType) (d : Bool) (ks : List (Option ValType)) (p n : ℕ) → let s : Stack = record { unreachable = d; operands = ks; peak_operands = p; peak_labels = n } in Exact (Off t) s (pop_type t s)
pop_type_exact t d [] p n = empty_pop_type t d p n
pop_type_exact t d (None ∷ ks) p n =
    (λ b a h r. subst (λ (x : List ValType). StandsAs d ks x) (cc (sym h.2 ∙ r)) h.3, λ a h. (t ∷ a, (t, a, refl, h), refl))
pop_type_exact t d (Some u ∷ ks) p n = pop_type_known t u ks (record { unreachable = d; operands = []; peak_operands = p; peak_labels = n })

-- these operands
abbrev Offs : List ValType → Change
Offs ts b a = b ≡ ts ++ a

pub pop_types_exact : (ts : List ValType) (s : Stack) → Exact (Offs ts) s (pop_types ts s)
pop_types_exact [] s = (λ b a h r. subst (λ (x : List ValType). Stands s x) r h, λ a h. (a, h, refl))
pop_types_exact (t ∷ ts) s =
    both_ways (Then (Off t) (Offs ts)) (Offs (t ∷ ts)) s (pop_types (t ∷ ts) s)
    (λ b a h. h.1 ∙ ap (λ (x : List ValType). t ∷ x) h.2) (λ b a h. (ts ++ a, h, refl))
    (exact_then (Off t) (Offs ts) s (pop_type t s) (pop_types ts) (pop_type_exact t s.unreachable s.operands s.peak_operands s.peak_labels) (pop_types_exact ts))

-- what an operand may be
abbrev pub May : Option ValType → ValType → Type 0
May None t = Unit {0}
May (Some u) t = t ≡ u

some_type : (k : Option ValType) → (t : ValType) × May k t
some_type None = (I32, tt)
some_type (Some u) = (u, refl)

below_nothing : (d : Bool) → Below d []
below_nothing true = tt
below_nothing false = refl

-- each stack stands for some operands
pub some_operands : (d : Bool) (ks : List (Option ValType)) → (vs : List ValType) × StandsAs d ks vs
some_operands d [] = ([], below_nothing d)
some_operands d (None ∷ ks) = let x = some_operands d ks in (I32 ∷ x.0, (I32, x.0, refl, x.1))
some_operands d (Some t ∷ ks) = let x = some_operands d ks in (t ∷ x.0, (x.0, refl, x.1))

-- any operand
abbrev pub PopExact : Stack → Option Popped → Type 0
PopExact s None = (b : List ValType) → Stands s b → b ≡ []
PopExact s (Some p) =
    ((t : ValType) (below : List ValType) → Stands s (t ∷ below) → May p.top t × Stands p.rest below)
    × ((t : ValType) (below : List ValType) → May p.top t → Stands p.rest below → Stands s (t ∷ below))

empty_pop : (d : Bool) (p n : ℕ) → let s : Stack = record { unreachable = d; operands = []; peak_operands = p; peak_labels = n } in PopExact s (pop s)
empty_pop true p n = (λ t below h. (tt, tt), λ t below m h. tt)
empty_pop false p n = λ b h. h

pop_exact_as : (d : Bool) (ks : List (Option ValType)) (p n : ℕ) → let s : Stack = record { unreachable = d; operands = ks; peak_operands = p; peak_labels = n } in PopExact s (pop s)
pop_exact_as d [] p n = empty_pop d p n
pop_exact_as d (None ∷ ks) p n = (λ t below h. (tt, subst (λ (x : List ValType). StandsAs d ks x) (cc (h.2)) h.3), λ t below m h. (t, below, refl, h))
pop_exact_as d (Some u ∷ ks) p n =
    (λ t below h. (cc (h.1), subst (λ (x : List ValType). StandsAs d ks x) (cc (h.1)) h.2), λ t below m h. (below, ap (λ (x : ValType). x ∷ below) m, h))

pub pop_exact : (s : Stack) → PopExact s (pop s)
pop_exact s = pop_exact_as s.unreachable s.operands s.peak_operands s.peak_labels

drops_exact : (s : Stack) (o : Option Popped) → PopExact s o → Exact (Takes Drops) s (and_then o (λ p. Some p.rest))
drops_exact s None e = λ b a h r. cc (sym (e b h) ∙ r.1)
drops_exact s (Some p) e = (
  λ b a h r. (e.0 r.0 a (subst (λ (x : List ValType). Stands s x) r.1 h)).1,
  λ a h. let x = some_type p.top in (x.0 ∷ a, e.1 x.0 a x.1 h, (x.0, refl)),
)

abbrev pub On : List ValType → Change
On ts b a = a ≡ ts ++ b

-- two operands of one type
abbrev One : Change
One b a = (t : ValType) × (below : List ValType) × (b ≡ t ∷ t ∷ below) × (a ≡ t ∷ below)

abbrev BothExact : Option ValType → Option ValType → Option (Option ValType) → Type 0
BothExact k l None = (t : ValType) → May k t → May l t → ⊥
BothExact k l (Some m) = ((t : ValType) → May k t → May l t → May m t) × ((t : ValType) → May m t → May k t × May l t)

module _ (base : ℕ) where
  both_known : (t u : ValType) (b : Bool) → (b ≡ true → t ≡ u) → (b ≡ false → t ≡ u → ⊥) → BothExact (Some t) (Some u) (when b (Some (Some t)))
  both_known t u true is not = (λ v h g. h, λ v h. (h, h ∙ is refl))
  both_known t u false is not = λ v h g. not refl (sym h ∙ g)

  both_exact : (k l : Option ValType) → BothExact k l (both k l)
  both_exact None l = (λ t h g. g, λ t g. (tt, g))
  both_exact (Some u) None = (λ t h g. h, λ t h. (h, tt))
  both_exact (Some t) (Some u) = both_known t u (same t u) (same_is t u) (same_not t u)

  one_both : (s : Stack) (p q : Popped) (o : Option (Option ValType)) → PopExact s (Some p) → PopExact p.rest (Some q) → BothExact p.top q.top o → Exact One s (and_then o (λ k. Some (push base k q.rest)))
  one_both s p q None e f g = λ b a h r.
      let x = e.0 r.0 (r.0 ∷ r.1) (subst (λ (y : List ValType). Stands s y) r.2 h) in
      let y = f.0 r.0 r.1 x.1 in
      g r.0 x.0 y.0
  one_both s p q (Some None) e f g = (
    λ b a h r.
        let x = e.0 r.0 (r.0 ∷ r.1) (subst (λ (y : List ValType). Stands s y) r.2 h) in
        let y = f.0 r.0 r.1 x.1 in
        (r.0, r.1, r.3, y.1),
    λ a h. let m = g.1 h.0 tt in (h.0 ∷ h.0 ∷ h.1, e.1 h.0 (h.0 ∷ h.1) m.0 (f.1 h.0 h.1 m.1 h.3), (h.0, h.1, refl, h.2)),
  )
  one_both s p q (Some (Some u)) e f g = (
    λ b a h r.
        let x = e.0 r.0 (r.0 ∷ r.1) (subst (λ (y : List ValType). Stands s y) r.2 h) in
        let y = f.0 r.0 r.1 x.1 in
        (r.1, r.3 ∙ ap (λ (z : ValType). z ∷ r.1) (g.0 r.0 x.0 y.0), y.1),
    λ a h. let m = g.1 u refl in (u ∷ u ∷ h.0, e.1 u (u ∷ h.0) m.0 (f.1 u h.0 m.1 h.2), (u, h.0, refl, h.1)),
  )

  one_second : (s : Stack) (p : Popped) (o : Option Popped) → PopExact s (Some p) → PopExact p.rest o → Exact One s (and_then o (λ q. and_then (both p.top q.top) (λ k. Some (push base k q.rest))))
  one_second s p None e f = λ b a h r.
      let x = e.0 r.0 (r.0 ∷ r.1) (subst (λ (y : List ValType). Stands s y) r.2 h) in
      cc (f (r.0 ∷ r.1) x.1)
  one_second s p (Some q) e f = one_both s p q (both p.top q.top) e f (both_exact p.top q.top)

  one_first : (s : Stack) (o : Option Popped) → PopExact s o → Exact One s (and_then o (λ p. and_then (pop p.rest) (λ q. and_then (both p.top q.top) (λ k. Some (push base k q.rest)))))
  one_first s None e = λ b a h r. cc (sym (e b h) ∙ r.2)
  one_first s (Some p) e = one_second s p (pop p.rest) e (pop_exact p.rest)

  select_exact : (s : Stack) → Exact (Takes Selects) s (select base s)
  select_exact s =
      both_ways (Then (Off I32) One) (Takes Selects) s (select base s)
      (λ b a h. (h.2.0, h.2.1, h.1 ∙ ap (λ (x : List ValType). I32 ∷ x) h.2.2, h.2.3))
      (λ b a h. (h.0 ∷ h.0 ∷ h.1, h.2, (h.0, h.1, refl, h.3)))
      (exact_then (Off I32) One s (pop_type I32 s) (λ t. and_then (pop t) (λ p. and_then (pop p.rest) (λ q. and_then (both p.top q.top) (λ k. Some (push base k q.rest)))))
      (pop_type_exact I32 s.unreachable s.operands s.peak_operands s.peak_labels) (λ t. one_first t (pop t) (pop_exact t)))

  pub push_types_exact : (ts : List ValType) (s : Stack) → Exact (On ts) s (Some (push_types base ts s))
  push_types_exact [] s = (λ b a h r. subst (λ (x : List ValType). Stands s x) (sym r) h, λ a h. (a, h, refl))
  push_types_exact (t ∷ ts) s =
      let ih = push_types_exact ts s in
      (λ b a h r. (ts ++ b, r, ih.0 b (ts ++ b) h refl), λ a h. let x = ih.1 h.0 h.2 in (x.0, x.1, h.1 ∙ ap (λ (y : List ValType). t ∷ y) x.2))

  unreachable_exact : (s : Stack) → Exact (λ b a. Unit {0}) s (Some (set_unreachable base s))
  unreachable_exact s = (λ b a g r. tt, λ a g. let h = some_operands s.unreachable s.operands in (h.0, h.1, tt))

  pub apply_exact : (r : Rule) (s : Stack) → Exact (Takes r) s (apply base r s)
  apply_exact (Fixed ps qs) s =
      both_ways (Then (Offs ps) (On qs)) (Takes (Fixed ps qs)) s (apply base (Fixed ps qs) s) (λ b a h. (h.0, h.1, h.2)) (λ b a h. (h.0, h.1, h.2))
      (exact_then (Offs ps) (On qs) s (pop_types ps s) (λ t. Some (push_types base qs t)) (pop_types_exact ps s) (push_types_exact qs))
  apply_exact (Diverges ps) s =
      both_ways (Then (Offs ps) (λ b a. Unit {0})) (Takes (Diverges ps)) s (apply base (Diverges ps) s) (λ b a h. (h.0, h.1)) (λ b a h. (h.0, h.1, tt))
      (exact_then (Offs ps) (λ b a. Unit {0}) s (pop_types ps s) (λ t. Some (set_unreachable base t)) (pop_types_exact ps s) unreachable_exact)
  apply_exact Drops s = drops_exact s (pop s) (pop_exact s)
  apply_exact Selects s = select_exact s
  apply_exact Wrong s = λ b a h r. r

none_stands : (d : Bool) (k : Option ValType) (ks : List (Option ValType)) → StandsAs d (k ∷ ks) [] → ⊥
none_stands d None ks h = cc (h.2)
none_stands d (Some t) ks h = cc (h.1)

-- whether something holds
abbrev pub Decides : Type 0 → Option Stack → Type 0
Decides P None = P → ⊥
Decides P (Some e) = P

-- inner code
module _ (D : Context) (body : Code) (t : Option ValType) (s : Stack) where
  abbrev Body : Type 0
  Body = Typed D body [] (result_types t)

  end_block_end : (r e : Stack) (ks : List (Option ValType)) → Exact (Typed D body) s (Some r) → ((b a : List ValType) → Stands r b → b ≡ result_types t ++ a → StandsAs e.unreachable ks a) → ((a : List ValType) → StandsAs e.unreachable ks a → (b : List ValType) × Stands r b × (b ≡ result_types t ++ a)) → ((b : List ValType) → Stands s b → b ≡ []) → Stands s [] → Decides Body (when (no_more e ks) (Some e))
  end_block_end r e [] x to from only at =
      let b = from [] (below_nothing e.unreachable) in
      let y = x.1 b.0 b.1 in
      subst (λ (v : List ValType). Typed D body [] v) (b.2 ∙ append-nil (result_types t)) (subst (λ (v : List ValType). Typed D body v b.0) (only y.0 y.1) y.2)
  end_block_end r e (k ∷ ks) x to from only at = λ q.
      none_stands e.unreachable k ks (to (result_types t) [] (x.0 [] (result_types t) at q) (sym (append-nil (result_types t))))

  end_block_as : (r : Stack) (o : Option Stack) → Exact (Typed D body) s (Some r) → Exact (Offs (result_types t)) r o → ((b : List ValType) → Stands s b → b ≡ []) → Stands s [] → Decides Body (and_then o (λ e. when (no_more e e.operands) (Some e)))
  end_block_as r None x f only at = λ q. f (result_types t) [] (x.0 [] (result_types t) at q) (sym (append-nil (result_types t)))
  end_block_as r (Some e) x f only at = end_block_end r e e.operands x f.0 f.1 only at

  end_block_exact : (o : Option Stack) → Exact (Typed D body) s o → ((b : List ValType) → Stands s b → b ≡ []) → Stands s [] → Decides Body (end_block t o)
  end_block_exact None x only at = λ q. x [] (result_types t) at q
  end_block_exact (Some r) x only at = end_block_as r (pop_types (result_types t) r) x (pop_types_exact (result_types t) r) only at

-- where something holds, this change
abbrev pub With : Type 0 → Change → Change
With P R b a = P × R b a

with_exact : (P : Type 0) (R : Change) (s : Stack) (o : Option Stack) (go : Stack → Option Stack) → Decides P o → ((e : Stack) → Exact R s (go e)) → Exact (With P R) s (and_then o go)
with_exact P R s None go d f = λ b a h q. d q.0
with_exact P R s (Some e) go d f = both_ways R (With P R) s (go e) (λ b a h. (d, h)) (λ b a h. h.1) (f e)

-- results on top, and then
with_results : (base : ℕ) (ts : List ValType) (R : Change) (s : Stack) (o : Option Stack) → Exact R (push_types base ts s) o → Exact (λ b a. R (ts ++ b) a) s o
with_results base ts R s o e =
    both_ways (Then (On ts) R) (λ b a. R (ts ++ b) a) s o (λ b a h. subst (λ (x : List ValType). R x a) h.1 h.2) (λ b a h. (ts ++ b, refl, h))
    (exact_some (On ts) R s (push_types base ts s) o (push_types_exact base ts s) e)

pub check_exact : (base : ℕ) (C : Context) (c : Code) (s : Stack) → Exact (Typed C c) s (check base C c s)
check_exact base C End s = (λ b a h r. subst (λ (x : List ValType). Stands s x) r h, λ a h. (a, h, refl))
check_exact base C (Plain i rest) s = exact_then (Takes (rule C i)) (Typed C rest) s (apply base (rule C i) s) (check base C rest) (apply_exact base (rule C i) s) (check_exact base C rest)
check_exact base C (Block t body rest) s =
    let D = under (result_types t) C in
    let o = check (base + length s.operands) D body (enter C s) in
    with_exact (Typed D body [] (result_types t)) (λ b a. Typed C rest (result_types t ++ b) a) s (end_block t o) (λ e. check base C rest (push_types base (result_types t) (leave s e)))
    (end_block_exact D body t (enter C s) o (check_exact (base + length s.operands) D body (enter C s)) (λ b h. h) refl)
    (λ e. with_results base (result_types t) (Typed C rest) (leave s e) (check base C rest (push_types base (result_types t) (leave s e))) (check_exact base C rest (push_types base (result_types t) (leave s e))))
check_exact base C (Loop t body rest) s =
    let D = under [] C in
    let o = check (base + length s.operands) D body (enter C s) in
    with_exact (Typed D body [] (result_types t)) (λ b a. Typed C rest (result_types t ++ b) a) s (end_block t o) (λ e. check base C rest (push_types base (result_types t) (leave s e)))
    (end_block_exact D body t (enter C s) o (check_exact (base + length s.operands) D body (enter C s)) (λ b h. h) refl)
    (λ e. with_results base (result_types t) (Typed C rest) (leave s e) (check base C rest (push_types base (result_types t) (leave s e))) (check_exact base C rest (push_types base (result_types t) (leave s e))))
check_exact base C (If t first second rest) s =
    let D = under (result_types t) C in
    let P = Typed D first [] (result_types t) in
    let Q = Typed D second [] (result_types t) in
    let T : Change = λ b a. Typed C rest (result_types t ++ b) a in
    let S : Change = With P (With Q T) in
    let one : Stack → Option Stack = λ u. check (base + length u.operands) D first (enter C u) in
    let two : Stack → Stack → Option Stack = λ u v. check (base + length u.operands) D second (enter C (leave u v)) in
    let last : Stack → Stack → Option Stack = λ u e. check base C rest (push_types base (result_types t) (leave u e)) in
    both_ways (Then (Off I32) S) (Typed C (If t first second rest)) s (check base C (If t first second rest) s)
    (λ b a h. (h.0, h.1, h.2.0, h.2.1.0, h.2.1.1))
    (λ b a h. (h.0, h.1, (h.2, (h.3, h.4))))
    (exact_then (Off I32) S s (pop_type I32 s) (λ u. and_then (end_block t (one u)) (λ v. and_then (end_block t (two u v)) (last u)))
    (pop_type_exact I32 s.unreachable s.operands s.peak_operands s.peak_labels)
    (λ u. with_exact P (With Q T) u (end_block t (one u)) (λ v. and_then (end_block t (two u v)) (last u))
    (end_block_exact D first t (enter C u) (one u) (check_exact (base + length u.operands) D first (enter C u)) (λ b h. h) refl)
    (λ v. with_exact Q T u (end_block t (two u v)) (last u)
    (end_block_exact D second t (enter C (leave u v)) (two u v) (check_exact (base + length u.operands) D second (enter C (leave u v))) (λ b h. h) refl)
    (λ e. with_results base (result_types t) (Typed C rest) (leave u e) (last u e) (check_exact base C rest (push_types base (result_types t) (leave u e)))))))
check_exact base C (Call x rest) s =
    exact_then (Takes (call_rule C x)) (Typed C rest) s (apply base (call_rule C x) s) (check base C rest) (apply_exact base (call_rule C x) s) (check_exact base C rest)
check_exact base C (CallIndirect x rest) s =
    exact_then (Takes (call_indirect_rule C x)) (Typed C rest) s (apply base (call_indirect_rule C x) s) (check base C rest) (apply_exact base (call_indirect_rule C x) s) (check_exact base C rest)

-- a whole body: exactly the typed ones are found
pub body_exact : (C : Context) (t : Option ValType) (body : Code) → Decides (Typed C body [] (result_types t)) (check_body C t body)
body_exact C t body = end_block_exact C body t empty_stack (check 0 C body empty_stack) (check_exact 0 C body empty_stack) (λ b h. h) refl
