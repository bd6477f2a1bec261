-- What the checking algorithm counts is what a frame needs.
use Rattle.std.proofs.Common.{◌≡◌, ℕ, suc, ◌+◌, ◌-◌, ◌≤◌, List, [], ◌∷◌, Bool, true, false, length, Option, Some, None, refl, sym, ap, ◌∙◌, subst, arith}
use Rattle.std.specs.Prelude.{max}
use Rattle.wasm_types.specs.declared.types.ValType.{ValType}
use Rattle.wasm_types.specs.declared.types.ValType.TheVariants.{I32}
use Rattle.wasm_types.specs.Tree.{Code, End, Plain, Block, Loop, If, Call, CallIndirect}
use Rattle.wasm_spec.specs.Typing.{result_types, Context, under, Rule, Fixed, Diverges, Drops, Selects, Wrong, rule, call_rule, call_indirect_rule}
use Rattle.wasm_checker.specs.Check.{Stack, and_then, when, Popped, pop, agrees, pop_type, pop_types, push, push_types, set_unreachable, both, select_both, select_second, select_first, select, apply, no_more, end_block, leave, enter, check, empty_stack, check_body}
use Rattle.wasm_spec.specs.Need.{height, highest, deepest}
use Rattle.wasm_spec.proofs.NeedLaws.{highest-least, deepest-least}

-- a step that went on
record Went {A : Type 0} (o : Option A) (go : A → Option Stack) (t : Stack) : Type 0 where
  on : A
  is : o ≡ Some on
  then : go on ≡ Some t

went : {A : Type 0} (o : Option A) (go : A → Option Stack) (t : Stack) → and_then o go ≡ Some t → Went o go t
went None go t e = cc
went (Some a) go t e = record { on = a; is = refl; then = e }

-- this height, and the same found so far
record Keeps (n : ℕ) (s t : Stack) : Type 0 where
  height_is : length t.operands ≡ n
  peak_operands : t.peak_operands ≡ s.peak_operands
  peak_labels : t.peak_labels ≡ s.peak_labels

pop_as_keeps : (d : Bool) (ks : List (Option ValType)) (p n : ℕ) (q : Popped) → let s : Stack = record { unreachable = d; operands = ks; peak_operands = p; peak_labels = n } in pop s ≡ Some q → Keeps (length ks - 1) s q.rest
pop_as_keeps true [] p n q e = let r : q.rest ≡ record { unreachable = true; operands = []; peak_operands = p; peak_labels = n } = cc (e) in
    record { height_is = ap (λ (s : Stack). length s.operands) r; peak_operands = ap (λ (s : Stack). s.peak_operands) r; peak_labels = ap (λ (s : Stack). s.peak_labels) r }
pop_as_keeps false [] p n q e = cc
pop_as_keeps d (k ∷ ks) p n q e = let r : q.rest ≡ record { unreachable = d; operands = ks; peak_operands = p; peak_labels = n } = cc (e) in
    record { height_is = omega (arith, ap (λ (s : Stack). length s.operands) r); peak_operands = ap (λ (s : Stack). s.peak_operands) r; peak_labels = ap (λ (s : Stack). s.peak_labels) r }

pop_keeps : (s : Stack) (q : Popped) → pop s ≡ Some q → Keeps (length s.operands - 1) s q.rest
pop_keeps s q e = pop_as_keeps s.unreachable s.operands s.peak_operands s.peak_labels q e

when_some : (b : Bool) (s t : Stack) → when b (Some s) ≡ Some t → s ≡ t
when_some true s t e = cc
when_some false s t e = cc

pop_type_keeps : (v : ValType) (s t : Stack) → pop_type v s ≡ Some t → Keeps (length s.operands - 1) s t
pop_type_keeps v s t e =
    let w = went (pop s) (λ p. when (agrees v p.top) (Some p.rest)) t e in
    subst (Keeps (length s.operands - 1) s) (when_some (agrees v w.on.top) w.on.rest t w.then) (pop_keeps s w.on w.is)

pop_types_keep : (vs : List ValType) (s t : Stack) → pop_types vs s ≡ Some t → Keeps (length s.operands - length vs) s t
pop_types_keep [] s t e = let r : t ≡ s = cc in
    record { height_is = omega (arith, ap (λ (x : Stack). length x.operands) r); peak_operands = ap (λ (x : Stack). x.peak_operands) r; peak_labels = ap (λ (x : Stack). x.peak_labels) r }
pop_types_keep (v ∷ vs) s t e =
    let w = went (pop_type v s) (pop_types vs) t e in
    let a = pop_type_keeps v s w.on w.is in
    let b = pop_types_keep vs w.on t w.then in
    record { height_is = omega (arith, a.height_is, b.height_is); peak_operands = b.peak_operands ∙ a.peak_operands; peak_labels = b.peak_labels ∙ a.peak_labels }

-- a step to a height, which the peak_operands follows
record Rises (base n : ℕ) (s t : Stack) : Type 0 where
  height_is : length t.operands ≡ n
  peak_operands : t.peak_operands ≡ max s.peak_operands (base + n)
  peak_labels : t.peak_labels ≡ s.peak_labels

push_types_rise : (base : ℕ) (vs : List ValType) (s : Stack) → base + length s.operands ≤ s.peak_operands → Rises base (length s.operands + length vs) s (push_types base vs s)
push_types_rise base [] s le = record { height_is = omega arith; peak_operands = omega arith; peak_labels = refl }
push_types_rise base (v ∷ vs) s le =
    let a = push_types_rise base vs s le in
    record { height_is = omega (arith, a.height_is); peak_operands = omega (arith, a.height_is, a.peak_operands); peak_labels = a.peak_labels }

select_rises : (base : ℕ) (s t : Stack) → base + length s.operands ≤ s.peak_operands → select base s ≡ Some t → Rises base ((length s.operands - 3) + 1) s t
select_rises base s t le e =
    let w = went (pop_type I32 s) (select_first base) t e in
    let a = pop_type_keeps I32 s w.on w.is in
    let x = went (pop w.on) (select_second base) t w.then in
    let b = pop_keeps w.on x.on x.is in
    let y = went (pop x.on.rest) (select_both base x.on) t x.then in
    let c = pop_keeps x.on.rest y.on y.is in
    let z = went (both x.on.top y.on.top) (λ k. Some (push base k y.on.rest)) t y.then in
    let r : t ≡ push base z.on y.on.rest = cc (z.then) in
    record {
      height_is = omega (arith, a.height_is, b.height_is, c.height_is, ap (λ (q : Stack). length q.operands) r);
      peak_operands = omega (arith, a.height_is, b.height_is, c.height_is, a.peak_operands, b.peak_operands, c.peak_operands, ap (λ (q : Stack). q.peak_operands) r);
      peak_labels = ap (λ (q : Stack). q.peak_labels) r ∙ c.peak_labels ∙ b.peak_labels ∙ a.peak_labels;
    }

apply_rises : (base : ℕ) (r : Rule) (s t : Stack) → base + length s.operands ≤ s.peak_operands → apply base r s ≡ Some t → Rises base (height r (length s.operands)) s t
apply_rises base (Fixed ps qs) s t le e =
    let w = went (pop_types ps s) (λ u. Some (push_types base qs u)) t e in
    let a = pop_types_keep ps s w.on w.is in
    let b = push_types_rise base qs w.on (omega (arith, a.height_is, a.peak_operands)) in
    let r : t ≡ push_types base qs w.on = cc (w.then) in
    record {
      height_is = omega (arith, a.height_is, b.height_is, ap (λ (q : Stack). length q.operands) r);
      peak_operands = omega (arith, a.height_is, a.peak_operands, b.peak_operands, ap (λ (q : Stack). q.peak_operands) r);
      peak_labels = ap (λ (q : Stack). q.peak_labels) r ∙ b.peak_labels ∙ a.peak_labels;
    }
apply_rises base (Diverges ps) s t le e =
    let w = went (pop_types ps s) (λ u. Some (set_unreachable base u)) t e in
    let a = pop_types_keep ps s w.on w.is in
    let r : t ≡ set_unreachable base w.on = cc (w.then) in
    record { height_is = ap (λ (q : Stack). length q.operands) r; peak_operands = omega (arith, a.peak_operands, ap (λ (q : Stack). q.peak_operands) r); peak_labels = ap (λ (q : Stack). q.peak_labels) r ∙ a.peak_labels }
apply_rises base Drops s t le e =
    let w = went (pop s) (λ p. Some p.rest) t e in
    let a = pop_keeps s w.on w.is in
    let r : t ≡ w.on.rest = cc (w.then) in
    record { height_is = ap (λ (q : Stack). length q.operands) r ∙ a.height_is; peak_operands = omega (arith, a.peak_operands, ap (λ (q : Stack). q.peak_operands) r); peak_labels = ap (λ (q : Stack). q.peak_labels) r ∙ a.peak_labels }
apply_rises base Selects s t le e = select_rises base s t le e
apply_rises base Wrong s t le e = cc

-- what was found
pub record Found (s t : Stack) (peak_operands peak_labels : ℕ) : Type 0 where
  pub peak_operands_is : t.peak_operands ≡ max s.peak_operands peak_operands
  pub peak_labels_is : t.peak_labels ≡ max s.peak_labels peak_labels

no_more_same : (e s : Stack) (ks : List (Option ValType)) → when (no_more e ks) (Some e) ≡ Some s → e ≡ s
no_more_same e s [] h = cc
no_more_same e s (k ∷ ks) h = cc

record Left (o : Option Stack) (e : Stack) : Type 0 where
  end : Stack
  is : o ≡ Some end
  peak_operands : e.peak_operands ≡ end.peak_operands
  peak_labels : e.peak_labels ≡ end.peak_labels

left : (t : Option ValType) (o : Option Stack) (e : Stack) → end_block t o ≡ Some e → Left o e
left t None e h = cc
left t (Some r) e h =
    let w = went (pop_types (result_types t) r) (λ x. when (no_more x x.operands) (Some x)) e h in
    let k = pop_types_keep (result_types t) r w.on w.is in
    let same = no_more_same w.on e w.on.operands w.then in
    record { end = r; is = refl; peak_operands = ap (λ (x : Stack). x.peak_operands) (sym same) ∙ k.peak_operands; peak_labels = ap (λ (x : Stack). x.peak_labels) (sym same) ∙ k.peak_labels }

-- inner code, where the walk finds this in it
body_found : (C : Context) (t : Option ValType) (o : Option Stack) (s e : Stack) (peak_operands peak_labels : ℕ) → length C.labels + 1 ≤ peak_labels → ((r : Stack) → o ≡ Some r → Found (enter C s) r peak_operands peak_labels) → end_block t o ≡ Some e → Found s e peak_operands peak_labels
body_found C t o s e peak_operands peak_labels le ih h =
    let x = left t o e h in
    let f = ih x.end x.is in
    record { peak_operands_is = x.peak_operands ∙ f.peak_operands_is; peak_labels_is = omega (arith, x.peak_labels, f.peak_labels_is) }

-- results on the outer stack, and then
rest_found : (base : ℕ) (C : Context) (vs : List ValType) (rest : Code) (s e t : Stack) (peak_operands peak_labels : ℕ) → base + length s.operands ≤ e.peak_operands → length C.labels ≤ e.peak_labels → Found s e peak_operands peak_labels
    → ((u : Stack) → base + length u.operands ≤ u.peak_operands → length C.labels ≤ u.peak_labels → check base C rest u ≡ Some t → Found u t (highest base C rest (length u.operands)) (deepest (length C.labels) rest))
    → check base C rest (push_types base vs (leave s e)) ≡ Some t → Found s t (max peak_operands (highest base C rest (length s.operands + length vs))) (max peak_labels (deepest (length C.labels) rest))
rest_found base C vs rest s e t peak_operands peak_labels le ld f ih h =
    let u = push_types base vs (leave s e) in
    let r = push_types_rise base vs (leave s e) le in
    let x = ih u (omega (arith, r.height_is, r.peak_operands)) (omega (arith, r.peak_labels)) h in
    let same : highest base C rest (length u.operands) ≡ highest base C rest (length s.operands + length vs) = ap (λ (n : ℕ). highest base C rest n) r.height_is in
    record {
      peak_operands_is = omega (arith, x.peak_operands_is, r.peak_operands, f.peak_operands_is, same, highest-least base C rest (length s.operands + length vs));
      peak_labels_is = omega (arith, x.peak_labels_is, r.peak_labels, f.peak_labels_is);
    }

-- an instruction with this rule, and then
rule_found : (base : ℕ) (C : Context) (r : Rule) (rest : Code) (s t : Stack) → base + length s.operands ≤ s.peak_operands → length C.labels ≤ s.peak_labels
    → ((u v : Stack) → base + length u.operands ≤ u.peak_operands → length C.labels ≤ u.peak_labels → check base C rest u ≡ Some v → Found u v (highest base C rest (length u.operands)) (deepest (length C.labels) rest))
    → and_then (apply base r s) (check base C rest) ≡ Some t → Found s t (max (base + length s.operands) (highest base C rest (height r (length s.operands)))) (deepest (length C.labels) rest)
rule_found base C r rest s t le ld ih h =
    let w = went (apply base r s) (check base C rest) t h in
    let a = apply_rises base r s w.on le w.is in
    let x = ih w.on t (omega (arith, a.height_is, a.peak_operands)) (omega (arith, a.peak_labels)) w.then in
    let n = height r (length s.operands) in
    let same : highest base C rest (length w.on.operands) ≡ highest base C rest n = ap (λ (k : ℕ). highest base C rest k) a.height_is in
    record { peak_operands_is = omega (arith, x.peak_operands_is, a.peak_operands, same, highest-least base C rest n); peak_labels_is = omega (arith, x.peak_labels_is, a.peak_labels) }

pub check_found : (base : ℕ) (C : Context) (c : Code) (s t : Stack) → base + length s.operands ≤ s.peak_operands → length C.labels ≤ s.peak_labels → check base C c s ≡ Some t → Found s t (highest base C c (length s.operands)) (deepest (length C.labels) c)
check_found base C End s t le ld h = let r : s ≡ t = cc in
    record { peak_operands_is = omega (arith, ap (λ (x : Stack). x.peak_operands) r); peak_labels_is = omega (arith, ap (λ (x : Stack). x.peak_labels) r) }
check_found base C (Plain i rest) s t le ld h = rule_found base C (rule C i) rest s t le ld (check_found base C rest) h
check_found base C (Block t body rest) s z le ld h =
    let D = under (result_types t) C in
    let o = check (base + length s.operands) D body (enter C s) in
    let w = went (end_block t o) (λ e. check base C rest (push_types base (result_types t) (leave s e))) z h in
    let up : suc (length C.labels) ≡ length C.labels + 1 = omega arith in
    let f = body_found C t o s w.on (highest (base + length s.operands) D body 0) (deepest (length C.labels + 1) body) (deepest-least (length C.labels + 1) body)
    (λ r e. subst (λ (n : ℕ). Found (enter C s) r (highest (base + length s.operands) D body 0) (deepest n body)) up (check_found (base + length s.operands) D body (enter C s) r (omega arith) (omega arith) e)) w.is in
    rest_found base C (result_types t) rest s w.on z _ _ (omega (arith, f.peak_operands_is)) (omega (arith, f.peak_labels_is)) f (λ u. check_found base C rest u z) w.then
check_found base C (Loop t body rest) s z le ld h =
    let D = under [] C in
    let o = check (base + length s.operands) D body (enter C s) in
    let w = went (end_block t o) (λ e. check base C rest (push_types base (result_types t) (leave s e))) z h in
    let up : suc (length C.labels) ≡ length C.labels + 1 = omega arith in
    let f = body_found C t o s w.on (highest (base + length s.operands) D body 0) (deepest (length C.labels + 1) body) (deepest-least (length C.labels + 1) body)
    (λ r e. subst (λ (n : ℕ). Found (enter C s) r (highest (base + length s.operands) D body 0) (deepest n body)) up (check_found (base + length s.operands) D body (enter C s) r (omega arith) (omega arith) e)) w.is in
    rest_found base C (result_types t) rest s w.on z _ _ (omega (arith, f.peak_operands_is)) (omega (arith, f.peak_labels_is)) f (λ u. check_found base C rest u z) w.then
check_found base C (If t first second rest) s z le ld h =
    let D = under (result_types t) C in
    let x = went (pop_type I32 s) (λ u. and_then (end_block t (check (base + length u.operands) D first (enter C u))) (λ v. and_then (end_block t (check (base + length u.operands) D second (enter C (leave u v)))) (λ e. check base C rest (push_types base (result_types t) (leave u e))))) z h in
    let u = x.on in
    let k = pop_type_keeps I32 s u x.is in
    let o = check (base + length u.operands) D first (enter C u) in
    let w = went (end_block t o) (λ v. and_then (end_block t (check (base + length u.operands) D second (enter C (leave u v)))) (λ e. check base C rest (push_types base (result_types t) (leave u e)))) z x.then in
    let up : suc (length C.labels) ≡ length C.labels + 1 = omega arith in
    let f = body_found C t o u w.on (highest (base + length u.operands) D first 0) (deepest (length C.labels + 1) first) (deepest-least (length C.labels + 1) first)
    (λ r e. subst (λ (n : ℕ). Found (enter C u) r (highest (base + length u.operands) D first 0) (deepest n first)) up (check_found (base + length u.operands) D first (enter C u) r (omega (arith, k.height_is, k.peak_operands)) (omega (arith, k.peak_labels)) e)) w.is in
    let p = check (base + length u.operands) D second (enter C (leave u w.on)) in
    let y = went (end_block t p) (λ e. check base C rest (push_types base (result_types t) (leave u e))) z w.then in
    let g = body_found C t p (leave u w.on) y.on (highest (base + length u.operands) D second 0) (deepest (length C.labels + 1) second) (deepest-least (length C.labels + 1) second)
    (λ r e. subst (λ (n : ℕ). Found (enter C (leave u w.on)) r (highest (base + length u.operands) D second 0) (deepest n second)) up (check_found (base + length u.operands) D second (enter C (leave u w.on)) r (omega (arith, k.height_is, k.peak_operands, f.peak_operands_is)) (omega (arith, k.peak_labels, f.peak_labels_is)) e)) y.is in
    let q = rest_found base C (result_types t) rest u y.on z (max (highest (base + length u.operands) D first 0) (highest (base + length u.operands) D second 0)) (max (deepest (length C.labels + 1) first) (deepest (length C.labels + 1) second))
    (omega (arith, k.height_is, k.peak_operands, f.peak_operands_is, g.peak_operands_is)) (omega (arith, k.peak_labels, f.peak_labels_is, g.peak_labels_is))
    (record { peak_operands_is = omega (arith, f.peak_operands_is, g.peak_operands_is); peak_labels_is = omega (arith, f.peak_labels_is, g.peak_labels_is) }) (λ v. check_found base C rest v z) y.then in
    let h1 : highest (base + length u.operands) D first 0 ≡ highest (base + (length s.operands - 1)) D first 0 = ap (λ (n : ℕ). highest (base + n) D first 0) k.height_is in
    let h2 : highest (base + length u.operands) D second 0 ≡ highest (base + (length s.operands - 1)) D second 0 = ap (λ (n : ℕ). highest (base + n) D second 0) k.height_is in
    let h3 : highest base C rest (length u.operands + length (result_types t)) ≡ highest base C rest ((length s.operands - 1) + length (result_types t)) = ap (λ (n : ℕ). highest base C rest (n + length (result_types t))) k.height_is in
    record { peak_operands_is = omega (arith, q.peak_operands_is, k.peak_operands, h1, h2, h3); peak_labels_is = omega (arith, q.peak_labels_is, k.peak_labels) }
check_found base C (Call x rest) s t le ld h = rule_found base C (call_rule C x) rest s t le ld (check_found base C rest) h
check_found base C (CallIndirect x rest) s t le ld h = rule_found base C (call_indirect_rule C x) rest s t le ld (check_found base C rest) h

-- a whole body
pub record BodyFound (C : Context) (body : Code) (e : Stack) : Type 0 where
  pub peak_operands_is : e.peak_operands ≡ highest 0 C body 0
  pub peak_labels_is : e.peak_labels ≡ deepest 1 body

pub body_need : (C : Context) (t : Option ValType) (body : Code) (e : Stack) → length C.labels ≡ 1 → check_body C t body ≡ Some e → BodyFound C body e
body_need C t body e one h =
    let x = left t (check 0 C body empty_stack) e h in
    let f = check_found 0 C body empty_stack x.end (omega arith) (omega (arith, one)) x.is in
    let d : deepest (length C.labels) body ≡ deepest 1 body = ap (λ (n : ℕ). deepest n body) one in
    record { peak_operands_is = omega (arith, x.peak_operands, f.peak_operands_is); peak_labels_is = omega (arith, x.peak_labels, f.peak_labels_is, d, deepest-least 1 body) }
