-- Bytes begin with at most one instruction, and at most one sequence of instructions.
use Rattle.std.proofs.Common.{◌≡◌, ℕ, ◌≤◌, ◌⊎◌, inl, inr, List, [], ◌∷◌, ◌++◌, replicate, refl, sym, ap, ◌∙◌, subst, arith, ℤ}
use Rattle.std.specs.Prelude.{Option, Some}
use Rattle.std.proofs.lemmas.List.{append_cancel_left}
use Rattle.std.specs.Int.{cast_unsigned, w32, w64}
use Rattle.wasm_types.specs.declared.types.ValType.{ValType}
use Rattle.wasm_values.specs.declared.outcome.Val.TheVariants as val
use Rattle.wasm_types.specs.declared.instr.Instr.{Instr}
use Rattle.wasm_types.specs.declared.instr.Instr.TheVariants as instr
use Rattle.wasm_types.specs.declared.instr.MemArg.{MemArg}
use Rattle.wasm_values.specs.declared.profile.Profile.{Profile}
use Rattle.wasm_values.specs.declared.profile.Profile.TheVariants.{One, Two, Three}
use Rattle.wasm_types.specs.Tree.{Code, End, Plain, Block, Loop, If, Call, CallIndirect}
use Rattle.wasm_spec.specs.Numbers.{TakesUnsigned, IsUnambiguous}
use Rattle.wasm_spec.specs.TypeGrammar.{TakesBlockType}
use Rattle.wasm_spec.specs.InstrGrammar.{Shape, Alone, WithIndex, WithLabels, WithAddress, WithZero, WithI32, WithI64, WithBytes, Prefixed, NotPlain, PrefixedRow, prefixed_row, TakesPrefixed, shape, TakesShape, TakesInstr, Closer, ByEnd, ByElse, closing_byte, TakesCode, TakesExpr}
use Rattle.wasm_spec.proofs.UnambiguousNumbers.{same_first, same_others, unsigned-unique, signed-unique, vec-unique}
use Rattle.wasm_spec.proofs.UnambiguousTypes.{block_type-unique}

address-unique : (m n : MemArg) (bytes mid mid' r s : List ℕ)
    → TakesUnsigned 32 m.align bytes mid → TakesUnsigned 32 m.offset mid r
    → TakesUnsigned 32 n.align bytes mid' → TakesUnsigned 32 n.offset mid' s → (m ≡ n) × (r ≡ s)
address-unique m n bytes mid mid' r s a o b p =
    let i = unsigned-unique 32 m.align n.align bytes mid mid' a b in
    let j = unsigned-unique 32 m.offset n.offset mid r s o (subst (λ (l : List ℕ). TakesUnsigned 32 n.offset l s) (sym i.1) p) in
    let make : ℕ → ℕ → MemArg = λ x y. record { align = x; offset = y } in
    (ap (λ (x : ℕ). make x m.offset) i.0 ∙ ap (λ (y : ℕ). make n.align y) j.0, j.1)

prefixed-unique : IsUnambiguous TakesPrefixed
prefixed-unique i j bytes r s a b =
    let u = unsigned-unique 32 a.number b.number bytes a.mid b.mid a.spelled b.spelled in
    let rows : Some a.row ≡ Some b.row = sym a.found ∙ ap prefixed_row u.0 ∙ b.found in
    let row : a.row ≡ b.row = cc in
    let behind : replicate a.row.zeros 0 ++ r ≡ replicate a.row.zeros 0 ++ s =
    sym a.zeros ∙ u.1 ∙ b.zeros ∙ ap (λ (w : PrefixedRow). replicate w.zeros 0 ++ s) (sym row) in
    (a.is ∙ ap (λ (w : PrefixedRow). w.instr) row ∙ sym b.is, append_cancel_left (replicate a.row.zeros 0) r s behind)

shape-unique : (k : Shape) (i j : Instr) (bytes r s : List ℕ) → TakesShape k i bytes r → TakesShape k j bytes s → (i ≡ j) × (r ≡ s)
shape-unique (Alone k) i j bytes r s a b = (a.0 ∙ sym b.0, a.1 ∙ sym b.1)
shape-unique (WithIndex make) i j bytes r s a b =
    let u = unsigned-unique 32 a.0 b.0 bytes r s a.2 b.2 in
    (a.1 ∙ ap make u.0 ∙ sym b.1, u.1)
shape-unique WithLabels i j bytes r s a b =
    let u = vec-unique (TakesUnsigned 32) (unsigned-unique 32) a.0 b.0 bytes a.2 b.2 a.4 b.4 in
    let v = unsigned-unique 32 a.1 b.1 a.2 r s a.5 (subst (λ (l : List ℕ). TakesUnsigned 32 b.1 l s) (sym u.1) b.5) in
    (a.3 ∙ ap (λ (labels : List ℕ). instr.BrTable labels a.1) u.0 ∙ ap (λ (l : ℕ). instr.BrTable b.0 l) v.0 ∙ sym b.3, v.1)
shape-unique (WithAddress make) i j bytes r s a b =
    let u = address-unique a.0 b.0 bytes a.1 b.1 r s a.3 a.4 b.3 b.4 in
    (a.2 ∙ ap make u.0 ∙ sym b.2, u.1)
shape-unique (WithZero k) i j bytes r s a b = (a.0 ∙ sym b.0, same_others a.1 b.1)
shape-unique WithI32 i j bytes r s a b =
    let u = signed-unique 32 a.0 b.0 bytes r s a.2 b.2 in
    (a.1 ∙ ap (λ (z : ℤ). instr.Const (val.I32 (cast_unsigned w32 z))) u.0 ∙ sym b.1, u.1)
shape-unique WithI64 i j bytes r s a b =
    let u = signed-unique 64 a.0 b.0 bytes r s a.2 b.2 in
    (a.1 ∙ ap (λ (z : ℤ). instr.Const (val.I64 (cast_unsigned w64 z))) u.0 ∙ sym b.1, u.1)
shape-unique (WithBytes n k) i j bytes r s a b = (a.0 ∙ sym b.0, a.2 ∙ sym b.2)
shape-unique Prefixed i j bytes r s a b = prefixed-unique i j bytes r s a b
shape-unique NotPlain i j bytes r s a b = absurd a

pub instr-unique : (profile : Profile) → IsUnambiguous (TakesInstr profile)
instr-unique profile i j bytes r s a b =
    let P : ℕ → List ℕ → Type 0 = λ n l. TakesShape (shape profile n) j l s in
    let f : P a.opcode b.after = subst (λ (n : ℕ). P n b.after) (sym (same_first a.leads b.leads)) b.follows in
    shape-unique (shape profile a.opcode) i j a.after r s a.follows (subst (λ (l : List ℕ). P a.opcode l) (sym (same_others a.leads b.leads)) f)

-- what code begins with: a plain instruction, or this byte
unfoldable pub lead_of_shape : Shape → ℕ → ℕ
lead_of_shape NotPlain b = b
lead_of_shape _ b = 256

unfoldable pub lead : Profile → List ℕ → ℕ
lead profile [] = 257
lead profile (b ∷ bytes) = lead_of_shape (shape profile b) b

abbrev code_lead : Closer → Code → ℕ
code_lead k End = closing_byte k
code_lead k (Plain i more) = 256
code_lead k (Block t body more) = 0x02
code_lead k (Loop t body more) = 0x03
code_lead k (If t first second more) = 0x04
code_lead k (Call x more) = 0x10
code_lead k (CallIndirect x more) = 0x11

pub plain_lead : (k : Shape) (b : ℕ) (i : Instr) (bytes rest : List ℕ) → TakesShape k i bytes rest → lead_of_shape k b ≡ 256
unfolding lead_of_shape
plain_lead (Alone j) b i bytes rest h = refl
plain_lead (WithIndex make) b i bytes rest h = refl
plain_lead WithLabels b i bytes rest h = refl
plain_lead (WithAddress make) b i bytes rest h = refl
plain_lead (WithZero j) b i bytes rest h = refl
plain_lead WithI32 b i bytes rest h = refl
plain_lead WithI64 b i bytes rest h = refl
plain_lead (WithBytes n j) b i bytes rest h = refl
plain_lead Prefixed b i bytes rest h = refl
plain_lead NotPlain b i bytes rest h = absurd h

pub closes : (profile : Profile) (k : Closer) (rest : List ℕ) → lead profile (closing_byte k ∷ rest) ≡ closing_byte k
unfolding lead lead_of_shape shape
closes One ByEnd rest = refl
closes One ByElse rest = refl
closes Two ByEnd rest = refl
closes Two ByElse rest = refl
closes Three ByEnd rest = refl
closes Three ByElse rest = refl

-- what opens a block or makes a call is not plain
pub led : (profile : Profile) (b : ℕ) (bytes : List ℕ) → lead_of_shape (shape profile b) b ≡ b → lead profile (b ∷ bytes) ≡ b
unfolding lead
led profile b bytes e = e

pub opens : (profile : Profile) → (lead_of_shape (shape profile 0x02) 0x02 ≡ 0x02) × (lead_of_shape (shape profile 0x03) 0x03 ≡ 0x03) × (lead_of_shape (shape profile 0x04) 0x04 ≡ 0x04) × (lead_of_shape (shape profile 0x10) 0x10 ≡ 0x10) × (lead_of_shape (shape profile 0x11) 0x11 ≡ 0x11)
unfolding lead_of_shape shape
opens One = (refl, refl, refl, refl, refl)
opens Two = (refl, refl, refl, refl, refl)
opens Three = (refl, refl, refl, refl, refl)

leads : (profile : Profile) (k : Closer) (c : Code) (bytes rest : List ℕ) → TakesCode profile k c bytes rest → lead profile bytes ≡ code_lead k c
unfolding lead
leads profile k End bytes rest h = ap (lead profile) h ∙ closes profile k rest
leads profile k (Plain i more) bytes rest h = ap (lead profile) h.1.leads ∙ plain_lead (shape profile h.1.opcode) h.1.opcode i h.1.after h.0 h.1.follows
leads profile k (Block t body more) bytes rest h = let o = opens profile in ap (lead profile) h.1 ∙ o.0
leads profile k (Loop t body more) bytes rest h = let o = opens profile in ap (lead profile) h.1 ∙ o.1
leads profile k (If t first second more) bytes rest h = let o = opens profile in ap (lead profile) h.1 ∙ o.2
leads profile k (Call x more) bytes rest h = let o = opens profile in ap (lead profile) h.1 ∙ o.3
leads profile k (CallIndirect x more) bytes rest h = let o = opens profile in ap (lead profile) h.1 ∙ o.4

same_lead : (profile : Profile) (k l : Closer) (c d : Code) (bytes r s : List ℕ) → TakesCode profile k c bytes r → TakesCode profile l d bytes s → code_lead k c ≡ code_lead l d
same_lead profile k l c d bytes r s a b = sym (leads profile k c bytes r a) ∙ leads profile l d bytes s b

same_closer : (k l : Closer) → closing_byte k ≡ closing_byte l → k ≡ l
same_closer ByEnd ByEnd e = refl
same_closer ByEnd ByElse e = absurd (omega (arith, e))
same_closer ByElse ByEnd e = absurd (omega (arith, e))
same_closer ByElse ByElse e = refl

closes_from : (k : Closer) → 5 ≤ closing_byte k
closes_from ByEnd = omega arith
closes_from ByElse = omega arith

closes_to : (k : Closer) → closing_byte k ≤ 11
closes_to ByEnd = omega arith
closes_to ByElse = omega arith

closers_differ : ByEnd ≡ ByElse → ⊥
closers_differ e = omega (arith, ap closing_byte e)

-- the sequences of an if
abbrev Arms : Profile → Code → Code → List ℕ → List ℕ → Type 0
Arms profile first second inner mid =
    (TakesCode profile ByEnd first inner mid × (second ≡ End))
    ⊎ ((middle : List ℕ) × TakesCode profile ByElse first inner middle × TakesCode profile ByEnd second middle mid)

abbrev SameCode : Closer → Closer → Code → Code → List ℕ → List ℕ → Type 0
SameCode k l c d r s = (k ≡ l) × (c ≡ d) × (r ≡ s)

-- code c is told from code d
abbrev Told : Profile → Code → Code → Type 0
Told profile c d = (k l : Closer) (bytes r s : List ℕ) → TakesCode profile k c bytes r → TakesCode profile l d bytes s → SameCode k l c d r s

arms-unique : (profile : Profile) (c e d f : Code) (inner r s : List ℕ) → Told profile c d → Told profile e f → Arms profile c e inner r → Arms profile d f inner s → (c ≡ d) × (e ≡ f) × (r ≡ s)
arms-unique profile c e d f inner r s t u (inl a) (inl b) =
    let v = t ByEnd ByEnd inner r s a.0 b.0 in
    (v.1, a.1 ∙ sym b.1, v.2)
arms-unique profile c e d f inner r s t u (inl a) (inr b) =
    let v = t ByEnd ByElse inner r b.0 a.0 b.1 in
    absurd (closers_differ v.0)
arms-unique profile c e d f inner r s t u (inr a) (inl b) =
    let v = t ByElse ByEnd inner a.0 s a.1 b.0 in
    absurd (closers_differ (sym v.0))
arms-unique profile c e d f inner r s t u (inr a) (inr b) =
    let v = t ByElse ByElse inner a.0 b.0 a.1 b.1 in
    let w = u ByEnd ByEnd a.0 r s a.2 (subst (λ (l : List ℕ). TakesCode profile ByEnd f l s) (sym v.2) b.2) in
    (v.1, w.1, w.2)

pub code-unique : (profile : Profile) (c d : Code) → Told profile c d
code-unique profile End End k l bytes r s a b = (same_closer k l (same_first a b), refl, same_others a b)
code-unique profile (Plain i c) (Plain j d) k l bytes r s a b =
    let u = instr-unique profile i j bytes a.0 b.0 a.1 b.1 in
    let v = code-unique profile c d k l a.0 r s a.2 (subst (λ (m : List ℕ). TakesCode profile l d m s) (sym u.1) b.2) in
    (v.0, ap (λ (z : Instr). Plain z c) u.0 ∙ ap (λ (z : Code). Plain j z) v.1, v.2)
code-unique profile (Block t c e) (Block u d f) k l bytes r s a b =
    let h = block_type-unique t u a.0 a.2 b.2 a.3 (subst (λ (m : List ℕ). TakesBlockType u m b.2) (sym (same_others a.1 b.1)) b.3) in
    let v = code-unique profile c d ByEnd ByEnd a.2 a.4 b.4 a.5 (subst (λ (m : List ℕ). TakesCode profile ByEnd d m b.4) (sym h.1) b.5) in
    let w = code-unique profile e f k l a.4 r s a.6 (subst (λ (m : List ℕ). TakesCode profile l f m s) (sym v.2) b.6) in
    (w.0, ap (λ (z : Option ValType). Block z c e) h.0 ∙ ap (λ (z : Code). Block u z e) v.1 ∙ ap (λ (z : Code). Block u d z) w.1, w.2)
code-unique profile (Loop t c e) (Loop u d f) k l bytes r s a b =
    let h = block_type-unique t u a.0 a.2 b.2 a.3 (subst (λ (m : List ℕ). TakesBlockType u m b.2) (sym (same_others a.1 b.1)) b.3) in
    let v = code-unique profile c d ByEnd ByEnd a.2 a.4 b.4 a.5 (subst (λ (m : List ℕ). TakesCode profile ByEnd d m b.4) (sym h.1) b.5) in
    let w = code-unique profile e f k l a.4 r s a.6 (subst (λ (m : List ℕ). TakesCode profile l f m s) (sym v.2) b.6) in
    (w.0, ap (λ (z : Option ValType). Loop z c e) h.0 ∙ ap (λ (z : Code). Loop u z e) v.1 ∙ ap (λ (z : Code). Loop u d z) w.1, w.2)
code-unique profile (If t c e m) (If u d f n) k l bytes r s a b =
    let h = block_type-unique t u a.0 a.2 b.2 a.3 (subst (λ (x : List ℕ). TakesBlockType u x b.2) (sym (same_others a.1 b.1)) b.3) in
    let v = arms-unique profile c e d f a.2 a.4 b.4 (code-unique profile c d) (code-unique profile e f) a.5 (subst (λ (x : List ℕ). Arms profile d f x b.4) (sym h.1) b.5) in
    let w = code-unique profile m n k l a.4 r s a.6 (subst (λ (x : List ℕ). TakesCode profile l n x s) (sym v.2) b.6) in (
      w.0,
      ap (λ (z : Option ValType). If z c e m) h.0 ∙ ap (λ (z : Code). If u z e m) v.0 ∙ ap (λ (z : Code). If u d z m) v.1 ∙ ap (λ (z : Code). If u d f z) w.1,
      w.2,
    )
code-unique profile (Call x c) (Call y d) k l bytes r s a b =
    let u = unsigned-unique 32 x y a.0 a.2 b.2 a.3 (subst (λ (m : List ℕ). TakesUnsigned 32 y m b.2) (sym (same_others a.1 b.1)) b.3) in
    let v = code-unique profile c d k l a.2 r s a.4 (subst (λ (m : List ℕ). TakesCode profile l d m s) (sym u.1) b.4) in
    (v.0, ap (λ (z : ℕ). Call z c) u.0 ∙ ap (λ (z : Code). Call y z) v.1, v.2)
code-unique profile (CallIndirect x c) (CallIndirect y d) k l bytes r s a b =
    let u = unsigned-unique 32 x y a.0 (0 ∷ a.2) (0 ∷ b.2) a.3 (subst (λ (m : List ℕ). TakesUnsigned 32 y m (0 ∷ b.2)) (sym (same_others a.1 b.1)) b.3) in
    let v = code-unique profile c d k l a.2 r s a.4 (subst (λ (m : List ℕ). TakesCode profile l d m s) (sym (same_others refl u.1)) b.4) in
    (v.0, ap (λ (z : ℕ). CallIndirect z c) u.0 ∙ ap (λ (z : Code). CallIndirect y z) v.1, v.2)
code-unique profile End d k l bytes r s a b = absurd (omega (arith, closes_from k, closes_to k, same_lead profile k l End d bytes r s a b))
code-unique profile (Plain i c) d k l bytes r s a b = absurd (omega (arith, closes_from l, closes_to l, same_lead profile k l (Plain i c) d bytes r s a b))
code-unique profile (Block t c e) d k l bytes r s a b = absurd (omega (arith, closes_from l, closes_to l, same_lead profile k l (Block t c e) d bytes r s a b))
code-unique profile (Loop t c e) d k l bytes r s a b = absurd (omega (arith, closes_from l, closes_to l, same_lead profile k l (Loop t c e) d bytes r s a b))
code-unique profile (If t c e m) d k l bytes r s a b = absurd (omega (arith, closes_from l, closes_to l, same_lead profile k l (If t c e m) d bytes r s a b))
code-unique profile (Call x c) d k l bytes r s a b = absurd (omega (arith, closes_from l, closes_to l, same_lead profile k l (Call x c) d bytes r s a b))
code-unique profile (CallIndirect x c) d k l bytes r s a b = absurd (omega (arith, closes_from l, closes_to l, same_lead profile k l (CallIndirect x c) d bytes r s a b))

pub expr-unique : (profile : Profile) → IsUnambiguous (TakesExpr profile)
expr-unique profile c d bytes r s a b = let u = code-unique profile c d ByEnd ByEnd bytes r s a b in (u.1, u.2)
