-- The checking algorithm of the standard's appendix A.3, on trees: it counts operands, of which some have an unknown type.
use Rattle.wasm_types.specs.SameTypes.{same}
use Rattle.std.specs.Prelude.{◌≡◌, ℕ, ◌+◌, List, [], ◌∷◌, Bool, true, false, Option, Some, None, length, max}
use Rattle.wasm_types.specs.declared.types.ValType.{ValType}
use Rattle.wasm_types.specs.declared.types.ValType.TheVariants.{I32}
use Rattle.wasm_types.specs.Tree.{Code, End, Plain, Block, Loop, If, Call, CallIndirect}
use Rattle.wasm_spec.specs.Typing.{result_types, Context, under, Rule, Fixed, Diverges, Drops, Selects, Wrong, rule, call_rule, call_indirect_rule}

-- the operands of the innermost block, the top first, where None is an operand of unknown type. Below them is nothing, or
-- anything in code that isn't reached. `peak_operands` is the greatest number of operands so far, those of the blocks around counted too,
-- and `peak_labels` the greatest number of labels.
pub record Stack : Type 0 where
  pub unreachable : Bool
  pub operands : List (Option ValType)
  pub peak_operands : ℕ
  pub peak_labels : ℕ

-- the lists of types that a stack stands for
abbrev pub Below : Bool → List ValType → Type 0
Below true vs = Unit {0}
Below false vs = vs ≡ []

abbrev pub StandsAs : Bool → List (Option ValType) → List ValType → Type 0
StandsAs d [] vs = Below d vs
StandsAs d (Some t ∷ ks) vs = (below : List ValType) × (vs ≡ t ∷ below) × StandsAs d ks below
StandsAs d (None ∷ ks) vs = (t : ValType) × (below : List ValType) × (vs ≡ t ∷ below) × StandsAs d ks below

abbrev pub Stands : Stack → List ValType → Type 0
Stands s vs = StandsAs s.unreachable s.operands vs

abbrev pub and_then : {A B : Type 0} → Option A → (A → Option B) → Option B
and_then None go = None
and_then (Some a) go = go a

abbrev pub when : {A : Type 0} → Bool → Option A → Option A
when true o = o
when false o = None

abbrev pub with_operands : List (Option ValType) → Stack → Stack
with_operands ks s = record s { operands = ks }

pub record Popped : Type 0 where
  pub top : Option ValType
  pub rest : Stack

abbrev pub pop_empty : Bool → Stack → Option Popped
pop_empty true s = Some (record { top = None; rest = s })
pop_empty false s = None

abbrev pub pop_as : List (Option ValType) → Stack → Option Popped
pop_as [] s = pop_empty s.unreachable s
pop_as (k ∷ ks) s = Some (record { top = k; rest = with_operands ks s })

abbrev pub pop : Stack → Option Popped
pop s = pop_as s.operands s

abbrev pub agrees : ValType → Option ValType → Bool
agrees t None = true
agrees t (Some u) = same t u

-- one operand of this type
abbrev pub pop_type : ValType → Stack → Option Stack
pop_type t s = and_then (pop s) (λ p. when (agrees t p.top) (Some p.rest))

abbrev pub pop_types : List ValType → Stack → Option Stack
pop_types [] s = Some s
pop_types (t ∷ ts) s = and_then (pop_type t s) (pop_types ts)

-- no operand, in code that isn't reached: whatever types are popped, they are there
abbrev pub HasAny : Stack → Type 0
HasAny s = (s.operands ≡ []) × (s.unreachable ≡ true)

-- the one type that both may be
abbrev pub both : Option ValType → Option ValType → Option (Option ValType)
both None l = Some l
both (Some t) None = Some (Some t)
both (Some t) (Some u) = when (same t u) (Some (Some t))

module _ (base : ℕ) where
  abbrev pub push : Option ValType → Stack → Stack
  push k s = record s { operands = k ∷ s.operands; peak_operands = max s.peak_operands (base + length s.operands + 1) }

  abbrev pub push_types : List ValType → Stack → Stack
  push_types [] s = s
  push_types (t ∷ ts) s = push (Some t) (push_types ts s)

  abbrev pub set_unreachable : Stack → Stack
  set_unreachable s = record s { unreachable = true; operands = [] }

  abbrev pub select_both : Popped → Popped → Option Stack
  select_both p q = and_then (both p.top q.top) (λ k. Some (push k q.rest))

  abbrev pub select_second : Popped → Option Stack
  select_second p = and_then (pop p.rest) (select_both p)

  abbrev pub select_first : Stack → Option Stack
  select_first s = and_then (pop s) select_second

  abbrev pub select : Stack → Option Stack
  select s = and_then (pop_type I32 s) select_first

  abbrev pub apply : Rule → Stack → Option Stack
  apply (Fixed ps qs) s = and_then (pop_types ps s) (λ t. Some (push_types qs t))
  apply (Diverges ps) s = and_then (pop_types ps s) (λ t. Some (set_unreachable t))
  apply Drops s = and_then (pop s) (λ p. Some p.rest)
  apply Selects s = select s
  apply Wrong s = None

-- exactly these are left
abbrev pub no_more : Stack → List (Option ValType) → Bool
no_more s [] = true
no_more s (k ∷ ks) = false

-- the end of inner code with these results: exactly they are left
abbrev pub end_block : Option ValType → Option Stack → Option Stack
end_block t None = None
end_block t (Some r) = and_then (pop_types (result_types t) r) (λ e. when (no_more e e.operands) (Some e))

-- the outer stack, after inner code that ended so
abbrev pub leave : Stack → Stack → Stack
leave s e = record e { unreachable = s.unreachable; operands = s.operands }

abbrev pub enter : Context → Stack → Stack
enter C s = record s { unreachable = false; operands = []; peak_labels = max s.peak_labels (length C.labels + 1) }

abbrev pub check : ℕ → Context → Code → Stack → Option Stack
check base C End s = Some s
check base C (Plain i rest) s = and_then (apply base (rule C i) s) (check base C rest)
check base C (Block t body rest) s =
    and_then (end_block t (check (base + length s.operands) (under (result_types t) C) body (enter C s))) (λ e. check base C rest (push_types base (result_types t) (leave s e)))
check base C (Loop t body rest) s =
    and_then (end_block t (check (base + length s.operands) (under [] C) body (enter C s))) (λ e. check base C rest (push_types base (result_types t) (leave s e)))
check base C (If t first second rest) s =
    and_then (pop_type I32 s) (λ u. and_then (end_block t (check (base + length u.operands) (under (result_types t) C) first (enter C u)))
    (λ v. and_then (end_block t (check (base + length u.operands) (under (result_types t) C) second (enter C (leave u v)))) (λ e. check base C rest (push_types base (result_types t) (leave u e)))))
check base C (Call x rest) s = and_then (apply base (call_rule C x) s) (check base C rest)
check base C (CallIndirect x rest) s = and_then (apply base (call_indirect_rule C x) s) (check base C rest)

-- a function's body under its own label
abbrev pub empty_stack : Stack
empty_stack = record { unreachable = false; operands = []; peak_operands = 0; peak_labels = 1 }

abbrev pub check_body : Context → Option ValType → Code → Option Stack
check_body C result body = end_block result (check 0 C body empty_stack)
