-- What typing says of plain instructions, kind by kind.
use Rattle.wasm_spec.specs.Execution.{Terms}
use Rattle.std.proofs.Common.{◌≡◌, ℕ, zero, suc, ◌+◌, ◌^◌, ◌<◌, List, [], ◌∷◌, ◌++◌, Bool, true, false, length, map, set, Option, Some, None, Ok, refl, sym, ap, ◌∙◌, subst, arith, length-append}
use Rattle.std.specs.Prelude.{slice_get, nat_lt, nat_le, ◌&&◌, if◌then◌else◌, take, drop, replicate}
use Rattle.std.specs.Option.{option_map}
use Rattle.std.proofs.lemmas.Option.{slice_get_within}
use Rattle.std.specs.Int.{byte_len, to_le_bytes}
use Rattle.wasm_types.specs.declared.types.ValType.{ValType}
use Rattle.wasm_types.specs.declared.types.ValType.TheVariants as type
use Rattle.wasm_types.specs.declared.types.Limits.{Limits}
use Rattle.wasm_types.specs.declared.types.GlobalType.{GlobalType}
use Rattle.wasm_values.specs.declared.outcome.Val.{Val}
use Rattle.wasm_values.specs.declared.outcome.Val.TheVariants as val
use Rattle.wasm_values.specs.declared.outcome.TrapKind.TheVariants as trap
use Rattle.wasm_types.specs.declared.instr.Width.{Width}
use Rattle.wasm_types.specs.declared.instr.Width.TheVariants.{W32}
use Rattle.wasm_types.specs.declared.instr.Instr.{Instr}
use Rattle.wasm_types.specs.declared.instr.Instr.TheVariants as instr
use Rattle.wasm_types.specs.declared.module.Module.{Module}
use Rattle.wasm_types.specs.Tree.{GlobalTree, module_tree}
use Rattle.wasm_spec.specs.Typing.{Context, Rule, Fixed, Wrong, Takes, type_of, integer_type, rule, named, global_type, needs_one}
use Rattle.wasm_spec.specs.Need.{height}
use Rattle.wasm_spec.specs.Store.{Store, loaded}
use Rattle.wasm_spec.specs.Operators.{wrap, int_width, pack_width}
use Rattle.wasm_spec.specs.Execution.{State, Signal, Next, Trapped, value, chosen, with_operands, most_pages, pages_of, write_where, lies_within, plain}
use Rattle.machine_steps.specs.Configuration.{Configuration, state}
use Rattle.wasm_machine.specs.TypedConfiguration.{IsTypedStore}
use Rattle.machine_steps.specs.InstructionKinds.{jumps, takes_width, gives_width, IsOfOne, of_one, IsOfTwo, of_two, IsLoad, IsStoring, address_offset, access_width, loaded_as, stored_as}
use Rattle.wasm_machine.specs.Simulation.{IsPreserved}
use Rattle.wasm_machine.proofs.BranchIfLemmas.{value_there}
use Rattle.machine_steps.proofs.KindLemmas.{Single, Setting, Chosen, one_means, two_means, drop_means, select_means, local_get_means, local_set_means, local_tee_means, global_get_means, global_set_means}
use Rattle.machine_steps.proofs.AccessLemmas.{One, Pair, load_means, store_means, grow_means}
use Rattle.machine_steps.proofs.BulkLemmas.{Three, copy_means, fill_means}
use Rattle.wasm_machine.proofs.TypeLemmas.{has_number, value_type, two_typed, value_preserved}

-- ---- operands of types

single_typed : (w : Width) (vs : List Val) (below : List ValType) → map type_of vs ≡ integer_type w ∷ below → (t : Single w vs) × (map type_of t.rest ≡ below)
single_typed w [] below e = absurd (cc)
single_typed w (x ∷ rest) below e =
    let (n, is) = has_number w x (cc) in
    (record { top = x; rest = rest; are = refl; n = n; is = is }, cc)

one_typed : (vs : List Val) (below : List ValType) → map type_of vs ≡ type.I32 ∷ below → (t : One vs) × (map type_of t.rest ≡ below)
one_typed [] below e = absurd (cc)
one_typed (val.I32 n ∷ vs) below e = (record { n = n; rest = vs; are = refl }, cc)
one_typed (val.I64 n ∷ vs) below e = absurd (cc)

pair_typed : (w : Width) (vs : List Val) (below : List ValType) → map type_of vs ≡ integer_type w ∷ type.I32 ∷ below → (t : Pair w vs) × (map type_of t.rest ≡ below)
pair_typed w [] below e = absurd (cc)
pair_typed w (v ∷ []) below e = absurd (cc)
pair_typed w (v ∷ val.I64 b ∷ vs) below e = absurd (cc)
pair_typed w (v ∷ val.I32 b ∷ vs) below e =
    let (n, is) = has_number w v (cc) in
    (record { top = v; base = b; rest = vs; are = refl; n = n; is = is }, cc)

three_typed : (vs : List Val) (below : List ValType) → map type_of vs ≡ type.I32 ∷ type.I32 ∷ type.I32 ∷ below → (t : Three vs) × (map type_of t.rest ≡ below)
three_typed [] below e = absurd (cc)
three_typed (z ∷ []) below e = absurd (cc)
three_typed (z ∷ y ∷ []) below e = absurd (cc)
three_typed (val.I64 c ∷ y ∷ x ∷ rest) below e = absurd (cc)
three_typed (val.I32 c ∷ val.I64 b ∷ x ∷ rest) below e = absurd (cc)
three_typed (val.I32 c ∷ val.I32 b ∷ val.I64 a ∷ rest) below e = absurd (cc)
three_typed (val.I32 c ∷ val.I32 b ∷ val.I32 a ∷ rest) below e = (record { first = a; second = b; third = c; rest = rest; are = refl }, cc)

top_typed : (vs : List Val) (t : ValType) (below : List ValType) → map type_of vs ≡ t ∷ below → (v : Val) × (rest : List Val) × (vs ≡ v ∷ rest) × (type_of v ≡ t) × (map type_of rest ≡ below)
top_typed [] t below e = absurd (cc)
top_typed (v ∷ rest) t below e = (v, rest, refl, cc, cc)

chosen_typed : (vs : List Val) (t : ValType) (below : List ValType) → map type_of vs ≡ type.I32 ∷ t ∷ t ∷ below
    → (c : Chosen vs) × (type_of c.first ≡ t) × (type_of c.second ≡ t) × (map type_of c.rest ≡ below)
chosen_typed [] t below e = absurd (cc)
chosen_typed (c ∷ []) t below e = absurd (cc)
chosen_typed (c ∷ y ∷ []) t below e = absurd (cc)
chosen_typed (val.I64 c ∷ y ∷ x ∷ rest) t below e = absurd (cc)
chosen_typed (val.I32 c ∷ y ∷ x ∷ rest) t below e = (record { condition = c; first = x; second = y; rest = rest; are = refl }, cc, cc, cc)

setting_typed : (vs ls : List Val) (x : ℕ) (t : ValType) (below : List ValType) → map type_of vs ≡ t ∷ below → slice_get (map type_of ls) x ≡ Some t
    → (s : Setting vs ls x) × (type_of s.top ≡ t) × (map type_of s.rest ≡ below)
setting_typed [] ls x t below e there = absurd (cc)
setting_typed (v ∷ rest) ls x t below e there =
    let (old, got, typed) = value_there ls x t there in
    (record { top = v; rest = rest; are = refl; old = old; there = got }, cc, cc)

-- a value of the same type leaves the types
kept_types : (ls : List Val) (x : ℕ) (v : Val) → slice_get (map type_of ls) x ≡ Some (type_of v) → map type_of (set ls x v) ≡ map type_of ls
kept_types [] x v e = refl
kept_types (l ∷ ls) zero v e = let same : type_of v ≡ type_of l = cc in ap (λ (t : ValType). t ∷ map type_of ls) same
kept_types (l ∷ ls) (suc x) v e = ap (λ (ts : List ValType). type_of l ∷ ts) (kept_types ls x v e)

-- ---- rules

-- a memory that has to be there is
record WithMemory (memories : List Limits) (r : Rule) (ts middle : List ValType) : Type 0 where
  is : needs_one memories r ≡ r
  takes : Takes r ts middle
  some : 0 < length memories

memory_there : (memories : List Limits) (r : Rule) (ts middle : List ValType) → Takes (needs_one memories r) ts middle → WithMemory memories r ts middle
memory_there [] r ts middle h = absurd h
memory_there (l ∷ ls) r ts middle h = record { is = refl; takes = h; some = omega arith }

-- an access that is allowed has its rule
record Allowed (whole r : Rule) (ts middle : List ValType) : Type 0 where
  is : whole ≡ r
  takes : Takes r ts middle

allowed : (memories : List Limits) (b : Bool) (r : Rule) (ts middle : List ValType) → Takes (needs_one memories (if b then r else Wrong)) ts middle → Allowed (needs_one memories (if b then r else Wrong)) r ts middle
allowed [] b r ts middle h = absurd h
allowed (l ∷ ls) true r ts middle h = record { is = refl; takes = h }
allowed (l ∷ ls) false r ts middle h = absurd h

one_rule : (C : Context) (i : Instr) → IsOfOne i → rule C i ≡ Fixed (integer_type (takes_width i) ∷ []) (integer_type (gives_width i) ∷ [])
one_rule C (instr.Eqz w) h = refl
one_rule C (instr.Unary w o) h = refl
one_rule C instr.Wrap h = refl
one_rule C (instr.Extend s) h = refl
one_rule C _ h = absurd h

two_rule : (C : Context) (i : Instr) → IsOfTwo i → rule C i ≡ Fixed (integer_type (takes_width i) ∷ integer_type (takes_width i) ∷ []) (integer_type (gives_width i) ∷ [])
two_rule C (instr.Compare w o) h = refl
two_rule C (instr.Binary w o) h = refl
two_rule C _ h = absurd h

load_rule : (C : Context) (i : Instr) → IsLoad i → (b : Bool) × (rule C i ≡ needs_one C.defined.memories (if b then Fixed (type.I32 ∷ []) (integer_type (gives_width i) ∷ []) else Wrong))
load_rule C (instr.Load w a) h = (nat_le (2 ^ a.align) (byte_len (int_width w)), refl)
load_rule C (instr.LoadPacked w p s a) h = (nat_le (2 ^ a.align) (byte_len (pack_width p)), refl)
load_rule C _ h = absurd h

store_rule : (C : Context) (i : Instr) → IsStoring i → (b : Bool) × (rule C i ≡ needs_one C.defined.memories (if b then Fixed (integer_type (takes_width i) ∷ type.I32 ∷ []) [] else Wrong))
store_rule C (instr.Store w a) h = (nat_le (2 ^ a.align) (byte_len (int_width w)), refl)
store_rule C (instr.StorePacked w p a) h = (nat_le (2 ^ a.align) (byte_len (pack_width p)), refl)
store_rule C _ h = absurd h

-- a rule that takes and gives is counted as it does
counted_by : (r : Rule) (takes gives below ts middle : List ValType) → r ≡ Fixed takes gives → ts ≡ takes ++ below → middle ≡ gives ++ below → height r (length ts) ≡ length middle
counted_by r takes gives below ts middle is before after =
    ap (λ (z : Rule). height z (length ts)) is ∙ omega (arith, ap length before, ap length after, length-append takes below, length-append gives below)

-- the type of a global by its number
global_type_at : (gs : List GlobalTree) (x : ℕ) (g : GlobalType) → option_map (λ (h : GlobalTree). h.global_type) (slice_get gs x) ≡ Some g → slice_get (map (λ (h : GlobalTree). h.global_type.value) gs) x ≡ Some g.value
global_type_at [] x g e = absurd (cc)
global_type_at (h ∷ gs) zero g e = let same : h.global_type ≡ g = cc in ap (λ (t : GlobalType). Some t.value) same
global_type_at (h ∷ gs) (suc x) g e = global_type_at gs x g e

module _ (m : Module) (limits : Terms) (C : Context) (of_module : C.defined ≡ module_tree m) where
  -- ---- one operand more

  -- an instruction that puts this value on the top
  pub record Pushes (i : Instr) (s : State) : Type 0 where
    pub type : ValType
    pub value : Val
    pub rule_is : rule C i ≡ Fixed [] (type ∷ [])
    pub means : plain (module_tree m) limits i s ≡ with_operands (value ∷ s.operands) s
    pub typed : type_of value ≡ type

  local_pushes_as : (x : ℕ) (k : Configuration) (store : Store) (o : Option ValType) (middle : List ValType) → slice_get C.locals x ≡ o → map type_of k.locals ≡ C.locals
      → Takes (named o (λ (t : ValType). Fixed [] (t ∷ []))) (map type_of k.operands) middle → Pushes (instr.LocalGet x) (state k store)
  local_pushes_as x k store None middle e l h = absurd h
  local_pushes_as x k store (Some t) middle e l h =
      let (v, there, typed) = value_there k.locals x t (ap (λ (us : List ValType). slice_get us x) l ∙ e) in
      record { type = t; value = v; rule_is = ap (λ (o : Option ValType). named o (λ (t : ValType). Fixed [] (t ∷ []))) e; means = local_get_means (module_tree m) limits x k store v there; typed = typed }

  -- a global's value, which is there
  pub record PushesGlobal (x : ℕ) (s : State) : Type 0 where
    pub pushes : Pushes (instr.GlobalGet x) s
    pub within : x < length s.store.globals

  global_pushes_as : (x : ℕ) (k : Configuration) (store : Store) (o : Option GlobalType) (middle : List ValType) → global_type C.defined x ≡ o → IsTypedStore m store
      → Takes (named o (λ (g : GlobalType). Fixed [] (g.value ∷ []))) (map type_of k.operands) middle → PushesGlobal x (state k store)
  global_pushes_as x k store None middle e stored h = absurd h
  global_pushes_as x k store (Some g) middle e stored h =
      let there = ap (λ (us : List ValType). slice_get us x) stored.globals ∙ global_type_at (module_tree m).globals x g (ap (λ d. global_type d x) (sym of_module) ∙ e) in
      let (v, got, typed) = value_there store.globals x g.value there in
      record {
        pushes = record { type = g.value; value = v; rule_is = ap (λ (o : Option GlobalType). named o (λ (g : GlobalType). Fixed [] (g.value ∷ []))) e; means = global_get_means (module_tree m) limits x k store v got; typed = typed };
        within = slice_get_within store.globals x v got;
      }

  pub local_pushes : (x : ℕ) (k : Configuration) (store : Store) (middle : List ValType) → map type_of k.locals ≡ C.locals → Takes (rule C (instr.LocalGet x)) (map type_of k.operands) middle → Pushes (instr.LocalGet x) (state k store)
  local_pushes x k store middle l h = local_pushes_as x k store (slice_get C.locals x) middle refl l h

  pub global_pushes : (x : ℕ) (k : Configuration) (store : Store) (middle : List ValType) → IsTypedStore m store → Takes (rule C (instr.GlobalGet x)) (map type_of k.operands) middle → PushesGlobal x (state k store)
  global_pushes x k store middle stored h = global_pushes_as x k store (global_type C.defined x) middle refl stored h

  pub const_pushes : (v : Val) (s : State) → Pushes (instr.Const v) s
  const_pushes v s = record { type = type_of v; value = v; rule_is = refl; means = refl; typed = refl }

  pub size_pushes : (s : State) (ts middle : List ValType) → Takes (rule C instr.MemorySize) ts middle → Pushes instr.MemorySize s
  size_pushes s ts middle h =
      record { type = type.I32; value = val.I32 (pages_of s.store); rule_is = (memory_there C.defined.memories (Fixed [] (type.I32 ∷ [])) ts middle h).is; means = refl; typed = refl }

  push_preserved : (i : Instr) (s : State) (middle : List ValType) → Pushes i s → Takes (rule C i) (map type_of s.operands) middle → map type_of s.locals ≡ C.locals → IsTypedStore m s.store
      → IsPreserved m C i (map type_of s.operands) middle (plain (module_tree m) limits i s)
  push_preserved i s middle p takes locals stored =
      let (below, before, after) = subst (λ (z : Rule). Takes z (map type_of s.operands) middle) p.rule_is takes in
      subst (λ (e : Signal). IsPreserved m C i (map type_of s.operands) middle e) (sym p.means)
      (record {
        types = ap (λ (u : ValType). u ∷ map type_of s.operands) p.typed ∙ ap (λ (l : List ValType). p.type ∷ l) before ∙ sym after;
        counted = counted_by (rule C i) [] (p.type ∷ []) below (map type_of s.operands) middle p.rule_is before after;
        locals = locals;
        stored = stored;
      })

  -- ---- numbers of numbers

  one_preserved : (i : Instr) (k : Configuration) (store : Store) (middle : List ValType) → IsOfOne i → Takes (rule C i) (map type_of k.operands) middle → map type_of k.locals ≡ C.locals → IsTypedStore m store
      → IsPreserved m C i (map type_of k.operands) middle (plain (module_tree m) limits i (state k store))
  one_preserved i k store middle h takes locals stored =
      let w = takes_width i in
      let v = gives_width i in
      let (below, before, after) = subst (λ (z : Rule). Takes z (map type_of k.operands) middle) (one_rule C i h) takes in
      let (t, types) = single_typed w k.operands below before in
      subst (λ (e : Signal). IsPreserved m C i (map type_of k.operands) middle e) (sym (one_means (module_tree m) limits i k store h t))
      (value_preserved m limits C v i (map type_of k.operands) below middle t.rest (state k store) (Ok (of_one i t.n)) after types
      (counted_by (rule C i) (integer_type w ∷ []) (integer_type v ∷ []) below (map type_of k.operands) middle (one_rule C i h) before after) locals stored)

  two_preserved : (i : Instr) (k : Configuration) (store : Store) (middle : List ValType) → IsOfTwo i → Takes (rule C i) (map type_of k.operands) middle → map type_of k.locals ≡ C.locals → IsTypedStore m store
      → IsPreserved m C i (map type_of k.operands) middle (plain (module_tree m) limits i (state k store))
  two_preserved i k store middle h takes locals stored =
      let w = takes_width i in
      let v = gives_width i in
      let (below, before, after) = subst (λ (z : Rule). Takes z (map type_of k.operands) middle) (two_rule C i h) takes in
      let (t, types) = two_typed w k.operands below before in
      subst (λ (e : Signal). IsPreserved m C i (map type_of k.operands) middle e) (sym (two_means (module_tree m) limits i k store h t))
      (value_preserved m limits C v i (map type_of k.operands) below middle t.rest (state k store) (of_two i t.a t.b) after types
      (counted_by (rule C i) (integer_type w ∷ integer_type w ∷ []) (integer_type v ∷ []) below (map type_of k.operands) middle (two_rule C i h) before after) locals stored)

  -- ---- operands alone

  drop_preserved : (k : Configuration) (store : Store) (middle : List ValType) → Takes (rule C instr.Drop) (map type_of k.operands) middle → map type_of k.locals ≡ C.locals → IsTypedStore m store
      → IsPreserved m C instr.Drop (map type_of k.operands) middle (plain (module_tree m) limits instr.Drop (state k store))
  drop_preserved k store middle (t, takes) locals stored =
      let (v, rest, are, typed, types) = top_typed k.operands t middle takes in
      subst (λ (e : Signal). IsPreserved m C instr.Drop (map type_of k.operands) middle e) (sym (drop_means (module_tree m) limits k store v rest are))
      (record { types = types; counted = omega (arith, ap length takes); locals = locals; stored = stored })

  select_as : (c : ℕ) (t : ValType) (x y : Val) (ts below middle : List ValType) (vs : List Val) (s : State) → type_of x ≡ t → type_of y ≡ t → map type_of vs ≡ below → middle ≡ t ∷ below
      → height (rule C instr.Select) (length ts) ≡ length middle → map type_of s.locals ≡ C.locals → IsTypedStore m s.store
      → IsPreserved m C instr.Select ts middle (chosen c (with_operands (x ∷ vs) s) (with_operands (y ∷ vs) s))
  select_as zero t x y ts below middle vs s first second types gives counted locals stored = record { types = cc; counted = counted; locals = locals; stored = stored }
  select_as (suc c) t x y ts below middle vs s first second types gives counted locals stored = record { types = cc; counted = counted; locals = locals; stored = stored }

  select_preserved : (k : Configuration) (store : Store) (middle : List ValType) → Takes (rule C instr.Select) (map type_of k.operands) middle → map type_of k.locals ≡ C.locals → IsTypedStore m store
      → IsPreserved m C instr.Select (map type_of k.operands) middle (plain (module_tree m) limits instr.Select (state k store))
  select_preserved k store middle (t, below, takes, gives) locals stored =
      let (c, first, second, types) = chosen_typed k.operands t below takes in
      subst (λ (e : Signal). IsPreserved m C instr.Select (map type_of k.operands) middle e) (sym (select_means (module_tree m) limits k store c))
      (select_as c.condition t c.first c.second (map type_of k.operands) below middle c.rest (state k store) first second types gives (omega (arith, ap length takes, ap length gives)) locals stored)

  -- ---- locals and globals

  local_set_as : (x : ℕ) (k : Configuration) (store : Store) (o : Option ValType) (middle : List ValType) → slice_get C.locals x ≡ o → Takes (named o (λ (t : ValType). Fixed (t ∷ []) [])) (map type_of k.operands) middle → map type_of k.locals ≡ C.locals → IsTypedStore m store
      → IsPreserved m C (instr.LocalSet x) (map type_of k.operands) middle (plain (module_tree m) limits (instr.LocalSet x) (state k store))
  local_set_as x k store None middle e h locals stored = absurd h
  local_set_as x k store (Some t) middle e (below, takes, gives) locals stored =
      let there : slice_get (map type_of k.locals) x ≡ Some t = ap (λ (us : List ValType). slice_get us x) locals ∙ e in
      let (s, typed, types) = setting_typed k.operands k.locals x t below takes there in
      subst (λ (z : Signal). IsPreserved m C (instr.LocalSet x) (map type_of k.operands) middle z) (sym (local_set_means (module_tree m) limits x k store s))
      (record {
        types = types ∙ sym gives;
        counted = counted_by (rule C (instr.LocalSet x)) (t ∷ []) [] below (map type_of k.operands) middle (ap (λ (o : Option ValType). named o (λ (t : ValType). Fixed (t ∷ []) [])) e) takes gives;
        locals = kept_types k.locals x s.top (there ∙ ap (λ (u : ValType). Some u) (sym typed)) ∙ locals;
        stored = stored;
      })

  local_tee_as : (x : ℕ) (k : Configuration) (store : Store) (o : Option ValType) (middle : List ValType) → slice_get C.locals x ≡ o → Takes (named o (λ (t : ValType). Fixed (t ∷ []) (t ∷ []))) (map type_of k.operands) middle → map type_of k.locals ≡ C.locals → IsTypedStore m store
      → IsPreserved m C (instr.LocalTee x) (map type_of k.operands) middle (plain (module_tree m) limits (instr.LocalTee x) (state k store))
  local_tee_as x k store None middle e h locals stored = absurd h
  local_tee_as x k store (Some t) middle e (below, takes, gives) locals stored =
      let there : slice_get (map type_of k.locals) x ≡ Some t = ap (λ (us : List ValType). slice_get us x) locals ∙ e in
      let (s, typed, types) = setting_typed k.operands k.locals x t below takes there in
      subst (λ (z : Signal). IsPreserved m C (instr.LocalTee x) (map type_of k.operands) middle z) (sym (local_tee_means (module_tree m) limits x k store s))
      (record {
        types = ap (λ (vs : List Val). map type_of vs) (sym s.are) ∙ takes ∙ sym gives;
        counted = counted_by (rule C (instr.LocalTee x)) (t ∷ []) (t ∷ []) below (map type_of k.operands) middle (ap (λ (o : Option ValType). named o (λ (t : ValType). Fixed (t ∷ []) (t ∷ []))) e) takes gives;
        locals = kept_types k.locals x s.top (there ∙ ap (λ (u : ValType). Some u) (sym typed)) ∙ locals;
        stored = stored;
      })

  variable : (b : Bool) (takes ts middle : List ValType) → Takes (if b then Fixed takes [] else Wrong) ts middle → (b ≡ true) × Takes (Fixed takes []) ts middle
  variable true takes ts middle h = (refl, h)
  variable false takes ts middle h = absurd h

  global_set_as : (x : ℕ) (k : Configuration) (store : Store) (o : Option GlobalType) (middle : List ValType) → global_type C.defined x ≡ o → Takes (named o (λ (g : GlobalType). if g.mutable then Fixed (g.value ∷ []) [] else Wrong)) (map type_of k.operands) middle → map type_of k.locals ≡ C.locals → IsTypedStore m store
      → IsPreserved m C (instr.GlobalSet x) (map type_of k.operands) middle (plain (module_tree m) limits (instr.GlobalSet x) (state k store)) × (x < length store.globals)
  global_set_as x k store None middle e h locals stored = absurd h
  global_set_as x k store (Some g) middle e h locals stored =
      let (mutable, fixed) = variable g.mutable (g.value ∷ []) (map type_of k.operands) middle h in
      let (below, takes, gives) = fixed in
      let there : slice_get (map type_of store.globals) x ≡ Some g.value =
      ap (λ (us : List ValType). slice_get us x) stored.globals ∙ global_type_at (module_tree m).globals x g (ap (λ d. global_type d x) (sym of_module) ∙ e) in
      let (s, typed, types) = setting_typed k.operands store.globals x g.value below takes there in (
        subst (λ (z : Signal). IsPreserved m C (instr.GlobalSet x) (map type_of k.operands) middle z) (sym (global_set_means (module_tree m) limits x k store s))
            (record {
              types = types ∙ sym gives;
              counted = counted_by (rule C (instr.GlobalSet x)) (g.value ∷ []) [] below (map type_of k.operands) middle
                  (ap (λ (o : Option GlobalType). named o (λ (g : GlobalType). if g.mutable then Fixed (g.value ∷ []) [] else Wrong)) e ∙ ap (λ (b : Bool). if b then Fixed (g.value ∷ []) [] else Wrong) mutable) takes gives;
              locals = locals;
              stored = record { globals = kept_types store.globals x s.top (there ∙ ap (λ (u : ValType). Some u) (sym typed)) ∙ stored.globals; table = stored.table };
            }),
        slice_get_within store.globals x s.old s.there,
      )

  -- ---- memory

  load_as : (b : Bool) (i : Instr) (ts middle below : List ValType) (vs : List Val) (v : Val) (s : State) → middle ≡ type_of v ∷ below → map type_of vs ≡ below → height (rule C i) (length ts) ≡ length middle
      → map type_of s.locals ≡ C.locals → IsTypedStore m s.store → IsPreserved m C i ts middle (if b then Next (record s { operands = v ∷ vs }) else Trapped trap.Memory s.store)
  load_as true i ts middle below vs v s e types counted locals stored =
      record { types = ap (λ (l : List ValType). type_of v ∷ l) types ∙ sym e; counted = counted; locals = locals; stored = stored }
  load_as false i ts middle below vs v s e types counted locals stored = tt

  load_preserved : (i : Instr) (k : Configuration) (store : Store) (middle : List ValType) → IsLoad i → Takes (rule C i) (map type_of k.operands) middle → map type_of k.locals ≡ C.locals → IsTypedStore m store
      → IsPreserved m C i (map type_of k.operands) middle (plain (module_tree m) limits i (state k store))
  load_preserved i k store middle h takes locals stored =
      let v = gives_width i in
      let (fits, is) = load_rule C i h in
      let r : Rule = Fixed (type.I32 ∷ []) (integer_type v ∷ []) in
      let a = allowed C.defined.memories fits r (map type_of k.operands) middle (subst (λ (z : Rule). Takes z (map type_of k.operands) middle) is takes) in
      let (below, before, after) = a.takes in
      let (t, types) = one_typed k.operands below before in
      let n = loaded_as i (loaded (access_width i) store.memory (t.n + address_offset i)) in
      subst (λ (e : Signal). IsPreserved m C i (map type_of k.operands) middle e) (sym (load_means (module_tree m) limits i k store h t))
      (load_as (lies_within store (t.n + address_offset i) (byte_len (access_width i))) i (map type_of k.operands) middle below t.rest (value v n) (state k store)
      (after ∙ ap (λ (u : ValType). u ∷ below) (sym (value_type v n))) types
      (counted_by (rule C i) (type.I32 ∷ []) (integer_type v ∷ []) below (map type_of k.operands) middle (is ∙ a.is) before after) locals stored)

  write_as : (b : Bool) (i : Instr) (ts middle : List ValType) (vs : List Val) (to : ℕ) (bytes : List ℕ) (s : State) → map type_of vs ≡ middle → height (rule C i) (length ts) ≡ length middle
      → map type_of s.locals ≡ C.locals → IsTypedStore m s.store → IsPreserved m C i ts middle (write_where b to bytes vs s)
  write_as true i ts middle vs to bytes s types counted locals stored =
      record { types = types; counted = counted; locals = locals; stored = record { globals = stored.globals; table = stored.table } }
  write_as false i ts middle vs to bytes s types counted locals stored = tt

  store_preserved : (i : Instr) (k : Configuration) (store : Store) (middle : List ValType) → IsStoring i → Takes (rule C i) (map type_of k.operands) middle → map type_of k.locals ≡ C.locals → IsTypedStore m store
      → IsPreserved m C i (map type_of k.operands) middle (plain (module_tree m) limits i (state k store))
  store_preserved i k store middle h takes locals stored =
      let w = takes_width i in
      let (fits, is) = store_rule C i h in
      let r : Rule = Fixed (integer_type w ∷ type.I32 ∷ []) [] in
      let a = allowed C.defined.memories fits r (map type_of k.operands) middle (subst (λ (z : Rule). Takes z (map type_of k.operands) middle) is takes) in
      let (below, before, after) = a.takes in
      let (t, types) = pair_typed w k.operands below before in
      subst (λ (e : Signal). IsPreserved m C i (map type_of k.operands) middle e) (sym (store_means (module_tree m) limits i k store h t))
      (write_as (lies_within store (t.base + address_offset i) (byte_len (access_width i))) i (map type_of k.operands) middle t.rest (t.base + address_offset i)
      (to_le_bytes (access_width i) (stored_as i t.n)) (state k store) (types ∙ sym after)
      (counted_by (rule C i) (integer_type w ∷ type.I32 ∷ []) [] below (map type_of k.operands) middle (is ∙ a.is) before after) locals stored)

  grow_as : (b : Bool) (ts middle below : List ValType) (vs : List Val) (x y : ℕ) (bytes : List ℕ) (s : State) → middle ≡ type.I32 ∷ below → map type_of vs ≡ below → height (rule C instr.MemoryGrow) (length ts) ≡ length middle
      → map type_of s.locals ≡ C.locals → IsTypedStore m s.store
      → IsPreserved m C instr.MemoryGrow ts middle (if b then with_operands (val.I32 x ∷ vs) s else Next (record s { operands = val.I32 y ∷ vs; store = record s.store { memory = bytes } }))
  grow_as true ts middle below vs x y bytes s e types counted locals stored =
      record { types = ap (λ (l : List ValType). type.I32 ∷ l) types ∙ sym e; counted = counted; locals = locals; stored = stored }
  grow_as false ts middle below vs x y bytes s e types counted locals stored =
      record { types = ap (λ (l : List ValType). type.I32 ∷ l) types ∙ sym e; counted = counted; locals = locals; stored = record { globals = stored.globals; table = stored.table } }

  grow_preserved : (k : Configuration) (store : Store) (middle : List ValType) → Takes (rule C instr.MemoryGrow) (map type_of k.operands) middle → map type_of k.locals ≡ C.locals → IsTypedStore m store
      → IsPreserved m C instr.MemoryGrow (map type_of k.operands) middle (plain (module_tree m) limits instr.MemoryGrow (state k store))
  grow_preserved k store middle takes locals stored =
      let r : Rule = Fixed (type.I32 ∷ []) (type.I32 ∷ []) in
      let a = memory_there C.defined.memories r (map type_of k.operands) middle takes in
      let (below, before, after) = a.takes in
      let (t, types) = single_typed W32 k.operands below before in
      subst (λ (e : Signal). IsPreserved m C instr.MemoryGrow (map type_of k.operands) middle e) (sym (grow_means (module_tree m) limits k store t))
      (grow_as (nat_lt (most_pages (module_tree m).memories limits.pages) (pages_of store + t.n)) (map type_of k.operands) middle below t.rest _ _ _ (state k store) after types
      (counted_by (rule C instr.MemoryGrow) (type.I32 ∷ []) (type.I32 ∷ []) below (map type_of k.operands) middle a.is before after) locals stored)

  copy_preserved : (k : Configuration) (store : Store) (middle : List ValType) → Takes (rule C instr.MemoryCopy) (map type_of k.operands) middle → map type_of k.locals ≡ C.locals → IsTypedStore m store
      → IsPreserved m C instr.MemoryCopy (map type_of k.operands) middle (plain (module_tree m) limits instr.MemoryCopy (state k store))
  copy_preserved k store middle takes locals stored =
      let r : Rule = Fixed (type.I32 ∷ type.I32 ∷ type.I32 ∷ []) [] in
      let a = memory_there C.defined.memories r (map type_of k.operands) middle takes in
      let (below, before, after) = a.takes in
      let (t, types) = three_typed k.operands below before in
      subst (λ (e : Signal). IsPreserved m C instr.MemoryCopy (map type_of k.operands) middle e) (sym (copy_means (module_tree m) limits k store t))
      (write_as (lies_within store t.first t.third && lies_within store t.second t.third) instr.MemoryCopy (map type_of k.operands) middle t.rest t.first
      (take t.third (drop t.second store.memory)) (state k store) (types ∙ sym after)
      (counted_by (rule C instr.MemoryCopy) (type.I32 ∷ type.I32 ∷ type.I32 ∷ []) [] below (map type_of k.operands) middle a.is before after) locals stored)

  fill_preserved : (k : Configuration) (store : Store) (middle : List ValType) → Takes (rule C instr.MemoryFill) (map type_of k.operands) middle → map type_of k.locals ≡ C.locals → IsTypedStore m store
      → IsPreserved m C instr.MemoryFill (map type_of k.operands) middle (plain (module_tree m) limits instr.MemoryFill (state k store))
  fill_preserved k store middle takes locals stored =
      let r : Rule = Fixed (type.I32 ∷ type.I32 ∷ type.I32 ∷ []) [] in
      let a = memory_there C.defined.memories r (map type_of k.operands) middle takes in
      let (below, before, after) = a.takes in
      let (t, types) = three_typed k.operands below before in
      subst (λ (e : Signal). IsPreserved m C instr.MemoryFill (map type_of k.operands) middle e) (sym (fill_means (module_tree m) limits k store t))
      (write_as (lies_within store t.first t.third) instr.MemoryFill (map type_of k.operands) middle t.rest t.first
      (replicate t.third (wrap 8 t.second)) (state k store) (types ∙ sym after)
      (counted_by (rule C instr.MemoryFill) (type.I32 ∷ type.I32 ∷ type.I32 ∷ []) [] below (map type_of k.operands) middle a.is before after) locals stored)

  -- ---- all of them

  nop_preserved : (k : Configuration) (store : Store) (middle : List ValType) → Takes (rule C instr.Nop) (map type_of k.operands) middle → map type_of k.locals ≡ C.locals → IsTypedStore m store
      → IsPreserved m C instr.Nop (map type_of k.operands) middle (plain (module_tree m) limits instr.Nop (state k store))
  nop_preserved k store middle (below, before, after) locals stored = record { types = before ∙ sym after; counted = omega (arith, ap length before, ap length after); locals = locals; stored = stored }

  pub plain_preserved : (i : Instr) (k : Configuration) (store : Store) (middle : List ValType) → jumps i ≡ false → Takes (rule C i) (map type_of k.operands) middle → map type_of k.locals ≡ C.locals → IsTypedStore m store
      → IsPreserved m C i (map type_of k.operands) middle (plain (module_tree m) limits i (state k store))
  plain_preserved instr.Unreachable k store middle stays h l s = tt
  plain_preserved instr.Nop k store middle stays h l s = nop_preserved k store middle h l s
  plain_preserved instr.Drop k store middle stays h l s = drop_preserved k store middle h l s
  plain_preserved instr.Select k store middle stays h l s = select_preserved k store middle h l s
  plain_preserved (instr.LocalGet x) k store middle stays h l s = push_preserved (instr.LocalGet x) (state k store) middle (local_pushes x k store middle l h) h l s
  plain_preserved (instr.LocalSet x) k store middle stays h l s = local_set_as x k store (slice_get C.locals x) middle refl h l s
  plain_preserved (instr.LocalTee x) k store middle stays h l s = local_tee_as x k store (slice_get C.locals x) middle refl h l s
  plain_preserved (instr.GlobalGet x) k store middle stays h l s = push_preserved (instr.GlobalGet x) (state k store) middle (global_pushes x k store middle s h).pushes h l s
  plain_preserved (instr.GlobalSet x) k store middle stays h l s = (global_set_as x k store (global_type C.defined x) middle refl h l s).0
  plain_preserved (instr.Load w a) k store middle stays h l s = load_preserved (instr.Load w a) k store middle tt h l s
  plain_preserved (instr.LoadPacked w p e a) k store middle stays h l s = load_preserved (instr.LoadPacked w p e a) k store middle tt h l s
  plain_preserved (instr.Store w a) k store middle stays h l s = store_preserved (instr.Store w a) k store middle tt h l s
  plain_preserved (instr.StorePacked w p a) k store middle stays h l s = store_preserved (instr.StorePacked w p a) k store middle tt h l s
  plain_preserved instr.MemorySize k store middle stays h l s = push_preserved instr.MemorySize (state k store) middle (size_pushes (state k store) (map type_of k.operands) middle h) h l s
  plain_preserved instr.MemoryGrow k store middle stays h l s = grow_preserved k store middle h l s
  plain_preserved instr.MemoryCopy k store middle stays h l s = copy_preserved k store middle h l s
  plain_preserved instr.MemoryFill k store middle stays h l s = fill_preserved k store middle h l s
  plain_preserved (instr.Const v) k store middle stays h l s = push_preserved (instr.Const v) (state k store) middle (const_pushes v (state k store)) h l s
  plain_preserved (instr.Eqz w) k store middle stays h l s = one_preserved (instr.Eqz w) k store middle tt h l s
  plain_preserved (instr.Unary w o) k store middle stays h l s = one_preserved (instr.Unary w o) k store middle tt h l s
  plain_preserved instr.Wrap k store middle stays h l s = one_preserved instr.Wrap k store middle tt h l s
  plain_preserved (instr.Extend e) k store middle stays h l s = one_preserved (instr.Extend e) k store middle tt h l s
  plain_preserved (instr.Compare w o) k store middle stays h l s = two_preserved (instr.Compare w o) k store middle tt h l s
  plain_preserved (instr.Binary w o) k store middle stays h l s = two_preserved (instr.Binary w o) k store middle tt h l s
  plain_preserved instr.Float k store middle stays h l s = absurd h
  plain_preserved _ k store middle stays h l s = absurd (cc (stays))

  -- a global is there to be set
  pub global_there : (x : ℕ) (k : Configuration) (store : Store) (middle : List ValType) → Takes (rule C (instr.GlobalSet x)) (map type_of k.operands) middle → map type_of k.locals ≡ C.locals → IsTypedStore m store → x < length store.globals
  global_there x k store middle h l s = (global_set_as x k store (global_type C.defined x) middle refl h l s).1
